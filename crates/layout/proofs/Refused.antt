-- Where a reading refuses, the bytes taken show the fault that its number names, and its place is the fault's: one walk over the layout, which
-- carries the bytes read so far.
use Prim.Native.Nat.{ℕ, zero, suc, ◌+◌, ◌-◌, ◌^◌, ◌<◌, ◌≤◌}
use mathlib.Core.Path.{◌≡◌, refl, sym, ◌∙◌, ap, ap₂, subst}
use mathlib.Core.Bool.{Bool, true, false, cond, ◌&&◌, ◌||◌}
use mathlib.Core.List.{List, [], ◌∷◌, ◌++◌, append_assoc, append-nil}
use native.Mathlib.Omega.{arith}
use lib.Dec.{leb, eqb}
use lib.ListN.{length, get_or, take, drop, length-append, get_or-append}
use lib.Seq.{take-add, take_at, length-take-le, get_or-append_seam}
use borrow.Author.Tests.{leb-true, leb-false, eqb-true, eqb-false}
use Rattle.layout.specs.Number.{Order, little, big, value, Bytes}
use Rattle.layout.specs.Layout.{Layout, number, opaque, enter, refuse, accept, refused, Reading, Entry, Hidden, txid, blinding_nonce, entropy, asset_part, nonce_part, commitment_part, script_body, proof_body, item_body, run}
use Rattle.layout.specs.Transaction.{Head, Room, limit, within, further_at, opaque_at, announced, least, compact_at, count_at, body_at, value_at, prefixed_at, each, alone, flag_bit, asset_prefix, nonce_prefix, Seen, seen, issuance_at, input_at, output_at, item_at, stack_at, input_witness_at, output_witness_at, transaction}
use Rattle.layout.specs.Outcome.{Sizes, room_of, partial}
use Rattle.layout.specs.Contents.{compact_bytes}
use Rattle.layout.specs.Refusals.{Ends, Left, inputs, outputs, items, fixed_width, listed_value, listed_asset, listed_nonce, Refusal, fixed_past, further_past, body_past, not_shortest, too_many, not_listed, null_issuance, flag_above, all_empty}
use Rattle.layout.proofs.Number.{bytes_take, bytes_drop, bytes_value, value_small}
use Rattle.layout.proofs.Reading.{by_cases, field_run, field_case, refused_not_more, refused_not_finished}
use Rattle.layout.proofs.Outpoint.{true_not_false}
use Rattle.layout.proofs.Compact.{compact_form, short_form, compact_some}
use Rattle.layout.proofs.Judging.{and_true}

module _ (room : Room) where
  -- What is read behind these bytes refuses rightly.
  abbrev Rightly : List ℕ → List ℕ → Reading Head → Type 0
  Rightly front xs r = (n p : ℕ) → r.answer ≡ refused n p → Refusal room n p (front ++ take r.taken xs)

  pub record Says (front : List ℕ) (l : Layout Head) : Type 0 where
    pub rightly : (xs : List ℕ) → Bytes xs → Rightly front xs (run l xs)

  -- ---- the five cases of a layout

  field_says : (front : List ℕ) (w : ℕ) (xs : List ℕ) (r : Reading Head) → (w ≤ length xs → Rightly (front ++ take w xs) (drop w xs) r) → Rightly front xs (field_run w xs r)
  field_says front w xs r f =
      field_case (Rightly front xs) w xs r
      (λ there n p e. subst (Refusal room n p) (append_assoc front (take w xs) (take r.taken (drop w xs)) ∙ ap (λ (l : List ℕ). front ++ l) (sym (take-add w r.taken xs))) (f there n p e))
      (λ short n p e. absurd (refused_not_more (sym e)))

  module _ {front : List ℕ} where
    number_says : {o : Order} {w : ℕ} {k : ℕ → Layout Head} → ((bs : List ℕ) → length bs ≡ w → Bytes bs → Says (front ++ bs) (k (value o bs))) → Says front (number o w k)
    unfolding run
    number_says {o} {w} {k} f = record { rightly = λ xs q. field_says front w xs _ (λ there. (f (take w xs) (length-take-le w xs there) (bytes_take w xs q)).rightly (drop w xs) (bytes_drop w xs q)) }

    opaque_says : {h : Hidden} {w : ℕ} {l : Layout Head} → ((bs : List ℕ) → length bs ≡ w → Says (front ++ bs) l) → Says front (opaque h w l)
    unfolding run
    opaque_says {h} {w} {l} f = record { rightly = λ xs q. field_says front w xs _ (λ there. (f (take w xs) (length-take-le w xs there)).rightly (drop w xs) (bytes_drop w xs q)) }

    enter_says : {e : Entry} {l : Layout Head} → Says front l → Says front (enter e l)
    unfolding run
    enter_says s = record { rightly = λ xs q n p e. s.rightly xs q n p e }

    stop : {n p : ℕ} → Refusal room n p front → Says front (refuse n p)
    unfolding run
    stop {n} {p} r =
        record {
          rightly = λ xs q m s e.
              let a : n ≡ m = cc in
              let b : p ≡ s = cc in
              subst (λ (k : ℕ). Refusal room k s (front ++ take 0 xs)) a (subst (λ (k : ℕ). Refusal room n k (front ++ take 0 xs)) b (subst (Refusal room n p) (sym (append-nil front)) r));
        }

    close : {h : Head} → Says front (accept h)
    unfolding run
    close = record { rightly = λ xs q n p e. absurd (refused_not_finished (sym e)) }

    cond_says : (t : Bool) {l m : Layout Head} → (t ≡ true → Says front l) → (t ≡ false → Says front m) → Says front (cond t l m)
    cond_says true f g = f refl
    cond_says false f g = g refl

  -- ---- a fixed field, a count, a body; `Keeps` is what the bytes so far keep when more follow

  one_byte : (bs : List ℕ) → length bs ≡ 1 → bs ≡ value little bs ∷ []
  unfolding value
  one_byte [] e = absurd (omega arith)
  one_byte (b ∷ []) e = ap (λ (n : ℕ). n ∷ []) (omega arith)
  one_byte (b ∷ c ∷ bs) e = absurd (omega arith)

  first_byte_lem : (bs : List ℕ) → length bs ≡ 1 → Bytes bs → value little bs < 256
  unfolding value
  first_byte_lem [] e q = omega arith
  first_byte_lem (b ∷ []) e q = omega (arith, q 0)
  first_byte_lem (b ∷ c ∷ bs) e q = absurd (omega arith)

  -- the bytes of a count or length in shortest form, from its first byte and the further ones
  formed : (bs ds : List ℕ) → length bs ≡ 1 → Bytes bs → 252 < value little bs → length ds ≡ announced (value little bs) → Bytes ds → least (announced (value little bs)) ≤ value little ds → compact_bytes (value little ds) ≡ bs ++ ds
  formed bs ds e q above long q' at_least_lem =
      let first = value little bs in
      let w = announced first in
      compact_form first (value little ds) above (first_byte_lem bs e q) at_least_lem (subst (λ (l : List ℕ). value little l < 256 ^ w) (take_all w ds long) (value_small little w ds q'))
      ∙ ap (λ (l : List ℕ). first ∷ l) (bytes_value little w ds q' long)
      ∙ ap (λ (l : List ℕ). l ++ ds) (sym (one_byte bs e))
    where
      take_all : (w : ℕ) (l : List ℕ) → length l ≡ w → take w l ≡ l
      take_all w l e = ap (take w) (sym (append-nil l)) ∙ take_at l [] w e

  -- a prefix that one of the three lists lacks
  abbrev Unlisted : ℕ → Type 0
  Unlisted p = (listed_value p && listed_asset p && listed_nonce p) ≡ false

  four_false : (a b c d : Bool) → a ≡ false → b ≡ false → (c || d) ≡ false → (a || b || c || d) ≡ false
  four_false true b c d e f g = absurd (true_not_false e)
  four_false false true c d e f g = absurd (true_not_false f)
  four_false false false c d e f g = g

  three_false : (a b c d : Bool) → a ≡ false → (b || c || d) ≡ false → (a || b || c || d) ≡ false
  three_false true b c d e f = absurd (true_not_false e)
  three_false false b c d e f = f

  all_three : (a b c : Bool) → (a && b && c) ≡ true → (a ≡ true) × (b ≡ true) × (c ≡ true)
  all_three a b c e = let u = and_true (a && b) c e in let v = and_true a b u.0 in (v.0, v.1, u.1)

  one_lacks : (a b c : Bool) → ((a ≡ true) × (b ≡ true) × (c ≡ true) → ⊥) → (a && b && c) ≡ false
  one_lacks a b c h = by_cases (a && b && c) (λ e. absurd (h (all_three a b c e))) (λ e. e)

  no_value : (p : ℕ) → eqb p 0 ≡ false → eqb p 1 ≡ false → (eqb p 8 || eqb p 9) ≡ false → Unlisted p
  no_value p e f g = one_lacks (listed_value p) (listed_asset p) (listed_nonce p) (λ h. true_not_false (sym h.0 ∙ four_false (eqb p 0) (eqb p 1) (eqb p 8) (eqb p 9) e f g))

  no_asset : (p : ℕ) → eqb p 0 ≡ false → asset_prefix p ≡ false → Unlisted p
  no_asset p e f = one_lacks (listed_value p) (listed_asset p) (listed_nonce p) (λ h. true_not_false (sym h.1 ∙ three_false (eqb p 0) (eqb p 1) (eqb p 10) (eqb p 11) e f))

  no_nonce : (p : ℕ) → eqb p 0 ≡ false → nonce_prefix p ≡ false → Unlisted p
  no_nonce p e f = one_lacks (listed_value p) (listed_asset p) (listed_nonce p) (λ h. true_not_false (sym h.2 ∙ three_false (eqb p 0) (eqb p 1) (eqb p 2) (eqb p 3) e f))

  module _ (Keeps : List ℕ → Type 0) (grows : (xs ys : List ℕ) → Keeps xs → Keeps (xs ++ ys)) where
    -- whatever bytes lead to a position, the layout refuses rightly behind them
    abbrev Stands : ℕ → Layout Head → Type 0
    Stands at l = (front : List ℕ) → Keeps front → length front ≡ at → Says front l

    within_says : {front : List ℕ} (place end : ℕ) (l : Layout Head) → (limit < end → Refusal room 2 place front) → Says front l → Says front (within place end l)
    unfolding within
    within_says place end l past s = cond_says (leb end limit) (λ _. s) (λ t. stop (past (leb-false end limit t)))

    module _ (front : List ℕ) (keeps : Keeps front) where
      abbrev Onward : ℕ → ℕ → (List ℕ → Layout Head) → Type 0
      Onward at w k = (bs : List ℕ) → Keeps (front ++ bs) → length bs ≡ w → Bytes bs → length (front ++ bs) ≡ at + w → Says (front ++ bs) (k bs)

      further_says : (place at : ℕ) → length front ≡ at → (o : Order) (w : ℕ) (k : ℕ → ℕ → Layout Head) → (limit < at + w → Refusal room 2 place front) → Onward at w (λ bs. k (value o bs) (at + w)) → Says front (further_at place at o w k)
      unfolding further_at
      further_says place at e o w k past f =
          within_says place (at + w) _ past (number_says λ bs long q. f bs (grows front bs keeps) long q (length-append front bs ∙ ap₂ ◌+◌ e long))

      fixed_says : (at : ℕ) → length front ≡ at → (o : Order) (w : ℕ) (k : ℕ → ℕ → Layout Head) → fixed_width w ≡ true → Onward at w (λ bs. k (value o bs) (at + w)) → Says front (further_at at at o w k)
      fixed_says at e o w k fixed f = further_says at at e o w k (λ past. fixed_past w refl (sym e) fixed (omega arith)) f

      hidden_says : (at : ℕ) → length front ≡ at → (h : Hidden) (k : ℕ → Layout Head) → ((bs : List ℕ) → Keeps (front ++ bs) → length bs ≡ 32 → length (front ++ bs) ≡ at + 32 → Says (front ++ bs) (k (at + 32))) → Says front (opaque_at at h 32 k)
      unfolding opaque_at
      hidden_says at e h k f =
          within_says at (at + 32) _ (λ past. fixed_past 32 refl (sym e) refl (omega arith))
          (opaque_says λ bs long. f bs (grows front bs keeps) long (length-append front bs ∙ ap₂ ◌+◌ e long))

      ends : {at : ℕ} (part : List ℕ) → length front ≡ at → Ends at (front ++ part) part
      ends part e = record { front = front; long = e; same = refl }

    -- what follows a count or length
    abbrev Follows : List ℕ → (ℕ → ℕ → Layout Head) → Type 0
    Follows front k = (n at' : ℕ) → Keeps (front ++ compact_bytes n) → length (front ++ compact_bytes n) ≡ at' → Says (front ++ compact_bytes n) (k n at')

    compact_says : (front : List ℕ) → Keeps front → (at : ℕ) → length front ≡ at → (k : ℕ → ℕ → Layout Head) → Follows front k → Says front (compact_at at k)
    unfolding compact_at
    compact_says front keeps at e k f =
        fixed_says front keeps at e little 1 _ refl λ bs keeps' long q far.
        let first = value little bs in
        let alone = one_byte bs long in
        cond_says (leb first 252)
        (λ t. let form = alone ∙ sym (short_form first (leb-true first 252 t)) in
        subst (λ (l : List ℕ). Says (front ++ l) (k first (at + 1))) (sym form) (f first (at + 1) (subst (λ (l : List ℕ). Keeps (front ++ l)) form keeps') (sym (ap (λ (l : List ℕ). length (front ++ l)) form) ∙ far)))
        λ t.
        let above = leb-false first 252 t in
        further_says (front ++ bs) keeps' at (at + 1) far little (announced first) _
        (λ past. further_past first refl (subst (λ (l : List ℕ). Ends at (front ++ bs) l) alone (ends front keeps bs e)) above (omega arith)) λ ds keeps'' long' q' both.
        let n = value little ds in
        cond_says (leb (least (announced first)) n)
        (λ u.
        let form : (front ++ bs) ++ ds ≡ front ++ compact_bytes n = append_assoc front bs ds ∙ ap (λ (l : List ℕ). front ++ l) (sym (formed bs ds long q above long' q' (leb-true _ n u))) in
        subst (λ (l : List ℕ). Says l (k n (at + 1 + announced first))) (sym form) (f n (at + 1 + announced first) (subst Keeps form keeps'') (sym (ap (λ (l : List ℕ). length l) form) ∙ both)))
        (λ u.
        stop (not_shortest first ds refl (record { front = front; long = e; same = append_assoc front bs ds ∙ ap (λ (l : List ℕ). front ++ (l ++ ds)) alone }) above long' (leb-false _ n u)))

    count_says : (front : List ℕ) → Keeps front → (at : ℕ) → length front ≡ at → (left : ℕ) (k : ℕ → ℕ → Layout Head) → Left room at left → Follows front k → Says front (count_at at left k)
    unfolding count_at
    count_says front keeps at e left k which f =
        compact_says front keeps at e _ λ n at' keeps' e'.
        cond_says (leb n left) (λ _. f n at' keeps' e') (λ t. stop (too_many n left refl (ends front keeps (compact_bytes n) e) which (leb-false n left t)))

    body_says : (at : ℕ) (h : Hidden) (note : ℕ → ℕ → Entry) (k : ℕ → ℕ → Layout Head) → ((n at' : ℕ) → Stands at' (k n at')) → Stands at (body_at at h note k)
    unfolding body_at
    body_says at h note k f front keeps e =
        compact_says front keeps at e _ λ n at' keeps' e'.
        within_says at (at' + n) _ (λ past. body_past n refl (ends front keeps (compact_bytes n) e) (omega arith))
        (enter_says (opaque_says λ bs long. f n (at' + n) ((front ++ compact_bytes n) ++ bs) (grows (front ++ compact_bytes n) bs keeps') (length-append (front ++ compact_bytes n) bs ∙ ap₂ ◌+◌ e' long)))

    -- ---- prefixes

    -- behind a value: its prefix and, where it is null, no byte more
    abbrev BehindValue : List ℕ → (ℕ → ℕ → Layout Head) → Type 0
    BehindValue front k = (p : ℕ) (bs : List ℕ) (at' : ℕ) → Keeps (front ++ bs) → length (front ++ bs) ≡ at' → (p ≡ 0 → bs ≡ 0 ∷ []) → Says (front ++ bs) (k p at')

    value_says : (front : List ℕ) → Keeps front → (at : ℕ) → length front ≡ at → (note amount : ℕ → ℕ → Entry) (k : ℕ → ℕ → Layout Head) → BehindValue front k → Says front (value_at at note amount k)
    unfolding value_at
    value_says front keeps at e note amount k f =
        fixed_says front keeps at e little 1 _ refl λ bs keeps' long q far.
        let p = value little bs in
        let alone = one_byte bs long in
        enter_says (cond_says (eqb p 0)
        (λ t. f p bs (at + 1) keeps' far (λ z. alone ∙ ap (λ (n : ℕ). n ∷ []) z)) λ t₀.
        let some_prefix : (p ≡ 0 → ⊥) = eqb-false p 0 t₀ in
        cond_says (eqb p 1)
        (λ t. fixed_says (front ++ bs) keeps' (at + 1) far big 8 _ refl λ ds keeps'' long' q' both.
        enter_says (subst (λ (l : List ℕ). Says l (k p (at + 1 + 8))) (sym (append_assoc front bs ds)) (f p (bs ++ ds) (at + 1 + 8) (subst Keeps (append_assoc front bs ds) keeps'') (sym (ap (λ (l : List ℕ). length l) (append_assoc front bs ds)) ∙ both) (λ z. absurd (some_prefix z))))) λ t₁.
        cond_says (eqb p 8 || eqb p 9)
        (λ t. hidden_says (front ++ bs) keeps' (at + 1) far commitment_part _ λ ds keeps'' long' both.
        subst (λ (l : List ℕ). Says l (k p (at + 1 + 32))) (sym (append_assoc front bs ds)) (f p (bs ++ ds) (at + 1 + 32) (subst Keeps (append_assoc front bs ds) keeps'') (sym (ap (λ (l : List ℕ). length l) (append_assoc front bs ds)) ∙ both) (λ z. absurd (some_prefix z))))
        (λ t₂. stop (not_listed p refl (subst (λ (l : List ℕ). Ends at (front ++ bs) l) alone (ends front keeps bs e)) (no_value p t₀ t₁ t₂))))

    token_says : (at : ℕ) (part : Hidden) (listed : ℕ → Bool) (note : ℕ → ℕ → Entry) (k : ℕ → Layout Head) → ((p : ℕ) → eqb p 0 ≡ false → listed p ≡ false → Unlisted p) → ((at' : ℕ) → Stands at' (k at')) → Stands at (prefixed_at at part listed note k)
    unfolding prefixed_at
    token_says at part listed note k lacks f front keeps e =
        fixed_says front keeps at e little 1 _ refl λ bs keeps' long q far.
        let p = value little bs in
        enter_says (cond_says (eqb p 0) (λ _. f (at + 1) (front ++ bs) keeps' far) λ t₀.
        cond_says (listed p)
        (λ _. hidden_says (front ++ bs) keeps' (at + 1) far part _ λ ds keeps'' long' both. f (at + 1 + 32) ((front ++ bs) ++ ds) keeps'' both)
        (λ t₁. stop (not_listed p refl (subst (λ (l : List ℕ). Ends at (front ++ bs) l) (one_byte bs long) (ends front keeps bs e)) (lacks p t₀ t₁))))

    -- ---- records

    each_says : {S : Type 0} (piece : ℕ → S → ℕ → (S → ℕ → Layout Head) → Layout Head) → ((i : ℕ) (s : S) (at : ℕ) (k : S → ℕ → Layout Head) → ((s' : S) (at' : ℕ) → Stands at' (k s' at')) → Stands at (piece i s at k)) → (n i : ℕ) (s : S) (at : ℕ) (k : S → ℕ → Layout Head) → ((s' : S) (at' : ℕ) → Stands at' (k s' at')) → Stands at (each piece n i s at k)
    unfolding each
    each_says piece one zero i s at k f = f s at
    each_says piece one (suc n) i s at k f = one i s at _ λ s' at'. each_says piece one n (suc i) s' at' k f

    issuance_says : (i at : ℕ) (k : ℕ → Layout Head) → ((at' : ℕ) → Stands at' (k at')) → Stands at (issuance_at i at k)
    unfolding issuance_at
    issuance_says i at k f front keeps e =
        hidden_says front keeps at e blinding_nonce _ λ a keeps₁ long₁ e₁.
        enter_says (hidden_says (front ++ a) keeps₁ (at + 32) e₁ entropy _ λ b keeps₂ long₂ e₂.
        value_says ((front ++ a) ++ b) keeps₂ (at + 32 + 32) e₂ _ _ _ λ amount c at₃ keeps₃ e₃ null₃.
        value_says (((front ++ a) ++ b) ++ c) keeps₃ at₃ e₃ _ _ _ λ keys d at₄ keeps₄ e₄ null₄.
        cond_says (eqb amount 0 && eqb keys 0)
        (λ t.
        let both = and_true (eqb amount 0) (eqb keys 0) t in
        let c_null = null₃ (eqb-true amount 0 both.0) in
        let d_null = null₄ (eqb-true keys 0 both.1) in
        let same : (((front ++ a) ++ b) ++ c) ++ d ≡ front ++ ((a ++ b) ++ (0 ∷ 0 ∷ [])) =
        append_assoc ((front ++ a) ++ b) c d ∙ ap₂ (λ (l m : List ℕ). l ++ m) (append_assoc front a b) (ap₂ (λ (l m : List ℕ). l ++ m) c_null d_null) ∙ append_assoc front (a ++ b) (0 ∷ 0 ∷ []) in
        stop (null_issuance (a ++ b) refl (length-append a b ∙ ap₂ ◌+◌ long₁ long₂) (record { front = front; long = e; same = same })))
        (λ _. f at₄ ((((front ++ a) ++ b) ++ c) ++ d) keeps₄ e₄))

    input_says : (i at : ℕ) (k : ℕ → Layout Head) → ((at' : ℕ) → Stands at' (k at')) → Stands at (input_at i at k)
    unfolding input_at
    input_says i at k f front keeps e =
        hidden_says front keeps at e txid _ λ a keeps₁ _ e₁.
        enter_says (fixed_says (front ++ a) keeps₁ (at + 32) e₁ little 4 _ refl λ b keeps₂ _ _ e₂.
        enter_says (body_says (at + 32 + 4) script_body _ _ (λ n at₃ front₃ keeps₃ e₃.
        fixed_says front₃ keeps₃ at₃ e₃ little 4 _ refl λ c keeps₄ _ _ e₄.
        enter_says (cond_says (eqb (flag_bit 31 (value little b)) 1)
        (λ _. issuance_says i (at₃ + 4) k f (front₃ ++ c) keeps₄ e₄)
        (λ _. f (at₃ + 4) (front₃ ++ c) keeps₄ e₄)))
        ((front ++ a) ++ b) keeps₂ e₂))

    output_says : (i at : ℕ) (k : ℕ → Layout Head) → ((at' : ℕ) → Stands at' (k at')) → Stands at (output_at i at k)
    unfolding output_at
    output_says i at k f =
        token_says at asset_part _ _ _ no_asset λ at₁ front₁ keeps₁ e₁.
        value_says front₁ keeps₁ at₁ e₁ _ _ _ λ p bs at₂ keeps₂ e₂ _.
        token_says at₂ nonce_part _ _ _ no_nonce (λ at₃. body_says at₃ script_body _ _ λ n. f) (front₁ ++ bs) keeps₂ e₂

    stack_says : (first at : ℕ) (note : ℕ → Entry) (k : ℕ → ℕ → Layout Head) → ((n at' : ℕ) → Stands at' (k n at')) → Stands at (stack_at room.items first at note k)
    unfolding stack_at item_at
    stack_says first at note k f front keeps e =
        count_says front keeps at e (room.items - first) _ (items first refl) λ n at₁ keeps₁ e₁.
        enter_says (each_says (alone item_at) (λ j s at k g. body_says at item_body _ _ λ m. g tt) n first tt at₁ _ (λ s. f n) (front ++ compact_bytes n) keeps₁ e₁)

    input_witness_says : (i : ℕ) (s : Seen) (at : ℕ) (k : Seen → ℕ → Layout Head) → ((s' : Seen) (at' : ℕ) → Stands at' (k s' at')) → Stands at (input_witness_at room.items i s at k)
    unfolding input_witness_at
    input_witness_says i s at k f =
        body_says at proof_body _ _ λ amount at₁.
        body_says at₁ proof_body _ _ λ keys at₂.
        stack_says s.items at₂ _ _ λ script at₃.
        stack_says (s.items + script) at₃ _ _ λ pegin at₄.
        f _ at₄

    output_witness_says : (i : ℕ) (s : Seen) (at : ℕ) (k : Seen → ℕ → Layout Head) → ((s' : Seen) (at' : ℕ) → Stands at' (k s' at')) → Stands at (output_witness_at i s at k)
    unfolding output_witness_at
    output_witness_says i s at k f = body_says at proof_body _ _ λ surjection at₁. body_says at₁ proof_body _ _ λ range at₂. f _ at₂

  -- ---- all of it

  -- the flag is byte 4, and so many bytes are there at least
  pub record Flagged (flag m : ℕ) (front : List ℕ) : Type 0 where
    pub byte : get_or front 4 0 ≡ flag
    pub five : 5 ≤ m
    pub least_there : m ≤ length front

  flag_stays : (flag m : ℕ) (xs ys : List ℕ) → Flagged flag m xs → Flagged flag m (xs ++ ys)
  flag_stays flag m xs ys f =
      record { byte = get_or-append xs ys 0 4 (omega (arith, f.five, f.least_there)) ∙ f.byte; five = f.five; least_there = omega (arith, f.least_there, length-append xs ys) }

  -- behind a count there is a byte more
  counted : (flag m n : ℕ) (front : List ℕ) → Flagged flag m front → Flagged flag (m + 1) (front ++ compact_bytes n)
  counted flag m n front f =
      let g = flag_stays flag m front (compact_bytes n) f in
      record { byte = g.byte; five = omega (arith, f.five); least_there = omega (arith, f.least_there, compact_some n, length-append front (compact_bytes n)) }

  anything : (xs ys : List ℕ) → Unit {0} → Unit {0}
  anything xs ys t = tt

  transaction_says : Says [] (transaction room)
  unfolding transaction
  transaction_says =
      fixed_says (λ _. Unit {0}) anything [] tt 0 refl little 4 _ refl λ a _ long₁ _ e₁.
      fixed_says (λ _. Unit {0}) anything a tt 4 e₁ little 1 _ refl λ b _ long₂ _ e₂.
      let flag = value little b in
      let start : Flagged flag 5 (a ++ b) =
      record { byte = ap (λ (n : ℕ). get_or (a ++ b) n 0) (sym long₁) ∙ ap (λ (l : List ℕ). get_or (a ++ l) (length a) 0) (one_byte b long₂) ∙ get_or-append_seam a flag [] 0; five = omega arith; least_there = omega (arith, e₂) } in
      count_says (Flagged flag 5) (flag_stays flag 5) (a ++ b) start 5 e₂ room.inputs _ (inputs refl refl) λ ins at₃ k₃ e₃.
      each_says (Flagged flag 6) (flag_stays flag 6) (alone input_at) (λ i s at k f. input_says (Flagged flag 6) (flag_stays flag 6) i at (k tt) (f tt)) ins 0 tt at₃ _
      (λ _ at₄ front₄ k₄ e₄.
      count_says (Flagged flag 6) (flag_stays flag 6) front₄ k₄ at₄ e₄ room.outputs _ (outputs refl) λ outs at₅ k₅ e₅.
      each_says (Flagged flag 7) (flag_stays flag 7) (alone output_at) (λ i s at k f. output_says (Flagged flag 7) (flag_stays flag 7) i at (k tt) (f tt)) outs 0 tt at₅ _
      (λ _ at₆ front₆ k₆ e₆.
      fixed_says (Flagged flag 7) (flag_stays flag 7) front₆ k₆ at₆ e₆ little 4 _ refl λ c k₇ long₇ _ e₇.
      let eleven : 11 ≤ length (front₆ ++ c) = omega (arith, k₆.least_there) in
      cond_says (eqb flag 0) (λ _. close) λ f₀.
      cond_says (eqb flag 1)
      (λ f₁.
      let k₈ : Flagged 1 11 (front₆ ++ c) = record { byte = k₇.byte ∙ eqb-true flag 1 f₁; five = omega arith; least_there = eleven } in
      each_says (Flagged 1 11) (flag_stays 1 11) (input_witness_at room.items) (input_witness_says (Flagged 1 11) (flag_stays 1 11)) ins 0 (seen 0 true) (at₆ + 4) _
      (λ s₁ at₈. each_says (Flagged 1 11) (flag_stays 1 11) output_witness_at (output_witness_says (Flagged 1 11) (flag_stays 1 11)) outs 0 s₁ at₈ _
      λ s₂ at₉ front₉ k₉ e₉.
      cond_says s₂.empty (λ _. stop (all_empty refl refl k₉.byte k₉.least_there)) (λ _. close))
      (front₆ ++ c) k₈ e₇)
      (λ f₁. stop (flag_above refl refl (omega (arith, k₇.byte, eqb-false flag 0 f₀, eqb-false flag 1 f₁)) eleven)))
      (front₄ ++ compact_bytes outs) (counted flag 6 outs front₄ k₄) e₅)
      ((a ++ b) ++ compact_bytes ins) (counted flag 5 ins (a ++ b) start) e₃

-- Where 01's reading refuses, the bytes taken show it.
pub refusal_shown : (z : Sizes) (xs : List ℕ) → Bytes xs → (n p : ℕ) → (partial z xs).answer ≡ refused n p → Refusal (room_of z) n p (take (partial z xs).taken xs)
refusal_shown z xs q n p e = (transaction_says (room_of z)).rightly xs q n p e
