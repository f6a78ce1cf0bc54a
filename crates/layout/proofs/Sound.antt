-- What every reading of a transaction keeps, whatever the bytes: one walk over the layout.
use Prim.Native.Nat.{ℕ, zero, suc, ◌+◌, ◌-◌, ◌/◌, ◌%◌, ◌^◌, ◌<◌, ◌≤◌}
use mathlib.Core.Path.{◌≡◌, refl, sym, subst}
use mathlib.Core.Bool.{Bool, true, false, cond, ◌&&◌, ◌||◌}
use mathlib.Core.List.{List, [], ◌∷◌}
use native.Mathlib.Omega.{arith}
use lib.Dec.{leb, eqb}
use lib.ListN.{length, get_or, take, drop}
use borrow.Author.Tests.{leb-true}
use Rattle.layout.specs.Number.{Order, little, big, value, Bytes}
use Rattle.layout.specs.Layout.{Layout, number, opaque, enter, refuse, accept, Answer, finished, refused, Reading, Entry, Table, input, output, item, Hidden, txid, blinding_nonce, entropy, asset_part, nonce_part, commitment_part, script_body, proof_body, item_body, run}
use Rattle.layout.specs.Transaction.{Head, Room, limit, entry, within, further_at, opaque_at, announced, least, compact_at, count_at, body_at, value_at, prefixed_at, each, alone, all_ones, flag_bit, vout, flags, Seen, seen, issuance_at, input_at, output_at, item_at, stack_at, input_witness_at, output_witness_at, transaction}
use Rattle.layout.specs.Outcome.{width}
use native.Mathlib.Nat.{add_assoc}
use Rattle.layout.proofs.Reading.{by_cases, field_run, field_case, finished_not_more, refused_not_more}
use Rattle.layout.proofs.Number.{value_small, bytes_drop}

abbrev pub Each : {X : Type 0} → (X → Type 0) → List X → Type 0
Each P [] = Unit {0}
Each P (x ∷ xs) = P x × Each P xs

-- Where that which an entry names ends: a txid, a body, an issuance's blinding nonce and entropy, a prefix and what it announces.
abbrev pub promised : ℕ → ℕ
promised p = cond (eqb p 0) 1 (cond (eqb p 1) 9 33)

abbrev pub ends : Table → ℕ → ℕ → ℕ → ℕ
ends input c a b = cond (eqb c 0) (a + 32) (cond (eqb c 3 || eqb c 13 || eqb c 15) (a + b) (cond (eqb c 6) (a + 64) 0))
ends output c a b = cond (eqb c 0 || eqb c 6) (b + cond (eqb a 0) 1 33) (cond (eqb c 2) (b + promised a) (cond (eqb c 8 || eqb c 10 || eqb c 12) (a + b) 0))
ends item c a b = a + b

abbrev pub end_of : Entry → ℕ
end_of e = ends e.table e.column (get_or e.numbers 0 0) (get_or e.numbers 1 0)

-- An entry stays in its record, and its numbers fit a u32.
pub record Fair (e : Entry) : Type 0 where
  pub fits : e.column + length e.numbers ≤ width e.table
  pub small : Each (λ n. n < 2 ^ 32) e.numbers

-- how many records of each table
pub record Rows : Type 0 where
  pub ins : ℕ
  pub outs : ℕ
  pub its : ℕ

abbrev pub rows : ℕ → ℕ → ℕ → Rows
rows i o n = record { ins = i; outs = o; its = n }

abbrev pub rows_of : Table → Rows → ℕ
rows_of input r = r.ins
rows_of output r = r.outs
rows_of item r = r.its

pub record AtMost (r s : Rows) : Type 0 where
  pub ins : r.ins ≤ s.ins
  pub outs : r.outs ≤ s.outs
  pub its : r.its ≤ s.its

abbrev pub counts : Head → Rows
counts h = rows h.inputs h.outputs h.items

-- `top` is how many records the tables hold.
module _ (top : Rows) where
  -- A layout that stands at a position, and must finish behind so many bytes and with so many records, does: fields end within the
  -- limit, entries are fair, and what each names is reached before the end.
  data Sound : ℕ → Rows → ℕ → Layout Head → Type 0 where
    field : {b : ℕ} {r : Rows} {at : ℕ} {o : Order} {w : ℕ} {k : ℕ → Layout Head} → at + w ≤ limit → ((v : ℕ) → v < 256 ^ w → Sound b r (at + w) (k v)) → Sound b r at (number o w k)
    skip : {b : ℕ} {r : Rows} {at : ℕ} {h : Hidden} {w : ℕ} {l : Layout Head} → at + w ≤ limit → Sound b r (at + w) l → Sound b r at (opaque h w l)
    noting : {b : ℕ} {r : Rows} {at : ℕ} {e : Entry} {l : Layout Head} (c : ℕ) → Fair e → end_of e ≤ c → b ≤ c → e.row < rows_of e.table r → Sound c r at l → Sound b r at (enter e l)
    grow : {b : ℕ} {r : Rows} {at : ℕ} {l : Layout Head} (c : ℕ) (s : Rows) → b ≤ c → AtMost r s → Sound c s at l → Sound b r at l
    stop : {b : ℕ} {r : Rows} {at n p : ℕ} → (2 ≤ n) × (n ≤ 8) × (p ≤ at) → Sound b r at (refuse n p)
    close : {b : ℕ} {r : Rows} {at : ℕ} {h : Head} → b ≤ at → AtMost r (counts h) → AtMost (counts h) top → h.bytes ≡ at → Sound b r at (accept h)

  itself : (r : Rows) → AtMost r r
  itself r = omega arith

  cond_sound : {b : ℕ} {r : Rows} {at : ℕ} (t : Bool) {l m : Layout Head} → (t ≡ true → Sound b r at l) → (t ≡ false → Sound b r at m) → Sound b r at (cond t l m)
  cond_sound true f g = f refl
  cond_sound false f g = g refl

  module _ {b : ℕ} {r : Rows} where
    within_sound : (place at end : ℕ) (l : Layout Head) → place ≤ at → (end ≤ limit → Sound b r at l) → Sound b r at (within place end l)
    unfolding within
    within_sound place at end l before f = cond_sound (leb end limit) (λ t. f (leb-true end limit t)) (λ _. stop (omega arith))

    number_sound : (place at : ℕ) → place ≤ at → (o : Order) (w : ℕ) (k : ℕ → ℕ → Layout Head) → ((v : ℕ) → v < 256 ^ w → at + w ≤ limit → Sound b r (at + w) (k v (at + w))) → Sound b r at (further_at place at o w k)
    unfolding further_at
    number_sound place at before o w k f = within_sound place at (at + w) _ before λ h. field h λ v small. f v small h

    opaque_sound : (at : ℕ) (h : Hidden) (w : ℕ) (k : ℕ → Layout Head) → (at + w ≤ limit → Sound b r (at + w) (k (at + w))) → Sound b r at (opaque_at at h w k)
    unfolding opaque_at
    opaque_sound at h w k f = within_sound at at (at + w) _ (omega arith) λ e. skip e (f e)

  -- what follows a count or length of any value, at any later place
  abbrev Follows : ℕ → Rows → ℕ → (ℕ → ℕ → Layout Head) → Type 0
  Follows b r at k = (n at' : ℕ) → at < at' → at' ≤ limit → Sound b r at' (k n at')

  module _ {b : ℕ} {r : Rows} where
    compact_sound : (at : ℕ) (k : ℕ → ℕ → Layout Head) → Follows b r at k → Sound b r at (compact_at at k)
    unfolding compact_at
    compact_sound at k f =
        number_sound at at (omega arith) little 1 _ λ first _ h.
        cond_sound (leb first 252) (λ _. f first (at + 1) (omega arith) h) λ _.
        number_sound at (at + 1) (omega arith) little (announced first) _ λ n _ h'.
        cond_sound (leb (least (announced first)) n) (λ _. f n (at + 1 + announced first) (omega arith) h') (λ _. stop (omega arith))

    count_sound : (at left : ℕ) (k : ℕ → ℕ → Layout Head) → ((n at' : ℕ) → n ≤ left → at < at' → at' ≤ limit → Sound b r at' (k n at')) → Sound b r at (count_at at left k)
    unfolding count_at
    count_sound at left k f =
        compact_sound at _ λ n at' a h.
        cond_sound (leb n left) (λ t. f n at' (leb-true n left t) a h) (λ _. stop (omega arith))

  -- a piece that needs no more than its own bytes: what follows it stands at its end, with nothing left to reach
  abbrev Goes : Rows → ℕ → (ℕ → Layout Head) → Type 0
  Goes r at k = (at' : ℕ) → at ≤ at' → at' ≤ limit → Sound at' r at' (k at')

  -- an entry of two numbers, such as a body's position and length: fair for numbers that fit, in a row that counts, and naming bytes up to an end
  pub record Pair (r : Rows) (end : ℕ → ℕ → ℕ) (note : ℕ → ℕ → Entry) : Type 0 where
    pub fair : (p n : ℕ) → p < 2 ^ 32 → n < 2 ^ 32 → Fair (note p n)
    pub ends : (p n : ℕ) → end_of (note p n) ≤ end p n
    pub row : (p n : ℕ) → (note p n).row < rows_of (note p n).table r

  pair : (r : Rows) (t : Table) (i c : ℕ) (end : ℕ → ℕ → ℕ) → c + 2 ≤ width t → ((p n : ℕ) → ends t c p n ≤ end p n) → i < rows_of t r → Pair r end (λ p n. entry t i c (p ∷ n ∷ []))
  pair r t i c end fits e row = record { fair = λ p n hp hn. record { fits = fits; small = (hp, (hn, tt)) }; ends = e; row = λ p n. row }

  module _ {r : Rows} where
    body_sound : (at : ℕ) (h : Hidden) (note : ℕ → ℕ → Entry) (k : ℕ → ℕ → Layout Head) → Pair r ◌+◌ note → ((n : ℕ) → Goes r at (k n)) → Sound at r at (body_at at h note k)
    unfolding body_at
    body_sound at h note k q f =
        compact_sound at _ λ n at' a e.
        within_sound at at' (at' + n) _ (omega arith) λ e'.
        noting (at' + n) (q.fair at' n (omega arith) (omega arith)) (q.ends at' n) (omega arith) (q.row at' n)
        (skip e' (f n (at' + n) (omega arith) e'))

    -- nothing more is to be reached than the place itself
    reach : {at b : ℕ} {l : Layout Head} → b ≤ at → Sound at r at l → Sound b r at l
    reach {at = at} h s = grow at r h (itself r) s

    -- a prefix, entered alone or with its position
    value_sound : (at : ℕ) (note amount : ℕ → ℕ → Entry) (k : ℕ → ℕ → Layout Head) → Pair r (λ p at. at + promised p) note → Pair r (λ _ _. 0) amount → ((p : ℕ) → Goes r at (k p)) → Sound at r at (value_at at note amount k)
    unfolding value_at
    value_sound at note amount k q q' f =
        number_sound at at (omega arith) little 1 _ λ p small e.
        noting (at + promised p) (q.fair p at (omega arith) (omega arith)) (q.ends p at) (omega arith) (q.row p at)
        (cond_sound (eqb p 0) (λ t. reach (rw t (omega arith)) (f p (at + 1) (omega arith) e)) λ t₀.
        cond_sound (eqb p 1)
        (λ t. number_sound (at + 1) (at + 1) (omega arith) big 8 _ λ v v_small e'.
        noting (at + 1 + 8) (q'.fair (v / 2 ^ 32) (v % 2 ^ 32) (omega arith) (omega arith)) (grow_zero (q'.ends _ _)) (rw (t₀, t) (omega arith)) (q'.row _ _)
        (f p (at + 1 + 8) (omega arith) e'))
        λ t₁.
        cond_sound (eqb p 8 || eqb p 9)
        (λ _. opaque_sound (at + 1) commitment_part 32 _ λ e'. reach (rw (t₀, t₁) (omega arith)) (f p (at + 1 + 32) (omega arith) e'))
        (λ _. stop (omega arith)))
      where
        grow_zero : {m n : ℕ} → m ≤ 0 → m ≤ n
        grow_zero h = omega arith

    token_sound : (at : ℕ) (part : Hidden) (listed : ℕ → Bool) (note : ℕ → ℕ → Entry) (k : ℕ → Layout Head) → Pair r (λ p at. at + cond (eqb p 0) 1 33) note → Goes r at k → Sound at r at (prefixed_at at part listed note k)
    unfolding prefixed_at
    token_sound at part listed note k q f =
        number_sound at at (omega arith) little 1 _ λ p small e.
        noting (at + cond (eqb p 0) 1 33) (q.fair p at (omega arith) (omega arith)) (q.ends p at) (omega arith) (q.row p at)
        (cond_sound (eqb p 0) (λ t. reach (rw t (omega arith)) (f (at + 1) (omega arith) e)) λ t.
        cond_sound (listed p)
        (λ _. opaque_sound (at + 1) part 32 _ λ e'. reach (rw t (omega arith)) (f (at + 1 + 32) (omega arith) e'))
        (λ _. stop (omega arith)))

  vout_small : (raw : ℕ) → raw < 2 ^ 32 → vout raw < 2 ^ 32
  unfolding vout all_ones
  vout_small raw h = by_cases (eqb raw 0xffff_ffff) (λ t. rw t h) (λ t. rw t (omega arith))

  bit_small : (n raw : ℕ) → flag_bit n raw < 2
  unfolding flag_bit all_ones
  bit_small n raw = by_cases (eqb raw 0xffff_ffff) (λ t. rw t (omega arith)) (λ t. rw t (omega arith))

  flags_small : (raw : ℕ) → flags raw < 4
  unfolding flags
  flags_small raw = omega (arith, bit_small 30 raw, bit_small 31 raw)

  single : (r : Rows) (t : Table) (i c : ℕ) (end : ℕ → ℕ → ℕ) → c + 1 ≤ width t → ((p n : ℕ) → ends t c p 0 ≤ end p n) → i < rows_of t r → Pair r end (λ p _. entry t i c (p ∷ []))
  single r t i c end fits e row = record { fair = λ p n hp hn. record { fits = fits; small = (hp, tt) }; ends = e; row = λ p n. row }

  module _ {r : Rows} where
    -- numbers enter, and all that they name is reached by d
    enter_sound : {b at : ℕ} {l : Layout Head} (t : Table) (i c : ℕ) (ns : List ℕ) (d : ℕ) → c + length ns ≤ width t → Each (λ n. n < 2 ^ 32) ns → end_of (entry t i c ns) ≤ d → b ≤ d → i < rows_of t r → Sound d r at l → Sound b r at (enter (entry t i c ns) l)
    enter_sound t i c ns d fits small e h row s = noting {e = entry t i c ns} d (record { fits = fits; small = small }) e h row s

    issuance_sound : (i at : ℕ) (k : ℕ → Layout Head) → i < r.ins → Goes r at k → Sound at r at (issuance_at i at k)
    unfolding issuance_at
    issuance_sound i at k row f =
        opaque_sound at blinding_nonce 32 _ λ e₁.
        enter_sound input i 6 (at ∷ []) (at + 64) (omega arith) (omega arith, tt) (omega arith) (omega arith) row
        (opaque_sound (at + 32) entropy 32 _ λ e₂.
        reach (omega arith)
        (value_sound (at + 32 + 32) _ _ _
        (single r input i 7 _ (omega arith) (λ p n. omega arith) row)
        (pair r input i 8 _ (omega arith) (λ p n. omega arith) row)
        λ amount at₃ a₃ e₃.
        value_sound at₃ _ _ _
        (single r input i 10 _ (omega arith) (λ p n. omega arith) row)
        (pair r input i 11 _ (omega arith) (λ p n. omega arith) row)
        λ keys at₄ a₄ e₄.
        cond_sound (eqb amount 0 && eqb keys 0) (λ _. stop (omega arith)) (λ _. f at₄ (omega arith) e₄)))

    input_sound : (i at : ℕ) (k : ℕ → Layout Head) → i < r.ins → Goes r at k → Sound at r at (input_at i at k)
    unfolding input_at
    input_sound i at k row f =
        opaque_sound at txid 32 _ λ e₁.
        enter_sound input i 0 (at ∷ []) (at + 32) (omega arith) (omega arith, tt) (omega arith) (omega arith) row
        (number_sound (at + 32) (at + 32) (omega arith) little 4 _ λ raw small e₂.
        enter_sound input i 1 (vout raw ∷ flags raw ∷ []) (at + 32 + 4) (omega arith) (vout_small raw small, (omega (arith, flags_small raw), tt)) (omega arith) (omega arith) row
        (body_sound (at + 32 + 4) script_body _ _ (pair r input i 3 _ (omega arith) (λ p n. omega arith) row) λ n at₃ a₃ e₃.
        number_sound at₃ at₃ (omega arith) little 4 _ λ sequence small' e₄.
        enter_sound input i 5 (sequence ∷ []) (at₃ + 4) (omega arith) (omega arith, tt) (omega arith) (omega arith) row
        (cond_sound (eqb (flag_bit 31 raw) 1)
        (λ _. issuance_sound i (at₃ + 4) k row (λ at' a e. f at' (omega arith) e))
        (λ _. f (at₃ + 4) (omega arith) e₄))))

    output_sound : (i at : ℕ) (k : ℕ → Layout Head) → i < r.outs → Goes r at k → Sound at r at (output_at i at k)
    unfolding output_at
    output_sound i at k row f =
        token_sound at asset_part _ _ _ (pair r output i 0 _ (omega arith) (λ p n. omega arith) row) λ at₁ a₁ e₁.
        value_sound at₁ _ _ _
        (pair r output i 2 _ (omega arith) (λ p n. omega arith) row)
        (pair r output i 4 _ (omega arith) (λ p n. omega arith) row)
        λ p at₂ a₂ e₂.
        token_sound at₂ nonce_part _ _ _ (pair r output i 6 _ (omega arith) (λ p n. omega arith) row) λ at₃ a₃ e₃.
        body_sound at₃ script_body _ _ (pair r output i 8 _ (omega arith) (λ p n. omega arith) row) λ n at₄ a₄ e₄.
        f at₄ (omega arith) e₄

  -- So many records: what outlasts a record decides what has to be reached.
  abbrev GoesBy : {S : Type 0} → (S → Rows) → (S → Type 0) → ℕ → (S → ℕ → Layout Head) → Type 0
  GoesBy {S} rows_by Kept at k = (s' : S) → Kept s' → Goes (rows_by s') at (k s')

  module _ {S : Type 0} (rows_by : S → Rows) (Kept : S → Type 0) (piece : ℕ → S → ℕ → (S → ℕ → Layout Head) → Layout Head) where
    each_sound : (last : ℕ) → ((i : ℕ) (s : S) (at : ℕ) (k : S → ℕ → Layout Head) → i < last → Kept s → at ≤ limit → GoesBy rows_by Kept at k → Sound at (rows_by s) at (piece i s at k)) → (n i : ℕ) (s : S) (at : ℕ) (k : S → ℕ → Layout Head) → i + n ≤ last → Kept s → at ≤ limit → GoesBy rows_by Kept at k → Sound at (rows_by s) at (each piece n i s at k)
    unfolding each
    each_sound last one zero i s at k h q e f = f s q at (omega arith) e
    each_sound last one (suc n) i s at k h q e f =
        one i s at _ (omega arith) q e λ s' q' at' a e'.
        each_sound last one n (suc i) s' at' k (omega arith) q' e' λ s'' q'' at'' a'' e''. f s'' q'' at'' (omega arith) e''

  at_most : {r s : Rows} → r.ins ≤ s.ins → r.outs ≤ s.outs → r.its ≤ s.its → AtMost r s
  at_most i o n = record { ins = i; outs = o; its = n }

  module _ (ins outs room : ℕ) (small : room < 2 ^ 32) where
    -- the items of a stack count from its first on, so the item table has to hold that many more
    stack_sound : (first at : ℕ) (note : ℕ → Entry) (k : ℕ → ℕ → Layout Head) → first ≤ room → at ≤ limit → Pair (rows ins outs first) (λ _ _. 0) (λ n _. note n) → ((n : ℕ) → first + n ≤ room → Goes (rows ins outs (first + n)) at (k n)) → Sound at (rows ins outs first) at (stack_at room first at note k)
    unfolding stack_at item_at
    stack_sound first at note k h e q f =
        count_sound at (room - first) _ λ n at₁ less a₁ e₁.
        noting at₁ (q.fair n 0 (omega arith) (omega arith)) (omega (arith, q.ends n 0)) (omega arith) (q.row n 0)
        (grow at₁ (rows ins outs (first + n)) (omega arith) (omega arith)
        (each_sound (λ _. rows ins outs (first + n)) (λ _. Unit {0}) (alone item_at) (first + n)
        (λ j s at k row _ e f. body_sound at item_body _ _ (pair (rows ins outs (first + n)) item j 0 _ (omega arith) (λ p m. omega arith) row) λ m at' a e'. f tt tt at' (omega arith) e')
        n first tt at₁ _ (omega arith) tt e₁ λ _ _ at₂ a₂ e₂. f n (omega arith) at₂ (omega arith) e₂))

    -- what has to be reached for the items so far
    abbrev by_seen : Seen → Rows
    by_seen s = rows ins outs s.items

    abbrev SeenKept : Seen → Type 0
    SeenKept s = s.items ≤ room

    input_witness_sound : (i : ℕ) (s : Seen) (at : ℕ) (k : Seen → ℕ → Layout Head) → i < ins → SeenKept s → at ≤ limit → GoesBy by_seen SeenKept at k → Sound at (by_seen s) at (input_witness_at room i s at k)
    unfolding input_witness_at
    input_witness_sound i s at k row q e f =
        body_sound at proof_body _ _ (pair (by_seen s) input i 13 _ (omega arith) (λ p n. omega arith) row) λ amount at₁ a₁ e₁.
        body_sound at₁ proof_body _ _ (pair (by_seen s) input i 15 _ (omega arith) (λ p n. omega arith) row) λ keys at₂ a₂ e₂.
        stack_sound s.items at₂ _ _ q e₂ (record { fair = λ n _ h _. record { fits = omega arith; small = (omega arith, (h, tt)) }; ends = λ n _. omega arith; row = λ n _. row }) λ script h₃ at₃ a₃ e₃.
        stack_sound (s.items + script) at₃ _ _ h₃ e₃ (single (rows ins outs (s.items + script)) input i 19 _ (omega arith) (λ p n. omega arith) row) λ pegin h₄ at₄ a₄ e₄.
        f _ h₄ at₄ (omega arith) e₄

    output_witness_sound : (i : ℕ) (s : Seen) (at : ℕ) (k : Seen → ℕ → Layout Head) → i < outs → SeenKept s → at ≤ limit → GoesBy by_seen SeenKept at k → Sound at (by_seen s) at (output_witness_at i s at k)
    unfolding output_witness_at
    output_witness_sound i s at k row q e f =
        body_sound at proof_body _ _ (pair (by_seen s) output i 10 _ (omega arith) (λ p n. omega arith) row) λ surjection at₁ a₁ e₁.
        body_sound at₁ proof_body _ _ (pair (by_seen s) output i 12 _ (omega arith) (λ p n. omega arith) row) λ range at₂ a₂ e₂.
        f _ q at₂ (omega arith) e₂

  -- All of it. Counts become records to reach as soon as they are read.
  sound : (room : Room) → room.items < 2 ^ 32 → AtMost (rows room.inputs room.outputs room.items) top → Sound 0 (rows 0 0 0) 0 (transaction room)
  unfolding transaction
  sound room small fits =
      number_sound 0 0 (omega arith) little 4 _ λ version _ _.
      number_sound 4 4 (omega arith) little 1 _ λ flag _ _.
      count_sound 5 room.inputs _ λ ins at₃ less_ins a₃ e₃.
      grow at₃ (rows ins 0 0) (omega arith) (omega arith)
      (each_sound (λ _. rows ins 0 0) (λ _. Unit {0}) (alone input_at) ins
      (λ i s at k row _ e f. input_sound i at (k tt) row (f tt tt))
      ins 0 tt at₃ _ (omega arith) tt e₃ λ _ _ at₄ a₄ e₄.
      count_sound at₄ room.outputs _ λ outs at₅ less_outs a₅ e₅.
      grow at₅ (rows ins outs 0) (omega arith) (omega arith)
      (each_sound (λ _. rows ins outs 0) (λ _. Unit {0}) (alone output_at) outs
      (λ i s at k row _ e f. output_sound i at (k tt) row (f tt tt))
      outs 0 tt at₅ _ (omega arith) tt e₅ λ _ _ at₆ a₆ e₆.
      number_sound at₆ at₆ (omega arith) little 4 _ λ locktime _ e₇.
      reach (omega arith)
      (cond_sound (eqb flag 0) (λ _. close (omega arith) (omega arith) (omega arith) refl) λ _.
      cond_sound (eqb flag 1)
      (λ _. each_sound (by_seen ins outs room.items small) (SeenKept ins outs room.items small) (input_witness_at room.items) ins
      (input_witness_sound ins outs room.items small)
      ins 0 (seen 0 true) (at₆ + 4) _ (omega arith) (omega arith) e₇ λ s₁ q₁ at₈ a₈ e₈.
      each_sound (by_seen ins outs room.items small) (SeenKept ins outs room.items small) output_witness_at outs
      (output_witness_sound ins outs room.items small)
      outs 0 s₁ at₈ _ (omega arith) q₁ e₈ λ s₂ q₂ at₉ a₉ e₉.
      cond_sound s₂.empty (λ _. stop (omega arith)) (λ _. close (omega arith) (omega arith) (omega arith) refl))
      (λ _. stop (omega arith)))))

  -- An entry of a finished reading: all that it names lies within the bytes taken, and its record is below the count.
  pub record Inside (n : ℕ) (h : Head) (e : Entry) : Type 0 where
    pub ends : end_of e ≤ n
    pub row : e.row < rows_of e.table (counts h)

  pub record Done (b : ℕ) (r : Rows) (n : ℕ) (h : Head) (log : List Entry) : Type 0 where
    pub reached : b ≤ n
    pub rows : AtMost r (counts h)
    pub bytes : h.bytes ≡ n
    pub inside : Each (Inside n h) log
    pub room : AtMost (counts h) top

  pub record Kept (b : ℕ) (r : Rows) (at : ℕ) (x : Reading Head) : Type 0 where
    pub limited : at + x.taken ≤ limit
    pub fair : Each Fair x.log
    pub placed : (n p : ℕ) → x.answer ≡ refused n p → (2 ≤ n) × (n ≤ 8) × (p ≤ at + x.taken)
    pub done : (h : Head) → x.answer ≡ finished h → Done b r (at + x.taken) h x.log

  kept_field : (b : ℕ) (r : Rows) (at w : ℕ) (xs : List ℕ) (x : Reading Head) → at + w ≤ limit → Kept b r (at + w) x → Kept b r at (field_run w xs x)
  kept_field b r at w xs x h q =
      field_case (Kept b r at) w xs x
      (λ _.
      let e : at + w + x.taken ≡ at + (w + x.taken) = add_assoc at w x.taken in
      record { limited = omega (arith, q.limited); fair = q.fair; placed = λ n p' a. ((q.placed n p' a).0, (q.placed n p' a).1, omega (arith, (q.placed n p' a).2)); done = λ hd a. subst (λ n. Done b r n hd x.log) e (q.done hd a) })
      (λ short. record { limited = omega arith; fair = tt; placed = λ n p' a. absurd (refused_not_more (sym a)); done = λ hd a. absurd (finished_not_more (sym a)) })

  row_grows : (t : Table) (i : ℕ) (r s : Rows) → i < rows_of t r → AtMost r s → i < rows_of t s
  row_grows input i r s h m = omega arith
  row_grows output i r s h m = omega arith
  row_grows item i r s h m = omega arith

  noted_done : {b c : ℕ} {r : Rows} {n : ℕ} {h : Head} {e : Entry} {log : List Entry} → Done c r n h log → end_of e ≤ c → b ≤ c → e.row < rows_of e.table r → Done b r n h (e ∷ log)
  noted_done {r = r} {h = h} {e = e} d end less row =
      record { reached = omega (arith, d.reached); rows = d.rows; bytes = d.bytes; room = d.room; inside = (record { ends = omega (arith, d.reached); row = row_grows e.table e.row r (counts h) row d.rows }, d.inside) }

  grown_done : {b c : ℕ} {r s : Rows} {n : ℕ} {h : Head} {log : List Entry} → Done c s n h log → b ≤ c → AtMost r s → Done b r n h log
  grown_done d less m = record { reached = omega (arith, d.reached); rows = omega (arith, d.rows); bytes = d.bytes; room = d.room; inside = d.inside }

  refused_not_finished : {n p : ℕ} {h : Head} → ◌≡◌ {A = Answer Head} (refused n p) (finished h) → ⊥
  refused_not_finished e = let z : ◌≡◌ {A = ℕ} 0 1 = cc in omega arith

  finished_same : {g h : Head} → ◌≡◌ {A = Answer Head} (finished g) (finished h) → g ≡ h
  finished_same e = cc

  stopped : {at n p n' p' : ℕ} → (2 ≤ n) × (n ≤ 8) × (p ≤ at) → ◌≡◌ {A = Answer Head} (refused n p) (refused n' p') → (2 ≤ n') × (n' ≤ 8) × (p' ≤ at + 0)
  stopped {at} {n} {p} {n'} {p'} u e = let a : n ≡ n' = cc in let b : p ≡ p' = cc in omega arith

  kept : {b : ℕ} {r : Rows} {at : ℕ} {l : Layout Head} → Sound b r at l → at ≤ limit → (xs : List ℕ) → Bytes xs → Kept b r at (run l xs)
  unfolding run
  kept {b} {r} (field {at = at} {o = o} {w = w} {k = k} e f) h xs q =
      kept_field b r at w xs _ e (kept (f (value o (take w xs)) (value_small o w xs q)) e (drop w xs) (bytes_drop w xs q))
  kept {b} {r} (skip {at = at} {w = w} e s) h xs q = kept_field b r at w xs _ e (kept s e (drop w xs) (bytes_drop w xs q))
  kept (noting {e = en} c fair e b row s) h xs q =
      let t = kept s h xs q in
      record { limited = t.limited; fair = (fair, t.fair); placed = t.placed; done = λ hd a. noted_done (t.done hd a) e b row }
  kept (grow c s b m t) h xs q =
      let u = kept t h xs q in
      record { limited = u.limited; fair = u.fair; placed = u.placed; done = λ hd a. grown_done (u.done hd a) b m }
  kept (stop {at = at} u) h xs q = record { limited = omega arith; fair = tt; placed = λ n p' a. stopped u a; done = λ hd a. absurd (refused_not_finished a) }
  kept {b = d} {r = r} (close {at = at} b m u e) h xs q = record { limited = omega arith; fair = tt; placed = λ n p' a. absurd (refused_not_finished (sym a)); done = λ hd a. subst (λ g. Done d r (at + 0) g []) (finished_same a) (record { reached = omega arith; rows = m; bytes = omega arith; room = u; inside = tt }) }

  pub transaction_kept : (room : Room) → room.items < 2 ^ 32 → AtMost (rows room.inputs room.outputs room.items) top → (xs : List ℕ) → Bytes xs → Kept 0 (rows 0 0 0) 0 (run (transaction room) xs)
  transaction_kept room small fits xs q = kept (sound room small fits) (omega arith) xs q
