-- The fresh state stands at document 01's layout of a transaction: one walk over the layout, piece by piece.
use Prim.Native.Nat.{ℕ, zero, suc, ◌+◌, ◌-◌, ◌*◌, ◌/◌, ◌%◌, ◌^◌, ◌<◌, ◌≤◌, min}
use mathlib.Core.Path.{◌≡◌, refl, sym, ◌∙◌, ap, ap₂, subst}
use mathlib.Core.Bool.{Bool, true, false, cond, ◌&&◌, ◌||◌, true≢false}
use mathlib.Core.List.{List, [], ◌∷◌}
use native.Mathlib.Nat.{add-zero, zero-add}
use native.Mathlib.Numerals.{add-one}
use native.Mathlib.Omega.{arith}
use lib.Dec.{leb, eqb, lit<, lit≤}
use lib.ListN.{set}
use lib.Seq.{sets}
use borrow.Author.Tests.{eqb-true, eqb-false, lt-ltb, le-ltb}
use Rattle.layout.specs.Number.{Order, little, big, value}
use Rattle.layout.specs.Layout.{Layout, opaque, enter, refuse, accept, Entry, input, output, item, Hidden, txid, blinding_nonce, entropy, asset_part, nonce_part, commitment_part, script_body, proof_body, item_body}
use Rattle.layout.specs.Transaction.{Head, limit, entry, within, further_at, opaque_at, announced, least, compact_at, count_at, body_at, value_at, prefixed_at, each, alone, flag_bit, vout, flags, asset_prefix, nonce_prefix, Seen, seen, issuance_at, input_at, output_at, item_at, stack_at, input_witness_at, output_witness_at, transaction}
use Rattle.layout.specs.Outcome as layout_outcome
use Rattle.layout.specs.Outcome.{Tables, lay, room_of}
use Rattle.layout.proofs.Reading.{by_cases}
use Rattle.confidential.specs.Width.{prefixed_width}
use Rattle.decoders.specs.declared.Field.{Field}
use Rattle.decoders.specs.declared.Sizes.{Sizes}
use Rattle.decoders.specs.declared.Counts.{Counts}
use Rattle.decoders.specs.declared.Spot.{Spot}
use Rattle.decoders.specs.declared.Entered.{Entered}
use Rattle.decoders.specs.declared.Settled.{Settled}
use Rattle.decoders.specs.Machine as m
use Rattle.decoders.specs.Machine.{FURTHER, FIRST, OPAQUE, LITTLE, BIG, State, field, settled, quiet, settle, settle_by, answer_of, head_of, enter_by, opened, compact_settled, length_settled, first_settled, further_settled, body_ends, body_entered, body_seen, body_opened, emptied, inputs_counted, outputs_counted, script_counted, pegin_counted, little_settled, big_settled, opaque_settled, value_part, amount_next, keys_next, null_keys_next, asset_next, value_next, nonce_next, sequence_next, next_input, next_output, next_input_witness, next_output_witness, next_script_item, next_pegin_item, witnesses_end, locktime_next, fresh}
use Rattle.decoders.proofs.Simulation.{st, worth_of, At, refusing, ending, awaiting, passing, nothing, enters}

-- a state whose field is spent
abbrev on : Field → ℕ → Sizes → Counts → Spot → State
on g at z c p = record { field = g; taken = at; sizes = z; counts = c; spot = p }

abbrev ct : ℕ → ℕ → ℕ → ℕ → ℕ → ℕ → Counts
ct v f i o n l = record { version = v; flag = f; inputs = i; outputs = o; items = n; locktime = l }

abbrev sp : ℕ → ℕ → ℕ → ℕ → ℕ → Spot
sp i l s n e = record { index = i; left = l; issuance = s; null = n; empty = e }

-- ---- ends, tests, fields

refuse_at : (n p : ℕ) (s : State) → At s.taken (quiet (m.refuse n p s)) (refuse n p)
unfolding answer_of
refuse_at n p s = refusing {s = m.refuse n p s} (lit≤ tt) refl refl

finish_at : (s : State) → At s.taken (quiet (m.finished s)) (accept (head_of s))
unfolding answer_of
finish_at s = ending {s = m.finished s} (lit≤ tt) refl refl

cond_at : {at : ℕ} (b : Bool) {s s' : State} {l l' : Layout Head} → (b ≡ true → At at (quiet s) l) → (b ≡ false → At at (quiet s') l') → At at (quiet (cond b s s')) (cond b l l')
cond_at true f g = f refl
cond_at false f g = g refl

cond_settled : {at : ℕ} (b : Bool) {r r' : Settled} {l l' : Layout Head} → (b ≡ true → At at r l) → (b ≡ false → At at r' l') → At at (cond b r r') (cond b l l')
cond_settled true f g = f refl
cond_settled false f g = g refl

module _ (σ : ℕ) (running : σ < 25) (g : Field) (at : ℕ) (z : Sizes) (c : Counts) (p : Spot) where
  number_at_lem : (place f w : ℕ) (o : Order) (k : ℕ → ℕ → Layout Head) → 0 < w → ((bs : List ℕ) → worth_of f bs ≡ value o bs) → ((v : ℕ) → v < 256 ^ w → At (at + w) (settle (st σ f w w v (at + w) z c p)) (k v (at + w))) → At at (quiet (opened place σ f w (on g at z c p))) (further_at place at o w k)
  unfolding further_at within opened
  number_at_lem place f w o k pos worths go = cond_at (leb (at + w) limit) (λ _. awaiting running pos worths go) (λ _. refuse_at 2 place (on g at z c p))

  opaque_at_lem : (h : Hidden) (k : ℕ → Layout Head) → At (at + 32) (settle (st σ OPAQUE 32 32 0 (at + 32) z c p)) (k (at + 32)) → At at (quiet (opened at σ OPAQUE 32 (on g at z c p))) (opaque_at at h 32 k)
  unfolding opaque_at within opened
  opaque_at_lem h k go = cond_at (leb (at + 32) limit) (λ _. passing running (omega arith) go) (λ _. refuse_at 2 at (on g at z c p))

back_one : (at : ℕ) → at + 1 - 1 ≡ at
back_one at = omega arith

not_zero : (n : ℕ) → (n ≡ 0 → ⊥) → 0 < n
not_zero zero h = absurd (h refl)
not_zero (suc n) h = omega arith

announced_pos : (first : ℕ) → 0 < announced first
announced_pos first = by_cases (eqb first 253) (λ e. rw e (omega arith)) (λ e. by_cases (eqb first 254) (λ e'. rw (e, e') (omega arith)) (λ e'. rw (e, e') (omega arith)))

module _ (σ : ℕ) (running : σ < 25) (at : ℕ) (z : Sizes) (c : Counts) (p : Spot) where
  -- a count or length: what follows its value, wherever it ends
  abbrev CountsOn : (ℕ → ℕ → Layout Head) → Type 0
  CountsOn k = (f w n at' : ℕ) → at < at' → At at' (compact_settled σ at n (st σ f w w n at' z c p)) (k n at')

  further_at_lem : (g : Field) (w : ℕ) (k : ℕ → ℕ → Layout Head) → 0 < w → CountsOn k → At (at + 1) (quiet (opened at σ FURTHER w (on g (at + 1) z c p))) (further_at at (at + 1) little w λ n at'. cond (leb (least w) n) (k n at') (refuse 3 at))
  unfolding settle_by further_settled worth_of
  further_at_lem g w k pos go =
      number_at_lem σ running g (at + 1) z c p at FURTHER w little _ pos (λ _. refl) λ n _.
      let back : at + 1 + w - w - 1 ≡ at = omega arith in
      subst (λ (start : ℕ). At (at + 1 + w) (cond (leb (least w) n) (compact_settled σ start n (st σ FURTHER w w n (at + 1 + w) z c p)) (quiet (m.refuse 3 start (st σ FURTHER w w n (at + 1 + w) z c p)))) (cond (leb (least w) n) (k n (at + 1 + w)) (refuse 3 at))) (sym back)
      (cond_settled (leb (least w) n) (λ _. go FURTHER w n (at + 1 + w) (omega arith)) (λ _. refuse_at 3 at (st σ FURTHER w w n (at + 1 + w) z c p)))

  compact_at_lem : (g : Field) (k : ℕ → ℕ → Layout Head) → CountsOn k → At at (quiet (opened at σ FIRST 1 (on g at z c p))) (compact_at at k)
  unfolding compact_at settle_by first_settled worth_of
  compact_at_lem g k go =
      number_at_lem σ running g at z c p at FIRST 1 little _ (omega arith) (λ _. refl) λ first _.
      subst (λ (start : ℕ). At (at + 1) (cond (leb first 252) (compact_settled σ start first (st σ FIRST 1 1 first (at + 1) z c p)) (quiet (opened start σ FURTHER (announced first) (st σ FIRST 1 1 first (at + 1) z c p)))) (cond (leb first 252) (k first (at + 1)) (further_at at (at + 1) little (announced first) λ n at'. cond (leb (least (announced first)) n) (k n at') (refuse 3 at)))) (sym (back_one at))
      (cond_settled (leb first 252) (λ _. go FIRST 1 first (at + 1) (omega arith)) (λ _. further_at_lem (field σ FIRST 1 1 first) (announced first) k (announced_pos first) go))

  -- a body: what its entry is, what its length leaves behind, and what follows
  pub record Body (note : ℕ → ℕ → Entry) (after : ℕ → Spot) (k : ℕ → ℕ → Layout Head) : Type 0 where
    pub length : (start n : ℕ) (s : State) → compact_settled σ start n s ≡ length_settled σ start n s
    pub entered : (f w n at' : ℕ) (t : Tables) → enter_by (body_entered σ n (st σ f w w n at' z c p)).table (body_entered σ n (st σ f w w n at' z c p)) t ≡ lay (note at' n) t
    pub seen : (f w n at' : ℕ) → body_seen σ n (st σ f w w n at' z c p) ≡ st σ f w w n at' z c (after n)
    pub whole : (s : State) → opaque_settled σ s ≡ quiet (body_ends σ s)
    pub next : (g : Field) (n at' : ℕ) → at < at' → At at' (quiet (body_ends σ (on g at' z c (after n)))) (k n at')

  module _ (h : Hidden) (note : ℕ → ℕ → Entry) (after : ℕ → Spot) (k : ℕ → ℕ → Layout Head) (b : Body note after k) where
    -- behind the length: nothing, or the body's bytes
    rest_at : (f w n at' : ℕ) → at < at' → At at' (quiet (body_opened σ n (st σ f w w n at' z c (after n)))) (opaque h n (k n (at' + n)))
    unfolding settle_by body_opened
    rest_at f w n at' less =
        by_cases (eqb n 0)
        (λ e. rw e (subst (λ (j : ℕ). At at' (quiet (body_ends σ (st σ f w w n at' z c (after n)))) (opaque h j (k n (at' + j)))) (sym (eqb-true n 0 e))
        (nothing (subst (λ (j : ℕ). At at' (quiet (body_ends σ (st σ f w w n at' z c (after n)))) (k n j)) (sym (add-zero at')) (b.next (field σ f w w n) n at' less)))))
        (λ e. rw e (passing running (not_zero n (eqb-false n 0 e))
        (subst (λ (r : Settled). At (at' + n) r (k n (at' + n))) (sym (b.whole (st σ OPAQUE n n 0 (at' + n) z c (after n)))) (b.next (field σ OPAQUE n n 0) n (at' + n) (omega arith)))))

    length_at : (f w n at' : ℕ) → at < at' → At at' (length_settled σ at n (st σ f w w n at' z c p)) (cond (leb (at' + n) limit) (enter (note at' n) (opaque h n (k n (at' + n)))) (refuse 2 at))
    unfolding length_settled
    length_at f w n at' less =
        cond_settled (leb (at' + n) limit)
        (λ _. enters (b.entered f w n at') (subst (λ (s : State). At at' (quiet (body_opened σ n s)) (opaque h n (k n (at' + n)))) (sym (b.seen f w n at')) (rest_at f w n at' less)))
        (λ _. refuse_at 2 at (st σ f w w n at' z c p))

    body_at_lem : (g : Field) → At at (quiet (opened at σ FIRST 1 (on g at z c p))) (body_at at h note k)
    unfolding body_at within
    body_at_lem g =
        compact_at_lem g _ λ f w n at' less.
        subst (λ (r : Settled). At at' r (cond (leb (at' + n) limit) (enter (note at' n) (opaque h n (k n (at' + n)))) (refuse 2 at))) (sym (b.length at n (st σ f w w n at' z c p))) (length_at f w n at' less)

-- ---- entries

two_stored : (xs : List ℕ) (n a b : ℕ) → set (set xs n a) (n + 1) b ≡ sets xs n (a ∷ b ∷ [])
two_stored xs n a b = ap (λ (k : ℕ). set (set xs n a) k b) (add-one n)

input_two : (i col a b : ℕ) (t : Tables) → record { inputs = set (set t.inputs (20 * i + col) a) (20 * i + col + 1) b; outputs = t.outputs; items = t.items } ≡ lay (entry input i col (a ∷ b ∷ [])) t
input_two i col a b t = λ j. record { inputs = two_stored t.inputs (20 * i + col) a b j; outputs = t.outputs; items = t.items }

output_two : (i col a b : ℕ) (t : Tables) → record { inputs = t.inputs; outputs = set (set t.outputs (14 * i + col) a) (14 * i + col + 1) b; items = t.items } ≡ lay (entry output i col (a ∷ b ∷ [])) t
output_two i col a b t = λ j. record { inputs = t.inputs; outputs = two_stored t.outputs (14 * i + col) a b j; items = t.items }

item_two : (i a b : ℕ) (t : Tables) → record { inputs = t.inputs; outputs = t.outputs; items = set (set t.items (2 * i) a) (2 * i + 1) b } ≡ lay (entry item i 0 (a ∷ b ∷ [])) t
item_two i a b t = let e = ap (λ (n : ℕ). set (set t.items n a) (n + 1) b) (sym (add-zero (2 * i))) ∙ two_stored t.items (2 * i + 0) a b in λ j. record { inputs = t.inputs; outputs = t.outputs; items = e j }

-- the same result, and the same state, by an equation
as_settled : {at : ℕ} {l : Layout Head} {r r' : Settled} → r ≡ r' → At at r' l → At at r l
as_settled {at} {l} e d = subst (λ (x : Settled). At at x l) (sym e) d

as_state : {at : ℕ} {l : Layout Head} {s s' : State} → s ≡ s' → At at (quiet s') l → At at (quiet s) l
as_state {at} {l} e d = subst (λ (x : State). At at (quiet x) l) (sym e) d

-- ---- values, asset_prefix and nonce_prefix

-- what a stage does with a value's prefix, and with what the prefix announces; q is the spot behind a prefix that is not null
pub record Value (σ at : ℕ) (z : Sizes) (c : Counts) (p q : Spot) (note amount : ℕ → ℕ → Entry) (k : ℕ → ℕ → Layout Head) : Type 0 where
  pub null : ℕ → State
  pub entry : ℕ → Entered
  pub prefix : (v : ℕ) → little_settled σ (st σ LITTLE 1 1 v (at + 1) z c p) ≡ settled (cond (eqb v 0) (null v) (value_part (st σ LITTLE 1 1 v (at + 1) z c q))) (entry v)
  pub entered : (v : ℕ) (t : Tables) → enter_by (entry v).table (entry v) t ≡ lay (note v at) t
  pub nulls : (v : ℕ) → eqb v 0 ≡ true → At (at + 1) (quiet (null v)) (k v (at + 1))
  pub explicit : (v n at' : ℕ) → at < at' → eqb v 0 ≡ false → At at' (big_settled σ (st σ BIG 8 8 n at' z c q)) (enter (amount (n / 2 ^ 32) (n % 2 ^ 32)) (k v at'))
  pub part : (v at' : ℕ) → at < at' → eqb v 0 ≡ false → At at' (opaque_settled σ (st σ OPAQUE 32 32 0 at' z c q)) (k v at')

value_part_as : (σ v at : ℕ) (z : Sizes) (c : Counts) (q : Spot) → eqb v 0 ≡ false → let s = st σ LITTLE 1 1 v (at + 1) z c q in value_part s ≡ cond (eqb v 1) (opened (at + 1) σ BIG 8 s) (cond (eqb v 8 || eqb v 9) (m.opaque σ s) (m.refuse 5 at s))
unfolding value_part
value_part_as σ v at z c q e₀ =
    by_cases (eqb v 1)
    (λ e₁. rw (e₀, e₁))
    (λ e₁. by_cases (eqb v 8 || eqb v 9)
    (λ e. rw (e₀, e₁, e))
    (λ e. rw (e₀, e₁, e) (ap (λ (place : ℕ). m.refuse 5 place (st σ LITTLE 1 1 v (at + 1) z c q)) (back_one at))))

value_at_lem : (σ : ℕ) → σ < 25 → (g : Field) (at : ℕ) (z : Sizes) (c : Counts) (p q : Spot) (note amount : ℕ → ℕ → Entry) (k : ℕ → ℕ → Layout Head) → Value σ at z c p q note amount k → At at (quiet (opened at σ LITTLE 1 (on g at z c p))) (value_at at note amount k)
unfolding value_at settle_by worth_of
value_at_lem σ running g at z c p q note amount k b =
    number_at_lem σ running g at z c p at LITTLE 1 little _ (omega arith) (λ _. refl) λ v _.
    as_settled (b.prefix v)
    (enters (b.entered v)
    (cond_at (eqb v 0) (b.nulls v) λ e₀.
    as_state (value_part_as σ v at z c q e₀)
    (cond_at (eqb v 1)
    (λ e. number_at_lem σ running (field σ LITTLE 1 1 v) (at + 1) z c q (at + 1) BIG 8 big _ (omega arith) (λ _. refl) λ n _. b.explicit v n (at + 1 + 8) (omega arith) e₀)
    λ e₁.
    cond_at (eqb v 8 || eqb v 9)
    (λ e. opaque_at_lem σ running (field σ LITTLE 1 1 v) (at + 1) z c q commitment_part (k v) (b.part v (at + 1 + 32) (omega arith) e₀))
    (λ _. refuse_at 5 at (st σ LITTLE 1 1 v (at + 1) z c q)))))

pub record Token (σ at : ℕ) (z : Sizes) (c : Counts) (p : Spot) (listed : ℕ → Bool) (part_of : State → State) (note : ℕ → ℕ → Entry) (k : ℕ → Layout Head) : Type 0 where
  pub null : ℕ → State
  pub entry : ℕ → Entered
  pub prefix : (v : ℕ) → little_settled σ (st σ LITTLE 1 1 v (at + 1) z c p) ≡ settled (cond (eqb v 0) (null v) (part_of (st σ LITTLE 1 1 v (at + 1) z c p))) (entry v)
  pub parts : (v : ℕ) → eqb v 0 ≡ false → part_of (st σ LITTLE 1 1 v (at + 1) z c p) ≡ cond (listed v) (m.opaque σ (st σ LITTLE 1 1 v (at + 1) z c p)) (m.refuse 5 at (st σ LITTLE 1 1 v (at + 1) z c p))
  pub entered : (v : ℕ) (t : Tables) → enter_by (entry v).table (entry v) t ≡ lay (note v at) t
  pub nulls : (v : ℕ) → At (at + 1) (quiet (null v)) (k (at + 1))
  pub part : (at' : ℕ) → at < at' → At at' (opaque_settled σ (st σ OPAQUE 32 32 0 at' z c p)) (k at')

token_at : (σ : ℕ) → σ < 25 → (g : Field) (at : ℕ) (z : Sizes) (c : Counts) (p : Spot) (h : Hidden) (listed : ℕ → Bool) (part_of : State → State) (note : ℕ → ℕ → Entry) (k : ℕ → Layout Head) → Token σ at z c p listed part_of note k → At at (quiet (opened at σ LITTLE 1 (on g at z c p))) (prefixed_at at h listed note k)
unfolding prefixed_at settle_by worth_of
token_at σ running g at z c p h listed part_of note k b =
    number_at_lem σ running g at z c p at LITTLE 1 little _ (omega arith) (λ _. refl) λ v _.
    as_settled (b.prefix v)
    (enters (b.entered v)
    (cond_at (eqb v 0) (λ _. b.nulls v) λ e₀.
    as_state (b.parts v e₀)
    (cond_at (listed v)
    (λ e. opaque_at_lem σ running (field σ LITTLE 1 1 v) (at + 1) z c p h k (b.part (at + 1 + 32) (omega arith)))
    (λ _. refuse_at 5 at (st σ LITTLE 1 1 v (at + 1) z c p)))))

-- a listed prefix is one whose field has 33 bytes
part_as : (listed : ℕ → Bool) (v at : ℕ) (s t : State) → eqb v 0 ≡ false → cond (eqb (prefixed_width listed v) 33) t (m.refuse 5 (at + 1 - 1) s) ≡ cond (listed v) t (m.refuse 5 at s)
part_as listed v at s t e₀ =
    by_cases (listed v)
    (λ e. rw (e₀, e))
    (λ e. rw (e₀, e) (ap (λ (place : ℕ). m.refuse 5 place s) (back_one at)))

-- ---- inputs

input_one : (i col a b : ℕ) (t : Tables) → a ≡ b → record { inputs = set t.inputs (20 * i + col) a; outputs = t.outputs; items = t.items } ≡ lay (entry input i col (b ∷ [])) t
input_one i col a b t e = λ j. record { inputs = set t.inputs (20 * i + col) (e j); outputs = t.outputs; items = t.items }

abbrev as_number : Bool → ℕ
as_number true = 1
as_number false = 0

and_false : (b : Bool) → (b && false) ≡ false
and_false true = refl
and_false false = refl

module _ (z : Sizes) (c : Counts) (i l e : ℕ) where
  -- what follows an input: nothing is kept of its issuance
  abbrev EndsInput : ℕ → (ℕ → Layout Head) → Type 0
  EndsInput at k = (g : Field) (at' : ℕ) → at < at' → At at' (quiet (next_input (on g at' z c (sp (i + 1) l 0 0 e)))) (k at')

  -- the keys, behind an amount of prefix v; 66 bytes lie between a null issuance's start and its end
  keys_at : (g : Field) (at at₃ s v : ℕ) (k : ℕ → Layout Head) → at < at₃ → (eqb v 0 ≡ true → at₃ ≡ at + 65) → EndsInput at k → At at₃ (quiet (opened at₃ 10 LITTLE 1 (on g at₃ z c (sp i l s (as_number (eqb v 0)) e)))) (value_at at₃ (λ p _. entry input i 10 (p ∷ [])) (λ high low. entry input i 11 (high ∷ low ∷ [])) λ keys at₄. cond (eqb v 0 && eqb keys 0) (refuse 6 at) (k at₄))
  unfolding little_settled big_settled opaque_settled keys_next null_keys_next
  keys_at g at at₃ s v k less start next =
      value_at_lem 10 (lit< tt) g at₃ z c p p _ _ _
      (record {
        null = λ w. cond (eqb (as_number (eqb v 0)) 1) (m.refuse 6 (at₃ + 1 - 66) (st 10 LITTLE 1 1 w (at₃ + 1) z c p)) (next_input (m.further_input (st 10 LITTLE 1 1 w (at₃ + 1) z c p)));
        entry = λ w. m.input1 10 w (st 10 LITTLE 1 1 w (at₃ + 1) z c p);
        prefix = λ w. refl;
        entered = λ w t. refl;
        nulls = λ w e'.
            by_cases (eqb v 0)
            (λ q. let back : at₃ + 1 - 66 ≡ at = omega (arith, start q) in rw (q, e') (as_state (ap (λ (place : ℕ). m.refuse 6 place (st 10 LITTLE 1 1 w (at₃ + 1) z c (sp i l s 1 e))) back) (refuse_at 6 at (st 10 LITTLE 1 1 w (at₃ + 1) z c (sp i l s 1 e)))))
            (λ q. rw q (next (field 10 LITTLE 1 1 w) (at₃ + 1) (omega arith)));
        explicit = λ w n at' less' e'. enters (input_two i 11 (n / 2 ^ 32) (n % 2 ^ 32)) (not_null_lem w e' (next _ at' (omega arith)));
        part = λ w at' less' e'. not_null_lem w e' (next _ at' (omega arith));
      })
    where
      p : Spot
      p = sp i l s (as_number (eqb v 0)) e

      not_null_lem : {at' : ℕ} {x : State} (w : ℕ) → eqb w 0 ≡ false → At at' (quiet x) (k at') → At at' (quiet x) (cond (eqb v 0 && eqb w 0) (refuse 6 at) (k at'))
      not_null_lem w e' d = rw (e', and_false (eqb v 0)) d

  issuance_at_lem : (g : Field) (at s n : ℕ) (k : ℕ → Layout Head) → EndsInput at k → At at (quiet (opened at 7 OPAQUE 32 (on g at z c (sp i l s n e)))) (issuance_at i at k)
  unfolding issuance_at settle_by little_settled big_settled opaque_settled amount_next
  issuance_at_lem g at s n k next =
      opaque_at_lem 7 (lit< tt) g at z c (sp i l s n e) blinding_nonce _
      (enters (λ t. input_one i 6 (at + 32 - 32) at t (omega arith))
      (opaque_at_lem 8 (lit< tt) _ (at + 32) z c (sp i l s n e) entropy _
      (value_at_lem 9 (lit< tt) _ (at + 32 + 32) z c (sp i l s n e) (sp i l s 0 e) _ _ _
      (record {
        null = λ v. m.number 10 1 (m.set_null 1 (st 9 LITTLE 1 1 v (at + 32 + 32 + 1) z c (sp i l s n e)));
        entry = λ v. m.input1 7 v (st 9 LITTLE 1 1 v (at + 32 + 32 + 1) z c (sp i l s n e));
        prefix = λ v. refl;
        entered = λ v t. refl;
        nulls = λ v q. keys v (field 9 LITTLE 1 1 v) (at + 32 + 32 + 1) 1 (omega arith) (λ _. omega arith) (ap as_number q);
        explicit = λ v m at' less q. enters (input_two i 8 (m / 2 ^ 32) (m % 2 ^ 32)) (keys v (field 9 BIG 8 8 m) at' 0 (omega arith) (λ q'. absurd (clash q q')) (ap as_number q));
        part = λ v at' less q. keys v (field 9 OPAQUE 32 32 0) at' 0 (omega arith) (λ q'. absurd (clash q q')) (ap as_number q);
      }))))
    where
      clash : {b : Bool} → b ≡ false → b ≡ true → ⊥
      clash q q' = true≢false (sym q' ∙ q)

      keys : (v : ℕ) (h : Field) (at₃ u : ℕ) → at < at₃ → (eqb v 0 ≡ true → at₃ ≡ at + 65) → as_number (eqb v 0) ≡ u → At at₃ (quiet (opened at₃ 10 LITTLE 1 (on h at₃ z c (sp i l s u e)))) (value_at at₃ (λ p _. entry input i 10 (p ∷ [])) (λ high low. entry input i 11 (high ∷ low ∷ [])) λ w at₄. cond (eqb v 0 && eqb w 0) (refuse 6 at) (k at₄))
      keys v h at₃ u less start q = as_state (ap (λ (u' : ℕ). opened at₃ 10 LITTLE 1 (on h at₃ z c (sp i l s u' e))) (sym q)) (keys_at h at at₃ s v k less start next)

  input_at_lem : (g : Field) (at s n : ℕ) (k : ℕ → Layout Head) → EndsInput at k → At at (quiet (opened at 3 OPAQUE 32 (on g at z c (sp i l s n e)))) (input_at i at k)
  unfolding input_at settle_by little_settled opaque_settled compact_settled body_entered body_seen body_ends sequence_next worth_of
  input_at_lem g at s n k next =
      opaque_at_lem 3 (lit< tt) g at z c (sp i l s n e) txid _
      (enters (λ t. input_one i 0 (at + 32 - 32) at t (omega arith))
      (number_at_lem 4 (lit< tt) _ (at + 32) z c (sp i l s n e) (at + 32) LITTLE 4 little _ (omega arith) (λ _. refl) λ raw _.
      enters (input_two i 1 (vout raw) (flags raw))
      (body_at_lem 5 (lit< tt) (at + 32 + 4) z c (sp i l (flag_bit 31 raw) n e) script_body _ (λ _. sp i l (flag_bit 31 raw) n e) _
      (record {
        length = λ start n s. refl;
        entered = λ f w n at'. input_two i 3 at' n;
        seen = λ f w n at'. refl;
        whole = λ s. refl;
        next = λ g n at' less.
            number_at_lem 6 (lit< tt) g at' z c _ at' LITTLE 4 little _ (omega arith) (λ _. refl) λ sequence _.
            enters (λ t. refl)
            (cond_at (eqb (flag_bit 31 raw) 1)
            (λ _. issuance_at_lem _ (at' + 4) _ _ k (λ g at'' less'. next g at'' (omega arith)))
            (λ _. next _ (at' + 4) (omega arith)));
      })
      _)))

next_input_lem : (s : State) → s.spot.index < s.counts.inputs → next_input s ≡ m.opaque 3 s
unfolding next_input
next_input_lem s h = rw (lt-ltb s.spot.index s.counts.inputs h)

inputs_end : (s : State) → s.counts.inputs ≤ s.spot.index → next_input s ≡ m.compact 11 s
unfolding next_input
inputs_end s h = rw (le-ltb s.spot.index s.counts.inputs h)

inputs_at_lem : (z : Sizes) (c : Counts) (l e : ℕ) (k : Unit {0} → ℕ → Layout Head) → ((g : Field) (i s n at : ℕ) → At at (quiet (m.compact 11 (on g at z c (sp i l s n e)))) (k tt at)) → (count i : ℕ) (g : Field) (s n at : ℕ) → i + count ≡ c.inputs → At at (quiet (next_input (on g at z c (sp i l s n e)))) (each (alone input_at) count i tt at k)
unfolding each
inputs_at_lem z c l e k next zero i g s n at h = as_state (inputs_end (on g at z c (sp i l s n e)) (omega arith)) (next g i s n at)
inputs_at_lem z c l e k next (suc count) i g s n at h =
    as_state (next_input_lem (on g at z c (sp i l s n e)) (omega arith))
    (input_at_lem z c i l e g at s n _ λ g' at' less.
    as_state (ap (λ (j : ℕ). next_input (on g' at' z c (sp j l 0 0 e))) (add-one i))
    (inputs_at_lem z c l e k next count (suc i) g' 0 0 at' (omega arith)))

-- ---- outputs

module _ (z : Sizes) (c : Counts) (i l s n e : ℕ) where
  abbrev EndsOutput : ℕ → (ℕ → Layout Head) → Type 0
  EndsOutput at k = (g : Field) (at' : ℕ) → at < at' → At at' (quiet (next_output (m.further (on g at' z c (sp i l s n e))))) (k at')

  output_at_lem : (g : Field) (at : ℕ) (k : ℕ → Layout Head) → EndsOutput at k → At at (quiet (opened at 12 LITTLE 1 (on g at z c (sp i l s n e)))) (output_at i at k)
  unfolding output_at settle_by little_settled big_settled opaque_settled compact_settled body_entered body_seen body_ends asset_next value_next nonce_next m.asset_part m.nonce_part worth_of
  output_at_lem g at k next =
      token_at 12 (lit< tt) g at z c p asset_part asset_prefix m.asset_part _ _
      (record {
        null = λ v. m.number 13 1 (st 12 LITTLE 1 1 v (at + 1) z c p);
        entry = λ v. m.output2 0 v (at + 1 - 1) (st 12 LITTLE 1 1 v (at + 1) z c p);
        prefix = λ v. refl;
        parts = λ v e₀. part_as asset_prefix v at (st 12 LITTLE 1 1 v (at + 1) z c p) (m.opaque 12 (st 12 LITTLE 1 1 v (at + 1) z c p)) e₀;
        entered = λ v t. output_two_at 0 v (at + 1 - 1) at t (back_one at);
        nulls = λ v. value_of (field 12 LITTLE 1 1 v) (at + 1) (omega arith);
        part = λ at' less. value_of (field 12 OPAQUE 32 32 0) at' less;
      })
    where
      p : Spot
      p = sp i l s n e

      output_two_at : (col a b b' : ℕ) (t : Tables) → b ≡ b' → record { inputs = t.inputs; outputs = set (set t.outputs (14 * i + col) a) (14 * i + col + 1) b; items = t.items } ≡ lay (entry output i col (a ∷ b' ∷ [])) t
      output_two_at col a b b' t q = output_two i col a b t ∙ ap (λ (x : ℕ). lay (entry output i col (a ∷ x ∷ [])) t) q

      script_of : (g : Field) (at₃ : ℕ) → at < at₃ → At at₃ (quiet (m.compact 15 (on g at₃ z c p))) (body_at at₃ script_body (λ p n. entry output i 8 (p ∷ n ∷ [])) λ _. k)
      script_of g at₃ less =
          body_at_lem 15 (lit< tt) at₃ z c p script_body _ (λ _. p) _
          (record {
            length = λ start n s. refl;
            entered = λ f w n at'. output_two i 8 at' n;
            seen = λ f w n at'. refl;
            whole = λ s. refl;
            next = λ g n at' less'. next g at' (omega arith);
          })
          g

      nonce_of : (g : Field) (at₂ : ℕ) → at < at₂ → At at₂ (quiet (m.number 14 1 (on g at₂ z c p))) (prefixed_at at₂ nonce_part nonce_prefix (λ p at. entry output i 6 (p ∷ at ∷ [])) λ at₃. body_at at₃ script_body (λ p n. entry output i 8 (p ∷ n ∷ [])) λ _. k)
      nonce_of g at₂ less =
          token_at 14 (lit< tt) g at₂ z c p nonce_part nonce_prefix m.nonce_part _ _
          (record {
            null = λ v. m.compact 15 (st 14 LITTLE 1 1 v (at₂ + 1) z c p);
            entry = λ v. m.output2 6 v (at₂ + 1 - 1) (st 14 LITTLE 1 1 v (at₂ + 1) z c p);
            prefix = λ v. refl;
            parts = λ v e₀. part_as nonce_prefix v at₂ (st 14 LITTLE 1 1 v (at₂ + 1) z c p) (m.opaque 14 (st 14 LITTLE 1 1 v (at₂ + 1) z c p)) e₀;
            entered = λ v t. output_two_at 6 v (at₂ + 1 - 1) at₂ t (back_one at₂);
            nulls = λ v. script_of (field 14 LITTLE 1 1 v) (at₂ + 1) (omega arith);
            part = λ at' less'. script_of (field 14 OPAQUE 32 32 0) at' (omega arith);
          })

      value_of : (g : Field) (at₁ : ℕ) → at < at₁ → At at₁ (quiet (m.number 13 1 (on g at₁ z c p))) (value_at at₁ (λ p at. entry output i 2 (p ∷ at ∷ [])) (λ high low. entry output i 4 (high ∷ low ∷ [])) λ _ at₂. prefixed_at at₂ nonce_part nonce_prefix (λ p at. entry output i 6 (p ∷ at ∷ [])) λ at₃. body_at at₃ script_body (λ p n. entry output i 8 (p ∷ n ∷ [])) λ _. k)
      value_of g at₁ less =
          value_at_lem 13 (lit< tt) g at₁ z c p p _ _ _
          (record {
            null = λ v. m.number 14 1 (st 13 LITTLE 1 1 v (at₁ + 1) z c p);
            entry = λ v. m.output2 2 v (at₁ + 1 - 1) (st 13 LITTLE 1 1 v (at₁ + 1) z c p);
            prefix = λ v. refl;
            entered = λ v t. output_two_at 2 v (at₁ + 1 - 1) at₁ t (back_one at₁);
            nulls = λ v q. nonce_of (field 13 LITTLE 1 1 v) (at₁ + 1) (omega arith);
            explicit = λ v w at' less' q. enters (output_two i 4 (w / 2 ^ 32) (w % 2 ^ 32)) (nonce_of (field 13 BIG 8 8 w) at' (omega arith));
            part = λ v at' less' q. nonce_of (field 13 OPAQUE 32 32 0) at' (omega arith);
          })

next_output_lem : (s : State) → s.spot.index < s.counts.outputs → next_output s ≡ m.number 12 1 s
unfolding next_output
next_output_lem s h = rw (lt-ltb s.spot.index s.counts.outputs h)

outputs_end : (s : State) → s.counts.outputs ≤ s.spot.index → next_output s ≡ m.number 16 4 s
unfolding next_output
outputs_end s h = rw (le-ltb s.spot.index s.counts.outputs h)

outputs_at_lem : (z : Sizes) (c : Counts) (l s n e : ℕ) (k : Unit {0} → ℕ → Layout Head) → ((g : Field) (i at : ℕ) → At at (quiet (m.number 16 4 (on g at z c (sp i l s n e)))) (k tt at)) → (count i : ℕ) (g : Field) (at : ℕ) → i + count ≡ c.outputs → At at (quiet (next_output (on g at z c (sp i l s n e)))) (each (alone output_at) count i tt at k)
unfolding each
outputs_at_lem z c l s n e k next zero i g at h = as_state (outputs_end (on g at z c (sp i l s n e)) (omega arith)) (next g i at)
outputs_at_lem z c l s n e k next (suc count) i g at h =
    as_state (next_output_lem (on g at z c (sp i l s n e)) (omega arith))
    (output_at_lem z c i l s n e g at _ λ g' at' less.
    as_state (ap (λ (j : ℕ). next_output (on g' at' z c (sp j l s n e))) (add-one i))
    (outputs_at_lem z c l s n e k next count (suc i) g' at' (omega arith)))

-- ---- witnesses

-- whether every witness so far is empty is a number in the state
emptied_as : (n : ℕ) (g : Field) (at : ℕ) (z : Sizes) (c : Counts) (i l s u : ℕ) (b : Bool) → emptied n (on g at z c (sp i l s u (as_number b))) ≡ on g at z c (sp i l s u (as_number (b && eqb n 0)))
unfolding emptied
emptied_as n g at z c i l s u true = by_cases (eqb n 0) (λ q. rw q) (λ q. rw q)
emptied_as n g at z c i l s u false = by_cases (eqb n 0) (λ q. rw q) (λ q. rw q)

-- an item's stage, and what follows a stack
pub record Stack (σ : ℕ) (next fin : State → State) : Type 0 where
  pub running : σ < 25
  pub more : (s : State) → 0 < s.spot.left → next s ≡ m.compact σ s
  pub none : (s : State) → s.spot.left ≡ 0 → next s ≡ fin s
  pub length : (start n : ℕ) (s : State) → compact_settled σ start n s ≡ length_settled σ start n s
  pub entered : (n : ℕ) (s : State) → body_entered σ n s ≡ m.item2 s.taken n s
  pub seen : (n : ℕ) (s : State) → body_seen σ n s ≡ s
  pub whole : (s : State) → opaque_settled σ s ≡ quiet (body_ends σ s)
  pub ends : (s : State) → body_ends σ s ≡ next (m.item_ends s)

script_stack : Stack 20 next_script_item (m.compact 21)
unfolding next_script_item compact_settled body_entered body_seen opaque_settled body_ends
script_stack =
    record {
      running = lit< tt;
      more = λ s h. rw (lt-ltb 0 s.spot.left h);
      none = λ s h. rw (le-ltb 0 s.spot.left (omega arith));
      length = λ start n s. refl;
      entered = λ n s. refl;
      seen = λ n s. refl;
      whole = λ s. refl;
      ends = λ s. refl;
    }

pegin_stack : Stack 22 next_pegin_item (λ s. next_input_witness (m.further s))
unfolding next_pegin_item compact_settled body_entered body_seen opaque_settled body_ends
pegin_stack =
    record {
      running = lit< tt;
      more = λ s h. rw (lt-ltb 0 s.spot.left h);
      none = λ s h. rw (le-ltb 0 s.spot.left (omega arith));
      length = λ start n s. refl;
      entered = λ n s. refl;
      seen = λ n s. refl;
      whole = λ s. refl;
      ends = λ s. refl;
    }

module _ (z : Sizes) (v f ins outs lt i s u e : ℕ) where
  -- j items are entered and `left` are to come
  abbrev stacked : Field → ℕ → ℕ → ℕ → State
  stacked g at j left = on g at z (ct v f ins outs j lt) (sp i left s u e)

  items_at_lem : (σ : ℕ) (next fin : State → State) → Stack σ next fin → (k : Unit {0} → ℕ → Layout Head) (last : ℕ) → ((g : Field) (at : ℕ) → At at (quiet (fin (stacked g at last 0))) (k tt at)) → (n j : ℕ) (g : Field) (at : ℕ) → j + n ≡ last → At at (quiet (next (stacked g at j n))) (each (alone item_at) n j tt at k)
  unfolding each item_at
  items_at_lem σ next fin q k last go zero j g at h =
      as_state (q.none (stacked g at j 0) refl)
      (as_state (ap (λ (x : ℕ). fin (stacked g at x 0)) (sym (add-zero j) ∙ h)) (go g at))
  items_at_lem σ next fin q k last go (suc n) j g at h =
      as_state (q.more (stacked g at j (suc n)) (omega arith))
      (body_at_lem σ q.running at z (ct v f ins outs j lt) (sp i (suc n) s u e) item_body _ (λ _. sp i (suc n) s u e) _
      (record {
        length = q.length;
        entered = λ f' w m' at' t. ap (λ (x : Entered). enter_by x.table x t) (q.entered m' _) ∙ item_two j at' m' t;
        seen = λ f' w m' at'. rw q.seen;
        whole = q.whole;
        next = λ g' m' at' less.
            as_state (q.ends (stacked g' at' j (suc n)))
            (as_state (ap₂ (λ (x y : ℕ). next (stacked g' at' x y)) (add-one j) (one_less_lem n))
            (items_at_lem σ next fin q k last go n (suc j) g' at' (omega arith)));
      })
      g)
    where
      one_less_lem : (n : ℕ) → suc n - 1 ≡ n
      one_less_lem n = omega arith

  -- how many items the table holds
  abbrev room : ℕ
  room = min (z.items / 2) 4294967295

module _ (z : Sizes) (v f ins outs lt i s u : ℕ) where
  -- the script stack: its count enters with the first item's index
  script_at_lem : (g : Field) (at items l : ℕ) (b : Bool) (k : ℕ → ℕ → Layout Head) → ((n : ℕ) (g' : Field) (at' : ℕ) → At at' (quiet (m.compact 21 (on g' at' z (ct v f ins outs (items + n) lt) (sp i 0 s u (as_number (b && eqb n 0)))))) (k n at')) → At at (quiet (m.compact 19 (on g at z (ct v f ins outs items lt) (sp i l s u (as_number b))))) (stack_at (min (z.items / 2) 4294967295) items at (λ n. entry input i 17 (items ∷ n ∷ [])) k)
  unfolding stack_at count_at compact_settled script_counted
  script_at_lem g at items l b k next =
      compact_at_lem 19 (lit< tt) at z (ct v f ins outs items lt) (sp i l s u (as_number b)) g _ λ f' w n at' less.
      cond_settled (leb n (min (z.items / 2) 4294967295 - items))
      (λ _. enters (input_two i 17 items n)
      (as_state (ap next_script_item (emptied_as n (field 19 f' w w n) at' z (ct v f ins outs items lt) i n s u b))
      (items_at_lem z v f ins outs lt i s u (as_number (b && eqb n 0)) 20 next_script_item (m.compact 21) script_stack (λ _. k n) (items + n) (λ g'' at''. next n g'' at'') n items (field 19 f' w w n) at' refl)))
      (λ _. refuse_at 4 at (st 19 f' w w n at' z (ct v f ins outs items lt) (sp i l s u (as_number b))))

  pegin_at : (g : Field) (at items l : ℕ) (b : Bool) (k : ℕ → ℕ → Layout Head) → ((n : ℕ) (g' : Field) (at' : ℕ) → At at' (quiet (next_input_witness (m.further (on g' at' z (ct v f ins outs (items + n) lt) (sp i 0 s u (as_number (b && eqb n 0))))))) (k n at')) → At at (quiet (m.compact 21 (on g at z (ct v f ins outs items lt) (sp i l s u (as_number b))))) (stack_at (min (z.items / 2) 4294967295) items at (λ n. entry input i 19 (n ∷ [])) k)
  unfolding stack_at count_at compact_settled pegin_counted
  pegin_at g at items l b k next =
      compact_at_lem 21 (lit< tt) at z (ct v f ins outs items lt) (sp i l s u (as_number b)) g _ λ f' w n at' less.
      cond_settled (leb n (min (z.items / 2) 4294967295 - items))
      (λ _. enters (λ t. refl)
      (as_state (ap next_pegin_item (emptied_as n (field 21 f' w w n) at' z (ct v f ins outs items lt) i n s u b))
      (items_at_lem z v f ins outs lt i s u (as_number (b && eqb n 0)) 22 next_pegin_item (λ x. next_input_witness (m.further x)) pegin_stack (λ _. k n) (items + n) (λ g'' at''. next n g'' at'') n items (field 21 f' w w n) at' refl)))
      (λ _. refuse_at 4 at (st 21 f' w w n at' z (ct v f ins outs items lt) (sp i l s u (as_number b))))

  -- a proof, whose length bears on whether the witnesses are empty
  proof_at : (σ : ℕ) → σ < 25 → (g : Field) (at items l : ℕ) (b : Bool) (note : ℕ → ℕ → Entry) (k : ℕ → ℕ → Layout Head) → ((start n : ℕ) (x : State) → compact_settled σ start n x ≡ length_settled σ start n x) → ((f' w n at' : ℕ) (t : Tables) → let x = st σ f' w w n at' z (ct v f ins outs items lt) (sp i l s u (as_number b)) in enter_by (body_entered σ n x).table (body_entered σ n x) t ≡ lay (note at' n) t) → ((n : ℕ) (x : State) → body_seen σ n x ≡ emptied n x) → ((x : State) → opaque_settled σ x ≡ quiet (body_ends σ x)) → ((g' : Field) (n at' : ℕ) → At at' (quiet (body_ends σ (on g' at' z (ct v f ins outs items lt) (sp i l s u (as_number (b && eqb n 0)))))) (k n at')) → At at (quiet (m.compact σ (on g at z (ct v f ins outs items lt) (sp i l s u (as_number b))))) (body_at at proof_body note k)
  proof_at σ running g at items l b note k len ent isproof whole next =
      body_at_lem σ running at z (ct v f ins outs items lt) (sp i l s u (as_number b)) proof_body note (λ n. sp i l s u (as_number (b && eqb n 0))) k
      (record {
        length = len;
        entered = ent;
        seen = λ f' w n at'. isproof n _ ∙ (emptied_as n (field σ f' w w n) at' z (ct v f ins outs items lt) i l s u b);
        whole = whole;
        next = λ g' n at' _. next g' n at';
      })
      g

  input_witness_at_lem : (g : Field) (at items l : ℕ) (b : Bool) (k : Seen → ℕ → Layout Head) → ((g' : Field) (items' l' : ℕ) (b' : Bool) (at' : ℕ) → At at' (quiet (next_input_witness (m.further (on g' at' z (ct v f ins outs items' lt) (sp i l' s u (as_number b')))))) (k (seen items' b') at')) → At at (quiet (m.compact 17 (on g at z (ct v f ins outs items lt) (sp i l s u (as_number b))))) (input_witness_at (min (z.items / 2) 4294967295) i (seen items b) at k)
  unfolding input_witness_at compact_settled body_entered body_seen opaque_settled body_ends
  input_witness_at_lem g at items l b k next =
      proof_at 17 (lit< tt) g at items l b _ _ (λ _ _ _. refl) (λ f' w n at'. input_two i 13 at' n) (λ _ _. refl) (λ _. refl) λ g₁ amount at₁.
      proof_at 18 (lit< tt) g₁ at₁ items l (b && eqb amount 0) _ _ (λ _ _ _. refl) (λ f' w n at'. input_two i 15 at' n) (λ _ _. refl) (λ _. refl) λ g₂ keys at₂.
      script_at_lem g₂ at₂ items l (b && eqb amount 0 && eqb keys 0) _ λ script g₃ at₃.
      pegin_at g₃ at₃ (items + script) 0 (b && eqb amount 0 && eqb keys 0 && eqb script 0) _ λ pegin g₄ at₄.
      next g₄ (items + script + pegin) 0 (b && eqb amount 0 && eqb keys 0 && eqb script 0 && eqb pegin 0) at₄

  output_witness_at_lem : (g : Field) (at items l : ℕ) (b : Bool) (k : Seen → ℕ → Layout Head) → ((g' : Field) (b' : Bool) (at' : ℕ) → At at' (quiet (next_output_witness (m.further (on g' at' z (ct v f ins outs items lt) (sp i l s u (as_number b')))))) (k (seen items b') at')) → At at (quiet (m.compact 23 (on g at z (ct v f ins outs items lt) (sp i l s u (as_number b))))) (output_witness_at i (seen items b) at k)
  unfolding output_witness_at compact_settled body_entered body_seen opaque_settled body_ends
  output_witness_at_lem g at items l b k next =
      proof_at 23 (lit< tt) g at items l b _ _ (λ _ _ _. refl) (λ f' w n at'. output_two i 10 at' n) (λ _ _. refl) (λ _. refl) λ g₁ surjection at₁.
      proof_at 24 (lit< tt) g₁ at₁ items l (b && eqb surjection 0) _ _ (λ _ _ _. refl) (λ f' w n at'. output_two i 12 at' n) (λ _ _. refl) (λ _. refl) λ g₂ range at₂.
      next g₂ (b && eqb surjection 0 && eqb range 0) at₂

next_input_witness_lem : (s : State) → s.spot.index < s.counts.inputs → next_input_witness s ≡ m.compact 17 s
unfolding next_input_witness
next_input_witness_lem s h = rw (lt-ltb s.spot.index s.counts.inputs h)

input_witnesses_end : (s : State) → s.counts.inputs ≤ s.spot.index → next_input_witness s ≡ next_output_witness (m.set_index 0 s)
unfolding next_input_witness
input_witnesses_end s h = rw (le-ltb s.spot.index s.counts.inputs h)

next_output_witness_lem : (s : State) → s.spot.index < s.counts.outputs → next_output_witness s ≡ m.compact 23 s
unfolding next_output_witness
next_output_witness_lem s h = rw (lt-ltb s.spot.index s.counts.outputs h)

output_witnesses_end : (s : State) → s.counts.outputs ≤ s.spot.index → next_output_witness s ≡ witnesses_end s
unfolding next_output_witness
output_witnesses_end s h = rw (le-ltb s.spot.index s.counts.outputs h)

module _ (z : Sizes) (v f ins outs lt s u : ℕ) where
  input_witnesses_at : (k : Seen → ℕ → Layout Head) → ((g : Field) (items l : ℕ) (b : Bool) (at : ℕ) → At at (quiet (next_output_witness (on g at z (ct v f ins outs items lt) (sp 0 l s u (as_number b))))) (k (seen items b) at)) → (count i : ℕ) (g : Field) (items l : ℕ) (b : Bool) (at : ℕ) → i + count ≡ ins → At at (quiet (next_input_witness (on g at z (ct v f ins outs items lt) (sp i l s u (as_number b))))) (each (input_witness_at (min (z.items / 2) 4294967295)) count i (seen items b) at k)
  unfolding each
  input_witnesses_at k next zero i g items l b at h = as_state (input_witnesses_end (on g at z (ct v f ins outs items lt) (sp i l s u (as_number b))) (omega arith)) (next g items l b at)
  input_witnesses_at k next (suc count) i g items l b at h =
      as_state (next_input_witness_lem (on g at z (ct v f ins outs items lt) (sp i l s u (as_number b))) (omega arith))
      (input_witness_at_lem z v f ins outs lt i s u g at items l b _ λ g' items' l' b' at'.
      as_state (ap (λ (j : ℕ). next_input_witness (on g' at' z (ct v f ins outs items' lt) (sp j l' s u (as_number b')))) (add-one i))
      (input_witnesses_at k next count (suc i) g' items' l' b' at' (omega arith)))

  output_witnesses_at : (k : Seen → ℕ → Layout Head) (items l : ℕ) → ((g : Field) (i : ℕ) (b : Bool) (at : ℕ) → At at (quiet (witnesses_end (on g at z (ct v f ins outs items lt) (sp i l s u (as_number b))))) (k (seen items b) at)) → (count i : ℕ) (g : Field) (b : Bool) (at : ℕ) → i + count ≡ outs → At at (quiet (next_output_witness (on g at z (ct v f ins outs items lt) (sp i l s u (as_number b))))) (each output_witness_at count i (seen items b) at k)
  unfolding each
  output_witnesses_at k items l next zero i g b at h = as_state (output_witnesses_end (on g at z (ct v f ins outs items lt) (sp i l s u (as_number b))) (omega arith)) (next g i b at)
  output_witnesses_at k items l next (suc count) i g b at h =
      as_state (next_output_witness_lem (on g at z (ct v f ins outs items lt) (sp i l s u (as_number b))) (omega arith))
      (output_witness_at_lem z v f ins outs lt i s u g at items l b _ λ g' b' at'.
      as_state (ap (λ (j : ℕ). next_output_witness (on g' at' z (ct v f ins outs items lt) (sp j l s u (as_number b')))) (add-one i))
      (output_witnesses_at k items l next count (suc i) g' b' at' (omega arith)))

-- ---- the whole transaction

-- the tables' sizes as the layout's definitions have them
abbrev pub sizes_of : Sizes → layout_outcome.Sizes
sizes_of z = record { inputs = z.inputs; outputs = z.outputs; items = z.items }

opened_first : (z : Sizes) → fresh z ≡ opened 0 0 LITTLE 4 (fresh z)
unfolding opened
opened_first z = refl

-- the end of the witnesses: refused where all are empty
end_at : (z : Sizes) (v f ins outs lt s u i l items : ℕ) (b : Bool) (g : Field) (at : ℕ) → At at (quiet (witnesses_end (on g at z (ct v f ins outs items lt) (sp i l s u (as_number b))))) (cond b (refuse 8 4) (accept (record { version = v; flag = f; inputs = ins; outputs = outs; items = items; locktime = lt; bytes = at })))
unfolding witnesses_end
end_at z v f ins outs lt s u i l items true g at = refuse_at 8 4 (on g at z (ct v f ins outs items lt) (sp i l s u 1))
end_at z v f ins outs lt s u i l items false g at = finish_at (on g at z (ct v f ins outs items lt) (sp i l s u 0))

pub fresh_at : (z : Sizes) → At 0 (quiet (fresh z)) (transaction (room_of (sizes_of z)))
unfolding transaction settle_by little_settled compact_settled inputs_counted outputs_counted count_at worth_of locktime_next
fresh_at z =
    as_state (opened_first z)
    (number_at_lem 0 (lit< tt) (field 0 LITTLE 4 0 0) 0 z (ct 0 0 0 0 0 0) (sp 0 0 0 0 0) 0 LITTLE 4 little _ (omega arith) (λ _. refl) λ version _.
    number_at_lem 1 (lit< tt) _ 4 z (ct version 0 0 0 0 0) (sp 0 0 0 0 0) 4 LITTLE 1 little _ (omega arith) (λ _. refl) λ flag _.
    compact_at_lem 2 (lit< tt) 5 z (ct version flag 0 0 0 0) (sp 0 0 0 0 0) _ _ λ f' w ins at₃ _.
    cond_at (leb ins (z.inputs / 20))
    (λ _. inputs_at_lem z (ct version flag ins 0 0 0) 0 0 _
    (λ g i s u at₄.
    compact_at_lem 11 (lit< tt) at₄ z (ct version flag ins 0 0 0) (sp i 0 s u 0) g _ λ f'' w' outs at₅ _.
    cond_at (leb outs (z.outputs / 14))
    (λ _. outputs_at_lem z (ct version flag ins outs 0 0) 0 s u 0 _
    (λ g' i' at₆.
    number_at_lem 16 (lit< tt) g' at₆ z (ct version flag ins outs 0 0) (sp i' 0 s u 0) at₆ LITTLE 4 little _ (omega arith) (λ _. refl) λ locktime _.
    cond_at (eqb flag 0) (λ _. finish_at (on (field 16 LITTLE 4 4 locktime) (at₆ + 4) z (ct version flag ins outs 0 locktime) (sp i' 0 s u 0))) λ _.
    cond_at (eqb flag 1)
    (λ _. input_witnesses_at z version flag ins outs locktime s u _
    (λ g₁ items l b at₈. output_witnesses_at z version flag ins outs locktime s u _ items l (λ g₂ j b' at₉. end_at z version flag ins outs locktime s u j l items b' g₂ at₉) outs 0 g₁ b at₈ (zero-add outs))
    ins 0 (field 16 LITTLE 4 4 locktime) 0 0 true (at₆ + 4) (zero-add ins))
    (λ _. refuse_at 7 4 (on (field 16 LITTLE 4 4 locktime) (at₆ + 4) z (ct version flag ins outs 0 locktime) (sp i' 0 s u 0))))
    outs 0 (field 11 f'' w' w' outs) at₅ (zero-add outs))
    (λ _. refuse_at 4 at₄ (st 11 f'' w' w' outs at₅ z (ct version flag ins 0 0 0) (sp i 0 s u 0))))
    ins 0 (field 2 f' w w ins) 0 0 at₃ (zero-add ins))
    (λ _. refuse_at 4 5 (st 2 f' w w ins at₃ z (ct version flag 0 0 0 0) (sp 0 0 0 0 0))))
