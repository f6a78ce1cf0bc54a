-- Opening the next field keeps the range, and what a length or count enters fits its table: the machine's parts, by what a state has
-- behind a field, whatever the field's form was.
use Prim.Native.Nat.{ℕ, ◌+◌, ◌-◌, ◌*◌, ◌^◌, ◌<◌, ◌≤◌}
use mathlib.Core.Path.{◌≡◌, refl, sym, subst}
use mathlib.Core.Bool.{Bool, true, false, cond, ◌||◌, true≢false}
use native.Mathlib.Omega.{arith}
use lib.Dec.{leb, ltb, eqb, lit≤}
use borrow.Author.Tests.{leb-true, leb-false, ltb-true, ltb-false, eqb-true, eqb-false, le-leb, lt-leb, eq-eqb}
use Rattle.layout.specs.Transaction.{limit, least}
use Rattle.layout.proofs.Reading.{by_cases}
use Rattle.std.specs.Prelude.{Some}
use Rattle.decoders.specs.declared.Sizes.{Sizes}
use Rattle.decoders.specs.declared.Entered.{Entered}
use Rattle.decoders.specs.declared.Settled.{Settled}
use Rattle.decoders.specs.Needs.{Enterable}
use Rattle.decoders.specs.Stages.{KEYS_PROOF, PEGIN_ITEM, RANGE_PROOF}
use Rattle.decoders.specs.Machine as m
use Rattle.decoders.specs.Machine.{FIRST, OPAQUE, LITTLE, State, settled, quiet, opened, compact_settled, length_settled, body_ends, body_entered, body_seen, body_opened, emptied, inputs_counted, outputs_counted, script_counted, pegin_counted, opaque_settled, next_input, next_output, next_input_witness, next_output_witness, next_script_item, next_pegin_item, witnesses_end}
use Rattle.decoders.specs.declared.row.Kind.TheVariants as reads
use Rattle.decoders.specs.Range.{size, least_width, greatest_width, own_bytes, in_range}
use Rattle.decoders.proofs.Rows.{kind_at, before, slack, scripts, dark_at, input_witnesses_read, output_witnesses_read, within}
use Rattle.decoders.proofs.Ranges.{Numbers, Few, Stands, Placed, Witnessed, open_range, finished_range, refuse_range}

pub record Ranged (s : State) : Type 0 where
  pub range : in_range s ≡ true

pub record Good (z : Sizes) (r : Settled) : Type 0 where
  pub ranged : Ranged r.decoder
  pub fits : Enterable r.entered z

pub good : {z : Sizes} {s : State} {e : Entered} → Ranged s → Enterable (Some e) z → Good z (settled s e)
good r f = record { ranged = r; fits = f }

pub silent : {z : Sizes} {s : State} → Ranged s → Good z (quiet s)
silent r = record { ranged = r; fits = tt }

-- ---- tests, ends, and opening a field

pub ruleset tests = (arith, ltb-true, ltb-false, leb-true, leb-false, eqb-true, eqb-false)

pub cond_ranged : (b : Bool) {s s' : State} → (b ≡ true → Ranged s) → (b ≡ false → Ranged s') → Ranged (cond b s s')
cond_ranged true f g = f refl
cond_ranged false f g = g refl

pub cond_good : {z : Sizes} (b : Bool) {r r' : Settled} → (b ≡ true → Good z r) → (b ≡ false → Good z r') → Good z (cond b r r')
cond_good true f g = f refl
cond_good false f g = g refl

pub refused : (n place : ℕ) (s : State) → Placed n place s.taken × (s.taken ≤ limit) → Ranged (m.refuse n place s)
refused n place s h = record { range = refuse_range n place s h.0 h.1 }

-- what a field needs to be opened behind the bytes taken
pub record Opens (place σ f w : ℕ) (s : State) : Type 0 where
  pub stage : σ ≤ 24
  pub some : 0 < w
  pub narrow : w ≤ 32
  pub near : place ≤ s.taken
  pub far : s.taken ≤ place + 9
  pub limited : s.taken ≤ limit
  pub stands : s.taken + w ≤ limit → Stands σ f (m.with_field (m.field σ f w 0 0) s)

pub opens : (place σ f w : ℕ) (s : State) → Opens place σ f w s → Ranged (opened place σ f w s)
unfolding opened
opens place σ f w s o =
    cond_ranged (leb (s.taken + w) limit)
    (λ e. record { range = open_range (m.with_field (m.field σ f w 0 0) s) (record { stage = o.stage; stands = o.stands (leb-true (s.taken + w) limit e); have = o.some }) })
    (λ e. refused 2 place s (omega (tests, o.narrow, o.near, o.far, o.limited)))

-- ---- the bytes of a count or length

pub size_some : (n : ℕ) → 1 ≤ size n
unfolding size
size_some n = by_cases (leb n 252) (λ e. rw e (omega arith)) λ e. by_cases (leb n 65535) (λ e'. rw (e, e') (omega arith)) λ e'. by_cases (leb n 4294967295) (λ e''. rw (e, e', e'') (omega arith)) (λ e''. rw (e, e', e'') (omega arith))

pub size_most : (n : ℕ) → size n ≤ 9
unfolding size
size_most n = by_cases (leb n 252) (λ e. rw e (omega arith)) λ e. by_cases (leb n 65535) (λ e'. rw (e, e') (omega arith)) λ e'. by_cases (leb n 4294967295) (λ e''. rw (e, e', e'') (omega arith)) (λ e''. rw (e, e', e'') (omega arith))

pub size_few : (n : ℕ) → n ≤ 252 → size n ≡ 1
unfolding size
size_few n h = rw (le-leb n 252 h)

-- further bytes that hold no less than so many must, and no more than they can
pub size_further : (w n : ℕ) → (eqb w 2 || eqb w 4 || eqb w 8) ≡ true → least w ≤ n → n < 256 ^ w → size n ≡ w + 1
unfolding size
size_further w n e l h =
    by_cases (eqb w 2)
    (λ q. subst (λ (x : ℕ). least x ≤ n → n < 256 ^ x → size n ≡ x + 1) (sym (eqb-true w 2 q)) (λ l' h'. rw (lt-leb n 252 (omega arith), le-leb n 65535 (omega arith))) l h)
    (λ q. by_cases (eqb w 4)
    (λ q'. subst (λ (x : ℕ). least x ≤ n → n < 256 ^ x → size n ≡ x + 1) (sym (eqb-true w 4 q')) (λ l' h'. rw (lt-leb n 252 (omega arith), lt-leb n 65535 (omega arith), le-leb n 4294967295 (omega arith))) l h)
    (λ q'. let q'' : eqb w 8 ≡ true = rw (q, q') at e in
    subst (λ (x : ℕ). least x ≤ n → n < 256 ^ x → size n ≡ x + 1) (sym (eqb-true w 8 q'')) (λ l' h'. rw (lt-leb n 252 (omega arith), lt-leb n 65535 (omega arith), lt-leb n 4294967295 (omega arith))) l h))

-- fewer have no longer a count
size_under : (n : ℕ) → (n ≤ 65535 → size n ≤ 3) × (n ≤ 4294967295 → size n ≤ 5)
unfolding size
size_under n = (
  λ h. by_cases (leb n 252) (λ e. rw e (omega arith)) (λ e. rw (e, le-leb n 65535 h) (omega arith)),
  λ h. by_cases (leb n 252) (λ e. rw e (omega arith)) (λ e. by_cases (leb n 65535) (λ e'. rw (e, e') (omega arith)) (λ e'. rw (e, e', le-leb n 4294967295 h) (omega arith))),
)

size_over : (n : ℕ) → (252 < n → 3 ≤ size n) × (65535 < n → 5 ≤ size n) × (4294967295 < n → 9 ≤ size n)
unfolding size
size_over n = (
  λ h. by_cases (leb n 65535) (λ e. rw (lt-leb n 252 h, e) (omega arith)) (λ e. by_cases (leb n 4294967295) (λ e'. rw (lt-leb n 252 h, e, e') (omega arith)) (λ e'. rw (lt-leb n 252 h, e, e') (omega arith))),
  λ h. by_cases (leb n 4294967295) (λ e. rw (lt-leb n 252 (omega arith), lt-leb n 65535 h, e) (omega arith)) (λ e. rw (lt-leb n 252 (omega arith), lt-leb n 65535 h, e) (omega arith)),
  λ h. rw (lt-leb n 252 (omega arith), lt-leb n 65535 (omega arith), lt-leb n 4294967295 h) (omega arith),
)

size_grows : (m n : ℕ) → m ≤ n → size m ≤ size n
size_grows m n h =
    by_cases (leb n 252) (λ e. omega (arith, size_few m (omega tests), size_some n)) λ e.
    by_cases (leb n 65535) (λ e'. omega (arith, (size_under m).0 (omega tests), (size_over n).0 (omega tests))) λ e'.
    by_cases (leb n 4294967295) (λ e''. omega (arith, (size_under m).1 (omega tests), (size_over n).1 (omega tests))) (λ e''. omega (arith, size_most m, (size_over n).2 (omega tests)))

-- ---- what follows a record, an item, a body

-- the bytes of the counts, inputs and outputs at least
abbrev Base : State → ℕ
Base s = size s.counts.inputs + size s.counts.outputs + 41 * s.counts.inputs + 4 * s.counts.outputs

-- where an input may begin, or the outputs' count
pub record InputNext (s : State) : Type 0 where
  pub taken : s.taken ≤ limit
  pub version : s.counts.version ≤ 4294967295
  pub flag : s.counts.flag ≤ 255
  pub inputs : 20 * s.counts.inputs ≤ s.sizes.inputs
  pub outputs : s.counts.outputs ≡ 0
  pub items : s.counts.items ≡ 0
  pub locktime : s.counts.locktime ≡ 0
  pub index : s.spot.index ≤ s.counts.inputs
  pub left : s.spot.left ≡ 0
  pub issuance : s.spot.issuance ≡ 0
  pub null : s.spot.null ≡ 0
  pub empty : s.spot.empty ≡ 0
  pub least : 5 + size s.counts.inputs + 41 * s.spot.index ≤ s.taken
  pub exact : s.taken ≤ 5 + size s.counts.inputs + 41 * s.spot.index + limit * s.spot.index

pub next_input_lem : (s : State) → InputNext s → Ranged (next_input s)
unfolding next_input least_width greatest_width own_bytes
next_input_lem s b =
    cond_ranged (ltb s.spot.index s.counts.inputs)
    (λ e. opens s.taken 3 OPAQUE 32 s (omega tests))
    (λ e. opens s.taken 11 FIRST 1 s (omega tests))

-- where an output may begin, or the locktime
pub record OutputNext (s : State) : Type 0 where
  pub taken : s.taken ≤ limit
  pub version : s.counts.version ≤ 4294967295
  pub flag : s.counts.flag ≤ 255
  pub inputs : 20 * s.counts.inputs ≤ s.sizes.inputs
  pub outputs : 14 * s.counts.outputs ≤ s.sizes.outputs
  pub items : s.counts.items ≡ 0
  pub locktime : s.counts.locktime ≡ 0
  pub index : s.spot.index ≤ s.counts.outputs
  pub left : s.spot.left ≡ 0
  pub issuance : s.spot.issuance ≡ 0
  pub null : s.spot.null ≡ 0
  pub empty : s.spot.empty ≡ 0
  pub least : 5 + size s.counts.inputs + size s.counts.outputs + 41 * s.counts.inputs + 4 * s.spot.index ≤ s.taken
  pub exact : s.taken ≤ 5 + size s.counts.inputs + size s.counts.outputs + 41 * s.counts.inputs + 4 * s.spot.index + limit * (s.counts.inputs + s.spot.index)

pub next_output_lem : (s : State) → OutputNext s → Ranged (next_output s)
unfolding next_output least_width greatest_width own_bytes
next_output_lem s b =
    cond_ranged (ltb s.spot.index s.counts.outputs)
    (λ e. opens s.taken 12 LITTLE 1 s (omega tests))
    (λ e. opens s.taken 16 LITTLE 4 s (omega tests))

-- what holds from the locktime on
pub record Witnessing (s : State) : Type 0 where
  pub taken : s.taken ≤ limit
  pub version : s.counts.version ≤ 4294967295
  pub flag : s.counts.flag ≡ 1
  pub inputs : 20 * s.counts.inputs ≤ s.sizes.inputs
  pub outputs : 14 * s.counts.outputs ≤ s.sizes.outputs
  pub items : 2 * s.counts.items + 2 * s.spot.left ≤ s.sizes.items
  pub fewer : s.counts.items + s.spot.left ≤ 4294967295
  pub locktime : s.counts.locktime ≤ 4294967295
  pub issuance : s.spot.issuance ≡ 0
  pub null : s.spot.null ≡ 0
  pub unlit : s.counts.items + limit * s.spot.empty ≤ limit

-- where an output's witness may begin, or the end
pub record OutputWitnessNext (s : State) : Type 0 where
  pub witnessing : Witnessing s
  pub index : s.spot.index ≤ s.counts.outputs
  pub left : s.spot.left ≡ 0
  pub least : 9 + Base s + 4 * s.counts.inputs + 2 * s.spot.index + s.counts.items ≤ s.taken
  pub lit : 9 + Base s + 4 * s.counts.inputs + 2 * s.spot.index + 1 ≤ s.taken + s.spot.empty
  pub stacks : s.counts.items ≤ limit * s.counts.inputs
  pub seen : 1 ≤ s.spot.empty + s.counts.inputs + s.spot.index

finishes : (s : State) → OutputWitnessNext s → s.counts.outputs ≤ s.spot.index → (s.spot.empty ≡ 1 → ⊥) → Ranged (m.finished s)
finishes s b all some =
    let none : s.spot.empty ≡ 0 = omega arith in
    let w : Witnessed (m.finished s) = omega arith in
    record { range = finished_range (m.finished s) refl (record { form = refl; width = refl; have = refl; value = refl; taken = omega arith; version = omega arith; flag = omega arith; inputs = omega arith; few_inputs = omega arith; outputs = omega arith; few_outputs = omega arith; items = omega arith; few_items = omega arith; locktime = omega arith; index = refl; left = refl; issuance = refl; null = refl; empty = refl; least = omega arith; exact = omega arith; witnessed = rw (eq-eqb s.counts.flag 1 b.witnessing.flag) w }) }

next_output_witness_lem : (s : State) → OutputWitnessNext s → Ranged (next_output_witness s)
unfolding next_output_witness witnesses_end least_width greatest_width own_bytes
next_output_witness_lem s b =
    cond_ranged (ltb s.spot.index s.counts.outputs)
    (λ e. opens s.taken 23 FIRST 1 s (omega tests))
    (λ e. cond_ranged (eqb s.spot.empty 1) (λ _. let i = size_some s.counts.inputs in let o = size_some s.counts.outputs in refused 8 4 s (omega arith)) (λ e'. finishes s b (ltb-false _ _ e) (eqb-false _ _ e')))

-- where an input's witness may begin, or the outputs' witnesses
pub record InputWitnessNext (s : State) : Type 0 where
  pub witnessing : Witnessing s
  pub index : s.spot.index ≤ s.counts.inputs
  pub left : s.spot.left ≡ 0
  pub least : 9 + Base s + 4 * s.spot.index + s.counts.items ≤ s.taken
  pub lit : 9 + Base s + 4 * s.spot.index + 1 ≤ s.taken + s.spot.empty
  pub stacks : s.counts.items ≤ limit * s.spot.index
  pub seen : 1 ≤ s.spot.empty + s.spot.index

pub next_input_witness_lem : (s : State) → InputWitnessNext s → Ranged (next_input_witness s)
unfolding next_input_witness least_width greatest_width own_bytes
next_input_witness_lem s b =
    cond_ranged (ltb s.spot.index s.counts.inputs)
    (λ e. opens s.taken 17 FIRST 1 s (omega tests))
    (λ e. let all : s.spot.index ≡ s.counts.inputs = omega (tests, b.index) in next_output_witness_lem (m.set_index 0 s) (omega arith))

-- where an item may begin, k bytes into the witness, or what follows the stack
pub record ItemNext (k : ℕ) (s : State) : Type 0 where
  pub witnessing : Witnessing s
  pub index : s.spot.index < s.counts.inputs
  pub least : k + Base s + 4 * s.spot.index + size s.spot.left + s.counts.items ≤ s.taken
  pub lit : k + Base s + 4 * s.spot.index + 2 ≤ s.taken + s.spot.empty + s.spot.left
  pub unlit : 4294967295 * s.spot.empty + s.spot.left ≤ 4294967295

next_script_item_lem : (s : State) → ItemNext 11 s → Ranged (next_script_item s)
unfolding next_script_item least_width greatest_width own_bytes
next_script_item_lem s b =
    let some = size_some s.spot.left in
    cond_ranged (ltb 0 s.spot.left)
    (λ e. opens s.taken 20 FIRST 1 s (omega tests))
    (λ e. opens s.taken 21 FIRST 1 s (omega tests))

next_pegin_item_lem : (s : State) → ItemNext 12 s → Ranged (next_pegin_item s)
unfolding next_pegin_item least_width greatest_width own_bytes
next_pegin_item_lem s b =
    let some = size_some s.spot.left in
    cond_ranged (ltb 0 s.spot.left)
    (λ e. opens s.taken 22 FIRST 1 s (omega tests))
    (λ e. next_input_witness_lem (m.further s) (omega tests))

-- ---- counts and lengths

-- what a state has when a count or length that begins at `start` has been read
pub record Behind (σ start : ℕ) (s : State) : Type 0 where
  pub numbers : Numbers σ FIRST s
  pub few : Few σ s
  pub least : before σ s + s.counts.items ≤ start + 8 * s.spot.null
  pub lit : before σ s + dark_at σ FIRST ≤ start + 8 * s.spot.null + s.spot.empty
  pub exact : start ≤ before σ s + slack σ + limit * scripts σ s
  pub seen : dark_at σ FIRST ≤ s.spot.empty + input_witnesses_read σ s + output_witnesses_read σ s + within KEYS_PROOF PEGIN_ITEM σ + within RANGE_PROOF RANGE_PROOF σ

abbrev pub Counted : ℕ → Type 0
Counted σ = (start n : ℕ) (s : State) → start + size n ≡ s.taken → Behind σ start s → Good s.sizes (compact_settled σ start n s)

pub inputs_counted_lem : Counted 2
unfolding compact_settled inputs_counted
inputs_counted_lem start n s h b =
    let some = size_some n in let most = size_most n in
    silent (cond_ranged (leb n (m.input_room s)) (λ e. next_input_lem (m.set_index 0 (m.set_inputs n s)) (omega tests)) (λ _. refused 4 start s (omega arith)))

pub outputs_counted_lem : Counted 11
unfolding compact_settled outputs_counted
outputs_counted_lem start n s h b =
    let some = size_some n in let most = size_most n in
    silent (cond_ranged (leb n (m.output_room s)) (λ e. next_output_lem (m.set_index 0 (m.set_outputs n s)) (omega tests)) (λ _. refused 4 start s (omega arith)))

emptied_case : (P : State → Type 0) (n : ℕ) (s : State) → (n ≡ 0 → P s) → (0 < n → P (m.set_empty 0 s)) → P (emptied n s)
unfolding emptied
emptied_case P n s p q = by_cases (eqb n 0) (λ e. rw e (p (eqb-true n 0 e))) (λ e. rw e (q (omega tests)))

pub script_counted_lem : Counted 19
unfolding compact_settled script_counted
script_counted_lem start n s h b =
    let some = size_some n in let most = size_most n in let i = size_some s.counts.inputs in let o = size_some s.counts.outputs in
    cond_good (leb n (m.item_room s - s.counts.items))
    (λ e.
    good
    (emptied_case (λ (s' : State). Ranged (next_script_item s')) n (m.set_left n s)
    (λ z. next_script_item_lem (m.set_left n s) (omega tests))
    (λ z. next_script_item_lem (m.set_empty 0 (m.set_left n s)) (omega tests)))
    (omega tests))
    (λ _. silent (refused 4 start s (omega arith)))

pub pegin_counted_lem : Counted 21
unfolding compact_settled pegin_counted
pegin_counted_lem start n s h b =
    let some = size_some n in let most = size_most n in let i = size_some s.counts.inputs in let o = size_some s.counts.outputs in
    cond_good (leb n (m.item_room s - s.counts.items))
    (λ e.
    good
    (emptied_case (λ (s' : State). Ranged (next_pegin_item s')) n (m.set_left n s)
    (λ z. next_pegin_item_lem (m.set_left n s) (omega tests))
    (λ z. next_pegin_item_lem (m.set_empty 0 (m.set_left n s)) (omega tests)))
    (omega tests))
    (λ _. silent (refused 4 start s (omega arith)))

-- what a state has behind a body, its length's least byte and, where it was not empty, a byte of it
pub record Ended (σ : ℕ) (s : State) : Type 0 where
  pub numbers : Numbers σ FIRST s
  pub few : Few σ s
  pub least : before σ s + s.counts.items + 1 ≤ s.taken + 8 * s.spot.null
  pub lit : before σ s + dark_at σ FIRST + 1 ≤ s.taken + 8 * s.spot.null + s.spot.empty

abbrev proof : ℕ → Bool
proof σ = eqb σ 17 || eqb σ 18 || eqb σ 23 || eqb σ 24

-- a stage of a length and body
pub record Body (σ : ℕ) : Type 0 where
  pub stage : σ ≤ 24
  pub kind : kind_at σ ≡ reads.Body
  pub length : (start n : ℕ) (s : State) → compact_settled σ start n s ≡ length_settled σ start n s
  pub whole : (s : State) → opaque_settled σ s ≡ quiet (body_ends σ s)
  pub enters : (n : ℕ) (s : State) → Numbers σ FIRST s → Few σ s → s.taken + n ≤ limit → Enterable (Some (body_entered σ n s)) s.sizes
  pub unlit : (s : State) → Numbers σ FIRST s → proof σ ≡ false → s.spot.empty ≡ 0
  pub late : (start : ℕ) (s : State) → Behind σ start s → 10 ≤ start
  pub ends : (s : State) → Ended σ s → Ranged (body_ends σ s)

seen_case : (P : State → Type 0) (σ n : ℕ) (s : State) → (n ≡ 0 → P s) → (0 < n → proof σ ≡ false → P s) → (0 < n → P (m.set_empty 0 s)) → P (body_seen σ n s)
unfolding body_seen
seen_case P σ n s p q r =
    by_cases (proof σ)
    (λ e. rw e (emptied_case P n s p r))
    (λ e. rw e (by_cases (eqb n 0) (λ e'. p (eqb-true n 0 e')) (λ e'. q (omega tests) e)))

-- a state whose witnesses were shown not to be empty stays so
shown : (s : State) → s.spot.empty ≡ 0 → m.set_empty 0 s ≡ s
shown s e = let q = sym e in λ j. m.set_empty (q j) s

module _ (σ : ℕ) (b : Body σ) (start n : ℕ) (s : State) (e : start + size n ≡ s.taken) (h : s.taken + n ≤ limit) (r : Behind σ start s) where
  body_stands : 0 < n → Stands σ OPAQUE (m.with_field (m.field σ OPAQUE n 0 0) (m.set_empty 0 s))
  unfolding least_width greatest_width own_bytes
  body_stands some =
      let k = r.numbers in
      record {
        numbers = record { taken = k.taken; version = k.version; no_version = k.no_version; flagged = k.flagged; flag = k.flag; inputs = k.inputs; no_inputs = k.no_inputs; outputs = k.outputs; no_outputs = k.no_outputs; no_items = k.no_items; locktime = k.locktime; no_locktime = k.no_locktime; index = k.index; some_left = k.some_left; items = k.items; fewer = k.fewer; issued = k.issued; issuance = k.issuance; null = k.null; empty = omega arith };
        above = rw b.kind (omega arith);
        below = rw b.kind (omega arith);
        wide = rw b.kind some;
        narrow = rw b.kind (omega (arith, h));
        further = tt;
        value = refl;
        few = record { inputs = r.few.inputs; outputs = r.few.outputs; input_witnesses = r.few.input_witnesses; index = r.few.index; items = r.few.items; unlit = omega (arith, r.few.items); stacks = r.few.stacks };
        least = rw b.kind (omega (arith, e, r.least));
        lit = rw b.kind (omega (arith, e, r.least));
        exact = rw b.kind (omega (arith, e, r.exact));
        room = omega (arith, h);
        seen = omega arith;
      }

  opened_some : 0 < n → Ranged (body_opened σ n (m.set_empty 0 s))
  unfolding body_opened
  opened_some some =
      cond_ranged (eqb n 0)
      (λ q. absurd (omega (tests, some)))
      (λ q. record { range = open_range (m.with_field (m.field σ OPAQUE n 0 0) (m.set_empty 0 s)) (record { stage = b.stage; stands = body_stands some; have = some }) })

  opened_none : n ≡ 0 → Ranged (body_opened σ n s)
  unfolding body_opened
  opened_none none =
      cond_ranged (eqb n 0)
      (λ q. b.ends s (record { numbers = r.numbers; few = r.few; least = omega (arith, e, size_some n, r.least); lit = omega (arith, e, size_some n, r.lit) }))
      (λ q. absurd (omega (tests, none)))

module _ (σ : ℕ) (b : Body σ) where
  pub body_counted : Counted σ
  unfolding length_settled
  body_counted start n s e r =
      rw (b.length start n s)
      (cond_good (leb (s.taken + n) limit)
      (λ q.
      let fits = leb-true (s.taken + n) limit q in
      good
      (seen_case (λ (s' : State). Ranged (body_opened σ n s')) σ n s
      (λ none. opened_none σ b start n s e fits r none)
      (λ some not. subst (λ (s' : State). Ranged (body_opened σ n s')) (shown s (b.unlit s r.numbers not)) (opened_some σ b start n s e fits r some))
      (λ some. opened_some σ b start n s e fits r some))
      (b.enters n s r.numbers r.few fits))
      (λ q. silent (refused 2 start s (omega (arith, e, size_some n, size_most n, b.late start s r, r.numbers.taken)))))

pub input_script : Body 5
unfolding compact_settled opaque_settled body_entered body_ends least_width greatest_width own_bytes
input_script =
    record {
      stage = lit≤ tt;
      kind = refl;
      length = λ start n s. refl;
      whole = λ s. refl;
      enters = λ n s k f h. omega arith;
      unlit = λ s k e. omega arith;
      late = λ start s r. let i = size_some s.counts.inputs in omega arith;
      ends = λ s r. opens s.taken 6 LITTLE 4 s (omega arith);
    }

pub output_script : Body 15
unfolding compact_settled opaque_settled body_entered body_ends
output_script =
    record {
      stage = lit≤ tt;
      kind = refl;
      length = λ start n s. refl;
      whole = λ s. refl;
      enters = λ n s k f h. omega arith;
      unlit = λ s k e. omega arith;
      late = λ start s r. let i = size_some s.counts.inputs in let o = size_some s.counts.outputs in omega arith;
      ends = λ s r. next_output_lem (m.further s) (omega arith);
    }

pub amount_proof_lem : Body 17
unfolding compact_settled opaque_settled body_entered body_ends least_width greatest_width own_bytes
amount_proof_lem =
    record {
      stage = lit≤ tt;
      kind = refl;
      length = λ start n s. refl;
      whole = λ s. refl;
      enters = λ n s k f h. omega arith;
      unlit = λ s k e. absurd (true≢false e);
      late = λ start s r. let i = size_some s.counts.inputs in let o = size_some s.counts.outputs in omega arith;
      ends = λ s r. opens s.taken 18 FIRST 1 s (omega arith);
    }

pub keys_proof_lem : Body 18
unfolding compact_settled opaque_settled body_entered body_ends least_width greatest_width own_bytes
keys_proof_lem =
    record {
      stage = lit≤ tt;
      kind = refl;
      length = λ start n s. refl;
      whole = λ s. refl;
      enters = λ n s k f h. omega arith;
      unlit = λ s k e. absurd (true≢false e);
      late = λ start s r. let i = size_some s.counts.inputs in let o = size_some s.counts.outputs in omega arith;
      ends = λ s r. opens s.taken 19 FIRST 1 s (omega arith);
    }

pub script_item : Body 20
unfolding compact_settled opaque_settled body_entered body_ends
script_item =
    record {
      stage = lit≤ tt;
      kind = refl;
      length = λ start n s. refl;
      whole = λ s. refl;
      enters = λ n s k f h. omega arith;
      unlit = λ s k e. omega arith;
      late = λ start s r. let i = size_some s.counts.inputs in let o = size_some s.counts.outputs in omega arith;
      ends = λ s r. let l = size_grows (s.spot.left - 1) s.spot.left (omega arith) in let some = size_some s.spot.left in next_script_item_lem (m.item_ends s) (omega arith);
    }

pub pegin_item : Body 22
unfolding compact_settled opaque_settled body_entered body_ends
pegin_item =
    record {
      stage = lit≤ tt;
      kind = refl;
      length = λ start n s. refl;
      whole = λ s. refl;
      enters = λ n s k f h. omega arith;
      unlit = λ s k e. omega arith;
      late = λ start s r. let i = size_some s.counts.inputs in let o = size_some s.counts.outputs in omega arith;
      ends = λ s r. let l = size_grows (s.spot.left - 1) s.spot.left (omega arith) in let some = size_some s.spot.left in next_pegin_item_lem (m.item_ends s) (omega arith);
    }

pub surjection_proof_lem : Body 23
unfolding compact_settled opaque_settled body_entered body_ends least_width greatest_width own_bytes
surjection_proof_lem =
    record {
      stage = lit≤ tt;
      kind = refl;
      length = λ start n s. refl;
      whole = λ s. refl;
      enters = λ n s k f h. omega arith;
      unlit = λ s k e. absurd (true≢false e);
      late = λ start s r. let i = size_some s.counts.inputs in let o = size_some s.counts.outputs in omega arith;
      ends = λ s r. opens s.taken 24 FIRST 1 s (omega arith);
    }

pub range_proof_lem : Body 24
unfolding compact_settled opaque_settled body_entered body_ends
range_proof_lem =
    record {
      stage = lit≤ tt;
      kind = refl;
      length = λ start n s. refl;
      whole = λ s. refl;
      enters = λ n s k f h. omega arith;
      unlit = λ s k e. absurd (true≢false e);
      late = λ start s r. let i = size_some s.counts.inputs in let o = size_some s.counts.outputs in omega arith;
      ends = λ s r. next_output_witness_lem (m.further s) (omega arith);
    }
