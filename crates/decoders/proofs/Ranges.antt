-- The range test as plain statements, and what it is worth: sums that do not wrap, and room for the bytes of a field.
use Prim.Native.Nat.{ℕ, zero, suc, ◌+◌, ◌*◌, ◌^◌, ◌<◌, ◌≤◌}
use mathlib.Core.Path.{◌≡◌, refl, sym, ◌∙◌, ap, subst}
use mathlib.Core.Bool.{Bool, true, false, cond, ◌&&◌, ◌||◌, and-eq-true_iff, true≢false}
use mathlib.Core.Logic.{◌↔◌}
use native.Mathlib.Omega.{arith}
use lib.Dec.{leb, ltb, eqb, lit≤}
use lib.ListN.{get_or}
use borrow.Author.Tests.{leb-true, leb-false, eqb-true, eqb-false, le-leb, eq-eqb, ne_eqb}
use Rattle.layout.specs.Transaction.{limit}
use Rattle.layout.proofs.Reading.{by_cases}
use Rattle.decoders.specs.declared.Sizes.{Sizes}
use Rattle.decoders.specs.declared.row.Kind.{Kind}
use Rattle.decoders.specs.Stages.{VERSION, INPUT_COUNT, INPUT_SCRIPT, BLINDING_NONCE, INFLATION_KEYS, OUTPUT_COUNT, LOCKTIME, KEYS_PROOF, SCRIPT_ITEM, PEGIN_ITEM, RANGE_PROOF}
use Rattle.decoders.specs.Needs.{Endable, Numbered}
use Rattle.encode.specs.declared.refusal.RefusalKind.{RefusalKind}
use Rattle.encode.specs.declared.refusal.RefusalKind.TheVariants.{EndsEarly, LimitPassed, NotShortest, NoRecordLeft, BadPrefix, NullIssuance, BadFlag, EmptyWitnesses}
use Rattle.encode.specs.Refusal.{number_of}
use Rattle.decoders.specs.Machine as m
use Rattle.decoders.specs.Machine.{FURTHER, FIRST, OPAQUE, LITTLE, State, Safe, gathered, fresh}
use Rattle.decoders.specs.Range.{size, is_number, is_body, least_forms, greatest_forms, least_width, greatest_width, own_bytes, shape_fits, field_range, exact, among_inputs, among_outputs, among_witnesses, in_opening, unwitnessed, input_numbers, in_input, inputs_numbers, behind_inputs, output_numbers, in_output, outputs_numbers, behind_outputs, witness_numbers, input_witness_numbers, in_input_witness, stack_numbers, in_stack, output_witness_numbers, in_output_witness, plain, ended_range, whole_fits, whole_range, nears, fars, least_places, greatest_places, refused_range, placed_fits, row_of, in_range}
use Rattle.decoders.proofs.Rows.{kind_at, behind, upto, within, stacked, inputs_read, outputs_read, input_witnesses_read, output_witnesses_read, before, slack, scripts, dark_at, greatest_flag, total, between}

-- ---- tests as statements

-- P, where the test passes
abbrev pub given : Bool → Type 0 → Type 0
given b P = cond b P (Unit {0})

-- what a test says
pub le_iff : (a b : ℕ) → (leb a b ≡ true) ↔ (a ≤ b)
le_iff a b = (leb-true a b, le-leb a b)

pub eq_iff : (a b : ℕ) → (eqb a b ≡ true) ↔ (a ≡ b)
eq_iff a b = (eqb-true a b, eq-eqb a b)

pub value_iff : (c : Bool) (v n : ℕ) → (cond c (eqb v 0) (ltb v n) ≡ true) ↔ cond c (v ≡ 0) (v < n)
value_iff true v n = eq_iff v 0
value_iff false v n = le_iff (suc v) n

pub index_iff : (c : Bool) (v n : ℕ) → (cond c (eqb v n) (ltb v n) ≡ true) ↔ cond c (v ≡ n) (v < n)
index_iff true v n = eq_iff v n
index_iff false v n = le_iff (suc v) n

pub left_iff : (c : Bool) (v : ℕ) → (cond c (leb 1 v) (eqb v 0) ≡ true) ↔ cond c (1 ≤ v) (v ≡ 0)
left_iff true v = le_iff 1 v
left_iff false v = eq_iff v 0

-- a count's or length's further bytes
abbrev pub Further : ℕ → Type 0
Further w = cond (eqb w 2 || eqb w 4 || eqb w 8) (Unit {0}) ⊥

pub further_iff : (c t : Bool) → (cond c t true ≡ true) ↔ given c (t ≡ true)
further_iff true t = (λ e. e, λ e. e)
further_iff false t = (λ _. tt, λ _. refl)

pub ruleset says = (and-eq-true_iff, le_iff, eq_iff, value_iff, index_iff, left_iff, further_iff)

-- ---- what the test says

-- of the numbers that outlast a field, at stage σ and form f
pub record Numbers (σ f : ℕ) (s : State) : Type 0 where
  pub taken : s.taken ≤ limit
  pub version : s.counts.version ≤ 4294967295
  pub no_version : upto VERSION s.counts.version σ ≡ 0
  pub flagged : behind LOCKTIME 1 σ ≤ s.counts.flag
  pub flag : s.counts.flag ≤ greatest_flag σ
  pub inputs : 20 * s.counts.inputs ≤ s.sizes.inputs
  pub no_inputs : upto INPUT_COUNT s.counts.inputs σ ≡ 0
  pub outputs : 14 * s.counts.outputs ≤ s.sizes.outputs
  pub no_outputs : upto OUTPUT_COUNT s.counts.outputs σ ≡ 0
  pub no_items : upto LOCKTIME s.counts.items σ ≡ 0
  pub locktime : s.counts.locktime ≤ 4294967295
  pub no_locktime : upto LOCKTIME s.counts.locktime σ ≡ 0
  pub index : cond (between σ) (s.spot.index ≡ total σ s) (s.spot.index < total σ s)
  pub some_left : cond (stacked σ) (1 ≤ s.spot.left) (s.spot.left ≡ 0)
  pub items : 2 * s.counts.items + 2 * s.spot.left ≤ s.sizes.items
  pub fewer : s.counts.items + s.spot.left ≤ 4294967295
  pub issued : within BLINDING_NONCE INFLATION_KEYS σ ≤ s.spot.issuance
  pub issuance : s.spot.issuance ≤ within INPUT_SCRIPT INFLATION_KEYS σ
  pub null : s.spot.null ≤ within INFLATION_KEYS INFLATION_KEYS σ
  pub empty : s.spot.empty ≤ dark_at σ f

-- of how many records and items were read
pub record Few (σ : ℕ) (s : State) : Type 0 where
  pub inputs : inputs_read σ s ≤ limit
  pub outputs : outputs_read σ s ≤ limit
  pub input_witnesses : input_witnesses_read σ s ≤ limit
  pub index : s.spot.index ≤ limit
  pub items : s.counts.items ≤ limit
  pub unlit : s.counts.items + limit * s.spot.empty ≤ limit
  pub stacks : s.counts.items ≤ limit * (input_witnesses_read σ s + within SCRIPT_ITEM PEGIN_ITEM σ)

-- of a field at stage σ and of form f, however many of its bytes are there, and of where it lies
pub record Stands (σ f : ℕ) (s : State) : Type 0 where
  pub numbers : Numbers σ f s
  pub above : least_forms (kind_at σ) ≤ f
  pub below : f ≤ greatest_forms (kind_at σ)
  pub wide : least_width (kind_at σ) f ≤ s.field.width
  pub narrow : s.field.width ≤ greatest_width (kind_at σ) f
  pub further : given (eqb f FURTHER) ((eqb s.field.width 2 || eqb s.field.width 4 || eqb s.field.width 8) ≡ true)
  pub value : cond (eqb f OPAQUE) (s.field.value ≡ 0) (s.field.value < 256 ^ s.field.have)
  pub few : Few σ s
  pub least : before σ s + own_bytes (kind_at σ) f s.field.width + s.counts.items + s.field.have ≤ s.taken + 8 * s.spot.null
  pub lit : before σ s + own_bytes (kind_at σ) f s.field.width + dark_at σ f + s.field.have ≤ s.taken + 8 * s.spot.null + s.spot.empty
  pub exact : s.taken ≤ before σ s + own_bytes (kind_at σ) f s.field.width + s.field.have + slack σ + limit * scripts σ s
  pub room : s.taken + s.field.width ≤ limit + s.field.have
  pub seen : dark_at σ f ≤ s.spot.empty + input_witnesses_read σ s + output_witnesses_read σ s + within KEYS_PROOF PEGIN_ITEM σ + within RANGE_PROOF RANGE_PROOF σ

-- a field that is open, and one whose last byte has just been gathered
pub record Open (s : State) : Type 0 where
  pub stage : s.field.stage ≤ 24
  pub stands : Stands s.field.stage s.field.form s
  pub have : s.field.have < s.field.width

pub record Ready (s : State) : Type 0 where
  pub stage : s.field.stage ≤ 24
  pub stands : Stands s.field.stage s.field.form s
  pub have : s.field.have ≡ s.field.width

-- stage 25
pub record Witnessed (s : State) : Type 0 where
  pub items : plain s.counts.inputs s.counts.outputs + 4 * s.counts.inputs + 2 * s.counts.outputs + s.counts.items ≤ s.taken
  pub lit : plain s.counts.inputs s.counts.outputs + 4 * s.counts.inputs + 2 * s.counts.outputs + 1 ≤ s.taken
  pub stacks : s.counts.items ≤ limit * s.counts.inputs
  pub some : 1 ≤ s.counts.inputs + s.counts.outputs

pub record Finished (s : State) : Type 0 where
  pub form : s.field.form ≡ 0
  pub width : s.field.width ≡ 0
  pub have : s.field.have ≡ 0
  pub value : s.field.value ≡ 0
  pub taken : s.taken ≤ limit
  pub version : s.counts.version ≤ 4294967295
  pub flag : s.counts.flag ≤ 1
  pub inputs : 20 * s.counts.inputs ≤ s.sizes.inputs
  pub few_inputs : s.counts.inputs ≤ limit
  pub outputs : 14 * s.counts.outputs ≤ s.sizes.outputs
  pub few_outputs : s.counts.outputs ≤ limit
  pub items : 2 * s.counts.items ≤ s.sizes.items
  pub few_items : s.counts.items ≤ limit
  pub locktime : s.counts.locktime ≤ 4294967295
  pub index : s.spot.index ≡ 0
  pub left : s.spot.left ≡ 0
  pub issuance : s.spot.issuance ≡ 0
  pub null : s.spot.null ≡ 0
  pub empty : s.spot.empty ≡ 0
  pub least : plain s.counts.inputs s.counts.outputs ≤ s.taken
  pub exact : s.taken ≤ plain s.counts.inputs s.counts.outputs + limit * (s.counts.inputs + s.counts.outputs)
  pub witnessed : cond (eqb s.counts.flag 1) (Witnessed s) (s.counts.items ≡ 0)

-- stage 26: the place of a refusal by its number
pub record Placed (n place taken : ℕ) : Type 0 where
  pub least : 1 ≤ n
  pub greatest : n ≤ 8
  pub near : place + get_or nears n 0 ≤ taken
  pub far : taken ≤ place + get_or fars n 0
  pub first : get_or least_places n 0 ≤ place
  pub last : place ≤ get_or greatest_places n 0

pub record Refused (s : State) : Type 0 where
  pub taken : s.taken ≤ limit
  pub form : s.field.form ≡ 0
  pub width : s.field.width ≡ 0
  pub have : s.field.have ≤ s.taken
  pub least : 1 ≤ s.field.value
  pub greatest : s.field.value ≤ 8
  pub version : s.counts.version ≡ 0
  pub flag : s.counts.flag ≡ 0
  pub inputs : s.counts.inputs ≡ 0
  pub outputs : s.counts.outputs ≡ 0
  pub items : s.counts.items ≡ 0
  pub locktime : s.counts.locktime ≡ 0
  pub index : s.spot.index ≡ 0
  pub left : s.spot.left ≡ 0
  pub issuance : s.spot.issuance ≡ 0
  pub null : s.spot.null ≡ 0
  pub empty : s.spot.empty ≡ 0
  pub placed : Placed s.field.value s.field.have s.taken

-- the field that is open, by what its stage reads
pub record Fielded (kind : Kind) (s : State) : Type 0 where
  pub above : least_forms kind ≤ s.field.form
  pub below : s.field.form ≤ greatest_forms kind
  pub wide : least_width kind s.field.form ≤ s.field.width
  pub narrow : s.field.width ≤ greatest_width kind s.field.form
  pub further : given (eqb s.field.form FURTHER) ((eqb s.field.width 2 || eqb s.field.width 4 || eqb s.field.width 8) ≡ true)
  pub have : s.field.have < s.field.width
  pub value : cond (eqb s.field.form OPAQUE) (s.field.value ≡ 0) (s.field.value < 256 ^ s.field.have)

field_iff : (kind : Kind) (s : State) → (field_range kind s ≡ true) ↔ Fielded kind s
unfolding field_range
field_iff kind s = (
  λ e. let ((((((above, below), wide), narrow), further), have), value) = simp says at e in record { above = above; below = below; wide = wide; narrow = narrow; further = further; have = have; value = value },
  λ k. simp says ((((((k.above, k.below), k.wide), k.narrow), k.further), k.have), k.value),
)

-- a number has 8 bytes at most, any field no more than the limit
pub number_narrow : (kind : Kind) (form : ℕ) → (form ≡ OPAQUE → ⊥) → greatest_width kind form ≤ 8
unfolding greatest_width
number_narrow kind form h =
    by_cases (eqb form FURTHER) (λ a. rw a (omega arith)) λ a.
    by_cases (eqb form FIRST) (λ b. rw (a, b) (omega arith)) λ b.
    by_cases (eqb form LITTLE)
    (λ d. rw (a, b, ne_eqb form OPAQUE h, d) (by_cases (is_number kind) (λ e. rw e (omega arith)) (λ e. rw e (omega arith))))
    (λ d. rw (a, b, ne_eqb form OPAQUE h, d) (omega arith))

pub width_most : (kind : Kind) (form : ℕ) → greatest_width kind form ≤ limit
unfolding greatest_width
width_most kind form =
    by_cases (eqb form OPAQUE)
    (λ o. rw (ap (λ (f : ℕ). greatest_width kind f) (eqb-true form OPAQUE o)) (by_cases (is_body kind) (λ e. rw e (omega arith)) (λ e. rw e (omega arith))))
    (λ o. omega (arith, number_narrow kind form (eqb-false form OPAQUE o)))

pub number_short : (kind : Kind) (s : State) → shape_fits kind s ≡ true → (s.field.form ≡ OPAQUE → ⊥) → s.field.width ≤ 8
number_short kind s e ne = let q = simp says at e in omega (arith, number_narrow kind s.field.form ne)

-- of where the field lies, and of the numbers that outlast it
pub record Rest (σ f : ℕ) (s : State) : Type 0 where
  pub numbers : Numbers σ f s
  pub few : Few σ s
  pub least : before σ s + own_bytes (kind_at σ) f s.field.width + s.counts.items + s.field.have ≤ s.taken + 8 * s.spot.null
  pub lit : before σ s + own_bytes (kind_at σ) f s.field.width + dark_at σ f + s.field.have ≤ s.taken + 8 * s.spot.null + s.spot.empty
  pub exact : s.taken ≤ before σ s + own_bytes (kind_at σ) f s.field.width + s.field.have + slack σ + limit * scripts σ s
  pub room : s.taken + s.field.width ≤ limit + s.field.have
  pub seen : dark_at σ f ≤ s.spot.empty + input_witnesses_read σ s + output_witnesses_read σ s + within KEYS_PROOF PEGIN_ITEM σ + within RANGE_PROOF RANGE_PROOF σ

darkless : (σ f : ℕ) → cond (stacked σ) 0 (behind LOCKTIME 1 σ) ≡ 0 → dark_at σ f ≡ 0
darkless σ f e = by_cases (eqb f 2) (λ q. rw q) (λ q. rw q e)

-- a test that is known to hold leaves nothing to prove
known : {b : Bool} → b ≡ true → (b ≡ true) ↔ (0 ≤ 0)
known e = (λ _. lit≤ tt, λ _. e)

-- a stage's row says so: at each stage's numeral both come to the same inequalities
abbrev Is : ℕ → Type 0
Is σ = (s : State) → field_range (kind_at σ) s ≡ true → s.field.have < s.field.width → s.field.width ≤ limit → (row_of σ s ≡ true) ↔ Rest σ s.field.form s

rest_0 : Is 0
unfolding in_opening exact
rest_0 s e short wide = let d = darkless 0 s.field.form refl in (λ r. let q = simp (says, e) at r in omega arith, λ r. simp (says, known e) (omega arith))

rest_1 : Is 1
unfolding in_opening exact
rest_1 s e short wide = let d = darkless 1 s.field.form refl in (λ r. let q = simp (says, e) at r in omega arith, λ r. simp (says, known e) (omega arith))

rest_2 : Is 2
unfolding in_opening exact
rest_2 s e short wide = let d = darkless 2 s.field.form refl in (λ r. let q = simp (says, e) at r in omega arith, λ r. simp (says, known e) (omega arith))

rest_3 : Is 3
unfolding in_input input_numbers unwitnessed among_inputs exact
rest_3 s e short wide = let d = darkless 3 s.field.form refl in (λ r. let q = simp (says, e) at r in omega arith, λ r. simp (says, known e) (omega arith))

rest_4 : Is 4
unfolding in_input input_numbers unwitnessed among_inputs exact
rest_4 s e short wide = let d = darkless 4 s.field.form refl in (λ r. let q = simp (says, e) at r in omega arith, λ r. simp (says, known e) (omega arith))

rest_5 : Is 5
unfolding in_input input_numbers unwitnessed among_inputs exact
rest_5 s e short wide = let d = darkless 5 s.field.form refl in (λ r. let q = simp (says, e) at r in omega arith, λ r. simp (says, known e) (omega arith))

rest_6 : Is 6
unfolding in_input input_numbers unwitnessed among_inputs exact
rest_6 s e short wide = let d = darkless 6 s.field.form refl in (λ r. let q = simp (says, e) at r in omega arith, λ r. simp (says, known e) (omega arith))

rest_7 : Is 7
unfolding in_input input_numbers unwitnessed among_inputs exact
rest_7 s e short wide = let d = darkless 7 s.field.form refl in (λ r. let q = simp (says, e) at r in omega arith, λ r. simp (says, known e) (omega arith))

rest_8 : Is 8
unfolding in_input input_numbers unwitnessed among_inputs exact
rest_8 s e short wide = let d = darkless 8 s.field.form refl in (λ r. let q = simp (says, e) at r in omega arith, λ r. simp (says, known e) (omega arith))

rest_9 : Is 9
unfolding in_input input_numbers unwitnessed among_inputs exact
rest_9 s e short wide = let d = darkless 9 s.field.form refl in (λ r. let q = simp (says, e) at r in omega arith, λ r. simp (says, known e) (omega arith))

rest_10 : Is 10
unfolding in_input input_numbers unwitnessed among_inputs exact
rest_10 s e short wide = let d = darkless 10 s.field.form refl in (λ r. let q = simp (says, e) at r in omega arith, λ r. simp (says, known e) (omega arith))

rest_11 : Is 11
unfolding behind_inputs inputs_numbers unwitnessed among_inputs exact
rest_11 s e short wide = let d = darkless 11 s.field.form refl in (λ r. let q = simp (says, e) at r in omega arith, λ r. simp (says, known e) (omega arith))

rest_12 : Is 12
unfolding in_output output_numbers unwitnessed among_outputs exact
rest_12 s e short wide = let d = darkless 12 s.field.form refl in (λ r. let q = simp (says, e) at r in omega arith, λ r. simp (says, known e) (omega arith))

rest_13 : Is 13
unfolding in_output output_numbers unwitnessed among_outputs exact
rest_13 s e short wide = let d = darkless 13 s.field.form refl in (λ r. let q = simp (says, e) at r in omega arith, λ r. simp (says, known e) (omega arith))

rest_14 : Is 14
unfolding in_output output_numbers unwitnessed among_outputs exact
rest_14 s e short wide = let d = darkless 14 s.field.form refl in (λ r. let q = simp (says, e) at r in omega arith, λ r. simp (says, known e) (omega arith))

rest_15 : Is 15
unfolding in_output output_numbers unwitnessed among_outputs exact
rest_15 s e short wide = let d = darkless 15 s.field.form refl in (λ r. let q = simp (says, e) at r in omega arith, λ r. simp (says, known e) (omega arith))

rest_16 : Is 16
unfolding behind_outputs outputs_numbers unwitnessed among_outputs exact
rest_16 s e short wide = let d = darkless 16 s.field.form refl in (λ r. let q = simp (says, e) at r in omega arith, λ r. simp (says, known e) (omega arith))

rest_17 : Is 17
unfolding in_input_witness input_witness_numbers witness_numbers among_witnesses
rest_17 s e short wide = (λ r. let q = simp (says, e) at r in omega arith, λ r. simp (says, known e) (omega arith))

rest_18 : Is 18
unfolding in_input_witness input_witness_numbers witness_numbers among_witnesses
rest_18 s e short wide = (λ r. let q = simp (says, e) at r in omega arith, λ r. simp (says, known e) (omega arith))

rest_19 : Is 19
unfolding in_input_witness input_witness_numbers witness_numbers among_witnesses
rest_19 s e short wide = (λ r. let q = simp (says, e) at r in omega arith, λ r. simp (says, known e) (omega arith))

rest_20 : Is 20
unfolding in_stack stack_numbers witness_numbers
rest_20 s e short wide = let d = darkless 20 s.field.form refl in (λ r. let q = simp (says, e) at r in omega arith, λ r. simp (says, known e) (omega arith))

rest_21 : Is 21
unfolding in_input_witness input_witness_numbers witness_numbers among_witnesses
rest_21 s e short wide = (λ r. let q = simp (says, e) at r in omega arith, λ r. simp (says, known e) (omega arith))

rest_22 : Is 22
unfolding in_stack stack_numbers witness_numbers
rest_22 s e short wide = let d = darkless 22 s.field.form refl in (λ r. let q = simp (says, e) at r in omega arith, λ r. simp (says, known e) (omega arith))

rest_23 : Is 23
unfolding in_output_witness output_witness_numbers witness_numbers among_witnesses
rest_23 s e short wide = (λ r. let q = simp (says, e) at r in omega arith, λ r. simp (says, known e) (omega arith))

rest_24 : Is 24
unfolding in_output_witness output_witness_numbers witness_numbers among_witnesses
rest_24 s e short wide = (λ r. let q = simp (says, e) at r in omega arith, λ r. simp (says, known e) (omega arith))

-- and that the field is within its own
opening_field : (k : Kind) (b v f : ℕ) (s : State) → in_opening k b v f s ≡ true → field_range k s ≡ true
unfolding in_opening
opening_field k b v f s e = let q = simp says at e in q.0.0.0.0.0.0.0.0

input_field : (k : Kind) (b l g n c : ℕ) (s : State) → in_input k b l g n c s ≡ true → field_range k s ≡ true
unfolding in_input input_numbers
input_field k b l g n c s e = let q = simp says at e in q.0.0.0.0.0.0.0

inputs_field : (k : Kind) (b : ℕ) (s : State) → behind_inputs k b s ≡ true → field_range k s ≡ true
unfolding behind_inputs inputs_numbers
inputs_field k b s e = let q = simp says at e in q.0.0.0.0.0.0

output_field : (k : Kind) (b l : ℕ) (s : State) → in_output k b l s ≡ true → field_range k s ≡ true
unfolding in_output output_numbers
output_field k b l s e = let q = simp says at e in q.0.0.0.0.0.0.0

outputs_field : (k : Kind) (b : ℕ) (s : State) → behind_outputs k b s ≡ true → field_range k s ≡ true
unfolding behind_outputs outputs_numbers
outputs_field k b s e = let q = simp says at e in q.0.0.0.0.0.0.0

input_witness_field : (k : Kind) (b t n : ℕ) (s : State) → in_input_witness k b t n s ≡ true → field_range k s ≡ true
unfolding in_input_witness input_witness_numbers witness_numbers
input_witness_field k b t n s e = let q = simp says at e in q.0.0.0.0.0.0.0.0.0.0.0.0.0.0

stack_field : (k : Kind) (b : ℕ) (s : State) → in_stack k b s ≡ true → field_range k s ≡ true
unfolding in_stack stack_numbers witness_numbers
stack_field k b s e = let q = simp says at e in q.0.0.0.0.0.0.0.0.0.0.0.0.0.0.0.0

output_witness_field : (k : Kind) (b n : ℕ) (s : State) → in_output_witness k b n s ≡ true → field_range k s ≡ true
unfolding in_output_witness output_witness_numbers witness_numbers
output_witness_field k b n s e = let q = simp says at e in q.0.0.0.0.0.0.0.0.0.0.0.0.0.0

abbrev Has : ℕ → Type 0
Has σ = (s : State) → row_of σ s ≡ true → field_range (kind_at σ) s ≡ true

-- P of each of n numbers from k on
abbrev pub From : (ℕ → Type 0) → ℕ → ℕ → Type 0
From P k zero = Unit {0}
From P k (suc n) = P k × From P (suc k) n

pub from : (P : ℕ → Type 0) (k n i : ℕ) → k ≤ i → i < k + n → From P k n → P i
from P k zero i h l ps = absurd (omega arith)
from P k (suc n) i h l ps =
    by_cases (eqb k i)
    (λ e. subst P (eqb-true k i e) ps.0)
    (λ e. from P (suc k) n i (omega (arith, eqb-false)) (omega arith) ps.1)

infixr 5 ◌then◌
pub ◌then◌ : {A B : Type 0} → A → B → A × B
a then b = (a, b)

has_field : From Has 0 25
has_field =
    opening_field _ _ _ _
    then opening_field _ _ _ _
    then opening_field _ _ _ _
    then input_field _ _ _ _ _ _
    then input_field _ _ _ _ _ _
    then input_field _ _ _ _ _ _
    then input_field _ _ _ _ _ _
    then input_field _ _ _ _ _ _
    then input_field _ _ _ _ _ _
    then input_field _ _ _ _ _ _
    then input_field _ _ _ _ _ _
    then inputs_field _ _
    then output_field _ _ _
    then output_field _ _ _
    then output_field _ _ _
    then output_field _ _ _
    then outputs_field _ _
    then input_witness_field _ _ _ _
    then input_witness_field _ _ _ _
    then input_witness_field _ _ _ _
    then stack_field _ _
    then input_witness_field _ _ _ _
    then stack_field _ _
    then output_witness_field _ _ _
    then output_witness_field _ _ _
    then tt

rests : From Is 0 25
rests = rest_0 then rest_1 then rest_2 then rest_3 then rest_4 then rest_5 then rest_6 then rest_7 then rest_8 then rest_9 then rest_10 then rest_11 then rest_12 then rest_13 then rest_14 then rest_15 then rest_16 then rest_17 then rest_18 then rest_19 then rest_20 then rest_21 then rest_22 then rest_23 then rest_24 then tt

open_iff : (s : State) → s.field.stage ≤ 24 → (row_of s.field.stage s ≡ true) ↔ Open s
open_iff s h = (
  λ e.
      let fe = from Has 0 25 s.field.stage (omega arith) (omega (arith, h)) has_field s e in
      let k = (field_iff (kind_at s.field.stage) s).0 fe in
      let r = (rest_of fe k).0 e in
      record {
        stage = h;
        stands = record { numbers = r.numbers; above = k.above; below = k.below; wide = k.wide; narrow = k.narrow; further = k.further; value = k.value; few = r.few; least = r.least; lit = r.lit; exact = r.exact; room = r.room; seen = r.seen };
        have = k.have;
      },
  λ o.
      let r = o.stands in
      let k : Fielded (kind_at s.field.stage) s = record { above = r.above; below = r.below; wide = r.wide; narrow = r.narrow; further = r.further; have = o.have; value = r.value } in
      (rest_of ((field_iff (kind_at s.field.stage) s).1 k) k).1
      (record { numbers = r.numbers; few = r.few; least = r.least; lit = r.lit; exact = r.exact; room = r.room; seen = r.seen }),
)
  where
    rest_of : field_range (kind_at s.field.stage) s ≡ true → Fielded (kind_at s.field.stage) s → (row_of s.field.stage s ≡ true) ↔ Rest s.field.stage s.field.form s
    rest_of fe k =
        from Is 0 25 s.field.stage (omega arith) (omega (arith, h)) rests s fe k.have
        (let most = width_most (kind_at s.field.stage) s.field.form in let narrow = k.narrow in omega (arith, narrow, most))

witnessed_iff : (c : Bool) (s : State) → (cond c (leb (plain s.counts.inputs s.counts.outputs + 4 * s.counts.inputs + 2 * s.counts.outputs + s.counts.items) s.taken && leb (plain s.counts.inputs s.counts.outputs + 4 * s.counts.inputs + 2 * s.counts.outputs + 1) s.taken && leb s.counts.items (limit * s.counts.inputs) && leb 1 (s.counts.inputs + s.counts.outputs)) (eqb s.counts.items 0) ≡ true) ↔ cond c (Witnessed s) (s.counts.items ≡ 0)
witnessed_iff true s = (λ e. let q = simp says at e in omega arith, λ k. simp says (omega arith))
witnessed_iff false s = eq_iff s.counts.items 0

finished_iff : (s : State) → (ended_range s && whole_range s ≡ true) ↔ Finished s
unfolding ended_range whole_range whole_fits
finished_iff s = (
  λ e. let (q, (room, ((a, b), w))) = simp (says, witnessed_iff) at e in record { form = omega arith; width = omega arith; have = omega arith; value = omega arith; taken = omega arith; version = omega arith; flag = omega arith; inputs = omega arith; few_inputs = omega arith; outputs = omega arith; few_outputs = omega arith; items = omega arith; few_items = omega arith; locktime = omega arith; index = omega arith; left = omega arith; issuance = omega arith; null = omega arith; empty = omega arith; least = a; exact = b; witnessed = w },
  λ k. let w = k.witnessed in let room : s.counts.items ≤ m.item_room s = omega (arith, k.items, k.few_items) in simp (says, witnessed_iff) (omega arith, (room, ((k.least, k.exact), w))),
)

refused_iff : (s : State) → (refused_range s && placed_fits s.field.value s.field.have s.taken ≡ true) ↔ Refused s
unfolding refused_range placed_fits
refused_iff s = (λ e. let q = simp says at e in omega arith, λ k. simp says (omega arith))

-- ---- and so of a state in range, by its stage

open_test : (s : State) → s.field.stage ≤ 24 → (in_range s ≡ true) ↔ Open s
unfolding in_range
open_test s h = open_iff s h

finished_test : (s : State) → s.field.stage ≡ 25 → (in_range s ≡ true) ↔ Finished s
unfolding in_range
finished_test s h = subst (λ (n : ℕ). (row_of n s ≡ true) ↔ Finished s) (sym h) (finished_iff s)

refused_test : (s : State) → s.field.stage ≡ 26 → (in_range s ≡ true) ↔ Refused s
unfolding in_range
refused_test s h = subst (λ (n : ℕ). (row_of n s ≡ true) ↔ Refused s) (sym h) (refused_iff s)

pub no_test : (s : State) → 26 < s.field.stage → in_range s ≡ false
unfolding in_range
no_test s h =
    let ne : (k : ℕ) → k ≤ 26 → eqb s.field.stage k ≡ false = λ k l. ne_eqb s.field.stage k (λ e. omega arith) in
    rw (ne 0 (lit≤ tt), ne 1 (lit≤ tt), ne 2 (lit≤ tt), ne 3 (lit≤ tt), ne 4 (lit≤ tt), ne 5 (lit≤ tt), ne 6 (lit≤ tt), ne 7 (lit≤ tt), ne 8 (lit≤ tt), ne 9 (lit≤ tt), ne 10 (lit≤ tt), ne 11 (lit≤ tt), ne 12 (lit≤ tt), ne 13 (lit≤ tt), ne 14 (lit≤ tt), ne 15 (lit≤ tt), ne 16 (lit≤ tt), ne 17 (lit≤ tt), ne 18 (lit≤ tt), ne 19 (lit≤ tt), ne 20 (lit≤ tt), ne 21 (lit≤ tt), ne 22 (lit≤ tt), ne 23 (lit≤ tt), ne 24 (lit≤ tt), ne 25 (lit≤ tt), ne 26 (lit≤ tt))

-- a stage's row is the test
pub row_at : (s : State) {k : ℕ} → s.field.stage ≡ k → row_of k s ≡ in_range s
unfolding in_range
row_at s e = ap (λ (n : ℕ). row_of n s) (sym e)

pub range_open : (s : State) → in_range s ≡ true → s.field.stage ≤ 24 → Open s
range_open s e h = (open_test s h).0 e

pub open_range : (s : State) → Open s → in_range s ≡ true
open_range s o = (open_test s o.stage).1 o

pub range_finished : (s : State) → in_range s ≡ true → s.field.stage ≡ 25 → Finished s
range_finished s e h = (finished_test s h).0 e

pub finished_range : (s : State) → s.field.stage ≡ 25 → Finished s → in_range s ≡ true
finished_range s h o = (finished_test s h).1 o

pub range_refused : (s : State) → in_range s ≡ true → s.field.stage ≡ 26 → Refused s
range_refused s e h = (refused_test s h).0 e

pub refused_range_lem : (s : State) → s.field.stage ≡ 26 → Refused s → in_range s ≡ true
refused_range_lem s h o = (refused_test s h).1 o

-- the three ways of a state in range
pub by_stage : {C : Type 0} (s : State) → in_range s ≡ true → (Open s → C) → (s.field.stage ≡ 25 → Finished s → C) → (s.field.stage ≡ 26 → Refused s → C) → C
by_stage s e f g h =
    by_cases (leb s.field.stage 24)
    (λ t. f (range_open s e (leb-true s.field.stage 24 t)))
    (λ t. by_cases (eqb s.field.stage 25)
    (λ t'. let q = eqb-true s.field.stage 25 t' in g q (range_finished s e q))
    (λ t'. by_cases (eqb s.field.stage 26)
    (λ t''. let q = eqb-true s.field.stage 26 t'' in h q (range_refused s e q))
    (λ t''. absurd (true≢false (sym e ∙ no_test s (omega (arith, leb-false, eqb-false)))))))

pub range_safe : (s : State) → in_range s ≡ true → Safe s
range_safe s e = by_stage s e (λ o. omega arith) (λ _ o. omega arith) (λ _ o. omega arith)

pub ready_safe : (s : State) → Ready s → Safe s
ready_safe s r = omega arith

pub fresh_range : (z : Sizes) → in_range (fresh z) ≡ true
unfolding least_width greatest_width own_bytes size
fresh_range z = open_range (fresh z) (omega arith)

pub refuse_range : (n place : ℕ) (s : State) → Placed n place s.taken → s.taken ≤ limit → in_range (m.refuse n place s) ≡ true
refuse_range n place s p t = refused_range_lem (m.refuse n place s) refl (omega arith)

pub finish_range : (s : State) → in_range s ≡ true → s.field.stage ≤ 24 → in_range (m.refuse 1 s.taken s) ≡ true
finish_range s e h = let o = range_open s e h in refuse_range 1 s.taken s (omega arith) (omega arith)

-- ---- what the code needs so that no sum of the test wraps

pub ended_endable : (s : State) → ended_range s ≡ true → Endable s
unfolding ended_range
ended_endable s e = let q = simp says at e in omega arith

pub refused_numbered : (s : State) → refused_range s ≡ true → Numbered s
unfolding refused_range
refused_numbered s e = let q = simp says at e in omega arith

pub some_kind : (n : ℕ) → 1 ≤ n → n ≤ 8 → ((kind : RefusalKind) → number_of kind ≡ n → ⊥) → ⊥
some_kind n some few none =
    let ne1 = none EndsEarly in
    let ne2 = none LimitPassed in
    let ne3 = none NotShortest in
    let ne4 = none NoRecordLeft in
    let ne5 = none BadPrefix in
    let ne6 = none NullIssuance in
    let ne7 = none BadFlag in
    let ne8 = none EmptyWitnesses in
    omega (arith, ne1, ne2, ne3, ne4, ne5, ne6, ne7, ne8)

pub input_few : (k : Kind) (l g n : ℕ) (s : State) → input_numbers k l g n s ≡ true → (s.spot.index ≤ limit) × (s.spot.null ≤ n)
unfolding input_numbers unwitnessed
input_few k l g n s e = let q = simp says at e in (q.0.0.0.0.0.1.0.0.1, q.1)

pub inputs_few : (k : Kind) (s : State) → inputs_numbers k s ≡ true → (s.spot.index ≤ limit) × (s.spot.null ≤ 1)
unfolding inputs_numbers unwitnessed
inputs_few k s e = let q = simp says at e in (q.0.0.0.0.1.0.0.1, omega (arith, q.1))

pub output_few : (k : Kind) (s : State) → output_numbers k s ≡ true → (s.counts.inputs ≤ limit) × (s.spot.index ≤ limit)
unfolding output_numbers unwitnessed
output_few k s e = let q = simp says at e in (q.0.0.0.0.1, q.0.0.0.0.0.1.0.0.1)

pub outputs_few : (k : Kind) (s : State) → outputs_numbers k s ≡ true → (s.counts.inputs ≤ limit) × (s.spot.index ≤ limit)
unfolding outputs_numbers unwitnessed
outputs_few k s e = let q = simp says at e in (q.0.0.0.0.1, q.0.0.0.0.0.1.0.0.1)

-- no more records and items than bytes can be
pub record Weighed (s : State) : Type 0 where
  pub inputs : s.counts.inputs ≤ limit
  pub outputs : s.counts.outputs ≤ limit
  pub items : s.counts.items ≤ 4294967295
  pub index : s.spot.index ≤ limit
  pub empty : s.spot.empty ≤ 1

pub input_witness_few : (k : Kind) (s : State) → input_witness_numbers k s ≡ true → Weighed s
unfolding input_witness_numbers witness_numbers
input_witness_few k s e = let (((((((((((((f, v), g), ir), i), or), o), n), l), is), u), em), x), z) = simp says at e in record { inputs = i; outputs = o; items = omega (arith, n); index = omega (arith, x, i); empty = em }

pub output_witness_few : (k : Kind) (s : State) → output_witness_numbers k s ≡ true → Weighed s
unfolding output_witness_numbers witness_numbers
output_witness_few k s e = let (((((((((((((f, v), g), ir), i), or), o), n), l), is), u), em), x), z) = simp says at e in record { inputs = i; outputs = o; items = omega (arith, n); index = omega (arith, x, o); empty = em }

pub stack_few : (k : Kind) (s : State) → stack_numbers k s ≡ true → Weighed s
unfolding stack_numbers witness_numbers
stack_few k s e = let (((((((((((((((f, v), g), ir), i), or), o), n), l), is), u), em), x), le), lr), z) = simp says at e in record { inputs = i; outputs = o; items = omega (arith, n); index = omega (arith, x, i); empty = em }

-- ---- gathering

-- so many bytes are worth v
abbrev pub valued : ℕ → ℕ → ℕ → Bool
valued f v have = cond (eqb f OPAQUE) (eqb v 0) (ltb v (256 ^ have))

numbers_kept : (σ f k v : ℕ) (s : State) → Numbers σ f s → s.taken + k ≤ limit → Numbers σ f (gathered k v s)
numbers_kept σ f k v s r h = record { taken = h; version = r.version; no_version = r.no_version; flagged = r.flagged; flag = r.flag; inputs = r.inputs; no_inputs = r.no_inputs; outputs = r.outputs; no_outputs = r.no_outputs; no_items = r.no_items; locktime = r.locktime; no_locktime = r.no_locktime; index = r.index; some_left = r.some_left; items = r.items; fewer = r.fewer; issued = r.issued; issuance = r.issuance; null = r.null; empty = r.empty }

gathered_stands : (σ f k v : ℕ) (s : State) → Stands σ f s → s.field.have + k ≤ s.field.width → valued f v (s.field.have + k) ≡ true → Stands σ f (gathered k v s)
gathered_stands σ f k v s r h e =
    record {
      numbers = numbers_kept σ f k v s r.numbers (omega (arith, r.room, h));
      above = r.above;
      below = r.below;
      wide = r.wide;
      narrow = r.narrow;
      further = r.further;
      value = (value_iff (eqb f OPAQUE) v (256 ^ (s.field.have + k))).0 e;
      few = record { inputs = r.few.inputs; outputs = r.few.outputs; input_witnesses = r.few.input_witnesses; index = r.few.index; items = r.few.items; unlit = r.few.unlit; stacks = r.few.stacks };
      least = omega (arith, r.least);
      lit = omega (arith, r.lit);
      exact = omega (arith, r.exact);
      room = omega (arith, r.room);
      seen = r.seen;
    }

module _ (s : State) (k v : ℕ) (e : in_range s ≡ true) (running : s.field.stage ≤ 24) where
  pub gather_range : s.field.have + k < s.field.width → cond (eqb s.field.form OPAQUE) (eqb v 0) (ltb v (256 ^ (s.field.have + k))) ≡ true → in_range (gathered k v s) ≡ true
  gather_range h q =
      open_range (gathered k v s)
      (record { stage = running; stands = gathered_stands s.field.stage s.field.form k v s (range_open s e running).stands (omega arith) q; have = h })

  pub gather_ready : s.field.have + k ≡ s.field.width → cond (eqb s.field.form OPAQUE) (eqb v 0) (ltb v (256 ^ s.field.width)) ≡ true → Ready (gathered k v s)
  gather_ready h q =
      record {
        stage = running;
        stands = gathered_stands s.field.stage s.field.form k v s (range_open s e running).stands (omega arith) (subst (λ (n : ℕ). valued s.field.form v n ≡ true) (sym h) q);
        have = h;
      }
