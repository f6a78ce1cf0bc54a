-- The loads on which wrong programs are refuted, the states and tables they start from, and what tells two outcomes apart.
use Prim.Native.Nat.{ℕ}
use mathlib.Core.Path.{◌≡◌, refl, sym, ◌∙◌, ap}
use mathlib.Core.Bool.{Bool, true, false}
use mathlib.Core.List.{List, [], ◌∷◌, ◌++◌}
use native.Mathlib.Omega.{arith}
use lib.Dec.{eqb}
use lib.ListN.{replicate, get_or}
use borrow.Author.Tests.{eq-eqb}
use Rattle.layout.specs.Number.{value}
use Rattle.layout.specs.Layout.{Answer, finished, more, refused, run}
use Rattle.layout.specs.Transaction.{Head, transaction, all_ones, flag_bit, vout, flags, within, further_at, opaque_at, compact_at, count_at, body_at, value_at, prefixed_at, each, issuance_at, input_at, output_at, item_at, stack_at, input_witness_at, output_witness_at}
use Rattle.layout.specs.Outcome.{Tables, laid}
use Rattle.loads.proofs.Loads.{hex}
use Rattle.decoders.specs.Machine.{State, opened, next_input, next_output, witnesses_end, next_output_witness, next_input_witness, next_script_item, next_pegin_item, body_ends, emptied, body_entered, body_seen, body_opened, length_settled, inputs_counted, outputs_counted, script_counted, pegin_counted, compact_settled, first_settled, further_settled, value_part, asset_part, nonce_part, amount_next, null_keys_next, keys_next, asset_next, value_next, nonce_next, sequence_next, locktime_next, little_settled, big_settled, opaque_settled, settle_by, worth, entering, step, fed, answer_of, field, with_field}
use Rattle.decoders.specs.Range.{least_width, greatest_width, size, own_bytes, field_range, exact, among_inputs, among_outputs, among_witnesses, in_opening, unwitnessed, input_numbers, in_input, inputs_numbers, behind_inputs, output_numbers, in_output, outputs_numbers, behind_outputs, witness_numbers, input_witness_numbers, in_input_witness, stack_numbers, in_stack, output_witness_numbers, in_output_witness, ended_range, whole_fits, whole_range, refused_range, placed_fits, in_range}
use Rattle.decoders.specs.Feeding.{tables, cleared, begun, gate, closed, pushed, finish, follow, ended}

-- Where this is unfolded, promises compute.
unfoldable pub computes : Unit {0}
unfolding hex value run laid
    within further_at opaque_at compact_at count_at body_at value_at prefixed_at each all_ones flag_bit vout flags
    issuance_at input_at output_at item_at stack_at input_witness_at output_witness_at transaction
    opened next_input next_output witnesses_end next_output_witness next_input_witness next_script_item next_pegin_item body_ends
    emptied body_entered body_seen body_opened length_settled inputs_counted outputs_counted script_counted pegin_counted compact_settled
    first_settled further_settled value_part asset_part nonce_part amount_next null_keys_next keys_next asset_next value_next nonce_next
    sequence_next locktime_next little_settled big_settled opaque_settled settle_by worth entering step fed answer_of
    least_width greatest_width size own_bytes field_range exact among_inputs among_outputs among_witnesses in_opening unwitnessed input_numbers in_input inputs_numbers behind_inputs output_numbers in_output outputs_numbers behind_outputs witness_numbers input_witness_numbers in_input_witness stack_numbers in_stack output_witness_numbers in_output_witness ended_range whole_fits whole_range refused_range placed_fits in_range
    gate closed pushed finish follow ended
computes = tt

-- ---- what tells two outcomes apart: a number of each, and the two numbers differ

pub apart : {A : Type 0} (number : A → ℕ) {wrong right : A} (n m : ℕ) → number wrong ≡ n → number right ≡ m → eqb n m ≡ false → wrong ≡ right → ⊥
apart number n m p q d e = falsity (sym (eq-eqb n m (sym p ∙ ap number e ∙ q)) ∙ d)
  where
    falsity : ◌≡◌ {A = Bool} true false → ⊥
    falsity b = let z : ◌≡◌ {A = ℕ} 0 1 = cc in omega arith

-- an answer's number: finished is 0, and more wanted, which has none, stands as 99
abbrev pub answered : Answer Head → ℕ
answered (finished h) = 0
answered more = 99
answered (refused n p) = n

abbrev pub placed : Answer Head → ℕ
placed (finished h) = 0
placed more = 0
placed (refused n p) = p

-- its head numbers: how many inputs, and the version
abbrev pub inputs_told : Answer Head → ℕ
inputs_told (finished h) = h.inputs
inputs_told more = 0
inputs_told (refused n p) = 0

abbrev pub version_told : Answer Head → ℕ
version_told (finished h) = h.version
version_told more = 0
version_told (refused n p) = 0

-- an answer whose head numbers inputs and outputs, or version and locktime, have changed places
abbrev pub counts_swapped : Answer Head → Answer Head
counts_swapped (finished h) = finished (record { version = h.version; flag = h.flag; inputs = h.outputs; outputs = h.inputs; items = h.items; locktime = h.locktime; bytes = h.bytes })
counts_swapped more = more
counts_swapped (refused n p) = refused n p

abbrev pub ends_swapped : Answer Head → Answer Head
ends_swapped (finished h) = finished (record { version = h.locktime; flag = h.flag; inputs = h.inputs; outputs = h.outputs; items = h.items; locktime = h.version; bytes = h.bytes })
ends_swapped more = more
ends_swapped (refused n p) = refused n p

-- an answer's case
abbrev pub kind : Answer Head → ℕ
kind (finished h) = 0
kind more = 1
kind (refused n p) = 2

-- ---- tables with room for one record each: a former transaction's numbers, all 7, and the same set to 0

abbrev pub former : Tables
former = tables (replicate 20 7) (replicate 14 7) (replicate 2 7)

abbrev pub zeroed : Tables
zeroed = cleared former

-- ---- transactions

-- no input, no output: accepted, 11 bytes
abbrev pub bare : List ℕ
bare = hex "02000000 00 00 00 00000000"

-- with flag 2: refusal 7 at 4
abbrev pub flagged : List ℕ
flagged = hex "02000000 02 00 00 00000000"

-- no input and one output of null asset, value and nonce, and empty script: accepted, 15 bytes; output record 0, 7, 0, 8, 0, 0, 0, 9, 11, 0 ..
abbrev pub paying : List ℕ
paying = hex "02000000 00 00 01 00 00 00 00 00000000"

-- one input without issuance, up to its vout: its txid position, vout and flags are entered
abbrev pub spending : List ℕ
spending = hex "02000000 00 01" ++ replicate 32 0xee ++ hex "00000000"

-- one input, one output and one item of length 0, up to the surjection proof's length: input, output and item numbers are entered
abbrev pub laden : List ℕ
laden = hex "02000000 01 01" ++ replicate 32 0xee ++ hex "00000000 00 ffffffff 01 00 00 00 00 00000000  00 00 01 00 00"

-- then both proofs: accepted, 63 bytes; or a length not in shortest form: refusal 3 at 61
abbrev pub full : List ℕ
full = laden ++ hex "00 00"

abbrev pub broken : List ℕ
broken = laden ++ hex "fdfc00"

-- ---- states

abbrev pub start : State
start = (begun former).state

abbrev pub after : List ℕ → State
after xs = (pushed start zeroed xs).state

abbrev pub left : List ℕ → Tables
left xs = (pushed start zeroed xs).tables

-- a stage that no reading has: refusal 11
abbrev pub forged : State
forged = with_field (field 27 0 0 0 0) start

-- tables of other sizes than the fresh start's: refusal 10
abbrev pub longer : Tables
longer = tables (replicate 21 7) (replicate 14 7) (replicate 2 7)

-- ---- numbers of tables

abbrev pub input : ℕ → Tables → ℕ
input i t = get_or t.inputs i 0

abbrev pub output : ℕ → Tables → ℕ
output i t = get_or t.outputs i 0

abbrev pub item : ℕ → Tables → ℕ
item i t = get_or t.items i 0

-- ---- the loads are as they are said to be: answer, place, bytes taken

abbrev seen : List ℕ → List ℕ
seen xs = let o = pushed start zeroed xs in answered o.answer ∷ placed o.answer ∷ o.taken ∷ []

pub as_said : seen bare ∷ seen flagged ∷ seen paying ∷ seen laden ∷ seen full ∷ seen broken ∷ [] ≡ (0 ∷ 0 ∷ 11 ∷ []) ∷ (7 ∷ 4 ∷ 11 ∷ []) ∷ (0 ∷ 0 ∷ 15 ∷ []) ∷ (99 ∷ 0 ∷ 61 ∷ []) ∷ (0 ∷ 0 ∷ 63 ∷ []) ∷ (3 ∷ 61 ∷ 64 ∷ []) ∷ []
unfolding computes
as_said = refl
