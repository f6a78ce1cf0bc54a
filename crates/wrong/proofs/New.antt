-- new: wrong fresh starts.
use Prim.Native.Nat.{ℕ, ◌/◌, ◌*◌}
use mathlib.Core.Path.{◌≡◌, refl}
use mathlib.Core.List.{[], ◌++◌}
use lib.ListN.{length, replicate, drop}
use Rattle.layout.specs.Outcome.{Tables}
use Rattle.decoders.specs.Machine.{Machine, machine, refuse, fresh, with_field, field}
use Rattle.decoders.specs.Feeding.{sizes, tables, sizes_of, cleared, begun}
use Rattle.wrong.proofs.Loads.{computes, apart, former, longer, input, output, item}

abbrev Wrong : (Tables → Machine) → Tables → Type 0
Wrong p t = p t ≡ begun t → ⊥

-- does nothing to the tables: a former transaction's records would stand behind the count
abbrev untouched : Tables → Machine
untouched t = machine (fresh (sizes_of t)) t

pub untouched_wrong : Wrong untouched former
unfolding computes
untouched_wrong = apart (λ m. input 0 m.tables) 7 0 refl refl refl

-- sets only the first table to 0, or all but one: the same in the others
abbrev only_inputs : Tables → Machine
only_inputs t = machine (fresh (sizes_of t)) (tables (cleared t).inputs t.outputs t.items)

pub only_inputs_wrong : Wrong only_inputs former
unfolding computes
only_inputs_wrong = apart (λ m. output 0 m.tables) 7 0 refl refl refl

abbrev all_but_inputs : Tables → Machine
all_but_inputs t = machine (fresh (sizes_of t)) (tables t.inputs (cleared t).outputs (cleared t).items)

pub all_but_inputs_wrong : Wrong all_but_inputs former
unfolding computes
all_but_inputs_wrong = apart (λ m. input 0 m.tables) 7 0 refl refl refl

abbrev all_but_outputs : Tables → Machine
all_but_outputs t = machine (fresh (sizes_of t)) (tables (cleared t).inputs t.outputs (cleared t).items)

pub all_but_outputs_wrong : Wrong all_but_outputs former
unfolding computes
all_but_outputs_wrong = apart (λ m. output 0 m.tables) 7 0 refl refl refl

abbrev all_but_items : Tables → Machine
all_but_items t = machine (fresh (sizes_of t)) (tables (cleared t).inputs (cleared t).outputs t.items)

pub all_but_items_wrong : Wrong all_but_items former
unfolding computes
all_but_items_wrong = apart (λ m. item 0 m.tables) 7 0 refl refl refl

-- sets whole records to 0 and leaves surplus numbers: at 21 numbers the last
abbrev whole_records : Tables → Machine
whole_records t = machine (fresh (sizes_of t)) (tables (replicate (20 * (length t.inputs / 20)) 0 ++ drop (20 * (length t.inputs / 20)) t.inputs) (cleared t).outputs (cleared t).items)

pub whole_records_wrong : Wrong whole_records longer
unfolding computes
whole_records_wrong = apart (λ m. input 20 m.tables) 7 0 refl refl refl

-- shuts the tables to no numbers: a lent table keeps its length
abbrev shut : Tables → Machine
shut t = machine (fresh (sizes_of t)) (tables [] [] [])

pub shut_wrong : Wrong shut former
unfolding computes
shut_wrong = apart (λ m. length m.tables.inputs) 0 20 refl refl refl

-- returns another state: one that begins at the flag; one that counts records for numbers; one that is refused
abbrev at_flag : Tables → Machine
at_flag t = machine (with_field (field 1 3 1 0 0) (fresh (sizes_of t))) (cleared t)

pub at_flag_wrong : Wrong at_flag former
unfolding computes
at_flag_wrong = apart (λ m. m.state.field.stage) 1 0 refl refl refl

abbrev in_records : Tables → Machine
in_records t = machine (fresh (sizes (length t.inputs / 20) (length t.outputs / 14) (length t.items / 2))) (cleared t)

pub in_records_wrong : Wrong in_records former
unfolding computes
in_records_wrong = apart (λ m. m.state.sizes.inputs) 1 20 refl refl refl

abbrev refused_already : ℕ → ℕ → Tables → Machine
refused_already n p t = machine (refuse n p (fresh (sizes_of t))) (cleared t)

pub refused_already_wrong : (n p : ℕ) → Wrong (refused_already n p) former
unfolding computes
refused_already_wrong n p = apart (λ m. m.state.field.stage) 26 0 refl refl refl
