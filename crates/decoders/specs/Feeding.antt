-- What the public functions promise: one definition for each gives its result and every lent table at exit, for all states, tables
-- and pieces. The answer is document 01's; `told` says which one each case of the enum is.
use Rattle.std.specs.Prelude.{ℕ, ◌-◌, cond, ◌&&◌, List, leb, ltb, eqb, length, replicate}
use Rattle.std.proofs.Math.Option.{Option, none, some}
use Rattle.layout.specs.Layout as layout
use Rattle.layout.specs.Transaction as transaction
use Rattle.layout.specs.Outcome as outcome
use Rattle.layout.specs.Outcome.{Tables, Outcome}
use Rattle.encode.specs.Refusal.{number_of}
use Rattle.decoders.specs.declared.Sizes.{Sizes}
use Rattle.decoders.specs.declared.Answer.{Answer}
use Rattle.decoders.specs.declared.Answer.TheVariants.{Finished, More, Refused}
use Rattle.decoders.specs.declared.Fed.{Fed}
use Rattle.decoders.specs.declared.Read.{Read}
use Rattle.decoders.specs.Stages.{FINISHED, REFUSED}
use Rattle.decoders.specs.Machine.{State, refuse, Machine, machine, fed, answer_of, fresh}
use Rattle.decoders.specs.Range.{in_range}

-- 01's answer for each case of the enum: its head numbers, or its number and place
abbrev pub told : Answer → layout.Answer transaction.Head
told (Finished h) =
    layout.finished (record { version = h.version; flag = h.flag; inputs = h.inputs; outputs = h.outputs; items = h.items; locktime = h.locktime; bytes = h.bytes })
told More = layout.more
told (Refused r) = layout.refused (number_of r.kind) r.place

-- 01's number and place of the enum's cases, and the head numbers that show: those of its answer (Theorems, `told_numbers`).
abbrev pub told_number : Answer → Option ℕ
told_number (Finished h) = some 0
told_number More = none
told_number (Refused r) = some (number_of r.kind)

abbrev pub told_place : Answer → ℕ
told_place (Finished h) = 0
told_place More = 0
told_place (Refused r) = r.place

abbrev pub told_head : Answer → transaction.Head
told_head (Finished h) =
    record { version = h.version; flag = h.flag; inputs = h.inputs; outputs = h.outputs; items = h.items; locktime = h.locktime; bytes = h.bytes }
told_head More = outcome.no_head
told_head (Refused r) = outcome.no_head

abbrev pub sizes : ℕ → ℕ → ℕ → Sizes
sizes i o n = record { inputs = i; outputs = o; items = n }

abbrev pub tables : List ℕ → List ℕ → List ℕ → Tables
tables i o n = record { inputs = i; outputs = o; items = n }

abbrev pub sizes_of : Tables → Sizes
sizes_of t = record { inputs = length t.inputs; outputs = length t.outputs; items = length t.items }

abbrev pub cleared : Tables → Tables
cleared t = tables (replicate (length t.inputs) 0) (replicate (length t.outputs) 0) (replicate (length t.items) 0)

-- a call's result with 01's answer, and the tables as it leaves them
pub record Out : Type 0 where
  pub state : State
  pub taken : ℕ
  pub answer : layout.Answer transaction.Head
  pub tables : Tables

abbrev pub out : State → ℕ → layout.Answer transaction.Head → Tables → Out
out s n a t = record { state = s; taken = n; answer = a; tables = t }

abbrev pub out_of : Fed → Tables → Out
out_of r t = out r.decoder r.taken (told r.answer) t

-- 11 before 10: a state that fails the range test; tables of other sizes than the fresh start's
unfoldable pub gate : State → Sizes → ℕ
gate s z = cond (in_range s) (cond (eqb s.sizes.inputs z.inputs && eqb s.sizes.outputs z.outputs && eqb s.sizes.items z.items) 0 10) 11

-- a call ends: a refused reading's tables are 0
unfoldable pub closed : State → ℕ → Tables → Out
closed s n t = out s n (answer_of s) (cond (eqb s.field.stage REFUSED) (cleared t) t)

-- the fresh start
abbrev pub begun : Tables → Machine
begun t = machine (fresh (sizes_of t)) (cleared t)

-- feeding
unfoldable pub pushed : State → Tables → List ℕ → Out
pushed s t xs =
    cond (eqb (gate s (sizes_of t)) 0)
    (closed (fed (machine s t) xs).state ((fed (machine s t) xs).state.taken - s.taken) (fed (machine s t) xs).tables)
    (out s 0 (layout.refused (gate s (sizes_of t)) 0) t)

-- finishing: 1 where more is wanted
unfoldable pub finish : State → State
finish s = cond (leb FINISHED s.field.stage) s (refuse 1 s.taken s)

-- the strict form: 9 where bytes follow
unfoldable pub follow : ℕ → State → State
follow there s = cond (eqb s.field.stage FINISHED) (cond (ltb s.taken there) (refuse 9 s.taken s) s) s

unfoldable pub ended : State → Tables → Out
ended s t = cond (eqb (gate s (sizes_of t)) 0) (closed (finish s) 0 t) (out s 0 (layout.refused (gate s (sizes_of t)) 0) t)

-- reading at once and its strict form: document 01's outcome itself
abbrev pub whole_of : Read → Tables → Outcome
whole_of r t = record { answer = told r.answer; taken = r.taken; tables = t }

abbrev pub layout_sizes : Tables → outcome.Sizes
layout_sizes t = record { inputs = length t.inputs; outputs = length t.outputs; items = length t.items }

abbrev pub read_once : Tables → List ℕ → Outcome
read_once t xs = outcome.at_once (layout_sizes t) xs

abbrev pub read_strict : Tables → List ℕ → Outcome
read_strict t xs = outcome.strict (layout_sizes t) xs
