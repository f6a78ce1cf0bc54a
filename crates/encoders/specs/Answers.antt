-- The code's answers of writing, as 01 has them.
use Rattle.std.specs.Prelude.{ℕ, List, Result, Ok, Err}
use Rattle.layout.specs.Transaction as transaction
use Rattle.layout.specs.Writing as writing
use Rattle.layout.specs.Writing.{Verdict, wrote, unwritten, Fault, passes, fault}
use Rattle.decoders.specs.declared.Head.{Head}
use Rattle.encode.specs.declared.refusal.Refusal.{Refusal}
use Rattle.encode.specs.Refusal.{number_of}

-- document 01's answer of writing. Kinds and numbers determine each other: Refusals, `told_alike`.
abbrev pub told : Result ℕ Refusal → Verdict
told (Ok n) = wrote n
told (Err r) = unwritten (number_of r.kind) r.place

-- document 01's number, place and length. `told` keeps all three: Theorems, `told_verdict`.
abbrev pub told_number : Result ℕ Refusal → ℕ
told_number (Ok n) = 0
told_number (Err r) = number_of r.kind

abbrev pub told_place : Result ℕ Refusal → ℕ
told_place (Ok n) = 0
told_place (Err r) = r.place

abbrev pub told_length : Result ℕ Refusal → ℕ
told_length (Ok n) = n
told_length (Err r) = 0

-- head numbers as the layout has them
abbrev pub head_numbers : Head → transaction.Head
head_numbers h =
    record { version = h.version; flag = h.flag; inputs = h.inputs; outputs = h.outputs; items = h.items; locktime = h.locktime; bytes = h.bytes }

-- what judging finds, whatever it hands on
abbrev pub faulted : {X : Type 0} → Result X Refusal → Fault
faulted (Ok x) = passes
faulted (Err r) = fault (number_of r.kind) r.place

-- What writing leaves: its answer, and the output.
abbrev pub out_of : Result ℕ Refusal → List ℕ → writing.Written
out_of r out = record { answer = told r; output = out }
