-- Parts of what reading at once gives.
use Prim.Native.Nat.{ℕ}
use Rattle.layout.specs.Layout.{Answer}
use Rattle.layout.specs.Outcome.{Tables, Outcome}
use Rattle.layout.specs.Transaction.{Head}
use Rattle.wrong.proofs.Loads.{answered, kind}

abbrev pub answer : Outcome → ℕ
answer w = answered w.answer

abbrev pub case : Outcome → ℕ
case w = kind w.answer

abbrev pub taken : Outcome → ℕ
taken w = w.taken

abbrev pub gives : ℕ → Answer Head → Tables → Outcome
gives n a t = record { answer = a; taken = n; tables = t }

-- the right outcome but for one part
abbrev pub but_taken : ℕ → Outcome → Outcome
but_taken n w = gives n w.answer w.tables

abbrev pub but_answer : Answer Head → Outcome → Outcome
but_answer a w = gives w.taken a w.tables

abbrev pub but_tables : Tables → Outcome → Outcome
but_tables t w = gives w.taken w.answer t
