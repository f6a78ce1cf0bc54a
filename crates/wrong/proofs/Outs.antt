-- Parts of what feeding and finishing give.
use Prim.Native.Nat.{ℕ}
use mathlib.Core.Bool.{Bool}
use lib.Dec.{eqb}
use Rattle.layout.specs.Layout.{Answer}
use Rattle.layout.specs.Outcome.{Tables}
use Rattle.layout.specs.Transaction.{Head}
use Rattle.decoders.specs.Machine.{State}
use Rattle.decoders.specs.Feeding.{Out, out}
use Rattle.wrong.proofs.Loads.{answered, kind}

abbrev pub answer : Out → ℕ
answer o = answered o.answer

abbrev pub case : Out → ℕ
case o = kind o.answer

abbrev pub taken : Out → ℕ
taken o = o.taken

-- the right outcome but for one part
abbrev pub but_state : State → Out → Out
but_state s o = out s o.taken o.answer o.tables

abbrev pub but_taken : ℕ → Out → Out
but_taken n o = out o.state n o.answer o.tables

abbrev pub but_answer : Answer Head → Out → Out
but_answer a o = out o.state o.taken a o.tables

abbrev pub but_tables : Tables → Out → Out
but_tables t o = out o.state o.taken o.answer t

abbrev pub is_refused : Out → Bool
is_refused o = eqb (case o) 2
