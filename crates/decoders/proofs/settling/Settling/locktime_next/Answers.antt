use Rattle.decoders.proofs.Branches.{locktime_plain, locktime_witnesses, locktime_refused}
use mathlib.Core.Path.{sym, ◌∙◌}
use borrow.Author.Rules.{rules}
use Rattle.decoders.proofs.settling.Settling.locktime_next.Goals as goal

pub returns-then-self-eq0 : goal.returns-then-self-eq0
returns-then-self-eq0 c = c.finished.ensures ∙ sym (locktime_plain _ (search rules))

pub returns-then-self-eq1 : goal.returns-then-self-eq1
returns-then-self-eq1 c = c.next_input_witness.ensures ∙ sym (locktime_witnesses _ (search rules) (search rules))

pub returns-else-self-eq1 : goal.returns-else-self-eq1
returns-else-self-eq1 c = c.refuse.ensures ∙ sym (locktime_refused _ (search rules) (search rules))
