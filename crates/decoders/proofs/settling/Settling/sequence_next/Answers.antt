use Rattle.decoders.proofs.Branches.{sequence_is, sequence_not}
use mathlib.Core.Path.{sym, ◌∙◌}
use borrow.Author.Rules.{rules}
use Rattle.decoders.proofs.settling.Settling.sequence_next.Goals as goal

pub returns-then-self-eq1 : goal.returns-then-self-eq1
returns-then-self-eq1 c = c.opaque.ensures ∙ sym (sequence_is _ (search rules))

pub returns-else-self-eq1 : goal.returns-else-self-eq1
returns-else-self-eq1 c = c.input_ends.ensures ∙ sym (sequence_not _ (search rules))
