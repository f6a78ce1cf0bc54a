use Rattle.decoders.proofs.Laws.{all_empty_lem, some_witness}
use mathlib.Core.Path.{sym, ◌∙◌}
use borrow.Author.Rules.{rules}
use Rattle.decoders.proofs.TransactionDecoder.witnesses_end.Goals as goal

pub returns-then-self-eq1 : goal.returns-then-self-eq1
returns-then-self-eq1 c = c.refuse.ensures ∙ sym (all_empty_lem _ (search rules))

pub returns-else-self-eq1 : goal.returns-else-self-eq1
returns-else-self-eq1 c = c.finished.ensures ∙ sym (some_witness _ (search rules))
