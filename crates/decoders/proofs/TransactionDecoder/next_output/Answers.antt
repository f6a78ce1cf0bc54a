use Rattle.decoders.proofs.Laws.{output_more, output_none}
use mathlib.Core.Path.{sym, ◌∙◌}
use borrow.Author.Rules.{rules}
use Rattle.decoders.proofs.TransactionDecoder.next_output.Goals as goal

pub returns-then-self : goal.returns-then-self
returns-then-self c = c.number.ensures ∙ sym (output_more _ (search rules))

pub returns-else-self : goal.returns-else-self
returns-else-self c = c.number-else-self.ensures ∙ sym (output_none _ (search rules))
