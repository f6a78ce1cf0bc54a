use Rattle.decoders.proofs.Laws.{input_more, input_none}
use mathlib.Core.Path.{sym, ◌∙◌}
use borrow.Author.Rules.{rules}
use Rattle.decoders.proofs.TransactionDecoder.next_input.Goals as goal

pub returns-then-self : goal.returns-then-self
returns-then-self c = c.opaque.ensures ∙ sym (input_more _ (search rules))

pub returns-else-self : goal.returns-else-self
returns-else-self c = c.compact.ensures ∙ sym (input_none _ (search rules))
