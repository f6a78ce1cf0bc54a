use Rattle.decoders.proofs.Laws.{input_witness_more, input_witness_none}
use mathlib.Core.Path.{sym, ◌∙◌}
use borrow.Author.Rules.{rules}
use Rattle.decoders.proofs.TransactionDecoder.next_input_witness.Goals as goal

pub returns-then-self : goal.returns-then-self
returns-then-self c = c.compact.ensures ∙ sym (input_witness_more _ (search rules))

pub returns-else-self : goal.returns-else-self
returns-else-self c = c.next_output_witness.ensures ∙ sym (input_witness_none _ (search rules))
