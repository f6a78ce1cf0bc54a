use Rattle.decoders.proofs.Laws.{output_witness_more, output_witness_none}
use mathlib.Core.Path.{sym, ◌∙◌}
use borrow.Author.Rules.{rules}
use Rattle.decoders.proofs.TransactionDecoder.next_output_witness.Goals as goal

pub returns-then-self : goal.returns-then-self
returns-then-self c = c.compact.ensures ∙ sym (output_witness_more _ (search rules))

pub returns-else-self : goal.returns-else-self
returns-else-self c = c.witnesses_end.ensures ∙ sym (output_witness_none _ (search rules))
