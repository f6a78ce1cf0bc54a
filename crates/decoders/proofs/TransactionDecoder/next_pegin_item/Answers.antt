use Rattle.decoders.proofs.Laws.{pegin_more, pegin_none}
use mathlib.Core.Path.{sym, ◌∙◌}
use borrow.Author.Rules.{rules}
use Rattle.decoders.proofs.TransactionDecoder.next_pegin_item.Goals as goal

pub returns-then-self-gt0 : goal.returns-then-self-gt0
returns-then-self-gt0 c = c.compact.ensures ∙ sym (pegin_more _ (search rules))

pub returns-else-self-gt0 : goal.returns-else-self-gt0
returns-else-self-gt0 c = c.next_input_witness.ensures ∙ sym (pegin_none _ (search rules))
