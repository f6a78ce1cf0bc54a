use Rattle.decoders.proofs.Laws.{script_more, script_none}
use mathlib.Core.Path.{sym, ◌∙◌}
use borrow.Author.Rules.{rules}
use Rattle.decoders.proofs.TransactionDecoder.next_script_item.Goals as goal

pub returns-then-self-gt0 : goal.returns-then-self-gt0
returns-then-self-gt0 c = c.compact.ensures ∙ sym (script_more _ (search rules))

pub returns-else-self-gt0 : goal.returns-else-self-gt0
returns-else-self-gt0 c = c.compact-else-self-gt0.ensures ∙ sym (script_none _ (search rules))
