use Rattle.decoders.proofs.Laws.{script_item}
use mathlib.Core.Path.{◌∙◌}
use borrow.Author.Rules.{rules}
use Rattle.decoders.proofs.settling.Settling.script_item_ends.Goals as goal

pub returns : goal.returns
returns c = c.next_script_item.ensures ∙ script_item _ _ (search rules)
