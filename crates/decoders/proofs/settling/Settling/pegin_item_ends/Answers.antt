use Rattle.decoders.proofs.Laws.{pegin_item}
use mathlib.Core.Path.{◌∙◌}
use borrow.Author.Rules.{rules}
use Rattle.decoders.proofs.settling.Settling.pegin_item_ends.Goals as goal

pub returns : goal.returns
returns c = c.next_pegin_item.ensures ∙ pegin_item _ _ (search rules)
