use Rattle.std.proofs.Common.{◌+◌, ◌∙◌, rules, tests}
use Rattle.std.proofs.lemmas.Iterator.{YieldsList-from_slice}
use Rattle.std.proofs.lemmas.Iterator.Consumers.{fold_from_yields_List}
use Rattle.encoders.specs.Needs.{capped, item_width}
use Rattle.encoders.proofs.Widths.{capped_all}
use Rattle.encoders.proofs.length.items_width.Goals as goal

pub returns : goal.returns
returns c =
    fold_from_yields_List _ (λ s r. capped (s + item_width r)) 0 _ c.fold.ensures.ran (YieldsList-from_slice c.args.items.now (search rules)) (λ a x b q k. search (rules, tests))
    ∙ capped_all (item_width) c.args.items.now
