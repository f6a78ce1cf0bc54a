use Rattle.std.proofs.Common.{true, ◌&&◌, ◌∙◌, rules, tests}
use Rattle.std.proofs.lemmas.Iterator.{YieldsList-from_slice}
use Rattle.std.proofs.lemmas.Iterator.Consumers.{fold_from_yields_List}
use lib.Dec.{eqb}
use Rattle.encoders.proofs.Judging.{all_folded}
use Rattle.encoders.proofs.check.zeros.Goals as goal

pub returns : goal.returns
returns c =
    fold_from_yields_List _ (λ b n. b && eqb n 0) true _ c.fold.ensures.ran (YieldsList-from_slice c.args.numbers.now (search rules)) (λ a x b q k. search (rules, tests))
    ∙ all_folded c.args.numbers.now
