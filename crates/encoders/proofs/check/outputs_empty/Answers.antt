use Rattle.std.proofs.Common.{◌∙◌, rules, tests}
use Rattle.std.proofs.lemmas.Iterator.{YieldsList-from_slice}
use Rattle.std.proofs.lemmas.Iterator.Search.{all_from_yields_List}
use Rattle.layout.specs.Writing.{empty_output}
use Rattle.encoders.proofs.Judging.{all_are}
use Rattle.encoders.proofs.check.outputs_empty.Goals as goal

pub returns : goal.returns
returns c =
    all_from_yields_List empty_output _ _ _ c.all.ensures.ran (YieldsList-from_slice c.args.outputs.now (search rules)) (λ x b q k. search (rules, tests))
    ∙ all_are empty_output c.args.outputs.now
