use Rattle.std.proofs.Common.{◌∙◌, rules, tests}
use Rattle.std.proofs.lemmas.Iterator.{YieldsList-from_slice}
use Rattle.std.proofs.lemmas.Iterator.Search.{all_from_yields_List}
use Rattle.layout.specs.Writing.{empty_input}
use Rattle.encoders.proofs.Judging.{all_are}
use Rattle.encoders.proofs.check.inputs_empty.Goals as goal

pub returns : goal.returns
returns c =
    all_from_yields_List empty_input _ _ _ c.all.ensures.ran (YieldsList-from_slice c.args.inputs.now (search rules)) (λ x b q k. search (rules, tests))
    ∙ all_are empty_input c.args.inputs.now
