use Rattle.std.proofs.Common.{not, ap, ◌∙◌, rules, tests}
use Rattle.std.proofs.lemmas.Iterator.{YieldsList-from_slice}
use Rattle.std.proofs.lemmas.Iterator.Search.{position_from_yields_List}
use Rattle.layout.specs.Writing.{output_rule}
use Rattle.encoders.specs.Needs.{broken}
use Rattle.encoders.proofs.Judging.{first_broken}
use Rattle.encoders.proofs.check.output_faults.Goals as goal

pub returns : goal.returns
returns c =
    c.broken.ensures
    ∙ ap broken (position_from_yields_List (λ r. not (output_rule c.args.flag c.args.there r)) _ _ _ c.position.ensures.ran (YieldsList-from_slice c.args.outputs.now (search rules)) (λ x b q k. search (rules, tests)))
    ∙ first_broken (output_rule c.args.flag c.args.there) c.args.outputs.now
