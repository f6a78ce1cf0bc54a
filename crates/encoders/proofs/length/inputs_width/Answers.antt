use Rattle.std.proofs.Common.{◌+◌, ◌∙◌, rules, tests}
use Rattle.std.proofs.lemmas.Iterator.{YieldsList-from_slice}
use Rattle.std.proofs.lemmas.Iterator.Consumers.{fold_from_yields_List}
use Rattle.encoders.specs.Needs.{capped, whole_input}
use Rattle.encoders.proofs.Widths.{capped_all}
use Rattle.encoders.proofs.length.inputs_width.Goals as goal

pub returns : goal.returns
returns c =
    fold_from_yields_List _ (λ s r. capped (s + whole_input c.args.flag r)) 0 _ c.fold.ensures.ran (YieldsList-from_slice c.args.inputs.now (search rules)) (λ a x b q k. search (rules, tests))
    ∙ capped_all (whole_input c.args.flag) c.args.inputs.now
