use Rattle.layout.specs.Outcome.{strict}
use Rattle.decoders.specs.Feeding.{tables, layout_sizes}
use Rattle.takzulit.proofs.Leaves.{shows}
use Rattle.takzulit.proofs.takzulit_read_strict.Goals as goal

pub returns : goal.returns
returns c = shows _ _ _ _ (strict (layout_sizes (tables c.args.inputs.now c.args.outputs.now c.args.items.now)) c.args.bytes.now) c.read_strict-read.ensures c.head.ensures c.answer.ensures
