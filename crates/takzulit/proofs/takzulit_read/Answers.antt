use Rattle.layout.specs.Outcome.{at_once}
use Rattle.decoders.specs.Feeding.{tables, layout_sizes}
use Rattle.takzulit.proofs.Leaves.{shows}
use Rattle.takzulit.proofs.takzulit_read.Goals as goal

pub returns : goal.returns
returns c = shows _ _ _ _ (at_once (layout_sizes (tables c.args.inputs.now c.args.outputs.now c.args.items.now)) c.args.bytes.now) c.read-read.ensures c.head.ensures c.answer.ensures
