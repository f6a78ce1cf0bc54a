use Rattle.decoders.specs.Feeding.{tables}
use Rattle.takzulit.proofs.Leaves.{starts}
use Rattle.takzulit.proofs.takzulit_new.Goals as goal

pub returns : goal.returns
returns c = starts _ _ _ (tables c.args.inputs.now c.args.outputs.now c.args.items.now) c.from.ensures c.new-decoder.ensures
