use Rattle.decoders.specs.Feeding.{tables}
use Rattle.takzulit.proofs.Leaves.{finishes}
use Rattle.takzulit.proofs.takzulit_end.Goals as goal

pub returns : goal.returns
returns c = finishes c.args.state.now _ _ _ _ _ _ (tables c.args.inputs.now c.args.outputs.now c.args.items.now) c.from-decoder.ensures c.end-fed.ensures c.from.ensures c.head.ensures c.answer.ensures
