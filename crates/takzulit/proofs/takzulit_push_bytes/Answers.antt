use Rattle.decoders.specs.Feeding.{tables}
use Rattle.takzulit.proofs.Leaves.{feeds}
use Rattle.takzulit.proofs.takzulit_push_bytes.Goals as goal

pub returns : goal.returns
returns c = feeds c.args.state.now _ _ _ _ _ _ (tables c.args.inputs.now c.args.outputs.now c.args.items.now) c.args.piece.now c.from-decoder.ensures c.push_bytes-fed.ensures c.from.ensures c.head.ensures c.answer.ensures
