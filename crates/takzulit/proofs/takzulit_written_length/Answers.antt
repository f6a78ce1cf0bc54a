use Rattle.takzulit.proofs.Leaves.{asks}
use Rattle.takzulit.proofs.takzulit_written_length.Goals as goal

pub returns : goal.returns
returns c = asks _ c.args.head.now _ _ _ _ c.from.ensures c.written_length-told.ensures c.written.ensures
