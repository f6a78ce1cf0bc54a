use Rattle.takzulit.proofs.Leaves.{wrote_out}
use Rattle.takzulit.proofs.takzulit_write.Goals as goal

pub returns : goal.returns
returns c = wrote_out _ c.args.head.now _ _ _ _ _ _ c.from.ensures c.write-told.ensures c.written.ensures
