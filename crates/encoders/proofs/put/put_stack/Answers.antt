use Rattle.std.proofs.Common.{[], arith}
use Rattle.layout.specs.Contents.{body_bytes}
use Rattle.layout.specs.Writing.{item_of}
use Rattle.encoders.proofs.Rows.{stack_bytes}
use Rattle.encoders.proofs.Taking.{as_bytes, both, turn_start, turn_next, turn_end}
use Rattle.encoders.proofs.put.put_stack.Goals as goal

pub loop-r-init : goal.loop-r-init
loop-r-init g c = turn_start

pub loop-r-preserved : goal.loop-r-preserved
unfolding item_of
loop-r-preserved g c = turn_next [] c.loop-r-test.true c.loop-r.invariant c.put_body.ensures

pub returns : goal.returns
returns g c =
    as_bytes (stack_bytes body_bytes (item_of c.args.source.now) c.args.first c.args.n _ c.args.items.now (omega arith) c.requires.held)
    (both c.put_compact.ensures (turn_end c.loop-r-test.false c.loop-r.invariant))
