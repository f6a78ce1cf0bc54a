use Rattle.encoders.proofs.Taking.{as_bytes, turn_start, turn_next, turn_end, each_byte}
use Rattle.std.proofs.Common.{sym}
use Rattle.encoders.proofs.sink.Sink.part.Goals as goal

pub loop-b-init : goal.loop-b-init
loop-b-init g c = turn_start

pub loop-b-preserved : goal.loop-b-preserved
loop-b-preserved g c = turn_next 0 c.loop-b-test.true c.loop-b.invariant c.byte.ensures

pub returns : goal.returns
returns g c = as_bytes (sym (each_byte c.args.bytes.now)) (turn_end c.loop-b-test.false c.loop-b.invariant)
