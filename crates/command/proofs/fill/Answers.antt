-- The test before it says that a read brought bytes. The search finds this, too; written out, a wrong test is refused at it.
use Rattle.std.proofs.Common.{arith}
use Rattle.command.proofs.fill.Goals as goal

pub loop-n-smaller : goal.loop-n-smaller
loop-n-smaller g c = omega arith
