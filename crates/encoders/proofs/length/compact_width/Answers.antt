use Rattle.std.proofs.Common.{arith}
use Rattle.encoders.proofs.Widths.{compact_one, compact_three, compact_five}
use Rattle.encoders.proofs.length.compact_width.Goals as goal

pub returns-in-0-to-252 : goal.returns-in-0-to-252
returns-in-0-to-252 c = compact_one (omega arith)

pub returns-in-253-to-65535 : goal.returns-in-253-to-65535
returns-in-253-to-65535 c = compact_three (omega arith) (omega arith)

pub returns-in_default : goal.returns-in_default
returns-in_default c = compact_five (omega arith) (omega arith) c.ranges.n.fits
