use Rattle.std.proofs.Common.{arith}
use Rattle.confidential.proofs.width.Goals as goal

pub overflow_add-result : goal.overflow_add-result
overflow_add-result g c = omega (arith, g.K.Confidential.short)
