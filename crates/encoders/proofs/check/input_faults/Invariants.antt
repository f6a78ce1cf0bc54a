use Rattle.encoders.proofs.Judging.{Judging}
use Rattle.encoders.proofs.check.input_faults.Given as goal

abbrev pub invariant-loop-i : goal.invariant-loop-i
invariant-loop-i l = Judging l.flag l.there l.inputs l.first l.i
