use Rattle.decoders.proofs.Gather.{Worthed}
use Rattle.decoders.proofs.Field.worths_slow.Given as goal

abbrev pub invariant-loop-i : goal.invariant-loop-i
invariant-loop-i l = Worthed l.self.form l.self.value l.self.have l.part l.v l.i
