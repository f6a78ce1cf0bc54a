use Rattle.std.proofs.Common.{◌-◌}
use Rattle.decoders.specs.Feeding.{tables}
use Rattle.gate.proofs.Hearing.{Heard}
use Rattle.gate.proofs.listen.Given as goal

abbrev pub invariant-loop-n : goal.invariant-loop-n
invariant-loop-n l = Heard (tables l.initial.inputs l.initial.outputs l.initial.items) l.decoder (tables l.inputs l.outputs l.items)

abbrev pub decreases-loop-n : goal.decreases-loop-n
decreases-loop-n l = 4000001 - l.decoder.taken
