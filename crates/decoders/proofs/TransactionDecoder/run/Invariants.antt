use lib.ListN.{length}
use Rattle.decoders.specs.Feeding.{tables}
use Rattle.decoders.proofs.Loop.{Turn}
use Rattle.decoders.proofs.TransactionDecoder.run.Given as goal

abbrev pub invariant-loop-rest : goal.invariant-loop-rest
invariant-loop-rest l = Turn l.initial.piece l.initial.d (tables l.initial.inputs l.initial.outputs l.initial.items) l.d (tables l.inputs l.outputs l.items) l.rest

abbrev pub decreases-loop-rest : goal.decreases-loop-rest
decreases-loop-rest l = length l.rest
