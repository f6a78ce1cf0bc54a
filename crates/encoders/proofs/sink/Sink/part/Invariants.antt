use Rattle.std.proofs.Common.{◌∷◌, []}
use Rattle.encoders.proofs.Taking.{Turn}
use Rattle.encoders.proofs.sink.Sink.part.Given as goal

abbrev pub invariant-loop-b : goal.invariant-loop-b
invariant-loop-b g l = Turn g.Self.Sink.step (λ b. b ∷ []) l.bytes l.b-index l.initial.self l.self
