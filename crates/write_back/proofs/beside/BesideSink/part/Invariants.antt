use Rattle.std.proofs.Common.{◌∷◌, []}
use Rattle.encoders.proofs.Taking.{Turn}
use Rattle.write_back.specs.Held.{held}
use Rattle.write_back.proofs.beside.BesideSink.part.Given as goal

abbrev pub invariant-loop-b : goal.invariant-loop-b
invariant-loop-b l = Turn held (λ b. b ∷ []) l.bytes l.b-index l.initial.self l.self
