use Rattle.std.proofs.Common.{ℕ, List}
use Rattle.layout.specs.Contents.{body_bytes}
use Rattle.layout.specs.Writing.{item_of}
use Rattle.encoders.proofs.Taking.{Turn}
use Rattle.encoders.proofs.put.put_stack.Given as goal

abbrev pub invariant-loop-r : goal.invariant-loop-r
invariant-loop-r g l = Turn g.S.Sink.step (λ (r : List ℕ). body_bytes (item_of l.source r)) l.r-items l.r-index l.initial.sink l.sink
