use Rattle.std.proofs.Common.{◌≡◌, drop}
use Rattle.layout.specs.Number.{value, little}
use Rattle.encode.proofs.little.value.Given as goal

abbrev pub invariant-loop-i : goal.invariant-loop-i
invariant-loop-i l = l.n ≡ value little (drop l.i l.bytes)
