use Rattle.std.proofs.Common.{◌≡◌, ◌≤◌, length, take}
use Rattle.encoders.proofs.store.copy_bytes.Given as goal

abbrev pub invariant-loop-i : goal.invariant-loop-i
invariant-loop-i l = (l.i ≤ length l.bytes) × (take l.i l.out ≡ take l.i l.bytes)
