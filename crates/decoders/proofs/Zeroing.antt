-- Three tables that are 0.
use Prim.Native.Nat.{ℕ}
use mathlib.Core.Path.{◌≡◌}
use mathlib.Core.List.{List}
use lib.ListN.{length, replicate}
use Rattle.decoders.specs.Feeding.{tables, cleared}

pub cleared_each : (i o n i' o' n' : List ℕ) → i' ≡ replicate (length i) 0 → o' ≡ replicate (length o) 0 → n' ≡ replicate (length n) 0 → tables i' o' n' ≡ cleared (tables i o n)
cleared_each i o n i' o' n' a b c = λ j. tables (a j) (b j) (c j)
