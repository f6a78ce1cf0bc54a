-- Counts of bytes that were read.
use Rattle.std.proofs.Common.{◌≡◌, ℕ, ◌≤◌, List, length, subst, arith}
use Rattle.command.specs.declared.Taken.{Taken}
use Rattle.command.specs.declared.Taken.TheVariants.{Whole}
use Rattle.command.specs.Within.{Within}

-- for a program: the bytes counted lie in the buffer as the call leaves it
pub whole_within : (t : Taken) (n before : ℕ) (after : List ℕ) → Within t before → t ≡ Whole n → length after ≡ before → n ≤ length after
whole_within t n before after h e same =
    let fits : n ≤ before = subst (λ (x : Taken). Within x before) e h in
    omega arith
