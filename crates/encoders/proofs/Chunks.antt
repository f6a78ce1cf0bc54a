-- A table's first rows, as arrays, are its records.
use Rattle.std.proofs.Common.{◌≡◌, ℕ, zero, suc, ◌≤◌, List, ◌∷◌, take, drop, refl, ap, arith}
use Rattle.std.specs.Simd.{first_chunks}
use Rattle.layout.specs.Writing.{records}

pub first_records : (w n m : ℕ) (t : List ℕ) → n ≤ m → take n (first_chunks w m t) ≡ records w n t
unfolding records
first_records w zero m t h = refl
first_records w (suc n) zero t h = absurd (omega arith)
first_records w (suc n) (suc m) t h = ap (λ rs. take w t ∷ rs) (first_records w n m (drop w t) (omega arith))
