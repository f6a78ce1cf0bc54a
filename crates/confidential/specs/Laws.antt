-- A field whose listed prefixes are 1 and two of its own, and takes 32 bytes behind each, is told by its prefixes.
use Rattle.std.specs.Prelude.{◌≡◌, ℕ, Bool, true, false, cond, ◌||◌, eqb, refl}
use Rattle.std.proofs.Common.{ap}
use Rattle.confidential.specs.Width.{prefixed_width, by_prefix}

one_of_three : (a b c : Bool) → ◌≡◌ {A = ℕ} (cond (a || b || c) 33 0) (cond a 33 (cond (b || c) 33 0))
one_of_three true b c = refl
one_of_three false b c = refl

pub prefixed_by_prefix : (first second prefix : ℕ) → prefixed_width (λ p. eqb p 1 || eqb p first || eqb p second) prefix ≡ by_prefix 32 first second prefix
prefixed_by_prefix first second prefix = ap (cond (eqb prefix 0) 1) (one_of_three (eqb prefix 1) _ _)
