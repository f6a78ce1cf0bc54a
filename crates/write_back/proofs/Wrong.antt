-- Wrong comparisons, each refuted: it breaks what `byte` and `told` promise.
use Prim.Native.Nat.{ℕ, ◌+◌}
use mathlib.Core.Path.{◌≡◌, ap}
use mathlib.Core.Bool.{cond, ◌&&◌}
use mathlib.Core.List.{List, [], ◌∷◌}
use native.Mathlib.Omega.{arith}
use lib.Dec.{ltb, leb}
use lib.ListN.{length, get_or}
use Rattle.std.proofs.Common.{Result, Ok, Err}
use Rattle.write_back.specs.declared.Outcome.{Outcome}
use Rattle.write_back.specs.declared.Outcome.TheVariants.{Same, Different, Refused, Unwritten}
use Rattle.write_back.specs.Back.{told_of}
use Rattle.write_back.specs.Beside.{step, along, Goes}

-- a byte that is less than the one written passes
pub less_passes : List ℕ → ℕ → Result ℕ ℕ → Result ℕ ℕ
less_passes source b (Ok at) = cond (ltb at (length source) && leb (get_or source at 0) b) (Ok (at + 1)) (Err at)
less_passes source b (Err at) = Err at

abbrev place : Result ℕ ℕ → ℕ
place (Ok at) = at
place (Err at) = at

pub less_passes_wrong : ((source : List ℕ) (b : ℕ) (w : Result ℕ ℕ) → Goes source (b ∷ []) w (less_passes source b w)) → ⊥
unfolding step along less_passes
less_passes_wrong e = let z : ◌≡◌ {A = ℕ} 1 0 = ap place (e (1 ∷ []) 2 (Ok 0)).goes in omega arith

-- a source that goes on behind what is written is called the same
pub rest_ignored : Result ℕ ℕ → ℕ → ℕ → Outcome
rest_ignored (Ok at) n there = cond (leb at there) (Same n) (Different at)
rest_ignored (Err at) n there = Different at

abbrev kind : Outcome → ℕ
kind (Same n) = 0
kind (Different n) = 1
kind (Refused r) = 2
kind (Unwritten r) = 3

pub rest_ignored_wrong : ((w : Result ℕ ℕ) (n there : ℕ) → rest_ignored w n there ≡ told_of w n there) → ⊥
unfolding rest_ignored
rest_ignored_wrong e = let z : ◌≡◌ {A = ℕ} 0 1 = ap kind (e (Ok 5) 5 6) in omega arith
