-- Bytes held beside those of the source, one after the other: the same up to a place, or other from there on. Assumes nothing.
use Rattle.std.specs.Prelude.{ℕ, ◌+◌, ◌≡◌, cond, ◌&&◌, List, [], ◌∷◌, ltb, eqb, length, get_or, Result, Ok, Err}

-- One byte is the one that stands there, or the walk ends there.
unfoldable pub step : List ℕ → ℕ → Result ℕ ℕ → Result ℕ ℕ
step source b (Ok at) = cond (ltb at (length source) && eqb (get_or source at 0) b) (Ok (at + 1)) (Err at)
step source b (Err at) = Err at

unfoldable pub along : List ℕ → List ℕ → Result ℕ ℕ → Result ℕ ℕ
along source [] w = w
along source (b ∷ bytes) w = along source bytes (step source b w)

-- Held beside the source from one place on, these bytes bring the walk to another.
pub record Goes (source bytes : List ℕ) (w v : Result ℕ ℕ) : Type 0 where
  pub goes : v ≡ along source bytes w
