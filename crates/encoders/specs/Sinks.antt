-- What a sink makes of bytes, whatever it makes of one. Assumes nothing.
use Rattle.std.specs.Prelude.{ℕ, ◌≡◌, List, [], ◌∷◌}
use Rattle.layout.specs.Writing.{Verdict, wrote, unwritten}

-- the bytes, one after the other
unfoldable pub along : {S : Type 0} → (S → ℕ → S) → List ℕ → S → S
along step [] s = s
along step (b ∷ bytes) s = along step bytes (step s b)

-- These bytes bring a sink from one state to another.
pub record Took {S : Type 0} (step : S → ℕ → S) (bytes : List ℕ) (s t : S) : Type 0 where
  pub took : t ≡ along step bytes s

-- What writing hands to a sink: where it is refused, nothing.
abbrev pub handed : Verdict → List ℕ → List ℕ
handed (wrote n) bytes = bytes
handed (unwritten number place) bytes = []
