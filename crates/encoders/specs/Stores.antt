-- What the output makes of a byte. Assumes nothing.
use Rattle.std.specs.Prelude.{ℕ, ◌+◌, cond, ltb, length, slice_set}
use Rattle.encoders.specs.declared.store.Store.{Store}

-- stored at the place, and the place moves on; behind the end nothing changes
abbrev pub stored : Store → ℕ → Store
stored s b = cond (ltb s.at (length s.out.now)) (record s { out = record s.out { now = slice_set s.out.now s.at b }; at = s.at + 1 }) s
