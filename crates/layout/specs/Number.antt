-- Numbers in bytes: little-endian unless said.
use Rattle.std.specs.Prelude.{ℕ, zero, suc, ◌+◌, ◌*◌, ◌/◌, ◌%◌, ◌^◌, ◌<◌, List, [], ◌∷◌, length, get_or}

pub data Order : Type 0 where
  little : Order
  big : Order

unfoldable pub value : Order → List ℕ → ℕ
value little [] = 0
value little (b ∷ bs) = b + 256 * value little bs
value big [] = 0
value big (b ∷ bs) = b * 256 ^ length bs + value big bs

-- A list of bytes: every element is below 256.
abbrev pub Bytes : List ℕ → Type 0
Bytes xs = (i : ℕ) → get_or xs i 0 < 256

-- The bytes of a number, so many of them.
unfoldable pub bytes_of : Order → ℕ → ℕ → List ℕ
bytes_of little zero v = []
bytes_of little (suc w) v = v % 256 ∷ bytes_of little w (v / 256)
bytes_of big zero v = []
bytes_of big (suc w) v = v / 256 ^ w % 256 ∷ bytes_of big w v
