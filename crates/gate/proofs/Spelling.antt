-- Laws of putting a number into a text.
use Prim.Native.Nat.{ℕ, ◌^◌, ◌<◌}
use mathlib.Core.Path.{◌≡◌, ◌∙◌}
use mathlib.Core.List.{List}
use native.Mathlib.Omega.{arith}
use lib.ListN.{take}
use Rattle.io.specs.Digits.{last_digits, IsDigitCount}
use Rattle.gate.specs.Text.{decimal}
use Rattle.gate.proofs.Decimals.{fewest_most, fewest_decimal}

pub number_spelt : (n count : ℕ) (d : List ℕ) → n < 2 ^ 64 → IsDigitCount 10 1 n count → take count d ≡ last_digits 10 count n → take count d ≡ decimal n
number_spelt n count d h fewest same = same ∙ fewest_decimal count n (fewest_most count n (omega arith) fewest) fewest
