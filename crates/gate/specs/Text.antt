-- The gate's line as text: decimal digits, one space between, a line feed after. Assumes nothing.
use Rattle.std.specs.Prelude.{ℕ, zero, suc, ◌+◌, ◌/◌, ◌%◌, cond, List, [], ◌∷◌, ◌++◌, ltb}
use Rattle.gate.specs.declared.Line.{Line}

-- A number's decimal digits in ASCII, where `0` is 48, in so many places at most: below ten it is one digit; else the digits of its tenth part,
-- and its last digit behind them.
unfoldable pub digits_in : ℕ → ℕ → List ℕ
digits_in zero n = []
digits_in (suc k) n = cond (ltb n 10) ((48 + n) ∷ []) (digits_in k (n / 10) ++ (48 + n % 10) ∷ [])

-- A number of 64 bits has at most 20 digits. What this list is: proofs/Decimals, `decimal_value`, `decimal_digits`, `decimal_first`.
abbrev pub decimal : ℕ → List ℕ
decimal n = digits_in 20 n

abbrev pub space : List ℕ
space = 32 ∷ []

abbrev pub line_feed : List ℕ
line_feed = 10 ∷ []

abbrev pub line_bytes : Line → List ℕ
line_bytes l =
    decimal l.number ++ space ++ decimal l.place ++ space ++ decimal l.inputs ++ space ++ decimal l.outputs ++ space ++ decimal l.items ++ line_feed
