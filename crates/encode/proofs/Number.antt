-- Numbers in bytes, over the width: what code that adds up bytes needs.
--     value_next     the value of some bytes from that of those behind the first
--     value_eight    a number of 8 bytes at most is below 256 ^ 8
--     value_bytes_lem  a number of w bytes as the weighed sum of its bytes
use Prim.Native.Nat.{ℕ, zero, suc, ◌+◌, ◌*◌, ◌^◌, ◌<◌, ◌≤◌}
use mathlib.Core.Path.{◌≡◌, refl, subst}
use mathlib.Core.List.{List, [], ◌∷◌}
use native.Mathlib.Omega.{arith}
use lib.ListN.{length, get_or, take, drop, length-drop}
use lib.Seq.{drop-cons, length-take-le}
use Rattle.layout.specs.Number.{Order, little, big, value, Bytes}
use Rattle.std.proofs.lemmas.List.{take_all}
use Rattle.layout.proofs.Number.{value_small, bytes_drop}

-- one byte more, at the front
pub value_next : (at i n b : ℕ) (xs : List ℕ) → at ≡ suc i → at ≤ length xs → n ≡ value little (drop at xs) → b ≡ get_or xs i 0 → 256 * n + b ≡ value little (drop i xs)
unfolding value
value_next at i n b xs e h is_n is_b =
    let behind = subst (λ (k : ℕ). n ≡ value little (drop k xs)) e is_n in
    rw (drop-cons xs i 0 (omega arith)) (omega arith)

-- 8 bytes at most
pub value_eight : (at : ℕ) (xs : List ℕ) → Bytes xs → length xs ≤ 8 → value little (drop at xs) < 256 ^ 8
value_eight at xs q h = subst (λ (l : List ℕ). value little l < 256 ^ 8) (take_all 8 (drop at xs) (omega (arith, length-drop at xs))) (value_small little 8 (drop at xs) (bytes_drop at xs q))

-- w numbers, each worth 256 times the one before it, or behind it
abbrev pub weighed : Order → ℕ → (ℕ → ℕ) → ℕ
weighed o zero f = 0
weighed little (suc w) f = f zero + 256 * weighed little w (λ i. f (suc i))
weighed big (suc w) f = f zero * 256 ^ w + weighed big w (λ i. f (suc i))

pub value_bytes_lem : (o : Order) (w : ℕ) (xs : List ℕ) → w ≤ length xs → value o (take w xs) ≡ weighed o w (λ i. get_or xs i 0)
unfolding value
value_bytes_lem little zero xs h = refl
value_bytes_lem big zero xs h = refl
value_bytes_lem o (suc w) [] h = absurd (omega arith)
value_bytes_lem little (suc w) (x ∷ xs) h = omega (arith, value_bytes_lem little w xs (omega arith))
value_bytes_lem big (suc w) (x ∷ xs) h = rw (length-take-le w xs (omega arith), value_bytes_lem big w xs (omega arith))
