-- Numbers in bytes: facts proved once, over the width.
--     value_append   the value of two lists of bytes behind one another
--     value_bound    the value of w bytes is below 256 ^ w
--     value_bytes_lem, bytes_value   the bytes of a value, and the value of bytes: one undoes the other
use Prim.Native.Nat.{ℕ, zero, suc, ◌+◌, ◌*◌, ◌/◌, ◌%◌, ◌^◌, ◌<◌, ◌≤◌}
use mathlib.Core.Path.{◌≡◌, refl, sym, ◌∙◌, ap, ap₂, subst}
use mathlib.Core.List.{List, [], ◌∷◌, ◌++◌}
use native.Mathlib.Nat.{mul_assoc, mul_comm, mul-add, pow-succ', add-mul, mul-le-mul_right, lt_of_lt_of_le, pow-le-pow_right, div-div-eq-div-mul, div-eq_of_lt, mul-add-div_right}
use native.Mathlib.Omega.{arith}
use lib.ListN.{length, length-append, length-take, take, drop}
use lib.Pow.{pow-add}
use lib.Seq.{get_or-drop}
use lib.Dec.{lit<}
use Rattle.layout.specs.Number.{Order, little, big, value, bytes_of, Bytes}

-- the value of xs and then of m bytes that are worth v
unfoldable pub joined : Order → List ℕ → ℕ → ℕ → ℕ
joined little xs m v = value little xs + 256 ^ length xs * v
joined big xs m v = value big xs * 256 ^ m + v

up : (n v : ℕ) → 256 ^ suc n * v ≡ 256 * (256 ^ n * v)
up n v = ap (λ (p : ℕ). p * v) (pow-succ' 256 n) ∙ mul_assoc 256 (256 ^ n) v

pub value_append : (o : Order) (xs ys : List ℕ) → value o (xs ++ ys) ≡ joined o xs (length ys) (value o ys)
unfolding value joined
value_append little [] ys = omega arith
value_append little (x ∷ xs) ys = omega (arith, value_append little xs ys, up (length xs) (value little ys))
value_append big [] ys = omega arith
value_append big (x ∷ xs) ys =
    let split : x * 256 ^ length (xs ++ ys) ≡ x * 256 ^ length xs * 256 ^ length ys = rw (length-append xs ys, pow-add 256 (length xs) (length ys)) (sym (mul_assoc x (256 ^ length xs) (256 ^ length ys))) in
    omega (arith, value_append big xs ys, split, add-mul (x * 256 ^ length xs) (value big xs) (256 ^ length ys))

pub value_bound : (o : Order) (xs : List ℕ) → Bytes xs → value o xs < 256 ^ length xs
unfolding value
value_bound little [] h = omega arith
value_bound little (x ∷ xs) h = omega (arith, value_bound little xs (λ i. h (suc i)), h zero, pow-succ' 256 (length xs))
value_bound big [] h = omega arith
value_bound big (x ∷ xs) h =
    let least : x ≤ 255 = omega (arith, h zero) in
    omega (arith, value_bound big xs (λ i. h (suc i)), mul-le-mul_right (256 ^ length xs) least, pow-succ' 256 (length xs))

pub bytes_drop : (n : ℕ) (xs : List ℕ) → Bytes xs → Bytes (drop n xs)
bytes_drop n xs h i = rw (get_or-drop n xs i 0) (h (n + i))

pub bytes_take : (n : ℕ) (xs : List ℕ) → Bytes xs → Bytes (take n xs)
bytes_take zero xs h i = omega arith
bytes_take (suc n) [] h i = omega arith
bytes_take (suc n) (x ∷ xs) h zero = h zero
bytes_take (suc n) (x ∷ xs) h (suc i) = bytes_take n xs (λ j. h (suc j)) i

pub value_small : (o : Order) (w : ℕ) (xs : List ℕ) → Bytes xs → value o (take w xs) < 256 ^ w
value_small o w xs h = lt_of_lt_of_le (value_bound o (take w xs) (bytes_take w xs h)) (pow-le-pow_right (lit< tt) (omega (arith, length-take w xs)))

-- ---- the bytes of a number

pub length_bytes : (o : Order) (w v : ℕ) → length (bytes_of o w v) ≡ w
unfolding bytes_of
length_bytes little zero v = refl
length_bytes little (suc w) v = ap suc (length_bytes little w (v / 256))
length_bytes big zero v = refl
length_bytes big (suc w) v = ap suc (length_bytes big w v)

pub below : (x : ℕ) (xs : List ℕ) → x < 256 → Bytes xs → Bytes (x ∷ xs)
below x xs h hs zero = h
below x xs h hs (suc i) = hs i

pub bytes_bytes : (o : Order) (w v : ℕ) → Bytes (bytes_of o w v)
unfolding bytes_of
bytes_bytes little zero v = λ i. omega arith
bytes_bytes little (suc w) v = below (v % 256) (bytes_of little w (v / 256)) (omega arith) (bytes_bytes little w (v / 256))
bytes_bytes big zero v = λ i. omega arith
bytes_bytes big (suc w) v = below (v / 256 ^ w % 256) (bytes_of big w v) (omega arith) (bytes_bytes big w v)

-- what the bytes leave out are the multiples of 256 ^ w
value_rest_lem : (w v : ℕ) → value big (bytes_of big w v) + 256 ^ w * (v / 256 ^ w) ≡ v
unfolding value bytes_of
value_rest_lem zero v = omega arith
value_rest_lem (suc w) v =
    let p = 256 ^ w in
    let q = v / p in
    let quotient : v / 256 ^ suc w ≡ q / 256 = ap (λ (n : ℕ). v / n) (pow-succ' 256 w ∙ mul_comm 256 p) ∙ sym (div-div-eq-div-mul v p 256) in
    let split : q % 256 + 256 * (q / 256) ≡ q = omega arith in
    let weigh : p * q ≡ p * (q % 256) + p * (256 * (q / 256)) = ap (λ (n : ℕ). p * n) (sym split) ∙ mul-add p (q % 256) (256 * (q / 256)) in
    let long : q % 256 * 256 ^ length (bytes_of big w v) ≡ p * (q % 256) = ap (λ (n : ℕ). q % 256 * 256 ^ n) (length_bytes big w v) ∙ mul_comm (q % 256) p in
    let top : 256 ^ suc w * (v / 256 ^ suc w) ≡ p * (256 * (q / 256)) = ap₂ (λ (a b : ℕ). a * b) (pow-succ' 256 w ∙ mul_comm 256 p) quotient ∙ mul_assoc p 256 (q / 256) in
    omega (arith, value_rest_lem w v, weigh, long, top)

pub value_bytes_lem : (o : Order) (w v : ℕ) → v < 256 ^ w → value o (bytes_of o w v) ≡ v
unfolding value bytes_of
value_bytes_lem little zero v h = omega arith
value_bytes_lem little (suc w) v h = omega (arith, value_bytes_lem little w (v / 256) (omega (arith, pow-succ' 256 w)))
value_bytes_lem big w v h = omega (arith, value_rest_lem w v, ap (λ (n : ℕ). 256 ^ w * n) (div-eq_of_lt h))

-- bytes of one value and one length are the same
pub value_injective : (o : Order) (xs ys : List ℕ) → Bytes xs → Bytes ys → length xs ≡ length ys → value o xs ≡ value o ys → xs ≡ ys
unfolding value
value_injective o [] [] hx hy e v = refl
value_injective o [] (y ∷ ys) hx hy e v = absurd (omega arith)
value_injective o (x ∷ xs) [] hx hy e v = absurd (omega arith)
value_injective little (x ∷ xs) (y ∷ ys) hx hy e v =
    let first : x ≡ y = omega (arith, hx zero, hy zero) in
    ap₂ (λ (b : ℕ) (bs : List ℕ). b ∷ bs) first (value_injective little xs ys (λ i. hx (suc i)) (λ i. hy (suc i)) (omega arith) (omega arith))
value_injective big (x ∷ xs) (y ∷ ys) hx hy e v =
    let p = 256 ^ length xs in
    let some : 0 < p = omega (arith, value_bound big xs (λ i. hx (suc i))) in
    let as_long : 256 ^ length ys ≡ p = ap (λ (n : ℕ). 256 ^ n) (omega arith) in
    let firsts : (b r : ℕ) → r < p → (b * p + r) / p ≡ b = λ b r h. omega (arith, mul-add-div_right some b r, div-eq_of_lt h) in
    let alike : x * p + value big xs ≡ y * p + value big ys = v ∙ ap (λ (n : ℕ). y * n + value big ys) as_long in
    let first : x ≡ y =
    sym (firsts x (value big xs) (value_bound big xs (λ i. hx (suc i))))
    ∙ ap (λ (n : ℕ). n / p) alike
    ∙ firsts y (value big ys) (subst (λ (n : ℕ). value big ys < n) as_long (value_bound big ys (λ i. hy (suc i)))) in
    ap₂ (λ (b : ℕ) (bs : List ℕ). b ∷ bs) first (value_injective big xs ys (λ i. hx (suc i)) (λ i. hy (suc i)) (omega arith) (omega (arith, alike, ap (λ (n : ℕ). n * p) first)))

pub bytes_value : (o : Order) (w : ℕ) (xs : List ℕ) → Bytes xs → length xs ≡ w → bytes_of o w (value o xs) ≡ xs
bytes_value o w xs h e =
    let small : value o xs < 256 ^ w = subst (λ (n : ℕ). value o xs < 256 ^ n) e (value_bound o xs h) in
    value_injective o (bytes_of o w (value o xs)) xs (bytes_bytes o w (value o xs)) h (length_bytes o w (value o xs) ∙ sym e) (value_bytes_lem o w (value o xs) small)

-- one byte is its own value: with value_append this fixes what a number's bytes are worth, in either order
pub value_one : (o : Order) (b : ℕ) → value o (b ∷ []) ≡ b
unfolding value
value_one little b = omega arith
value_one big b = omega arith
