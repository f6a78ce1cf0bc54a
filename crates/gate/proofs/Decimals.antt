-- What the decimal digits of a number are: their value is the number, each is a digit, and the first is no zero but 0's own. And the kit's.
use Prim.Native.Nat.{ℕ, zero, suc, ◌+◌, ◌-◌, ◌*◌, ◌/◌, ◌%◌, ◌^◌, ◌≤◌, ◌<◌}
use mathlib.Core.Path.{◌≡◌, refl, sym, ◌∙◌, ap, ap₂, subst}
use mathlib.Core.Bool.{Bool, true, false}
use mathlib.Core.List.{List, [], ◌∷◌, ◌++◌}
use native.Mathlib.Nat.{pow-succ', one-le-pow, pow-le-pow_right}
use native.Mathlib.Omega.{arith}
use lib.Dec.{ltb}
use lib.ListN.{length, get_or, length-append}
use borrow.Author.Tests.{lt-ltb, le-ltb, ltb-true, ltb-false}
use Rattle.io.specs.Digits.{hex_digit_ascii, last_digits, IsDigitCount}
use Rattle.gate.specs.Text.{digits_in, decimal}

by_cases : {P : Type 0} (b : Bool) → (b ≡ true → P) → (b ≡ false → P) → P
by_cases true p q = p refl
by_cases false p q = q refl

-- ---- the value of a list of ASCII digits

unfoldable pub value_from : ℕ → List ℕ → ℕ
value_from v [] = v
value_from v (d ∷ ds) = value_from (10 * v + (d - 48)) ds

abbrev pub value : List ℕ → ℕ
value ds = value_from 0 ds

value_snoc : (v : ℕ) (ds : List ℕ) (d : ℕ) → value_from v (ds ++ d ∷ []) ≡ 10 * value_from v ds + (d - 48)
unfolding value_from
value_snoc v [] d = refl
value_snoc v (e ∷ ds) d = value_snoc (10 * v + (e - 48)) ds d

below : (k n : ℕ) → n < 10 → digits_in (suc k) n ≡ (48 + n) ∷ []
unfolding digits_in
below k n h = rw (lt-ltb n 10 h)

above : (k n : ℕ) → 10 ≤ n → digits_in (suc k) n ≡ digits_in k (n / 10) ++ (48 + n % 10) ∷ []
unfolding digits_in
above k n h = rw (le-ltb n 10 h)

in_value : (k n : ℕ) → n < 10 ^ k → value (digits_in k n) ≡ n
unfolding value_from digits_in
in_value zero n h = let none : 10 ^ 0 ≡ 1 = refl in omega arith
in_value (suc k) n h =
    by_cases (ltb n 10)
    (λ e. ap value (below k n (ltb-true n 10 e)) ∙ omega arith)
    (λ e.
    let more = ltb-false n 10 e in
    let tenth : n / 10 < 10 ^ k = omega (arith, pow-succ' 10 k) in
    ap value (above k n more) ∙ value_snoc 0 (digits_in k (n / 10)) (48 + n % 10) ∙ omega (arith, in_value k (n / 10) tenth))

-- The digits have the number as their value,
pub decimal_value : (n : ℕ) → n < 10 ^ 20 → value (decimal n) ≡ n
decimal_value n h = in_value 20 n h

-- each is one of the ten,
pub Digits : List ℕ → Type 0
Digits ds = (i : ℕ) → i < length ds → (48 ≤ get_or ds i 0) × (get_or ds i 0 ≤ 57)

digits_append : (xs ys : List ℕ) → Digits xs → Digits ys → Digits (xs ++ ys)
unfolding Digits
digits_append [] ys p q i h = q i h
digits_append (x ∷ xs) ys p q zero h = p zero (omega arith)
digits_append (x ∷ xs) ys p q (suc i) h = digits_append xs ys (λ j l. p (suc j) (omega arith)) q i (omega arith)

one_digit : (d : ℕ) → d < 10 → Digits ((48 + d) ∷ [])
unfolding Digits
one_digit d h zero l = (omega arith, omega arith)
one_digit d h (suc i) l = absurd (omega arith)

in_digits : (k n : ℕ) → Digits (digits_in k n)
unfolding Digits digits_in
in_digits zero n = λ i h. absurd (omega arith)
in_digits (suc k) n =
    by_cases (ltb n 10)
    (λ e. subst Digits (sym (below k n (ltb-true n 10 e))) (one_digit n (ltb-true n 10 e)))
    (λ e. subst Digits (sym (above k n (ltb-false n 10 e))) (digits_append (digits_in k (n / 10)) ((48 + n % 10) ∷ []) (in_digits k (n / 10)) (one_digit (n % 10) (omega arith))))

pub decimal_digits : (n : ℕ) → Digits (decimal n)
decimal_digits n = in_digits 20 n

-- and the first is a zero only where the number is 0, which has this one digit.
first_append : (xs ys : List ℕ) → 0 < length xs → get_or (xs ++ ys) 0 0 ≡ get_or xs 0 0
first_append [] ys h = absurd (omega arith)
first_append (x ∷ xs) ys h = refl

in_some : (k n : ℕ) → 0 < length (digits_in (suc k) n)
in_some k n =
    by_cases (ltb n 10)
    (λ e. omega (arith, ap length (below k n (ltb-true n 10 e))))
    (λ e. omega (arith, ap length (above k n (ltb-false n 10 e)), length-append (digits_in k (n / 10)) ((48 + n % 10) ∷ [])))

in_first : (k n : ℕ) → 0 < n → n < 10 ^ k → 48 < get_or (digits_in k n) 0 0
in_first zero n p h = let none : 10 ^ 0 ≡ 1 = refl in absurd (omega arith)
in_first (suc zero) n p h =
    let ten : 10 ^ 1 ≡ 10 = refl in
    omega (arith, ap (λ (l : List ℕ). get_or l 0 0) (below 0 n (omega arith)))
in_first (suc (suc k)) n p h =
    by_cases (ltb n 10)
    (λ e. omega (arith, ap (λ (l : List ℕ). get_or l 0 0) (below (suc k) n (ltb-true n 10 e))))
    (λ e.
    let more = ltb-false n 10 e in
    let tenth : n / 10 < 10 ^ suc k = omega (arith, pow-succ' 10 (suc k)) in
    let some : 0 < n / 10 = omega arith in
    omega (arith, ap (λ (l : List ℕ). get_or l 0 0) (above (suc k) n more), first_append (digits_in (suc k) (n / 10)) ((48 + n % 10) ∷ []) (in_some k (n / 10)), in_first (suc k) (n / 10) some tenth))

pub decimal_first : (n : ℕ) → 0 < n → n < 10 ^ 20 → 48 < get_or (decimal n) 0 0
decimal_first n p h = in_first 20 n p h

-- ---- loads

pub zero_text : decimal 0 ≡ 48 ∷ []
unfolding digits_in
zero_text = refl

pub nine_text : decimal 9 ≡ 57 ∷ []
unfolding digits_in
nine_text = refl

pub ten_text : decimal 10 ≡ 49 ∷ 48 ∷ []
unfolding digits_in
ten_text = refl

-- 4294967295
pub word_text : decimal 4294967295 ≡ 52 ∷ 50 ∷ 57 ∷ 52 ∷ 57 ∷ 54 ∷ 55 ∷ 50 ∷ 57 ∷ 53 ∷ []
unfolding digits_in
word_text = refl

-- 18446744073709551615
pub longest_text : decimal 18446744073709551615 ≡ 49 ∷ 56 ∷ 52 ∷ 52 ∷ 54 ∷ 55 ∷ 52 ∷ 52 ∷ 48 ∷ 55 ∷ 51 ∷ 55 ∷ 48 ∷ 57 ∷ 53 ∷ 53 ∷ 49 ∷ 54 ∷ 49 ∷ 53 ∷ []
unfolding digits_in
longest_text = refl

-- ---- the kit's digits, the fewest that hold a number, are these

glyph_digit : (d : ℕ) → d < 10 → hex_digit_ascii d ≡ 48 + d
glyph_digit d h = rw (lt-ltb d 10 h)

fewest_in : (j k n : ℕ) → suc k ≤ j → n < 10 ^ suc k → (0 < k → 10 ^ k ≤ n) → last_digits 10 (suc k) n ≡ digits_in j n
fewest_in zero k n most h g = absurd (omega arith)
fewest_in (suc j) zero n most h g =
    let ten : 10 ^ 1 ≡ 10 = refl in
    let low : n < 10 = omega arith in
    let last : n % 10 ≡ n = omega arith in
    ap (λ (d : ℕ). d ∷ []) (glyph_digit (n % 10) (omega arith) ∙ ap (λ (d : ℕ). 48 + d) last) ∙ sym (below j n low)
fewest_in (suc j) (suc k) n most h g =
    let least : 10 ^ suc k ≤ n = g (omega arith) in
    let one : 1 ≤ 10 ^ k = one-le-pow k 10 (omega arith) in
    let more : 10 ≤ n = omega (arith, pow-succ' 10 k) in
    let tenth : n / 10 < 10 ^ suc k = omega (arith, pow-succ' 10 (suc k)) in
    ap₂ (λ (l : List ℕ) (d : ℕ). l ++ d ∷ []) (fewest_in j k (n / 10) (omega arith) tenth (λ p. omega (arith, pow-succ' 10 k))) (glyph_digit (n % 10) (omega arith)) ∙ sym (above j n more)

suc_minus : (k : ℕ) → suc k - 1 ≡ k
suc_minus k = omega arith

pub fewest_most : (k n : ℕ) → n < 10 ^ 20 → IsDigitCount 10 1 n k → k ≤ 20
fewest_most k n h (p, q, r) =
    by_cases (ltb 20 k)
    (λ e.
    let more = ltb-true 20 k e in
    let less : 20 ≤ k - 1 = omega arith in
    absurd (omega (arith, r (omega arith), pow-le-pow_right {n = 10} (omega arith) {i = 20} less)))
    (λ e. ltb-false 20 k e)

pub fewest_decimal : (k n : ℕ) → k ≤ 20 → IsDigitCount 10 1 n k → last_digits 10 k n ≡ decimal n
fewest_decimal zero n most (p, q, r) = absurd (omega arith)
fewest_decimal (suc k) n most (p, q, r) = fewest_in 20 k n most q (λ l. subst (λ (m : ℕ). 10 ^ m ≤ n) (suc_minus k) (r (omega arith)))
