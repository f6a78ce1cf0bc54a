-- Counts and lengths in their shortest form: what a first byte announces, and the four forms.
use Prim.Native.Nat.{ℕ, ◌^◌, ◌<◌, ◌≤◌}
use mathlib.Core.Path.{◌≡◌, sym, ap, subst}
use mathlib.Core.Bool.{Bool, cond}
use mathlib.Core.List.{List, [], ◌∷◌}
use native.Mathlib.Omega.{arith}
use lib.Dec.{leb, eqb, lit<}
use lib.ListN.{length}
use borrow.Author.Tests.{leb-true, leb-false, le-leb, lt-leb, eqb-true, eqb-false}
use Rattle.layout.specs.Number.{little, bytes_of}
use Rattle.layout.specs.Transaction.{announced, least}
use Rattle.layout.specs.Contents.{compact_bytes}
use Rattle.layout.proofs.Reading.{by_cases}

pub one_byte : (f : ℕ) → f < 256 → bytes_of little 1 f ≡ f ∷ []
unfolding bytes_of
one_byte f h = ap (λ (n : ℕ). n ∷ []) (omega arith)

-- what a first byte above 252 announces is the shortest form of what is not below its least
pub compact_form : (f n : ℕ) → 252 < f → f < 256 → least (announced f) ≤ n → n < 256 ^ announced f → compact_bytes n ≡ f ∷ bytes_of little (announced f) n
unfolding compact_bytes
compact_form f n above byte at_least_lem small =
    by_cases (eqb f 253)
    (λ e. let q : f ≡ 253 = eqb-true f 253 e in
    subst (λ (g : ℕ). least (announced g) ≤ n → n < 256 ^ announced g → compact_bytes n ≡ g ∷ bytes_of little (announced g) n) (sym q)
    (λ l s. rw (lt-leb n 252 (omega arith), le-leb n 65535 (omega arith))) at_least_lem small)
    (λ e. by_cases (eqb f 254)
    (λ e'. let q : f ≡ 254 = eqb-true f 254 e' in
    subst (λ (g : ℕ). least (announced g) ≤ n → n < 256 ^ announced g → compact_bytes n ≡ g ∷ bytes_of little (announced g) n) (sym q)
    (λ l s. rw (lt-leb n 252 (omega arith), lt-leb n 65535 (omega arith), le-leb n 4294967295 (omega arith))) at_least_lem small)
    (λ e'. let q : f ≡ 255 = omega (arith, eqb-false f 253 e, eqb-false f 254 e') in
    subst (λ (g : ℕ). least (announced g) ≤ n → n < 256 ^ announced g → compact_bytes n ≡ g ∷ bytes_of little (announced g) n) (sym q)
    (λ l s. rw (lt-leb n 252 (omega arith), lt-leb n 65535 (omega arith), lt-leb n 4294967295 (omega arith))) at_least_lem small))

pub short_form : (n : ℕ) → n ≤ 252 → compact_bytes n ≡ n ∷ []
unfolding compact_bytes
short_form n h = rw (le-leb n 252 h)

pub announced_short : (f : ℕ) → announced f ≤ 8
announced_short f = by_cases (eqb f 253) (λ e. rw e (omega arith)) (λ e. by_cases (eqb f 254) (λ e'. rw (e, e') (omega arith)) (λ e'. rw (e, e') (omega arith)))

pub announced_fits : (f n : ℕ) → n < 256 ^ announced f → n < 2 ^ 64
announced_fits f n h =
    by_cases (eqb f 253)
    (λ e. let s = subst (λ (t : Bool). n < 256 ^ cond t 2 (cond (eqb f 254) 4 8)) e h in omega arith)
    (λ e. by_cases (eqb f 254)
    (λ e'. let s = subst (λ (t : Bool). n < 256 ^ cond t 4 8) e' (subst (λ (t : Bool). n < 256 ^ cond t 2 (cond (eqb f 254) 4 8)) e h) in omega arith)
    (λ e'. let s = subst (λ (t : Bool). n < 256 ^ cond t 4 8) e' (subst (λ (t : Bool). n < 256 ^ cond t 2 (cond (eqb f 254) 4 8)) e h) in omega arith))

-- the four forms
pub forms : (P : List ℕ → Type 0) (n : ℕ) → n < 2 ^ 64 → (n ≤ 252 → P (n ∷ [])) → ((f : ℕ) → 252 < f → f < 256 → least (announced f) ≤ n → n < 256 ^ announced f → P (f ∷ bytes_of little (announced f) n)) → P (compact_bytes n)
forms P n g short long =
    by_cases (leb n 252)
    (λ e. subst P (sym (short_form n (leb-true n 252 e))) (short (leb-true n 252 e)))
    (λ e. by_cases (leb n 65535)
    (λ e'. by_first 253 (lit< tt) (lit< tt) (omega (arith, leb-false n 252 e)) (omega (arith, leb-true n 65535 e')))
    (λ e'. by_cases (leb n 4294967295)
    (λ e''. by_first 254 (lit< tt) (lit< tt) (omega (arith, leb-false n 65535 e')) (omega (arith, leb-true n 4294967295 e'')))
    (λ e''. by_first 255 (lit< tt) (lit< tt) (omega (arith, leb-false n 4294967295 e'')) (omega arith))))
  where
    by_first : (f : ℕ) → 252 < f → f < 256 → least (announced f) ≤ n → n < 256 ^ announced f → P (compact_bytes n)
    by_first f above byte at_least_lem small = subst P (sym (compact_form f n above byte at_least_lem small)) (long f above byte at_least_lem small)

pub least_above : (w : ℕ) → 252 < least w
least_above w = by_cases (eqb w 2) (λ e. rw e (lit< tt)) (λ e. by_cases (eqb w 4) (λ e'. rw (e, e') (lit< tt)) (λ e'. rw (e, e') (lit< tt)))

-- at least a byte
pub compact_some : (n : ℕ) → 1 ≤ length (compact_bytes n)
unfolding compact_bytes
compact_some n =
    by_cases (leb n 252) (λ e. rw e (omega arith))
    (λ e. by_cases (leb n 65535) (λ e'. rw (e, e') (omega arith))
    (λ e'. by_cases (leb n 4294967295) (λ e''. rw (e, e', e'') (omega arith)) (λ e''. rw (e, e', e'') (omega arith))))

-- what is too small for its form fits it
pub least_fits : (f n : ℕ) → n < least (announced f) → n < 256 ^ announced f
least_fits f n h =
    by_cases (eqb f 253)
    (λ e. rw e (omega (arith, subst (λ (t : Bool). n < least (cond t 2 (cond (eqb f 254) 4 8))) e h)))
    (λ e. by_cases (eqb f 254)
    (λ e'. rw (e, e') (omega (arith, subst (λ (t : Bool). n < least (cond t 4 8)) e' (subst (λ (t : Bool). n < least (cond t 2 (cond (eqb f 254) 4 8))) e h))))
    (λ e'. rw (e, e') (omega (arith, subst (λ (t : Bool). n < least (cond t 4 8)) e' (subst (λ (t : Bool). n < least (cond t 2 (cond (eqb f 254) 4 8))) e h)))))
