-- Vout and flags against the raw vout: one undoes the other, except for the outpoints of number 12.
use Prim.Native.Nat.{ℕ, ◌+◌, ◌*◌, ◌/◌, ◌%◌, ◌^◌, ◌<◌, ◌≤◌}
use mathlib.Core.Path.{◌≡◌, refl, sym, ◌∙◌, ap}
use mathlib.Core.Bool.{Bool, true, false, cond}
use native.Mathlib.Omega.{arith}
use lib.Dec.{leb, eqb}
use borrow.Author.Tests.{leb-false, le-leb, lt-leb, eqb-true, eqb-false, eq-eqb, ne_eqb}
use Rattle.layout.specs.Transaction.{all_ones, flag_bit, vout, flags}
use Rattle.layout.specs.Contents.{raw_vout, confused}
use Rattle.layout.proofs.Reading.{by_cases}

pub true_not_false : true ≡ false → ⊥
true_not_false q = let z : ◌≡◌ {A = ℕ} 0 1 = ap (λ (b : Bool). cond b 0 1) q in omega arith

-- An outpoint that can be told apart: all ones and no flag, or less than 2 ^ 30 and not all ones with both flags.
data Apart (v f : ℕ) : Type 0 where
  ones : v ≡ 0xffff_ffff → f ≡ 0 → Apart v f
  plain : v < 1073741824 → (v ≡ 1073741823 → f ≡ 3 → ⊥) → Apart v f

apart : (v f : ℕ) → confused v f ≡ false → Apart v f
unfolding confused
apart v f e =
    by_cases (eqb v 0xffff_ffff)
    (λ m. by_cases (eqb f 0)
    (λ z. ones (eqb-true v 0xffff_ffff m) (eqb-true f 0 z))
    (λ z.
    let large : leb 1073741824 v ≡ true = le-leb 1073741824 v (omega (arith, eqb-true v 0xffff_ffff m)) in
    absurd (true_not_false (sym (rw (large, m, z) refl) ∙ e))))
    (λ m. by_cases (leb 1073741824 v)
    (λ large. absurd (true_not_false (sym (rw (large, m) refl) ∙ e)))
    (λ large. plain (leb-false 1073741824 v large)
    (λ q q'. true_not_false (sym (rw (large, m, eq-eqb v 1073741823 q, eq-eqb f 3 q') refl) ∙ e))))

-- the raw vout is all ones only for all ones and no flag
raw_ones : (v f : ℕ) → f ≤ 3 → v < 1073741824 → (v ≡ 1073741823 → f ≡ 3 → ⊥) → raw_vout v f ≡ 0xffff_ffff → ⊥
raw_ones v f h small other e = other (omega arith) (omega arith)

pub raw_small : (v f : ℕ) → confused v f ≡ false → f ≤ 3 → raw_vout v f < 2 ^ 32
raw_small v f e h = elim (apart v f e) [ ones q q' ↦ omega arith | plain q o ↦ omega arith ]

pub raw_vout_lem : (v f : ℕ) → confused v f ≡ false → f ≤ 3 → vout (raw_vout v f) ≡ v
unfolding vout all_ones
raw_vout_lem v f e h =
    elim (apart v f e) [
      | ones q q' ↦ rw (eq-eqb (raw_vout v f) 0xffff_ffff (omega arith)) (omega arith)
      | plain q o ↦ rw (ne_eqb (raw_vout v f) 0xffff_ffff (raw_ones v f h q o)) (omega arith)
    ]

pub raw_flags : (v f : ℕ) → confused v f ≡ false → f ≤ 3 → flags (raw_vout v f) ≡ f
unfolding flags flag_bit all_ones
raw_flags v f e h =
    elim (apart v f e) [
      | ones q q' ↦ rw (eq-eqb (raw_vout v f) 0xffff_ffff (omega arith)) (omega arith)
      | plain q o ↦ rw (ne_eqb (raw_vout v f) 0xffff_ffff (raw_ones v f h q o)) (omega arith)
    ]

pub raw_again : (raw : ℕ) → raw < 2 ^ 32 → raw_vout (vout raw) (flags raw) ≡ raw
unfolding vout flags flag_bit all_ones
raw_again raw h = by_cases (eqb raw 0xffff_ffff) (λ t. rw t (omega arith)) (λ t. rw t (omega arith))

pub flags_three : (raw : ℕ) → flags raw ≤ 3
unfolding flags flag_bit all_ones
flags_three raw = by_cases (eqb raw 0xffff_ffff) (λ t. rw t (omega arith)) (λ t. rw t (omega arith))

not_confused : (v f : ℕ) → Apart v f → confused v f ≡ false
unfolding confused
not_confused v f (ones q q') = rw (q, q') refl
not_confused v f (plain q o) =
    let large : leb 1073741824 v ≡ false = lt-leb 1073741824 v q in
    let m : eqb v 0xffff_ffff ≡ false = ne_eqb v 0xffff_ffff (λ e. omega arith) in
    by_cases (eqb v 1073741823)
    (λ l. rw (large, m, l, ne_eqb f 3 (o (eqb-true v 1073741823 l))) refl)
    (λ l. rw (large, m, l) refl)

pub raw_apart : (raw : ℕ) → raw < 2 ^ 32 → confused (vout raw) (flags raw) ≡ false
unfolding vout flags flag_bit all_ones
raw_apart raw h =
    by_cases (eqb raw 0xffff_ffff)
    (λ t. not_confused (vout raw) (flags raw) (rw t (ones (eqb-true raw 0xffff_ffff t) refl)))
    (λ t. not_confused (vout raw) (flags raw) (rw t (plain (omega arith) (λ q q'. eqb-false raw 0xffff_ffff t (omega arith)))))

-- bit 31 is the issuance flag: flags 2 and 3 have it
pub issuing : (raw : ℕ) → eqb (flag_bit 31 raw) 1 ≡ leb 2 (flags raw)
unfolding flags flag_bit all_ones
issuing raw =
    by_cases (eqb raw 0xffff_ffff)
    (λ t. rw t refl)
    (λ t. rw t
    (by_cases (eqb (raw / 2 ^ 31 % 2) 1)
    (λ e. e ∙ sym (le-leb 2 (raw / 2 ^ 30 % 2 + 2 * (raw / 2 ^ 31 % 2)) (omega (arith, eqb-true (raw / 2 ^ 31 % 2) 1 e))))
    (λ e. e ∙ sym (lt-leb 2 (raw / 2 ^ 30 % 2 + 2 * (raw / 2 ^ 31 % 2)) (omega (arith, eqb-false (raw / 2 ^ 31 % 2) 1 e))))))

-- Bit 30 is the pegin flag, bit 31 the issuance flag, and both are cleared in vout: in plain arithmetic, of every raw vout but 0xffffffff.
pub raw_is : (raw : ℕ) → raw < 2 ^ 32 → (raw ≡ 4294967295 → ⊥) → (vout raw + 2 ^ 30 * flag_bit 30 raw + 2 ^ 31 * flag_bit 31 raw ≡ raw) × (vout raw < 2 ^ 30) × (flag_bit 30 raw < 2) × (flag_bit 31 raw < 2) × (flags raw ≡ flag_bit 30 raw + 2 * flag_bit 31 raw)
unfolding vout flags flag_bit all_ones
raw_is raw h others = rw (ne_eqb raw 0xffff_ffff others) (omega arith, omega arith, omega arith, omega arith, refl)
