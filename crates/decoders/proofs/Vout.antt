-- Raw vout: masks and shifts say what document 01 says of its bits.
use Prim.Native.Nat.{ℕ, ◌+◌, ◌*◌, ◌/◌, ◌^◌, ◌<◌}
use mathlib.Core.Path.{◌≡◌, ap₂}
use native.Mathlib.Omega.{arith}
use lib.Bits.{bit_and, and_mask}
use lib.Dec.{eqb}
use borrow.Author.Tests.{eq-eqb, ne_eqb}
use Rattle.layout.proofs.Reading.{by_cases}
use Rattle.layout.specs.Transaction.{all_ones, flag_bit, vout, flags}

pub vout_kept : (raw : ℕ) → raw ≡ 0xffff_ffff → raw ≡ vout raw
unfolding vout all_ones
vout_kept raw h = rw (eq-eqb raw 0xffff_ffff h)

pub vout_masked : (raw : ℕ) → (raw ≡ 0xffff_ffff → ⊥) → bit_and raw 0x3fff_ffff ≡ vout raw
unfolding vout all_ones
vout_masked raw h = rw (ne_eqb raw 0xffff_ffff h) (and_mask raw 30)

pub flag_none : (n raw : ℕ) → raw ≡ 0xffff_ffff → 0 ≡ flag_bit n raw
unfolding flag_bit all_ones
flag_none n raw h = rw (eq-eqb raw 0xffff_ffff h)

pub flag_shifted : (n raw : ℕ) → (raw ≡ 0xffff_ffff → ⊥) → bit_and (raw / 2 ^ n) 1 ≡ flag_bit n raw
unfolding flag_bit all_ones
flag_shifted n raw h = rw (ne_eqb raw 0xffff_ffff h) (and_mask (raw / 2 ^ n) 1)

pub flag_small : (n raw : ℕ) → flag_bit n raw < 2
unfolding flag_bit all_ones
flag_small n raw = by_cases (eqb raw 0xffff_ffff) (λ t. rw t (omega arith)) (λ t. rw t (omega arith))

pub flags_both : (raw p i : ℕ) → p ≡ flag_bit 30 raw → i ≡ flag_bit 31 raw → p + 2 * i ≡ flags raw
unfolding flags
flags_both raw p i e e' = ap₂ (λ (x y : ℕ). x + 2 * y) e e'
