-- Tests and faults, together and apart.
use Prim.Native.Nat.{ℕ, suc}
use mathlib.Core.Path.{◌≡◌, refl, sym, ap, ap₂}
use mathlib.Core.Bool.{Bool, true, false, ◌&&◌, ◌||◌}
use mathlib.Core.List.{List, [], ◌∷◌}
use native.Mathlib.Omega.{arith}
use lib.Dec.{eqb}
use Rattle.layout.specs.Contents.{Value, null, explicit, commitment, Every, ValueAllowed}
use Rattle.layout.specs.Records.{value_prefix, high, low}
use Rattle.layout.specs.Writing.{Fault, passes, fault, ◌also◌, unless, value_rule, rule_faults}
use Rattle.layout.proofs.Outpoint.{true_not_false}
use Rattle.layout.proofs.Parts.{listed_other, commitment_prefix}

-- ---- tests together

pub both_true : (a b : Bool) → a ≡ true → b ≡ true → (a && b) ≡ true
both_true a b e f = ap₂ ◌&&◌ e f

pub and_true : (a b : Bool) → (a && b) ≡ true → (a ≡ true) × (b ≡ true)
and_true true b e = (refl, e)
and_true false b e = absurd (true_not_false (sym e))

-- ---- faults together

pub also_split : (f g : Fault) → (f also g) ≡ passes → (f ≡ passes) × (g ≡ passes)
also_split passes g e = (refl, e)
also_split (fault n p) g e = absurd (fault_not_passes n p e)
  where
    fault_not_passes : (n p : ℕ) → fault n p ≡ passes → ⊥
    fault_not_passes n p e = let z : ◌≡◌ {A = ℕ} 0 1 = ap (λ (f : Fault). elim f [ passes ↦ 1 | fault a b ↦ 0 ]) e in omega arith

pub unless_true : (b : Bool) (n p : ℕ) → unless b n p ≡ passes → b ≡ true
unless_true true n p e = refl
unless_true false n p e = absurd (let z : ◌≡◌ {A = ℕ} 0 1 = ap (λ (f : Fault). elim f [ passes ↦ 1 | fault a b ↦ 0 ]) e in omega arith)

pub rules_pass : (rule : List ℕ → Bool) (rows : List (List ℕ)) (i : ℕ) → Every (λ r. rule r ≡ true) rows → rule_faults rule i rows ≡ passes
unfolding rule_faults
rules_pass rule [] i g = refl
rules_pass rule (r ∷ rows) i g = ap₂ ◌also◌ (ap (λ (b : Bool). unless b 13 i) g.0) (rules_pass rule rows (suc i) g.1)

pub pass_rules : (rule : List ℕ → Bool) (rows : List (List ℕ)) (i : ℕ) → rule_faults rule i rows ≡ passes → Every (λ r. rule r ≡ true) rows
unfolding rule_faults
pass_rules rule [] i e = tt
pass_rules rule (r ∷ rows) i e = let p = also_split (unless (rule r) 13 i) (rule_faults rule (suc i) rows) e in (unless_true (rule r) 13 i p.0, pass_rules rule rows (suc i) p.1)

-- ---- values

pub value_rule_lem : (v : Value) → ValueAllowed v → value_rule (value_prefix v) (high v) (low v) ≡ true
unfolding value_rule
value_rule_lem null g = refl
value_rule_lem (explicit v) g = refl
value_rule_lem (commitment p part) g = listed p g.0
  where
    listed : (p : ℕ) → commitment_prefix p ≡ true → (eqb p 1 || (eqb p 0 || eqb p 8 || eqb p 9) && true && true) ≡ true
    listed p e =
        rw (listed_other commitment_prefix p 1 e refl, listed_other commitment_prefix p 0 e refl)
        (both_true (commitment_prefix p && true) true (both_true (commitment_prefix p) true e refl) refl)
