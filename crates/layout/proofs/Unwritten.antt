-- The writer's tests say what 01 says: each rule, and each fault of a record, both ways.
use Prim.Native.Nat.{ℕ, ◌+◌, ◌<◌, ◌≤◌}
use mathlib.Core.Path.{◌≡◌, refl, sym, ◌∙◌, ap}
use mathlib.Core.Logic.{◌↔◌, ◌≢◌}
use mathlib.Core.Bool.{Bool, true, false, cond, not, ◌&&◌, ◌||◌, and-eq-true_iff}
use mathlib.Core.List.{List}
use native.Mathlib.Omega.{arith}
use lib.Dec.{leb, eqb}
use borrow.Author.Tests.{leb-true, leb-false, le-leb, lt-leb, eqb-true, eqb-false, eq-eqb, ne_eqb}
use Rattle.layout.specs.Transaction.{asset_prefix, nonce_prefix}
use Rattle.layout.specs.Contents.{confused}
use Rattle.layout.specs.Refusals.{listed_asset, listed_nonce}
use Rattle.layout.specs.Shows.{Zeros}
use Rattle.layout.specs.Writing as writing
use Rattle.layout.specs.Writing.{◌!◌, Fault, passes, fault, ◌also◌, unless, value_width, lies, value_rule, zeros₄, zeros₇, issues, issuance_rule, input_witness_rule, input_rule, token_rule, output_witness_rule, output_rule, item_rule, input_fault, empty_input, empty_output}
use Rattle.layout.specs.Unwritten.{ValueKept, TokenKept, IssuanceKept, InputKept, OutputKept, ItemKept, Unclear, large, ones, both, NullIssuance, InputFault, breaks, unclear, null_issuance, InputFine, EmptyInput, EmptyOutput}
use Rattle.layout.proofs.Reading.{by_cases}
use Rattle.layout.proofs.Outpoint.{true_not_false}
use Rattle.layout.proofs.Faults.{not_fault}

-- what a test says
le_iff : (a b : ℕ) → (leb a b ≡ true) ↔ (a ≤ b)
le_iff a b = (leb-true a b, le-leb a b)

eq_iff : (a b : ℕ) → (eqb a b ≡ true) ↔ (a ≡ b)
eq_iff a b = (eqb-true a b, eq-eqb a b)

ruleset says = (and-eq-true_iff, le_iff, eq_iff)

-- a test by another test
cond_iff : {P : Type 0} {Q : Type 0} {A : Type 0} {B : Type 0} (b x y : Bool) → (b ≡ true → A) → (A → b ≡ true) → (b ≡ false → B) → (B → b ≡ false) → (x ≡ true) ↔ P → (y ≡ true) ↔ Q → (cond b x y ≡ true) ↔ ((A → P) × (B → Q))
cond_iff true x y a a' b b' p q = (λ e. (λ _. p.0 e, λ n. absurd (true_not_false (b' n))), λ e. p.1 (e.0 (a refl)))
cond_iff false x y a a' b b' p q = (λ e. (λ n. absurd (true_not_false (sym (a' n))), λ _. q.0 e), λ e. q.1 (e.1 (b refl)))

by_flag : {P : Type 0} {Q : Type 0} (flag : ℕ) (x y : Bool) → (x ≡ true) ↔ P → (y ≡ true) ↔ Q → (cond (eqb flag 1) x y ≡ true) ↔ ((flag ≡ 1 → P) × (flag ≢ 1 → Q))
by_flag flag x y = cond_iff (eqb flag 1) x y (eqb-true flag 1) (eq-eqb flag 1) (eqb-false flag 1) (ne_eqb flag 1)

-- ---- 13

value_iff : (p h l : ℕ) → (value_rule p h l ≡ true) ↔ ValueKept p h l
unfolding value_rule
value_iff p h l =
    by_cases (eqb p 1)
    (λ o. let one = eqb-true p 1 o in (λ e. record { known = rw one refl; halves = λ n. absurd (n one) }, λ k. rw o refl))
    (λ o.
    let rule : (eqb p 1 || (eqb p 0 || eqb p 8 || eqb p 9) && eqb h 0 && eqb l 0) ≡ ((eqb p 0 || eqb p 8 || eqb p 9) && eqb h 0 && eqb l 0) = rw o refl in
    let known = without (eqb p 0) (eqb p 1) (eqb p 8) (eqb p 9) o in (
      λ e. let ((a, b), c) = simp says at (sym rule ∙ e) in record { known = known ∙ a; halves = λ n. (b, c) },
      λ k. rule ∙ (let z = k.halves (eqb-false p 1 o) in let a = sym known ∙ k.known in simp says ((a, z.0), z.1)),
    ))
  where
    without : (a b c d : Bool) → b ≡ false → (a || b || c || d) ≡ (a || c || d)
    without true b c d e = refl
    without false b c d e = ap (λ (x : Bool). x || c || d) e

token_iff : (narrow wide : ℕ → Bool) (there at p : ℕ) → (eqb p 0 ≡ true → wide p ≡ true) → (eqb p 0 ≡ false → wide p ≡ narrow p) → (token_rule narrow there at p ≡ true) ↔ TokenKept wide there at p
unfolding token_rule
token_iff narrow wide there at p z s =
    by_cases (eqb p 0)
    (λ o. (λ e. record { known = z o; lies = λ n. absurd (n (eqb-true p 0 o)) }, λ k. rw o refl))
    (λ o.
    let rule : (eqb p 0 || narrow p && lies there at 33) ≡ (narrow p && lies there at 33) = rw o refl in (
      λ e. let (a, b) = simp says at (sym rule ∙ e) in record { known = s o ∙ a; lies = λ n. b },
      λ k. rule ∙ (let a = sym (s o) ∙ k.known in let b = k.lies (eqb-false p 0 o) in simp says (a, b)),
    ))

asset_iff : (there at p : ℕ) → (token_rule asset_prefix there at p ≡ true) ↔ TokenKept listed_asset there at p
asset_iff there at p = token_iff asset_prefix listed_asset there at p (λ o. rw o refl) (λ o. rw o refl)

nonce_iff : (there at p : ℕ) → (token_rule nonce_prefix there at p ≡ true) ↔ TokenKept listed_nonce there at p
nonce_iff there at p = token_iff nonce_prefix listed_nonce there at p (λ o. rw o refl) (λ o. rw o refl)

issuance_zeros : (r : List ℕ) → (zeros₇ r 6 ≡ true) ↔ Zeros r 6 7
unfolding zeros₇
issuance_zeros r = (λ e. let q = simp says at e in omega arith, λ k. simp says (omega arith))

witness_zeros : (r : List ℕ) → (zeros₇ r 13 ≡ true) ↔ Zeros r 13 7
unfolding zeros₇
witness_zeros r = (λ e. let q = simp says at e in omega arith, λ k. simp says (omega arith))

output_zeros : (r : List ℕ) → (zeros₄ r 10 ≡ true) ↔ Zeros r 10 4
output_zeros r = (λ e. let q = simp says at e in omega arith, λ k. simp says (omega arith))

issuance_iff : (there : ℕ) (r : List ℕ) → (issuance_rule there r ≡ true) ↔ ((2 ≤ r ! 2 → IssuanceKept there r) × (r ! 2 < 2 → Zeros r 6 7))
unfolding issuance_rule
issuance_iff there r =
    cond_iff (issues r) (lies there (r ! 6 + 64 + value_width (r ! 7)) (value_width (r ! 10)) && value_rule (r ! 7) (r ! 8) (r ! 9) && value_rule (r ! 10) (r ! 11) (r ! 12)) (zeros₇ r 6) (leb-true 2 (r ! 2)) (le-leb 2 (r ! 2)) (leb-false 2 (r ! 2)) (lt-leb 2 (r ! 2))
    (λ e. let ((a, b), c) = simp (says, value_iff) at e in record { whole = a; amount = b; keys = c }, λ k. simp (says, value_iff) ((k.whole, k.amount), k.keys))
    (issuance_zeros r)

pub input_iff : (flag there first : ℕ) (r : List ℕ) → (input_rule flag there first r ≡ true) ↔ InputKept flag there first r
unfolding input_rule input_witness_rule
input_iff flag there first r =
    let w = by_flag flag (lies there (r ! 13) (r ! 14) && lies there (r ! 15) (r ! 16) && eqb (r ! 17) first) (zeros₇ r 13)
    (λ e. simp says at e, λ k. simp says k)
    (witness_zeros r) in (
      λ e.
          let ((((a, b), c), d), f) = simp (says, issuance_iff) at e in
          let (with, without) = w.0 f in
          record { txid = a; flags = b; script = c; issuance = d.0; no_issuance = d.1; amount_proof = λ o. (with o).0.0; keys_proof = λ o. (with o).0.1; first_item = λ o. (with o).1; no_witness = without },
      λ k.
          let f = w.1 ((λ o. ((k.amount_proof o, k.keys_proof o), k.first_item o)), k.no_witness) in
          simp (says, issuance_iff) ((((k.txid, k.flags), k.script), (k.issuance, k.no_issuance)), f),
    )

pub output_iff : (flag there : ℕ) (r : List ℕ) → (output_rule flag there r ≡ true) ↔ OutputKept flag there r
unfolding output_rule output_witness_rule
output_iff flag there r =
    let w = by_flag flag (lies there (r ! 10) (r ! 11) && lies there (r ! 12) (r ! 13)) (zeros₄ r 10)
    (λ e. simp says at e, λ k. simp says k)
    (output_zeros r) in (
      λ e.
          let (((((a, b), c), d), f), g) = simp (says, asset_iff, nonce_iff, value_iff) at e in
          let (with, without) = w.0 g in
          record { asset = a; value = b; value_lies = (far_iff (r ! 2) (r ! 3)).0 c; nonce = d; script = f; surjection_proof = λ o. (with o).0; range_proof = λ o. (with o).1; no_witness = without },
      λ k.
          let g = w.1 ((λ o. (k.surjection_proof o, k.range_proof o)), k.no_witness) in
          simp (says, asset_iff, nonce_iff, value_iff) (((((k.asset, k.value), (far_iff (r ! 2) (r ! 3)).1 k.value_lies), k.nonce), k.script), g),
    )
  where
    far_iff : (p at : ℕ) → ((leb p 1 || lies there at 33) ≡ true) ↔ (1 < p → at + 33 ≤ there)
    far_iff p at =
        by_cases (leb p 1)
        (λ o. (λ e l. absurd (omega (arith, l, leb-true p 1 o)), λ k. rw o refl))
        (λ o. let rule : (leb p 1 || lies there at 33) ≡ lies there at 33 = rw o refl in (λ e l. leb-true (at + 33) there (sym rule ∙ e), λ k. rule ∙ le-leb (at + 33) there (k (leb-false p 1 o))))

pub item_iff : (flag there : ℕ) (r : List ℕ) → (item_rule flag there r ≡ true) ↔ ItemKept flag there r
unfolding item_rule
item_iff flag there r =
    let w = by_flag {Q = Zeros r 0 2} flag (lies there (r ! 0) (r ! 1)) (eqb (r ! 0) 0 && eqb (r ! 1) 0) (le_iff (r ! 0 + r ! 1) there) (λ e. let q = simp says at e in (q.0, (q.1, tt)), λ k. simp says (k.0, k.1.0)) in
    (λ e. let q = w.0 e in record { body = q.0; no_body = q.1 }, λ k. w.1 (k.body, k.no_body))

-- ---- 12, 6 and 8

unclear_iff : (v f : ℕ) → (confused v f ≡ true) ↔ Unclear v f
unfolding confused
unclear_iff v f = (forward, backward)
  where
    forward : confused v f ≡ true → Unclear v f
    forward e =
        by_cases (eqb v 0xffff_ffff)
        (λ m. ones (eqb-true v 0xffff_ffff m) (λ z. true_not_false (sym e ∙ rw (eqb-true v 0xffff_ffff m, z) refl)))
        (λ m. by_cases (leb 1073741824 v)
        (λ l. large (leb-true 1073741824 v l) (eqb-false v 0xffff_ffff m))
        (λ l. let q = simp says at (sym (rest l m) ∙ e) in both q.0 q.1))
      where
        rest : leb 1073741824 v ≡ false → eqb v 0xffff_ffff ≡ false → confused v f ≡ (eqb v 1073741823 && eqb f 3)
        rest l m = rw (l, m) refl

    backward : Unclear v f → confused v f ≡ true
    backward (large l m) = rw (le-leb 1073741824 v l, ne_eqb v 0xffff_ffff m) refl
    backward (ones m z) = rw (m, ne_eqb f 0 z) refl
    backward (both m z) = rw (m, z) refl

null_iff : (r : List ℕ) → (writing.null_issuance r ≡ true) ↔ NullIssuance r
null_iff r = (λ e. let ((a, b), c) = simp says at e in (a, b, c), λ k. simp says ((k.0, k.1), k.2))

pub empty_input_iff : (r : List ℕ) → (empty_input r ≡ true) ↔ EmptyInput r
empty_input_iff r = (λ e. let (((a, b), c), d) = simp says at e in (a, b, c, d), λ k. simp says (((k.0, k.1), k.2), k.3))

pub empty_output_iff : (r : List ℕ) → (empty_output r ≡ true) ↔ EmptyOutput r
empty_output_iff r = (λ e. simp says at e, λ k. simp says k)

-- ---- an input record's fault

pub is_false : (b : Bool) → (b ≡ true → ⊥) → b ≡ false
is_false b n = by_cases b (λ e. absurd (n e)) (λ e. e)

module _ (flag there first i : ℕ) (r : List ℕ) where
  abbrev Kept : Type 0
  Kept = InputKept flag there first r

  abbrev Mixed : Type 0
  Mixed = Unclear (r ! 1) (r ! 2)

  kept : (input_rule flag there first r ≡ true) ↔ Kept
  kept = input_iff flag there first r

  mixed : (confused (r ! 1) (r ! 2) ≡ true) ↔ Mixed
  mixed = unclear_iff (r ! 1) (r ! 2)

  -- 13, 12 and 6, by their tests
  abbrev three : Bool → Bool → Bool → Fault
  three a b c = unless a 13 i also unless (not b) 12 i also unless (not c) 6 i

  abbrev found : Fault
  found = three (input_rule flag there first r) (confused (r ! 1) (r ! 2)) (writing.null_issuance r)

  pub input_passes : (input_fault flag there first i r ≡ passes) ↔ InputFine flag there first r
  unfolding input_fault
  input_passes = (forward (input_rule flag there first r) (confused (r ! 1) (r ! 2)) (writing.null_issuance r) kept mixed (null_iff r), backward)
    where
      forward : (a b c : Bool) → (a ≡ true) ↔ Kept → (b ≡ true) ↔ Mixed → (c ≡ true) ↔ NullIssuance r → three a b c ≡ passes → InputFine flag there first r
      forward false b c x y z e = absurd (not_fault 13 i (sym e))
      forward true true c x y z e = absurd (not_fault 12 i (sym e))
      forward true false true x y z e = absurd (not_fault 6 i (sym e))
      forward true false false x y z e = record { kept = x.0 refl; clear = λ u. true_not_false (sym (y.1 u)); values = λ u. true_not_false (sym (z.1 u)) }

      backward : InputFine flag there first r → found ≡ passes
      backward f =
          let b = is_false (confused (r ! 1) (r ! 2)) (λ e. f.clear (mixed.0 e)) in
          let c = is_false (writing.null_issuance r) (λ e. f.values ((null_iff r).0 e)) in
          λ j. three (kept.1 f.kept j) (b j) (c j)

  pub input_faults_lem : (n p : ℕ) → (input_fault flag there first i r ≡ fault n p) ↔ ((i ≡ p) × InputFault flag there first r n)
  unfolding input_fault
  input_faults_lem n p = (forward (input_rule flag there first r) (confused (r ! 1) (r ! 2)) (writing.null_issuance r) kept mixed (null_iff r), λ e. backward e.1 ∙ ap (fault n) e.0)
    where
      forward : (a b c : Bool) → (a ≡ true) ↔ Kept → (b ≡ true) ↔ Mixed → (c ≡ true) ↔ NullIssuance r → three a b c ≡ fault n p → (i ≡ p) × InputFault flag there first r n
      forward false b c x y z e = let m : n ≡ 13 = cc in (cc, breaks m (λ k. true_not_false (sym (x.1 k))))
      forward true true c x y z e = let m : n ≡ 12 = cc in (cc, unclear m (x.0 refl) (y.0 refl))
      forward true false true x y z e = let m : n ≡ 6 = cc in (cc, null_issuance m (x.0 refl) (λ u. true_not_false (sym (y.1 u))) (z.0 refl))
      forward true false false x y z e = absurd (not_fault n p e)

      as_told : (m : ℕ) → n ≡ m → found ≡ fault m i → found ≡ fault n i
      as_told m e f = f ∙ ap (λ (k : ℕ). fault k i) (sym e)

      backward : InputFault flag there first r n → found ≡ fault n i
      backward (breaks e k) = let a = is_false (input_rule flag there first r) (λ o. k (kept.0 o)) in as_told 13 e (λ j. three (a j) (confused (r ! 1) (r ! 2)) (writing.null_issuance r))
      backward (unclear e k u) = as_told 12 e (λ j. three (kept.1 k j) (mixed.1 u j) (writing.null_issuance r))
      backward (null_issuance e k u z) = let b = is_false (confused (r ! 1) (r ! 2)) (λ o. u (mixed.0 o)) in as_told 6 e (λ j. three (kept.1 k j) (b j) ((null_iff r).1 z j))
