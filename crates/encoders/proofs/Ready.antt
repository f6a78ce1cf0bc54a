-- What the judging of pass 1 is worth to pass 2: where no fault is found, every record is as it must be to be put.
use Prim.Native.Nat.{ℕ, suc, ◌+◌, ◌*◌, ◌/◌, ◌≤◌, ◌<◌}
use mathlib.Core.Path.{◌≡◌, refl, subst}
use mathlib.Core.Bool.{Bool, true, false, not, ◌&&◌, ◌||◌}
use mathlib.Core.List.{List, [], ◌∷◌}
use native.Mathlib.Omega.{arith}
use lib.Dec.{leb, eqb}
use lib.ListN.{length}
use borrow.Author.Tests.{leb-true, eqb-true, not-true, le-leb, lt-leb, ne_eqb}
use Rattle.layout.proofs.Judging.{and_true}
use Rattle.layout.proofs.Reading.{by_cases}
use Rattle.layout.specs.Transaction.{Head, asset_prefix, nonce_prefix}
use Rattle.layout.specs.Outcome.{Tables}
use Rattle.layout.specs.Contents.{Every, confused}
use Rattle.layout.specs.Records.{sum}
use Rattle.layout.specs.Writing.{◌!◌, value_width, issues, Fault, passes, fault, ◌also◌, unless, value_rule, token_rule, issuance_rule, input_witness_rule, input_rule, output_witness_rule, output_rule, item_rule, input_fault, input_faults, rule_faults, record_items, input_records, output_records, item_records, table_faults}
use Rattle.encoders.specs.Puts.{Prefixed, IssuanceLies, InputReady, OutputReady, OutputWitnessReady, ItemReady, InputWitnessReady}
use Rattle.encoders.proofs.Rows.{every_map}

-- ---- tests taken apart

clash : false ≡ true → ⊥
clash e = let z : ◌≡◌ {A = ℕ} 0 1 = cc in omega arith

front : (f g : Fault) → (f also g) ≡ passes → f ≡ passes
front passes g e = refl
front (fault n p) g e = e

behind : (f g : Fault) → (f also g) ≡ passes → g ≡ passes
behind passes g e = e
behind (fault n p) g e = absurd (let z : ◌≡◌ {A = ℕ} 0 1 = cc in omega arith)

kept : (b : Bool) (n p : ℕ) → unless b n p ≡ passes → b ≡ true
kept true n p e = refl
kept false n p e = absurd (let z : ◌≡◌ {A = ℕ} 0 1 = cc in omega arith)

-- ---- prefixes

listed₃ : (p a b c : ℕ) → a < 256 → b < 256 → c < 256 → (eqb p a || eqb p b || eqb p c) ≡ true → p < 256
listed₃ p a b c ha hb hc e =
    by_cases (eqb p a) (λ t. omega (arith, eqb-true p a t))
    (λ t. by_cases (eqb p b) (λ u. omega (arith, eqb-true p b u))
    (λ u. by_cases (eqb p c) (λ v. omega (arith, eqb-true p c v)) (λ v. absurd (clash (rw (t, u, v) at e)))))

value_listed : (p high low : ℕ) → value_rule p high low ≡ true → p < 256
unfolding value_rule
value_listed p high low e =
    by_cases (eqb p 1) (λ t. omega (arith, eqb-true p 1 t))
    (λ t. listed₃ p 0 8 9 (omega arith) (omega arith) (omega arith) (and_true (eqb p 0 || eqb p 8 || eqb p 9) (eqb high 0) (and_true ((eqb p 0 || eqb p 8 || eqb p 9) && eqb high 0) (eqb low 0) (rw t at e)).0).0)

wide : (p : ℕ) → 2 ≤ p → value_width p ≡ 33
wide p h =
    let a : p ≡ 0 → ⊥ = λ e. omega arith in
    let b : p ≡ 1 → ⊥ = λ e. omega arith in
    rw (ne_eqb p 0 a, ne_eqb p 1 b)

token_ready : (listed : ℕ → Bool) (there at p : ℕ) → (listed p ≡ true → p < 256) → token_rule listed there at p ≡ true → Prefixed 1 there at p
unfolding token_rule
token_ready listed there at p small e =
    by_cases (eqb p 0) (λ t. let z : p ≡ 0 = eqb-true p 0 t in record { byte = omega arith; lies = λ h. absurd (omega arith) })
    (λ t. let both : (listed p && leb (at + 33) there) ≡ true = rw t at e in record { byte = small (and_true (listed p) (leb (at + 33) there) both).0; lies = λ h. leb-true (at + 33) there (and_true (listed p) (leb (at + 33) there) both).1 })

-- ---- inputs

issuance_lies : (there : ℕ) (r : List ℕ) → issuance_rule there r ≡ true → 2 ≤ r ! 2 → IssuanceLies there r
unfolding issuance_rule
issuance_lies there r e h =
    let end : ℕ = r ! 6 + 64 + value_width (r ! 7) in
    let a : Bool = leb (end + value_width (r ! 10)) there in
    let b : Bool = value_rule (r ! 7) (r ! 8) (r ! 9) in
    let d : Bool = value_rule (r ! 10) (r ! 11) (r ! 12) in
    let all : (a && b && d) ≡ true = rw (le-leb 2 (r ! 2) h) at e in
    let within : end + value_width (r ! 10) ≤ there = leb-true (end + value_width (r ! 10)) there (and_true a b (and_true (a && b) d all).0).0 in
    record {
      parts = omega arith;
      amount = record { byte = value_listed (r ! 7) (r ! 8) (r ! 9) (and_true a b (and_true (a && b) d all).0).1; lies = λ g. omega (arith, wide (r ! 7) g) };
      keys = record { byte = value_listed (r ! 10) (r ! 11) (r ! 12) (and_true (a && b) d all).1; lies = λ g. omega (arith, wide (r ! 10) g) };
    }

-- an input record that passes, with its first item's index; its items are among m
pub record Judged (flag there m : ℕ) (r : List ℕ) : Type 0 where
  pub first : ℕ
  pub rule : input_rule flag there first r ≡ true
  pub told : confused (r ! 1) (r ! 2) ≡ false
  pub within : first + record_items r ≤ m

pub inputs_judged : (flag there m : ℕ) (rs : List (List ℕ)) (first i : ℕ) → input_faults flag there first i rs ≡ passes → first + sum record_items rs ≤ m → Every (Judged flag there m) rs
unfolding input_faults input_fault sum
inputs_judged flag there m [] first i e h = tt
inputs_judged flag there m (r ∷ rs) first i e h =
    let one : input_fault flag there first i r ≡ passes = front (input_fault flag there first i r) (input_faults flag there (first + record_items r) (suc i) rs) e in
    let rest : input_faults flag there (first + record_items r) (suc i) rs ≡ passes = behind (input_fault flag there first i r) (input_faults flag there (first + record_items r) (suc i) rs) e in
    let twelve : Fault = unless (not (confused (r ! 1) (r ! 2))) 12 i in
    let more : Fault = twelve also unless (not (issues r && eqb (r ! 7) 0 && eqb (r ! 10) 0)) 6 i in (
      record {
        first = first;
        rule = kept (input_rule flag there first r) 13 i (front (unless (input_rule flag there first r) 13 i) more one);
        told = not-true (confused (r ! 1) (r ! 2)) (kept (not (confused (r ! 1) (r ! 2))) 12 i (front twelve (unless (not (issues r && eqb (r ! 7) 0 && eqb (r ! 10) 0)) 6 i) (behind (unless (input_rule flag there first r) 13 i) more one)));
        within = omega arith;
      },
      inputs_judged flag there m rs (first + record_items r) (suc i) rest (omega arith),
    )

pub every_rule : (rule : List ℕ → Bool) (rs : List (List ℕ)) (i : ℕ) → rule_faults rule i rs ≡ passes → Every (λ r. rule r ≡ true) rs
unfolding rule_faults
every_rule rule [] i e = tt
every_rule rule (r ∷ rs) i e =
    (kept (rule r) 13 i (front (unless (rule r) 13 i) (rule_faults rule (suc i) rs) e), every_rule rule rs (suc i) (behind (unless (rule r) 13 i) (rule_faults rule (suc i) rs) e))

pub input_ready : (flag there m : ℕ) (r : List ℕ) → Judged flag there m r → InputReady there r
unfolding input_rule
input_ready flag there m r j =
    let a : Bool = leb (r ! 0 + 32) there in
    let b : Bool = leb (r ! 2) 3 in
    let d : Bool = leb (r ! 3 + r ! 4) there in
    let four : (a && b && d && issuance_rule there r) ≡ true = (and_true (a && b && d && issuance_rule there r) (input_witness_rule flag there j.first r) j.rule).0 in
    let three : (a && b && d) ≡ true = (and_true (a && b && d) (issuance_rule there r) four).0 in
    record {
      txid = leb-true (r ! 0 + 32) there (and_true a b (and_true (a && b) d three).0).0;
      flags = leb-true (r ! 2) 3 (and_true a b (and_true (a && b) d three).0).1;
      outpoint = j.told;
      script = leb-true (r ! 3 + r ! 4) there (and_true (a && b) d three).1;
      issuance = record { lies = issuance_lies there r (and_true (a && b && d) (issuance_rule there r) four).1 };
    }

witness_rule : (flag there m : ℕ) (r : List ℕ) (j : Judged flag there m r) → input_witness_rule flag there j.first r ≡ true
unfolding input_rule
witness_rule flag there m r j =
    (and_true (leb (r ! 0 + 32) there && leb (r ! 2) 3 && leb (r ! 3 + r ! 4) there && issuance_rule there r) (input_witness_rule flag there j.first r) j.rule).1

pub judged_within : (there m : ℕ) (r : List ℕ) → Judged 1 there m r → r ! 17 + record_items r ≤ m
unfolding input_witness_rule
judged_within there m r j =
    let a : Bool = leb (r ! 13 + r ! 14) there && leb (r ! 15 + r ! 16) there in
    omega (arith, j.within, eqb-true (r ! 17) j.first (and_true a (eqb (r ! 17) j.first) (witness_rule 1 there m r j)).1)

pub witness_ready : (there m : ℕ) (r : List ℕ) → Judged 1 there m r → InputWitnessReady there m r
unfolding input_witness_rule
witness_ready there m r j =
    let a : Bool = leb (r ! 13 + r ! 14) there in
    let b : Bool = leb (r ! 15 + r ! 16) there in
    let d : Bool = eqb (r ! 17) j.first in
    let all : (a && b && d) ≡ true = witness_rule 1 there m r j in
    record {
      amount_proof = leb-true (r ! 13 + r ! 14) there (and_true a b (and_true (a && b) d all).0).0;
      keys_proof = leb-true (r ! 15 + r ! 16) there (and_true a b (and_true (a && b) d all).0).1;
      stacks = judged_within there m r j;
    }

-- ---- outputs and items

module _ (flag there : ℕ) (r : List ℕ) (e : output_rule flag there r ≡ true) where
  output_ready : OutputReady there r
  unfolding output_rule
  output_ready =
      let a : Bool = token_rule asset_prefix there (r ! 1) (r ! 0) in
      let b : Bool = value_rule (r ! 2) (r ! 4) (r ! 5) in
      let d : Bool = leb (r ! 2) 1 || leb (r ! 3 + 33) there in
      let f : Bool = token_rule nonce_prefix there (r ! 7) (r ! 6) in
      let g : Bool = leb (r ! 8 + r ! 9) there in
      let five : (a && b && d && f && g) ≡ true = (and_true (a && b && d && f && g) (output_witness_rule flag there r) e).0 in
      let four : (a && b && d && f) ≡ true = (and_true (a && b && d && f) g five).0 in
      let three : (a && b && d) ≡ true = (and_true (a && b && d) f four).0 in
      let two : (a && b) ≡ true = (and_true (a && b) d three).0 in
      let part : 2 ≤ r ! 2 → r ! 3 + 33 ≤ there = λ h. leb-true (r ! 3 + 33) there (rw (lt-leb (r ! 2) 1 h) at (and_true (a && b) d three).1) in
      record {
        asset = token_ready asset_prefix there (r ! 1) (r ! 0) (listed₃ (r ! 0) 1 10 11 (omega arith) (omega arith) (omega arith)) (and_true a b two).0;
        value = record { byte = value_listed (r ! 2) (r ! 4) (r ! 5) (and_true a b two).1; lies = part };
        nonce = token_ready nonce_prefix there (r ! 7) (r ! 6) (listed₃ (r ! 6) 1 2 3 (omega arith) (omega arith) (omega arith)) (and_true (a && b && d) f four).1;
        script = leb-true (r ! 8 + r ! 9) there (and_true (a && b && d && f) g five).1;
      }

  output_rule_lem : output_witness_rule flag there r ≡ true
  unfolding output_rule
  output_rule_lem =
      (and_true (token_rule asset_prefix there (r ! 1) (r ! 0) && value_rule (r ! 2) (r ! 4) (r ! 5) && (leb (r ! 2) 1 || leb (r ! 3 + 33) there) && token_rule nonce_prefix there (r ! 7) (r ! 6) && leb (r ! 8 + r ! 9) there) (output_witness_rule flag there r) e).1

output_witness_ready : (there : ℕ) (r : List ℕ) → output_rule 1 there r ≡ true → OutputWitnessReady there r
unfolding output_witness_rule
output_witness_ready there r e =
    let a : Bool = leb (r ! 10 + r ! 11) there in
    let b : Bool = leb (r ! 12 + r ! 13) there in
    let both : (a && b) ≡ true = output_rule_lem 1 there r e in
    record { surjection_proof = leb-true (r ! 10 + r ! 11) there (and_true a b both).0; range_proof = leb-true (r ! 12 + r ! 13) there (and_true a b both).1 }

item_ready : (there : ℕ) (r : List ℕ) → item_rule 1 there r ≡ true → ItemReady there r
unfolding item_rule
item_ready there r e = record { lies = leb-true (r ! 0 + r ! 1) there e }

-- ---- a transaction that passes

pub record Passing (h : Head) (t : Tables) (there : ℕ) : Type 0 where
  pub inputs_held : 20 * h.inputs ≤ length t.inputs
  pub outputs_held : 14 * h.outputs ≤ length t.outputs
  pub items_held : 2 * h.items ≤ length t.items
  pub flag : h.flag ≤ 1
  pub inputs : Every (Judged h.flag there h.items) (input_records h t)
  pub outputs : Every (λ r. output_rule h.flag there r ≡ true) (output_records h t)
  pub items : Every (λ r. item_rule h.flag there r ≡ true) (item_records h t)

module _ (h : Head) (t : Tables) (there : ℕ) (p : Passing h t there) where
  pub inputs_ready : Every (InputReady there) (input_records h t)
  inputs_ready = every_map (input_ready h.flag there h.items) (input_records h t) p.inputs

  pub outputs_ready : Every (OutputReady there) (output_records h t)
  outputs_ready = every_map (output_ready h.flag there) (output_records h t) p.outputs

  -- with the flag
  pub items_ready : h.flag ≡ 1 → Every (ItemReady there) (item_records h t)
  items_ready one = every_map (λ r e. item_ready there r (subst (λ (f : ℕ). item_rule f there r ≡ true) one e)) (item_records h t) p.items

  pub witnesses_ready : h.flag ≡ 1 → Every (InputWitnessReady there h.items) (input_records h t)
  witnesses_ready one = every_map (λ r j. witness_ready there h.items r (subst (λ (f : ℕ). Judged f there h.items r) one j)) (input_records h t) p.inputs

  pub output_witnesses_ready : h.flag ≡ 1 → Every (OutputWitnessReady there) (output_records h t)
  output_witnesses_ready one = every_map (λ r e. output_witness_ready there r (subst (λ (f : ℕ). output_rule f there r ≡ true) one e)) (output_records h t) p.outputs

pub passing : (h : Head) (t : Tables) (there : ℕ) → table_faults h t there ≡ passes → Passing h t there
unfolding table_faults
passing h t there e =
    let a : Bool = leb h.inputs (length t.inputs / 20) in
    let b : Bool = leb h.outputs (length t.outputs / 14) in
    let d : Bool = leb h.items (length t.items / 2) in
    let is : Fault = input_faults h.flag there 0 0 (input_records h t) in
    let os : Fault = rule_faults (output_rule h.flag there) 0 (output_records h t) in
    let ns : Fault = rule_faults (item_rule h.flag there) 0 (item_records h t) in
    let adds : Fault = unless (eqb (sum record_items (input_records h t)) h.items) 13 h.inputs in
    let e₁ = behind (unless (a && b && d) 10 0) _ e in
    let e₂ = behind (unless (leb h.flag 1) 7 4) _ e₁ in
    let e₃ = behind is _ e₂ in
    let e₄ = behind os _ e₃ in
    let e₅ = behind ns _ e₄ in
    let held : (a && b && d) ≡ true = kept (a && b && d) 10 0 (front (unless (a && b && d) 10 0) _ e) in
    let total : sum record_items (input_records h t) ≡ h.items = eqb-true (sum record_items (input_records h t)) h.items (kept (eqb (sum record_items (input_records h t)) h.items) 13 h.inputs (front adds _ e₅)) in
    record {
      inputs_held = omega (arith, leb-true h.inputs (length t.inputs / 20) (and_true a b (and_true (a && b) d held).0).0);
      outputs_held = omega (arith, leb-true h.outputs (length t.outputs / 14) (and_true a b (and_true (a && b) d held).0).1);
      items_held = omega (arith, leb-true h.items (length t.items / 2) (and_true (a && b) d held).1);
      flag = leb-true h.flag 1 (kept (leb h.flag 1) 7 4 (front (unless (leb h.flag 1) 7 4) _ e₁));
      inputs = inputs_judged h.flag there h.items (input_records h t) 0 0 (front is _ e₂) (omega arith);
      outputs = every_rule (output_rule h.flag there) (output_records h t) 0 (front os _ e₃);
      items = every_rule (item_rule h.flag there) (item_records h t) 0 (front ns _ e₄);
    }
