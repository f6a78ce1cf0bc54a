-- Laws that judging cites: one record's fault, the loop over inputs, and 01's order.
use Prim.Native.Nat.{ℕ, zero, suc, ◌+◌, ◌*◌, ◌^◌, ◌<◌, ◌≤◌}
use mathlib.Core.Path.{◌≡◌, refl, sym, ◌∙◌, ap}
use mathlib.Core.Bool.{Bool, true, false, cond, not, ◌&&◌, and-eq-true_iff}
use mathlib.Core.Logic.{◌↔◌}
use mathlib.Core.List.{List, [], ◌∷◌}
use native.Mathlib.Nat.{zero-add, add-zero, add_assoc}
use native.Mathlib.Numerals.{add-one}
use native.Mathlib.Omega.{arith}
use lib.Dec.{leb, ltb, eqb}
use lib.ListN.{length, take, drop, get_or, drop_of_length-le}
use lib.Seq.{drop-cons}
use borrow.Author.Tests.{leb-true, le-leb, lt-leb, eqb-true, eq-eqb, ne_eqb}
use Rattle.std.proofs.Common.{Some, None}
use Rattle.std.specs.List.{fold, list_all, position_from, position_or_len}
use Rattle.std.proofs.lemmas.Iterator.Adapters.{position_from-zero}
use Rattle.layout.proofs.Reading.{by_cases}
use Rattle.layout.specs.Transaction.{Head}
use Rattle.layout.specs.Outcome.{Tables}
use Rattle.layout.specs.Contents.{all, confused}
use Rattle.layout.specs.Records.{sum}
use Rattle.layout.specs.Writing.{records, Fault, passes, fault, ◌also◌, unless, Verdict, wrote, unwritten, verdict, value_width, zeros₄, zeros₇, input_witness_rule, input_rule, input_fault, input_faults, rule_faults, null_issuance, record_items, output_rule, item_rule, empty_input, empty_output, held, table_faults, ◌!◌}
use Rattle.encoders.specs.declared.table.Transaction.{Transaction}
use Rattle.encoders.specs.Needs.{Counted, record_faults, broken}

-- ---- one record

folded_from : (p : ℕ → Bool) (a : Bool) (ns : List ℕ) → fold (λ b n. b && p n) a ns ≡ (a && list_all p ns)
folded_from p true [] = refl
folded_from p false [] = refl
folded_from p true (n ∷ ns) = folded_from p (p n) ns
folded_from p false (n ∷ ns) = folded_from p false ns

-- a chain that looks at every number
pub all_folded : (ns : List ℕ) → fold (λ b n. b && eqb n 0) true ns ≡ list_all (λ n. eqb n 0) ns
all_folded ns = folded_from (λ n. eqb n 0) true ns

pub width_small : (prefix : ℕ) → value_width prefix ≤ 33
width_small prefix = by_cases (eqb prefix 0) (λ e. rw e (omega arith)) (λ e. rw e (by_cases (eqb prefix 1) (λ e'. rw e' (omega arith)) (λ e'. rw e' (omega arith))))

module _ (flag there first i : ℕ) (r : List ℕ) where
  abbrev finds : Fault
  finds = input_fault flag there first i r

  pub breaks_rule : input_rule flag there first r ≡ false → finds ≡ fault 13 i
  unfolding input_fault
  breaks_rule h = rw h

  pub is_confused : input_rule flag there first r ≡ true → confused (r ! 1) (r ! 2) ≡ true → finds ≡ fault 12 i
  unfolding input_fault
  is_confused h g = rw (h, g)

  pub is_null_lem : input_rule flag there first r ≡ true → confused (r ! 1) (r ! 2) ≡ false → null_issuance r ≡ true → finds ≡ fault 6 i
  unfolding input_fault
  is_null_lem h g k = rw (h, g, k)

  pub is_fine : input_rule flag there first r ≡ true → confused (r ! 1) (r ! 2) ≡ false → null_issuance r ≡ false → finds ≡ passes
  unfolding input_fault
  is_fine h g k = rw (h, g, k)

-- ---- numbers that are 0, from one on

abbrev zero_from : ℕ → ℕ → List ℕ → Bool
zero_from zero c r = true
zero_from (suc k) c r = eqb (r ! c) 0 && zero_from k (suc c) r

all_zero : (k c : ℕ) (r : List ℕ) → c + k ≤ length r → list_all (λ n. eqb n 0) (take k (drop c r)) ≡ zero_from k c r
all_zero zero c r h = refl
all_zero (suc k) c r h =
    ap (λ xs. list_all (λ n. eqb n 0) (take (suc k) xs)) (drop-cons r c 0 (omega arith)) ∙ ap (λ b. eqb (r ! c) 0 && b) (all_zero k (suc c) r (omega arith))

four : (a b c d : Bool) → (a && (b && (c && (d && true)))) ≡ (a && b && c && d)
four false b c d = refl
four true false c d = refl
four true true false d = refl
four true true true false = refl
four true true true true = refl

seven : (a b c d e f g : Bool) → (a && (b && (c && (d && (e && (f && (g && true))))))) ≡ (a && b && c && d && e && f && g)
seven false b c d e f g = refl
seven true false c d e f g = refl
seven true true false d e f g = refl
seven true true true d e f g = four d e f g

pub zeros_at_6 : (r : List ℕ) → length r ≡ 20 → list_all (λ n. eqb n 0) (take 7 (drop 6 r)) ≡ zeros₇ r 6
unfolding zeros₇
zeros_at_6 r l = all_zero 7 6 r (omega arith) ∙ seven (eqb (r ! 6) 0) (eqb (r ! 7) 0) (eqb (r ! 8) 0) (eqb (r ! 9) 0) (eqb (r ! 10) 0) (eqb (r ! 11) 0) (eqb (r ! 12) 0)

pub zeros_at_13 : (r : List ℕ) → length r ≡ 20 → list_all (λ n. eqb n 0) (take 7 (drop 13 r)) ≡ zeros₇ r 13
unfolding zeros₇
zeros_at_13 r l = all_zero 7 13 r (omega arith) ∙ seven (eqb (r ! 13) 0) (eqb (r ! 14) 0) (eqb (r ! 15) 0) (eqb (r ! 16) 0) (eqb (r ! 17) 0) (eqb (r ! 18) 0) (eqb (r ! 19) 0)

pub zeros_at_10 : (r : List ℕ) → length r ≡ 14 → list_all (λ n. eqb n 0) (take 4 (drop 10 r)) ≡ zeros₄ r 10
zeros_at_10 r l = all_zero 4 10 r (omega arith) ∙ four (eqb (r ! 10) 0) (eqb (r ! 11) 0) (eqb (r ! 12) 0) (eqb (r ! 13) 0)

-- ---- answers

-- a refusal is the fault that was found
pub fault_of : (f : Fault) (m : ℕ) {n p : ℕ} → unwritten n p ≡ verdict f m → f ≡ fault n p
fault_of passes m e = cc
fault_of (fault x y) m e = cc

pub pass_of : (f : Fault) (m : ℕ) {k : ℕ} → wrote k ≡ verdict f m → f ≡ passes
pass_of passes m e = refl
pass_of (fault x y) m e = cc

pub hand_of : (f : Fault) (m : ℕ) {k : ℕ} → wrote k ≡ verdict f m → k ≡ m
hand_of passes m e = cc
hand_of (fault x y) m e = cc

-- what a test says
pub le_iff : (a b : ℕ) → (leb a b ≡ true) ↔ (a ≤ b)
le_iff a b = (leb-true a b, le-leb a b)

pub eq_iff : (a b : ℕ) → (eqb a b ≡ true) ↔ (a ≡ b)
eq_iff a b = (eqb-true a b, eq-eqb a b)

pub ruleset says = (and-eq-true_iff, le_iff, eq_iff)

-- ---- inputs

pub passes_rule : (flag there first i : ℕ) (r : List ℕ) → input_fault flag there first i r ≡ passes → input_rule flag there first r ≡ true
unfolding input_fault
passes_rule flag there first i r h =
    by_cases (input_rule flag there first r)
    (λ e. e)
    (λ e. let z : fault 13 i ≡ passes = rw e at h in cc)

pub passes_witness : (flag there first i : ℕ) (r : List ℕ) → input_fault flag there first i r ≡ passes → input_witness_rule flag there first r ≡ true
unfolding input_rule
passes_witness flag there first i r h = let q = simp and-eq-true_iff at (passes_rule flag there first i r h) in q.1

-- A first index is a u32, and with flag 0 a record has no items.
pub items_small : (flag there first : ℕ) (r : List ℕ) → input_witness_rule flag there first r ≡ true → r ! 17 < 2 ^ 32 → r ! 18 < 2 ^ 32 → r ! 19 < 2 ^ 32 → first < 2 ^ 34 → first + record_items r < 2 ^ 34
unfolding input_witness_rule zeros₇
items_small flag there first r h a b d s =
    by_cases (eqb flag 1)
    (λ e. let q = simp says at (rw e at h) in omega (arith, q.1))
    (λ e. let q = simp says at (rw e at h) in omega (arith, q))

abbrev pub input_verdict : ℕ → ℕ → ℕ → ℕ → List (List ℕ) → Verdict
input_verdict flag there first i rs = verdict (input_faults flag there first i rs) (first + sum record_items rs)

-- Judging what is left from here is judging all from the start.
pub record Judging (flag there : ℕ) (rs : List (List ℕ)) (first i : ℕ) : Type 0 where
  pub small : first < 2 ^ 34
  pub same : input_verdict flag there first i (drop i rs) ≡ verdict (input_faults flag there 0 0 rs) (sum record_items rs)

module _ {flag there : ℕ} {rs : List (List ℕ)} where
  pub judging_first : Judging flag there rs 0 0
  judging_first = record { small = omega arith; same = ap (λ (k : ℕ). verdict (input_faults flag there 0 0 rs) k) (zero-add (sum record_items rs)) }

  pub judging_last : {first i : ℕ} → Judging flag there rs first i → length rs ≤ i → wrote first ≡ verdict (input_faults flag there 0 0 rs) (sum record_items rs)
  unfolding input_faults sum
  judging_last {first} {i} j h =
      ap (λ (k : ℕ). wrote k) (sym (add-zero first))
      ∙ ap (λ (x : List (List ℕ)). input_verdict flag there first i x) (sym (drop_of_length-le rs h))
      ∙ j.same

  -- one record, and those behind it
  judging_more : {first i : ℕ} → Judging flag there rs first i → i < length rs → input_verdict flag there first i (get_or rs i [] ∷ drop (suc i) rs) ≡ verdict (input_faults flag there 0 0 rs) (sum record_items rs)
  judging_more {first} {i} j h = ap (λ (x : List (List ℕ)). input_verdict flag there first i x) (sym (drop-cons rs i [] h)) ∙ j.same

  pub judging_fault : {first i : ℕ} → Judging flag there rs first i → i < length rs → {n p : ℕ} → unwritten n p ≡ verdict (input_fault flag there first i (get_or rs i [])) (record_items (get_or rs i [])) → unwritten n p ≡ verdict (input_faults flag there 0 0 rs) (sum record_items rs)
  unfolding input_faults
  judging_fault {first} {i} j h a =
      let r = get_or rs i [] in
      let f = fault_of (input_fault flag there first i r) (record_items r) a in
      sym (ap (λ (x : Fault). verdict (x also input_faults flag there (first + record_items r) (suc i) (drop (suc i) rs)) (first + sum record_items (r ∷ drop (suc i) rs))) f) ∙ judging_more j h

  pub judging_next : {first i : ℕ} → Judging flag there rs first i → i < length rs → {k : ℕ} → wrote k ≡ verdict (input_fault flag there first i (get_or rs i [])) (record_items (get_or rs i [])) → (first < 2 ^ 34 → first + k < 2 ^ 34) → Judging flag there rs (first + k) (i + 1)
  unfolding input_faults sum
  judging_next {first} {i} j h {k} a s =
      let r = get_or rs i [] in
      let p : input_fault flag there first i r ≡ passes = pass_of (input_fault flag there first i r) (record_items r) a in
      let ek : k ≡ record_items r = hand_of (input_fault flag there first i r) (record_items r) a in
      let rest = drop (suc i) rs in
      record {
        small = s j.small;
        same =
            ap (λ (m : ℕ). input_verdict flag there (first + m) (i + 1) (drop (i + 1) rs)) ek
            ∙ ap (λ (m : ℕ). input_verdict flag there (first + record_items r) m (drop m rs)) (add-one i)
            ∙ ap (λ (m : ℕ). verdict (input_faults flag there (first + record_items r) (suc i) rest) m) (add_assoc first (record_items r) (sum record_items rest))
            ∙ (sym (ap (λ (f : Fault). verdict (f also input_faults flag there (first + record_items r) (suc i) rest) (first + (record_items r + sum record_items rest))) p))
            ∙ judging_more j h;
      }

-- ---- outputs and items: the first that breaks its rule

module _ (rule : List ℕ → Bool) where
  broken_from : (k : ℕ) (rs : List (List ℕ)) → broken (position_from (λ r. not (rule r)) k rs) ≡ rule_faults rule k rs
  unfolding rule_faults
  broken_from k [] = refl
  broken_from k (r ∷ rs) = by_cases (rule r) (λ e. rw (e, add-one k) (broken_from (suc k) rs)) (λ e. rw e)

  pub first_broken : (rs : List (List ℕ)) → broken (cond (ltb (position_or_len (λ r. not (rule r)) rs) (length rs)) (Some (position_or_len (λ r. not (rule r)) rs)) None) ≡ rule_faults rule 0 rs
  first_broken rs = ap broken (position_from-zero (λ r. not (rule r)) rs) ∙ broken_from 0 rs

-- ---- 8

-- 01's word for it is its own
pub all_are : (p : List ℕ → Bool) (rs : List (List ℕ)) → list_all p rs ≡ all p rs
unfolding all
all_are p [] = refl
all_are p (r ∷ rs) = ap (λ b. p r && b) (all_are p rs)

-- ---- 01's order

module _ (flag there : ℕ) (is os ts : List (List ℕ)) where
  abbrev ins : Fault
  ins = input_faults flag there 0 0 is

  abbrev outs : Fault
  outs = rule_faults (output_rule flag there) 0 os

  abbrev its : Fault
  its = rule_faults (item_rule flag there) 0 ts

  abbrev sums : Fault
  sums = unless (eqb (sum record_items is) (length ts)) 13 (length is)

  abbrev empties : Bool
  empties = eqb flag 1 && all empty_input is && all empty_output os

  abbrev all_faults : Fault
  all_faults = record_faults flag is os ts there

  pub flag_refused : 1 < flag → all_faults ≡ fault 7 4
  unfolding record_faults
  flag_refused h = rw (lt-leb flag 1 h)

  pub input_refused : flag ≤ 1 → {n p : ℕ} → ins ≡ fault n p → all_faults ≡ fault n p
  unfolding record_faults
  input_refused h e = rw (le-leb flag 1 h, e)

  pub output_refused : flag ≤ 1 → ins ≡ passes → {n p : ℕ} → outs ≡ fault n p → all_faults ≡ fault n p
  unfolding record_faults
  output_refused h i e = rw (le-leb flag 1 h, i, e)

  pub item_refused : flag ≤ 1 → ins ≡ passes → outs ≡ passes → {n p : ℕ} → its ≡ fault n p → all_faults ≡ fault n p
  unfolding record_faults
  item_refused h i o e = rw (le-leb flag 1 h, i, o, e)

  pub sum_refused : flag ≤ 1 → ins ≡ passes → outs ≡ passes → its ≡ passes → (sum record_items is ≡ length ts → ⊥) → all_faults ≡ fault 13 (length is)
  unfolding record_faults
  sum_refused h i o t e = rw (le-leb flag 1 h, i, o, t, ne_eqb (sum record_items is) (length ts) e)

  pub empty_refused : flag ≤ 1 → ins ≡ passes → outs ≡ passes → its ≡ passes → sum record_items is ≡ length ts → empties ≡ true → all_faults ≡ fault 8 4
  unfolding record_faults
  empty_refused h i o t e b = rw (le-leb flag 1 h, i, o, t, eq-eqb (sum record_items is) (length ts) e, b)

  pub nothing_refused : flag ≤ 1 → ins ≡ passes → outs ≡ passes → its ≡ passes → sum record_items is ≡ length ts → empties ≡ false → all_faults ≡ passes
  unfolding record_faults
  nothing_refused h i o t e b = rw (le-leb flag 1 h, i, o, t, eq-eqb (sum record_items is) (length ts) e, b)

-- ---- what passes, part by part

pub also_first : (f g : Fault) → (f also g) ≡ passes → f ≡ passes
also_first passes g h = refl
also_first (fault x y) g h = h

pub also_second : (f g : Fault) → (f also g) ≡ passes → g ≡ passes
also_second passes g h = h
also_second (fault x y) g h = cc

pub unless_passes : (b : Bool) (number place : ℕ) → unless b number place ≡ passes → b ≡ true
unless_passes true number place h = refl
unless_passes false number place h = cc

-- ---- counted records

pub held_counts : (h : Head) (t : Tables) → held h t ≡ true → (20 * h.inputs ≤ length t.inputs) × (14 * h.outputs ≤ length t.outputs) × (2 * h.items ≤ length t.items)
held_counts h t e = let q = simp says at e in (omega (arith, q.0.0), omega (arith, q.0.1), omega (arith, q.1))

pub records_length : (w n : ℕ) (t : List ℕ) → length (records w n t) ≡ n
unfolding records
records_length w zero t = refl
records_length w (suc n) t = ap suc (records_length w n (drop w t))

-- What is found of the records that are counted is found of the tables.
pub counted_faults : {h : Head} {t : Tables} {x : Transaction} → Counted h t x → (there : ℕ) → record_faults x.head.flag x.inputs.now x.outputs.now x.items.now there ≡ table_faults h t there
unfolding record_faults table_faults
counted_faults {h} {t} {x} k there =
    let e = ap (λ (g : Head). g.flag) k.head in
    rw (e, k.inputs, k.outputs, k.items, k.held, records_length 20 h.inputs t.inputs, records_length 2 h.items t.items)

pub exceeded_faults : (h : Head) (t : Tables) (there : ℕ) → held h t ≡ false → table_faults h t there ≡ fault 10 0
unfolding table_faults
exceeded_faults h t there e = rw e
