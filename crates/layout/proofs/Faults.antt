-- Faults in a chain, and the first of so many records' faults.
use Prim.Native.Nat.{ℕ, zero, suc, ◌+◌, ◌*◌, ◌<◌}
use mathlib.Core.Path.{◌≡◌, refl, sym, ◌∙◌, ap, ap₂, subst}
use mathlib.Core.Logic.{◌↔◌, ◌⊎◌, inl, inr}
use mathlib.Core.Bool.{Bool, true, false, ◌&&◌}
use mathlib.Core.List.{List, [], ◌∷◌}
use native.Mathlib.Nat.{zero-add, add-zero, add_comm, add_assoc, mul-zero, mul-suc}
use native.Mathlib.Omega.{arith}
use lib.ListN.{take, drop}
use lib.Seq.{drop-drop, get_or-take}
use Rattle.layout.specs.Contents.{all}
use Rattle.layout.specs.Records.{sum}
use Rattle.layout.specs.Writing.{records, Fault, passes, fault, ◌also◌, unless, input_fault, input_faults, rule_faults, record_items, verdict, unwritten}
use Rattle.layout.specs.Unwritten.{items_in}
use Rattle.layout.proofs.Reading.{by_cases}
use Rattle.layout.proofs.Outpoint.{true_not_false}
use Rattle.layout.proofs.Judging.{and_true, also_split, unless_true}

-- ---- a chain

pub also_assoc : (f g k : Fault) → ((f also g) also k) ≡ (f also g also k)
also_assoc passes g k = refl
also_assoc (fault n p) g k = refl

pub not_fault : (n p : ℕ) → passes ≡ fault n p → ⊥
not_fault n p e = let z : ◌≡◌ {A = ℕ} 0 1 = cc in omega arith

pub verdict_fault : (f : Fault) (m n p : ℕ) → (verdict f m ≡ unwritten n p) ↔ (f ≡ fault n p)
verdict_fault passes m n p = (λ e. absurd (let z : ◌≡◌ {A = ℕ} 0 1 = cc in omega arith), λ e. absurd (not_fault n p e))
verdict_fault (fault a b) m n p = (λ e. cc, λ e. cc)

pub also_fault : (f g : Fault) (n p : ℕ) → (f also g) ≡ fault n p → (f ≡ fault n p) ⊎ ((f ≡ passes) × (g ≡ fault n p))
also_fault passes g n p e = inr (refl, e)
also_fault (fault m q) g n p e = inl e

-- a test's fault has its number and place
pub unless_fault : (b : Bool) (m q n p : ℕ) → (unless b m q ≡ fault n p) ↔ ((b ≡ false) × (n ≡ m) × (p ≡ q))
unless_fault true m q n p = (λ e. absurd (not_fault n p e), λ e. ap (λ (b : Bool). unless b m q) e.0 ∙ ap₂ fault (sym e.1) (sym e.2))
unless_fault false m q n p = (λ e. (refl, cc, cc), λ e. ap₂ fault (sym e.1) (sym e.2))

-- ---- the first of so many

abbrev pub first_of : (ℕ → Fault) → ℕ → Fault
first_of g zero = passes
first_of g (suc n) = g 0 also first_of (λ i. g (suc i)) n

pub record First (g : ℕ → Fault) (n i number place : ℕ) : Type 0 where
  pub one : i < n
  pub earlier : (k : ℕ) → k < i → g k ≡ passes
  pub here : g i ≡ fault number place

pub none_of : (g : ℕ → Fault) (n : ℕ) → (first_of g n ≡ passes) ↔ ((i : ℕ) → i < n → g i ≡ passes)
none_of g zero = (λ e i l. absurd (omega arith), λ e. refl)
none_of g (suc n) =
    let later = none_of (λ i. g (suc i)) n in (
      λ e. let a = also_split (g 0) (first_of (λ i. g (suc i)) n) e in cases a.0 (later.0 a.1),
      λ e. ap₂ ◌also◌ (e 0 (omega arith)) (later.1 (λ i l. e (suc i) (omega arith))),
    )
  where
    cases : g 0 ≡ passes → ((i : ℕ) → i < n → g (suc i) ≡ passes) → (i : ℕ) → i < suc n → g i ≡ passes
    cases a b zero l = a
    cases a b (suc i) l = b i (omega arith)

pub first_of_lem : (g : ℕ → Fault) (n m p : ℕ) → (first_of g n ≡ fault m p) ↔ ((i : ℕ) × First g n i m p)
first_of_lem g zero m p = (λ e. absurd (not_fault m p e), λ e. absurd (omega (arith, e.1.one)))
first_of_lem g (suc n) m p = let later = first_of_lem (λ i. g (suc i)) n m p in (λ e. forward later (g 0) refl e, λ e. backward later e.0 e.1)
  where
    Later : Type 0
    Later = (first_of (λ i. g (suc i)) n ≡ fault m p) ↔ ((i : ℕ) × First (λ i. g (suc i)) n i m p)

    cases : (i : ℕ) → g 0 ≡ passes → ((k : ℕ) → k < i → g (suc k) ≡ passes) → (k : ℕ) → k < suc i → g k ≡ passes
    cases i a b zero l = a
    cases i a b (suc k) l = b k (omega arith)

    forward : Later → (f : Fault) → g 0 ≡ f → (f also first_of (λ i. g (suc i)) n) ≡ fault m p → (i : ℕ) × First g (suc n) i m p
    forward later passes a e = let r = later.0 e in (suc r.0, record { one = omega (arith, r.1.one); earlier = cases r.0 a r.1.earlier; here = r.1.here })
    forward later (fault c d) a e = (0, record { one = omega arith; earlier = λ k l. absurd (omega arith); here = a ∙ e })

    backward : Later → (i : ℕ) → First g (suc n) i m p → (g 0 also first_of (λ i. g (suc i)) n) ≡ fault m p
    backward later zero f = ap (λ (q : Fault). q also first_of (λ i. g (suc i)) n) f.here
    backward later (suc i) f =
        ap (λ (q : Fault). q also first_of (λ i. g (suc i)) n) (f.earlier 0 (omega arith))
        ∙ later.1 (i, record { one = omega (arith, f.one); earlier = λ k l. f.earlier (suc k) (omega arith); here = f.here })

-- the faults of a table's records are the first of these
rules_first : (rule : List ℕ → Bool) (w k n : ℕ) (xs : List ℕ) → rule_faults rule k (records w n xs) ≡ first_of (λ i. unless (rule (take w (drop (w * i) xs))) 13 (k + i)) n
unfolding rule_faults records
rules_first rule w k zero xs = refl
rules_first rule w k (suc n) xs =
    let front : w * 0 ≡ 0 = mul-zero w in
    let next : (i : ℕ) → unless (rule (take w (drop (w * i) (drop w xs)))) 13 (suc k + i) ≡ unless (rule (take w (drop (w * suc i) xs))) 13 (k + suc i) = λ i.
    let place : suc k + i ≡ k + suc i = omega arith in
    let at : w + w * i ≡ w * suc i = add_comm w (w * i) ∙ sym (mul-suc w i) in
    λ j. unless (rule (take w ((drop-drop (w * i) w xs ∙ ap (λ (m : ℕ). drop m xs) at) j))) 13 (place j) in
    ap₂ ◌also◌ (λ j. unless (rule (take w (drop (sym front j) xs))) 13 (sym (add-zero k) j)) (rules_first rule w (suc k) n (drop w xs) ∙ (λ j. first_of (λ i. next i j) n))

inputs_first : (flag there first k n : ℕ) (xs : List ℕ) → input_faults flag there first k (records 20 n xs) ≡ first_of (λ i. input_fault flag there (first + sum record_items (records 20 i xs)) (k + i) (take 20 (drop (20 * i) xs))) n
unfolding input_faults records sum
inputs_first flag there first k zero xs = refl
inputs_first flag there first k (suc n) xs =
    let r = take 20 xs in
    let next : (i : ℕ) → input_fault flag there (first + record_items r + sum record_items (records 20 i (drop 20 xs))) (suc k + i) (take 20 (drop (20 * i) (drop 20 xs))) ≡ input_fault flag there (first + (record_items r + sum record_items (records 20 i (drop 20 xs)))) (k + suc i) (take 20 (drop (20 * suc i) xs)) = λ i.
    let place : suc k + i ≡ k + suc i = omega arith in
    let at : 20 + 20 * i ≡ 20 * suc i = omega arith in
    λ j. input_fault flag there (add_assoc first (record_items r) (sum record_items (records 20 i (drop 20 xs))) j) (place j) (take 20 ((drop-drop (20 * i) 20 xs ∙ ap (λ (m : ℕ). drop m xs) at) j)) in
    ap₂ ◌also◌ (λ j. input_fault flag there (sym (add-zero first) j) (sym (add-zero k) j) r) (inputs_first flag there (first + record_items r) (suc k) n (drop 20 xs) ∙ (λ j. first_of (λ i. next i j) n))

-- the script and pegin items of a table's first records
pub items_in_lem : (n : ℕ) (xs : List ℕ) → sum record_items (records 20 n xs) ≡ items_in n xs
unfolding records sum
items_in_lem zero xs = refl
items_in_lem (suc n) xs =
    let script = get_or-take 20 xs 18 0 (omega arith) in
    let pegin = get_or-take 20 xs 19 0 (omega arith) in
    λ j. script j + pegin j + items_in_lem n (drop 20 xs) j

pub inputs_are : (flag there n : ℕ) (xs : List ℕ) → input_faults flag there 0 0 (records 20 n xs) ≡ first_of (λ i. input_fault flag there (items_in i xs) i (take 20 (drop (20 * i) xs))) n
inputs_are flag there n xs = inputs_first flag there 0 0 n xs ∙ (λ j. first_of (λ i. input_fault flag there ((zero-add (sum record_items (records 20 i xs)) ∙ items_in_lem i xs) j) (zero-add i j) (take 20 (drop (20 * i) xs))) n)

-- records under a rule that says P
module _ (rule : List ℕ → Bool) (P : List ℕ → Type 0) (says : (r : List ℕ) → (rule r ≡ true) ↔ P r) (w n : ℕ) (xs : List ℕ) where
  abbrev row : ℕ → List ℕ
  row i = take w (drop (w * i) xs)

  abbrev test : ℕ → Fault
  test i = unless (rule (row i)) 13 i

  rules_are : rule_faults rule 0 (records w n xs) ≡ first_of test n
  rules_are = rules_first rule w 0 n xs ∙ (λ j. first_of (λ i. unless (rule (row i)) 13 (zero-add i j)) n)

  holds : (i : ℕ) → (test i ≡ passes) ↔ P (row i)
  holds i = (λ e. (says (row i)).0 (unless_true (rule (row i)) 13 i e), λ k. ap (λ (b : Bool). unless b 13 i) ((says (row i)).1 k))

  pub rules_hold : (rule_faults rule 0 (records w n xs) ≡ passes) ↔ ((i : ℕ) → i < n → P (row i))
  rules_hold = let f = none_of test n in (λ e i l. (holds i).0 (f.0 (sym rules_are ∙ e) i l), λ g. rules_are ∙ f.1 (λ i l. (holds i).1 (g i l)))

  pub rule_broken : (m p : ℕ) → (rule_faults rule 0 (records w n xs) ≡ fault m p) ↔ ((m ≡ 13) × (p < n) × ((i : ℕ) → i < p → P (row i)) × (P (row p) → ⊥))
  rule_broken m p =
      let f = first_of_lem test n m p in (
        λ e.
            let q = f.0 (sym rules_are ∙ e) in
            let i = q.0 in
            let (b, number, place) = (unless_fault (rule (row i)) 13 i m p).0 q.1.here in
            subst (λ (k : ℕ). (m ≡ 13) × (k < n) × ((i : ℕ) → i < k → P (row i)) × (P (row k) → ⊥)) (sym place) (number, q.1.one, λ k l. (holds k).0 (q.1.earlier k l), λ k. true_not_false (sym ((says (row i)).1 k) ∙ b)),
        λ e.
            let b = by_cases (rule (row p)) (λ o. absurd (e.3 ((says (row p)).0 o))) (λ o. o) in
            rules_are ∙ f.1 (p, record { one = e.1; earlier = λ k l. (holds k).1 (e.2 k l); here = (unless_fault (rule (row p)) 13 p m p).1 (b, e.0, refl) }),
      )

  all_pass : (i : ℕ) (rs : List (List ℕ)) → (all rule rs ≡ true) ↔ (rule_faults rule i rs ≡ passes)
  unfolding all rule_faults
  all_pass i [] = (λ e. refl, λ e. refl)
  all_pass i (r ∷ rs) =
      let later = all_pass (suc i) rs in (
        λ e. let q = and_true (rule r) (all rule rs) e in (λ j. unless (q.0 j) 13 i also later.0 q.1 j),
        λ e. let q = also_split (unless (rule r) 13 i) (rule_faults rule (suc i) rs) e in (λ j. unless_true (rule r) 13 i q.0 j && later.1 q.1 j),
      )

  pub all_hold : (all rule (records w n xs) ≡ true) ↔ ((i : ℕ) → i < n → P (row i))
  all_hold = let a = all_pass 0 (records w n xs) in (λ e. rules_hold.0 (a.0 e), λ g. a.1 (rules_hold.1 g))
