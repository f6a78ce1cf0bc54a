-- Laws of the written length: widths from a record's numbers, sums that stop above the limit, and that they are the length of what is
-- written.
use Prim.Native.Nat.{ℕ, zero, suc, ◌+◌, ◌*◌, ◌/◌, ◌^◌, ◌<◌, ◌≤◌}
use mathlib.Core.Path.{◌≡◌, refl, sym, ◌∙◌, ap}
use mathlib.Core.Bool.{Bool, true, false, cond, and-eq-true_iff}
use mathlib.Core.List.{List, [], ◌∷◌, ◌++◌, map}
use mathlib.Core.Option.{none, some}
use native.Mathlib.Nat.{zero-add, add_assoc}
use native.Mathlib.Omega.{arith}
use lib.Dec.{leb, eqb}
use Rattle.std.specs.List.{fold}
use lib.ListN.{length, take, drop, length-append, length-take, length-drop, length-map, take-append-drop, drop_of_length-le}
use lib.Seq.{drop-drop}
use borrow.Author.Tests.{leb-true, le-leb, lt-leb, eqb-true, eqb-false, eq-eqb, ne_eqb}
use Rattle.layout.proofs.Reading.{by_cases}
use Rattle.layout.specs.Number.{Order, little, big, bytes_of}
use Rattle.layout.specs.Transaction.{Head, limit}
use Rattle.layout.specs.Outcome.{Tables}
use Rattle.layout.specs.Contents.{Contents, compact_bytes, flat, body_bytes, list_bytes, value_bytes, token_bytes, issuance_bytes, input_bytes, output_bytes, input_witness_bytes, output_witness_bytes, witnesses_bytes, contents_bytes}
use Rattle.layout.specs.Records.{sum}
use Rattle.layout.specs.Writing.{records, body, value_of, token_of, issuance_of, issues, input_of, output_of, item_of, input_witness_of, output_witness_of, witnesses_of, contents_of, input_records, output_records, item_records, Fault, passes, fault, ◌also◌, unless, value_width, issuance_rule, input_witness_rule, input_rule, token_rule, output_witness_rule, output_rule, item_rule, input_fault, input_faults, rule_faults, record_items, held, table_faults, written_bytes, faults, wrote, unwritten, verdict, written_length, zeros₇, ◌!◌}
use Rattle.encoders.specs.declared.table.Transaction.{Transaction}
use Rattle.encoders.specs.Answers.{head_numbers}
use Rattle.encoders.specs.Needs.{Counted, Measures, capped, compact_width, body_width, token_width, issuance_width, input_width, output_width, input_witness_width, output_witness_width, item_width, whole_input, whole_output, written_width}
use Rattle.encoders.proofs.Judging.{says, width_small, passes_rule, passes_witness, records_length, also_first, also_second, unless_passes}

-- ---- one record's widths

pub compact_one : {n : ℕ} → n ≤ 252 → Measures 10 1 (compact_width n)
unfolding compact_width
compact_one {n} h = record { same = rw (le-leb n 252 h); small = omega arith }

pub compact_three : {n : ℕ} → 252 < n → n ≤ 65535 → Measures 10 3 (compact_width n)
unfolding compact_width
compact_three {n} g h = record { same = rw (lt-leb n 252 g, le-leb n 65535 h); small = omega arith }

pub compact_five : {n : ℕ} → 252 < n → 65535 < n → n < 2 ^ 32 → Measures 10 5 (compact_width n)
unfolding compact_width
compact_five {n} g h l = let l' : n ≤ 4294967295 = omega arith in record { same = rw (lt-leb n 252 g, lt-leb n 65535 h, le-leb n 4294967295 l'); small = omega arith }

pub token_null : {prefix : ℕ} → prefix ≡ 0 → Measures 34 1 (token_width prefix)
unfolding token_width
token_null {prefix} h = record { same = rw (eq-eqb prefix 0 h); small = omega arith }

pub token_present : {prefix : ℕ} → (prefix ≡ 0 → ⊥) → Measures 34 33 (token_width prefix)
unfolding token_width
token_present {prefix} h = record { same = rw (ne_eqb prefix 0 h); small = omega arith }

pub issuance_with : (r : List ℕ) → 2 ≤ r ! 2 → {a b : ℕ} → a ≡ value_width (r ! 7) → b ≡ value_width (r ! 10) → Measures 131 (64 + a + b) (issuance_width r)
unfolding issuance_width
issuance_with r h e e' = record { same = rw (le-leb 2 (r ! 2) h, e, e'); small = omega (arith, width_small (r ! 7), width_small (r ! 10), e, e') }

pub issuance_without : (r : List ℕ) → r ! 2 < 2 → Measures 131 0 (issuance_width r)
unfolding issuance_width
issuance_without r h = record { same = rw (lt-leb 2 (r ! 2) h); small = omega arith }

pub input_whole : (r : List ℕ) {flag : ℕ} → flag ≡ 1 → {a b : ℕ} → Measures (2 ^ 34) a (input_width r) → Measures (2 ^ 35) b (input_witness_width r) → Measures (2 ^ 36) (a + b) (whole_input flag r)
unfolding whole_input
input_whole r {flag} h m n = record { same = rw (eq-eqb flag 1 h, m.same, n.same); small = omega (arith, m.small, n.small) }

pub input_alone : (r : List ℕ) {flag : ℕ} → (flag ≡ 1 → ⊥) → {a : ℕ} → Measures (2 ^ 34) a (input_width r) → Measures (2 ^ 36) a (whole_input flag r)
unfolding whole_input
input_alone r {flag} h m = record { same = rw (ne_eqb flag 1 h, m.same); small = omega (arith, m.small) }

pub output_whole : (r : List ℕ) {flag : ℕ} → flag ≡ 1 → {a b : ℕ} → Measures (2 ^ 34) a (output_width r) → Measures (2 ^ 35) b (output_witness_width r) → Measures (2 ^ 36) (a + b) (whole_output flag r)
unfolding whole_output
output_whole r {flag} h m n = record { same = rw (eq-eqb flag 1 h, m.same, n.same); small = omega (arith, m.small, n.small) }

pub output_alone : (r : List ℕ) {flag : ℕ} → (flag ≡ 1 → ⊥) → {a : ℕ} → Measures (2 ^ 34) a (output_width r) → Measures (2 ^ 36) a (whole_output flag r)
unfolding whole_output
output_alone r {flag} h m = record { same = rw (ne_eqb flag 1 h, m.same); small = omega (arith, m.small) }

-- ---- sums that stop above the limit

pub capped_sum : (f : List ℕ → ℕ) (a : ℕ) (rs : List (List ℕ)) → a ≤ 4000001 → fold (λ s r. capped (s + f r)) a rs ≡ capped (a + sum f rs)
unfolding sum
capped_sum f a [] h = omega arith
capped_sum f a (r ∷ rs) h = let more = capped_sum f (capped (a + f r)) rs (omega arith) in omega (arith, more)

pub capped_all : (f : List ℕ → ℕ) (rs : List (List ℕ)) → fold (λ s r. capped (s + f r)) 0 rs ≡ capped (sum f rs)
capped_all f rs = capped_sum f 0 rs (omega arith) ∙ ap capped (zero-add (sum f rs))

-- the whole, from its parts
pub written_is : (h : Head) (is os ts : List (List ℕ)) {c₁ a c₂ b d r : ℕ} → Measures 10 c₁ (compact_width h.inputs) → a ≡ capped (sum (whole_input h.flag) is) → Measures 10 c₂ (compact_width h.outputs) → b ≡ capped (sum (whole_output h.flag) os) → d ≡ capped (sum item_width ts) → r ≡ capped (9 + c₁ + a + c₂ + b + d) → r ≡ capped (written_width h is os ts)
unfolding written_width
written_is h is os ts m e m' e' e'' c = omega (arith, m.same, e, m'.same, e', e'', c)

-- ---- lengths of what is written

pub length_bytes_of : (o : Order) (w v : ℕ) → length (bytes_of o w v) ≡ w
unfolding bytes_of
length_bytes_of little zero v = refl
length_bytes_of little (suc w) v = ap suc (length_bytes_of little w (v / 256))
length_bytes_of big zero v = refl
length_bytes_of big (suc w) v = ap suc (length_bytes_of big w v)

pub length_compact : (n : ℕ) → length (compact_bytes n) ≡ compact_width n
unfolding compact_bytes compact_width
length_compact n =
    by_cases (leb n 252)
    (λ e. rw e)
    (λ e.
    rw e
    (by_cases (leb n 65535)
    (λ e'. rw e' (ap suc (length_bytes_of little 2 n)))
    (λ e'. rw e' (by_cases (leb n 4294967295) (λ e''. rw e'' (ap suc (length_bytes_of little 4 n))) (λ e''. rw e'' (ap suc (length_bytes_of little 8 n)))))))

length_body : (xs : List ℕ) → length (body_bytes xs) ≡ body_width (length xs)
unfolding body_bytes
length_body xs = length-append (compact_bytes (length xs)) xs ∙ ap (λ (k : ℕ). k + length xs) (length_compact (length xs))

part_length : {A : Type 0} (xs : List A) (at n : ℕ) → at + n ≤ length xs → length (take n (drop at xs)) ≡ n
part_length xs at n h = simp (length-take, length-drop) (omega arith)

pub body_lies : (source : List ℕ) (at n : ℕ) → at + n ≤ length source → length (body source at n) ≡ n
unfolding body
body_lies source at n h = part_length source at n h

pub body_at_lem : (source : List ℕ) (at n : ℕ) → at + n ≤ length source → length (body_bytes (body source at n)) ≡ body_width n
body_at_lem source at n h = length_body (body source at n) ∙ ap (λ (k : ℕ). body_width k) (body_lies source at n h)

value_33 : (prefix : ℕ) → eqb prefix 0 ≡ false → eqb prefix 1 ≡ false → value_width prefix ≡ 33
value_33 prefix e e' = rw (e, e')

pub value_length : (source : List ℕ) (at prefix high low : ℕ) → (eqb prefix 0 ≡ false → eqb prefix 1 ≡ false → at + 33 ≤ length source) → length (value_bytes (value_of source at prefix high low)) ≡ value_width prefix
unfolding value_of value_bytes
value_length source at prefix high low h =
    by_cases (eqb prefix 0)
    (λ e. rw e)
    (λ e.
    rw e
    (by_cases (eqb prefix 1)
    (λ e'. rw e' (ap suc (length_bytes_of big 8 (2 ^ 32 * high + low))))
    (λ e'. let g = h e e' in rw e' (ap suc (body_lies source (at + 1) 32 (omega arith))))))

pub token_length : (listed : ℕ → Bool) (source : List ℕ) (at prefix : ℕ) → token_rule listed (length source) at prefix ≡ true → length (token_bytes (token_of source at prefix)) ≡ token_width prefix
unfolding token_rule token_of token_bytes token_width
token_length listed source at prefix h =
    by_cases (eqb prefix 0)
    (λ e. rw e)
    (λ e. let q = simp says at (rw e at h) in rw e (ap suc (body_lies source (at + 1) 32 (omega (arith, q.1)))))

pub issuance_length : (source r : List ℕ) → issuance_rule (length source) r ≡ true → length (issuance_bytes (cond (issues r) (some (issuance_of source r)) none)) ≡ issuance_width r
unfolding issuance_rule issuance_bytes issuance_width
issuance_length source r h =
    by_cases (leb 2 (r ! 2))
    (λ e.
    let q = simp says at (rw e at h) in
    let l = q.0.0 in
    let amount = value_length source (r ! 6 + 64) (r ! 7) (r ! 8) (r ! 9) (λ a b. omega (arith, l, value_33 (r ! 7) a b)) in
    let keys = value_length source (r ! 6 + 64 + value_width (r ! 7)) (r ! 10) (r ! 11) (r ! 12) (λ a b. omega (arith, l, value_33 (r ! 10) a b)) in
    rw e (simp length-append (omega (arith, body_lies source (r ! 6) 32 (omega (arith, l)), body_lies source (r ! 6 + 32) 32 (omega (arith, l)), amount, keys))))
    (λ e. rw e)

module _ (source : List ℕ) (flag : ℕ) where
  pub input_length : (first : ℕ) (r : List ℕ) → input_rule flag (length source) first r ≡ true → length (input_bytes (input_of source r)) ≡ input_width r
  unfolding input_rule input_bytes input_of
  input_length first r h =
      let q = simp says at h in
      simp (length-append, length_bytes_of) (omega (arith, body_lies source (r ! 0) 32 q.0.0.0.0, body_at_lem source (r ! 3) (r ! 4) q.0.0.1, issuance_length source r q.0.1))

  pub output_length : (r : List ℕ) → output_rule flag (length source) r ≡ true → length (output_bytes (output_of source r)) ≡ output_width r
  unfolding output_rule output_bytes output_of
  output_length r h =
      let q = simp says at h in
      let v = value_length source (r ! 3) (r ! 2) (r ! 4) (r ! 5) (λ a b. let l : 1 < r ! 2 = omega (arith, eqb-false) in leb-true _ _ (rw (lt-leb (r ! 2) 1 l) at q.0.0.0.1)) in
      simp length-append (omega (arith, token_length _ source (r ! 1) (r ! 0) q.0.0.0.0.0, v, token_length _ source (r ! 7) (r ! 6) q.0.0.1, body_at_lem source (r ! 8) (r ! 9) q.0.1))

  pub output_witness_length : eqb flag 1 ≡ true → (r : List ℕ) → output_rule flag (length source) r ≡ true → length (output_witness_bytes (output_witness_of source r)) ≡ output_witness_width r
  unfolding output_rule output_witness_rule output_witness_bytes output_witness_of
  output_witness_length e r h =
      let q = simp and-eq-true_iff at h in
      let p = simp says at (rw e at q.1) in
      simp length-append (omega (arith, body_at_lem source (r ! 10) (r ! 11) p.0, body_at_lem source (r ! 12) (r ! 13) p.1))

  pub item_length : eqb flag 1 ≡ true → (r : List ℕ) → item_rule flag (length source) r ≡ true → length (body_bytes (item_of source r)) ≡ item_width r
  unfolding item_rule item_of
  item_length e r h = body_at_lem source (r ! 0) (r ! 1) (leb-true _ _ (rw e at h))

-- ---- over all records

-- records under one rule
pub rules_length : {X : Type 0} (rule : List ℕ → Bool) (bytes : X → List ℕ) (of : List ℕ → X) (wide : List ℕ → ℕ) → ((r : List ℕ) → rule r ≡ true → length (bytes (of r)) ≡ wide r) → (i : ℕ) (rs : List (List ℕ)) → rule_faults rule i rs ≡ passes → length (flat bytes (map of rs)) ≡ sum wide rs
unfolding rule_faults flat sum
rules_length rule bytes of wide each i [] h = refl
rules_length rule bytes of wide each i (r ∷ rs) h =
    let here = each r (unless_passes (rule r) 13 i (also_first (unless (rule r) 13 i) (rule_faults rule (suc i) rs) h)) in
    let more = rules_length rule bytes of wide each (suc i) rs (also_second (unless (rule r) 13 i) (rule_faults rule (suc i) rs) h) in
    omega (arith, length-append (bytes (of r)) (flat bytes (map of rs)), here, more)

flat_append : {X : Type 0} (f : X → List ℕ) (xs ys : List X) → length (flat f (xs ++ ys)) ≡ length (flat f xs) + length (flat f ys)
unfolding flat
flat_append f [] ys = omega arith
flat_append f (x ∷ xs) ys = omega (arith, length-append (f x) (flat f (xs ++ ys)), length-append (f x) (flat f xs), flat_append f xs ys)

-- so many, and those behind them
flat_split : {X : Type 0} (f : X → List ℕ) (at n : ℕ) (xs : List X) → length (flat f (drop at xs)) ≡ length (flat f (take n (drop at xs))) + length (flat f (drop (at + n) xs))
flat_split f at n xs =
    ap (λ ys. length (flat f ys)) (sym (take-append-drop n (drop at xs)))
    ∙ flat_append f (take n (drop at xs)) (drop n (drop at xs))
    ∙ ap (λ ys. length (flat f (take n (drop at xs))) + length (flat f ys)) (drop-drop n at xs)

stack_length : (items : List (List ℕ)) (at n : ℕ) → at + n ≤ length items → length (list_bytes body_bytes (take n (drop at items))) ≡ compact_width n + length (flat body_bytes (take n (drop at items)))
unfolding list_bytes
stack_length items at n h =
    length-append (compact_bytes (length (take n (drop at items)))) (flat body_bytes (take n (drop at items)))
    ∙ ap (λ (k : ℕ). k + length (flat body_bytes (take n (drop at items)))) (length_compact (length (take n (drop at items))) ∙ ap compact_width (part_length items at n h))

module _ (source : List ℕ) (flag : ℕ) where
  pub inputs_length : (first i : ℕ) (rs : List (List ℕ)) → input_faults flag (length source) first i rs ≡ passes → length (flat input_bytes (map (input_of source) rs)) ≡ sum input_width rs
  unfolding input_faults flat sum
  inputs_length first i [] h = refl
  inputs_length first i (r ∷ rs) h =
      let f = input_fault flag (length source) first i r in
      let g = input_faults flag (length source) (first + record_items r) (suc i) rs in
      let here = input_length source flag first r (passes_rule flag (length source) first i r (also_first f g h)) in
      let more = inputs_length (first + record_items r) (suc i) rs (also_second f g h) in
      omega (arith, length-append (input_bytes (input_of source r)) (flat input_bytes (map (input_of source) rs)), here, more)

  -- one witness: its proofs, its counts, and the items of its stacks
  witness_length : eqb flag 1 ≡ true → (items : List (List ℕ)) (first : ℕ) (r : List ℕ) → input_witness_rule flag (length source) first r ≡ true → first + record_items r ≤ length items → length (input_witness_bytes (input_witness_of source items r)) ≡ input_witness_width r + (length (flat body_bytes (take (r ! 18) (drop first items))) + length (flat body_bytes (take (r ! 19) (drop (first + r ! 18) items))))
  unfolding input_witness_rule input_witness_bytes input_witness_of
  witness_length e items first r h l =
      let q = simp says at (rw e at h) in
      let e₁₇ : r ! 17 ≡ first = q.1 in
      rw e₁₇
      (simp length-append
      (omega (arith, body_at_lem source (r ! 13) (r ! 14) q.0.0, body_at_lem source (r ! 15) (r ! 16) q.0.1, stack_length items first (r ! 18) (omega (arith, l)), stack_length items (first + r ! 18) (r ! 19) (omega (arith, l)))))

  -- Items of witnesses that pass are all items, in order.
  pub witnesses_length : eqb flag 1 ≡ true → (items : List (List ℕ)) (first i : ℕ) (rs : List (List ℕ)) → input_faults flag (length source) first i rs ≡ passes → first + sum record_items rs ≡ length items → length (flat input_witness_bytes (map (input_witness_of source items) rs)) ≡ sum input_witness_width rs + length (flat body_bytes (drop first items))
  unfolding input_faults flat sum
  witnesses_length e items first i [] h l =
      let b : length items ≤ first = omega (arith, l) in
      rw (drop_of_length-le items b)
  witnesses_length e items first i (r ∷ rs) h l =
      let f = input_fault flag (length source) first i r in
      let g = input_faults flag (length source) (first + record_items r) (suc i) rs in
      let here = witness_length e items first r (passes_witness flag (length source) first i r (also_first f g h)) (omega (arith, l)) in
      let more = witnesses_length e items (first + record_items r) (suc i) rs (also_second f g h) (omega (arith, l)) in
      let joins = ap (λ (k : ℕ). length (flat body_bytes (drop k items))) (add_assoc first (r ! 18) (r ! 19)) in
      omega (arith, length-append (input_witness_bytes (input_witness_of source items r)) (flat input_witness_bytes (map (input_witness_of source items) rs)), here, more, flat_split body_bytes first (r ! 18) items, flat_split body_bytes (first + r ! 18) (r ! 19) items, joins)

  -- Without witnesses there are no items.
  pub no_items : eqb flag 1 ≡ false → (first i : ℕ) (rs : List (List ℕ)) → input_faults flag (length source) first i rs ≡ passes → sum record_items rs ≡ 0
  unfolding input_faults sum input_witness_rule zeros₇
  no_items e first i [] h = refl
  no_items e first i (r ∷ rs) h =
      let f = input_fault flag (length source) first i r in
      let g = input_faults flag (length source) (first + record_items r) (suc i) rs in
      let q = simp says at (rw e at (passes_witness flag (length source) first i r (also_first f g h))) in
      omega (arith, q, no_items e (first + record_items r) (suc i) rs (also_second f g h))

list_length : {X : Type 0} (bytes : X → List ℕ) (of : List ℕ → X) (w n : ℕ) (t : List ℕ) → length (list_bytes bytes (map of (records w n t))) ≡ compact_width n + length (flat bytes (map of (records w n t)))
unfolding list_bytes
list_length bytes of w n t =
    length-append (compact_bytes (length (map of (records w n t)))) (flat bytes (map of (records w n t)))
    ∙ ap (λ (k : ℕ). k + length (flat bytes (map of (records w n t)))) (length_compact (length (map of (records w n t))) ∙ ap compact_width (length-map (records w n t) of ∙ records_length w n t))

sum_whole_input : (flag : ℕ) → eqb flag 1 ≡ true → (rs : List (List ℕ)) → sum (whole_input flag) rs ≡ sum input_width rs + sum input_witness_width rs
unfolding sum whole_input
sum_whole_input flag e [] = refl
sum_whole_input flag e (r ∷ rs) = rw e (omega (arith, sum_whole_input flag e rs))

sum_alone_input : (flag : ℕ) → eqb flag 1 ≡ false → (rs : List (List ℕ)) → sum (whole_input flag) rs ≡ sum input_width rs
unfolding sum whole_input
sum_alone_input flag e [] = refl
sum_alone_input flag e (r ∷ rs) = rw e (omega (arith, sum_alone_input flag e rs))

sum_whole_output : (flag : ℕ) → eqb flag 1 ≡ true → (rs : List (List ℕ)) → sum (whole_output flag) rs ≡ sum output_width rs + sum output_witness_width rs
unfolding sum whole_output
sum_whole_output flag e [] = refl
sum_whole_output flag e (r ∷ rs) = rw e (omega (arith, sum_whole_output flag e rs))

sum_alone_output : (flag : ℕ) → eqb flag 1 ≡ false → (rs : List (List ℕ)) → sum (whole_output flag) rs ≡ sum output_width rs
unfolding sum whole_output
sum_alone_output flag e [] = refl
sum_alone_output flag e (r ∷ rs) = rw e (omega (arith, sum_alone_output flag e rs))

-- ---- the written length

contents_length : (x : Contents) → length (contents_bytes x) ≡ 9 + length (list_bytes input_bytes x.inputs) + length (list_bytes output_bytes x.outputs) + length (witnesses_bytes x.witnesses)
unfolding contents_bytes
contents_length x = simp (length-append, length_bytes_of) (omega arith)

-- what is known of tables without a fault
pub record Fine (h : Head) (t : Tables) (there : ℕ) : Type 0 where
  pub held : held h t ≡ true
  pub inputs : input_faults h.flag there 0 0 (input_records h t) ≡ passes
  pub outputs : rule_faults (output_rule h.flag there) 0 (output_records h t) ≡ passes
  pub items : rule_faults (item_rule h.flag there) 0 (item_records h t) ≡ passes
  pub total : sum record_items (input_records h t) ≡ h.items

pub fine : (h : Head) (t : Tables) (there : ℕ) → table_faults h t there ≡ passes → Fine h t there
unfolding table_faults
fine h t there e =
    let e₁ = also_second (unless (held h t) 10 0) _ e in
    let e₂ = also_second (unless (leb h.flag 1) 7 4) _ e₁ in
    let e₃ = also_second (input_faults h.flag there 0 0 (input_records h t)) _ e₂ in
    let e₄ = also_second (rule_faults (output_rule h.flag there) 0 (output_records h t)) _ e₃ in
    let e₅ = also_second (rule_faults (item_rule h.flag there) 0 (item_records h t)) _ e₄ in
    record {
      held = unless_passes (held h t) 10 0 (also_first (unless (held h t) 10 0) _ e);
      inputs = also_first (input_faults h.flag there 0 0 (input_records h t)) _ e₂;
      outputs = also_first (rule_faults (output_rule h.flag there) 0 (output_records h t)) _ e₃;
      items = also_first (rule_faults (item_rule h.flag there) 0 (item_records h t)) _ e₄;
      total = eqb-true (sum record_items (input_records h t)) h.items (unless_passes (eqb (sum record_items (input_records h t)) h.items) 13 h.inputs (also_first (unless (eqb (sum record_items (input_records h t)) h.items) 13 h.inputs) _ e₅));
    }

module _ (h : Head) (t : Tables) (source : List ℕ) (f : Fine h t (length source)) where
  ins_length : length (list_bytes input_bytes (map (input_of source) (input_records h t))) ≡ compact_width h.inputs + sum input_width (input_records h t)
  ins_length = list_length input_bytes (input_of source) 20 h.inputs t.inputs ∙ ap (λ (k : ℕ). compact_width h.inputs + k) (inputs_length source h.flag 0 0 (input_records h t) f.inputs)

  outs_length : length (list_bytes output_bytes (map (output_of source) (output_records h t))) ≡ compact_width h.outputs + sum output_width (output_records h t)
  outs_length =
      list_length output_bytes (output_of source) 14 h.outputs t.outputs
      ∙ ap (λ (k : ℕ). compact_width h.outputs + k) (rules_length (output_rule h.flag (length source)) output_bytes (output_of source) output_width (output_length source h.flag) 0 (output_records h t) f.outputs)

  wits_length : eqb h.flag 1 ≡ true → length (witnesses_bytes (some (witnesses_of h t source))) ≡ sum input_witness_width (input_records h t) + sum item_width (item_records h t) + sum output_witness_width (output_records h t)
  unfolding witnesses_bytes
  wits_length e =
      let items = map (item_of source) (item_records h t) in
      let counted : 0 + sum record_items (input_records h t) ≡ length items = zero-add _ ∙ f.total ∙ sym (length-map (item_records h t) (item_of source) ∙ records_length 2 h.items t.items) in
      let w = witnesses_length source h.flag e items 0 0 (input_records h t) f.inputs counted in
      let i = rules_length (item_rule h.flag (length source)) body_bytes (item_of source) item_width (item_length source h.flag e) 0 (item_records h t) f.items in
      let o = rules_length (output_rule h.flag (length source)) output_witness_bytes (output_witness_of source) output_witness_width (output_witness_length source h.flag e) 0 (output_records h t) f.outputs in
      omega (arith, length-append (flat input_witness_bytes (map (input_witness_of source items) (input_records h t))) (flat output_witness_bytes (map (output_witness_of source) (output_records h t))), w, i, o)

  none_length : eqb h.flag 1 ≡ false → sum item_width (item_records h t) ≡ 0
  unfolding records sum
  none_length e =
      let z : h.items ≡ 0 = sym f.total ∙ no_items source h.flag e 0 0 (input_records h t) f.inputs in
      ap (λ (n : ℕ). sum item_width (records 2 n t.items)) z

  pub written_length_lem : length (written_bytes h t source) ≡ written_width h (input_records h t) (output_records h t) (item_records h t)
  unfolding contents_of written_width witnesses_bytes
  written_length_lem =
      contents_length (contents_of h t source)
      ∙ by_cases (eqb h.flag 1)
      (λ e. rw e (omega (arith, ins_length, outs_length, wits_length e, sum_whole_input h.flag e (input_records h t), sum_whole_output h.flag e (output_records h t))))
      (λ e. rw e (omega (arith, ins_length, outs_length, none_length e, sum_alone_input h.flag e (input_records h t), sum_alone_output h.flag e (output_records h t))))

-- ---- the verdict

-- a length of the counted records is that of the tables
pub counted_width : {h : Head} {t : Tables} {x : Transaction} → Counted h t x → written_width (head_numbers x.head) x.inputs.now x.outputs.now x.items.now ≡ written_width h (input_records h t) (output_records h t) (item_records h t)
counted_width k = λ i. written_width (k.head i) (k.inputs i) (k.outputs i) (k.items i)

module _ (h : Head) (t : Tables) (source : List ℕ) where
  abbrev bytes : ℕ
  bytes = length (written_bytes h t source)

  abbrev width : ℕ
  width = written_width h (input_records h t) (output_records h t) (item_records h t)

  pub faulty : {n p : ℕ} → table_faults h t (length source) ≡ fault n p → unwritten n p ≡ written_length h t source
  unfolding written_length faults
  faulty e = sym (ap (λ (f : Fault). verdict (f also unless (leb bytes limit) 2 0) bytes) e)

  faultless : table_faults h t (length source) ≡ passes → verdict (unless (leb bytes limit) 2 0) bytes ≡ written_length h t source
  unfolding written_length faults
  faultless p = sym (ap (λ (f : Fault). verdict (f also unless (leb bytes limit) 2 0) bytes) p)

  pub too_long_lem : table_faults h t (length source) ≡ passes → {n : ℕ} → n ≡ capped width → 4000000 < n → unwritten 2 0 ≡ written_length h t source
  too_long_lem p {n} e l =
      let same = written_length_lem h t source (fine h t (length source) p) in
      let long : limit < bytes = omega (arith, same, e, l) in
      sym (ap (λ (b : Bool). verdict (unless b 2 0) bytes) (lt-leb bytes limit long)) ∙ faultless p

  pub fits : table_faults h t (length source) ≡ passes → {n : ℕ} → n ≡ capped width → n ≤ 4000000 → wrote n ≡ written_length h t source
  fits p {n} e l =
      let same = written_length_lem h t source (fine h t (length source) p) in
      let is : n ≡ bytes = omega (arith, same, e, l) in
      let short : bytes ≤ limit = omega (arith, is, l) in
      ap (λ (k : ℕ). wrote k) is ∙ sym (ap (λ (b : Bool). verdict (unless b 2 0) bytes) (le-leb bytes limit short)) ∙ faultless p
