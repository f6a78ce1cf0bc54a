-- What the writer doesn't read: for all tables.
use Prim.Native.Nat.{ℕ, zero, suc, ◌+◌, ◌*◌, ◌/◌, ◌<◌, ◌≤◌}
use mathlib.Core.Path.{◌≡◌, refl, sym, ◌∙◌, ap, subst}
use mathlib.Core.Logic.{◌≢◌}
use mathlib.Core.Bool.{Bool, cond, not, ◌&&◌, ◌||◌}
use mathlib.Core.List.{List, [], ◌∷◌, map}
use mathlib.Core.Option.{none, some}
use native.Mathlib.Omega.{arith}
use lib.Dec.{leb, eqb}
use lib.ListN.{length, take, drop, get_or, set, length-set}
use lib.Seq.{take-set-le, take-set-lt, drop-set-lt, drop-set-add, get_or-take, get_or-drop, get_or-set_other}
use borrow.Author.Tests.{leb-false, eqb-false}
use Rattle.layout.specs.Layout.{input, output, item}
use Rattle.layout.specs.Transaction.{Head, limit, asset_prefix, nonce_prefix}
use Rattle.layout.specs.Outcome.{Tables, width, change}
use Rattle.layout.specs.Contents.{Contents, contents_bytes, all}
use Rattle.layout.specs.Records.{sum}
use Rattle.layout.specs.Writing.{◌!◌, records, body, value_of, token_of, lies, value_rule, token_rule, output_witness_rule, input_records, output_records, item_records, held, contents_of, input_of, output_of, item_of, input_witness_of, output_witness_of, ◌also◌, unless, input_faults, rule_faults, output_rule, item_rule, record_items, empty_input, empty_output, table_faults, faults, verdict, touched, writing}
use Rattle.layout.proofs.Reading.{by_cases}
use Rattle.layout.proofs.Columns.{Each₂}
use Rattle.layout.proofs.RoundTrips.{lengthened}

-- The head's length in bytes isn't read.
pub length_not_read : (h : Head) (n : ℕ) (t : Tables) (source out : List ℕ) → writing (lengthened h n) t source out ≡ writing h t source out
unfolding writing faults table_faults contents_of
length_not_read h n t source out = refl

-- Records behind the counts aren't read.
pub behind_not_read : (h : Head) (t u : Tables) (source out : List ℕ) → held h t ≡ held h u → input_records h t ≡ input_records h u → output_records h t ≡ output_records h u → item_records h t ≡ item_records h u → writing h t source out ≡ writing h u source out
unfolding writing faults table_faults contents_of
behind_not_read h t u source out e i o n = λ j.
    let there = length source in
    let c : Contents = record {
      version = h.version;
      inputs = map (input_of source) (i j);
      outputs = map (output_of source) (o j);
      locktime = h.locktime;
      witnesses = cond (eqb h.flag 1) (some (record { inputs = map (input_witness_of source (map (item_of source) (n j))) (i j); outputs = map (output_witness_of source) (o j) })) none;
    } in
    let bytes = contents_bytes c in
    let tf =
    unless (e j) 10 0
    also unless (leb h.flag 1) 7 4
    also input_faults h.flag there 0 0 (i j)
    also rule_faults (output_rule h.flag there) 0 (o j)
    also rule_faults (item_rule h.flag there) 0 (n j)
    also unless (eqb (sum record_items (i j)) h.items) 13 h.inputs
    also unless (not (eqb h.flag 1 && all empty_input (i j) && all empty_output (o j))) 8 4 in
    let f = (tf also unless (leb (length bytes) limit) 2 0) also unless (leb (length bytes) (length out)) 14 0 in
    record { answer = verdict f (length bytes); output = touched f bytes out }

-- ---- positions of null fields and of an output's explicit value

-- Output records that differ in no number but these positions.
pub record Alike (r s : List ℕ) : Type 0 where
  pub numbers : (k : ℕ) → k ≢ 1 → k ≢ 3 → k ≢ 7 → r ! k ≡ s ! k
  pub asset : 1 ≤ s ! 0 → r ! 1 ≡ s ! 1
  pub value : 2 ≤ s ! 2 → r ! 3 ≡ s ! 3
  pub nonce : 1 ≤ s ! 6 → r ! 7 ≡ s ! 7

module _ (source : List ℕ) (flag : ℕ) where
  abbrev there : ℕ
  there = length source

  -- what the writer makes of an output record
  record Same (r s : List ℕ) : Type 0 where
    shown : output_of source r ≡ output_of source s
    rule : output_rule flag there r ≡ output_rule flag there s
    witness : output_witness_of source r ≡ output_witness_of source s
    empty : empty_output r ≡ empty_output s

  token_same : (a b p : ℕ) → (1 ≤ p → a ≡ b) → token_of source a p ≡ token_of source b p
  unfolding token_of
  token_same a b p e = by_cases (eqb p 0) (λ t. rw t refl) (λ t. ap (λ (n : ℕ). token_of source n p) (e (omega (arith, eqb-false p 0 t))))

  token_rule_same : (listed : ℕ → Bool) (a b p : ℕ) → (1 ≤ p → a ≡ b) → token_rule listed there a p ≡ token_rule listed there b p
  unfolding token_rule
  token_rule_same listed a b p e = by_cases (eqb p 0) (λ t. rw t refl) (λ t. ap (λ (n : ℕ). token_rule listed there n p) (e (omega (arith, eqb-false p 0 t))))

  value_same : (a b p h l : ℕ) → (2 ≤ p → a ≡ b) → value_of source a p h l ≡ value_of source b p h l
  unfolding value_of
  value_same a b p h l e =
      by_cases (eqb p 0) (λ t. rw t refl)
      (λ t. by_cases (eqb p 1) (λ u. rw (t, u) refl) (λ u. ap (λ (n : ℕ). value_of source n p h l) (e (omega (arith, eqb-false p 0 t, eqb-false p 1 u)))))

  value_lies_same : (a b p : ℕ) → (2 ≤ p → a ≡ b) → (leb p 1 || lies there a 33) ≡ (leb p 1 || lies there b 33)
  value_lies_same a b p e = by_cases (leb p 1) (λ t. rw t refl) (λ t. ap (λ (n : ℕ). leb p 1 || lies there n 33) (e (omega (arith, leb-false p 1 t))))

  same : (r s : List ℕ) → Alike r s → Same r s
  unfolding output_of output_rule output_witness_of output_witness_rule
  same r s a =
      let n : (k : ℕ) → k ≢ 1 → k ≢ 3 → k ≢ 7 → r ! k ≡ s ! k = a.numbers in
      let n₀ = n 0 (λ e. omega arith) (λ e. omega arith) (λ e. omega arith) in
      let n₂ = n 2 (λ e. omega arith) (λ e. omega arith) (λ e. omega arith) in
      let n₄ = n 4 (λ e. omega arith) (λ e. omega arith) (λ e. omega arith) in
      let n₅ = n 5 (λ e. omega arith) (λ e. omega arith) (λ e. omega arith) in
      let n₆ = n 6 (λ e. omega arith) (λ e. omega arith) (λ e. omega arith) in
      let n₈ = n 8 (λ e. omega arith) (λ e. omega arith) (λ e. omega arith) in
      let n₉ = n 9 (λ e. omega arith) (λ e. omega arith) (λ e. omega arith) in
      let n₁₀ = n 10 (λ e. omega arith) (λ e. omega arith) (λ e. omega arith) in
      let n₁₁ = n 11 (λ e. omega arith) (λ e. omega arith) (λ e. omega arith) in
      let n₁₂ = n 12 (λ e. omega arith) (λ e. omega arith) (λ e. omega arith) in
      let n₁₃ = n 13 (λ e. omega arith) (λ e. omega arith) (λ e. omega arith) in
      let p = ap (λ (q : ℕ). token_of source (r ! 1) q) n₀ ∙ token_same (r ! 1) (s ! 1) (s ! 0) a.asset in
      let q = (λ j. value_of source (r ! 3) (n₂ j) (n₄ j) (n₅ j)) ∙ value_same (r ! 3) (s ! 3) (s ! 2) (s ! 4) (s ! 5) a.value in
      let w = ap (λ (q : ℕ). token_of source (r ! 7) q) n₆ ∙ token_same (r ! 7) (s ! 7) (s ! 6) a.nonce in
      let p' = ap (λ (q : ℕ). token_rule asset_prefix there (r ! 1) q) n₀ ∙ token_rule_same asset_prefix (r ! 1) (s ! 1) (s ! 0) a.asset in
      let q' = ap (λ (q : ℕ). leb q 1 || lies there (r ! 3) 33) n₂ ∙ value_lies_same (r ! 3) (s ! 3) (s ! 2) a.value in
      let w' = ap (λ (q : ℕ). token_rule nonce_prefix there (r ! 7) q) n₆ ∙ token_rule_same nonce_prefix (r ! 7) (s ! 7) (s ! 6) a.nonce in
      record {
        shown = λ j. record { asset = p j; value = q j; nonce = w j; script = body source (n₈ j) (n₉ j) };
        rule = λ j.
            p' j && value_rule (n₂ j) (n₄ j) (n₅ j) && q' j && w' j && lies there (n₈ j) (n₉ j)
            && cond (eqb flag 1) (lies there (n₁₀ j) (n₁₁ j) && lies there (n₁₂ j) (n₁₃ j)) (eqb (n₁₀ j) 0 && eqb (n₁₁ j) 0 && eqb (n₁₂ j) 0 && eqb (n₁₃ j) 0);
        witness = λ j. record { surjection_proof = body source (n₁₀ j) (n₁₁ j); range_proof = body source (n₁₂ j) (n₁₃ j) };
        empty = λ j. eqb (n₁₁ j) 0 && eqb (n₁₃ j) 0;
      }

  -- whatever is made of the records one by one is made of both alike
  each_same : {Y : Type 0} (G : ℕ → List (List ℕ) → Y) → ((i : ℕ) (r s : List ℕ) (rs ss : List (List ℕ)) → Same r s → G (suc i) rs ≡ G (suc i) ss → G i (r ∷ rs) ≡ G i (s ∷ ss)) → (i : ℕ) (rs ss : List (List ℕ)) → Each₂ Alike rs ss → G i rs ≡ G i ss
  each_same G step i [] [] a = refl
  each_same G step i [] (s ∷ ss) a = absurd a
  each_same G step i (r ∷ rs) [] a = absurd a
  each_same G step i (r ∷ rs) (s ∷ ss) a = step i r s rs ss (same r s a.0) (each_same G step (suc i) rs ss a.1)

-- Tables whose output records are alike so are written alike: the same answer and the same output.
pub alike_written : (h : Head) (t u : Tables) (source out : List ℕ) → held h t ≡ held h u → input_records h t ≡ input_records h u → Each₂ Alike (output_records h t) (output_records h u) → item_records h t ≡ item_records h u → writing h t source out ≡ writing h u source out
unfolding writing faults table_faults contents_of rule_faults all
alike_written h t u source out e i a n =
    let there = length source in
    let rs = output_records h t in
    let ss = output_records h u in
    let shown = each_same source h.flag (λ k l. map (output_of source) l) (λ k r s rs ss g q j. g.shown j ∷ q j) 0 rs ss a in
    let rules = each_same source h.flag (λ k l. rule_faults (output_rule h.flag there) k l) (λ k r s rs ss g q j. unless (g.rule j) 13 k also q j) 0 rs ss a in
    let witnesses = each_same source h.flag (λ k l. map (output_witness_of source) l) (λ k r s rs ss g q j. g.witness j ∷ q j) 0 rs ss a in
    let empty = each_same source h.flag (λ k l. all empty_output l) (λ k r s rs ss g q j. g.empty j && q j) 0 rs ss a in
    λ j.
    let c : Contents = record {
      version = h.version;
      inputs = map (input_of source) (i j);
      outputs = shown j;
      locktime = h.locktime;
      witnesses = cond (eqb h.flag 1) (some (record { inputs = map (input_witness_of source (map (item_of source) (n j))) (i j); outputs = witnesses j })) none;
    } in
    let bytes = contents_bytes c in
    let tf =
    unless (e j) 10 0
    also unless (leb h.flag 1) 7 4
    also input_faults h.flag there 0 0 (i j)
    also rules j
    also rule_faults (item_rule h.flag there) 0 (n j)
    also unless (eqb (sum record_items (i j)) h.items) 13 h.inputs
    also unless (not (eqb h.flag 1 && all empty_input (i j) && empty j)) 8 4 in
    let f = (tf also unless (leb (length bytes) limit) 2 0) also unless (leb (length bytes) (length out)) 14 0 in
    record { answer = verdict f (length bytes); output = touched f bytes out }

-- Which column of an output record is not read, by its numbers: the position of a null asset, of a null or explicit value, of a null nonce.
pub data Unread (number : ℕ → ℕ) (column : ℕ) : Type 0 where
  asset : column ≡ 1 → number 0 ≡ 0 → Unread number column
  value : column ≡ 3 → number 2 ≤ 1 → Unread number column
  nonce : column ≡ 7 → number 6 ≡ 0 → Unread number column

unread_column : (f : ℕ → ℕ) (c : ℕ) → Unread f c → c < 14
unread_column f c (asset e z) = omega arith
unread_column f c (value e z) = omega arith
unread_column f c (nonce e z) = omega arith

alike_self : (r : List ℕ) → Alike r r
alike_self r = record { numbers = λ k a b c. refl; asset = λ p. refl; value = λ p. refl; nonce = λ p. refl }

alike_set : (r : List ℕ) (c p : ℕ) → Unread (λ k. r ! k) c → Alike (set r c p) r
alike_set r c p (asset e z) =
    let o : (k : ℕ) → k ≢ c → set r c p ! k ≡ r ! k = λ k n. get_or-set_other r c k p 0 n in
    record { numbers = λ k a b d. o k (λ q. a (q ∙ e)); asset = λ q. absurd (omega arith); value = λ q. o 3 (λ u. omega arith); nonce = λ q. o 7 (λ u. omega arith) }
alike_set r c p (value e z) =
    let o : (k : ℕ) → k ≢ c → set r c p ! k ≡ r ! k = λ k n. get_or-set_other r c k p 0 n in
    record { numbers = λ k a b d. o k (λ q. b (q ∙ e)); asset = λ q. o 1 (λ u. omega arith); value = λ q. absurd (omega arith); nonce = λ q. o 7 (λ u. omega arith) }
alike_set r c p (nonce e z) =
    let o : (k : ℕ) → k ≢ c → set r c p ! k ≡ r ! k = λ k n. get_or-set_other r c k p 0 n in
    record { numbers = λ k a b d. o k (λ q. d (q ∙ e)); asset = λ q. o 1 (λ u. omega arith); value = λ q. o 3 (λ u. omega arith); nonce = λ q. absurd (omega arith) }

unread_same : (f g : ℕ → ℕ) (c : ℕ) → f 0 ≡ g 0 → f 2 ≡ g 2 → f 6 ≡ g 6 → Unread f c → Unread g c
unread_same f g c a b d (asset e z) = asset e (sym a ∙ z)
unread_same f g c a b d (value e z) = value e (omega arith)
unread_same f g c a b d (nonce e z) = nonce e (sym d ∙ z)

alike_selves : (rs : List (List ℕ)) → Each₂ Alike rs rs
alike_selves [] = tt
alike_selves (r ∷ rs) = (alike_self r, alike_selves rs)

alike_rows : (n i c p : ℕ) (xs : List ℕ) → Unread (λ k. get_or xs (14 * i + k) 0) c → Each₂ Alike (records 14 n (set xs (14 * i + c) p)) (records 14 n xs)
unfolding records
alike_rows zero i c p xs u = tt
alike_rows (suc n) zero c p xs u =
    let at : 14 * zero + c ≡ c = omega arith in
    let low = unread_column _ c u in
    let v = unread_same (λ k. get_or xs (14 * 0 + k) 0) (λ k. take 14 xs ! k) c (sym (get_or-take 14 xs 0 0 (omega arith))) (sym (get_or-take 14 xs 2 0 (omega arith))) (sym (get_or-take 14 xs 6 0 (omega arith))) u in
    subst (λ (m : ℕ). Each₂ Alike (records 14 (suc n) (set xs m p)) (records 14 (suc n) xs)) (sym at) (
      subst (λ (r : List ℕ). Alike r (take 14 xs)) (sym (take-set-lt 14 xs c p low)) (alike_set (take 14 xs) c p v),
      subst (λ (ys : List ℕ). Each₂ Alike (records 14 n ys) (records 14 n (drop 14 xs))) (sym (drop-set-lt 14 xs c p low)) (alike_selves (records 14 n (drop 14 xs))),
    )
alike_rows (suc n) (suc i) c p xs u =
    let at : 14 * suc i + c ≡ 14 + (14 * i + c) = omega arith in
    let later : (k : ℕ) → get_or xs (14 * suc i + k) 0 ≡ get_or (drop 14 xs) (14 * i + k) 0 = λ k. (let e : 14 * suc i + k ≡ 14 + (14 * i + k) = omega arith in ap (λ (m : ℕ). get_or xs m 0) e) ∙ sym (get_or-drop 14 xs (14 * i + k) 0) in
    let v = unread_same (λ k. get_or xs (14 * suc i + k) 0) (λ k. get_or (drop 14 xs) (14 * i + k) 0) c (later 0) (later 2) (later 6) u in
    subst (λ (m : ℕ). Each₂ Alike (records 14 (suc n) (set xs m p)) (records 14 (suc n) xs)) (sym at) (
      subst (λ (r : List ℕ). Alike r (take 14 xs)) (sym (take-set-le 14 xs (14 + (14 * i + c)) p (omega arith))) (alike_self (take 14 xs)),
      subst (λ (ys : List ℕ). Each₂ Alike (records 14 n ys) (records 14 n (drop 14 xs))) (sym (drop-set-add 14 xs (14 * i + c) p)) (alike_rows n i c p (drop 14 xs) v),
    )

-- Positions of null fields and of an output's explicit value are not read: any number there, in any output record, leaves answer and
-- output as they were.
pub position_not_read : (h : Head) (t : Tables) (source out : List ℕ) (i column position : ℕ) → Unread (λ k. get_or t.outputs (14 * i + k) 0) column → writing h (change output (λ xs. set xs (14 * i + column) position) t) source out ≡ writing h t source out
position_not_read h t source out i c p u =
    let long = length-set t.outputs (14 * i + c) p in
    alike_written h (change output (λ xs. set xs (14 * i + c) p) t) t source out (ap (λ (n : ℕ). leb h.inputs (length t.inputs / width input) && leb h.outputs (n / width output) && leb h.items (length t.items / width item)) long) refl (alike_rows h.outputs i c p t.outputs u) refl
