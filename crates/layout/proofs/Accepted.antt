-- What the writer refuses nothing of is an allowed transaction.
use Prim.Native.Nat.{ℕ, zero, suc, ◌+◌, ◌^◌, ◌<◌, ◌≤◌}
use mathlib.Core.Path.{◌≡◌, refl, sym, ◌∙◌, ap, ap₂, subst}
use mathlib.Core.Bool.{Bool, true, false, cond, not, ◌&&◌, ◌||◌}
use mathlib.Core.List.{List, [], ◌∷◌, map}
use mathlib.Core.Option.{none, some}
use native.Mathlib.Omega.{arith}
use lib.Dec.{leb, eqb}
use lib.ListN.{length, take, drop, get_or, length-drop, length-map}
use lib.Seq.{length-take-le, get_or-drop}
use borrow.Author.Tests.{leb-true, leb-false, le-leb, eqb-true, eqb-false}
use Rattle.layout.specs.Number.{Bytes}
use Rattle.layout.specs.Transaction.{Head, asset_prefix, nonce_prefix}
use Rattle.layout.specs.Outcome.{Tables}
use Rattle.layout.specs.Contents.{Contents, flag_of, Every, Fixed, ValueAllowed, TokenAllowed, is_null, IssuanceAllowed, confused, Flagged, InputAllowed, OutputAllowed, InputWitnessAllowed, OutputWitnessAllowed, input_empty, output_empty, all, WitnessesAllowed, MaybeAllowed}
use Rattle.layout.specs.Records.{items_of, sum, item_count}
use Rattle.layout.specs.Writing.{records, body, value_of, token_of, value_width, issuance_of, issues, input_of, output_of, item_of, input_witness_of, output_witness_of, input_records, output_records, item_records, witnesses_of, contents_of, passes, ◌also◌, unless, ◌!◌, lies, value_rule, zeros₄, zeros₇, issuance_rule, input_witness_rule, input_rule, token_rule, output_witness_rule, output_rule, item_rule, null_issuance, input_fault, record_items, input_faults, empty_input, empty_output, held, table_faults}
use Rattle.layout.proofs.Number.{bytes_take, bytes_drop}
use Rattle.layout.proofs.Reading.{by_cases}
use Rattle.layout.proofs.Outpoint.{true_not_false}
use Rattle.layout.proofs.Parts.{commitment_prefix}
use Rattle.layout.proofs.Showing.{Parts}
use Rattle.layout.proofs.Judging.{and_true, also_split, unless_true, pass_rules}

-- every number of a lent table is a u32
abbrev pub Words : List ℕ → Type 0
Words xs = (i : ℕ) → get_or xs i 0 < 2 ^ 32

words_drop : (n : ℕ) (xs : List ℕ) → Words xs → Words (drop n xs)
words_drop n xs h i = rw (get_or-drop n xs i 0) (h (n + i))

words_take : (n : ℕ) (xs : List ℕ) → Words xs → Words (take n xs)
words_take zero xs h i = omega arith
words_take (suc n) [] h i = omega arith
words_take (suc n) (x ∷ xs) h zero = h zero
words_take (suc n) (x ∷ xs) h (suc i) = words_take n xs (λ j. h (suc j)) i

pub records_words : (w n : ℕ) (xs : List ℕ) → Words xs → Every Words (records w n xs)
unfolding records
records_words w zero xs h = tt
records_words w (suc n) xs h = (words_take w xs h, records_words w n (drop w xs) (words_drop w xs h))

pub records_length : (w n : ℕ) (xs : List ℕ) → length (records w n xs) ≡ n
unfolding records
records_length w zero xs = refl
records_length w (suc n) xs = ap suc (records_length w n (drop w xs))

not-true : (b : Bool) → not b ≡ true → b ≡ false
not-true true e = absurd (true_not_false (sym e))
not-true false e = refl

pub or_split : (a b : Bool) → a ≡ false → (a || b) ≡ true → b ≡ true
or_split true b f e = absurd (true_not_false f)
or_split false b f e = e

zero_same : {n m : ℕ} → n ≡ m → eqb n 0 ≡ eqb m 0
zero_same e = ap (λ (n : ℕ). eqb n 0) e

-- ---- bodies

module _ (source : List ℕ) (bs : Bytes source) where
  abbrev there : ℕ
  there = length source

  pub body_long : (at n : ℕ) → lies there at n ≡ true → length (body source at n) ≡ n
  unfolding body
  body_long at n e = length-take-le n (drop at source) (omega (arith, leb-true (at + n) there e, length-drop at source))

  body_bytes_lem : (at n : ℕ) → Bytes (body source at n)
  unfolding body
  body_bytes_lem at n = bytes_take n (drop at source) (bytes_drop at source bs)

  part : (at n : ℕ) → at + n ≤ there → Fixed n (body source at n)
  part at n h = record { long = body_long at n (le-leb (at + n) there h); bytes = body_bytes_lem at n }

  -- ---- values, assets and nonces

  value_allowed : (at p h l : ℕ) → h < 2 ^ 32 → l < 2 ^ 32 → value_rule p h l ≡ true → (commitment_prefix p ≡ true → at + 33 ≤ there) → ValueAllowed (value_of source at p h l)
  unfolding value_of value_rule
  value_allowed at p h l hh hl r far =
      by_cases (eqb p 0) (λ e. rw e tt)
      (λ e₀. by_cases (eqb p 1)
      (λ e. rw (e₀, e) (omega arith))
      (λ e₁.
      let rest = or_split (eqb p 1) ((eqb p 0 || eqb p 8 || eqb p 9) && eqb h 0 && eqb l 0) e₁ r in
      let listed : (eqb p 0 || eqb p 8 || eqb p 9) ≡ true = (and_true _ _ (and_true _ _ rest).0).0 in
      let c : commitment_prefix p ≡ true = subst (λ (b : Bool). (b || eqb p 8 || eqb p 9) ≡ true) e₀ listed in
      rw (e₀, e₁) (c, part (at + 1) 32 (omega (arith, far c)))))

  null_of : (at p h l : ℕ) → is_null (value_of source at p h l) ≡ eqb p 0
  unfolding value_of
  null_of at p h l = by_cases (eqb p 0) (λ e. rw e refl) (λ e₀. by_cases (eqb p 1) (λ e. rw (e₀, e) refl) (λ e. rw (e₀, e) refl))

  token_allowed : (listed : ℕ → Bool) (at p : ℕ) → token_rule listed there at p ≡ true → TokenAllowed listed (token_of source at p)
  unfolding token_of token_rule
  token_allowed listed at p r =
      by_cases (eqb p 0) (λ e. rw e tt)
      (λ e.
      let both = and_true _ _ (or_split (eqb p 0) (listed p && lies there at 33) e r) in
      rw e (both.0, part (at + 1) 32 (omega (arith, leb-true (at + 33) there both.1))))

  -- a commitment's width is 33
  pub width_of : (p : ℕ) → commitment_prefix p ≡ true → value_width p ≡ 33
  width_of p e =
      by_cases (eqb p 0) (λ t. absurd (true_not_false (sym e ∙ ap commitment_prefix (eqb-true p 0 t))))
      (λ t₀. by_cases (eqb p 1) (λ t. absurd (true_not_false (sym e ∙ ap commitment_prefix (eqb-true p 1 t)))) (λ t. rw (t₀, t) refl))

  -- ---- inputs

  pub record InputPasses (flag first : ℕ) (r : List ℕ) : Type 0 where
    pub rule : input_rule flag there first r ≡ true
    pub outpoint : confused (r ! 1) (r ! 2) ≡ false
    pub some_value : null_issuance r ≡ false

  abbrev pub InputsPass : ℕ → ℕ → List (List ℕ) → Type 0
  InputsPass flag first [] = Unit {0}
  InputsPass flag first (r ∷ rs) = InputPasses flag first r × InputsPass flag (first + record_items r) rs

  pub inputs_passed : (flag first i : ℕ) (rs : List (List ℕ)) → input_faults flag there first i rs ≡ passes → InputsPass flag first rs
  unfolding input_faults input_fault
  inputs_passed flag first i [] e = tt
  inputs_passed flag first i (r ∷ rs) e =
      let p = also_split (input_fault flag there first i r) (input_faults flag there (first + record_items r) (suc i) rs) e in
      let a = also_split (unless (input_rule flag there first r) 13 i) (unless (not (confused (r ! 1) (r ! 2))) 12 i also unless (not (null_issuance r)) 6 i) p.0 in
      let b = also_split (unless (not (confused (r ! 1) (r ! 2))) 12 i) (unless (not (null_issuance r)) 6 i) a.1 in (
        record {
          rule = unless_true (input_rule flag there first r) 13 i a.0;
          outpoint = not-true (confused (r ! 1) (r ! 2)) (unless_true (not (confused (r ! 1) (r ! 2))) 12 i b.0);
          some_value = not-true (null_issuance r) (unless_true (not (null_issuance r)) 6 i b.1);
        },
        inputs_passed flag (first + record_items r) (suc i) rs p.1,
      )

  -- the parts of the rule
  pub record InputParts (flag first : ℕ) (r : List ℕ) : Type 0 where
    pub txid : lies there (r ! 0) 32 ≡ true
    pub flags : leb (r ! 2) 3 ≡ true
    pub script : lies there (r ! 3) (r ! 4) ≡ true
    pub issuance : issuance_rule there r ≡ true
    pub witness : input_witness_rule flag there first r ≡ true

  pub input_parts : (flag first : ℕ) (r : List ℕ) → input_rule flag there first r ≡ true → InputParts flag first r
  unfolding input_rule
  input_parts flag first r e =
      let a = and_true _ _ e in
      let b = and_true _ _ a.0 in
      let c = and_true _ _ b.0 in
      let d = and_true _ _ c.0 in
      record { txid = d.0; flags = d.1; script = c.1; issuance = b.1; witness = a.1 }

  pub issuance_allowed : (r : List ℕ) → Words r → issues r ≡ true → issuance_rule there r ≡ true → null_issuance r ≡ false → IssuanceAllowed (issuance_of source r)
  unfolding issuance_rule
  issuance_allowed r w i e n =
      let rule = subst (λ (b : Bool). cond b (lies there (r ! 6 + 64 + value_width (r ! 7)) (value_width (r ! 10)) && value_rule (r ! 7) (r ! 8) (r ! 9) && value_rule (r ! 10) (r ! 11) (r ! 12)) (zeros₇ r 6) ≡ true) i e in
      let a = and_true _ _ rule in
      let b = and_true _ _ a.0 in
      let far : r ! 6 + 64 + value_width (r ! 7) + value_width (r ! 10) ≤ there = leb-true _ _ b.0 in
      let null_values : (eqb (r ! 7) 0 && eqb (r ! 10) 0) ≡ false = subst (λ (t : Bool). (t && eqb (r ! 7) 0 && eqb (r ! 10) 0) ≡ false) i n in
      record {
        blinding_nonce = part (r ! 6) 32 (omega arith);
        entropy = part (r ! 6 + 32) 32 (omega arith);
        amount = value_allowed (r ! 6 + 64) (r ! 7) (r ! 8) (r ! 9) (w 8) (w 9) b.1 (λ c. omega (arith, width_of (r ! 7) c));
        keys = value_allowed (r ! 6 + 64 + value_width (r ! 7)) (r ! 10) (r ! 11) (r ! 12) (w 11) (w 12) a.1 (λ c. omega (arith, width_of (r ! 10) c));
        not_null = ap₂ ◌&&◌ (null_of (r ! 6 + 64) (r ! 7) (r ! 8) (r ! 9)) (null_of (r ! 6 + 64 + value_width (r ! 7)) (r ! 10) (r ! 11) (r ! 12)) ∙ null_values;
      }

  input_flagged : (r : List ℕ) → Words r → leb (r ! 2) 3 ≡ true → issuance_rule there r ≡ true → null_issuance r ≡ false → Flagged (r ! 2) (cond (issues r) (some (issuance_of source r)) none)
  input_flagged r w f e n =
      by_cases (issues r)
      (λ i. rw i (leb-true 2 (r ! 2) i, leb-true (r ! 2) 3 f, issuance_allowed r w i e n))
      (λ i. rw i (omega (arith, leb-false 2 (r ! 2) i)))

  input_allowed : (flag first : ℕ) (r : List ℕ) → Words r → InputPasses flag first r → InputAllowed (input_of source r)
  unfolding input_of
  input_allowed flag first r w p =
      let q = input_parts flag first r p.rule in
      record {
        txid = part (r ! 0) 32 (leb-true _ _ q.txid);
        outpoint = p.outpoint;
        script = body_bytes_lem (r ! 3) (r ! 4);
        sequence = w 5;
        issuance = input_flagged r w q.flags q.issuance p.some_value;
      }

  pub inputs_allowed_lem : (flag first : ℕ) (rs : List (List ℕ)) → Every Words rs → InputsPass flag first rs → Every InputAllowed (map (input_of source) rs)
  inputs_allowed_lem flag first [] w p = tt
  inputs_allowed_lem flag first (r ∷ rs) w p = (input_allowed flag first r w.0 p.0, inputs_allowed_lem flag (first + record_items r) rs w.1 p.1)

  -- ---- outputs

  pub record OutputParts (flag : ℕ) (r : List ℕ) : Type 0 where
    pub asset : token_rule asset_prefix there (r ! 1) (r ! 0) ≡ true
    pub value : value_rule (r ! 2) (r ! 4) (r ! 5) ≡ true
    pub commitment_lies : (leb (r ! 2) 1 || lies there (r ! 3) 33) ≡ true
    pub nonce : token_rule nonce_prefix there (r ! 7) (r ! 6) ≡ true
    pub script : lies there (r ! 8) (r ! 9) ≡ true
    pub witness : output_witness_rule flag there r ≡ true

  pub output_parts : (flag : ℕ) (r : List ℕ) → output_rule flag there r ≡ true → OutputParts flag r
  unfolding output_rule
  output_parts flag r e =
      let a = and_true _ _ e in
      let b = and_true _ _ a.0 in
      let c = and_true _ _ b.0 in
      let d = and_true _ _ c.0 in
      let f = and_true _ _ d.0 in
      record { asset = f.0; value = f.1; commitment_lies = d.1; nonce = c.1; script = b.1; witness = a.1 }

  pub commitment_above : (p : ℕ) → commitment_prefix p ≡ true → leb p 1 ≡ false
  commitment_above p e =
      by_cases (leb p 1)
      (λ t. by_cases (eqb p 0) (λ q. absurd (true_not_false (sym e ∙ ap commitment_prefix (eqb-true p 0 q)))) (λ q. let one : p ≡ 1 = omega (arith, leb-true p 1 t, eqb-false p 0 q) in absurd (true_not_false (sym e ∙ ap commitment_prefix one))))
      (λ t. t)

  output_allowed : (flag : ℕ) (r : List ℕ) → Words r → output_rule flag there r ≡ true → OutputAllowed (output_of source r)
  unfolding output_of
  output_allowed flag r w e =
      let q = output_parts flag r e in
      record {
        asset = token_allowed asset_prefix (r ! 1) (r ! 0) q.asset;
        value = value_allowed (r ! 3) (r ! 2) (r ! 4) (r ! 5) (w 4) (w 5) q.value (λ c. leb-true _ _ (or_split (leb (r ! 2) 1) (lies there (r ! 3) 33) (commitment_above (r ! 2) c) q.commitment_lies));
        nonce = token_allowed nonce_prefix (r ! 7) (r ! 6) q.nonce;
        script = body_bytes_lem (r ! 8) (r ! 9);
      }

  pub outputs_allowed_lem : (flag : ℕ) (rs : List (List ℕ)) → Every Words rs → Every (λ r. output_rule flag there r ≡ true) rs → Every OutputAllowed (map (output_of source) rs)
  outputs_allowed_lem flag [] w p = tt
  outputs_allowed_lem flag (r ∷ rs) w p = (output_allowed flag r w.0 p.0, outputs_allowed_lem flag rs w.1 p.1)

  -- ---- witnesses

  pub record WitnessParts (first : ℕ) (r : List ℕ) : Type 0 where
    pub amount_proof : lies there (r ! 13) (r ! 14) ≡ true
    pub keys_proof : lies there (r ! 15) (r ! 16) ≡ true
    pub first_index : r ! 17 ≡ first

  pub witness_parts : (first : ℕ) (r : List ℕ) → input_witness_rule 1 there first r ≡ true → WitnessParts first r
  unfolding input_witness_rule
  witness_parts first r e =
      let a = and_true _ _ e in
      let b = and_true _ _ a.0 in
      record { amount_proof = b.0; keys_proof = b.1; first_index = eqb-true (r ! 17) first a.1 }

  module _ (items : List (List ℕ)) where
    -- a record's witness has the lengths and counts that stand in the record
    pub record Counted (r : List ℕ) : Type 0 where
      pub amount_proof : length (input_witness_of source items r).amount_proof ≡ r ! 14
      pub keys_proof : length (input_witness_of source items r).keys_proof ≡ r ! 16
      pub script : length (input_witness_of source items r).script_items ≡ r ! 18
      pub pegin : length (input_witness_of source items r).pegin_items ≡ r ! 19

    counted : (first : ℕ) (r : List ℕ) → WitnessParts first r → first + record_items r ≤ length items → Counted r
    unfolding input_witness_of
    counted first r p h =
        let e = p.first_index in
        record {
          amount_proof = body_long (r ! 13) (r ! 14) p.amount_proof;
          keys_proof = body_long (r ! 15) (r ! 16) p.keys_proof;
          script = length-take-le (r ! 18) (drop (r ! 17) items) (omega (arith, length-drop (r ! 17) items));
          pegin = length-take-le (r ! 19) (drop (r ! 17 + r ! 18) items) (omega (arith, length-drop (r ! 17 + r ! 18) items));
        }

    pub all_counted : (first : ℕ) (rs : List (List ℕ)) → InputsPass 1 first rs → first + sum record_items rs ≤ length items → Every Counted rs
    unfolding sum
    all_counted first [] p h = tt
    all_counted first (r ∷ rs) p h = (
      counted first r (witness_parts first r (input_parts 1 first r p.0.rule).witness) (omega arith),
      all_counted (first + record_items r) rs p.1 (omega arith),
    )

    empty_same : (rs : List (List ℕ)) → Every Counted rs → all input_empty (map (input_witness_of source items) rs) ≡ all empty_input rs
    unfolding all
    empty_same [] c = refl
    empty_same (r ∷ rs) c =
        ap₂ ◌&&◌ (ap₂ ◌&&◌ (ap₂ ◌&&◌ (ap₂ ◌&&◌ (zero_same c.0.amount_proof) (zero_same c.0.keys_proof)) (zero_same c.0.script)) (zero_same c.0.pegin)) (empty_same rs c.1)

    pub items_same : (rs : List (List ℕ)) → Every Counted rs → sum items_of (map (input_witness_of source items) rs) ≡ sum record_items rs
    unfolding sum
    items_same [] c = refl
    items_same (r ∷ rs) c = ap₂ (λ (a b : ℕ). a + b) (ap₂ (λ (a b : ℕ). a + b) c.0.script c.0.pegin) (items_same rs c.1)

    every_take : (n : ℕ) (xs : List (List ℕ)) → Every Bytes xs → Every Bytes (take n xs)
    every_take zero xs g = tt
    every_take (suc n) [] g = tt
    every_take (suc n) (x ∷ xs) g = (g.0, every_take n xs g.1)

    every_drop : (n : ℕ) (xs : List (List ℕ)) → Every Bytes xs → Every Bytes (drop n xs)
    every_drop zero xs g = g
    every_drop (suc n) [] g = tt
    every_drop (suc n) (x ∷ xs) g = every_drop n xs g.1

    witnesses_allowed : Every Bytes items → (rs : List (List ℕ)) → Every InputWitnessAllowed (map (input_witness_of source items) rs)
    unfolding input_witness_of
    witnesses_allowed g [] = tt
    witnesses_allowed g (r ∷ rs) = (
      record {
        amount_proof = body_bytes_lem (r ! 13) (r ! 14);
        keys_proof = body_bytes_lem (r ! 15) (r ! 16);
        script_items = every_take (r ! 18) (drop (r ! 17) items) (every_drop (r ! 17) items g);
        pegin_items = every_take (r ! 19) (drop (r ! 17 + r ! 18) items) (every_drop (r ! 17 + r ! 18) items g);
      },
      witnesses_allowed g rs,
    )

  output_witnesses_allowed : (rs : List (List ℕ)) → Every OutputWitnessAllowed (map (output_witness_of source) rs)
  unfolding output_witness_of
  output_witnesses_allowed [] = tt
  output_witnesses_allowed (r ∷ rs) = (record { surjection_proof = body_bytes_lem (r ! 10) (r ! 11); range_proof = body_bytes_lem (r ! 12) (r ! 13) }, output_witnesses_allowed rs)

  pub output_witness_parts : (r : List ℕ) → output_witness_rule 1 there r ≡ true → (lies there (r ! 10) (r ! 11) ≡ true) × (lies there (r ! 12) (r ! 13) ≡ true)
  unfolding output_witness_rule
  output_witness_parts r e = and_true _ _ e

  output_empty_same : (rs : List (List ℕ)) → Every (λ r. output_rule 1 there r ≡ true) rs → all output_empty (map (output_witness_of source) rs) ≡ all empty_output rs
  unfolding all output_witness_of
  output_empty_same [] c = refl
  output_empty_same (r ∷ rs) c =
      let p = output_witness_parts r (output_parts 1 r c.0).witness in
      ap₂ ◌&&◌ (ap₂ ◌&&◌ (zero_same (body_long (r ! 10) (r ! 11) p.0)) (zero_same (body_long (r ! 12) (r ! 13) p.1))) (output_empty_same rs c.1)

  item_bodies : (rs : List (List ℕ)) → Every Bytes (map (item_of source) rs)
  unfolding item_of
  item_bodies [] = tt
  item_bodies (r ∷ rs) = (body_bytes_lem (r ! 0) (r ! 1), item_bodies rs)

  -- ---- the whole

  -- what passes, rule by rule
  pub record Passed (h : Head) (t : Tables) : Type 0 where
    pub flag : h.flag ≤ 1
    pub inputs : InputsPass h.flag 0 (input_records h t)
    pub outputs : Every (λ r. output_rule h.flag there r ≡ true) (output_records h t)
    pub items : Every (λ r. item_rule h.flag there r ≡ true) (item_records h t)
    pub added : sum record_items (input_records h t) ≡ h.items
    pub some_witness : (eqb h.flag 1 && all empty_input (input_records h t) && all empty_output (output_records h t)) ≡ false
    pub held_all : held h t ≡ true

  pub passed : (h : Head) (t : Tables) → table_faults h t there ≡ passes → Passed h t
  unfolding table_faults
  passed h t e =
      let a = also_split _ _ e in
      let b = also_split _ _ a.1 in
      let c = also_split _ _ b.1 in
      let d = also_split _ _ c.1 in
      let f = also_split _ _ d.1 in
      let g = also_split _ _ f.1 in
      record {
        flag = leb-true h.flag 1 (unless_true _ 7 4 b.0);
        inputs = inputs_passed h.flag 0 0 (input_records h t) c.0;
        outputs = pass_rules (output_rule h.flag there) (output_records h t) 0 d.0;
        items = pass_rules (item_rule h.flag there) (item_records h t) 0 f.0;
        added = eqb-true _ _ (unless_true _ 13 h.inputs g.0);
        some_witness = not-true _ (unless_true _ 8 4 g.1);
        held_all = unless_true _ 10 0 a.0;
      }

  pub record Tells (h : Head) (x : Contents) : Type 0 where
    pub version : h.version ≡ x.version
    pub flag : h.flag ≡ flag_of x.witnesses
    pub inputs : h.inputs ≡ length x.inputs
    pub outputs : h.outputs ≡ length x.outputs
    pub items : h.items ≡ item_count x.witnesses
    pub locktime : h.locktime ≡ x.locktime

  module _ (h : Head) (t : Tables) (p : Passed h t) where
    abbrev all_items : List (List ℕ)
    all_items = map (item_of source) (item_records h t)

    items_length : length all_items ≡ h.items
    items_length = length-map (item_records h t) (item_of source) ∙ records_length 2 h.items t.items

    inputs_length : {X : Type 0} (f : List ℕ → X) → length (map f (input_records h t)) ≡ h.inputs
    inputs_length f = length-map (input_records h t) f ∙ records_length 20 h.inputs t.inputs

    outputs_length : {X : Type 0} (f : List ℕ → X) → length (map f (output_records h t)) ≡ h.outputs
    outputs_length f = length-map (output_records h t) f ∙ records_length 14 h.outputs t.outputs

    all_records : eqb h.flag 1 ≡ true → Every (Counted all_items) (input_records h t)
    all_records e =
        all_counted all_items 0 (input_records h t)
        (subst (λ (f : ℕ). InputsPass f 0 (input_records h t)) (eqb-true h.flag 1 e) p.inputs)
        (omega (arith, p.added, items_length))

    witnesses_formed : eqb h.flag 1 ≡ true → WitnessesAllowed h.inputs h.outputs (witnesses_of h t source)
    witnesses_formed e =
        record {
          inputs = inputs_length (input_witness_of source all_items);
          outputs = outputs_length (output_witness_of source);
          inputs_allowed = witnesses_allowed all_items (item_bodies (item_records h t)) (input_records h t);
          outputs_allowed = output_witnesses_allowed (output_records h t);
          not_empty =
              ap₂ ◌&&◌ (empty_same all_items (input_records h t) (all_records e)) (output_empty_same (output_records h t) (subst (λ (f : ℕ). Every (λ r. output_rule f there r ≡ true) (output_records h t)) (eqb-true h.flag 1 e) p.outputs))
              ∙ subst (λ (b : Bool). (b && all empty_input (input_records h t) && all empty_output (output_records h t)) ≡ false) e p.some_witness;
        }

    -- with flag 0 no record has items
    pub no_items : (first : ℕ) (rs : List (List ℕ)) → InputsPass 0 first rs → sum record_items rs ≡ 0
    unfolding sum input_witness_rule zeros₇
    no_items first [] q = refl
    no_items first (r ∷ rs) q =
        let z = (input_parts 0 first r q.0.rule).witness in
        let a = and_true (zeros₄ r 13 && eqb (r ! 17) 0 && eqb (r ! 18) 0) (eqb (r ! 19) 0) z in
        let b = and_true (zeros₄ r 13 && eqb (r ! 17) 0) (eqb (r ! 18) 0) a.0 in
        omega (arith, eqb-true (r ! 19) 0 a.1, eqb-true (r ! 18) 0 b.1, no_items (first + record_items r) rs q.1)

    maybe_formed : MaybeAllowed h.inputs h.outputs (cond (eqb h.flag 1) (some (witnesses_of h t source)) none)
    maybe_formed = by_cases (eqb h.flag 1) (λ e. rw e (witnesses_formed e)) (λ e. rw e tt)

    flag_told : h.flag ≡ flag_of (cond (eqb h.flag 1) (some (witnesses_of h t source)) none)
    flag_told =
        by_cases (eqb h.flag 1)
        (λ e. eqb-true h.flag 1 e ∙ sym (ap (λ (b : Bool). flag_of (cond b (some (witnesses_of h t source)) none)) e))
        (λ e. let zeroth : h.flag ≡ 0 = omega (arith, eqb-false h.flag 1 e, p.flag) in zeroth ∙ sym (ap (λ (b : Bool). flag_of (cond b (some (witnesses_of h t source)) none)) e))

    items_told : h.items ≡ item_count (cond (eqb h.flag 1) (some (witnesses_of h t source)) none)
    items_told =
        by_cases (eqb h.flag 1)
        (λ e. sym p.added ∙ sym (items_same all_items (input_records h t) (all_records e)) ∙ sym (ap (λ (b : Bool). item_count (cond b (some (witnesses_of h t source)) none)) e))
        (λ e.
        let zeroth : h.flag ≡ 0 = omega (arith, eqb-false h.flag 1 e, p.flag) in
        sym p.added ∙ no_items 0 (input_records h t) (subst (λ (f : ℕ). InputsPass f 0 (input_records h t)) zeroth p.inputs) ∙ sym (ap (λ (b : Bool). item_count (cond b (some (witnesses_of h t source)) none)) e))

    pub tells : Tells h (contents_of h t source)
    unfolding contents_of
    tells = record { version = refl; flag = flag_told; inputs = sym (inputs_length (input_of source)); outputs = sym (outputs_length (output_of source)); items = items_told; locktime = refl }

    pub parts_allowed : Words t.inputs → Words t.outputs → Parts source (contents_of h t source)
    unfolding contents_of
    parts_allowed wi wo =
        record {
          inputs = inputs_allowed_lem h.flag 0 (input_records h t) (records_words 20 h.inputs t.inputs wi) p.inputs;
          outputs = outputs_allowed_lem h.flag (output_records h t) (records_words 14 h.outputs t.outputs wo) p.outputs;
          witnesses = subst (λ (n : ℕ). MaybeAllowed n (length (map (output_of source) (output_records h t))) (cond (eqb h.flag 1) (some (witnesses_of h t source)) none)) (sym (inputs_length (input_of source))) (subst (λ (n : ℕ). MaybeAllowed h.inputs n (cond (eqb h.flag 1) (some (witnesses_of h t source)) none)) (sym (outputs_length (output_of source))) maybe_formed);
        }
