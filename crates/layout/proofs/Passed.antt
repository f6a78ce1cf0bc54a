-- What passes the writer's rules shows a transaction: record by record, by its numbers and the bytes at its positions.
use Prim.Native.Nat.{ℕ, ◌+◌, ◌/◌, ◌^◌, ◌<◌, ◌≤◌}
use mathlib.Core.Path.{◌≡◌, refl, sym, ◌∙◌, ap, ap₂, subst}
use mathlib.Core.Bool.{Bool, true, false, cond, ◌&&◌, ◌||◌}
use mathlib.Core.List.{List, [], ◌∷◌, ◌++◌, append_assoc, map}
use mathlib.Core.Option.{none, some}
use native.Mathlib.Nat.{add_assoc}
use native.Mathlib.Omega.{arith}
use lib.Dec.{leb, eqb}
use lib.ListN.{length, take, drop, length-map, take-append-drop, drop_of_length-le}
use lib.Seq.{drop-drop}
use borrow.Author.Tests.{leb-true, le-leb, eqb-true, eqb-false}
use Rattle.layout.specs.Number.{Bytes}
use Rattle.layout.specs.Layout.{input, output, item}
use Rattle.layout.specs.Transaction.{Head, asset_prefix, nonce_prefix}
use Rattle.layout.specs.Outcome.{Tables, width}
use Rattle.layout.specs.Contents.{value_bytes, Every}
use Rattle.layout.specs.Records.{items_of, sum, value_prefix, high, low, token_prefix}
use Rattle.layout.specs.Writing.{body, value_of, token_of, value_width, issuance_of, issues, input_of, output_of, item_of, input_witness_of, output_witness_of, input_records, output_records, item_records, witnesses_of, contents_of, ◌!◌, lies, value_rule, zeros₄, zeros₇, issuance_rule, input_witness_rule, token_rule, output_witness_rule, output_rule, item_rule, null_issuance, record_items}
use Rattle.layout.specs.Shows.{From, ValueFrom, TokenFrom, Zeros, IssuanceShown, MaybeIssuance, InputShown, OutputShown, InputWitnessShown, OutputWitnessShown, ItemShown, wire_items, Each, EachWitness, MaybeWitnesses, Shows}
use Rattle.layout.proofs.Reading.{by_cases}
use Rattle.layout.proofs.Parts.{commitment_prefix}
use Rattle.layout.proofs.Showing.{value_width_lem}
use Rattle.layout.proofs.Judging.{and_true}
use Rattle.layout.proofs.Accepted.{Words, records_words, records_length, or_split, body_long, width_of, commitment_above, InputPasses, InputsPass, input_parts, issuance_allowed, output_parts, WitnessParts, witness_parts, Counted, all_counted, output_witness_parts, Passed, tells}

-- ---- values, assets and nonces

module _ (source : List ℕ) where
  value_prefix_lem : (at p h l : ℕ) → value_prefix (value_of source at p h l) ≡ p
  unfolding value_of
  value_prefix_lem at p h l =
      by_cases (eqb p 0) (λ e. rw e (sym (eqb-true p 0 e)))
      (λ e₀. by_cases (eqb p 1) (λ e. rw (e₀, e) (sym (eqb-true p 1 e))) (λ e. rw (e₀, e) refl))

  -- not 1: high and low are 0
  halves_zero : (p h l : ℕ) → eqb p 1 ≡ false → value_rule p h l ≡ true → (h ≡ 0) × (l ≡ 0)
  unfolding value_rule
  halves_zero p h l e r =
      let rest : ((eqb p 0 || eqb p 8 || eqb p 9) && eqb h 0 && eqb l 0) ≡ true = subst (λ (b : Bool). (b || (eqb p 0 || eqb p 8 || eqb p 9) && eqb h 0 && eqb l 0) ≡ true) e r in
      let a = and_true ((eqb p 0 || eqb p 8 || eqb p 9) && eqb h 0) (eqb l 0) rest in
      (eqb-true h 0 (and_true (eqb p 0 || eqb p 8 || eqb p 9) (eqb h 0) a.0).1, eqb-true l 0 a.1)

  not_both : (p : ℕ) → eqb p 0 ≡ true → eqb p 1 ≡ false
  not_both p e = ap (λ (n : ℕ). eqb n 1) (eqb-true p 0 e)

  value_high_lem : (at p h l : ℕ) → l < 2 ^ 32 → value_rule p h l ≡ true → high (value_of source at p h l) ≡ h
  unfolding value_of
  value_high_lem at p h l hl r =
      by_cases (eqb p 0) (λ e. rw e (sym (halves_zero p h l (not_both p e) r).0))
      (λ e₀. by_cases (eqb p 1) (λ e. rw (e₀, e) (omega arith)) (λ e. rw (e₀, e) (sym (halves_zero p h l e r).0)))

  value_low_lem : (at p h l : ℕ) → l < 2 ^ 32 → value_rule p h l ≡ true → low (value_of source at p h l) ≡ l
  unfolding value_of
  value_low_lem at p h l hl r =
      by_cases (eqb p 0) (λ e. rw e (sym (halves_zero p h l (not_both p e) r).1))
      (λ e₀. by_cases (eqb p 1) (λ e. rw (e₀, e) (omega arith)) (λ e. rw (e₀, e) (sym (halves_zero p h l e r).1)))

  token_prefix_lem : (at p : ℕ) → token_prefix (token_of source at p) ≡ p
  unfolding token_of
  token_prefix_lem at p = by_cases (eqb p 0) (λ e. rw e (sym (eqb-true p 0 e))) (λ e. rw e refl)

zero_of : (r : List ℕ) (c : ℕ) → eqb (r ! c) 0 ≡ true → r ! c ≡ 0
zero_of r c e = eqb-true (r ! c) 0 e

-- four and seven numbers that are 0
record Zeros₄ (r : List ℕ) (c : ℕ) : Type 0 where
  a : r ! c ≡ 0
  b : r ! (c + 1) ≡ 0
  d : r ! (c + 2) ≡ 0
  e : r ! (c + 3) ≡ 0

zeros_four : (r : List ℕ) (c : ℕ) → zeros₄ r c ≡ true → Zeros₄ r c
zeros_four r c t =
    let p = and_true (eqb (r ! c) 0 && eqb (r ! (c + 1)) 0 && eqb (r ! (c + 2)) 0) (eqb (r ! (c + 3)) 0) t in
    let q = and_true (eqb (r ! c) 0 && eqb (r ! (c + 1)) 0) (eqb (r ! (c + 2)) 0) p.0 in
    let s = and_true (eqb (r ! c) 0) (eqb (r ! (c + 1)) 0) q.0 in
    record { a = zero_of r c s.0; b = zero_of r (c + 1) s.1; d = zero_of r (c + 2) q.1; e = zero_of r (c + 3) p.1 }

record Zeros₇ (r : List ℕ) (c : ℕ) : Type 0 where
  four : Zeros₄ r c
  f : r ! (c + 4) ≡ 0
  g : r ! (c + 5) ≡ 0
  h : r ! (c + 6) ≡ 0

zeros_seven : (r : List ℕ) (c : ℕ) → zeros₇ r c ≡ true → Zeros₇ r c
unfolding zeros₇
zeros_seven r c t =
    let p = and_true (zeros₄ r c && eqb (r ! (c + 4)) 0 && eqb (r ! (c + 5)) 0) (eqb (r ! (c + 6)) 0) t in
    let q = and_true (zeros₄ r c && eqb (r ! (c + 4)) 0) (eqb (r ! (c + 5)) 0) p.0 in
    let s = and_true (zeros₄ r c) (eqb (r ! (c + 4)) 0) q.0 in
    record { four = zeros_four r c s.0; f = zero_of r (c + 4) s.1; g = zero_of r (c + 5) q.1; h = zero_of r (c + 6) p.1 }

-- ---- records

module _ (source : List ℕ) (bs : Bytes source) where
  abbrev there : ℕ
  there = length source

  own_from : (at n : ℕ) → lies there at n ≡ true → From source at (body source at n)
  unfolding body
  own_from at n e =
      let long = body_long source bs at n e in
      record { same = ap (λ (m : ℕ). take m (drop at source)) long; within = omega (arith, leb-true (at + n) there e, long) }

  own_value : (at p h l : ℕ) → (commitment_prefix p ≡ true → at + 33 ≤ there) → value_rule p h l ≡ true → ValueFrom source at (value_of source at p h l)
  unfolding value_of value_rule
  own_value at p h l far r =
      by_cases (eqb p 0) (λ e. rw e tt)
      (λ e₀. by_cases (eqb p 1)
      (λ e. rw (e₀, e) tt)
      (λ e₁.
      let rest = or_split (eqb p 1) ((eqb p 0 || eqb p 8 || eqb p 9) && eqb h 0 && eqb l 0) e₁ r in
      let listed : (eqb p 0 || eqb p 8 || eqb p 9) ≡ true = (and_true _ _ (and_true _ _ rest).0).0 in
      let c : commitment_prefix p ≡ true = subst (λ (b : Bool). (b || eqb p 8 || eqb p 9) ≡ true) e₀ listed in
      rw (e₀, e₁) (own_from (at + 1) 32 (le-leb (at + 1 + 32) there (omega (arith, far c))))))

  own_token : (listed : ℕ → Bool) (at p : ℕ) → token_rule listed there at p ≡ true → TokenFrom source at (token_of source at p)
  unfolding token_of token_rule
  own_token listed at p r =
      by_cases (eqb p 0) (λ e. rw e tt)
      (λ e.
      let both = and_true (listed p) (lies there at 33) (or_split (eqb p 0) (listed p && lies there at 33) e r) in
      rw e (own_from (at + 1) 32 (le-leb (at + 1 + 32) there (omega (arith, leb-true (at + 33) there both.1)))))

  seven_zeros : (r : List ℕ) → zeros₇ r 6 ≡ true → Zeros r 6 7
  seven_zeros r e = let z = zeros_seven r 6 e in (z.four.a, (z.four.b, (z.four.d, (z.four.e, (z.f, (z.g, (z.h, tt)))))))

  witness_zeros : (r : List ℕ) → zeros₇ r 13 ≡ true → Zeros r 13 7
  witness_zeros r e = let z = zeros_seven r 13 e in (z.four.a, (z.four.b, (z.four.d, (z.four.e, (z.f, (z.g, (z.h, tt)))))))

  module _ (r : List ℕ) (w : Words r) where
    own_issuance : issues r ≡ true → issuance_rule there r ≡ true → null_issuance r ≡ false → IssuanceShown source r (issuance_of source r)
    unfolding issuance_rule
    own_issuance i e n =
        let rule = subst (λ (b : Bool). cond b (lies there (r ! 6 + 64 + value_width (r ! 7)) (value_width (r ! 10)) && value_rule (r ! 7) (r ! 8) (r ! 9) && value_rule (r ! 10) (r ! 11) (r ! 12)) (zeros₇ r 6) ≡ true) i e in
        let a = and_true _ _ rule in
        let b = and_true _ _ a.0 in
        let far : r ! 6 + 64 + value_width (r ! 7) + value_width (r ! 10) ≤ there = leb-true _ _ b.0 in
        let x = issuance_of source r in
        let g = issuance_allowed source bs r w i e n in
        let at₁ = r ! 6 + 64 in
        let at₂ = at₁ + value_width (r ! 7) in
        let p₁ = value_prefix_lem source at₁ (r ! 7) (r ! 8) (r ! 9) in
        let p₂ = value_prefix_lem source at₂ (r ! 10) (r ! 11) (r ! 12) in
        let w₁ : value_width (r ! 7) ≡ length (value_bytes x.amount) = ap (λ (p : ℕ). value_width p) (sym p₁) ∙ value_width_lem x.amount g.amount in
        let w₂ : value_width (r ! 10) ≡ length (value_bytes x.keys) = ap (λ (p : ℕ). value_width p) (sym p₂) ∙ value_width_lem x.keys g.keys in
        record {
          blinding_nonce = own_from (r ! 6) 32 (le-leb (r ! 6 + 32) there (omega arith));
          entropy = own_from (r ! 6 + 32) 32 (le-leb (r ! 6 + 32 + 32) there (omega arith));
          amount_prefix = sym p₁;
          amount_high = sym (value_high_lem source at₁ (r ! 7) (r ! 8) (r ! 9) (w 9) b.1);
          amount_low = sym (value_low_lem source at₁ (r ! 7) (r ! 8) (r ! 9) (w 9) b.1);
          amount = own_value at₁ (r ! 7) (r ! 8) (r ! 9) (λ c. omega (arith, width_of source bs (r ! 7) c)) b.1;
          keys_prefix = sym p₂;
          keys_high = sym (value_high_lem source at₂ (r ! 10) (r ! 11) (r ! 12) (w 12) a.1);
          keys_low = sym (value_low_lem source at₂ (r ! 10) (r ! 11) (r ! 12) (w 12) a.1);
          keys = subst (λ (m : ℕ). ValueFrom source (at₁ + m) x.keys) w₁ (own_value at₂ (r ! 10) (r ! 11) (r ! 12) (λ c. omega (arith, width_of source bs (r ! 10) c)) a.1);
          whole = omega arith;
        }

    own_issued : issuance_rule there r ≡ true → null_issuance r ≡ false → MaybeIssuance source r (cond (issues r) (some (issuance_of source r)) none)
    unfolding issuance_rule
    own_issued e n =
        by_cases (issues r)
        (λ i. subst (λ (b : Bool). MaybeIssuance source r (cond b (some (issuance_of source r)) none)) (sym i) (own_issuance i e n))
        (λ i.
        let z = subst (λ (b : Bool). cond b (lies there (r ! 6 + 64 + value_width (r ! 7)) (value_width (r ! 10)) && value_rule (r ! 7) (r ! 8) (r ! 9) && value_rule (r ! 10) (r ! 11) (r ! 12)) (zeros₇ r 6) ≡ true) i e in
        subst (λ (b : Bool). MaybeIssuance source r (cond b (some (issuance_of source r)) none)) (sym i) (seven_zeros r z))

    own_input : (flag first : ℕ) → InputPasses source bs flag first r → InputShown source r (input_of source r)
    unfolding input_of
    own_input flag first p =
        let q = input_parts source bs flag first r p.rule in
        let txid = body_long source bs (r ! 0) 32 q.txid in
        record {
          txid = own_from (r ! 0) 32 q.txid;
          vout = refl;
          flags = refl;
          script = own_from (r ! 3) (r ! 4) q.script;
          script_length = sym (body_long source bs (r ! 3) (r ! 4) q.script);
          sequence = refl;
          issuance = own_issued q.issuance p.some_value;
        }

    own_output : (flag : ℕ) → output_rule flag there r ≡ true → OutputShown source r (output_of source r)
    unfolding output_of
    own_output flag e =
        let q = output_parts source bs flag r e in
        record {
          asset_prefix = sym (token_prefix_lem source (r ! 1) (r ! 0));
          asset = own_token asset_prefix (r ! 1) (r ! 0) q.asset;
          value_prefix = sym (value_prefix_lem source (r ! 3) (r ! 2) (r ! 4) (r ! 5));
          value = own_value (r ! 3) (r ! 2) (r ! 4) (r ! 5) (λ c. leb-true _ _ (or_split (leb (r ! 2) 1) (lies there (r ! 3) 33) (commitment_above source bs (r ! 2) c) q.commitment_lies)) q.value;
          value_high = sym (value_high_lem source (r ! 3) (r ! 2) (r ! 4) (r ! 5) (w 5) q.value);
          value_low = sym (value_low_lem source (r ! 3) (r ! 2) (r ! 4) (r ! 5) (w 5) q.value);
          nonce_prefix = sym (token_prefix_lem source (r ! 7) (r ! 6));
          nonce = own_token nonce_prefix (r ! 7) (r ! 6) q.nonce;
          script = own_from (r ! 8) (r ! 9) q.script;
          script_length = sym (body_long source bs (r ! 8) (r ! 9) q.script);
        }

  own_inputs : (flag first : ℕ) (rs : List (List ℕ)) → Every Words rs → InputsPass source bs flag first rs → Each (InputShown source) rs (map (input_of source) rs)
  own_inputs flag first [] w p = tt
  own_inputs flag first (r ∷ rs) w p = (own_input r w.0 flag first p.0, own_inputs flag (first + record_items r) rs w.1 p.1)

  own_outputs : (flag : ℕ) (rs : List (List ℕ)) → Every Words rs → Every (λ r. output_rule flag there r ≡ true) rs → Each (OutputShown source) rs (map (output_of source) rs)
  own_outputs flag [] w p = tt
  own_outputs flag (r ∷ rs) w p = (own_output r w.0 flag p.0, own_outputs flag rs w.1 p.1)

  own_witness : (items : List (List ℕ)) (first : ℕ) (r : List ℕ) → WitnessParts source bs first r → Counted source bs items r → InputWitnessShown source first r (input_witness_of source items r)
  unfolding input_witness_of
  own_witness items first r p c =
      record {
        amount_proof = own_from (r ! 13) (r ! 14) p.amount_proof;
        amount_proof_length = sym c.amount_proof;
        keys_proof = own_from (r ! 15) (r ! 16) p.keys_proof;
        keys_proof_length = sym c.keys_proof;
        first_item = p.first_index;
        script_items = sym c.script;
        pegin_items = sym c.pegin;
      }

  own_witnesses : (items : List (List ℕ)) (first : ℕ) (rs : List (List ℕ)) → InputsPass source bs 1 first rs → Every (Counted source bs items) rs → EachWitness source first rs (map (input_witness_of source items) rs)
  own_witnesses items first [] p c = tt
  own_witnesses items first (r ∷ rs) p c =
      let counts : items_of (input_witness_of source items r) ≡ record_items r = ap₂ (λ (a b : ℕ). a + b) c.0.script c.0.pegin in (
        own_witness items first r (witness_parts source bs first r (input_parts source bs 1 first r p.0.rule).witness) c.0,
        subst (λ (n : ℕ). EachWitness source (first + n) rs (map (input_witness_of source items) rs)) (sym counts) (own_witnesses items (first + record_items r) rs p.1 c.1),
      )

  own_output_witnesses : (rs : List (List ℕ)) → Every (λ r. output_rule 1 there r ≡ true) rs → Each (OutputWitnessShown source) rs (map (output_witness_of source) rs)
  unfolding output_witness_of
  own_output_witnesses [] p = tt
  own_output_witnesses (r ∷ rs) p =
      let q = output_witness_parts source bs r (output_parts source bs 1 r p.0).witness in (
        record {
          surjection_proof = own_from (r ! 10) (r ! 11) q.0;
          surjection_proof_length = sym (body_long source bs (r ! 10) (r ! 11) q.0);
          range_proof = own_from (r ! 12) (r ! 13) q.1;
          range_proof_length = sym (body_long source bs (r ! 12) (r ! 13) q.1);
        },
        own_output_witnesses rs p.1,
      )

  own_items : (rs : List (List ℕ)) → Every (λ r. item_rule 1 there r ≡ true) rs → Each (ItemShown source) rs (map (item_of source) rs)
  unfolding item_rule item_of
  own_items [] p = tt
  own_items (r ∷ rs) p = (record { body = own_from (r ! 0) (r ! 1) p.0; body_length = sym (body_long source bs (r ! 0) (r ! 1) p.0) }, own_items rs p.1)

  no_witnesses : (first : ℕ) (rs : List (List ℕ)) → InputsPass source bs 0 first rs → Every (λ r. Zeros r 13 7) rs
  unfolding input_witness_rule
  no_witnesses first [] p = tt
  no_witnesses first (r ∷ rs) p = (witness_zeros r (input_parts source bs 0 first r p.0.rule).witness, no_witnesses (first + record_items r) rs p.1)

  no_output_witnesses : (rs : List (List ℕ)) → Every (λ r. output_rule 0 there r ≡ true) rs → Every (λ r. Zeros r 10 4) rs
  unfolding output_witness_rule
  no_output_witnesses [] p = tt
  no_output_witnesses (r ∷ rs) p = let z = zeros_four r 10 (output_parts source bs 0 r p.0).witness in ((z.a, (z.b, (z.d, (z.e, tt)))), no_output_witnesses rs p.1)

  -- the stacks, one behind the other, are all items from the first index on
  stacks_all : (items rs : List (List ℕ)) (first : ℕ) → InputsPass source bs 1 first rs → first + sum record_items rs ≡ length items → wire_items (map (input_witness_of source items) rs) ≡ drop first items
  unfolding wire_items sum input_witness_of
  stacks_all items [] first p e = let all_gone : length items ≤ first = omega arith in sym (drop_of_length-le items all_gone)
  stacks_all items (r ∷ rs) first p e =
      let i = (witness_parts source bs first r (input_parts source bs 1 first r p.0.rule).witness).first_index in
      let a = r ! 18 in
      let b = r ! 19 in
      let rest = stacks_all items rs (first + record_items r) p.1 (omega arith) in
      let next : drop (first + (a + b)) items ≡ drop b (drop (first + a) items) = ap (λ (n : ℕ). drop n items) (sym (add_assoc first a b)) ∙ sym (drop-drop b (first + a) items) in
      (λ j. (take a (drop (i j) items) ++ take b (drop (i j + a) items)) ++ rest j)
      ∙ append_assoc (take a (drop first items)) (take b (drop (first + a) items)) (drop (first + (a + b)) items)
      ∙ ap (λ (l : List (List ℕ)). take a (drop first items) ++ (take b (drop (first + a) items) ++ l)) next
      ∙ ap (λ (l : List (List ℕ)). take a (drop first items) ++ l) (take-append-drop b (drop (first + a) items) ∙ sym (drop-drop a first items))
      ∙ take-append-drop a (drop first items)

  module _ (h : Head) (t : Tables) (p : Passed source bs h t) where
    abbrev its : List (List ℕ)
    its = map (item_of source) (item_records h t)

    its_length : length its ≡ h.items
    its_length = length-map (item_records h t) (item_of source) ∙ records_length 2 h.items t.items

    own_maybe : MaybeWitnesses h t source (cond (eqb h.flag 1) (some (witnesses_of h t source)) none)
    own_maybe =
        by_cases (eqb h.flag 1)
        (λ e.
        let one = eqb-true h.flag 1 e in
        let q = subst (λ (f : ℕ). InputsPass source bs f 0 (input_records h t)) one p.inputs in
        let o = subst (λ (f : ℕ). Every (λ r. output_rule f there r ≡ true) (output_records h t)) one p.outputs in
        let i = subst (λ (f : ℕ). Every (λ r. item_rule f there r ≡ true) (item_records h t)) one p.items in
        let whole : 0 + sum record_items (input_records h t) ≡ length its = omega (arith, p.added, its_length) in
        let c = all_counted source bs its 0 (input_records h t) q (omega arith) in
        let stacks : wire_items (map (input_witness_of source its) (input_records h t)) ≡ its = stacks_all its (input_records h t) 0 q whole in
        subst (λ (b : Bool). MaybeWitnesses h t source (cond b (some (witnesses_of h t source)) none)) (sym e) (record {
          inputs = own_witnesses its 0 (input_records h t) q c;
          outputs = own_output_witnesses (output_records h t) o;
          items = subst (λ (l : List (List ℕ)). Each (ItemShown source) (item_records h t) l) (sym stacks) (own_items (item_records h t) i);
        }))
        (λ e.
        let zeroth : h.flag ≡ 0 = omega (arith, eqb-false h.flag 1 e, p.flag) in
        let q = subst (λ (f : ℕ). InputsPass source bs f 0 (input_records h t)) zeroth p.inputs in
        let o = subst (λ (f : ℕ). Every (λ r. output_rule f there r ≡ true) (output_records h t)) zeroth p.outputs in
        subst (λ (b : Bool). MaybeWitnesses h t source (cond b (some (witnesses_of h t source)) none)) (sym e) (record { inputs = no_witnesses 0 (input_records h t) q; outputs = no_output_witnesses (output_records h t) o }))

    pub passed_shows : Words t.inputs → Words t.outputs → Shows h t source (contents_of h t source)
    unfolding contents_of
    passed_shows wi wo =
        let s = tells source bs h t p in
        let a = and_true (leb h.inputs (length t.inputs / width input) && leb h.outputs (length t.outputs / width output)) (leb h.items (length t.items / width item)) p.held_all in
        let b = and_true (leb h.inputs (length t.inputs / width input)) (leb h.outputs (length t.outputs / width output)) a.0 in
        let l₁ = leb-true h.inputs (length t.inputs / 20) b.0 in
        let l₂ = leb-true h.outputs (length t.outputs / 14) b.1 in
        let l₃ = leb-true h.items (length t.items / 2) a.1 in
        record {
          version = s.version;
          flag = s.flag;
          inputs = s.inputs;
          outputs = s.outputs;
          items = s.items;
          locktime = s.locktime;
          inputs_held = omega arith;
          outputs_held = omega arith;
          items_held = omega arith;
          input_records = own_inputs h.flag 0 (input_records h t) (records_words 20 h.inputs t.inputs wi) p.inputs;
          output_records = own_outputs h.flag (output_records h t) (records_words 14 h.outputs t.outputs wo) p.outputs;
          witness_records = own_maybe;
        }
