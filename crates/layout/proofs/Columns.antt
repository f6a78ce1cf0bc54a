-- Two tables that show one transaction, each over its own source: record for record, the numbers agree in all but positions, and each body
-- shows equal bytes.
use Prim.Native.Nat.{ℕ, zero, suc, ◌+◌, ◌*◌, ◌<◌, ◌≤◌}
use mathlib.Core.Path.{◌≡◌, refl, sym, ◌∙◌, ap, subst}
use mathlib.Core.Bool.{Bool, true}
use mathlib.Core.List.{List, [], ◌∷◌}
use mathlib.Core.Option.{Option, none, some}
use native.Mathlib.Nat.{add_comm, mul-zero, mul-suc}
use native.Mathlib.Omega.{arith}
use lib.ListN.{length, take, drop}
use lib.Seq.{drop-drop}
use Rattle.layout.specs.Transaction.{Head, asset_prefix, nonce_prefix}
use Rattle.layout.specs.Outcome.{Tables}
use Rattle.layout.specs.Contents.{Value, null, explicit, commitment, Token, absent, present, Issuance, Input, Output, InputWitness, OutputWitness, Witnesses, Contents, value_bytes, Every, ValueAllowed, TokenAllowed, Flagged, InputAllowed, OutputAllowed}
use Rattle.layout.specs.Records.{items_of, item_count, value_prefix, token_prefix}
use Rattle.layout.specs.Writing.{◌!◌, input_records, output_records, item_records, records}
use Rattle.layout.specs.Shows.{From, ValueFrom, TokenFrom, Zeros, MaybeIssuance, InputShown, OutputShown, InputWitnessShown, OutputWitnessShown, ItemShown, wire_items, Each, EachWitness, MaybeWitnesses, Shows}
use Rattle.layout.proofs.Outpoint.{true_not_false}
use Rattle.layout.proofs.Number.{length_bytes}
use Rattle.layout.proofs.Parts.{commitment_prefix}
use Rattle.layout.proofs.Showing.{Parts}
use Rattle.layout.proofs.Accepted.{records_length}

-- The numbers of an input record that are no positions.
pub record InputAgrees (r s : List ℕ) : Type 0 where
  pub vout : r ! 1 ≡ s ! 1
  pub flags : r ! 2 ≡ s ! 2
  pub script_length : r ! 4 ≡ s ! 4
  pub sequence : r ! 5 ≡ s ! 5
  pub amount_prefix : r ! 7 ≡ s ! 7
  pub amount_high : r ! 8 ≡ s ! 8
  pub amount_low : r ! 9 ≡ s ! 9
  pub keys_prefix : r ! 10 ≡ s ! 10
  pub keys_high : r ! 11 ≡ s ! 11
  pub keys_low : r ! 12 ≡ s ! 12
  pub amount_proof_length : r ! 14 ≡ s ! 14
  pub keys_proof_length : r ! 16 ≡ s ! 16
  pub first_item : r ! 17 ≡ s ! 17
  pub script_items : r ! 18 ≡ s ! 18
  pub pegin_items : r ! 19 ≡ s ! 19

pub record OutputAgrees (r s : List ℕ) : Type 0 where
  pub asset_prefix : r ! 0 ≡ s ! 0
  pub value_prefix : r ! 2 ≡ s ! 2
  pub value_high : r ! 4 ≡ s ! 4
  pub value_low : r ! 5 ≡ s ! 5
  pub nonce_prefix : r ! 6 ≡ s ! 6
  pub script_length : r ! 9 ≡ s ! 9
  pub surjection_proof_length : r ! 11 ≡ s ! 11
  pub range_proof_length : r ! 13 ≡ s ! 13

-- record for record
abbrev pub Each₂ : (List ℕ → List ℕ → Type 0) → List (List ℕ) → List (List ℕ) → Type 0
Each₂ P [] [] = Unit {0}
Each₂ P [] (s ∷ ss) = ⊥
Each₂ P (r ∷ rs) [] = ⊥
Each₂ P (r ∷ rs) (s ∷ ss) = P r s × Each₂ P rs ss

-- Two tables of these counts agree in all but positions.
pub record RecordsAgree (h : Head) (t u : Tables) : Type 0 where
  pub inputs : Each₂ InputAgrees (input_records h t) (input_records h u)
  pub outputs : Each₂ OutputAgrees (output_records h t) (output_records h u)
  pub items : Each₂ (λ r s. r ! 1 ≡ s ! 1) (item_records h t) (item_records h u)

-- ---- bodies, by plain take and drop, so that nothing but the columns is believed

abbrev pub at : List ℕ → ℕ → ℕ → List ℕ
at source p n = take n (drop p source)

-- the amount's 1, 9 or 33 bytes, by its prefix
abbrev pub amount_width : ℕ → ℕ
amount_width zero = 1
amount_width (suc zero) = 9
amount_width (suc (suc n)) = 33

-- The four of an issuance where its flag is there; a commitment's where the prefix is one's. In an issuance, amount starts 64 after its
-- position and keys after the amount.
pub record InputBodies (source back r s : List ℕ) : Type 0 where
  pub txid : at source (r ! 0) 32 ≡ at back (s ! 0) 32
  pub script : at source (r ! 3) (r ! 4) ≡ at back (s ! 3) (s ! 4)
  pub blinding_nonce : 2 ≤ r ! 2 → at source (r ! 6) 32 ≡ at back (s ! 6) 32
  pub entropy : 2 ≤ r ! 2 → at source (r ! 6 + 32) 32 ≡ at back (s ! 6 + 32) 32
  pub amount : 2 ≤ r ! 2 → 2 ≤ r ! 7 → at source (r ! 6 + 64 + 1) 32 ≡ at back (s ! 6 + 64 + 1) 32
  pub keys : 2 ≤ r ! 2 → 2 ≤ r ! 10 → at source (r ! 6 + 64 + amount_width (r ! 7) + 1) 32 ≡ at back (s ! 6 + 64 + amount_width (s ! 7) + 1) 32
  pub amount_proof : at source (r ! 13) (r ! 14) ≡ at back (s ! 13) (s ! 14)
  pub keys_proof : at source (r ! 15) (r ! 16) ≡ at back (s ! 15) (s ! 16)

pub record OutputBodies (source back r s : List ℕ) : Type 0 where
  pub asset : 1 ≤ r ! 0 → at source (r ! 1 + 1) 32 ≡ at back (s ! 1 + 1) 32
  pub value : 2 ≤ r ! 2 → at source (r ! 3 + 1) 32 ≡ at back (s ! 3 + 1) 32
  pub nonce : 1 ≤ r ! 6 → at source (r ! 7 + 1) 32 ≡ at back (s ! 7 + 1) 32
  pub script : at source (r ! 8) (r ! 9) ≡ at back (s ! 8) (s ! 9)
  pub surjection_proof : at source (r ! 10) (r ! 11) ≡ at back (s ! 10) (s ! 11)
  pub range_proof : at source (r ! 12) (r ! 13) ≡ at back (s ! 12) (s ! 13)

-- script items and pegin items, one behind the other
pub record ItemBody (source back r s : List ℕ) : Type 0 where
  pub body : at source (r ! 0) (r ! 1) ≡ at back (s ! 0) (s ! 1)

-- Each body by the columns of two tables, over its own source each: of record i, so many numbers wide.
abbrev pub record_at : ℕ → List ℕ → ℕ → List ℕ
record_at w xs i = take w (drop (w * i) xs)

pub record BodiesSame (h : Head) (t u : Tables) (source back : List ℕ) : Type 0 where
  pub inputs : (i : ℕ) → i < h.inputs → InputBodies source back (record_at 20 t.inputs i) (record_at 20 u.inputs i)
  pub outputs : (i : ℕ) → i < h.outputs → OutputBodies source back (record_at 14 t.outputs i) (record_at 14 u.outputs i)
  pub items : (i : ℕ) → i < h.items → ItemBody source back (record_at 2 t.items i) (record_at 2 u.items i)

-- what holds record for record holds at each number
pub at_each : (P : List ℕ → List ℕ → Type 0) (w n : ℕ) (xs ys : List ℕ) → Each₂ P (records w n xs) (records w n ys) → (i : ℕ) → i < n → P (record_at w xs i) (record_at w ys i)
unfolding records
at_each P w zero xs ys e i l = absurd (omega arith)
at_each P w (suc n) xs ys e zero l = let front : 0 ≡ w * 0 = sym (mul-zero w) in subst (λ (m : ℕ). P (take w (drop m xs)) (take w (drop m ys))) front e.0
at_each P w (suc n) xs ys e (suc i) l =
    let at : w + w * i ≡ w * suc i = add_comm w (w * i) ∙ sym (mul-suc w i) in
    let moved : (zs : List ℕ) → take w (drop (w * i) (drop w zs)) ≡ take w (drop (w * suc i) zs) = λ zs. ap (take w) (drop-drop (w * i) w zs ∙ ap (λ (m : ℕ). drop m zs) at) in
    let p = at_each P w n (drop w xs) (drop w ys) e.1 i (omega arith) in
    subst (λ (r : List ℕ). P r (record_at w ys (suc i))) (moved xs) (subst (λ (r : List ℕ). P (take w (drop (w * i) (drop w xs))) r) (moved ys) p)

module _ (source back : List ℕ) where
  -- one body from both
  same_body : (p q n m : ℕ) (xs : List ℕ) → From source p xs → From back q xs → n ≡ length xs → m ≡ length xs → at source p n ≡ at back q m
  same_body p q n m xs a b e f = (λ j. at source p (e j)) ∙ a.same ∙ sym ((λ j. at back q (f j)) ∙ b.same)

  none_of : (p q n m : ℕ) → n ≡ 0 → m ≡ 0 → at source p n ≡ at back q m
  none_of p q n m e f = (λ j. at source p (e j)) ∙ sym (λ j. at back q (f j))

  same_value : (p q : ℕ) (v : Value) → ValueAllowed v → ValueFrom source p v → ValueFrom back q v → 2 ≤ value_prefix v → at source (p + 1) 32 ≡ at back (q + 1) 32
  same_value p q null g a b l = absurd (omega arith)
  same_value p q (explicit v) g a b l = absurd (omega arith)
  same_value p q (commitment c part) g a b l = same_body (p + 1) (q + 1) 32 32 part a b (sym g.1.long) (sym g.1.long)

  same_token : (listed : ℕ → Bool) (p q : ℕ) (t : Token) → TokenAllowed listed t → TokenFrom source p t → TokenFrom back q t → 1 ≤ token_prefix t → at source (p + 1) 32 ≡ at back (q + 1) 32
  same_token listed p q absent g a b l = absurd (omega arith)
  same_token listed p q (present c part) g a b l = same_body (p + 1) (q + 1) 32 32 part a b (sym g.1.long) (sym g.1.long)

  amount_width_lem : (v : Value) → ValueAllowed v → amount_width (value_prefix v) ≡ length (value_bytes v)
  unfolding value_bytes
  amount_width_lem null g = refl
  amount_width_lem (explicit v) g = sym (ap suc (length_bytes _ 8 v))
  amount_width_lem (commitment p part) g = listed_width p g.0 ∙ sym (ap suc g.1.long)
    where
      listed_width : (p : ℕ) → commitment_prefix p ≡ true → amount_width p ≡ 33
      listed_width zero e = absurd (true_not_false (sym e))
      listed_width (suc zero) e = absurd (true_not_false (sym e))
      listed_width (suc (suc n)) e = refl

  -- ---- one record of each

  record IssuanceTwo (r s : List ℕ) : Type 0 where
    amount_prefix : r ! 7 ≡ s ! 7
    amount_high : r ! 8 ≡ s ! 8
    amount_low : r ! 9 ≡ s ! 9
    keys_prefix : r ! 10 ≡ s ! 10
    keys_high : r ! 11 ≡ s ! 11
    keys_low : r ! 12 ≡ s ! 12
    blinding_nonce : 2 ≤ r ! 2 → at source (r ! 6) 32 ≡ at back (s ! 6) 32
    entropy : 2 ≤ r ! 2 → at source (r ! 6 + 32) 32 ≡ at back (s ! 6 + 32) 32
    amount : 2 ≤ r ! 2 → 2 ≤ r ! 7 → at source (r ! 6 + 64 + 1) 32 ≡ at back (s ! 6 + 64 + 1) 32
    keys : 2 ≤ r ! 2 → 2 ≤ r ! 10 → at source (r ! 6 + 64 + amount_width (r ! 7) + 1) 32 ≡ at back (s ! 6 + 64 + amount_width (s ! 7) + 1) 32

  issuance_two : (flags : ℕ) (o : Option Issuance) → Flagged flags o → (r s : List ℕ) → r ! 2 ≡ flags → MaybeIssuance source r o → MaybeIssuance back s o → IssuanceTwo r s
  issuance_two flags none g r s e a b =
      record {
        amount_prefix = a.1.0 ∙ sym b.1.0;
        amount_high = a.1.1.0 ∙ sym b.1.1.0;
        amount_low = a.1.1.1.0 ∙ sym b.1.1.1.0;
        keys_prefix = a.1.1.1.1.0 ∙ sym b.1.1.1.1.0;
        keys_high = a.1.1.1.1.1.0 ∙ sym b.1.1.1.1.1.0;
        keys_low = a.1.1.1.1.1.1.0 ∙ sym b.1.1.1.1.1.1.0;
        blinding_nonce = λ l. absurd (omega arith);
        entropy = λ l. absurd (omega arith);
        amount = λ l. absurd (omega arith);
        keys = λ l. absurd (omega arith);
      }
  issuance_two flags (some x) g r s e a b =
      let w = amount_width_lem x.amount g.2.amount in
      let p : r ! 6 + 64 + amount_width (r ! 7) ≡ r ! 6 + 64 + length (value_bytes x.amount) = ap (λ (n : ℕ). r ! 6 + 64 + n) (ap amount_width a.amount_prefix ∙ w) in
      let q : s ! 6 + 64 + amount_width (s ! 7) ≡ s ! 6 + 64 + length (value_bytes x.amount) = ap (λ (n : ℕ). s ! 6 + 64 + n) (ap amount_width b.amount_prefix ∙ w) in
      record {
        amount_prefix = a.amount_prefix ∙ sym b.amount_prefix;
        amount_high = a.amount_high ∙ sym b.amount_high;
        amount_low = a.amount_low ∙ sym b.amount_low;
        keys_prefix = a.keys_prefix ∙ sym b.keys_prefix;
        keys_high = a.keys_high ∙ sym b.keys_high;
        keys_low = a.keys_low ∙ sym b.keys_low;
        blinding_nonce = λ l. same_body (r ! 6) (s ! 6) 32 32 x.blinding_nonce a.blinding_nonce b.blinding_nonce (sym g.2.blinding_nonce.long) (sym g.2.blinding_nonce.long);
        entropy = λ l. same_body (r ! 6 + 32) (s ! 6 + 32) 32 32 x.entropy a.entropy b.entropy (sym g.2.entropy.long) (sym g.2.entropy.long);
        amount = λ l m. same_value (r ! 6 + 64) (s ! 6 + 64) x.amount g.2.amount a.amount b.amount (omega (arith, a.amount_prefix));
        keys = λ l m.
            same_value (r ! 6 + 64 + amount_width (r ! 7)) (s ! 6 + 64 + amount_width (s ! 7)) x.keys g.2.keys
            (subst (λ (n : ℕ). ValueFrom source n x.keys) (sym p) a.keys) (subst (λ (n : ℕ). ValueFrom back n x.keys) (sym q) b.keys) (omega (arith, a.keys_prefix));
      }

  record WitnessTwo (r s : List ℕ) : Type 0 where
    amount_proof_length : r ! 14 ≡ s ! 14
    keys_proof_length : r ! 16 ≡ s ! 16
    first_item : r ! 17 ≡ s ! 17
    script_items : r ! 18 ≡ s ! 18
    pegin_items : r ! 19 ≡ s ! 19
    amount_proof : at source (r ! 13) (r ! 14) ≡ at back (s ! 13) (s ! 14)
    keys_proof : at source (r ! 15) (r ! 16) ≡ at back (s ! 15) (s ! 16)

  witness_two : (first : ℕ) (r s : List ℕ) (x : InputWitness) → InputWitnessShown source first r x → InputWitnessShown back first s x → WitnessTwo r s
  witness_two first r s x a b =
      record {
        amount_proof_length = a.amount_proof_length ∙ sym b.amount_proof_length;
        keys_proof_length = a.keys_proof_length ∙ sym b.keys_proof_length;
        first_item = a.first_item ∙ sym b.first_item;
        script_items = a.script_items ∙ sym b.script_items;
        pegin_items = a.pegin_items ∙ sym b.pegin_items;
        amount_proof = same_body (r ! 13) (s ! 13) (r ! 14) (s ! 14) x.amount_proof a.amount_proof b.amount_proof a.amount_proof_length b.amount_proof_length;
        keys_proof = same_body (r ! 15) (s ! 15) (r ! 16) (s ! 16) x.keys_proof a.keys_proof b.keys_proof a.keys_proof_length b.keys_proof_length;
      }

  no_witness_two : (r s : List ℕ) → Zeros r 13 7 → Zeros s 13 7 → WitnessTwo r s
  no_witness_two r s a b =
      record {
        amount_proof_length = a.1.0 ∙ sym b.1.0;
        keys_proof_length = a.1.1.1.0 ∙ sym b.1.1.1.0;
        first_item = a.1.1.1.1.0 ∙ sym b.1.1.1.1.0;
        script_items = a.1.1.1.1.1.0 ∙ sym b.1.1.1.1.1.0;
        pegin_items = a.1.1.1.1.1.1.0 ∙ sym b.1.1.1.1.1.1.0;
        amount_proof = none_of (r ! 13) (s ! 13) (r ! 14) (s ! 14) a.1.0 b.1.0;
        keys_proof = none_of (r ! 15) (s ! 15) (r ! 16) (s ! 16) a.1.1.1.0 b.1.1.1.0;
      }

  input_two : (r s : List ℕ) (x : Input) → InputAllowed x → InputShown source r x → InputShown back s x → WitnessTwo r s → InputAgrees r s × InputBodies source back r s
  input_two r s x g a b w =
      let i = issuance_two x.flags x.issuance g.issuance r s a.flags a.issuance b.issuance in (
        record {
          vout = a.vout ∙ sym b.vout;
          flags = a.flags ∙ sym b.flags;
          script_length = a.script_length ∙ sym b.script_length;
          sequence = a.sequence ∙ sym b.sequence;
          amount_prefix = i.amount_prefix;
          amount_high = i.amount_high;
          amount_low = i.amount_low;
          keys_prefix = i.keys_prefix;
          keys_high = i.keys_high;
          keys_low = i.keys_low;
          amount_proof_length = w.amount_proof_length;
          keys_proof_length = w.keys_proof_length;
          first_item = w.first_item;
          script_items = w.script_items;
          pegin_items = w.pegin_items;
        },
        record {
          txid = same_body (r ! 0) (s ! 0) 32 32 x.txid a.txid b.txid (sym g.txid.long) (sym g.txid.long);
          script = same_body (r ! 3) (s ! 3) (r ! 4) (s ! 4) x.script a.script b.script a.script_length b.script_length;
          blinding_nonce = i.blinding_nonce;
          entropy = i.entropy;
          amount = i.amount;
          keys = i.keys;
          amount_proof = w.amount_proof;
          keys_proof = w.keys_proof;
        },
      )

  record OutputWitnessTwo (r s : List ℕ) : Type 0 where
    surjection_proof_length : r ! 11 ≡ s ! 11
    range_proof_length : r ! 13 ≡ s ! 13
    surjection_proof : at source (r ! 10) (r ! 11) ≡ at back (s ! 10) (s ! 11)
    range_proof : at source (r ! 12) (r ! 13) ≡ at back (s ! 12) (s ! 13)

  output_witness_two : (r s : List ℕ) (x : OutputWitness) → OutputWitnessShown source r x → OutputWitnessShown back s x → OutputWitnessTwo r s
  output_witness_two r s x a b =
      record {
        surjection_proof_length = a.surjection_proof_length ∙ sym b.surjection_proof_length;
        range_proof_length = a.range_proof_length ∙ sym b.range_proof_length;
        surjection_proof = same_body (r ! 10) (s ! 10) (r ! 11) (s ! 11) x.surjection_proof a.surjection_proof b.surjection_proof a.surjection_proof_length b.surjection_proof_length;
        range_proof = same_body (r ! 12) (s ! 12) (r ! 13) (s ! 13) x.range_proof a.range_proof b.range_proof a.range_proof_length b.range_proof_length;
      }

  no_output_witness_two : (r s : List ℕ) → Zeros r 10 4 → Zeros s 10 4 → OutputWitnessTwo r s
  no_output_witness_two r s a b =
      record {
        surjection_proof_length = a.1.0 ∙ sym b.1.0;
        range_proof_length = a.1.1.1.0 ∙ sym b.1.1.1.0;
        surjection_proof = none_of (r ! 10) (s ! 10) (r ! 11) (s ! 11) a.1.0 b.1.0;
        range_proof = none_of (r ! 12) (s ! 12) (r ! 13) (s ! 13) a.1.1.1.0 b.1.1.1.0;
      }

  output_two : (r s : List ℕ) (x : Output) → OutputAllowed x → OutputShown source r x → OutputShown back s x → OutputWitnessTwo r s → OutputAgrees r s × OutputBodies source back r s
  output_two r s x g a b w = (
    record {
      asset_prefix = a.asset_prefix ∙ sym b.asset_prefix;
      value_prefix = a.value_prefix ∙ sym b.value_prefix;
      value_high = a.value_high ∙ sym b.value_high;
      value_low = a.value_low ∙ sym b.value_low;
      nonce_prefix = a.nonce_prefix ∙ sym b.nonce_prefix;
      script_length = a.script_length ∙ sym b.script_length;
      surjection_proof_length = w.surjection_proof_length;
      range_proof_length = w.range_proof_length;
    },
    record {
      asset = λ l. same_token asset_prefix (r ! 1) (s ! 1) x.asset g.asset a.asset b.asset (omega (arith, a.asset_prefix));
      value = λ l. same_value (r ! 3) (s ! 3) x.value g.value a.value b.value (omega (arith, a.value_prefix));
      nonce = λ l. same_token nonce_prefix (r ! 7) (s ! 7) x.nonce g.nonce a.nonce b.nonce (omega (arith, a.nonce_prefix));
      script = same_body (r ! 8) (s ! 8) (r ! 9) (s ! 9) x.script a.script b.script a.script_length b.script_length;
      surjection_proof = w.surjection_proof;
      range_proof = w.range_proof;
    },
  )

  -- ---- lists of records

  -- two of one thing
  each_two : {X : Type 0} (P Q : List ℕ → X → Type 0) (R : List ℕ → List ℕ → Type 0) → ((r s : List ℕ) (x : X) → P r x → Q s x → R r s) → (rs ss : List (List ℕ)) (xs : List X) → Each P rs xs → Each Q ss xs → Each₂ R rs ss
  each_two P Q R one [] [] xs a b = tt
  each_two P Q R one [] (s ∷ ss) [] a b = absurd b
  each_two P Q R one [] (s ∷ ss) (x ∷ xs) a b = absurd a
  each_two P Q R one (r ∷ rs) [] [] a b = absurd a
  each_two P Q R one (r ∷ rs) [] (x ∷ xs) a b = absurd b
  each_two P Q R one (r ∷ rs) (s ∷ ss) [] a b = absurd a
  each_two P Q R one (r ∷ rs) (s ∷ ss) (x ∷ xs) a b = (one r s x a.0 b.0, each_two P Q R one rs ss xs a.1 b.1)

  -- beside what is known of both already
  each_more : {X : Type 0} (Good : X → Type 0) (P Q : List ℕ → X → Type 0) (W R : List ℕ → List ℕ → Type 0) → ((r s : List ℕ) (x : X) → Good x → P r x → Q s x → W r s → R r s) → (rs ss : List (List ℕ)) (xs : List X) → Every Good xs → Each P rs xs → Each Q ss xs → Each₂ W rs ss → Each₂ R rs ss
  each_more Good P Q W R one [] [] xs g a b w = tt
  each_more Good P Q W R one [] (s ∷ ss) xs g a b w = absurd w
  each_more Good P Q W R one (r ∷ rs) [] xs g a b w = absurd w
  each_more Good P Q W R one (r ∷ rs) (s ∷ ss) [] g a b w = absurd a
  each_more Good P Q W R one (r ∷ rs) (s ∷ ss) (x ∷ xs) g a b w = (one r s x g.0 a.0 b.0 w.0, each_more Good P Q W R one rs ss xs g.1 a.1 b.1 w.1)

  each_every : (Z : List ℕ → Type 0) (R : List ℕ → List ℕ → Type 0) → ((r s : List ℕ) → Z r → Z s → R r s) → (rs ss : List (List ℕ)) → length rs ≡ length ss → Every Z rs → Every Z ss → Each₂ R rs ss
  each_every Z R one [] [] e a b = tt
  each_every Z R one [] (s ∷ ss) e a b = absurd (omega arith)
  each_every Z R one (r ∷ rs) [] e a b = absurd (omega arith)
  each_every Z R one (r ∷ rs) (s ∷ ss) e a b = (one r s a.0 b.0, each_every Z R one rs ss (omega arith) a.1 b.1)

  each_so : (P Q : List ℕ → List ℕ → Type 0) → ((r s : List ℕ) → P r s → Q r s) → (rs ss : List (List ℕ)) → Each₂ P rs ss → Each₂ Q rs ss
  each_so P Q f [] [] e = tt
  each_so P Q f [] (s ∷ ss) e = e
  each_so P Q f (r ∷ rs) [] e = e
  each_so P Q f (r ∷ rs) (s ∷ ss) e = (f r s e.0, each_so P Q f rs ss e.1)

  witnesses_two : (first : ℕ) (rs ss : List (List ℕ)) (xs : List InputWitness) → EachWitness source first rs xs → EachWitness back first ss xs → Each₂ WitnessTwo rs ss
  witnesses_two first [] [] xs a b = tt
  witnesses_two first [] (s ∷ ss) [] a b = absurd b
  witnesses_two first [] (s ∷ ss) (x ∷ xs) a b = absurd a
  witnesses_two first (r ∷ rs) [] [] a b = absurd a
  witnesses_two first (r ∷ rs) [] (x ∷ xs) a b = absurd b
  witnesses_two first (r ∷ rs) (s ∷ ss) [] a b = absurd a
  witnesses_two first (r ∷ rs) (s ∷ ss) (x ∷ xs) a b = (witness_two first r s x a.0 b.0, witnesses_two (first + items_of x) rs ss xs a.1 b.1)

-- ---- the whole

module _ (x : Contents) (h h' : Head) (t t' : Tables) (source back : List ℕ) (g : Parts source x) (a : Shows h t source x) (b : Shows h' t' back x) where
  same_length : (w n m : ℕ) (xs ys : List ℕ) → n ≡ m → length (records w n xs) ≡ length (records w m ys)
  same_length w n m xs ys e = records_length w n xs ∙ e ∙ sym (records_length w m ys)

  -- the item records, which are none without witnesses
  abbrev Items : Type 0
  Items = Each₂ (λ r s. (r ! 1 ≡ s ! 1) × ItemBody source back r s) (item_records h t) (item_records h' t')

  none_two : (n m : ℕ) (xs ys : List ℕ) → n ≡ 0 → m ≡ 0 → (R : List ℕ → List ℕ → Type 0) → Each₂ R (records 2 n xs) (records 2 m ys)
  unfolding records
  none_two n m xs ys e f R = subst (λ (k : ℕ). Each₂ R (records 2 k xs) (records 2 m ys)) (sym e) (subst (λ (k : ℕ). Each₂ R [] (records 2 k ys)) (sym f) tt)

  witnesses_both : (o : Option Witnesses) → h.items ≡ item_count o → h'.items ≡ item_count o → MaybeWitnesses h t source o → MaybeWitnesses h' t' back o → Each₂ (WitnessTwo source back) (input_records h t) (input_records h' t') × Each₂ (OutputWitnessTwo source back) (output_records h t) (output_records h' t') × Items
  witnesses_both none e f p q = (
    each_every source back (λ r. Zeros r 13 7) (WitnessTwo source back) (no_witness_two source back) (input_records h t) (input_records h' t') (same_length 20 h.inputs h'.inputs t.inputs t'.inputs (a.inputs ∙ sym b.inputs)) p.inputs q.inputs,
    each_every source back (λ r. Zeros r 10 4) (OutputWitnessTwo source back) (no_output_witness_two source back) (output_records h t) (output_records h' t') (same_length 14 h.outputs h'.outputs t.outputs t'.outputs (a.outputs ∙ sym b.outputs)) p.outputs q.outputs,
    none_two h.items h'.items t.items t'.items e f (λ r s. (r ! 1 ≡ s ! 1) × ItemBody source back r s),
  )
  witnesses_both (some w) e f p q = (
    witnesses_two source back 0 (input_records h t) (input_records h' t') w.inputs p.inputs q.inputs,
    each_two source back (OutputWitnessShown source) (OutputWitnessShown back) (OutputWitnessTwo source back) (output_witness_two source back) (output_records h t) (output_records h' t') w.outputs p.outputs q.outputs,
    each_two source back (ItemShown source) (ItemShown back) (λ r s. (r ! 1 ≡ s ! 1) × ItemBody source back r s) (λ r s y c d. (c.body_length ∙ sym d.body_length, record { body = same_body source back (r ! 0) (s ! 0) (r ! 1) (s ! 1) y c.body d.body c.body_length d.body_length })) (item_records h t) (item_records h' t') (wire_items w.inputs) p.items q.items,
  )

  abbrev both : Each₂ (WitnessTwo source back) (input_records h t) (input_records h' t') × Each₂ (OutputWitnessTwo source back) (output_records h t) (output_records h' t') × Items
  both = witnesses_both x.witnesses a.items b.items a.witness_records b.witness_records

  inputs_two : Each₂ (λ r s. InputAgrees r s × InputBodies source back r s) (input_records h t) (input_records h' t')
  inputs_two = each_more source back InputAllowed (InputShown source) (InputShown back) (WitnessTwo source back) (λ r s. InputAgrees r s × InputBodies source back r s) (input_two source back) (input_records h t) (input_records h' t') x.inputs g.inputs a.input_records b.input_records both.0

  outputs_two : Each₂ (λ r s. OutputAgrees r s × OutputBodies source back r s) (output_records h t) (output_records h' t')
  outputs_two = each_more source back OutputAllowed (OutputShown source) (OutputShown back) (OutputWitnessTwo source back) (λ r s. OutputAgrees r s × OutputBodies source back r s) (output_two source back) (output_records h t) (output_records h' t') x.outputs g.outputs a.output_records b.output_records both.1

  -- Record for record, the numbers agree in all but positions.
  pub shown_inputs_agree : Each₂ InputAgrees (input_records h t) (input_records h' t')
  shown_inputs_agree = each_so source back (λ r s. InputAgrees r s × InputBodies source back r s) InputAgrees (λ r s e. e.0) (input_records h t) (input_records h' t') inputs_two

  pub shown_outputs_agree : Each₂ OutputAgrees (output_records h t) (output_records h' t')
  shown_outputs_agree = each_so source back (λ r s. OutputAgrees r s × OutputBodies source back r s) OutputAgrees (λ r s e. e.0) (output_records h t) (output_records h' t') outputs_two

  pub shown_items_agree : Each₂ (λ r s. r ! 1 ≡ s ! 1) (item_records h t) (item_records h' t')
  shown_items_agree = each_so source back (λ r s. (r ! 1 ≡ s ! 1) × ItemBody source back r s) (λ r s. r ! 1 ≡ s ! 1) (λ r s e. e.0) (item_records h t) (item_records h' t') both.2

  -- And each body shows equal bytes.
  pub shown_input_bodies : Each₂ (InputBodies source back) (input_records h t) (input_records h' t')
  shown_input_bodies = each_so source back (λ r s. InputAgrees r s × InputBodies source back r s) (InputBodies source back) (λ r s e. e.1) (input_records h t) (input_records h' t') inputs_two

  pub shown_output_bodies : Each₂ (OutputBodies source back) (output_records h t) (output_records h' t')
  shown_output_bodies = each_so source back (λ r s. OutputAgrees r s × OutputBodies source back r s) (OutputBodies source back) (λ r s e. e.1) (output_records h t) (output_records h' t') outputs_two

  pub shown_item_bodies : Each₂ (ItemBody source back) (item_records h t) (item_records h' t')
  shown_item_bodies = each_so source back (λ r s. (r ! 1 ≡ s ! 1) × ItemBody source back r s) (ItemBody source back) (λ r s e. e.1) (item_records h t) (item_records h' t') both.2
