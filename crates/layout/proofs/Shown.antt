-- Tables over a source that show an allowed transaction: what the writer makes of them is that transaction, and it refuses nothing, whatever
-- the positions are.
use Prim.Native.Nat.{ℕ, suc, ◌+◌, ◌*◌, ◌/◌, ◌%◌, ◌^◌, ◌≤◌}
use mathlib.Core.Path.{◌≡◌, refl, sym, ◌∙◌, ap, ap₂, subst}
use mathlib.Core.Bool.{Bool, true, false, cond, not, ◌&&◌, ◌||◌}
use mathlib.Core.List.{List, [], ◌∷◌, ◌++◌, append_assoc, append-nil, map}
use mathlib.Core.Option.{Option, none, some}
use native.Mathlib.Omega.{arith}
use lib.Dec.{leb, eqb}
use lib.ListN.{length, take, drop, length-append}
use lib.Seq.{take_at, drop_at}
use borrow.Author.Tests.{le-leb, lt-leb, eq-eqb}
use Rattle.layout.specs.Transaction.{Head, asset_prefix, nonce_prefix}
use Rattle.layout.specs.Outcome.{Tables}
use Rattle.layout.specs.Contents.{Value, null, explicit, commitment, Token, absent, present, Issuance, Input, Output, InputWitness, OutputWitness, Witnesses, Contents, value_bytes, flag_of, Every, ValueAllowed, TokenAllowed, is_null, IssuanceAllowed, confused, Flagged, InputAllowed, OutputAllowed, input_empty, output_empty, all, MaybeAllowed}
use Rattle.layout.specs.Records.{items_of, sum, item_count, value_prefix, high, low, token_prefix}
use Rattle.layout.specs.Writing.{records, body, value_of, token_of, value_width, issuance_of, issues, input_of, output_of, item_of, input_witness_of, output_witness_of, input_records, output_records, item_records, witnesses_of, contents_of, passes, ◌also◌, unless, ◌!◌, lies, value_rule, zeros₇, issuance_rule, input_witness_rule, input_rule, token_rule, output_witness_rule, output_rule, item_rule, null_issuance, input_fault, record_items, input_faults, rule_faults, empty_input, empty_output, held, table_faults}
use Rattle.layout.specs.Shows.{From, ValueFrom, TokenFrom, Zeros, IssuanceShown, MaybeIssuance, InputShown, OutputShown, InputWitnessShown, OutputWitnessShown, ItemShown, wire_items, Each, EachWitness, MaybeWitnesses, Shows}
use Rattle.layout.proofs.Reading.{by_cases}
use Rattle.layout.proofs.Parts.{Listing, asset_listing, nonce_listing, listed_other, commitment_prefix, null_prefix, flagged_three}
use Rattle.layout.proofs.Showing.{value_width_lem, Parts}
use Rattle.layout.proofs.Judging.{both_true, value_rule_lem, rules_pass}

module _ (source : List ℕ) where
  abbrev there : ℕ
  there = length source

  -- ---- bodies

  from_body : (at n : ℕ) (xs : List ℕ) → From source at xs → n ≡ length xs → body source at n ≡ xs
  unfolding body
  from_body at n xs f e = ap (λ (m : ℕ). take m (drop at source)) e ∙ f.same

  from_lies : (at n : ℕ) (xs : List ℕ) → From source at xs → n ≡ length xs → lies there at n ≡ true
  from_lies at n xs f e = le-leb (at + n) there (omega (arith, f.within))

  value_shown : (at : ℕ) (v : Value) → ValueAllowed v → ValueFrom source at v → value_of source at (value_prefix v) (high v) (low v) ≡ v
  unfolding value_of
  value_shown at null g s = refl
  value_shown at (explicit v) g s = let whole : 2 ^ 32 * (v / 2 ^ 32) + v % 2 ^ 32 ≡ v = omega arith in ap explicit whole
  value_shown at (commitment p part) g s =
      rw (listed_other commitment_prefix p 0 g.0 refl, listed_other commitment_prefix p 1 g.0 refl)
      (ap (commitment p) (from_body (at + 1) 32 part s (sym g.1.long)))

  token_shown : (listed : ℕ → Bool) → Listing listed → (at : ℕ) (t : Token) → TokenAllowed listed t → TokenFrom source at t → token_of source at (token_prefix t) ≡ t
  unfolding token_of
  token_shown listed l at absent g s = refl
  token_shown listed l at (present p part) g s =
      rw (listed_other listed p 0 g.0 l.zeroth) (ap (present p) (from_body (at + 1) 32 part s (sym g.1.long)))

  -- ---- inputs

  module _ (r : List ℕ) where
    amount_width_lem : (x : Issuance) → IssuanceAllowed x → IssuanceShown source r x → value_width (r ! 7) ≡ length (value_bytes x.amount)
    amount_width_lem x g s = ap (λ (p : ℕ). value_width p) s.amount_prefix ∙ value_width_lem x.amount g.amount

    issuance_shown : (x : Issuance) → IssuanceAllowed x → IssuanceShown source r x → issuance_of source r ≡ x
    issuance_shown x g s =
        let at₂ = r ! 6 + 64 + length (value_bytes x.amount) in
        let p₁ = from_body (r ! 6) 32 x.blinding_nonce s.blinding_nonce (sym g.blinding_nonce.long) in
        let p₂ = from_body (r ! 6 + 32) 32 x.entropy s.entropy (sym g.entropy.long) in
        let p₃ = (λ j. value_of source (r ! 6 + 64) (s.amount_prefix j) (s.amount_high j) (s.amount_low j)) ∙ value_shown (r ! 6 + 64) x.amount g.amount s.amount in
        let p₄ = (λ j. value_of source (r ! 6 + 64 + amount_width_lem x g s j) (s.keys_prefix j) (s.keys_high j) (s.keys_low j)) ∙ value_shown at₂ x.keys g.keys s.keys in
        λ j. record { blinding_nonce = p₁ j; entropy = p₂ j; amount = p₃ j; keys = p₄ j }

    issued_shown : (flags : ℕ) (o : Option Issuance) → Flagged flags o → r ! 2 ≡ flags → MaybeIssuance source r o → cond (issues r) (some (issuance_of source r)) none ≡ o
    issued_shown flags none g e s = rw (lt-leb 2 (r ! 2) (omega arith)) refl
    issued_shown flags (some x) g e s = rw (le-leb 2 (r ! 2) (omega (arith, g.0))) (ap (λ (y : Issuance). some y) (issuance_shown x g.2 s))

    input_shown : (x : Input) → InputAllowed x → InputShown source r x → input_of source r ≡ x
    unfolding input_of
    input_shown x g s =
        let p₁ = from_body (r ! 0) 32 x.txid s.txid (sym g.txid.long) in
        let p₂ = from_body (r ! 3) (r ! 4) x.script s.script s.script_length in
        let p₃ = issued_shown x.flags x.issuance g.issuance s.flags s.issuance in
        λ j. record { txid = p₁ j; vout = s.vout j; flags = s.flags j; script = p₂ j; sequence = s.sequence j; issuance = p₃ j }

    seven_zeros : (a b c d e f g : ℕ) → a ≡ 0 → b ≡ 0 → c ≡ 0 → d ≡ 0 → e ≡ 0 → f ≡ 0 → g ≡ 0 → (eqb a 0 && eqb b 0 && eqb c 0 && eqb d 0 && eqb e 0 && eqb f 0 && eqb g 0) ≡ true
    seven_zeros a b c d e f g p₁ p₂ p₃ p₄ p₅ p₆ p₇ = λ j. eqb (p₁ j) 0 && eqb (p₂ j) 0 && eqb (p₃ j) 0 && eqb (p₄ j) 0 && eqb (p₅ j) 0 && eqb (p₆ j) 0 && eqb (p₇ j) 0

    issuance_passes : (flags : ℕ) (o : Option Issuance) → Flagged flags o → r ! 2 ≡ flags → MaybeIssuance source r o → issuance_rule there r ≡ true
    unfolding issuance_rule zeros₇
    issuance_passes flags none g e z = rw (lt-leb 2 (r ! 2) (omega arith)) (seven_zeros _ _ _ _ _ _ _ z.0 z.1.0 z.1.1.0 z.1.1.1.0 z.1.1.1.1.0 z.1.1.1.1.1.0 z.1.1.1.1.1.1.0)
    issuance_passes flags (some x) g e s =
        let a = amount_width_lem x g.2 s in
        let k : value_width (r ! 10) ≡ length (value_bytes x.keys) = ap (λ (p : ℕ). value_width p) s.keys_prefix ∙ value_width_lem x.keys g.2.keys in
        let far : lies there (r ! 6 + 64 + value_width (r ! 7)) (value_width (r ! 10)) ≡ true = le-leb (r ! 6 + 64 + value_width (r ! 7) + value_width (r ! 10)) there (omega (arith, s.whole)) in
        let v₁ : value_rule (r ! 7) (r ! 8) (r ! 9) ≡ true = (λ j. value_rule (s.amount_prefix j) (s.amount_high j) (s.amount_low j)) ∙ value_rule_lem x.amount g.2.amount in
        let v₂ : value_rule (r ! 10) (r ! 11) (r ! 12) ≡ true = (λ j. value_rule (s.keys_prefix j) (s.keys_high j) (s.keys_low j)) ∙ value_rule_lem x.keys g.2.keys in
        rw (le-leb 2 (r ! 2) (omega (arith, g.0))) (λ j. far j && v₁ j && v₂ j)

    some_value : (flags : ℕ) (o : Option Issuance) → Flagged flags o → r ! 2 ≡ flags → MaybeIssuance source r o → null_issuance r ≡ false
    some_value flags none g e z = rw (lt-leb 2 (r ! 2) (omega arith)) refl
    some_value flags (some x) g e s =
        let a : eqb (r ! 7) 0 ≡ is_null x.amount = ap (λ (p : ℕ). eqb p 0) s.amount_prefix ∙ null_prefix x.amount g.2.amount in
        let k : eqb (r ! 10) 0 ≡ is_null x.keys = ap (λ (p : ℕ). eqb p 0) s.keys_prefix ∙ null_prefix x.keys g.2.keys in
        (λ j. le-leb 2 (r ! 2) (omega (arith, g.0)) j && a j && k j) ∙ g.2.not_null

    input_passes : (flag first i : ℕ) (x : Input) → InputAllowed x → InputShown source r x → input_witness_rule flag there first r ≡ true → input_fault flag there first i r ≡ passes
    unfolding input_fault input_rule
    input_passes flag first i x g s w =
        let a = from_lies (r ! 0) 32 x.txid s.txid (sym g.txid.long) in
        let b : leb (r ! 2) 3 ≡ true = le-leb (r ! 2) 3 (omega (arith, flagged_three 0 x.flags x.issuance g.issuance, s.flags)) in
        let c = from_lies (r ! 3) (r ! 4) x.script s.script s.script_length in
        let d = issuance_passes x.flags x.issuance g.issuance s.flags s.issuance in
        let known : confused (r ! 1) (r ! 2) ≡ false = ap₂ confused s.vout s.flags ∙ g.outpoint in
        let value = some_value x.flags x.issuance g.issuance s.flags s.issuance in
        λ j. unless (a j && b j && c j && d j && w j) 13 i also unless (not (known j)) 12 i also unless (not (value j)) 6 i

    -- ---- outputs

    output_shown : (x : Output) → OutputAllowed x → OutputShown source r x → output_of source r ≡ x
    unfolding output_of
    output_shown x g s =
        let p₁ = ap (token_of source (r ! 1)) s.asset_prefix ∙ token_shown asset_prefix asset_listing (r ! 1) x.asset g.asset s.asset in
        let p₂ = (λ j. value_of source (r ! 3) (s.value_prefix j) (s.value_high j) (s.value_low j)) ∙ value_shown (r ! 3) x.value g.value s.value in
        let p₃ = ap (token_of source (r ! 7)) s.nonce_prefix ∙ token_shown nonce_prefix nonce_listing (r ! 7) x.nonce g.nonce s.nonce in
        let p₄ = from_body (r ! 8) (r ! 9) x.script s.script s.script_length in
        λ j. record { asset = p₁ j; value = p₂ j; nonce = p₃ j; script = p₄ j }

    token_passes : (listed : ℕ → Bool) (at : ℕ) (t : Token) → TokenAllowed listed t → TokenFrom source at t → token_rule listed there at (token_prefix t) ≡ true
    unfolding token_rule
    token_passes listed at absent g s = refl
    token_passes listed at (present p part) g s =
        by_cases (eqb p 0) (λ e. rw e refl)
        (λ e. rw (e, g.0) (le-leb (at + 33) there (omega (arith, s.within, g.1.long))))

    commitment_lies : (at : ℕ) (v : Value) → ValueAllowed v → ValueFrom source at v → (leb (value_prefix v) 1 || lies there at 33) ≡ true
    commitment_lies at null g s = refl
    commitment_lies at (explicit v) g s = refl
    commitment_lies at (commitment p part) g s = by_cases (leb p 1) (λ e. rw e refl) (λ e. rw e (le-leb (at + 33) there (omega (arith, s.within, g.1.long))))

    output_passes : (flag : ℕ) (x : Output) → OutputAllowed x → OutputShown source r x → output_witness_rule flag there r ≡ true → output_rule flag there r ≡ true
    unfolding output_rule
    output_passes flag x g s w =
        let a = ap (token_rule asset_prefix there (r ! 1)) s.asset_prefix ∙ token_passes asset_prefix (r ! 1) x.asset g.asset s.asset in
        let b = (λ j. value_rule (s.value_prefix j) (s.value_high j) (s.value_low j)) ∙ value_rule_lem x.value g.value in
        let c = ap (λ (p : ℕ). leb p 1 || lies there (r ! 3) 33) s.value_prefix ∙ commitment_lies (r ! 3) x.value g.value s.value in
        let d = ap (token_rule nonce_prefix there (r ! 7)) s.nonce_prefix ∙ token_passes nonce_prefix (r ! 7) x.nonce g.nonce s.nonce in
        let e = from_lies (r ! 8) (r ! 9) x.script s.script s.script_length in
        λ j. a j && b j && c j && d j && e j && w j

    -- ---- witnesses and items

    output_witness_shown : (x : OutputWitness) → OutputWitnessShown source r x → output_witness_of source r ≡ x
    unfolding output_witness_of
    output_witness_shown x s =
        let p₁ = from_body (r ! 10) (r ! 11) x.surjection_proof s.surjection_proof s.surjection_proof_length in
        let p₂ = from_body (r ! 12) (r ! 13) x.range_proof s.range_proof s.range_proof_length in
        λ j. record { surjection_proof = p₁ j; range_proof = p₂ j }

    output_witness_passes : (x : OutputWitness) → OutputWitnessShown source r x → output_witness_rule 1 there r ≡ true
    unfolding output_witness_rule
    output_witness_passes x s =
        let a = from_lies (r ! 10) (r ! 11) x.surjection_proof s.surjection_proof s.surjection_proof_length in
        let b = from_lies (r ! 12) (r ! 13) x.range_proof s.range_proof s.range_proof_length in
        λ j. a j && b j

    no_output_witness : Zeros r 10 4 → output_witness_rule 0 there r ≡ true
    unfolding output_witness_rule
    no_output_witness z = λ j. eqb (z.0 j) 0 && eqb (z.1.0 j) 0 && eqb (z.1.1.0 j) 0 && eqb (z.1.1.1.0 j) 0

    witness_passes : (first : ℕ) (x : InputWitness) → InputWitnessShown source first r x → input_witness_rule 1 there first r ≡ true
    unfolding input_witness_rule
    witness_passes first x s =
        let a = from_lies (r ! 13) (r ! 14) x.amount_proof s.amount_proof s.amount_proof_length in
        let b = from_lies (r ! 15) (r ! 16) x.keys_proof s.keys_proof s.keys_proof_length in
        let c = eq-eqb (r ! 17) first s.first_item in
        λ j. a j && b j && c j

    no_witness_lem : (first : ℕ) → Zeros r 13 7 → input_witness_rule 0 there first r ≡ true
    unfolding input_witness_rule zeros₇
    no_witness_lem first z = seven_zeros _ _ _ _ _ _ _ z.0 z.1.0 z.1.1.0 z.1.1.1.0 z.1.1.1.1.0 z.1.1.1.1.1.0 z.1.1.1.1.1.1.0

    witness_items_lem : (first : ℕ) (x : InputWitness) → InputWitnessShown source first r x → record_items r ≡ items_of x
    witness_items_lem first x s = ap₂ (λ (a b : ℕ). a + b) s.script_items s.pegin_items

    witness_shown : (items before after : List (List ℕ)) (first : ℕ) (x : InputWitness) → InputWitnessShown source first r x → items ≡ before ++ ((x.script_items ++ x.pegin_items) ++ after) → length before ≡ first → input_witness_of source items r ≡ x
    unfolding input_witness_of
    witness_shown items before after first x s e f =
        let a = x.script_items in
        let b = x.pegin_items in
        let from : drop first items ≡ (a ++ b) ++ after = ap (drop first) e ∙ drop_at before ((a ++ b) ++ after) first f in
        let from' : drop (first + length a) items ≡ b ++ after = ap (drop (first + length a)) (e ∙ ap (λ (m : List (List ℕ)). before ++ m) (append_assoc a b after) ∙ sym (append_assoc before a (b ++ after))) ∙ drop_at (before ++ a) (b ++ after) (first + length a) (length-append before a ∙ ap (λ (n : ℕ). n + length a) f) in
        let p₁ = from_body (r ! 13) (r ! 14) x.amount_proof s.amount_proof s.amount_proof_length in
        let p₂ = from_body (r ! 15) (r ! 16) x.keys_proof s.keys_proof s.keys_proof_length in
        let p₃ = (λ j. take (s.script_items j) (drop (s.first_item j) items)) ∙ ap (take (length a)) (from ∙ append_assoc a b after) ∙ take_at a (b ++ after) (length a) refl in
        let p₄ = (λ j. take (s.pegin_items j) (drop (s.first_item j + s.script_items j) items)) ∙ ap (take (length b)) from' ∙ take_at b after (length b) refl in
        λ j. record { amount_proof = p₁ j; keys_proof = p₂ j; script_items = p₃ j; pegin_items = p₄ j }

    item_shown : (x : List ℕ) → ItemShown source r x → item_of source r ≡ x
    unfolding item_of
    item_shown x s = from_body (r ! 0) (r ! 1) x s.body s.body_length

    item_passes : (x : List ℕ) → ItemShown source r x → item_rule 1 there r ≡ true
    unfolding item_rule
    item_passes x s = from_lies (r ! 0) (r ! 1) x s.body s.body_length

  -- ---- lists of records

  each_shown : {X : Type 0} (f : List ℕ → X) (Good : X → Type 0) (P : List ℕ → X → Type 0) → ((r : List ℕ) (x : X) → Good x → P r x → f r ≡ x) → (rs : List (List ℕ)) (xs : List X) → Every Good xs → Each P rs xs → map f rs ≡ xs
  each_shown f Good P one [] [] g s = refl
  each_shown f Good P one [] (x ∷ xs) g s = absurd s
  each_shown f Good P one (r ∷ rs) [] g s = absurd s
  each_shown {X} f Good P one (r ∷ rs) (x ∷ xs) g s = ap₂ (λ (y : X) (ys : List X). y ∷ ys) (one r x g.0 s.0) (each_shown f Good P one rs xs g.1 s.1)

  every_trivial : {X : Type 0} (xs : List X) → Every (λ x. Unit {0}) xs
  every_trivial [] = tt
  every_trivial (x ∷ xs) = (tt, every_trivial xs)

  each_every : {X : Type 0} (P : List ℕ → X → Type 0) (Q : List ℕ → Type 0) → ((r : List ℕ) (x : X) → P r x → Q r) → (rs : List (List ℕ)) (xs : List X) → Each P rs xs → Every Q rs
  each_every P Q one [] [] s = tt
  each_every P Q one [] (x ∷ xs) s = tt
  each_every P Q one (r ∷ rs) [] s = absurd s
  each_every P Q one (r ∷ rs) (x ∷ xs) s = (one r x s.0, each_every P Q one rs xs s.1)

  -- what is judged of each record's witness
  abbrev WitnessesPass : ℕ → ℕ → List (List ℕ) → Type 0
  WitnessesPass flag first [] = Unit {0}
  WitnessesPass flag first (r ∷ rs) = (input_witness_rule flag there first r ≡ true) × WitnessesPass flag (first + record_items r) rs

  witnesses_pass : (rs : List (List ℕ)) (xs : List InputWitness) (first : ℕ) → EachWitness source first rs xs → WitnessesPass 1 first rs
  witnesses_pass [] [] first s = tt
  witnesses_pass [] (x ∷ xs) first s = tt
  witnesses_pass (r ∷ rs) [] first s = absurd s
  witnesses_pass (r ∷ rs) (x ∷ xs) first s = (
    witness_passes r first x s.0,
    subst (λ (n : ℕ). WitnessesPass 1 (first + n) rs) (sym (witness_items_lem r first x s.0)) (witnesses_pass rs xs (first + items_of x) s.1),
  )

  no_witnesses_pass : (rs : List (List ℕ)) (first : ℕ) → Every (λ r. Zeros r 13 7) rs → WitnessesPass 0 first rs
  no_witnesses_pass [] first z = tt
  no_witnesses_pass (r ∷ rs) first z = (no_witness_lem r first z.0, no_witnesses_pass rs (first + record_items r) z.1)

  inputs_pass : (flag first i : ℕ) (rs : List (List ℕ)) (xs : List Input) → Every InputAllowed xs → Each (InputShown source) rs xs → WitnessesPass flag first rs → input_faults flag there first i rs ≡ passes
  unfolding input_faults
  inputs_pass flag first i [] [] g s w = refl
  inputs_pass flag first i [] (x ∷ xs) g s w = absurd s
  inputs_pass flag first i (r ∷ rs) [] g s w = absurd s
  inputs_pass flag first i (r ∷ rs) (x ∷ xs) g s w = ap₂ ◌also◌ (input_passes r flag first i x g.0 s.0 w.0) (inputs_pass flag (first + record_items r) (suc i) rs xs g.1 s.1 w.1)

  outputs_pass : (flag : ℕ) (rs : List (List ℕ)) (xs : List Output) → Every OutputAllowed xs → Each (OutputShown source) rs xs → Every (λ r. output_witness_rule flag there r ≡ true) rs → Every (λ r. output_rule flag there r ≡ true) rs
  outputs_pass flag [] [] g s w = tt
  outputs_pass flag [] (x ∷ xs) g s w = tt
  outputs_pass flag (r ∷ rs) [] g s w = absurd s
  outputs_pass flag (r ∷ rs) (x ∷ xs) g s w = (output_passes r flag x g.0 s.0 w.0, outputs_pass flag rs xs g.1 s.1 w.1)

  witnesses_shown : (items rs : List (List ℕ)) (xs : List InputWitness) (first : ℕ) (before after : List (List ℕ)) → EachWitness source first rs xs → items ≡ before ++ (wire_items xs ++ after) → length before ≡ first → map (input_witness_of source items) rs ≡ xs
  unfolding wire_items
  witnesses_shown items [] [] first before after s e f = refl
  witnesses_shown items [] (x ∷ xs) first before after s e f = absurd s
  witnesses_shown items (r ∷ rs) [] first before after s e f = absurd s
  witnesses_shown items (r ∷ rs) (x ∷ xs) first before after s e f =
      let own = x.script_items ++ x.pegin_items in
      let e' = e ∙ ap (λ (l : List (List ℕ)). before ++ l) (append_assoc own (wire_items xs) after) in
      ap₂ (λ (y : InputWitness) (ys : List InputWitness). y ∷ ys)
      (witness_shown r items before (wire_items xs ++ after) first x s.0 e' f)
      (witnesses_shown items rs xs (first + items_of x) (before ++ own) after s.1 (e' ∙ sym (append_assoc before own (wire_items xs ++ after))) (omega (arith, length-append before own, length-append x.script_items x.pegin_items)))

  -- ---- sums and emptiness

  items_sum : (rs : List (List ℕ)) (xs : List InputWitness) (first : ℕ) → EachWitness source first rs xs → sum record_items rs ≡ sum items_of xs
  unfolding sum
  items_sum [] [] first s = refl
  items_sum [] (x ∷ xs) first s = absurd s
  items_sum (r ∷ rs) [] first s = absurd s
  items_sum (r ∷ rs) (x ∷ xs) first s = ap₂ (λ (a b : ℕ). a + b) (witness_items_lem r first x s.0) (items_sum rs xs (first + items_of x) s.1)

  no_items : (rs : List (List ℕ)) → Every (λ r. Zeros r 13 7) rs → sum record_items rs ≡ 0
  unfolding sum
  no_items [] z = refl
  no_items (r ∷ rs) z = omega (arith, z.0.1.1.1.1.1.0, z.0.1.1.1.1.1.1.0, no_items rs z.1)

  empty_inputs : (rs : List (List ℕ)) (xs : List InputWitness) (first : ℕ) → EachWitness source first rs xs → all empty_input rs ≡ all input_empty xs
  unfolding all
  empty_inputs [] [] first s = refl
  empty_inputs [] (x ∷ xs) first s = absurd s
  empty_inputs (r ∷ rs) [] first s = absurd s
  empty_inputs (r ∷ rs) (x ∷ xs) first s =
      let w = s.0 in
      let rest = empty_inputs rs xs (first + items_of x) s.1 in
      λ j. (eqb (w.amount_proof_length j) 0 && eqb (w.keys_proof_length j) 0 && eqb (w.script_items j) 0 && eqb (w.pegin_items j) 0) && rest j

  empty_outputs : (rs : List (List ℕ)) (xs : List OutputWitness) → Each (OutputWitnessShown source) rs xs → all empty_output rs ≡ all output_empty xs
  unfolding all
  empty_outputs [] [] s = refl
  empty_outputs [] (x ∷ xs) s = absurd s
  empty_outputs (r ∷ rs) [] s = absurd s
  empty_outputs (r ∷ rs) (x ∷ xs) s =
      let w = s.0 in
      let rest = empty_outputs rs xs s.1 in
      λ j. (eqb (w.surjection_proof_length j) 0 && eqb (w.range_proof_length j) 0) && rest j

-- ---- the whole

module _ (h : Head) (t : Tables) (source : List ℕ) where
  witnesses_of_lem : (o : Option Witnesses) → h.flag ≡ flag_of o → MaybeWitnesses h t source o → cond (eqb h.flag 1) (some (witnesses_of h t source)) none ≡ o
  witnesses_of_lem none e s = ap (λ (f : ℕ). cond (eqb f 1) (some (witnesses_of h t source)) none) e
  witnesses_of_lem (some w) e s =
      let items = map (item_of source) (item_records h t) in
      let whole : items ≡ wire_items w.inputs = each_shown source (item_of source) (λ x. Unit {0}) (ItemShown source) (λ r x g. item_shown source r x) (item_records h t) (wire_items w.inputs) (every_trivial source (wire_items w.inputs)) s.items in
      let p = witnesses_shown source items (input_records h t) w.inputs 0 [] [] s.inputs (whole ∙ sym (append-nil (wire_items w.inputs))) refl in
      let q = each_shown source (output_witness_of source) (λ x. Unit {0}) (OutputWitnessShown source) (λ r x g. output_witness_shown source r x) (output_records h t) w.outputs (every_trivial source w.outputs) s.outputs in
      ap (λ (f : ℕ). cond (eqb f 1) (some (witnesses_of h t source)) none) e ∙ (λ j. some (record { inputs = p j; outputs = q j }))

  -- What the tables show, the writer writes.
  pub shown_contents : (x : Contents) → Parts source x → Shows h t source x → contents_of h t source ≡ x
  unfolding contents_of
  shown_contents x g s =
      let p = each_shown source (input_of source) InputAllowed (InputShown source) (input_shown source) (input_records h t) x.inputs g.inputs s.input_records in
      let q = each_shown source (output_of source) OutputAllowed (OutputShown source) (output_shown source) (output_records h t) x.outputs g.outputs s.output_records in
      let w = witnesses_of_lem x.witnesses s.flag s.witness_records in
      λ j. record { version = s.version j; inputs = p j; outputs = q j; locktime = s.locktime j; witnesses = w j }

  -- no fault of inputs, outputs and items; the items add up; not all witnesses are empty
  record NoFault (o : Option Witnesses) : Type 0 where
    inputs : input_faults (flag_of o) (length source) 0 0 (input_records h t) ≡ passes
    outputs : Every (λ r. output_rule (flag_of o) (length source) r ≡ true) (output_records h t)
    items : Every (λ r. item_rule (flag_of o) (length source) r ≡ true) (item_records h t)
    added : sum record_items (input_records h t) ≡ item_count o
    some_witness : (eqb (flag_of o) 1 && all empty_input (input_records h t) && all empty_output (output_records h t)) ≡ false

  no_records : (n : ℕ) → n ≡ 0 → (P : List ℕ → Type 0) → Every P (records 2 n t.items)
  unfolding records
  no_records n e P = subst (λ (m : ℕ). Every P (records 2 m t.items)) (sym e) tt

  no_fault : (x : Contents) → Parts source x → Shows h t source x → (o : Option Witnesses) → MaybeAllowed (length x.inputs) (length x.outputs) o → h.items ≡ item_count o → MaybeWitnesses h t source o → NoFault o
  no_fault x g s none a n w =
      record {
        inputs = inputs_pass source 0 0 0 (input_records h t) x.inputs g.inputs s.input_records (no_witnesses_pass source (input_records h t) 0 w.inputs);
        outputs = outputs_pass source 0 (output_records h t) x.outputs g.outputs s.output_records (every_so (no_output_witness source) (output_records h t) w.outputs);
        items = no_records h.items n (λ r. item_rule 0 (length source) r ≡ true);
        added = no_items source (input_records h t) w.inputs;
        some_witness = refl;
      }
    where
      every_so : {P Q : List ℕ → Type 0} → ((r : List ℕ) → P r → Q r) → (rs : List (List ℕ)) → Every P rs → Every Q rs
      every_so f [] e = tt
      every_so f (r ∷ rs) e = (f r e.0, every_so f rs e.1)
  no_fault x g s (some y) a n w =
      record {
        inputs = inputs_pass source 1 0 0 (input_records h t) x.inputs g.inputs s.input_records (witnesses_pass source (input_records h t) y.inputs 0 w.inputs);
        outputs = outputs_pass source 1 (output_records h t) x.outputs g.outputs s.output_records (each_every source (OutputWitnessShown source) (λ r. output_witness_rule 1 (length source) r ≡ true) (output_witness_passes source) (output_records h t) y.outputs w.outputs);
        items = each_every source (ItemShown source) (λ r. item_rule 1 (length source) r ≡ true) (item_passes source) (item_records h t) (wire_items y.inputs) w.items;
        added = items_sum source (input_records h t) y.inputs 0 w.inputs;
        some_witness = ap₂ ◌&&◌ (empty_inputs source (input_records h t) y.inputs 0 w.inputs) (empty_outputs source (output_records h t) y.outputs w.outputs) ∙ a.not_empty;
      }

  flag_one : (o : Option Witnesses) → flag_of o ≤ 1
  flag_one none = omega arith
  flag_one (some w) = omega arith

  -- The writer finds no fault in tables that show an allowed transaction.
  pub shown_passes : (x : Contents) → Parts source x → Shows h t source x → table_faults h t (length source) ≡ passes
  unfolding table_faults
  shown_passes x g s =
      let q = no_fault x g s x.witnesses g.witnesses s.items s.witness_records in
      let there = length source in
      let f = s.flag in
      let e₁ : held h t ≡ true =
      both_true _ _ (both_true _ _
      (le-leb h.inputs (length t.inputs / 20) (omega (arith, s.inputs_held)))
      (le-leb h.outputs (length t.outputs / 14) (omega (arith, s.outputs_held))))
      (le-leb h.items (length t.items / 2) (omega (arith, s.items_held))) in
      let e₂ : leb h.flag 1 ≡ true = le-leb h.flag 1 (omega (arith, flag_one x.witnesses, f)) in
      let e₃ : input_faults h.flag there 0 0 (input_records h t) ≡ passes = ap (λ (n : ℕ). input_faults n there 0 0 (input_records h t)) f ∙ q.inputs in
      let e₄ : rule_faults (output_rule h.flag there) 0 (output_records h t) ≡ passes = ap (λ (n : ℕ). rule_faults (output_rule n there) 0 (output_records h t)) f ∙ rules_pass (output_rule (flag_of x.witnesses) there) (output_records h t) 0 q.outputs in
      let e₅ : rule_faults (item_rule h.flag there) 0 (item_records h t) ≡ passes = ap (λ (n : ℕ). rule_faults (item_rule n there) 0 (item_records h t)) f ∙ rules_pass (item_rule (flag_of x.witnesses) there) (item_records h t) 0 q.items in
      let e₆ : eqb (sum record_items (input_records h t)) h.items ≡ true = eq-eqb _ _ (q.added ∙ sym s.items) in
      let e₇ : (eqb h.flag 1 && all empty_input (input_records h t) && all empty_output (output_records h t)) ≡ false = ap (λ (n : ℕ). eqb n 1 && all empty_input (input_records h t) && all empty_output (output_records h t)) f ∙ q.some_witness in
      λ j. unless (e₁ j) 10 0 also unless (e₂ j) 7 4 also e₃ j also e₄ j also e₅ j also unless (e₆ j) 13 h.inputs also unless (not (e₇ j)) 8 4
