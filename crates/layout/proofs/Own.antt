-- A transaction's own records over its own bytes show it.
use Prim.Native.Nat.{ℕ, zero, suc, ◌+◌, ◌-◌, ◌*◌, ◌≤◌}
use mathlib.Core.Path.{◌≡◌, refl, sym, ◌∙◌, ap, subst}
use mathlib.Core.List.{List, [], ◌∷◌, ◌++◌}
use mathlib.Core.Option.{Option, none, some}
use native.Mathlib.Omega.{arith}
use lib.ListN.{length, get_or, replicate, length-append, length-replicate}
use Rattle.layout.specs.Transaction.{Head}
use Rattle.layout.specs.Outcome.{Tables, Sizes, room_of}
use Rattle.layout.specs.Contents.{Value, null, explicit, commitment, Token, absent, present, Issuance, Input, Output, InputWitness, OutputWitness, Witnesses, Contents, compact_bytes, flat, body_bytes, list_bytes, value_bytes, token_bytes, issuance_bytes, input_bytes, output_bytes, input_witness_bytes, output_witness_bytes, witnesses_bytes, Every, Flagged, InputAllowed, OutputAllowed, MaybeAllowed}
use Rattle.layout.specs.Records.{items_of, item_count, head_of, Fits, body_columns, issuance_columns, input_columns, input_witness_columns, output_columns, output_witness_columns, placed, placed_witnesses, stack_records, witness_items, witnesses_items, beside, inputs_at, outputs_at, witnesses_at, input_witness_records, output_witness_records, all_items, table, tables_of}
use Rattle.layout.specs.Writing.{body, input_records, output_records, item_records}
use Rattle.layout.specs.Shows.{From, ValueFrom, TokenFrom, Zeros, MaybeIssuance, InputShown, OutputShown, InputWitnessShown, OutputWitnessShown, ItemShown, wire_items, Each, EachWitness, MaybeWitnesses, Shows}
use Rattle.layout.proofs.Laying.{Wide, blanks, flat_wide, placed_wide, placed_length, input_long, input_witness_length, output_witness_length, input_rows, output_rows, item_rows, input_rows_wide, input_rows_length, output_rows_wide, output_rows_length, all_items_wide, all_items_length}
use Rattle.layout.proofs.Showing.{parts_match, column, Stands, stands_first, stands_next, stands_body, stands_lies, stands_behind, issuance_stands, input_stands, output_stands, witness_stands, Standing, Parts, input_records_lem, output_records_lem, item_records_lem}

module _ (source : List ℕ) where
  -- ---- bodies

  from_stands : (at : ℕ) (xs : List ℕ) → Stands source at xs → From source at xs
  unfolding body
  from_stands at xs s = record { same = stands_body at xs (length xs) refl s; within = stands_lies at xs s }

  from_behind : (at : ℕ) (xs : List ℕ) → Stands source at (body_bytes xs) → From source (at + length (compact_bytes (length xs))) xs
  from_behind at xs s = from_stands (at + length (compact_bytes (length xs))) xs (stands_behind at xs s)

  value_from_lem : (at : ℕ) (v : Value) → Stands source at (value_bytes v) → ValueFrom source at v
  unfolding value_bytes
  value_from_lem at null s = tt
  value_from_lem at (explicit v) s = tt
  value_from_lem at (commitment p part) s = from_stands (at + 1) part (stands_next at (p ∷ []) part s)

  token_from : (at : ℕ) (t : Token) → Stands source at (token_bytes t) → TokenFrom source at t
  unfolding token_bytes
  token_from at absent s = tt
  token_from at (present p part) s = from_stands (at + 1) part (stands_next at (p ∷ []) part s)

  -- ---- one record, whatever stands beside it

  own_issuance : (at : ℕ) (o : Option Issuance) (flags : ℕ) → Flagged flags o → Stands source at (issuance_bytes o) → (a b c d e f : ℕ) (ws : List ℕ) → MaybeIssuance source (a ∷ b ∷ c ∷ d ∷ e ∷ f ∷ (issuance_columns at o ++ ws)) o
  own_issuance at none flags g s a b c d e f ws = (refl, (refl, (refl, (refl, (refl, (refl, (refl, tt)))))))
  own_issuance at (some x) flags g s a b c d e f ws =
      let t = issuance_stands source at x g.2 s in
      record {
        blinding_nonce = from_stands at x.blinding_nonce t.blinding_nonce;
        entropy = from_stands (at + 32) x.entropy t.entropy;
        amount_prefix = refl;
        amount_high = refl;
        amount_low = refl;
        amount = value_from_lem (at + 64) x.amount t.amount;
        keys_prefix = refl;
        keys_high = refl;
        keys_low = refl;
        keys = value_from_lem (at + 64 + length (value_bytes x.amount)) x.keys t.keys;
        whole = stands_lies (at + 64 + length (value_bytes x.amount)) (value_bytes x.keys) t.keys;
      }

  own_input : (at : ℕ) (x : Input) → InputAllowed x → Stands source at (input_bytes x) → (ws : List ℕ) → InputShown source (input_columns at x ++ ws) x
  own_input at x g s ws =
      let t = input_stands source at x g s in
      let at₁ = at + 36 + length (compact_bytes (length x.script)) in
      record {
        txid = from_stands at x.txid t.txid;
        vout = refl;
        flags = refl;
        script = from_behind (at + 36) x.script t.script;
        script_length = refl;
        sequence = refl;
        issuance = own_issuance (at + 36 + length (body_bytes x.script) + 4) x.issuance x.flags g.issuance t.issuance at x.vout x.flags at₁ (length x.script) x.sequence ws;
      }

  own_output : (at : ℕ) (x : Output) → OutputAllowed x → Stands source at (output_bytes x) → (ws : List ℕ) → OutputShown source (output_columns at x ++ ws) x
  own_output at x g s ws =
      let t = output_stands source at x s in
      let at₁ = at + length (token_bytes x.asset) in
      let at₂ = at₁ + length (value_bytes x.value) in
      record {
        asset_prefix = refl;
        asset = token_from at x.asset t.asset;
        value_prefix = refl;
        value = value_from_lem at₁ x.value t.value;
        value_high = refl;
        value_low = refl;
        nonce_prefix = refl;
        nonce = token_from at₂ x.nonce t.nonce;
        script = from_behind (at₂ + length (token_bytes x.nonce)) x.script t.script;
        script_length = refl;
      }

  -- a body by two columns behind so many others
  own_body : (row ns : List ℕ) (k c at : ℕ) (xs : List ℕ) → length row ≡ k → get_or ns c 0 ≡ at + length (compact_bytes (length xs)) → Stands source at (body_bytes xs) → From source (get_or (row ++ ns) (k + c) 0) xs
  own_body row ns k c at xs l e s = subst (λ (n : ℕ). From source n xs) (sym (column row ns k c l ∙ e)) (from_behind at xs s)

  own_witness : (first at : ℕ) (x : InputWitness) (row : List ℕ) → length row ≡ 13 → Stands source at (input_witness_bytes x) → InputWitnessShown source first (row ++ input_witness_columns first at x) x
  own_witness first at x row l s =
      let t = witness_stands source at x s in
      let ns = input_witness_columns first at x in
      record {
        amount_proof = own_body row ns 13 0 at x.amount_proof l refl t.amount_proof;
        amount_proof_length = column row ns 13 1 l;
        keys_proof = own_body row ns 13 2 (at + length (body_bytes x.amount_proof)) x.keys_proof l refl t.keys_proof;
        keys_proof_length = column row ns 13 3 l;
        first_item = column row ns 13 4 l;
        script_items = column row ns 13 5 l;
        pegin_items = column row ns 13 6 l;
      }

  own_output_witness : (at : ℕ) (x : OutputWitness) (row : List ℕ) → length row ≡ 10 → Stands source at (output_witness_bytes x) → OutputWitnessShown source (row ++ output_witness_columns at x) x
  unfolding output_witness_bytes
  own_output_witness at x row l s =
      let a = body_bytes x.surjection_proof in
      let b = body_bytes x.range_proof in
      let ns = output_witness_columns at x in
      record {
        surjection_proof = own_body row ns 10 0 at x.surjection_proof l refl (stands_first at a b s);
        surjection_proof_length = column row ns 10 1 l;
        range_proof = own_body row ns 10 2 (at + length a) x.range_proof l refl (stands_next at a b s);
        range_proof_length = column row ns 10 3 l;
      }

  -- ---- lists of records

  module _ {X : Type 0} (P : List ℕ → X → Type 0) (Good : X → Type 0) (bytes : X → List ℕ) (columns : ℕ → X → List ℕ) (one : (at : ℕ) (x : X) → Good x → Stands source at (bytes x) → (ws : List ℕ) → P (columns at x ++ ws) x) where
    own_rows : (xs : List X) (at : ℕ) (news : List (List ℕ)) → Every Good xs → Stands source at (flat bytes xs) → length news ≡ length xs → Each P (beside (placed bytes columns at xs) news) xs
    unfolding flat placed beside
    own_rows [] at news g s e = tt
    own_rows (x ∷ xs) at [] g s e = absurd (omega arith)
    own_rows (x ∷ xs) at (n ∷ news) g s e = (
      one at x g.0 (stands_first at (bytes x) (flat bytes xs) s) n,
      own_rows xs (at + length (bytes x)) news g.1 (stands_next at (bytes x) (flat bytes xs) s) (omega arith),
    )

  own_witnesses : (ws : List InputWitness) (first at : ℕ) (rows : List (List ℕ)) → Wide 13 rows → length rows ≡ length ws → Stands source at (flat input_witness_bytes ws) → EachWitness source first (beside rows (placed_witnesses first at ws)) ws
  unfolding flat placed_witnesses beside
  own_witnesses [] first at [] g e s = tt
  own_witnesses [] first at (r ∷ rows) g e s = absurd (omega arith)
  own_witnesses (x ∷ ws) first at [] g e s = absurd (omega arith)
  own_witnesses (x ∷ ws) first at (r ∷ rows) g e s = (
    own_witness first at x r g.0 (stands_first at (input_witness_bytes x) (flat input_witness_bytes ws) s),
    own_witnesses ws (first + items_of x) (at + length (input_witness_bytes x)) rows g.1 (omega arith) (stands_next at (input_witness_bytes x) (flat input_witness_bytes ws) s),
  )

  own_output_witnesses : (ws : List OutputWitness) (at : ℕ) (rows : List (List ℕ)) → Wide 10 rows → length rows ≡ length ws → Stands source at (flat output_witness_bytes ws) → Each (OutputWitnessShown source) (beside rows (placed output_witness_bytes output_witness_columns at ws)) ws
  unfolding flat placed beside
  own_output_witnesses [] at [] g e s = tt
  own_output_witnesses [] at (r ∷ rows) g e s = absurd (omega arith)
  own_output_witnesses (x ∷ ws) at [] g e s = absurd (omega arith)
  own_output_witnesses (x ∷ ws) at (r ∷ rows) g e s = (
    own_output_witness at x r g.0 (stands_first at (output_witness_bytes x) (flat output_witness_bytes ws) s),
    own_output_witnesses ws (at + length (output_witness_bytes x)) rows g.1 (omega arith) (stands_next at (output_witness_bytes x) (flat output_witness_bytes ws) s),
  )

  own_stack : (xs : List (List ℕ)) (at : ℕ) → Stands source at (flat body_bytes xs) → Each (ItemShown source) (placed body_bytes body_columns at xs) xs
  unfolding flat placed
  own_stack [] at s = tt
  own_stack (x ∷ xs) at s = (
    record { body = from_behind at x (stands_first at (body_bytes x) (flat body_bytes xs) s); body_length = refl },
    own_stack xs (at + length (body_bytes x)) (stands_next at (body_bytes x) (flat body_bytes xs) s),
  )

  own_list : (xs : List (List ℕ)) (at : ℕ) → Stands source at (list_bytes body_bytes xs) → Each (ItemShown source) (stack_records at xs) xs
  unfolding list_bytes
  own_list xs at s = own_stack xs (at + length (compact_bytes (length xs))) (stands_next at (compact_bytes (length xs)) (flat body_bytes xs) s)

  each_both : {X : Type 0} (P : List ℕ → X → Type 0) (rs ss : List (List ℕ)) (xs ys : List X) → Each P rs xs → Each P ss ys → Each P (rs ++ ss) (xs ++ ys)
  each_both P [] ss [] ys a b = b
  each_both P [] ss (x ∷ xs) ys a b = absurd a
  each_both P (r ∷ rs) ss [] ys a b = absurd a
  each_both P (r ∷ rs) ss (x ∷ xs) ys a b = (a.0, each_both P rs ss xs ys a.1 b)

  own_items : (ws : List InputWitness) (at : ℕ) → Stands source at (flat input_witness_bytes ws) → Each (ItemShown source) (witnesses_items at ws) (wire_items ws)
  unfolding flat witnesses_items wire_items
  own_items [] at s = tt
  own_items (x ∷ ws) at s =
      let t = witness_stands source at x (stands_first at (input_witness_bytes x) (flat input_witness_bytes ws) s) in
      let at₁ = at + length (body_bytes x.amount_proof) + length (body_bytes x.keys_proof) in
      let at₂ = at₁ + length (list_bytes body_bytes x.script_items) in
      each_both (ItemShown source) (witness_items at x) (witnesses_items (at + length (input_witness_bytes x)) ws) (x.script_items ++ x.pegin_items) (wire_items ws)
      (each_both (ItemShown source) (stack_records at₁ x.script_items) (stack_records at₂ x.pegin_items) x.script_items x.pegin_items (own_list x.script_items at₁ t.script) (own_list x.pegin_items at₂ t.pegin))
      (own_items ws (at + length (input_witness_bytes x)) (stands_next at (input_witness_bytes x) (flat input_witness_bytes ws) s))

  no_witnesses : (n : ℕ) (rows : List (List ℕ)) → Wide 13 rows → Every (λ r. Zeros r 13 7) (beside rows (replicate n (blanks 7)))
  unfolding beside
  no_witnesses n [] g = tt
  no_witnesses zero (r ∷ rows) g = tt
  no_witnesses (suc n) (r ∷ rows) g =
      let z : (c : ℕ) → get_or (r ++ blanks 7) (13 + c) 0 ≡ get_or (blanks 7) c 0 = λ c. column r (blanks 7) 13 c g.0 in
      ((z 0, (z 1, (z 2, (z 3, (z 4, (z 5, (z 6, tt))))))), no_witnesses n rows g.1)

  no_output_witnesses : (n : ℕ) (rows : List (List ℕ)) → Wide 10 rows → Every (λ r. Zeros r 10 4) (beside rows (replicate n (blanks 4)))
  unfolding beside
  no_output_witnesses n [] g = tt
  no_output_witnesses zero (r ∷ rows) g = tt
  no_output_witnesses (suc n) (r ∷ rows) g =
      let z : (c : ℕ) → get_or (r ++ blanks 4) (10 + c) 0 ≡ get_or (blanks 4) c 0 = λ c. column r (blanks 4) 10 c g.0 in
      ((z 0, (z 1, (z 2, (z 3, tt)))), no_output_witnesses n rows g.1)

-- ---- the whole

table_length : (size w n : ℕ) (rows : List (List ℕ)) → Wide w rows → length rows ≡ n → w * n ≤ size → length (table size rows) ≡ size
table_length size w n rows g e h =
    let k = length (flat (λ r. r) rows) in
    let long : k ≡ w * n = flat_wide w rows g ∙ ap (λ (m : ℕ). w * m) e in
    omega (arith, length-append (flat (λ r. r) rows) (blanks (size - k)), length-replicate {A = ℕ} (size - k) 0)

module _ (source : List ℕ) (x : Contents) (g : Parts source x) (s : Standing source x) (z : Sizes) (fits : Fits (room_of z) x) where
  abbrev first_inputs : List (List ℕ)
  first_inputs = placed input_bytes input_columns (inputs_at x) x.inputs

  abbrev first_outputs : List (List ℕ)
  first_outputs = placed output_bytes output_columns (outputs_at x) x.outputs

  wide_inputs : Wide 13 first_inputs
  wide_inputs = placed_wide input_bytes input_columns 13 input_long (inputs_at x) x.inputs

  wide_outputs : Wide 10 first_outputs
  wide_outputs = placed_wide output_bytes output_columns 10 (λ at y. refl) (outputs_at x) x.outputs

  own_maybe : (h : Head) (t : Tables) (o : Option Witnesses) → MaybeAllowed (length x.inputs) (length x.outputs) o → Stands source (witnesses_at x) (witnesses_bytes o) → input_records h t ≡ beside first_inputs (input_witness_records (witnesses_at x) (length x.inputs) o) → output_records h t ≡ beside first_outputs (output_witness_records (witnesses_at x) (length x.outputs) o) → item_records h t ≡ all_items (witnesses_at x) o → MaybeWitnesses h t source o
  unfolding witnesses_bytes
  own_maybe h t none a w i o n =
      record {
        inputs = subst (λ (l : List (List ℕ)). Every (λ r. Zeros r 13 7) l) (sym i) (no_witnesses source (length x.inputs) first_inputs wide_inputs);
        outputs = subst (λ (l : List (List ℕ)). Every (λ r. Zeros r 10 4) l) (sym o) (no_output_witnesses source (length x.outputs) first_outputs wide_outputs);
      }
  own_maybe h t (some y) a w i o n =
      let at = witnesses_at x in
      let b = flat input_witness_bytes y.inputs in
      let c = flat output_witness_bytes y.outputs in
      let s₁ = stands_first at b c w in
      let s₂ = stands_next at b c w in
      record {
        inputs = subst (λ (l : List (List ℕ)). EachWitness source 0 l y.inputs) (sym i) (own_witnesses source y.inputs 0 at first_inputs wide_inputs (placed_length input_bytes input_columns (inputs_at x) x.inputs ∙ sym a.inputs) s₁);
        outputs = subst (λ (l : List (List ℕ)). Each (OutputWitnessShown source) l y.outputs) (sym o) (own_output_witnesses source y.outputs (at + length b) first_outputs wide_outputs (placed_length output_bytes output_columns (outputs_at x) x.outputs ∙ sym a.outputs) s₂);
        items = subst (λ (l : List (List ℕ)). Each (ItemShown source) l (wire_items y.inputs)) (sym n) (own_items source y.inputs at s₁);
      }

  pub own_shows : Shows (head_of x) (tables_of z x) source x
  own_shows =
      let t = tables_of z x in
      let m = parts_match source x g in
      let i = input_records_lem source x g s z in
      let o = output_records_lem source x g s z in
      let n = item_records_lem source x g s z in
      let news = input_witness_records (witnesses_at x) (length x.inputs) x.witnesses in
      let news' = output_witness_records (witnesses_at x) (length x.outputs) x.witnesses in
      let l₁ = table_length z.inputs 20 (length x.inputs) (input_rows x) (input_rows_wide x m) (input_rows_length x m) (omega (arith, fits.inputs)) in
      let l₂ = table_length z.outputs 14 (length x.outputs) (output_rows x) (output_rows_wide x m) (output_rows_length x m) (omega (arith, fits.outputs)) in
      let l₃ = table_length z.items 2 (item_count x.witnesses) (item_rows x) (all_items_wide (witnesses_at x) x.witnesses) (all_items_length (witnesses_at x) x.witnesses) (omega (arith, fits.items)) in
      record {
        version = refl;
        flag = refl;
        inputs = refl;
        outputs = refl;
        items = refl;
        locktime = refl;
        inputs_held = omega (arith, l₁, fits.inputs);
        outputs_held = omega (arith, l₂, fits.outputs);
        items_held = omega (arith, l₃, fits.items);
        input_records = subst (λ (l : List (List ℕ)). Each (InputShown source) l x.inputs) (sym i) (own_rows source (InputShown source) InputAllowed input_bytes input_columns (own_input source) x.inputs (inputs_at x) news g.inputs s.inputs (input_witness_length (witnesses_at x) (length x.inputs) (length x.outputs) x.witnesses m));
        output_records = subst (λ (l : List (List ℕ)). Each (OutputShown source) l x.outputs) (sym o) (own_rows source (OutputShown source) OutputAllowed output_bytes output_columns (own_output source) x.outputs (outputs_at x) news' g.outputs s.outputs (output_witness_length (witnesses_at x) (length x.outputs) (length x.inputs) x.witnesses m));
        witness_records = own_maybe (head_of x) t x.witnesses g.witnesses s.witnesses i o n;
      }
