-- Where the parts of a transaction stand in its bytes, and the records of its tables.
use Prim.Native.Nat.{ℕ, zero, suc, ◌+◌, ◌≤◌}
use mathlib.Core.Path.{◌≡◌, refl, sym, ◌∙◌, ap, ap₂, subst}
use mathlib.Core.List.{List, [], ◌∷◌, ◌++◌, append_assoc}
use mathlib.Core.Option.{some}
use native.Mathlib.Omega.{arith}
use lib.ListN.{length, take, drop, get_or, length-append}
use lib.Seq.{take_at, drop_at, get_or-append-add}
use Rattle.layout.specs.Number.{little, big, bytes_of}
use Rattle.layout.specs.Outcome.{Sizes}
use Rattle.layout.specs.Contents.{Value, null, explicit, commitment, Issuance, Input, Output, InputWitness, Contents, compact_bytes, flat, body_bytes, list_bytes, value_bytes, token_bytes, issuance_bytes, raw_vout, input_bytes, output_bytes, input_witness_bytes, flag_of, witnesses_bytes, contents_bytes, Every, ValueAllowed, IssuanceAllowed, InputAllowed, OutputAllowed, MaybeAllowed}
use Rattle.layout.specs.Records.{item_count, value_prefix, inputs_at, outputs_at, witnesses_at, tables_of}
use Rattle.layout.specs.Writing.{records, body, value_width}
use Rattle.layout.proofs.Number.{length_bytes}
use Rattle.layout.proofs.Forming.{Matches, allowed_matches}
use Rattle.layout.proofs.Laying.{Wide, input_rows, output_rows, item_rows, input_rows_wide, input_rows_length, output_rows_wide, output_rows_length, all_items_wide, all_items_length}
use Rattle.layout.proofs.Parts.{listed_other, commitment_prefix}

-- a column behind the first ones
pub column : (row ns : List ℕ) (k c : ℕ) → length row ≡ k → get_or (row ++ ns) (k + c) 0 ≡ get_or ns c 0
column row ns k c e = ap (λ (n : ℕ). get_or (row ++ ns) (n + c) 0) (sym e) ∙ get_or-append-add row ns c 0

-- ---- bytes that stand at a position of the source

pub record Stands (source : List ℕ) (at : ℕ) (bs : List ℕ) : Type 0 where
  pub front : List ℕ
  pub behind : List ℕ
  pub long : length front ≡ at
  pub same : source ≡ front ++ (bs ++ behind)

module _ {source : List ℕ} where
  pub stands_first : (at : ℕ) (xs ys : List ℕ) → Stands source at (xs ++ ys) → Stands source at xs
  stands_first at xs ys s = record { front = s.front; behind = ys ++ s.behind; long = s.long; same = s.same ∙ ap (λ (l : List ℕ). s.front ++ l) (append_assoc xs ys s.behind) }

  pub stands_next : (at : ℕ) (xs ys : List ℕ) → Stands source at (xs ++ ys) → Stands source (at + length xs) ys
  stands_next at xs ys s =
      record {
        front = s.front ++ xs;
        behind = s.behind;
        long = length-append s.front xs ∙ ap (λ (n : ℕ). n + length xs) s.long;
        same = s.same ∙ ap (λ (l : List ℕ). s.front ++ l) (append_assoc xs ys s.behind) ∙ sym (append_assoc s.front xs (ys ++ s.behind));
      }

  pub stands_body : (at : ℕ) (bs : List ℕ) (n : ℕ) → length bs ≡ n → Stands source at bs → body source at n ≡ bs
  unfolding body
  stands_body at bs n e s =
      ap (λ (l : List ℕ). take n (drop at l)) s.same ∙ ap (take n) (drop_at s.front (bs ++ s.behind) at s.long) ∙ take_at bs s.behind n e

  pub stands_lies : (at : ℕ) (bs : List ℕ) → Stands source at bs → at + length bs ≤ length source
  stands_lies at bs s = omega (arith, ap (λ (l : List ℕ). length l) s.same, length-append s.front (bs ++ s.behind), length-append bs s.behind, s.long)

  -- a body behind its length
  pub stands_behind : (at : ℕ) (xs : List ℕ) → Stands source at (body_bytes xs) → Stands source (at + length (compact_bytes (length xs))) xs
  unfolding body_bytes
  stands_behind at xs s = stands_next at (compact_bytes (length xs)) xs s

pub value_width_lem : (v : Value) → ValueAllowed v → value_width (value_prefix v) ≡ length (value_bytes v)
unfolding value_bytes
value_width_lem null g = refl
value_width_lem (explicit v) g = sym (ap suc (length_bytes big 8 v))
value_width_lem (commitment p part) g = rw (listed_other commitment_prefix p 0 g.0 refl, listed_other commitment_prefix p 1 g.0 refl) (sym (ap suc g.1.long))

module _ (source : List ℕ) where
  stands_at : {at at' : ℕ} {bs : List ℕ} → at ≡ at' → Stands source at bs → Stands source at' bs
  stands_at {bs = bs} e s = subst (λ (n : ℕ). Stands source n bs) e s

  -- ---- where the parts of a record stand

  pub record IssuanceStands (at : ℕ) (x : Issuance) : Type 0 where
    pub blinding_nonce : Stands source at x.blinding_nonce
    pub entropy : Stands source (at + 32) x.entropy
    pub amount : Stands source (at + 64) (value_bytes x.amount)
    pub keys : Stands source (at + 64 + length (value_bytes x.amount)) (value_bytes x.keys)

  pub issuance_stands : (at : ℕ) (x : Issuance) → IssuanceAllowed x → Stands source at (issuance_bytes (some x)) → IssuanceStands at x
  unfolding issuance_bytes
  issuance_stands at x g s =
      let a = x.blinding_nonce in
      let b = x.entropy in
      let c = value_bytes x.amount in
      let d = value_bytes x.keys in
      let s₁ = stands_next at a (b ++ (c ++ d)) s in
      let s₂ = stands_next (at + length a) b (c ++ d) s₁ in
      let s₃ = stands_next (at + length a + length b) c d s₂ in
      let l₁ = g.blinding_nonce.long in
      let l₂ = g.entropy.long in
      record {
        blinding_nonce = stands_first at a (b ++ (c ++ d)) s;
        entropy = stands_at (omega arith) (stands_first (at + length a) b (c ++ d) s₁);
        amount = stands_at (omega arith) (stands_first (at + length a + length b) c d s₂);
        keys = stands_at (omega arith) s₃;
      }

  pub record InputStands (at : ℕ) (x : Input) : Type 0 where
    pub txid : Stands source at x.txid
    pub script : Stands source (at + 36) (body_bytes x.script)
    pub issuance : Stands source (at + 36 + length (body_bytes x.script) + 4) (issuance_bytes x.issuance)

  pub input_stands : (at : ℕ) (x : Input) → InputAllowed x → Stands source at (input_bytes x) → InputStands at x
  unfolding input_bytes
  input_stands at x g s =
      let raw = raw_vout x.vout x.flags in
      let a = x.txid in
      let b = bytes_of little 4 raw in
      let c = body_bytes x.script in
      let d = bytes_of little 4 x.sequence in
      let e = issuance_bytes x.issuance in
      let s₁ = stands_next at a (b ++ (c ++ (d ++ e))) s in
      let s₂ = stands_next (at + length a) b (c ++ (d ++ e)) s₁ in
      let s₃ = stands_next (at + length a + length b) c (d ++ e) s₂ in
      let s₄ = stands_next (at + length a + length b + length c) d e s₃ in
      let l₁ = g.txid.long in
      let l₂ = length_bytes little 4 raw in
      let l₃ = length_bytes little 4 x.sequence in
      record {
        txid = stands_first at a (b ++ (c ++ (d ++ e))) s;
        script = stands_at (omega arith) (stands_first (at + length a + length b) c (d ++ e) s₂);
        issuance = stands_at (omega arith) s₄;
      }

  pub record OutputStands (at : ℕ) (x : Output) : Type 0 where
    pub asset : Stands source at (token_bytes x.asset)
    pub value : Stands source (at + length (token_bytes x.asset)) (value_bytes x.value)
    pub nonce : Stands source (at + length (token_bytes x.asset) + length (value_bytes x.value)) (token_bytes x.nonce)
    pub script : Stands source (at + length (token_bytes x.asset) + length (value_bytes x.value) + length (token_bytes x.nonce)) (body_bytes x.script)

  pub output_stands : (at : ℕ) (x : Output) → Stands source at (output_bytes x) → OutputStands at x
  unfolding output_bytes
  output_stands at x s =
      let a = token_bytes x.asset in
      let b = value_bytes x.value in
      let c = token_bytes x.nonce in
      let d = body_bytes x.script in
      let s₁ = stands_next at a (b ++ (c ++ d)) s in
      let s₂ = stands_next (at + length a) b (c ++ d) s₁ in
      let s₃ = stands_next (at + length a + length b) c d s₂ in
      record { asset = stands_first at a (b ++ (c ++ d)) s; value = stands_first (at + length a) b (c ++ d) s₁; nonce = stands_first (at + length a + length b) c d s₂; script = s₃ }

  pub record WitnessStands (at : ℕ) (x : InputWitness) : Type 0 where
    pub amount_proof : Stands source at (body_bytes x.amount_proof)
    pub keys_proof : Stands source (at + length (body_bytes x.amount_proof)) (body_bytes x.keys_proof)
    pub script : Stands source (at + length (body_bytes x.amount_proof) + length (body_bytes x.keys_proof)) (list_bytes body_bytes x.script_items)
    pub pegin : Stands source (at + length (body_bytes x.amount_proof) + length (body_bytes x.keys_proof) + length (list_bytes body_bytes x.script_items)) (list_bytes body_bytes x.pegin_items)

  pub witness_stands : (at : ℕ) (x : InputWitness) → Stands source at (input_witness_bytes x) → WitnessStands at x
  unfolding input_witness_bytes
  witness_stands at x s =
      let a = body_bytes x.amount_proof in
      let b = body_bytes x.keys_proof in
      let c = list_bytes body_bytes x.script_items in
      let d = list_bytes body_bytes x.pegin_items in
      let s₁ = stands_next at a (b ++ (c ++ d)) s in
      let s₂ = stands_next (at + length a) b (c ++ d) s₁ in
      let s₃ = stands_next (at + length a + length b) c d s₂ in
      record { amount_proof = stands_first at a (b ++ (c ++ d)) s; keys_proof = stands_first (at + length a) b (c ++ d) s₁; script = stands_first (at + length a + length b) c d s₂; pegin = s₃ }

-- ---- the whole

pub records_rows : (w : ℕ) (rows : List (List ℕ)) (n : ℕ) (rest : List ℕ) → Wide w rows → length rows ≡ n → records w n (flat (λ r. r) rows ++ rest) ≡ rows
unfolding records flat
records_rows w [] zero rest g e = refl
records_rows w [] (suc n) rest g e = absurd (omega arith)
records_rows w (r ∷ rows) zero rest g e = absurd (omega arith)
records_rows w (r ∷ rows) (suc n) rest g e =
    let end = flat (λ r. r) rows ++ rest in
    ap₂ (λ (y : List ℕ) (ys : List (List ℕ)). y ∷ ys)
    (ap (take w) (append_assoc r (flat (λ r. r) rows) rest) ∙ take_at r end w g.0)
    (ap (λ (l : List ℕ). records w n (drop w l)) (append_assoc r (flat (λ r. r) rows) rest) ∙ ap (records w n) (drop_at r end w g.0) ∙ records_rows w rows n rest g.1 (omega arith))

module _ (source : List ℕ) (x : Contents) where
  pub record Standing : Type 0 where
    pub inputs : Stands source (inputs_at x) (flat input_bytes x.inputs)
    pub outputs : Stands source (outputs_at x) (flat output_bytes x.outputs)
    pub witnesses : Stands source (witnesses_at x) (witnesses_bytes x.witnesses)

  pub standing : Stands source 0 (contents_bytes x) → Standing
  unfolding contents_bytes list_bytes
  standing s =
      let a = bytes_of little 4 x.version in
      let b = flag_of x.witnesses ∷ [] in
      let c₁ = compact_bytes (length x.inputs) in
      let c₂ = flat input_bytes x.inputs in
      let d₁ = compact_bytes (length x.outputs) in
      let d₂ = flat output_bytes x.outputs in
      let e = bytes_of little 4 x.locktime in
      let w = witnesses_bytes x.witnesses in
      let s₁ = stands_next 0 a (b ++ ((c₁ ++ c₂) ++ ((d₁ ++ d₂) ++ (e ++ w)))) s in
      let s₂ = stands_next (0 + length a) b ((c₁ ++ c₂) ++ ((d₁ ++ d₂) ++ (e ++ w))) s₁ in
      let s₃ = stands_next (0 + length a + 1) (c₁ ++ c₂) ((d₁ ++ d₂) ++ (e ++ w)) s₂ in
      let s₄ = stands_next (0 + length a + 1 + length (c₁ ++ c₂)) (d₁ ++ d₂) (e ++ w) s₃ in
      let s₅ = stands_next (0 + length a + 1 + length (c₁ ++ c₂) + length (d₁ ++ d₂)) e w s₄ in
      let i = stands_next (0 + length a + 1) c₁ c₂ (stands_first (0 + length a + 1) (c₁ ++ c₂) ((d₁ ++ d₂) ++ (e ++ w)) s₂) in
      let o = stands_next (0 + length a + 1 + length (c₁ ++ c₂)) d₁ d₂ (stands_first (0 + length a + 1 + length (c₁ ++ c₂)) (d₁ ++ d₂) (e ++ w) s₃) in
      let l₁ = length_bytes little 4 x.version in
      let l₂ = length_bytes little 4 x.locktime in
      record { inputs = stands_at source (omega arith) i; outputs = stands_at source (omega arith) o; witnesses = stands_at source (omega arith) s₅ }

  -- which parts are allowed
  pub record Parts : Type 0 where
    pub inputs : Every InputAllowed x.inputs
    pub outputs : Every OutputAllowed x.outputs
    pub witnesses : MaybeAllowed (length x.inputs) (length x.outputs) x.witnesses

  pub parts_match : Parts → Matches (length x.inputs) (length x.outputs) x.witnesses
  parts_match g = allowed_matches (length x.inputs) (length x.outputs) x.witnesses g.witnesses

  module _ (g : Parts) (s : Standing) (z : Sizes) where
    pub input_records_lem : records 20 (length x.inputs) (tables_of z x).inputs ≡ input_rows x
    input_records_lem = records_rows 20 (input_rows x) (length x.inputs) _ (input_rows_wide x (parts_match g)) (input_rows_length x (parts_match g))

    pub output_records_lem : records 14 (length x.outputs) (tables_of z x).outputs ≡ output_rows x
    output_records_lem = records_rows 14 (output_rows x) (length x.outputs) _ (output_rows_wide x (parts_match g)) (output_rows_length x (parts_match g))

    pub item_records_lem : records 2 (item_count x.witnesses) (tables_of z x).items ≡ item_rows x
    item_records_lem = records_rows 2 (item_rows x) (item_count x.witnesses) _ (all_items_wide (witnesses_at x) x.witnesses) (all_items_length (witnesses_at x) x.witnesses)
