-- When each number of a transaction's records enters its table, told beside Records, column for column. 01: "A number enters its table when its
-- field's last byte is taken (for a body, its length's last byte); other numbers stay 0. A prefix is a field of its own, entered with its
-- position. Flags enter with vout, the issuance position with the blinding nonce, the first item's index with the script count."
use Rattle.std.specs.Prelude.{ℕ, ◌+◌, Bool, cond, List, [], ◌∷◌, ◌++◌, leb, length, replicate}
use Rattle.std.proofs.Math.Option.{Option, none, some}
use Rattle.layout.specs.Outcome.{Tables, Sizes}
use Rattle.layout.specs.Contents.{Issuance, Input, Output, InputWitness, OutputWitness, Witnesses, Contents, compact_bytes, flat, body_bytes, list_bytes, value_bytes, token_bytes, input_bytes, output_bytes, input_witness_bytes, output_witness_bytes}
use Rattle.layout.specs.Records.{placed, beside, inputs_at, outputs_at, witnesses_at, table, tables_of}

-- ---- moments of a record's numbers: how many bytes are taken by then. A field that isn't present has 0 before and after, any will do.

-- behind a count or length that starts at a position
abbrev pub counted : {X : Type 0} → ℕ → List X → ℕ
counted at xs = at + length (compact_bytes (length xs))

-- A body's position and length: with its length's last byte.
abbrev pub body_moments : ℕ → List ℕ → List ℕ
body_moments at xs = counted at xs ∷ counted at xs ∷ []

-- A prefix is one byte, the amount the 8 behind it: prefix, high, low.
abbrev pub value_moments : ℕ → List ℕ
value_moments at = (at + 1) ∷ (at + 9) ∷ (at + 9) ∷ []

-- The issuance position enters with the blinding nonce. Behind that stand 32 bytes of entropy, then the amount, then the keys.
abbrev pub issuance_moments : ℕ → Option Issuance → List ℕ
issuance_moments at none = replicate 7 at
issuance_moments at (some x) = (at + 32) ∷ (value_moments (at + 64) ++ value_moments (at + 64 + length (value_bytes x.amount)))

-- Txid, 32 bytes; vout, 4, and flags with it; script; sequence, 4 behind the script's body; issuance.
abbrev pub input_moments : ℕ → Input → List ℕ
input_moments at x =
    let at₁ = at + 36 + length (body_bytes x.script) + 4 in
    (at + 32) ∷ (at + 36) ∷ (at + 36) ∷ (body_moments (at + 36) x.script ++ (at₁ ∷ issuance_moments at₁ x.issuance))

-- The first item's index enters with the script count; the pegin count stands behind the script items.
abbrev pub input_witness_moments : ℕ → InputWitness → List ℕ
input_witness_moments at x =
    let at₁ = at + length (body_bytes x.amount_proof) in
    let at₂ = at₁ + length (body_bytes x.keys_proof) in
    let at₃ = at₂ + length (list_bytes body_bytes x.script_items) in
    body_moments at x.amount_proof
    ++ (body_moments at₁ x.keys_proof ++ (counted at₂ x.script_items ∷ counted at₂ x.script_items ∷ counted at₃ x.pegin_items ∷ []))

-- Each prefix with its position.
abbrev pub output_moments : ℕ → Output → List ℕ
output_moments at x =
    let at₁ = at + length (token_bytes x.asset) in
    let at₂ = at₁ + length (value_bytes x.value) in
    let at₃ = at₂ + length (token_bytes x.nonce) in
    (at + 1) ∷ (at + 1) ∷ (at₁ + 1) ∷ (at₁ + 1) ∷ (at₁ + 9) ∷ (at₁ + 9) ∷ (at₂ + 1) ∷ (at₂ + 1) ∷ body_moments at₃ x.script

abbrev pub output_witness_moments : ℕ → OutputWitness → List ℕ
output_witness_moments at x = body_moments at x.surjection_proof ++ body_moments (at + length (body_bytes x.surjection_proof)) x.range_proof

-- ---- beside the records, in wire order

abbrev pub stack_moments : ℕ → List (List ℕ) → List (List ℕ)
stack_moments at xs = placed body_bytes body_moments (counted at xs) xs

abbrev pub witness_item_moments : ℕ → InputWitness → List (List ℕ)
witness_item_moments at x =
    let at₁ = at + length (body_bytes x.amount_proof) + length (body_bytes x.keys_proof) in
    stack_moments at₁ x.script_items ++ stack_moments (at₁ + length (list_bytes body_bytes x.script_items)) x.pegin_items

unfoldable pub witnesses_item_moments : ℕ → List InputWitness → List (List ℕ)
witnesses_item_moments at [] = []
witnesses_item_moments at (x ∷ xs) = witness_item_moments at x ++ witnesses_item_moments (at + length (input_witness_bytes x)) xs

abbrev pub all_input_witness_moments : ℕ → ℕ → Option Witnesses → List (List ℕ)
all_input_witness_moments at n none = replicate n (replicate 7 at)
all_input_witness_moments at n (some x) = placed input_witness_bytes input_witness_moments at x.inputs

abbrev pub all_output_witness_moments : ℕ → ℕ → Option Witnesses → List (List ℕ)
all_output_witness_moments at n none = replicate n (replicate 4 at)
all_output_witness_moments at n (some x) = placed output_witness_bytes output_witness_moments (at + length (flat input_witness_bytes x.inputs)) x.outputs

abbrev pub all_item_moments : ℕ → Option Witnesses → List (List ℕ)
all_item_moments at none = []
all_item_moments at (some x) = witnesses_item_moments at x.inputs

-- Tables of moments: where `tables_of` has a number, its moment.
abbrev pub moments_of : Sizes → Contents → Tables
moments_of z x =
    record {
      inputs = table z.inputs (beside (placed input_bytes input_moments (inputs_at x) x.inputs) (all_input_witness_moments (witnesses_at x) (length x.inputs) x.witnesses));
      outputs = table z.outputs (beside (placed output_bytes output_moments (outputs_at x) x.outputs) (all_output_witness_moments (witnesses_at x) (length x.outputs) x.witnesses));
      items = table z.items (all_item_moments (witnesses_at x) x.witnesses);
    }

-- ---- a transaction's tables so far

-- the numbers whose moment has come, 0 for the others
unfoldable pub kept : (ℕ → Bool) → List ℕ → List ℕ → List ℕ
kept come [] ns = []
kept come (m ∷ ms) [] = []
kept come (m ∷ ms) (n ∷ ns) = cond (come m) n 0 ∷ kept come ms ns

abbrev pub kept_in : (ℕ → Bool) → Tables → Tables → Tables
kept_in come m t = record { inputs = kept come m.inputs t.inputs; outputs = kept come m.outputs t.outputs; items = kept come m.items t.items }

-- once k bytes are taken
abbrev pub tables_by : ℕ → Sizes → Contents → Tables
tables_by k z x = kept_in (λ m. leb m k) (moments_of z x) (tables_of z x)
