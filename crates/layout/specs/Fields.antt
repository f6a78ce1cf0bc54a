-- A transaction's fields in wire order, and refusal 2 by them. 01: "Number 2 is given with the last byte before the field (for a body, its length's last); a count's
-- first byte is a field, then its further bytes (both placed at the count's start)", and "the first fault wins".
use Rattle.std.specs.Prelude.{ℕ, ◌+◌, ◌^◌, ◌<◌, ◌≡◌, cond, List, [], ◌∷◌, ◌++◌, leb, length}
use Rattle.std.proofs.Math.Option.{Option, none, some}
use Rattle.layout.specs.Layout.{Answer, refused}
use Rattle.layout.specs.Transaction.{Head, Room, limit}
use Rattle.layout.specs.Contents.{Value, null, explicit, commitment, Token, absent, present, Issuance, Input, Output, InputWitness, OutputWitness, Witnesses, Contents, compact_bytes, flat, body_bytes, list_bytes, value_bytes, token_bytes, input_bytes, output_bytes, input_witness_bytes, output_witness_bytes, Every, InputAllowed, OutputAllowed, InputWitnessAllowed, OutputWitnessAllowed}
use Rattle.layout.specs.Records.{Fits}

-- A count or length is told by at most 8 bytes.
abbrev pub Short : {X : Type 0} → List X → Type 0
Short xs = length xs < 2 ^ 64

pub record InputFormed (x : Input) : Type 0 where
  pub allowed : InputAllowed x
  pub script : Short x.script

pub record OutputFormed (x : Output) : Type 0 where
  pub allowed : OutputAllowed x
  pub script : Short x.script

pub record InputWitnessFormed (x : InputWitness) : Type 0 where
  pub allowed : InputWitnessAllowed x
  pub amount_proof : Short x.amount_proof
  pub keys_proof : Short x.keys_proof
  pub script_count : Short x.script_items
  pub script_items : Every Short x.script_items
  pub pegin_count : Short x.pegin_items
  pub pegin_items : Every Short x.pegin_items

pub record OutputWitnessFormed (x : OutputWitness) : Type 0 where
  pub allowed : OutputWitnessAllowed x
  pub surjection_proof : Short x.surjection_proof
  pub range_proof : Short x.range_proof

-- A witness for each input and each output.
pub record WitnessesFormed (ins outs : ℕ) (x : Witnesses) : Type 0 where
  pub inputs_match : length x.inputs ≡ ins
  pub outputs_match : length x.outputs ≡ outs
  pub inputs : Every InputWitnessFormed x.inputs
  pub outputs : Every OutputWitnessFormed x.outputs

abbrev pub MaybeFormed : ℕ → ℕ → Option Witnesses → Type 0
MaybeFormed ins outs none = Unit {0}
MaybeFormed ins outs (some x) = WitnessesFormed ins outs x

-- What 01 would allow if it had no size limit and no refusal 8; and the tables have room for it.
pub record Formed (room : Room) (x : Contents) : Type 0 where
  pub version : x.version < 2 ^ 32
  pub input_count : Short x.inputs
  pub inputs : Every InputFormed x.inputs
  pub output_count : Short x.outputs
  pub outputs : Every OutputFormed x.outputs
  pub locktime : x.locktime < 2 ^ 32
  pub witnesses : MaybeFormed (length x.inputs) (length x.outputs) x.witnesses
  pub fits : Fits room x

-- Where a refusal of it is placed, where its bytes start, and where they end.
pub record Field : Type 0 where
  pub place : ℕ
  pub start : ℕ
  pub end : ℕ

abbrev pub field : ℕ → ℕ → ℕ → Field
field place start end = record { place = place; start = start; end = end }

-- so many bytes, placed at their own start
abbrev pub fixed : ℕ → ℕ → List Field
fixed at w = field at at (at + w) ∷ []

-- Count or length: the first byte, and further bytes above 252. Both are placed at the first.
abbrev pub compact_fields : ℕ → ℕ → List Field
compact_fields at n = field at at (at + 1) ∷ cond (leb n 252) [] (field at (at + 1) (at + length (compact_bytes n)) ∷ [])

-- Length, body. The body is placed at its length.
abbrev pub body_fields : ℕ → List ℕ → List Field
body_fields at xs =
    let at₁ = at + length (compact_bytes (length xs)) in
    compact_fields at (length xs) ++ (field at at₁ (at₁ + length xs) ∷ [])

-- A prefix is a field of its own.
abbrev pub value_fields : ℕ → Value → List Field
value_fields at null = fixed at 1
value_fields at (explicit v) = fixed at 1 ++ fixed (at + 1) 8
value_fields at (commitment prefix part) = fixed at 1 ++ fixed (at + 1) 32

abbrev pub token_fields : ℕ → Token → List Field
token_fields at absent = fixed at 1
token_fields at (present prefix part) = fixed at 1 ++ fixed (at + 1) 32

-- one behind the other
unfoldable pub fields_each : {X : Type 0} → (X → List ℕ) → (ℕ → X → List Field) → ℕ → List X → List Field
fields_each bytes fields at [] = []
fields_each bytes fields at (x ∷ xs) = fields at x ++ fields_each bytes fields (at + length (bytes x)) xs

-- Count, then so many.
abbrev pub list_fields : {X : Type 0} → (X → List ℕ) → (ℕ → X → List Field) → ℕ → List X → List Field
list_fields bytes fields at xs = compact_fields at (length xs) ++ fields_each bytes fields (at + length (compact_bytes (length xs))) xs

abbrev pub issuance_fields : ℕ → Option Issuance → List Field
issuance_fields at none = []
issuance_fields at (some x) = fixed at 32 ++ (fixed (at + 32) 32 ++ (value_fields (at + 64) x.amount ++ value_fields (at + 64 + length (value_bytes x.amount)) x.keys))

abbrev pub input_fields : ℕ → Input → List Field
input_fields at x =
    let at₁ = at + 36 + length (body_bytes x.script) in
    fixed at 32 ++ (fixed (at + 32) 4 ++ (body_fields (at + 36) x.script ++ (fixed at₁ 4 ++ issuance_fields (at₁ + 4) x.issuance)))

abbrev pub output_fields : ℕ → Output → List Field
output_fields at x =
    let at₁ = at + length (token_bytes x.asset) in
    let at₂ = at₁ + length (value_bytes x.value) in
    let at₃ = at₂ + length (token_bytes x.nonce) in
    token_fields at x.asset ++ (value_fields at₁ x.value ++ (token_fields at₂ x.nonce ++ body_fields at₃ x.script))

abbrev pub input_witness_fields : ℕ → InputWitness → List Field
input_witness_fields at x =
    let at₁ = at + length (body_bytes x.amount_proof) in
    let at₂ = at₁ + length (body_bytes x.keys_proof) in
    let at₃ = at₂ + length (list_bytes body_bytes x.script_items) in
    body_fields at x.amount_proof ++ (body_fields at₁ x.keys_proof ++ (list_fields body_bytes body_fields at₂ x.script_items ++ list_fields body_bytes body_fields at₃ x.pegin_items))

abbrev pub output_witness_fields : ℕ → OutputWitness → List Field
output_witness_fields at x = body_fields at x.surjection_proof ++ body_fields (at + length (body_bytes x.surjection_proof)) x.range_proof

abbrev pub witnesses_fields : ℕ → Option Witnesses → List Field
witnesses_fields at none = []
witnesses_fields at (some x) = fields_each input_witness_bytes input_witness_fields at x.inputs ++ fields_each output_witness_bytes output_witness_fields (at + length (flat input_witness_bytes x.inputs)) x.outputs

-- Version, witness flag, count and inputs, count and outputs, locktime, witnesses.
abbrev pub fields_of : ℕ → Contents → List Field
fields_of at x =
    let at₁ = at + 5 in
    let at₂ = at₁ + length (list_bytes input_bytes x.inputs) in
    let at₃ = at₂ + length (list_bytes output_bytes x.outputs) in
    fixed at 4 ++ (fixed (at + 4) 1 ++ (list_fields input_bytes input_fields at₁ x.inputs ++ (list_fields output_bytes output_fields at₂ x.outputs ++ (fixed at₃ 4 ++ witnesses_fields (at₃ + 4) x.witnesses))))

-- An answer and the bytes taken: 2 at the first field that would end past 4,000,000, with the last byte before it; if there is none, these.
unfoldable pub limited : List Field → Answer Head × ℕ → Answer Head × ℕ
limited [] v = v
limited (f ∷ fs) v = cond (leb f.end limit) (limited fs v) (refused 2 f.place, f.start)
