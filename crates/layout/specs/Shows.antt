-- What it is that head numbers and tables over a source show a transaction: 01's tables and where its writing finds each body, said of
-- the transaction. Nothing here judges or writes.
use Rattle.std.specs.Prelude.{ℕ, zero, suc, ◌+◌, ◌*◌, ◌≤◌, ◌≡◌, List, [], ◌∷◌, ◌++◌, length, take, drop}
use Rattle.std.proofs.Math.Option.{Option, none, some}
use Rattle.layout.specs.Layout.{input, output, item}
use Rattle.layout.specs.Transaction.{Head}
use Rattle.layout.specs.Outcome.{Tables, width}
use Rattle.layout.specs.Contents.{Value, null, explicit, commitment, Token, absent, present, Issuance, Input, Output, InputWitness, OutputWitness, Witnesses, Contents, value_bytes, flag_of, Every}
use Rattle.layout.specs.Records.{items_of, item_count, value_prefix, high, low, token_prefix}
use Rattle.layout.specs.Writing.{◌!◌, input_records, output_records, item_records}

-- A body is the source's bytes at a position, and lies in the source.
pub record From (source : List ℕ) (at : ℕ) (xs : List ℕ) : Type 0 where
  pub same : take (length xs) (drop at source) ≡ xs
  pub within : at + length xs ≤ length source

-- A commitment's, asset's or nonce's body starts after its prefix's position. Positions of null fields and of an explicit value are not read.
abbrev pub ValueFrom : List ℕ → ℕ → Value → Type 0
ValueFrom source at null = Unit {0}
ValueFrom source at (explicit v) = Unit {0}
ValueFrom source at (commitment prefix part) = From source (at + 1) part

abbrev pub TokenFrom : List ℕ → ℕ → Token → Type 0
TokenFrom source at absent = Unit {0}
TokenFrom source at (present prefix part) = From source (at + 1) part

-- So many numbers, from a column on, are 0.
abbrev pub Zeros : List ℕ → ℕ → ℕ → Type 0
Zeros r column zero = Unit {0}
Zeros r column (suc n) = (r ! column ≡ 0) × Zeros r (suc column) n

-- In an issuance, amount starts 64 after its position and keys after the amount; the whole field lies in the source.
pub record IssuanceShown (source r : List ℕ) (x : Issuance) : Type 0 where
  pub blinding_nonce : From source (r ! 6) x.blinding_nonce
  pub entropy : From source (r ! 6 + 32) x.entropy
  pub amount_prefix : r ! 7 ≡ value_prefix x.amount
  pub amount_high : r ! 8 ≡ high x.amount
  pub amount_low : r ! 9 ≡ low x.amount
  pub amount : ValueFrom source (r ! 6 + 64) x.amount
  pub keys_prefix : r ! 10 ≡ value_prefix x.keys
  pub keys_high : r ! 11 ≡ high x.keys
  pub keys_low : r ! 12 ≡ low x.keys
  pub keys : ValueFrom source (r ! 6 + 64 + length (value_bytes x.amount)) x.keys
  pub whole : r ! 6 + 64 + length (value_bytes x.amount) + length (value_bytes x.keys) ≤ length source

-- A field not present has 0.
abbrev pub MaybeIssuance : List ℕ → List ℕ → Option Issuance → Type 0
MaybeIssuance source r none = Zeros r 6 7
MaybeIssuance source r (some x) = IssuanceShown source r x

pub record InputShown (source r : List ℕ) (x : Input) : Type 0 where
  pub txid : From source (r ! 0) x.txid
  pub vout : r ! 1 ≡ x.vout
  pub flags : r ! 2 ≡ x.flags
  pub script : From source (r ! 3) x.script
  pub script_length : r ! 4 ≡ length x.script
  pub sequence : r ! 5 ≡ x.sequence
  pub issuance : MaybeIssuance source r x.issuance

pub record OutputShown (source r : List ℕ) (x : Output) : Type 0 where
  pub asset_prefix : r ! 0 ≡ token_prefix x.asset
  pub asset : TokenFrom source (r ! 1) x.asset
  pub value_prefix : r ! 2 ≡ value_prefix x.value
  pub value : ValueFrom source (r ! 3) x.value
  pub value_high : r ! 4 ≡ high x.value
  pub value_low : r ! 5 ≡ low x.value
  pub nonce_prefix : r ! 6 ≡ token_prefix x.nonce
  pub nonce : TokenFrom source (r ! 7) x.nonce
  pub script : From source (r ! 8) x.script
  pub script_length : r ! 9 ≡ length x.script

-- The first item's index is the number of earlier items.
pub record InputWitnessShown (source : List ℕ) (first : ℕ) (r : List ℕ) (x : InputWitness) : Type 0 where
  pub amount_proof : From source (r ! 13) x.amount_proof
  pub amount_proof_length : r ! 14 ≡ length x.amount_proof
  pub keys_proof : From source (r ! 15) x.keys_proof
  pub keys_proof_length : r ! 16 ≡ length x.keys_proof
  pub first_item : r ! 17 ≡ first
  pub script_items : r ! 18 ≡ length x.script_items
  pub pegin_items : r ! 19 ≡ length x.pegin_items

pub record OutputWitnessShown (source r : List ℕ) (x : OutputWitness) : Type 0 where
  pub surjection_proof : From source (r ! 10) x.surjection_proof
  pub surjection_proof_length : r ! 11 ≡ length x.surjection_proof
  pub range_proof : From source (r ! 12) x.range_proof
  pub range_proof_length : r ! 13 ≡ length x.range_proof

pub record ItemShown (source r x : List ℕ) : Type 0 where
  pub body : From source (r ! 0) x
  pub body_length : r ! 1 ≡ length x

-- all items, in wire order
unfoldable pub wire_items : List InputWitness → List (List ℕ)
wire_items [] = []
wire_items (x ∷ xs) = (x.script_items ++ x.pegin_items) ++ wire_items xs

-- one by one
abbrev pub Each : {X : Type 0} → (List ℕ → X → Type 0) → List (List ℕ) → List X → Type 0
Each P [] [] = Unit {0}
Each P [] (x ∷ xs) = ⊥
Each P (r ∷ rs) [] = ⊥
Each P (r ∷ rs) (x ∷ xs) = P r x × Each P rs xs

-- the same, with the number of earlier items
abbrev pub EachWitness : List ℕ → ℕ → List (List ℕ) → List InputWitness → Type 0
EachWitness source first [] [] = Unit {0}
EachWitness source first [] (x ∷ xs) = ⊥
EachWitness source first (r ∷ rs) [] = ⊥
EachWitness source first (r ∷ rs) (x ∷ xs) = InputWitnessShown source first r x × EachWitness source (first + items_of x) rs xs

pub record WitnessesShown (h : Head) (t : Tables) (source : List ℕ) (x : Witnesses) : Type 0 where
  pub inputs : EachWitness source 0 (input_records h t) x.inputs
  pub outputs : Each (OutputWitnessShown source) (output_records h t) x.outputs
  pub items : Each (ItemShown source) (item_records h t) (wire_items x.inputs)

-- With flag 0 all witness numbers are 0.
pub record NoWitness (h : Head) (t : Tables) : Type 0 where
  pub inputs : Every (λ r. Zeros r 13 7) (input_records h t)
  pub outputs : Every (λ r. Zeros r 10 4) (output_records h t)

abbrev pub MaybeWitnesses : Head → Tables → List ℕ → Option Witnesses → Type 0
MaybeWitnesses h t source none = NoWitness h t
MaybeWitnesses h t source (some x) = WitnessesShown h t source x

-- The head's length in bytes, and records behind the counts, aren't read.
pub record Shows (h : Head) (t : Tables) (source : List ℕ) (x : Contents) : Type 0 where
  pub version : h.version ≡ x.version
  pub flag : h.flag ≡ flag_of x.witnesses
  pub inputs : h.inputs ≡ length x.inputs
  pub outputs : h.outputs ≡ length x.outputs
  pub items : h.items ≡ item_count x.witnesses
  pub locktime : h.locktime ≡ x.locktime
  pub inputs_held : width input * h.inputs ≤ length t.inputs
  pub outputs_held : width output * h.outputs ≤ length t.outputs
  pub items_held : width item * h.items ≤ length t.items
  pub input_records : Each (InputShown source) (input_records h t) x.inputs
  pub output_records : Each (OutputShown source) (output_records h t) x.outputs
  pub witness_records : MaybeWitnesses h t source x.witnesses
