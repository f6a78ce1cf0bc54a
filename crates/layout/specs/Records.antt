-- A transaction's head numbers and records, from what it holds: the tables section of 01 seen from the transaction, not from its reading.
use Rattle.std.specs.Prelude.{ℕ, ◌+◌, ◌-◌, ◌/◌, ◌%◌, ◌^◌, ◌≤◌, List, [], ◌∷◌, ◌++◌, length, replicate}
use Rattle.std.proofs.Math.Option.{Option, none, some}
use Rattle.layout.specs.Transaction.{Head, Room}
use Rattle.layout.specs.Outcome.{Tables, Sizes}
use Rattle.layout.specs.Contents.{Value, null, explicit, commitment, Token, absent, present, Issuance, Input, Output, InputWitness, OutputWitness, Witnesses, Contents, compact_bytes, flat, body_bytes, list_bytes, value_bytes, token_bytes, input_bytes, output_bytes, input_witness_bytes, output_witness_bytes, flag_of, contents_bytes}

abbrev pub items_of : InputWitness → ℕ
items_of x = length x.script_items + length x.pegin_items

unfoldable pub sum : {X : Type 0} → (X → ℕ) → List X → ℕ
sum f [] = 0
sum f (x ∷ xs) = f x + sum f xs

abbrev pub item_count : Option Witnesses → ℕ
item_count none = 0
item_count (some x) = sum items_of x.inputs

abbrev pub head_of : Contents → Head
head_of x =
    record {
      version = x.version;
      flag = flag_of x.witnesses;
      inputs = length x.inputs;
      outputs = length x.outputs;
      items = item_count x.witnesses;
      locktime = x.locktime;
      bytes = length (contents_bytes x);
    }

-- The tables have room for it.
pub record Fits (room : Room) (x : Contents) : Type 0 where
  pub inputs : length x.inputs ≤ room.inputs
  pub outputs : length x.outputs ≤ room.outputs
  pub items : item_count x.witnesses ≤ room.items

-- ---- numbers of a record; what they tell of starts at a position

-- A body's position, behind its length, and its length.
abbrev pub body_columns : ℕ → List ℕ → List ℕ
body_columns at xs = (at + length (compact_bytes (length xs))) ∷ length xs ∷ []

abbrev pub value_prefix : Value → ℕ
value_prefix null = 0
value_prefix (explicit v) = 1
value_prefix (commitment prefix part) = prefix

-- High and low are 0 unless the prefix is 1.
abbrev pub high : Value → ℕ
high null = 0
high (explicit v) = v / 2 ^ 32
high (commitment prefix part) = 0

abbrev pub low : Value → ℕ
low null = 0
low (explicit v) = v % 2 ^ 32
low (commitment prefix part) = 0

abbrev pub token_prefix : Token → ℕ
token_prefix absent = 0
token_prefix (present prefix part) = prefix

abbrev pub issuance_columns : ℕ → Option Issuance → List ℕ
issuance_columns at none = replicate 7 0
issuance_columns at (some x) =
    at ∷ value_prefix x.amount ∷ high x.amount ∷ low x.amount ∷ value_prefix x.keys ∷ high x.keys ∷ low x.keys ∷ []

-- The first 13 numbers of an input record, and the 7 of its witness.
abbrev pub input_columns : ℕ → Input → List ℕ
input_columns at x =
    at ∷ x.vout ∷ x.flags ∷ (body_columns (at + 36) x.script ++ (x.sequence ∷ issuance_columns (at + 36 + length (body_bytes x.script) + 4) x.issuance))

abbrev pub input_witness_columns : ℕ → ℕ → InputWitness → List ℕ
input_witness_columns first at x =
    body_columns at x.amount_proof
    ++ (body_columns (at + length (body_bytes x.amount_proof)) x.keys_proof ++ (first ∷ length x.script_items ∷ length x.pegin_items ∷ []))

-- The first 10 numbers of an output record, and the 4 of its witness.
abbrev pub output_columns : ℕ → Output → List ℕ
output_columns at x =
    let at₁ = at + length (token_bytes x.asset) in
    let at₂ = at₁ + length (value_bytes x.value) in
    let at₃ = at₂ + length (token_bytes x.nonce) in
    token_prefix x.asset ∷ at ∷ value_prefix x.value ∷ at₁ ∷ high x.value ∷ low x.value ∷ token_prefix x.nonce ∷ at₂ ∷ body_columns at₃ x.script

abbrev pub output_witness_columns : ℕ → OutputWitness → List ℕ
output_witness_columns at x = body_columns at x.surjection_proof ++ body_columns (at + length (body_bytes x.surjection_proof)) x.range_proof

-- ---- records, in wire order

-- of each, one behind the other
unfoldable pub placed : {X : Type 0} → (X → List ℕ) → (ℕ → X → List ℕ) → ℕ → List X → List (List ℕ)
placed bytes columns at [] = []
placed bytes columns at (x ∷ xs) = columns at x ∷ placed bytes columns (at + length (bytes x)) xs

-- The first item's index is the sum of earlier items.
unfoldable pub placed_witnesses : ℕ → ℕ → List InputWitness → List (List ℕ)
placed_witnesses first at [] = []
placed_witnesses first at (x ∷ xs) = input_witness_columns first at x ∷ placed_witnesses (first + items_of x) (at + length (input_witness_bytes x)) xs

-- A stack's items stand behind its count.
abbrev pub stack_records : ℕ → List (List ℕ) → List (List ℕ)
stack_records at xs = placed body_bytes body_columns (at + length (compact_bytes (length xs))) xs

-- The script items stand behind the two proofs, the pegin items behind them.
abbrev pub witness_items : ℕ → InputWitness → List (List ℕ)
witness_items at x =
    let at₁ = at + length (body_bytes x.amount_proof) + length (body_bytes x.keys_proof) in
    stack_records at₁ x.script_items ++ stack_records (at₁ + length (list_bytes body_bytes x.script_items)) x.pegin_items

unfoldable pub witnesses_items : ℕ → List InputWitness → List (List ℕ)
witnesses_items at [] = []
witnesses_items at (x ∷ xs) = witness_items at x ++ witnesses_items (at + length (input_witness_bytes x)) xs

unfoldable pub beside : List (List ℕ) → List (List ℕ) → List (List ℕ)
beside [] ys = []
beside (x ∷ xs) [] = []
beside (x ∷ xs) (y ∷ ys) = (x ++ y) ∷ beside xs ys

-- where the inputs, the outputs and the witnesses start
abbrev pub inputs_at : Contents → ℕ
inputs_at x = 5 + length (compact_bytes (length x.inputs))

abbrev pub outputs_at : Contents → ℕ
outputs_at x = 5 + length (list_bytes input_bytes x.inputs) + length (compact_bytes (length x.outputs))

abbrev pub witnesses_at : Contents → ℕ
witnesses_at x = 5 + length (list_bytes input_bytes x.inputs) + length (list_bytes output_bytes x.outputs) + 4

-- With flag 0 all witness numbers are 0.
abbrev pub input_witness_records : ℕ → ℕ → Option Witnesses → List (List ℕ)
input_witness_records at n none = replicate n (replicate 7 0)
input_witness_records at n (some x) = placed_witnesses 0 at x.inputs

abbrev pub output_witness_records : ℕ → ℕ → Option Witnesses → List (List ℕ)
output_witness_records at n none = replicate n (replicate 4 0)
output_witness_records at n (some x) = placed output_witness_bytes output_witness_columns (at + length (flat input_witness_bytes x.inputs)) x.outputs

abbrev pub all_items : ℕ → Option Witnesses → List (List ℕ)
all_items at none = []
all_items at (some x) = witnesses_items at x.inputs

-- Records, and then zeros up to the table's size.
abbrev pub table : ℕ → List (List ℕ) → List ℕ
table size rows = flat (λ r. r) rows ++ replicate (size - length (flat (λ r. r) rows)) 0

abbrev pub tables_of : Sizes → Contents → Tables
tables_of z x =
    record {
      inputs = table z.inputs (beside (placed input_bytes input_columns (inputs_at x) x.inputs) (input_witness_records (witnesses_at x) (length x.inputs) x.witnesses));
      outputs = table z.outputs (beside (placed output_bytes output_columns (outputs_at x) x.outputs) (output_witness_records (witnesses_at x) (length x.outputs) x.witnesses));
      items = table z.items (all_items (witnesses_at x) x.witnesses);
    }
