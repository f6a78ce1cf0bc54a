-- What the functions that put bytes need of each other: nothing public cites it.
use Rattle.std.specs.Prelude.{ℕ, ◌+◌, ◌≤◌, ◌<◌, ◌≡◌, false, cond, eqb, List, [], ◌∷◌, ◌++◌, map, length, take, drop}
use Rattle.std.proofs.Math.Option.{Option, none, some}
use Rattle.layout.specs.Number.{little, bytes_of}
use Rattle.layout.specs.Contents.{Every, Issuance, confused, flat, compact_bytes, input_bytes, output_bytes, input_witness_bytes, output_witness_bytes}
use Rattle.layout.specs.Writing.{over, ◌!◌, issues, issuance_of, value_width, record_items, input_of, output_of, item_of, input_witness_of, output_witness_of}
use Rattle.encoders.specs.declared.table.Transaction.{Transaction}

pub record Room (bytes out : List ℕ) (k : ℕ) : Type 0 where
  pub room : k + length bytes ≤ length out

-- the bytes, put into a slice at k, and where the next ones go
pub record Puts (bytes out : List ℕ) (k : ℕ) (out' : List ℕ) (n : ℕ) : Type 0 where
  pub next : n ≡ k + length bytes
  pub same : out' ≡ take k out ++ over bytes (drop k out)

-- A prefix is a byte; from the least that has 32 bytes behind it on, they lie in the source.
pub record Prefixed (least there at prefix : ℕ) : Type 0 where
  pub byte : prefix < 256
  pub lies : least ≤ prefix → at + 33 ≤ there

abbrev pub issuance_in : List ℕ → List ℕ → Option Issuance
issuance_in source r = cond (issues r) (some (issuance_of source r)) none

pub record IssuanceLies (there : ℕ) (r : List ℕ) : Type 0 where
  pub parts : r ! 6 + 64 ≤ there
  pub amount : Prefixed 2 there (r ! 6 + 64) (r ! 7)
  pub keys : Prefixed 2 there (r ! 6 + 64 + value_width (r ! 7)) (r ! 10)

pub record IssuanceReady (there : ℕ) (r : List ℕ) : Type 0 where
  pub lies : 2 ≤ r ! 2 → IssuanceLies there r

-- What a record must be like to be put: its parts lie in the source, of which so many bytes are there.
pub record InputReady (there : ℕ) (r : List ℕ) : Type 0 where
  pub txid : r ! 0 + 32 ≤ there
  pub flags : r ! 2 ≤ 3
  pub outpoint : confused (r ! 1) (r ! 2) ≡ false
  pub script : r ! 3 + r ! 4 ≤ there
  pub issuance : IssuanceReady there r

pub record OutputReady (there : ℕ) (r : List ℕ) : Type 0 where
  pub asset : Prefixed 1 there (r ! 1) (r ! 0)
  pub value : Prefixed 2 there (r ! 3) (r ! 2)
  pub nonce : Prefixed 1 there (r ! 7) (r ! 6)
  pub script : r ! 8 + r ! 9 ≤ there

pub record OutputWitnessReady (there : ℕ) (r : List ℕ) : Type 0 where
  pub surjection_proof : r ! 10 + r ! 11 ≤ there
  pub range_proof : r ! 12 + r ! 13 ≤ there

pub record ItemReady (there : ℕ) (r : List ℕ) : Type 0 where
  pub lies : r ! 0 + r ! 1 ≤ there

-- so many items are there
pub record InputWitnessReady (there items : ℕ) (r : List ℕ) : Type 0 where
  pub amount_proof : r ! 13 + r ! 14 ≤ there
  pub keys_proof : r ! 15 + r ! 16 ≤ there
  pub stacks : r ! 17 + record_items r ≤ items

-- ---- what is put of a record

abbrev pub input_row_bytes : List ℕ → List ℕ → List ℕ
input_row_bytes source r = input_bytes (input_of source r)

abbrev pub output_row_bytes : List ℕ → List ℕ → List ℕ
output_row_bytes source r = output_bytes (output_of source r)

abbrev pub witness_row_bytes : List ℕ → List (List ℕ) → List ℕ → List ℕ
witness_row_bytes source items r = input_witness_bytes (input_witness_of source (map (item_of source) items) r)

abbrev pub output_witness_row_bytes : List ℕ → List ℕ → List ℕ
output_witness_row_bytes source r = output_witness_bytes (output_witness_of source r)

-- ---- a whole transaction

-- Its witnesses can be put.
pub record WitnessesReady (there : ℕ) (x : Transaction) : Type 0 where
  pub items : Every (ItemReady there) x.items.now
  pub inputs : Every (InputWitnessReady there (length x.items.now)) x.inputs.now
  pub outputs : Every (OutputWitnessReady there) x.outputs.now

-- What pass 1 has judged: every record can be put, and with the flag its witness.
pub record TransactionReady (there : ℕ) (x : Transaction) : Type 0 where
  pub flag : x.head.flag ≤ 1
  pub inputs : Every (InputReady there) x.inputs.now
  pub outputs : Every (OutputReady there) x.outputs.now
  pub witnesses : (x.head.flag ≡ 0 → ⊥) → WitnessesReady there x

-- both rows of witnesses, where the flag says so
abbrev pub witness_rows : List ℕ → Transaction → List ℕ
witness_rows source x =
    cond (eqb x.head.flag 0) [] (flat (witness_row_bytes source x.items.now) x.inputs.now ++ flat (output_witness_row_bytes source) x.outputs.now)

-- Of a transaction that pass 1 has judged these are the layout's: Whole, `as_written`.
unfoldable pub transaction_bytes : List ℕ → Transaction → List ℕ
transaction_bytes source x =
    bytes_of little 4 x.head.version
    ++ ((x.head.flag ∷ [])
    ++ (compact_bytes x.head.inputs
    ++ (flat (input_row_bytes source) x.inputs.now
    ++ (compact_bytes x.head.outputs
    ++ (flat (output_row_bytes source) x.outputs.now ++ (bytes_of little 4 x.head.locktime ++ witness_rows source x))))))
