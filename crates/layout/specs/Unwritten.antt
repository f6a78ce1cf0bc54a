-- 01's table "Numbers at the gate", for the numbers that writing gives: what the head, the tables and the source show where one is given, and
-- its place. (14, which is the output's: Writing.)
use Rattle.std.specs.Prelude.{ℕ, zero, suc, ◌+◌, ◌*◌, ◌<◌, ◌≤◌, ◌≡◌, ◌≢◌, Bool, true, List, length, take, drop}
use Rattle.layout.specs.Transaction.{Head, limit}
use Rattle.layout.specs.Outcome.{Tables}
use Rattle.layout.specs.Refusals.{listed_value, listed_asset, listed_nonce}
use Rattle.layout.specs.Writing.{◌!◌, value_width, written_bytes}
use Rattle.layout.specs.Shows.{Zeros}

-- ---- 13: the tables' rules, and that position plus length stays in the source, of which so many bytes are there

-- Prefix listed. High and low are 0 unless the amount is explicit.
pub record ValueKept (prefix high low : ℕ) : Type 0 where
  pub known : listed_value prefix ≡ true
  pub halves : prefix ≢ 1 → (high ≡ 0) × (low ≡ 0)

-- An asset or a nonce: with its prefix it has 33 bytes, if it isn't null.
pub record TokenKept (listed : ℕ → Bool) (there at prefix : ℕ) : Type 0 where
  pub known : listed prefix ≡ true
  pub lies : prefix ≢ 0 → at + 33 ≤ there

-- The whole field must lie in the source.
pub record IssuanceKept (there : ℕ) (r : List ℕ) : Type 0 where
  pub whole : r ! 6 + 64 + value_width (r ! 7) + value_width (r ! 10) ≤ there
  pub amount : ValueKept (r ! 7) (r ! 8) (r ! 9)
  pub keys : ValueKept (r ! 10) (r ! 11) (r ! 12)

-- First is the sum of earlier items.
pub record InputKept (flag there first : ℕ) (r : List ℕ) : Type 0 where
  pub txid : r ! 0 + 32 ≤ there
  pub flags : r ! 2 ≤ 3
  pub script : r ! 3 + r ! 4 ≤ there
  pub issuance : 2 ≤ r ! 2 → IssuanceKept there r
  pub no_issuance : r ! 2 < 2 → Zeros r 6 7
  pub amount_proof : flag ≡ 1 → r ! 13 + r ! 14 ≤ there
  pub keys_proof : flag ≡ 1 → r ! 15 + r ! 16 ≤ there
  pub first_item : flag ≡ 1 → r ! 17 ≡ first
  pub no_witness : flag ≢ 1 → Zeros r 13 7

pub record OutputKept (flag there : ℕ) (r : List ℕ) : Type 0 where
  pub asset : TokenKept listed_asset there (r ! 1) (r ! 0)
  pub value : ValueKept (r ! 2) (r ! 4) (r ! 5)
  pub value_lies : 1 < r ! 2 → r ! 3 + 33 ≤ there
  pub nonce : TokenKept listed_nonce there (r ! 7) (r ! 6)
  pub script : r ! 8 + r ! 9 ≤ there
  pub surjection_proof : flag ≡ 1 → r ! 10 + r ! 11 ≤ there
  pub range_proof : flag ≡ 1 → r ! 12 + r ! 13 ≤ there
  pub no_witness : flag ≢ 1 → Zeros r 10 4

pub record ItemKept (flag there : ℕ) (r : List ℕ) : Type 0 where
  pub body : flag ≡ 1 → r ! 0 + r ! 1 ≤ there
  pub no_body : flag ≢ 1 → Zeros r 0 2

-- ---- 12: vout at or above 1,073,741,824 except 0xffffffff; 0xffffffff with a flag; 1,073,741,823 with both flags

pub data Unclear (vout flags : ℕ) : Type 0 where
  large : 1073741824 ≤ vout → vout ≢ 0xffff_ffff → Unclear vout flags
  ones : vout ≡ 0xffff_ffff → flags ≢ 0 → Unclear vout flags
  both : vout ≡ 1073741823 → flags ≡ 3 → Unclear vout flags

-- ---- 6: issuance flag, null issuance

abbrev pub NullIssuance : List ℕ → Type 0
NullIssuance r = (2 ≤ r ! 2) × (r ! 7 ≡ 0) × (r ! 10 ≡ 0)

-- Each record 13 before 12 before 6.
pub data InputFault (flag there first : ℕ) (r : List ℕ) (number : ℕ) : Type 0 where
  breaks : number ≡ 13 → (InputKept flag there first r → ⊥) → InputFault flag there first r number
  unclear : number ≡ 12 → InputKept flag there first r → Unclear (r ! 1) (r ! 2) → InputFault flag there first r number
  null_issuance : number ≡ 6 → InputKept flag there first r → (Unclear (r ! 1) (r ! 2) → ⊥) → NullIssuance r → InputFault flag there first r number

pub record InputFine (flag there first : ℕ) (r : List ℕ) : Type 0 where
  pub kept : InputKept flag there first r
  pub clear : Unclear (r ! 1) (r ! 2) → ⊥
  pub values : NullIssuance r → ⊥

-- A witness is empty if its proofs have length 0 and its stacks have no items.
abbrev pub EmptyInput : List ℕ → Type 0
EmptyInput r = (r ! 14 ≡ 0) × (r ! 16 ≡ 0) × (r ! 18 ≡ 0) × (r ! 19 ≡ 0)

abbrev pub EmptyOutput : List ℕ → Type 0
EmptyOutput r = (r ! 11 ≡ 0) × (r ! 13 ≡ 0)

-- The script and pegin items of the first records of an input table.
abbrev pub items_in : ℕ → List ℕ → ℕ
items_in zero xs = 0
items_in (suc n) xs = xs ! 18 + xs ! 19 + items_in n (drop 20 xs)

-- record i of each table
abbrev pub input_at : Tables → ℕ → List ℕ
input_at t i = take 20 (drop (20 * i) t.inputs)

abbrev pub output_at : Tables → ℕ → List ℕ
output_at t i = take 14 (drop (14 * i) t.outputs)

abbrev pub item_at : Tables → ℕ → List ℕ
item_at t i = take 2 (drop (2 * i) t.items)

-- 8: flag 1, all witnesses empty
pub record AllEmpty (h : Head) (t : Tables) : Type 0 where
  pub flag : h.flag ≡ 1
  pub inputs : (k : ℕ) → k < h.inputs → EmptyInput (input_at t k)
  pub outputs : (k : ℕ) → k < h.outputs → EmptyOutput (output_at t k)

-- no 10: no count exceeds its table
pub record Counts (h : Head) (t : Tables) : Type 0 where
  pub inputs : 20 * h.inputs ≤ length t.inputs
  pub outputs : 14 * h.outputs ≤ length t.outputs
  pub items : 2 * h.items ≤ length t.items

-- nor 7: the witness flag isn't above 1
pub record Headed (h : Head) (t : Tables) : Type 0 where
  pub counts : Counts h t
  pub flag : h.flag ≤ 1

module _ (h : Head) (t : Tables) (source : List ℕ) where
  -- the first records have no fault
  abbrev pub InputsFine : ℕ → Type 0
  InputsFine n = (k : ℕ) → k < n → InputFine h.flag (length source) (items_in k t.inputs) (input_at t k)

  abbrev pub OutputsFine : ℕ → Type 0
  OutputsFine n = (k : ℕ) → k < n → OutputKept h.flag (length source) (output_at t k)

  abbrev pub ItemsFine : ℕ → Type 0
  ItemsFine n = (k : ℕ) → k < n → ItemKept h.flag (length source) (item_at t k)

  pub record AllFine : Type 0 where
    pub heads : Headed h t
    pub inputs : InputsFine h.inputs
    pub outputs : OutputsFine h.outputs
    pub items : ItemsFine h.items
    pub sum : items_in h.inputs t.inputs ≡ h.items

  -- Order: 10; 7; inputs, outputs, items, each at its record number; then 13 at the number of inputs if the items don't add up; 8; 2.
  pub data WriteRefusal (number place : ℕ) : Type 0 where
    too_many : number ≡ 10 → place ≡ 0 → (Counts h t → ⊥) → WriteRefusal number place
    flag_above : number ≡ 7 → place ≡ 4 → Counts h t → 1 < h.flag → WriteRefusal number place
    input : Headed h t → place < h.inputs → InputsFine place → InputFault h.flag (length source) (items_in place t.inputs) (input_at t place) number → WriteRefusal number place
    output : number ≡ 13 → Headed h t → InputsFine h.inputs → place < h.outputs → OutputsFine place → (OutputKept h.flag (length source) (output_at t place) → ⊥) → WriteRefusal number place
    item : number ≡ 13 → Headed h t → InputsFine h.inputs → OutputsFine h.outputs → place < h.items → ItemsFine place → (ItemKept h.flag (length source) (item_at t place) → ⊥) → WriteRefusal number place
    not_added : number ≡ 13 → place ≡ h.inputs → Headed h t → InputsFine h.inputs → OutputsFine h.outputs → ItemsFine h.items → items_in h.inputs t.inputs ≢ h.items → WriteRefusal number place
    all_empty : number ≡ 8 → place ≡ 4 → AllFine → AllEmpty h t → WriteRefusal number place
    too_long : number ≡ 2 → place ≡ 0 → AllFine → (AllEmpty h t → ⊥) → limit < length (written_bytes h t source) → WriteRefusal number place
