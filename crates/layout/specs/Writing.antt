-- Document 01's writing: from head numbers, three tables and the source to bytes, or a refusal.
use Rattle.std.specs.Prelude.{ℕ, zero, suc, ◌+◌, ◌*◌, ◌/◌, ◌^◌, Bool, true, false, cond, not, ◌&&◌, ◌||◌, List, [], ◌∷◌, ◌++◌, map, leb, eqb, length, take, drop, get_or}
use Rattle.std.proofs.Math.Option.{none, some}
use Rattle.layout.specs.Layout.{input, output, item}
use Rattle.layout.specs.Transaction.{Head, limit, asset_prefix, nonce_prefix}
use Rattle.layout.specs.Outcome.{Tables, width}
use Rattle.layout.specs.Contents.{Value, null, explicit, commitment, Token, absent, present, Issuance, Input, Output, InputWitness, OutputWitness, Witnesses, Contents, contents_bytes, confused, all}
use Rattle.layout.specs.Records.{sum}

-- The first records of a table, each so many numbers wide. Those behind the count aren't read.
unfoldable pub records : ℕ → ℕ → List ℕ → List (List ℕ)
records w zero xs = []
records w (suc n) xs = take w xs ∷ records w n (drop w xs)

-- a number of a record; columns count from 0
infixl 90 ◌!◌
abbrev pub ◌!◌ : List ℕ → ℕ → ℕ
r ! column = get_or r column 0

-- ---- what the tables and the source hold

unfoldable pub body : List ℕ → ℕ → ℕ → List ℕ
body source at n = take n (drop at source)

-- Explicit amounts come from high and low; other bodies from the source, after their prefix's position.
unfoldable pub value_of : List ℕ → ℕ → ℕ → ℕ → ℕ → Value
value_of source at prefix high low =
    cond (eqb prefix 0) null (cond (eqb prefix 1) (explicit (2 ^ 32 * high + low)) (commitment prefix (body source (at + 1) 32)))

unfoldable pub token_of : List ℕ → ℕ → ℕ → Token
token_of source at prefix = cond (eqb prefix 0) absent (present prefix (body source (at + 1) 32))

-- a value's 1, 9 or 33 bytes
abbrev pub value_width : ℕ → ℕ
value_width prefix = cond (eqb prefix 0) 1 (cond (eqb prefix 1) 9 33)

-- In an issuance, amount starts 64 after its position and keys after the amount.
abbrev pub issuance_of : List ℕ → List ℕ → Issuance
issuance_of source r =
    record {
      blinding_nonce = body source (r ! 6) 32;
      entropy = body source (r ! 6 + 32) 32;
      amount = value_of source (r ! 6 + 64) (r ! 7) (r ! 8) (r ! 9);
      keys = value_of source (r ! 6 + 64 + value_width (r ! 7)) (r ! 10) (r ! 11) (r ! 12);
    }

-- flags 2 and 3 have the issuance flag
abbrev pub issues : List ℕ → Bool
issues r = leb 2 (r ! 2)

unfoldable pub input_of : List ℕ → List ℕ → Input
input_of source r =
    record {
      txid = body source (r ! 0) 32;
      vout = r ! 1;
      flags = r ! 2;
      script = body source (r ! 3) (r ! 4);
      sequence = r ! 5;
      issuance = cond (issues r) (some (issuance_of source r)) none;
    }

unfoldable pub output_of : List ℕ → List ℕ → Output
output_of source r =
    record {
      asset = token_of source (r ! 1) (r ! 0);
      value = value_of source (r ! 3) (r ! 2) (r ! 4) (r ! 5);
      nonce = token_of source (r ! 7) (r ! 6);
      script = body source (r ! 8) (r ! 9);
    }

unfoldable pub item_of : List ℕ → List ℕ → List ℕ
item_of source r = body source (r ! 0) (r ! 1)

-- Of all items, the script items from the first index on, and the pegin items behind them.
unfoldable pub input_witness_of : List ℕ → List (List ℕ) → List ℕ → InputWitness
input_witness_of source items r =
    record {
      amount_proof = body source (r ! 13) (r ! 14);
      keys_proof = body source (r ! 15) (r ! 16);
      script_items = take (r ! 18) (drop (r ! 17) items);
      pegin_items = take (r ! 19) (drop (r ! 17 + r ! 18) items);
    }

unfoldable pub output_witness_of : List ℕ → List ℕ → OutputWitness
output_witness_of source r = record { surjection_proof = body source (r ! 10) (r ! 11); range_proof = body source (r ! 12) (r ! 13) }

abbrev pub input_records : Head → Tables → List (List ℕ)
input_records h t = records (width input) h.inputs t.inputs

abbrev pub output_records : Head → Tables → List (List ℕ)
output_records h t = records (width output) h.outputs t.outputs

abbrev pub item_records : Head → Tables → List (List ℕ)
item_records h t = records (width item) h.items t.items

abbrev pub witnesses_of : Head → Tables → List ℕ → Witnesses
witnesses_of h t source =
    record {
      inputs = map (input_witness_of source (map (item_of source) (item_records h t))) (input_records h t);
      outputs = map (output_witness_of source) (output_records h t);
    }

-- The head's length in bytes isn't read.
unfoldable pub contents_of : Head → Tables → List ℕ → Contents
contents_of h t source =
    record {
      version = h.version;
      inputs = map (input_of source) (input_records h t);
      outputs = map (output_of source) (output_records h t);
      locktime = h.locktime;
      witnesses = cond (eqb h.flag 1) (some (witnesses_of h t source)) none;
    }

-- ---- refusals; the first fault wins

pub data Fault : Type 0 where
  passes : Fault
  fault : ℕ → ℕ → Fault

infixr 4 ◌also◌
abbrev pub ◌also◌ : Fault → Fault → Fault
passes also g = g
fault number place also g = fault number place

abbrev pub unless : Bool → ℕ → ℕ → Fault
unless true number place = passes
unless false number place = fault number place

-- 13: a position plus length passes the source, of which so many bytes are there.
abbrev pub lies : ℕ → ℕ → ℕ → Bool
lies there at n = leb (at + n) there

-- 13: a prefix not listed, or a nonzero number where the rules say 0
unfoldable pub value_rule : ℕ → ℕ → ℕ → Bool
value_rule prefix high low = eqb prefix 1 || (eqb prefix 0 || eqb prefix 8 || eqb prefix 9) && eqb high 0 && eqb low 0

abbrev pub zeros₄ : List ℕ → ℕ → Bool
zeros₄ r c = eqb (r ! c) 0 && eqb (r ! (c + 1)) 0 && eqb (r ! (c + 2)) 0 && eqb (r ! (c + 3)) 0

unfoldable pub zeros₇ : List ℕ → ℕ → Bool
zeros₇ r c = zeros₄ r c && eqb (r ! (c + 4)) 0 && eqb (r ! (c + 5)) 0 && eqb (r ! (c + 6)) 0

-- The whole field must lie in the source.
unfoldable pub issuance_rule : ℕ → List ℕ → Bool
issuance_rule there r =
    cond (issues r)
    (lies there (r ! 6 + 64 + value_width (r ! 7)) (value_width (r ! 10)) && value_rule (r ! 7) (r ! 8) (r ! 9) && value_rule (r ! 10) (r ! 11) (r ! 12))
    (zeros₇ r 6)

-- The first item's index is the sum of earlier items. With flag 0 all witness numbers are 0.
unfoldable pub input_witness_rule : ℕ → ℕ → ℕ → List ℕ → Bool
input_witness_rule flag there first r =
    cond (eqb flag 1) (lies there (r ! 13) (r ! 14) && lies there (r ! 15) (r ! 16) && eqb (r ! 17) first) (zeros₇ r 13)

unfoldable pub input_rule : ℕ → ℕ → ℕ → List ℕ → Bool
input_rule flag there first r =
    lies there (r ! 0) 32 && leb (r ! 2) 3 && lies there (r ! 3) (r ! 4) && issuance_rule there r && input_witness_rule flag there first r

-- Positions of null fields and of an output's explicit value are not read.
unfoldable pub token_rule : (ℕ → Bool) → ℕ → ℕ → ℕ → Bool
token_rule listed there at prefix = eqb prefix 0 || listed prefix && lies there at 33

unfoldable pub output_witness_rule : ℕ → ℕ → List ℕ → Bool
output_witness_rule flag there r = cond (eqb flag 1) (lies there (r ! 10) (r ! 11) && lies there (r ! 12) (r ! 13)) (zeros₄ r 10)

unfoldable pub output_rule : ℕ → ℕ → List ℕ → Bool
output_rule flag there r =
    token_rule asset_prefix there (r ! 1) (r ! 0)
    && value_rule (r ! 2) (r ! 4) (r ! 5)
    && (leb (r ! 2) 1 || lies there (r ! 3) 33)
    && token_rule nonce_prefix there (r ! 7) (r ! 6)
    && lies there (r ! 8) (r ! 9)
    && output_witness_rule flag there r

unfoldable pub item_rule : ℕ → ℕ → List ℕ → Bool
item_rule flag there r = cond (eqb flag 1) (lies there (r ! 0) (r ! 1)) (eqb (r ! 0) 0 && eqb (r ! 1) 0)

-- 6: issuance flag, null issuance
abbrev pub null_issuance : List ℕ → Bool
null_issuance r = issues r && eqb (r ! 7) 0 && eqb (r ! 10) 0

-- Each record 13 before 12 before 6, placed at its number.
unfoldable pub input_fault : ℕ → ℕ → ℕ → ℕ → List ℕ → Fault
input_fault flag there first i r =
    unless (input_rule flag there first r) 13 i also unless (not (confused (r ! 1) (r ! 2))) 12 i also unless (not (null_issuance r)) 6 i

abbrev pub record_items : List ℕ → ℕ
record_items r = r ! 18 + r ! 19

unfoldable pub input_faults : ℕ → ℕ → ℕ → ℕ → List (List ℕ) → Fault
input_faults flag there first i [] = passes
input_faults flag there first i (r ∷ rs) = input_fault flag there first i r also input_faults flag there (first + record_items r) (suc i) rs

unfoldable pub rule_faults : (List ℕ → Bool) → ℕ → List (List ℕ) → Fault
rule_faults rule i [] = passes
rule_faults rule i (r ∷ rs) = unless (rule r) 13 i also rule_faults rule (suc i) rs

-- A witness is empty if its proofs have length 0 and its stacks have no items.
abbrev pub empty_input : List ℕ → Bool
empty_input r = eqb (r ! 14) 0 && eqb (r ! 16) 0 && eqb (r ! 18) 0 && eqb (r ! 19) 0

abbrev pub empty_output : List ℕ → Bool
empty_output r = eqb (r ! 11) 0 && eqb (r ! 13) 0

-- 10: a count exceeds its table.
abbrev pub held : Head → Tables → Bool
held h t =
    leb h.inputs (length t.inputs / width input) && leb h.outputs (length t.outputs / width output) && leb h.items (length t.items / width item)

-- Order: 10; 7; inputs, outputs, items; 13 at the number of inputs if the items don't add up; 8.
unfoldable pub table_faults : Head → Tables → ℕ → Fault
table_faults h t there =
    unless (held h t) 10 0
    also unless (leb h.flag 1) 7 4
    also input_faults h.flag there 0 0 (input_records h t)
    also rule_faults (output_rule h.flag there) 0 (output_records h t)
    also rule_faults (item_rule h.flag there) 0 (item_records h t)
    also unless (eqb (sum record_items (input_records h t)) h.items) 13 h.inputs
    also unless (not (eqb h.flag 1 && all empty_input (input_records h t) && all empty_output (output_records h t))) 8 4

abbrev pub written_bytes : Head → Tables → List ℕ → List ℕ
written_bytes h t source = contents_bytes (contents_of h t source)

-- then 2 if the written length exceeds 4,000,000
unfoldable pub faults : Head → Tables → List ℕ → Fault
faults h t source = table_faults h t (length source) also unless (leb (length (written_bytes h t source)) limit) 2 0

-- What writing answers: the written length, or a refusal. Output bytes behind the written ones keep their values; a refusal touches none.
pub data Verdict : Type 0 where
  wrote : ℕ → Verdict
  unwritten : ℕ → ℕ → Verdict

abbrev pub verdict : Fault → ℕ → Verdict
verdict passes n = wrote n
verdict (fault number place) n = unwritten number place

-- bytes, and then what stood behind them
unfoldable pub over : List ℕ → List ℕ → List ℕ
over bytes out = bytes ++ drop (length bytes) out

abbrev pub touched : Fault → List ℕ → List ℕ → List ℕ
touched passes bytes out = over bytes out
touched (fault number place) bytes out = out

pub record Written : Type 0 where
  pub answer : Verdict
  pub output : List ℕ

-- Asked for alone, the length comes without 14.
unfoldable pub written_length : Head → Tables → List ℕ → Verdict
written_length h t source = verdict (faults h t source) (length (written_bytes h t source))

-- 14: output too short.
unfoldable pub writing : Head → Tables → List ℕ → List ℕ → Written
writing h t source out =
    let bytes = written_bytes h t source in
    let f = faults h t source also unless (leb (length bytes) (length out)) 14 0 in
    record { answer = verdict f (length bytes); output = touched f bytes out }

-- 01's number and place for each answer: success is answer 0, place 0 and the written length; a refusal has length 0.
abbrev pub verdict_number : Verdict → ℕ
verdict_number (wrote n) = 0
verdict_number (unwritten number place) = number

abbrev pub verdict_place : Verdict → ℕ
verdict_place (wrote n) = 0
verdict_place (unwritten number place) = place

abbrev pub verdict_length : Verdict → ℕ
verdict_length (wrote n) = n
verdict_length (unwritten number place) = 0

-- Fee question, asked of one output record: an output is a fee exactly if its script has length 0.
abbrev pub is_fee : List ℕ → Bool
is_fee r = eqb (r ! 9) 0
