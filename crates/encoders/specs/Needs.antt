-- What private functions need of each other: nothing public cites it, and no promise depends on it.
use Rattle.std.specs.Prelude.{ℕ, ◌+◌, ◌<◌, min, ◌≡◌, true, false, cond, not, ◌&&◌, List, leb, eqb, length, Option, Some, None, Result, MatchResult}
use Rattle.layout.specs.Transaction.{Head}
use Rattle.layout.specs.Outcome.{Tables}
use Rattle.layout.specs.Contents.{all}
use Rattle.layout.specs.Records.{sum}
use Rattle.layout.specs.Writing.{Fault, passes, fault, wrote, unwritten, written_length, ◌also◌, unless, held, input_faults, rule_faults, output_rule, item_rule, input_records, output_records, item_records, record_items, empty_input, empty_output, issues, value_width, ◌!◌}
use Rattle.encode.specs.declared.refusal.Refusal.{Refusal}
use Rattle.encode.specs.Refusal.{number_of}
use Rattle.encoders.specs.declared.table.Transaction.{Transaction}
use Rattle.encoders.specs.Answers.{head_numbers}

-- The records that the head counts, in tables that hold them.
pub record Counted (h : Head) (t : Tables) (x : Transaction) : Type 0 where
  pub held : held h t ≡ true
  pub head : head_numbers x.head ≡ h
  pub inputs : x.inputs.now ≡ input_records h t
  pub outputs : x.outputs.now ≡ output_records h t
  pub items : x.items.now ≡ item_records h t

-- 10 comes of tables that don't.
pub record Exceeded (h : Head) (t : Tables) (r : Refusal) : Type 0 where
  pub exceeded : held h t ≡ false
  pub told : fault (number_of r.kind) r.place ≡ fault 10 0

abbrev pub Lent : Head → Tables → Result Transaction Refusal → Type 0
Lent h t r = MatchResult r (Counted h t) (Exceeded h t)

-- Counted records that pass, with their written length.
pub record Passed (h : Head) (t : Tables) (source : List ℕ) (x : Transaction) (n : ℕ) : Type 0 where
  pub counted : Counted h t x
  pub told : wrote n ≡ written_length h t source

-- the first fault but 14
pub record Faulted (h : Head) (t : Tables) (source : List ℕ) (r : Refusal) : Type 0 where
  pub told : unwritten (number_of r.kind) r.place ≡ written_length h t source

-- what pass 1 answers
abbrev pub Judged : Head → Tables → List ℕ → Result (Transaction × ℕ) Refusal → Type 0
Judged h t source r = MatchResult r (λ p. Passed h t source p.0 p.1) (Faulted h t source)

-- table_faults behind 10, of the counted records
unfoldable pub record_faults : ℕ → List (List ℕ) → List (List ℕ) → List (List ℕ) → ℕ → Fault
record_faults flag ins outs its there =
    unless (leb flag 1) 7 4
    also input_faults flag there 0 0 ins
    also rule_faults (output_rule flag there) 0 outs
    also rule_faults (item_rule flag there) 0 its
    also unless (eqb (sum record_items ins) (length its)) 13 (length ins)
    also unless (not (eqb flag 1 && all empty_input ins && all empty_output outs)) 8 4

-- 13 at a record, if there is one
abbrev pub broken : Option ℕ → Fault
broken None = passes
broken (Some i) = fault 13 i

-- ---- widths, from a record's numbers

unfoldable pub compact_width : ℕ → ℕ
compact_width n = cond (leb n 252) 1 (cond (leb n 65535) 3 (cond (leb n 4294967295) 5 9))

abbrev pub body_width : ℕ → ℕ
body_width n = compact_width n + n

unfoldable pub token_width : ℕ → ℕ
token_width prefix = cond (eqb prefix 0) 1 33

unfoldable pub issuance_width : List ℕ → ℕ
issuance_width r = cond (issues r) (64 + value_width (r ! 7) + value_width (r ! 10)) 0

-- txid, vout and sequence have 40 bytes
abbrev pub input_width : List ℕ → ℕ
input_width r = 40 + body_width (r ! 4) + issuance_width r

abbrev pub output_width : List ℕ → ℕ
output_width r = token_width (r ! 0) + value_width (r ! 2) + token_width (r ! 6) + body_width (r ! 9)

-- an input's witness without its items, which are counted by themselves
abbrev pub input_witness_width : List ℕ → ℕ
input_witness_width r = body_width (r ! 14) + body_width (r ! 16) + compact_width (r ! 18) + compact_width (r ! 19)

abbrev pub output_witness_width : List ℕ → ℕ
output_witness_width r = body_width (r ! 11) + body_width (r ! 13)

abbrev pub item_width : List ℕ → ℕ
item_width r = body_width (r ! 1)

-- a record with its witness
unfoldable pub whole_input : ℕ → List ℕ → ℕ
whole_input flag r = cond (eqb flag 1) (input_width r + input_witness_width r) (input_width r)

unfoldable pub whole_output : ℕ → List ℕ → ℕ
whole_output flag r = cond (eqb flag 1) (output_width r + output_witness_width r) (output_width r)

-- Version, flag and locktime have 9 bytes. With flag 0 there are no items.
unfoldable pub written_width : Head → List (List ℕ) → List (List ℕ) → List (List ℕ) → ℕ
written_width h ins outs its =
    9
    + compact_width h.inputs
    + sum (whole_input h.flag) ins
    + compact_width h.outputs
    + sum (whole_output h.flag) outs
    + sum item_width its

-- The length stops growing above the limit.
abbrev pub capped : ℕ → ℕ
capped n = min n 4000001

-- a width that is small enough for sums
pub record Measures (bound is should : ℕ) : Type 0 where
  pub same : is ≡ should
  pub small : is < bound
