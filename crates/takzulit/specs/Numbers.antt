-- States, answers and heads as arrays of numbers, and what each exported function leaves in the arrays and tables that are lent to it.
use Rattle.std.specs.Prelude.{ℕ, List, [], ◌∷◌}
use Rattle.std.proofs.Math.Option.{Option, none, some}
use Rattle.layout.specs.Transaction.{Head}
use Rattle.layout.specs.Outcome as outcome
use Rattle.layout.specs.Outcome.{Tables}
use Rattle.layout.specs.Writing as writing
use Rattle.layout.specs.Writing.{◌!◌, Verdict, verdict_number, verdict_place, verdict_length}
use Rattle.decoders.specs.Machine.{State}
use Rattle.decoders.specs.Feeding as decoders
use Rattle.decoders.specs.Feeding.{layout_sizes}

-- ---- a reading state as 20 numbers, in the order of docs/STATE.md, and back: any 20 numbers are a state, and the range test judges it

abbrev pub packed_state : State → List ℕ
packed_state s =
    s.field.stage
    ∷ s.field.form
    ∷ s.field.width
    ∷ s.field.have
    ∷ s.field.value
    ∷ s.taken
    ∷ s.sizes.inputs
    ∷ s.sizes.outputs
    ∷ s.sizes.items
    ∷ s.counts.version
    ∷ s.counts.flag
    ∷ s.counts.inputs
    ∷ s.counts.outputs
    ∷ s.counts.items
    ∷ s.counts.locktime
    ∷ s.spot.index
    ∷ s.spot.left
    ∷ s.spot.issuance
    ∷ s.spot.null
    ∷ s.spot.empty
    ∷ []

abbrev pub unpacked_state : List ℕ → State
unpacked_state xs =
    record {
      field = record { stage = xs ! 0; form = xs ! 1; width = xs ! 2; have = xs ! 3; value = xs ! 4 };
      taken = xs ! 5;
      sizes = record { inputs = xs ! 6; outputs = xs ! 7; items = xs ! 8 };
      counts =
          record { version = xs ! 9; flag = xs ! 10; inputs = xs ! 11; outputs = xs ! 12; items = xs ! 13; locktime = xs ! 14 };
      spot = record { index = xs ! 15; left = xs ! 16; issuance = xs ! 17; null = xs ! 18; empty = xs ! 19 };
    }

-- ---- the head as 7 numbers, and back

abbrev pub head_list : Head → List ℕ
head_list h = h.version ∷ h.flag ∷ h.inputs ∷ h.outputs ∷ h.items ∷ h.locktime ∷ h.bytes ∷ []

abbrev pub head_of : List ℕ → Head
head_of xs =
    record { version = xs ! 0; flag = xs ! 1; inputs = xs ! 2; outputs = xs ! 3; items = xs ! 4; locktime = xs ! 5; bytes = xs ! 6 }

-- ---- an answer as 3 numbers: document 01's number, or 255 where more is wanted; the place; the bytes taken or written

abbrev pub numbered : Option ℕ → ℕ
numbered none = 255
numbered (some n) = n

abbrev pub answer_numbers : Option ℕ → ℕ → ℕ → List ℕ
answer_numbers number place count = numbered number ∷ place ∷ count ∷ []

-- ---- the fresh start

pub record Started : Type 0 where
  pub state : List ℕ
  pub tables : Tables

abbrev pub started : List ℕ → Tables → Started
started s t = record { state = s; tables = t }

abbrev pub starting : Tables → Started
starting t = started (packed_state (decoders.begun t).state) (decoders.begun t).tables

-- ---- what shows after a reading

pub record Shown : Type 0 where
  pub answer : List ℕ
  pub head : List ℕ
  pub tables : Tables

abbrev pub shown : List ℕ → List ℕ → Tables → Shown
shown a h t = record { answer = a; head = h; tables = t }

-- ---- feeding and finishing: the state, and what shows

pub record Kept : Type 0 where
  pub state : List ℕ
  pub shown : Shown

abbrev pub kept : List ℕ → Shown → Kept
kept s v = record { state = s; shown = v }

abbrev pub kept_of : decoders.Out → Kept
kept_of o =
    kept (packed_state o.state) (shown (answer_numbers (outcome.number_of o.answer) (outcome.place_of o.answer) o.taken) (head_list (outcome.head_shown o.answer)) o.tables)

abbrev pub feeding : List ℕ → Tables → List ℕ → Kept
feeding s t xs = kept_of (decoders.pushed (unpacked_state s) t xs)

abbrev pub finishing : List ℕ → Tables → Kept
finishing s t = kept_of (decoders.ended (unpacked_state s) t)

-- ---- reading at once and its strict form: document 01's outcome

abbrev pub shown_of : outcome.Outcome → Shown
shown_of o =
    shown (answer_numbers (outcome.number_of o.answer) (outcome.place_of o.answer) o.taken) (head_list (outcome.head_shown o.answer)) o.tables

abbrev pub reading : Tables → List ℕ → Shown
reading t xs = shown_of (outcome.at_once (layout_sizes t) xs)

abbrev pub strict_reading : Tables → List ℕ → Shown
strict_reading t xs = shown_of (outcome.strict (layout_sizes t) xs)

-- ---- writing: document 01's answer, and the output

abbrev pub verdict_numbers : Verdict → List ℕ
verdict_numbers v = answer_numbers (some (verdict_number v)) (verdict_place v) (verdict_length v)

abbrev pub length_asked : List ℕ → Tables → List ℕ → List ℕ
length_asked h t source = verdict_numbers (writing.written_length (head_of h) t source)

pub record Wrote : Type 0 where
  pub answer : List ℕ
  pub output : List ℕ

abbrev pub wrote : List ℕ → List ℕ → Wrote
wrote a out = record { answer = a; output = out }

abbrev pub writes : List ℕ → Tables → List ℕ → List ℕ → Wrote
writes h t source out =
    wrote (verdict_numbers (writing.writing (head_of h) t source out).answer) (writing.writing (head_of h) t source out).output
