-- What the caller sees of 01's reading.
use Rattle.std.specs.Prelude.{ℕ, ◌+◌, ◌*◌, ◌/◌, min, ◌≡◌, Bool, true, cond, not, ◌&&◌, List, [], ◌∷◌, ltb, length, get_or, replicate}
use Rattle.std.proofs.Math.Option.{Option, none, some}
use Rattle.std.proofs.lemmas.List.Edits.{sets}
use Rattle.layout.specs.Layout.{Layout, Reading, Answer, finished, more, refused, Entry, Table, input, output, item, reading, run, hides}
use Rattle.layout.specs.Transaction.{Head, Room, transaction}

-- Three tables of numbers: input records of 20, output records of 14, item records of 2.
pub record Tables : Type 0 where
  pub inputs : List ℕ
  pub outputs : List ℕ
  pub items : List ℕ

-- How many numbers each table holds.
pub record Sizes : Type 0 where
  pub inputs : ℕ
  pub outputs : ℕ
  pub items : ℕ

abbrev pub width : Table → ℕ
width input = 20
width output = 14
width item = 2

-- A table holds as many whole records as fit; the item table at most 4,294,967,295, so that each stack count is a u32.
abbrev pub room_of : Sizes → Room
room_of z =
    record { inputs = z.inputs / width input; outputs = z.outputs / width output; items = min (z.items / width item) 4294967295 }

abbrev pub zeros : Sizes → Tables
zeros z = record { inputs = replicate z.inputs 0; outputs = replicate z.outputs 0; items = replicate z.items 0 }

abbrev pub change : Table → (List ℕ → List ℕ) → Tables → Tables
change input f t = record { inputs = f t.inputs; outputs = t.outputs; items = t.items }
change output f t = record { inputs = t.inputs; outputs = f t.outputs; items = t.items }
change item f t = record { inputs = t.inputs; outputs = t.outputs; items = f t.items }

abbrev pub lay : Entry → Tables → Tables
lay e = change e.table (λ xs. sets xs (width e.table * e.row + e.column) e.numbers)

unfoldable pub laid : List Entry → Tables → Tables
laid [] t = t
laid (e ∷ es) t = laid es (lay e t)

-- Answer, bytes taken and tables. After a refusal (1 to 9 are all that a reading gives) every table is 0: what it entered doesn't show.
pub record Outcome : Type 0 where
  pub answer : Answer Head
  pub taken : ℕ
  pub tables : Tables

-- 01's numbers for each answer: finished is 0, more wanted a case by itself, both with place 0; head numbers show only when finished.
abbrev pub number_of : {A : Type 0} → Answer A → Option ℕ
number_of (finished a) = some 0
number_of more = none
number_of (refused n p) = some n

abbrev pub place_of : {A : Type 0} → Answer A → ℕ
place_of (finished a) = 0
place_of more = 0
place_of (refused n p) = p

abbrev pub no_head : Head
no_head = record { version = 0; flag = 0; inputs = 0; outputs = 0; items = 0; locktime = 0; bytes = 0 }

abbrev pub head_shown : Answer Head → Head
head_shown (finished h) = h
head_shown more = no_head
head_shown (refused n p) = no_head

abbrev pub shown : Answer Head → Tables → Tables → Tables
shown (finished h) t z = t
shown more t z = t
shown (refused n p) t z = z

abbrev pub outcome : Sizes → Reading Head → Outcome
outcome z r = record { answer = r.answer; taken = r.taken; tables = shown r.answer (laid r.log (zeros z)) (zeros z) }

-- 01's reading of the bytes that are there.
abbrev pub reading_of : Sizes → List ℕ → Reading Head
reading_of z xs = run (transaction (room_of z)) xs

abbrev pub partial : Sizes → List ℕ → Outcome
partial z xs = outcome z (reading_of z xs)

-- Finishing a reading that wants more gives refusal 1, at the bytes taken.
abbrev pub finish : {A : Type 0} → Answer A → ℕ → Answer A
finish (finished a) n = finished a
finish more n = refused 1 n
finish (refused m p) n = refused m p

abbrev pub ended : Reading Head → Reading Head
ended r = reading (finish r.answer r.taken) r.taken r.log

abbrev pub at_once : Sizes → List ℕ → Outcome
at_once z xs = outcome z (ended (reading_of z xs))

-- The strict form then adds refusal 9: bytes follow, at the first such byte.
abbrev pub follow : {A : Type 0} → Answer A → ℕ → ℕ → Answer A
follow (finished a) taken there = cond (ltb taken there) (refused 9 taken) (finished a)
follow more taken there = more
follow (refused m p) taken there = refused m p

abbrev pub strictly : ℕ → Reading Head → Reading Head
strictly there r = reading (follow r.answer r.taken there) r.taken r.log

abbrev pub strict : Sizes → List ℕ → Outcome
strict z xs = outcome z (strictly (length xs) (ended (reading_of z xs)))

-- Bearing are all bytes taken by the reading, except those that are never looked at.
abbrev pub bears : {A : Type 0} → Layout A → List ℕ → ℕ → Bool
bears l xs i = ltb i (run l xs).taken && not (hides l xs i)

abbrev pub Bearing : Sizes → List ℕ → ℕ → Type 0
Bearing z xs i = bears (transaction (room_of z)) xs i ≡ true

-- Two inputs of one length that agree at each bearing byte of the first, and differ as they like elsewhere.
pub record Agree (z : Sizes) (xs ys : List ℕ) : Type 0 where
  pub alike : length xs ≡ length ys
  pub bearing : (i : ℕ) → Bearing z xs i → get_or xs i 0 ≡ get_or ys i 0
