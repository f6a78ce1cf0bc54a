-- takzulit: wrong packings. Each is what an exported function would leave in the arrays and tables lent to it, and at a named load a
-- number that the caller finds there is not the promised one.
use Prim.Native.Nat.{ℕ, ◌+◌}
use mathlib.Core.Path.{◌≡◌, refl}
use mathlib.Core.Bool.{Bool, cond, not}
use mathlib.Core.List.{List, [], ◌∷◌, ◌++◌}
use lib.Dec.{eqb}
use lib.ListN.{length, replicate, take, drop, set}
use Rattle.layout.specs.Outcome.{Tables}
use Rattle.layout.specs.Writing as writing
use Rattle.layout.specs.Writing.{◌!◌, over, is_fee}
use Rattle.takzulit.specs.Numbers.{packed_state, head_of, Started, started, starting, Shown, shown, Kept, kept, feeding, finishing, reading, strict_reading, length_asked, Wrote, wrote, writes}
use Rattle.loads.proofs.Loads.{hex}
use Rattle.wrong.proofs.Loads.{computes, apart, former, zeroed, bare, flagged, paying, start, after, left, input, output}
use Rattle.wrong.proofs.Write.{writes as written, pegin, bad, source, marked}

-- what the caller's arrays held before the call
abbrev stood : ℕ → List ℕ
stood n = replicate n 7

-- the state's 20 numbers after some bytes
abbrev packed_after : List ℕ → List ℕ
packed_after xs = packed_state (after xs)

-- ---- takzulit_new

abbrev WrongNew : (Tables → Started) → Type 0
WrongNew p = p former ≡ starting former → ⊥

-- the state's array isn't written: the next call would judge what stood there
abbrev state_left : Tables → Started
state_left t = started (stood 20) (starting t).tables

pub state_left_wrong : WrongNew state_left
unfolding computes
state_left_wrong = apart (λ r. r.state ! 0) 7 0 refl refl refl

-- it is all 0: no sizes, so every call would answer 11
abbrev state_zero : Tables → Started
state_zero t = started (replicate 20 0) (starting t).tables

pub state_zero_wrong : WrongNew state_zero
unfolding computes
state_zero_wrong = apart (λ r. r.state ! 6) 0 20 refl refl refl

-- the sizes of inputs and outputs change places: every call would answer 10
abbrev sizes_swapped : Tables → Started
sizes_swapped t = let s = (starting t).state in started (set (set s 6 (s ! 7)) 7 (s ! 6)) (starting t).tables

pub sizes_swapped_wrong : WrongNew sizes_swapped
unfolding computes
sizes_swapped_wrong = apart (λ r. r.state ! 6) 14 20 refl refl refl

-- the tables keep what stood in them
abbrev tables_left : Tables → Started
tables_left t = started (starting t).state t

pub tables_left_wrong : WrongNew tables_left
unfolding computes
tables_left_wrong = apart (λ r. input 0 r.tables) 7 0 refl refl refl

-- ---- what shows: the promised numbers but for one array

abbrev but_answer : List ℕ → Shown → Shown
but_answer a v = shown a v.head v.tables

abbrev but_head : List ℕ → Shown → Shown
but_head h v = shown v.answer h v.tables

abbrev but_tables : Tables → Shown → Shown
but_tables t v = shown v.answer v.head t

abbrev but_state : List ℕ → Kept → Kept
but_state s k = kept s k.shown

abbrev but_shown : (Shown → Shown) → Kept → Kept
but_shown f k = kept k.state (f k.shown)

-- place in the number's slot and number in the place's
abbrev place_first : Shown → Shown
place_first v = but_answer (v.answer ! 1 ∷ v.answer ! 0 ∷ v.answer ! 2 ∷ []) v

-- more wanted told by another number
abbrev more_as : ℕ → Shown → Shown
more_as n v = but_answer (cond (eqb (v.answer ! 0) 255) n (v.answer ! 0) ∷ v.answer ! 1 ∷ v.answer ! 2 ∷ []) v

-- answer and head arrays filled from each other's numbers
abbrev arrays_swapped : Shown → Shown
arrays_swapped v = shown (take 3 v.head) (v.answer ++ replicate 4 0) v.tables

-- what was counted shows, finished or not: version, flag and counts of the state
abbrev head_so_far : Kept → Kept
head_so_far k = but_shown (but_head (take 6 (drop 9 k.state) ++ (k.state ! 5 ∷ []))) k

abbrev number : Shown → ℕ
number v = v.answer ! 0

abbrev place : Shown → ℕ
place v = v.answer ! 1

abbrev taken : Shown → ℕ
taken v = v.answer ! 2

-- ---- takzulit_push_bytes

abbrev WrongPush : (List ℕ → Tables → List ℕ → Kept) → List ℕ → List ℕ → Type 0
WrongPush p s xs = p s zeroed xs ≡ feeding s zeroed xs → ⊥

-- the state isn't written back: the next call would read the same bytes again
pub push_state_left_wrong : WrongPush (λ s t xs. but_state s (feeding s t xs)) (packed_state start) (take 4 bare)
unfolding computes
push_state_left_wrong = apart (λ k. k.state ! 0) 0 1 refl refl refl

-- nor on a refusal alone: a refused reading would go on
pub push_refusal_forgotten_wrong : WrongPush (λ s t xs. cond (eqb (number (feeding s t xs).shown) 7) (but_state s (feeding s t xs)) (feeding s t xs)) (packed_state start) flagged
unfolding computes
push_refusal_forgotten_wrong = apart (λ k. k.state ! 0) 0 26 refl refl refl

-- place and number change places
pub push_place_first_wrong : WrongPush (λ s t xs. but_shown place_first (feeding s t xs)) (packed_state start) flagged
unfolding computes
push_place_first_wrong = apart (λ k. number k.shown) 4 7 refl refl refl

-- more wanted told as finished, or as refusal 1
pub push_more_finished_wrong : WrongPush (λ s t xs. but_shown (more_as 0) (feeding s t xs)) (packed_state start) (take 4 bare)
unfolding computes
push_more_finished_wrong = apart (λ k. number k.shown) 0 255 refl refl refl

pub push_more_refused_wrong : WrongPush (λ s t xs. but_shown (more_as 1) (feeding s t xs)) (packed_state start) (take 4 bare)
unfolding computes
push_more_refused_wrong = apart (λ k. number k.shown) 1 255 refl refl refl

-- the bytes taken in all, not those of the piece: the caller would skip the next transaction
pub push_taken_in_all_wrong : WrongPush (λ s t xs. let k = feeding s t xs in but_shown (λ v. but_answer (number v ∷ place v ∷ k.state ! 5 ∷ []) v) k) (packed_after (take 4 bare)) (drop 4 bare)
unfolding computes
push_taken_in_all_wrong = apart (λ k. taken k.shown) 11 7 refl refl refl

-- added to what stood in the slot
pub push_taken_added_wrong : WrongPush (λ s t xs. but_shown (λ v. but_answer (number v ∷ place v ∷ (stood 3 ! 2 + taken v) ∷ []) v) (feeding s t xs)) (packed_state start) bare
unfolding computes
push_taken_added_wrong = apart (λ k. taken k.shown) 18 11 refl refl refl

-- head numbers show before the reading has finished
pub push_head_early_wrong : WrongPush (λ s t xs. head_so_far (feeding s t xs)) (packed_state start) (take 4 bare)
unfolding computes
push_head_early_wrong = apart (λ k. k.shown.head ! 0) 2 0 refl refl refl

-- the head keeps what stood in it until the reading has finished: a former transaction's numbers
pub push_head_left_wrong : WrongPush (λ s t xs. but_shown (λ v. but_head (cond (eqb (number v) 0) v.head (stood 7)) v) (feeding s t xs)) (packed_state start) flagged
unfolding computes
push_head_left_wrong = apart (λ k. k.shown.head ! 0) 7 0 refl refl refl

-- the arrays change places
pub push_arrays_swapped_wrong : WrongPush (λ s t xs. but_shown arrays_swapped (feeding s t xs)) (packed_state start) bare
unfolding computes
push_arrays_swapped_wrong = apart (λ k. number k.shown) 2 0 refl refl refl

-- ---- takzulit_end

abbrev WrongEnd : (List ℕ → Tables → Kept) → List ℕ → Type 0
WrongEnd p s = p s (left bare) ≡ finishing s (left bare) → ⊥

-- the state isn't written back: a reading refused by 1 would go on
pub end_state_left_wrong : WrongEnd (λ s t. but_state s (finishing s t)) (packed_after (take 4 bare))
unfolding computes
end_state_left_wrong = apart (λ k. k.state ! 0) 1 26 refl refl refl

-- it is cleared when finished: the answer would not be repeated
pub end_state_cleared_wrong : WrongEnd (λ s t. but_state (replicate 20 0) (finishing s t)) (packed_after bare)
unfolding computes
end_state_cleared_wrong = apart (λ k. k.state ! 0) 0 25 refl refl refl

-- the bytes taken in all: finishing takes none
pub end_taken_in_all_wrong : WrongEnd (λ s t. but_shown (λ v. but_answer (number v ∷ place v ∷ s ! 5 ∷ []) v) (finishing s t)) (packed_after bare)
unfolding computes
end_taken_in_all_wrong = apart (λ k. taken k.shown) 11 0 refl refl refl

-- head numbers show at the last feeding alone
pub end_headless_wrong : WrongEnd (λ s t. but_shown (but_head (replicate 7 0)) (finishing s t)) (packed_after bare)
unfolding computes
end_headless_wrong = apart (λ k. k.shown.head ! 0) 0 2 refl refl refl

pub end_place_first_wrong : WrongEnd (λ s t. but_shown place_first (finishing s t)) (packed_after (take 4 bare))
unfolding computes
end_place_first_wrong = apart (λ k. number k.shown) 4 1 refl refl refl

-- ---- takzulit_read

abbrev WrongRead : (Tables → List ℕ → Shown) → List ℕ → Type 0
WrongRead p xs = p former xs ≡ reading former xs → ⊥

-- the strict form instead: what follows would be refused
pub read_strictly_wrong : WrongRead strict_reading (bare ++ hex "00")
unfolding computes
read_strictly_wrong = apart number 9 0 refl refl refl

-- place and bytes taken change places
pub read_taken_first_wrong : WrongRead (λ t xs. let v = reading t xs in but_answer (number v ∷ taken v ∷ place v ∷ []) v) flagged
unfolding computes
read_taken_first_wrong = apart place 11 4 refl refl refl

-- head numbers keep what stood there on a refusal
pub read_head_left_wrong : WrongRead (λ t xs. let v = reading t xs in but_head (cond (eqb (number v) 0) v.head (stood 7)) v) flagged
unfolding computes
read_head_left_wrong = apart (λ v. v.head ! 1) 7 0 refl refl refl

-- the tables do
pub read_tables_left_wrong : WrongRead (λ t xs. let v = reading t xs in but_tables (cond (eqb (number v) 0) v.tables t) v) flagged
unfolding computes
read_tables_left_wrong = apart (λ v. input 0 v.tables) 7 0 refl refl refl

-- the head's length in bytes is the slice's
pub read_long_head_wrong : WrongRead (λ t xs. let v = reading t xs in but_head (set v.head 6 (length xs)) v) (bare ++ hex "00")
unfolding computes
read_long_head_wrong = apart (λ v. v.head ! 6) 12 11 refl refl refl

-- ---- takzulit_read_strict

abbrev WrongStrict : (Tables → List ℕ → Shown) → List ℕ → Type 0
WrongStrict p xs = p former xs ≡ strict_reading former xs → ⊥

-- not strictly: bytes may follow
pub strict_leniently_wrong : WrongStrict reading (bare ++ hex "00")
unfolding computes
strict_leniently_wrong = apart number 0 9 refl refl refl

-- 9, and the head numbers of what was read before
pub strict_head_shows_wrong : WrongStrict (λ t xs. but_head (reading t xs).head (strict_reading t xs)) (bare ++ hex "00")
unfolding computes
strict_head_shows_wrong = apart (λ v. v.head ! 0) 2 0 refl refl refl

-- and its tables
pub strict_tables_show_wrong : WrongStrict (λ t xs. but_tables (reading t xs).tables (strict_reading t xs)) (paying ++ hex "00")
unfolding computes
strict_tables_show_wrong = apart (λ v. output 1 v.tables) 7 0 refl refl refl

-- all bytes there told as taken
pub strict_taken_all_wrong : WrongStrict (λ t xs. let v = strict_reading t xs in but_answer (number v ∷ place v ∷ length xs ∷ []) v) (bare ++ hex "00")
unfolding computes
strict_taken_all_wrong = apart taken 12 11 refl refl refl

-- ---- takzulit_written_length: the head's 7 numbers, of one input

abbrev headed : List ℕ
headed = 2 ∷ 0 ∷ 1 ∷ 0 ∷ 0 ∷ 9 ∷ 0 ∷ []

abbrev WrongLength : (List ℕ → Tables → List ℕ → List ℕ) → Tables → Type 0
WrongLength p t = p headed t source ≡ length_asked headed t source → ⊥

-- a refusal tells a length: the source's
pub length_on_refusal_wrong : WrongLength (λ h t s. set (length_asked h t s) 2 (length s)) bad
unfolding written
length_on_refusal_wrong = apart (λ a. a ! 2) 32 0 refl refl refl

-- the length stands in the place's slot
pub length_as_place_wrong : WrongLength (λ h t s. let a = length_asked h t s in a ! 0 ∷ a ! 2 ∷ a ! 1 ∷ []) pegin
unfolding written
length_as_place_wrong = apart (λ a. a ! 1) 52 0 refl refl refl

-- the head's numbers in another order: the locktime for the items
pub length_head_order_wrong : WrongLength (λ h t s. length_asked (set (set h 4 (h ! 5)) 5 (h ! 4)) t s) pegin
unfolding written
length_head_order_wrong = apart (λ a. a ! 0) 10 0 refl refl refl

-- ---- takzulit_write

abbrev WrongWrite : (List ℕ → Tables → List ℕ → List ℕ → Wrote) → Tables → Type 0
WrongWrite p t = p headed t source (marked 60) ≡ writes headed t source (marked 60) → ⊥

-- a refusal tells a length
pub write_length_on_refusal_wrong : WrongWrite (λ h t s o. let w = writes h t s o in wrote (set w.answer 2 (length o)) w.output) bad
unfolding written
write_length_on_refusal_wrong = apart (λ w. w.answer ! 2) 60 0 refl refl refl

-- a refused write has touched the output
pub write_touches_wrong : WrongWrite (λ h t s o. wrote (writes h t s o).answer (over (writing.written_bytes (head_of h) t s) o)) bad
unfolding written
write_touches_wrong = apart (λ w. w.output ! 0) 2 7 refl refl refl

-- bytes behind the written ones are set to 0
pub write_tail_wrong : WrongWrite (λ h t s o. let w = writes h t s o in wrote w.answer (take 52 w.output ++ replicate 8 0)) pegin
unfolding written
write_tail_wrong = apart (λ w. w.output ! 52) 0 7 refl refl refl

-- the answer's array isn't written: what stood there is taken for the answer
pub write_answer_left_wrong : WrongWrite (λ h t s o. wrote (stood 3) (writes h t s o).output) pegin
unfolding written
write_answer_left_wrong = apart (λ w. w.answer ! 0) 7 0 refl refl refl

-- the head's length in bytes is told for the written one
pub write_head_length_wrong : WrongWrite (λ h t s o. let w = writes h t s o in wrote (set w.answer 2 (h ! 6)) w.output) pegin
unfolding written
write_head_length_wrong = apart (λ w. w.answer ! 2) 0 52 refl refl refl

-- a refusal's place is lost: two inputs, the second one's flags not listed, 13 at 1
abbrev second_bad : Tables
second_bad = record { inputs = pegin.inputs ++ bad.inputs; outputs = []; items = [] }

abbrev headed_two : List ℕ
headed_two = set headed 2 2

pub length_place_lost_wrong : set (length_asked headed_two second_bad source) 1 0 ≡ length_asked headed_two second_bad source → ⊥
unfolding written
length_place_lost_wrong = apart (λ a. a ! 1) 0 1 refl refl refl

abbrev place_lost : List ℕ → Tables → List ℕ → List ℕ → Wrote
place_lost h t s o = let w = writes h t s o in wrote (set w.answer 1 0) w.output

pub write_place_lost_wrong : place_lost headed_two second_bad source (marked 60) ≡ writes headed_two second_bad source (marked 60) → ⊥
unfolding written
write_place_lost_wrong = apart (λ w. w.answer ! 1) 0 1 refl refl refl

-- ---- takzulit_is_fee: an output record's 14 numbers

abbrev WrongFee : (List ℕ → Bool) → List ℕ → Type 0
WrongFee p r = p r ≡ is_fee r → ⊥

abbrev as_number : Bool → ℕ
as_number b = cond b 1 0

-- the opposite; the range proof's length for the script's
pub fee_opposite_wrong : WrongFee (λ r. not (is_fee r)) (stood 14)
fee_opposite_wrong = apart as_number 1 0 refl refl refl

pub fee_by_proof_wrong : WrongFee (λ r. eqb (r ! 13) 0) (set (replicate 14 0) 9 25)
fee_by_proof_wrong = apart as_number 1 0 refl refl refl
