-- read: wrong readings at once.
use Prim.Native.Nat.{ℕ, ◌+◌, ◌%◌, ◌^◌}
use mathlib.Core.Path.{◌≡◌, refl, sym, ◌∙◌, ap}
use mathlib.Core.Bool.{cond, ◌&&◌}
use mathlib.Core.List.{List, ◌++◌}
use lib.Dec.{leb, eqb}
use lib.ListN.{length, replicate, get_or, take, drop, set}
use Rattle.layout.specs.Layout.{Answer, finished, more, refused}
use Rattle.layout.specs.Outcome.{Tables, Outcome}
use Rattle.layout.specs.Transaction.{Head}
use Rattle.decoders.specs.Machine.{machine, fresh, fed, head_of}
use Rattle.decoders.specs.Feeding.{tables, sizes_of, cleared, begun, closed, pushed, read_once, read_strict}
use Rattle.loads.proofs.Loads.{hex}
use Rattle.wrong.proofs.Loads.{computes, apart, kind, inputs_told, version_told, counts_swapped, ends_swapped, former, bare, flagged, paying, broken, input, output, item}
use Rattle.layout.specs.Number.{value, little}
use Rattle.wrong.proofs.Wholes.{answer, case, taken, gives, but_taken, but_answer, but_tables}

abbrev Wrong : (Tables → List ℕ → Outcome) → Tables → List ℕ → Type 0
Wrong p t xs = p t xs ≡ read_once t xs → ⊥

-- does nothing
abbrev idle : Tables → List ℕ → Outcome
idle t xs = gives 0 more t

pub idle_wrong : Wrong idle former bare
unfolding computes
idle_wrong = apart taken 0 11 refl refl refl

-- refuses all, by any number and place: no shipment would be accepted
abbrev refusing : ℕ → ℕ → Tables → List ℕ → Outcome
refusing n p t xs = gives p (refused n p) (cleared t)

pub refusing_wrong : (n p : ℕ) → Wrong (refusing n p) former bare
unfolding computes
refusing_wrong n p = apart case 2 0 refl refl refl

-- answers always the same, whatever that answer is: it fails at 11 bytes or at the first 10 of them
abbrev same : Answer Head → Tables → List ℕ → Outcome
same a t xs = but_answer a (read_once t xs)

same_finished : (a : Answer Head) → same a former bare ≡ read_once former bare → kind a ≡ 0
unfolding computes
same_finished a e = ap case e

same_cut : (a : Answer Head) → same a former (take 10 bare) ≡ read_once former (take 10 bare) → kind a ≡ 2
unfolding computes
same_cut a e = ap case e

pub same_wrong : (a : Answer Head) → same a former bare ≡ read_once former bare → same a former (take 10 bare) ≡ read_once former (take 10 bare) → ⊥
same_wrong a e e' = apart (λ (n : ℕ). n) 0 2 refl refl refl (sym (same_finished a e) ∙ same_cut a e')

-- always the piece's length for the bytes taken: the next transaction would be thrown away, a fault looked for at the end
abbrev whole_piece : Tables → List ℕ → Outcome
whole_piece t xs = but_taken (length xs) (read_once t xs)

pub whole_piece_wrong : Wrong whole_piece former (flagged ++ hex "00")
unfolding computes
whole_piece_wrong = apart taken 12 11 refl refl refl

-- the tables aren't set to 0 at the start: a former record would stand behind the count
abbrev unzeroed : Tables → List ℕ → Outcome
unzeroed t xs = let o = closed (fed (machine (fresh (sizes_of t)) t) xs).state 0 (fed (machine (fresh (sizes_of t)) t) xs).tables in but_tables o.tables (read_once t xs)

pub unzeroed_wrong : Wrong unzeroed former bare
unfolding computes
unzeroed_wrong = apart (λ w. input 0 w.tables) 7 0 refl refl refl

-- nor, where a record is read, the numbers of it that aren't entered: here the surjection proof's position of an output without witness
pub unzeroed_record_wrong : Wrong unzeroed former paying
unfolding computes
unzeroed_record_wrong = apart (λ w. output 10 w.tables) 7 0 refl refl refl

-- a refused reading leaves one of the tables as it was lent, or as it was entered
abbrev inputs_left : Tables → List ℕ → Outcome
inputs_left t xs = let e = fed (begun t) xs in but_tables (tables e.tables.inputs (read_once t xs).tables.outputs (read_once t xs).tables.items) (read_once t xs)

pub inputs_left_wrong : Wrong inputs_left former broken
unfolding computes
inputs_left_wrong = apart (λ w. input 0 w.tables) 6 0 refl refl refl

abbrev outputs_left : Tables → List ℕ → Outcome
outputs_left t xs = let e = fed (begun t) xs in but_tables (tables (read_once t xs).tables.inputs e.tables.outputs (read_once t xs).tables.items) (read_once t xs)

pub outputs_left_wrong : Wrong outputs_left former broken
unfolding computes
outputs_left_wrong = apart (λ w. output 1 w.tables) 48 0 refl refl refl

abbrev items_left : Tables → List ℕ → Outcome
items_left t xs = let e = fed (begun t) xs in but_tables (tables (read_once t xs).tables.inputs (read_once t xs).tables.outputs e.tables.items) (read_once t xs)

pub items_left_wrong : Wrong items_left former broken
unfolding computes
items_left_wrong = apart (λ w. item 0 w.tables) 60 0 refl refl refl

-- all tables 0 always: an accepted transaction's numbers would be lost
abbrev empty_tables : Tables → List ℕ → Outcome
empty_tables t xs = but_tables (cleared t) (read_once t xs)

pub empty_tables_wrong : Wrong empty_tables former paying
unfolding computes
empty_tables_wrong = apart (λ w. output 1 w.tables) 0 7 refl refl refl

-- head numbers change places: inputs and outputs, or version and locktime
abbrev head_counts : Tables → List ℕ → Outcome
head_counts t xs = but_answer (counts_swapped (read_once t xs).answer) (read_once t xs)

pub head_counts_wrong : Wrong head_counts former paying
unfolding computes
head_counts_wrong = apart (λ w. inputs_told w.answer) 1 0 refl refl refl

abbrev head_ends : Tables → List ℕ → Outcome
head_ends t xs = but_answer (ends_swapped (read_once t xs).answer) (read_once t xs)

pub head_ends_wrong : Wrong head_ends former paying
unfolding computes
head_ends_wrong = apart (λ w. version_told w.answer) 0 2 refl refl refl

-- isn't finished: a cut transaction still wants more
abbrev unfinished : Tables → List ℕ → Outcome
unfinished t xs = let o = pushed (begun t).state (begun t).tables xs in gives o.taken o.answer o.tables

pub unfinished_wrong : Wrong unfinished former (take 10 bare)
unfolding computes
unfinished_wrong = apart answer 99 1 refl refl refl

-- head numbers shown of a refused reading
abbrev head_shown : Tables → List ℕ → Outcome
head_shown t xs = but_answer (finished (head_of (fed (begun t) xs).state)) (read_once t xs)

pub head_shown_wrong : Wrong head_shown former flagged
unfolding computes
head_shown_wrong = apart answer 0 7 refl refl refl

-- a bad flag is refused before the inputs: here the first fault is a prefix at 7
abbrev flag_first : Tables → List ℕ → Outcome
flag_first t xs = cond (leb 2 (get_or xs 4 0)) (gives 5 (refused 7 4) (cleared t)) (read_once t xs)

pub flag_first_wrong : Wrong flag_first former (hex "02000000 02 00 01 02")
unfolding computes
flag_first_wrong = apart answer 7 5 refl refl refl

-- reads strictly: a transaction with another behind it would be refused
pub strict_wrong : Wrong read_strict former (bare ++ hex "00")
unfolding computes
strict_wrong = apart answer 9 0 refl refl refl

-- ---- the slips that document 01 names

-- bits 30 and 31 of 0xffffffff are cleared: no coinbase would keep its vout
abbrev masked : Tables → List ℕ → Outcome
masked t xs = let r = read_once t xs in but_tables (tables (set r.tables.inputs 1 (input 1 r.tables % 2 ^ 30)) r.tables.outputs r.tables.items) r

abbrev coinbase : List ℕ
coinbase = hex "02000000 00 01" ++ replicate 32 0xee ++ hex "ffffffff 00 00000000 00 00000000"

pub masked_wrong : Wrong masked former coinbase
unfolding computes
masked_wrong = apart (λ w. input 1 w.tables) 1073741823 4294967295 refl refl refl

-- bit 30 stays in vout: a pegin of output 0 would be one of output 1,073,741,824
abbrev bit_kept : Tables → List ℕ → Outcome
bit_kept t xs =
    let r = read_once t xs in
    but_tables (tables (set r.tables.inputs 1 (value little (take 4 (drop 38 xs)) % 2 ^ 31)) r.tables.outputs r.tables.items) r

abbrev pegged_in : List ℕ
pegged_in = hex "02000000 00 01" ++ replicate 32 0xee ++ hex "00000040 00 00000000 00 00000000"

pub bit_kept_wrong : Wrong bit_kept former pegged_in
unfolding computes
bit_kept_wrong = apart (λ w. input 1 w.tables) 1073741824 0 refl refl refl

-- amounts are read little-endian: 400 would be 10,376,575,016,438,333,440
abbrev little_endian : Tables → List ℕ → Outcome
little_endian t xs =
    let r = read_once t xs in
    let at = output 3 r.tables in
    let high = value little (take 4 (drop (at + 5) xs)) in
    let low = value little (take 4 (drop (at + 1) xs)) in
    but_tables (tables r.tables.inputs (set (set r.tables.outputs 4 high) 5 low) r.tables.items) r

abbrev four_hundred : List ℕ
four_hundred = hex "02000000 00 00 01 00 01 0000000000000190 00 00 00000000"

pub little_endian_wrong : Wrong little_endian former four_hundred
unfolding computes
little_endian_wrong = apart (λ w. output 5 w.tables) 0 400 refl refl refl

-- an amount enters low half first
abbrev halves_swapped : Tables → List ℕ → Outcome
halves_swapped t xs =
    let r = read_once t xs in
    but_tables (tables r.tables.inputs (set (set r.tables.outputs 4 (output 5 r.tables)) 5 (output 4 r.tables)) r.tables.items) r

pub halves_swapped_wrong : Wrong halves_swapped former four_hundred
unfolding computes
halves_swapped_wrong = apart (λ w. output 5 w.tables) 0 400 refl refl refl

-- 8 looks at the inputs' witnesses only: here an output has a surjection proof
abbrev half_blind : Tables → List ℕ → Outcome
half_blind t xs =
    let r = read_once t xs in
    let none = eqb (input 14 r.tables) 0 && eqb (input 16 r.tables) 0 && eqb (input 18 r.tables) 0 && eqb (input 19 r.tables) 0 in
    cond (eqb (get_or xs 4 0) 1 && none) (gives (taken r) (refused 8 4) (cleared t)) r

pub half_blind_wrong : Wrong half_blind former (hex "02000000 01 00 01 00 00 00 00 00000000 01 ee 00")
unfolding computes
half_blind_wrong = apart answer 8 0 refl refl refl
