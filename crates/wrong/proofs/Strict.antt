-- read_strict: wrong strict readings.
use Prim.Native.Nat.{ℕ, ◌+◌, ◌-◌}
use mathlib.Core.Path.{◌≡◌, refl, sym, ◌∙◌, ap}
use mathlib.Core.Bool.{cond}
use mathlib.Core.List.{List, ◌++◌}
use lib.Dec.{leb, ltb, eqb}
use lib.ListN.{length, get_or, take}
use Rattle.layout.specs.Layout.{Answer, finished, more, refused}
use Rattle.layout.specs.Outcome.{Tables, Outcome}
use Rattle.layout.specs.Transaction.{Head}
use Rattle.decoders.specs.Machine.{machine, fresh, fed, head_of}
use Rattle.decoders.specs.Feeding.{tables, sizes_of, cleared, begun, closed, pushed, read_once, read_strict}
use Rattle.loads.proofs.Loads.{hex}
use Rattle.wrong.proofs.Loads.{computes, apart, placed, kind, former, bare, flagged, paying, full, broken, input, output, item}
use Rattle.wrong.proofs.Wholes.{answer, case, taken, gives, but_taken, but_answer, but_tables}

abbrev Wrong : (Tables → List ℕ → Outcome) → Tables → List ℕ → Type 0
Wrong p t xs = p t xs ≡ read_strict t xs → ⊥

-- does nothing
abbrev idle : Tables → List ℕ → Outcome
idle t xs = gives 0 more t

pub idle_wrong : Wrong idle former bare
unfolding computes
idle_wrong = apart taken 0 11 refl refl refl

-- refuses all, by any number and place: no shipment would be accepted
abbrev refusing : ℕ → ℕ → Tables → List ℕ → Outcome
refusing n p t xs = gives p (refused n p) (cleared t)

pub refusing_wrong : (n p : ℕ) → Wrong (refusing n p) former bare
unfolding computes
refusing_wrong n p = apart case 2 0 refl refl refl

-- answers always the same, whatever that answer is: it fails at 11 bytes or at the first 10 of them
abbrev same : Answer Head → Tables → List ℕ → Outcome
same a t xs = but_answer a (read_strict t xs)

same_finished : (a : Answer Head) → same a former bare ≡ read_strict former bare → kind a ≡ 0
unfolding computes
same_finished a e = ap case e

same_cut : (a : Answer Head) → same a former (take 10 bare) ≡ read_strict former (take 10 bare) → kind a ≡ 2
unfolding computes
same_cut a e = ap case e

pub same_wrong : (a : Answer Head) → same a former bare ≡ read_strict former bare → same a former (take 10 bare) ≡ read_strict former (take 10 bare) → ⊥
same_wrong a e e' = apart (λ (n : ℕ). n) 0 2 refl refl refl (sym (same_finished a e) ∙ same_cut a e')

-- always the piece's length for the bytes taken: the next transaction would be thrown away, a fault looked for at the end
abbrev whole_piece : Tables → List ℕ → Outcome
whole_piece t xs = but_taken (length xs) (read_strict t xs)

pub whole_piece_wrong : Wrong whole_piece former (flagged ++ hex "00")
unfolding computes
whole_piece_wrong = apart taken 12 11 refl refl refl

-- the tables aren't set to 0 at the start: a former record would stand behind the count
abbrev unzeroed : Tables → List ℕ → Outcome
unzeroed t xs = let o = closed (fed (machine (fresh (sizes_of t)) t) xs).state 0 (fed (machine (fresh (sizes_of t)) t) xs).tables in but_tables o.tables (read_strict t xs)

pub unzeroed_wrong : Wrong unzeroed former bare
unfolding computes
unzeroed_wrong = apart (λ w. input 0 w.tables) 7 0 refl refl refl

-- nor, where a record is read, the numbers of it that aren't entered: here the surjection proof's position of an output without witness
pub unzeroed_record_wrong : Wrong unzeroed former paying
unfolding computes
unzeroed_record_wrong = apart (λ w. output 10 w.tables) 7 0 refl refl refl

-- a refused reading leaves one of the tables as it was lent, or as it was entered
abbrev inputs_left : Tables → List ℕ → Outcome
inputs_left t xs = let e = fed (begun t) xs in but_tables (tables e.tables.inputs (read_strict t xs).tables.outputs (read_strict t xs).tables.items) (read_strict t xs)

pub inputs_left_wrong : Wrong inputs_left former broken
unfolding computes
inputs_left_wrong = apart (λ w. input 0 w.tables) 6 0 refl refl refl

abbrev outputs_left : Tables → List ℕ → Outcome
outputs_left t xs = let e = fed (begun t) xs in but_tables (tables (read_strict t xs).tables.inputs e.tables.outputs (read_strict t xs).tables.items) (read_strict t xs)

pub outputs_left_wrong : Wrong outputs_left former broken
unfolding computes
outputs_left_wrong = apart (λ w. output 1 w.tables) 48 0 refl refl refl

abbrev items_left : Tables → List ℕ → Outcome
items_left t xs = let e = fed (begun t) xs in but_tables (tables (read_strict t xs).tables.inputs (read_strict t xs).tables.outputs e.tables.items) (read_strict t xs)

pub items_left_wrong : Wrong items_left former broken
unfolding computes
items_left_wrong = apart (λ w. item 0 w.tables) 60 0 refl refl refl

-- all tables 0 always: an accepted transaction's numbers would be lost
abbrev empty_tables : Tables → List ℕ → Outcome
empty_tables t xs = but_tables (cleared t) (read_strict t xs)

pub empty_tables_wrong : Wrong empty_tables former paying
unfolding computes
empty_tables_wrong = apart (λ w. output 1 w.tables) 0 7 refl refl refl

-- isn't finished: a cut transaction still wants more
abbrev unfinished : Tables → List ℕ → Outcome
unfinished t xs = let o = pushed (begun t).state (begun t).tables xs in gives o.taken o.answer o.tables

pub unfinished_wrong : Wrong unfinished former (take 10 bare)
unfolding computes
unfinished_wrong = apart answer 99 1 refl refl refl

-- head numbers shown of a refused reading
abbrev head_shown : Tables → List ℕ → Outcome
head_shown t xs = but_answer (finished (head_of (fed (begun t) xs).state)) (read_strict t xs)

pub head_shown_wrong : Wrong head_shown former flagged
unfolding computes
head_shown_wrong = apart answer 0 7 refl refl refl

-- a bad flag is refused before the inputs: here the first fault is a prefix at 7
abbrev flag_first : Tables → List ℕ → Outcome
flag_first t xs = cond (leb 2 (get_or xs 4 0)) (gives 5 (refused 7 4) (cleared t)) (read_strict t xs)

pub flag_first_wrong : Wrong flag_first former (hex "02000000 02 00 01 02")
unfolding computes
flag_first_wrong = apart answer 7 5 refl refl refl

-- ignores the strict rule: bytes behind a transaction would pass
pub lax_wrong : Wrong read_once former (bare ++ hex "00")
unfolding computes
lax_wrong = apart answer 0 9 refl refl refl

-- counts the follower as taken: 9 comes after the finish, and an ended reading takes no more
abbrev follower : Tables → List ℕ → Outcome
follower t xs = cond (eqb (answer (read_strict t xs)) 9) (but_taken (taken (read_strict t xs) + 1) (read_strict t xs)) (read_strict t xs)

pub follower_wrong : Wrong follower former (bare ++ hex "00")
unfolding computes
follower_wrong = apart taken 12 11 refl refl refl

-- 9 to whatever has bytes behind: a refused reading's own fault would be hidden
abbrev nine_first : Tables → List ℕ → Outcome
nine_first t xs = cond (ltb (taken (read_strict t xs)) (length xs)) (but_answer (refused 9 (taken (read_strict t xs))) (read_strict t xs)) (read_strict t xs)

pub nine_first_wrong : Wrong nine_first former (flagged ++ hex "00")
unfolding computes
nine_first_wrong = apart answer 9 7 refl refl refl

-- 9 is placed at the last byte
abbrev at_last : Tables → List ℕ → Outcome
at_last t xs = cond (eqb (answer (read_strict t xs)) 9) (but_answer (refused 9 (length xs - 1)) (read_strict t xs)) (read_strict t xs)

pub at_last_wrong : Wrong at_last former (bare ++ hex "00 00")
unfolding computes
at_last_wrong = apart (λ w. placed w.answer) 12 11 refl refl refl

-- 9 leaves the tables: in each of them a refused reading's numbers would stand
abbrev nine_leaves : Tables → List ℕ → Outcome
nine_leaves t xs = but_tables (read_once t xs).tables (read_strict t xs)

pub nine_leaves_inputs_wrong : Wrong nine_leaves former (full ++ hex "00")
unfolding computes
nine_leaves_inputs_wrong = apart (λ w. input 0 w.tables) 6 0 refl refl refl

pub nine_leaves_outputs_wrong : Wrong nine_leaves former (full ++ hex "00")
unfolding computes
nine_leaves_outputs_wrong = apart (λ w. output 1 w.tables) 48 0 refl refl refl

pub nine_leaves_items_wrong : Wrong nine_leaves former (full ++ hex "00")
unfolding computes
nine_leaves_items_wrong = apart (λ w. item 0 w.tables) 60 0 refl refl refl
