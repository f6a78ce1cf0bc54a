-- push_bytes: wrong feedings.
use Prim.Native.Nat.{ℕ, ◌+◌, ◌-◌, ◌*◌, ◌/◌}
use mathlib.Core.Path.{◌≡◌, refl, sym, ◌∙◌, ap}
use mathlib.Core.Bool.{cond, ◌&&◌}
use mathlib.Core.List.{List, [], ◌∷◌, ◌++◌}
use lib.Dec.{leb, eqb}
use lib.ListN.{length, take, drop, get_or, replicate, set}
use Rattle.layout.specs.Layout.{Answer, finished, more, refused}
use Rattle.layout.specs.Outcome.{Tables}
use Rattle.layout.specs.Transaction.{Head}
use Rattle.decoders.specs.Machine.{State, machine, refuse, fed, set_version, set_issuance, head_of}
use Rattle.decoders.specs.Feeding.{tables, sizes_of, cleared, gate, closed, Out, out, pushed, ended}
use Rattle.loads.proofs.Loads.{hex}
use Rattle.wrong.proofs.Loads.{computes, apart, kind, inputs_told, version_told, counts_swapped, ends_swapped, former, zeroed, bare, flagged, paying, spending, broken, start, after, left, forged, longer, input, output, item}
use Rattle.wrong.proofs.Outs.{answer, case, taken, but_state, but_taken, but_answer, but_tables, is_refused}

-- what a wrong program gives at a load, and what is promised there, can't be the same
abbrev Wrong : (State → Tables → List ℕ → Out) → State → Tables → List ℕ → Type 0
Wrong p s t xs = p s t xs ≡ pushed s t xs → ⊥

-- ---- programs that don't read

-- does nothing: no transaction would ever be read
abbrev idle : State → Tables → List ℕ → Out
idle s t xs = out s 0 more t

pub idle_wrong : Wrong idle start zeroed bare
unfolding computes
idle_wrong = apart taken 0 11 refl refl refl

-- refuses all, by any number and place: no shipment would be accepted
abbrev refusing : ℕ → ℕ → State → Tables → List ℕ → Out
refusing n p s t xs = out (refuse n p s) 0 (refused n p) (cleared t)

pub refusing_wrong : (n p : ℕ) → Wrong (refusing n p) start zeroed bare
unfolding computes
refusing_wrong n p = apart case 2 0 refl refl refl

-- answers always the same, all else right, whatever that answer is: it fails at 11 bytes or at the first 10 of them
abbrev same : Answer Head → State → Tables → List ℕ → Out
same a s t xs = but_answer a (pushed s t xs)

same_finished : (a : Answer Head) → same a start zeroed bare ≡ pushed start zeroed bare → kind a ≡ 0
unfolding computes
same_finished a e = ap case e

same_more : (a : Answer Head) → same a start zeroed (take 10 bare) ≡ pushed start zeroed (take 10 bare) → kind a ≡ 1
unfolding computes
same_more a e = ap case e

pub same_wrong : (a : Answer Head) → same a start zeroed bare ≡ pushed start zeroed bare → same a start zeroed (take 10 bare) ≡ pushed start zeroed (take 10 bare) → ⊥
same_wrong a e e' = apart (λ (n : ℕ). n) 0 1 refl refl refl (sym (same_finished a e) ∙ same_more a e')

-- reads the first piece and nods at later ones: what comes in two pieces would be lost
abbrev nodding : State → Tables → List ℕ → Out
nodding s t xs = cond (eqb s.taken 0) (pushed s t xs) (out s (length xs) more t)

pub nodding_wrong : Wrong nodding (after (take 4 bare)) zeroed (drop 4 bare)
unfolding computes
nodding_wrong = apart case 1 0 refl refl refl

-- at the flag byte alone answer and count are right, but not the state
pub nodding_state_wrong : Wrong nodding (after (take 4 bare)) zeroed (hex "00")
unfolding computes
nodding_state_wrong = apart (λ o. o.state.taken) 4 5 refl refl refl

-- and at an asset's prefix not the table
pub nodding_table_wrong : Wrong nodding (after (take 7 paying)) zeroed (hex "00")
unfolding computes
nodding_table_wrong = apart (λ o. output 1 o.tables) 0 7 refl refl refl

-- the tables are filled only once the reading is finished: a caller who looks in between sees nothing
abbrev late : State → Tables → List ℕ → Out
late s t xs = cond (eqb (case (pushed s t xs)) 1) (but_tables t (pushed s t xs)) (pushed s t xs)

pub late_wrong : Wrong late start zeroed (take 8 paying)
unfolding computes
late_wrong = apart (λ o. output 1 o.tables) 0 7 refl refl refl

-- an empty piece counts as the end: a pause on the wire would refuse the shipment
abbrev empty_ends : State → Tables → List ℕ → Out
empty_ends s t [] = ended s t
empty_ends s t (x ∷ xs) = pushed s t (x ∷ xs)

pub empty_ends_wrong : Wrong empty_ends start zeroed []
unfolding computes
empty_ends_wrong = apart answer 1 99 refl refl refl

-- ---- invented counts of bytes taken

-- always the piece's length: the next transaction's first bytes would be thrown away
abbrev whole_piece : State → Tables → List ℕ → Out
whole_piece s t xs = but_taken (length xs) (pushed s t xs)

pub whole_piece_wrong : Wrong whole_piece start zeroed (bare ++ hex "00")
unfolding computes
whole_piece_wrong = apart taken 12 11 refl refl refl

-- the byte that settles a refusal isn't counted: the caller would look for the fault one byte off
abbrev one_less : State → Tables → List ℕ → Out
one_less s t xs = cond (is_refused (pushed s t xs)) (but_taken (taken (pushed s t xs) - 1) (pushed s t xs)) (pushed s t xs)

pub one_less_wrong : Wrong one_less start zeroed flagged
unfolding computes
one_less_wrong = apart taken 10 11 refl refl refl

-- the bytes taken since the fresh start: a caller with two pieces would skip too far
abbrev since_start : State → Tables → List ℕ → Out
since_start s t xs = but_taken (pushed s t xs).state.taken (pushed s t xs)

pub since_start_wrong : Wrong since_start (after (take 4 bare)) zeroed (drop 4 bare)
unfolding computes
since_start_wrong = apart taken 11 7 refl refl refl

-- an ended reading takes what it is given: the next transaction would be lost
abbrev hungry : State → Tables → List ℕ → Out
hungry s t xs = cond (leb 25 s.field.stage) (but_taken (length xs) (pushed s t xs)) (pushed s t xs)

pub hungry_wrong : Wrong hungry (after bare) zeroed (hex "00")
unfolding computes
hungry_wrong = apart taken 1 0 refl refl refl

-- ---- tables of a refused reading: one of the three keeps what was entered, and a refused shipment's numbers would be used

abbrev inputs_left : State → Tables → List ℕ → Out
inputs_left s t xs = but_tables (tables (fed (machine s t) xs).tables.inputs (pushed s t xs).tables.outputs (pushed s t xs).tables.items) (pushed s t xs)

pub inputs_left_wrong : Wrong inputs_left start zeroed broken
unfolding computes
inputs_left_wrong = apart (λ o. input 0 o.tables) 6 0 refl refl refl

abbrev outputs_left : State → Tables → List ℕ → Out
outputs_left s t xs = but_tables (tables (pushed s t xs).tables.inputs (fed (machine s t) xs).tables.outputs (pushed s t xs).tables.items) (pushed s t xs)

pub outputs_left_wrong : Wrong outputs_left start zeroed broken
unfolding computes
outputs_left_wrong = apart (λ o. output 1 o.tables) 48 0 refl refl refl

abbrev items_left : State → Tables → List ℕ → Out
items_left s t xs = but_tables (tables (pushed s t xs).tables.inputs (pushed s t xs).tables.outputs (fed (machine s t) xs).tables.items) (pushed s t xs)

pub items_left_wrong : Wrong items_left start zeroed broken
unfolding computes
items_left_wrong = apart (λ o. item 0 o.tables) 60 0 refl refl refl

-- the head numbers stay in a refused state: they would be taken for a transaction's
abbrev head_left : State → Tables → List ℕ → Out
head_left s t xs = cond (is_refused (pushed s t xs)) (but_state (set_version 2 (pushed s t xs).state) (pushed s t xs)) (pushed s t xs)

pub head_left_wrong : Wrong head_left start zeroed flagged
unfolding computes
head_left_wrong = apart (λ o. o.state.counts.version) 2 0 refl refl refl

-- and are shown as a finished reading's
abbrev head_shown : State → Tables → List ℕ → Out
head_shown s t xs = cond (is_refused (pushed s t xs)) (but_answer (finished (head_of (pushed s t xs).state)) (pushed s t xs)) (pushed s t xs)

pub head_shown_wrong : Wrong head_shown start zeroed flagged
unfolding computes
head_shown_wrong = apart answer 0 7 refl refl refl

-- ---- head numbers

-- inputs and outputs change places, or version and locktime: the tables would be read with the wrong counts
abbrev head_counts : State → Tables → List ℕ → Out
head_counts s t xs = but_answer (counts_swapped (pushed s t xs).answer) (pushed s t xs)

pub head_counts_wrong : Wrong head_counts start zeroed paying
unfolding computes
head_counts_wrong = apart (λ o. inputs_told o.answer) 1 0 refl refl refl

abbrev head_ends : State → Tables → List ℕ → Out
head_ends s t xs = but_answer (ends_swapped (pushed s t xs).answer) (pushed s t xs)

pub head_ends_wrong : Wrong head_ends start zeroed paying
unfolding computes
head_ends_wrong = apart (λ o. version_told o.answer) 0 2 refl refl refl

-- ---- the tables are never read back

-- whether an issuance follows is looked up in the input table: what the caller wrote there would turn a spend into an issuance
abbrev reads_back : State → Tables → List ℕ → Out
reads_back s t xs = pushed (set_issuance (get_or t.inputs (20 * s.spot.index + 2) 0 / 2) s) t xs

abbrev written : Tables → Tables
written t = tables (set t.inputs 2 2) t.outputs t.items

pub reads_back_wrong : Wrong reads_back (after spending) (written (left spending)) (hex "00 ffffffff 00 00000000")
unfolding computes
reads_back_wrong = apart case 1 0 refl refl refl

-- ---- ended readings

-- a finished reading clears its tables again: a second look would find nothing
abbrev clears_again : State → Tables → List ℕ → Out
clears_again s t xs = cond (eqb s.field.stage 25) (but_tables (cleared t) (pushed s t xs)) (pushed s t xs)

pub clears_again_wrong : Wrong clears_again (after paying) (left paying) []
unfolding computes
clears_again_wrong = apart (λ o. output 1 o.tables) 0 7 refl refl refl

-- nor its item table, where it has no items: what the caller keeps there would be lost
abbrev clears_items : State → Tables → List ℕ → Out
clears_items s t xs =
    cond (eqb s.field.stage 25 && eqb s.counts.items 0) (but_tables (tables t.inputs t.outputs (replicate (length t.items) 0)) (pushed s t xs)) (pushed s t xs)

pub clears_items_wrong : Wrong clears_items (after bare) former []
unfolding computes
clears_items_wrong = apart (λ o. item 0 o.tables) 0 7 refl refl refl

-- a refused reading doesn't set the tables to 0 again: what was written there since would pass for a reading's
abbrev zeroed_once : State → Tables → List ℕ → Out
zeroed_once s t xs = cond (eqb s.field.stage 26) (but_tables t (pushed s t xs)) (pushed s t xs)

pub zeroed_once_wrong : Wrong zeroed_once (after flagged) former []
unfolding computes
zeroed_once_wrong = apart (λ o. input 0 o.tables) 7 0 refl refl refl

-- a refused reading wants more at the next call: a refusal would be forgotten
abbrev forgetful : State → Tables → List ℕ → Out
forgetful s t xs = cond (eqb s.field.stage 26) (but_answer more (pushed s t xs)) (pushed s t xs)

pub forgetful_wrong : Wrong forgetful (after flagged) zeroed []
unfolding computes
forgetful_wrong = apart answer 99 7 refl refl refl

-- ---- the gate

-- no gate: a state that no reading returned is fed, and tables of other sizes are written
abbrev ungated : State → Tables → List ℕ → Out
ungated s t xs = closed (fed (machine s t) xs).state ((fed (machine s t) xs).state.taken - s.taken) (fed (machine s t) xs).tables

pub ungated_eleven_wrong : Wrong ungated forged former bare
unfolding computes
ungated_eleven_wrong = apart answer 99 11 refl refl refl

pub ungated_ten_wrong : Wrong ungated start longer bare
unfolding computes
ungated_ten_wrong = apart answer 0 10 refl refl refl

-- 10 before 11: a forged state would be told as wrong tables
abbrev ten_first : State → Tables → List ℕ → Out
ten_first s t xs = cond (eqb s.sizes.inputs (length t.inputs)) (pushed s t xs) (out s 0 (refused 10 0) t)

pub ten_first_wrong : Wrong ten_first forged longer bare
unfolding computes
ten_first_wrong = apart answer 10 11 refl refl refl

-- 10 and 11 set the tables to 0: a caller's slip would cost him another reading's numbers
abbrev clears_on_misuse : State → Tables → List ℕ → Out
clears_on_misuse s t xs = cond (eqb (gate s (sizes_of t)) 0) (pushed s t xs) (but_tables (cleared t) (pushed s t xs))

pub clears_on_misuse_ten_wrong : Wrong clears_on_misuse start longer bare
unfolding computes
clears_on_misuse_ten_wrong = apart (λ o. input 0 o.tables) 0 7 refl refl refl

pub clears_on_misuse_eleven_wrong : Wrong clears_on_misuse forged former bare
unfolding computes
clears_on_misuse_eleven_wrong = apart (λ o. input 0 o.tables) 0 7 refl refl refl

-- a misused state comes back refused: the reading could not go on once the slip is mended
abbrev spoils : State → Tables → List ℕ → Out
spoils s t xs = cond (eqb (gate s (sizes_of t)) 0) (pushed s t xs) (but_state (refuse (gate s (sizes_of t)) 0 s) (pushed s t xs))

pub spoils_wrong : Wrong spoils start longer bare
unfolding computes
spoils_wrong = apart (λ o. o.state.field.stage) 26 0 refl refl refl
