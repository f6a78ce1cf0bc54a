-- end: wrong finishes.
use Prim.Native.Nat.{ℕ}
use mathlib.Core.Path.{◌≡◌, refl, sym, ◌∙◌, ap}
use mathlib.Core.Bool.{cond, ◌&&◌}
use lib.Dec.{leb, eqb}
use lib.ListN.{length, take, replicate}
use Rattle.layout.specs.Layout.{Answer, finished, more, refused}
use Rattle.layout.specs.Outcome.{Tables}
use Rattle.layout.specs.Transaction.{Head}
use Rattle.decoders.specs.Machine.{State, refuse, with_field, field, head_of}
use Rattle.decoders.specs.Feeding.{tables, sizes_of, cleared, gate, closed, finish, Out, out, ended}
use Rattle.wrong.proofs.Loads.{computes, apart, placed, kind, former, zeroed, bare, flagged, paying, laden, start, after, left, forged, longer, input, output, item}
use Rattle.wrong.proofs.Outs.{answer, case, taken}

abbrev Wrong : (State → Tables → Out) → State → Tables → Type 0
Wrong p s t = p s t ≡ ended s t → ⊥

-- does nothing: a cut transaction would wait for ever
abbrev idle : State → Tables → Out
idle s t = out s 0 more t

pub idle_wrong : Wrong idle start zeroed
unfolding computes
idle_wrong = apart answer 99 1 refl refl refl

-- gives 1 to a finished reading: what was read would be refused after all
abbrev refuses_finished : State → Tables → Out
refuses_finished s t = closed (refuse 1 s.taken s) 0 t

pub refuses_finished_wrong : Wrong refuses_finished (after bare) zeroed
unfolding computes
refuses_finished_wrong = apart answer 1 0 refl refl refl

-- refuses all, by any number and place
abbrev refusing : ℕ → ℕ → State → Tables → Out
refusing n p s t = out (refuse n p s) 0 (refused n p) (cleared t)

pub refusing_wrong : (n p : ℕ) → Wrong (refusing n p) (after bare) zeroed
unfolding computes
refusing_wrong n p = apart case 2 0 refl refl refl

-- gives 1 to a refused reading: the first fault would be forgotten
pub first_fault_wrong : Wrong refuses_finished (after flagged) zeroed
unfolding computes
first_fault_wrong = apart answer 1 7 refl refl refl

-- answers always the same, whatever that answer is: it fails at a finished or at a fresh reading
abbrev same : Answer Head → State → Tables → Out
same a s t = out (ended s t).state (ended s t).taken a (ended s t).tables

same_finished : (a : Answer Head) → same a (after bare) zeroed ≡ ended (after bare) zeroed → kind a ≡ 0
unfolding computes
same_finished a e = ap case e

same_refused : (a : Answer Head) → same a start zeroed ≡ ended start zeroed → kind a ≡ 2
unfolding computes
same_refused a e = ap case e

pub same_wrong : (a : Answer Head) → same a (after bare) zeroed ≡ ended (after bare) zeroed → same a start zeroed ≡ ended start zeroed → ⊥
same_wrong a e e' = apart (λ (n : ℕ). n) 0 2 refl refl refl (sym (same_finished a e) ∙ same_refused a e')

-- accepts what is cut
abbrev accepting : State → Tables → Out
accepting s t = out s 0 (finished (head_of s)) t

pub accepting_wrong : Wrong accepting (after (take 10 bare)) zeroed
unfolding computes
accepting_wrong = apart answer 0 1 refl refl refl

-- takes bytes: finishing has no piece
abbrev takes : State → Tables → Out
takes s t = out (ended s t).state s.taken (ended s t).answer (ended s t).tables

pub takes_wrong : Wrong takes (after (take 4 bare)) zeroed
unfolding computes
takes_wrong = apart taken 4 0 refl refl refl

-- 1 is placed at 0: the cut would be looked for at the start
abbrev at_zero : State → Tables → Out
at_zero s t = closed (cond (leb 25 s.field.stage) s (refuse 1 0 s)) 0 t

pub at_zero_wrong : Wrong at_zero (after (take 4 bare)) zeroed
unfolding computes
at_zero_wrong = apart (λ o. placed o.answer) 0 4 refl refl refl

-- gives 2 where more is wanted: a cut message would look too long
abbrev gives_two : State → Tables → Out
gives_two s t = closed (cond (leb 25 s.field.stage) s (refuse 2 s.taken s)) 0 t

pub gives_two_wrong : Wrong gives_two (after (take 4 bare)) zeroed
unfolding computes
gives_two_wrong = apart answer 2 1 refl refl refl

-- answers 1 and lets the reading go on: a refused reading could be finished later
abbrev goes_on : State → Tables → Out
goes_on s t = out s 0 (ended s t).answer (ended s t).tables

pub goes_on_wrong : Wrong goes_on (after (take 4 bare)) zeroed
unfolding computes
goes_on_wrong = apart (λ o. o.state.field.stage) 1 26 refl refl refl

-- at 1 one of the tables keeps what was entered
abbrev inputs_left : State → Tables → Out
inputs_left s t = out (ended s t).state 0 (ended s t).answer (tables t.inputs (ended s t).tables.outputs (ended s t).tables.items)

pub inputs_left_wrong : Wrong inputs_left (after laden) (left laden)
unfolding computes
inputs_left_wrong = apart (λ o. input 0 o.tables) 6 0 refl refl refl

abbrev outputs_left : State → Tables → Out
outputs_left s t = out (ended s t).state 0 (ended s t).answer (tables (ended s t).tables.inputs t.outputs (ended s t).tables.items)

pub outputs_left_wrong : Wrong outputs_left (after laden) (left laden)
unfolding computes
outputs_left_wrong = apart (λ o. output 1 o.tables) 48 0 refl refl refl

abbrev items_left : State → Tables → Out
items_left s t = out (ended s t).state 0 (ended s t).answer (tables (ended s t).tables.inputs (ended s t).tables.outputs t.items)

pub items_left_wrong : Wrong items_left (after laden) (left laden)
unfolding computes
items_left_wrong = apart (λ o. item 0 o.tables) 60 0 refl refl refl

-- a refused reading doesn't set the tables to 0 again
abbrev zeroed_once : State → Tables → Out
zeroed_once s t = cond (eqb s.field.stage 26) (out s 0 (ended s t).answer t) (ended s t)

pub zeroed_once_wrong : Wrong zeroed_once (after flagged) former
unfolding computes
zeroed_once_wrong = apart (λ o. input 0 o.tables) 7 0 refl refl refl

-- clears a finished reading's tables: what was read would be lost at finish
abbrev clears_finished : State → Tables → Out
clears_finished s t = out (ended s t).state 0 (ended s t).answer (cleared t)

pub clears_finished_wrong : Wrong clears_finished (after paying) (left paying)
unfolding computes
clears_finished_wrong = apart (λ o. output 1 o.tables) 0 7 refl refl refl

-- or only its item table, where it has no items
abbrev clears_items : State → Tables → Out
clears_items s t =
    cond (eqb s.field.stage 25 && eqb s.counts.items 0) (out (ended s t).state 0 (ended s t).answer (tables t.inputs t.outputs (replicate (length t.items) 0))) (ended s t)

pub clears_items_wrong : Wrong clears_items (after bare) former
unfolding computes
clears_items_wrong = apart (λ o. item 0 o.tables) 0 7 refl refl refl

-- the gate: none; 10 before 11; tables set to 0
abbrev ungated : State → Tables → Out
ungated s t = closed (finish s) 0 t

pub ungated_eleven_wrong : Wrong ungated (with_field (field 0 3 9 0 0) start) former
unfolding computes
ungated_eleven_wrong = apart answer 1 11 refl refl refl

-- nor a field that has all its bytes and was not settled
pub ungated_whole_wrong : Wrong ungated (with_field (field 0 3 4 4 0) start) former
unfolding computes
ungated_whole_wrong = apart answer 1 11 refl refl refl

pub ungated_ten_wrong : Wrong ungated start longer
unfolding computes
ungated_ten_wrong = apart answer 1 10 refl refl refl

abbrev ten_first : State → Tables → Out
ten_first s t = cond (eqb s.sizes.inputs (length t.inputs)) (ended s t) (out s 0 (refused 10 0) t)

pub ten_first_wrong : Wrong ten_first forged longer
unfolding computes
ten_first_wrong = apart answer 10 11 refl refl refl

abbrev clears_on_misuse : State → Tables → Out
clears_on_misuse s t = cond (eqb (gate s (sizes_of t)) 0) (ended s t) (out s 0 (refused (gate s (sizes_of t)) 0) (cleared t))

pub clears_on_misuse_ten_wrong : Wrong clears_on_misuse start longer
unfolding computes
clears_on_misuse_ten_wrong = apart (λ o. input 0 o.tables) 0 7 refl refl refl

pub clears_on_misuse_eleven_wrong : Wrong clears_on_misuse forged former
unfolding computes
clears_on_misuse_eleven_wrong = apart (λ o. input 0 o.tables) 0 7 refl refl refl
