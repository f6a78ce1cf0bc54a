-- What the reader promises, as the demands and document 01 say it. All of it speaks of the definitions that the contracts cite, so
-- nothing lies between these theorems and the code. docs/THEOREMS.md says which sentence each carries.
use Prim.Native.Nat.{ℕ, zero, suc, ◌+◌, ◌-◌, ◌<◌, ◌≤◌}
use mathlib.Core.Path.{◌≡◌, refl, sym, ◌∙◌, ap, ap₂, subst}
use mathlib.Core.Bool.{Bool, true, false, cond, ◌&&◌}
use mathlib.Core.List.{List, [], ◌∷◌, ◌++◌, append_assoc, append-nil}
use native.Mathlib.Nat.{zero-add}
use native.Mathlib.Omega.{arith}
use lib.Dec.{leb, eqb}
use lib.ListN.{length}
use borrow.Author.Tests.{eq-eqb, ne_eqb, le-leb, lt-leb, eqb-true, eqb-false, leb-true, leb-false}
use Rattle.layout.specs.Number.{Bytes}
use Rattle.layout.specs.Layout as layout
use Rattle.layout.specs.Transaction.{Head}
use Rattle.layout.specs.Outcome as outcome
use Rattle.layout.specs.Outcome.{Tables, Outcome, laid, shown, partial, at_once, strict, reading_of, Agree}
use Rattle.layout.proofs.Reading.{by_cases}
use Rattle.layout.proofs.Theorems as of_layout
use Rattle.encode.proofs.Refusals.{kind_of, number_of_kind}
use Rattle.decoders.specs.declared.Sizes.{Sizes}
use Rattle.decoders.specs.declared.Answer.{Answer}
use Rattle.decoders.specs.declared.Answer.TheVariants.{Finished, More, Refused}
use Rattle.decoders.specs.Stages.{FINISHED}
use Rattle.decoders.specs.Machine.{State, answer_of, machine, Machine, fed, step, gather, entering}
use Rattle.decoders.specs.Range.{in_range}
use Rattle.decoders.specs.Feeding.{sizes_of, cleared, layout_sizes, begun, told, told_number, told_place, told_head, Out, out, gate, closed, pushed, ended, finish}
use Rattle.decoders.proofs.Simulation.{fed_append, fed_ended}
use Rattle.decoders.proofs.Feeds.{Lengths, fed_range, fed_sizes, fed_lengths, fed_taken, settle_taken}
use Rattle.decoders.proofs.Ranges.{fresh_range, by_stage}
use Rattle.decoders.proofs.Fresh.{reading, after, reads, after_range, after_cleared, cleared_lengths, zero_lengths, closed_shows, answer_finish, finish_taken}
use Rattle.decoders.proofs.Entries.{gate_starts, finish_closes}

-- ---- what the caller is told

-- the enum's number, place and head numbers are those of 01's answer
pub told_numbers : (a : Answer) → (told_number a ≡ outcome.number_of (told a)) × (told_place a ≡ outcome.place_of (told a)) × (told_head a ≡ outcome.head_shown (told a))
told_numbers (Finished h) = (refl, refl, refl)
told_numbers More = (refl, refl, refl)
told_numbers (Refused r) = (refl, refl, refl)

-- and each of 01's fourteen numbers is told by a kind
pub told_each : (n p : ℕ) → 1 ≤ n → n ≤ 14 → told (Refused (record { kind = kind_of n; place = p })) ≡ layout.refused n p
told_each n p l h = ap (λ (m : ℕ). layout.refused m p) (number_of_kind n l h)

-- ---- demand 1: it never trusts the caller

-- the gate's numbers: 0, 10 or 11
gate_bools : (b c : Bool) → (◌≡◌ {A = ℕ} (cond b (cond c 0 10) 11) 0 → ⊥) → 10 ≤ cond b (cond c 0 10) 11
gate_bools true true h = absurd (h refl)
gate_bools true false h = omega arith
gate_bools false c h = omega arith

gate_numbers : (s : State) (z : Sizes) → (gate s z ≡ 0 → ⊥) → 10 ≤ gate s z
unfolding gate
gate_numbers s z h = gate_bools (in_range s) (eqb s.sizes.inputs z.inputs && eqb s.sizes.outputs z.outputs && eqb s.sizes.items z.items) h

-- 10 and 11 change neither state nor tables, and take nothing
pub misuse_untouched : (s : State) (t : Tables) (xs : List ℕ) → (gate s (sizes_of t) ≡ 0 → ⊥) → pushed s t xs ≡ out s 0 (layout.refused (gate s (sizes_of t)) 0) t
unfolding pushed
misuse_untouched s t xs h = rw (ne_eqb (gate s (sizes_of t)) 0 h)

pub misuse_untouched_end : (s : State) (t : Tables) → (gate s (sizes_of t) ≡ 0 → ⊥) → ended s t ≡ out s 0 (layout.refused (gate s (sizes_of t)) 0) t
unfolding ended
misuse_untouched_end s t h = rw (ne_eqb (gate s (sizes_of t)) 0 h)

-- 11 is given to every state that fails the range test, and before 10
pub eleven_first : (s : State) (z : Sizes) → in_range s ≡ false → gate s z ≡ 11
unfolding gate
eleven_first s z e = rw e

-- what a call that is not misused gives
pub pushed_open : (s : State) (t : Tables) (xs : List ℕ) → gate s (sizes_of t) ≡ 0 → pushed s t xs ≡ closed (fed (machine s t) xs).state ((fed (machine s t) xs).state.taken - s.taken) (fed (machine s t) xs).tables
unfolding pushed
pushed_open s t xs e = rw (eq-eqb (gate s (sizes_of t)) 0 e)

pub ended_open : (s : State) (t : Tables) → gate s (sizes_of t) ≡ 0 → ended s t ≡ closed (finish s) 0 t
unfolding ended
ended_open s t e = rw (eq-eqb (gate s (sizes_of t)) 0 e)

-- and what it answers
pub open_answer : (s : State) (t : Tables) (xs : List ℕ) → gate s (sizes_of t) ≡ 0 → (pushed s t xs).answer ≡ answer_of (fed (machine s t) xs).state
unfolding closed
open_answer s t xs g = ap (λ (x : Out). x.answer) (pushed_open s t xs g)

pub open_answer_end : (s : State) (t : Tables) → gate s (sizes_of t) ≡ 0 → (ended s t).answer ≡ answer_of (finish s)
unfolding closed
open_answer_end s t g = ap (λ (x : Out). x.answer) (ended_open s t g)

-- a refusal is stage 26
pub finished_not_refused : (h : _) (n p : ℕ) → ◌≡◌ {A = layout.Answer Head} (layout.finished h) (layout.refused n p) → ⊥
finished_not_refused h n p e = let z : ◌≡◌ {A = ℕ} 0 1 = cc in omega arith

pub more_not_refused : (n p : ℕ) → ◌≡◌ {A = layout.Answer Head} layout.more (layout.refused n p) → ⊥
more_not_refused n p e = let z : ◌≡◌ {A = ℕ} 0 1 = cc in omega arith

pub refused_stage : (s : State) (n p : ℕ) → answer_of s ≡ layout.refused n p → eqb s.field.stage 26 ≡ true
unfolding answer_of
refused_stage s n p e =
    by_cases (eqb s.field.stage 26) (λ q. q)
    (λ q. by_cases (eqb s.field.stage 25)
    (λ r. absurd (finished_not_refused _ n p (rw r at e)))
    (λ r. absurd (more_not_refused n p (rw (r, q) at e))))

closed_zero : (s : State) (k : ℕ) (t : Tables) (n p : ℕ) → (closed s k t).answer ≡ layout.refused n p → (closed s k t).tables ≡ cleared t
unfolding closed
closed_zero s k t n p e = rw (refused_stage s n p e)

pub same_number : (n m p q : ℕ) → ◌≡◌ {A = layout.Answer Head} (layout.refused n p) (layout.refused m q) → n ≡ m
same_number n m p q e = cc

-- a refused reading leaves every number of the lent tables 0
pub refused_zero : (s : State) (t : Tables) (xs : List ℕ) (n p : ℕ) → (pushed s t xs).answer ≡ layout.refused n p → n ≤ 9 → (pushed s t xs).tables ≡ cleared t
refused_zero s t xs n p e small =
    by_cases (eqb (gate s (sizes_of t)) 0)
    (λ g. let o = pushed_open s t xs (eqb-true (gate s (sizes_of t)) 0 g) in
    ap (λ (x : Out). x.tables) o
    ∙ closed_zero (fed (machine s t) xs).state _ (fed (machine s t) xs).tables n p (sym (ap (λ (x : Out). x.answer) o) ∙ e)
    ∙ cleared_lengths t (fed (machine s t) xs).tables (fed_lengths (machine s t) xs))
    (λ g. let h = eqb-false (gate s (sizes_of t)) 0 g in
    let m = same_number (gate s (sizes_of t)) n 0 p (sym (ap (λ (x : Out). x.answer) (misuse_untouched s t xs h)) ∙ e) in
    absurd (omega (arith, m, gate_numbers s (sizes_of t) h)))

pub refused_zero_end : (s : State) (t : Tables) (n p : ℕ) → (ended s t).answer ≡ layout.refused n p → n ≤ 9 → (ended s t).tables ≡ cleared t
refused_zero_end s t n p e small =
    by_cases (eqb (gate s (sizes_of t)) 0)
    (λ g. let o = ended_open s t (eqb-true (gate s (sizes_of t)) 0 g) in
    ap (λ (x : Out). x.tables) o ∙ closed_zero (finish s) 0 t n p (sym (ap (λ (x : Out). x.answer) o) ∙ e))
    (λ g. let h = eqb-false (gate s (sizes_of t)) 0 g in
    let m = same_number (gate s (sizes_of t)) n 0 p (sym (ap (λ (x : Out). x.answer) (misuse_untouched_end s t h)) ∙ e) in
    absurd (omega (arith, m, gate_numbers s (sizes_of t) h)))

-- every state that a fresh start or a call on a state within its range returns is within its range
pub range_kept : (s : State) (t : Tables) (xs : List ℕ) → Bytes xs → in_range s ≡ true → in_range (pushed s t xs).state ≡ true
unfolding closed
range_kept s t xs q r =
    by_cases (eqb (gate s (sizes_of t)) 0)
    (λ g. subst (λ (x : Out). in_range x.state ≡ true) (sym (pushed_open s t xs (eqb-true (gate s (sizes_of t)) 0 g))) (fed_range (machine s t) xs q r))
    (λ g. subst (λ (x : Out). in_range x.state ≡ true) (sym (misuse_untouched s t xs (eqb-false (gate s (sizes_of t)) 0 g))) r)

pub range_kept_end : (s : State) (t : Tables) → in_range s ≡ true → in_range (ended s t).state ≡ true
unfolding closed
range_kept_end s t r =
    by_cases (eqb (gate s (sizes_of t)) 0)
    (λ g. subst (λ (x : Out). in_range x.state ≡ true) (sym (ended_open s t (eqb-true (gate s (sizes_of t)) 0 g))) (finish_closes s r))
    (λ g. subst (λ (x : Out). in_range x.state ≡ true) (sym (misuse_untouched_end s t (eqb-false (gate s (sizes_of t)) 0 g))) r)

pub range_fresh : (t : Tables) → in_range (begun t).state ≡ true
range_fresh t = fresh_range (sizes_of t)

pub same_place : (n m p q : ℕ) → ◌≡◌ {A = layout.Answer Head} (layout.refused n p) (layout.refused m q) → p ≡ q
same_place n m p q e = cc

-- a state within its range that answers a refusal, never 9, 10 or 11 by itself: its number and place
pub refused_between : (s : State) (n p : ℕ) → in_range s ≡ true → answer_of s ≡ layout.refused n p → (1 ≤ n) × (n ≤ 8) × (p ≤ s.taken)
unfolding answer_of
refused_between s n p r e =
    by_stage s r
    (λ o. let a : s.field.stage ≡ 25 → ⊥ = λ z. omega (arith, o.stage) in
    let b : s.field.stage ≡ 26 → ⊥ = λ z. omega (arith, o.stage) in
    absurd (more_not_refused n p (rw (ne_eqb s.field.stage 25 a, ne_eqb s.field.stage 26 b) at e)))
    (λ z _. absurd (finished_not_refused _ n p (rw (eq-eqb s.field.stage 25 z) at e)))
    (λ z w. let a : s.field.stage ≡ 25 → ⊥ = λ y. omega arith in
    let same = rw (ne_eqb s.field.stage 25 a, eq-eqb s.field.stage 26 z) at e in
    omega (arith, w.least, w.greatest, w.have, same_number s.field.value n s.field.have p same, same_place s.field.value n s.field.have p same))

-- said of the answer: 9 and above leaves state and tables as they were, takes nothing, and has place 0
pub misuse_answer : (s : State) (t : Tables) (xs : List ℕ) (n p : ℕ) → Bytes xs → (pushed s t xs).answer ≡ layout.refused n p → 9 ≤ n → pushed s t xs ≡ out s 0 (layout.refused n 0) t
unfolding closed
misuse_answer s t xs n p q e big =
    by_cases (eqb (gate s (sizes_of t)) 0)
    (λ g. let z = eqb-true (gate s (sizes_of t)) 0 g in
    let o = pushed_open s t xs z in
    let small = refused_between (fed (machine s t) xs).state n p (fed_range (machine s t) xs q (gate_starts s t z).range) (sym (ap (λ (x : Out). x.answer) o) ∙ e) in
    absurd (omega (arith, small)))
    (λ g. let m = misuse_untouched s t xs (eqb-false (gate s (sizes_of t)) 0 g) in
    m ∙ ap (λ (k : ℕ). out s 0 (layout.refused k 0) t) (same_number (gate s (sizes_of t)) n 0 p (sym (ap (λ (x : Out). x.answer) m) ∙ e)))

pub misuse_answer_end : (s : State) (t : Tables) (n p : ℕ) → (ended s t).answer ≡ layout.refused n p → 9 ≤ n → ended s t ≡ out s 0 (layout.refused n 0) t
unfolding closed
misuse_answer_end s t n p e big =
    by_cases (eqb (gate s (sizes_of t)) 0)
    (λ g. let z = eqb-true (gate s (sizes_of t)) 0 g in
    let o = ended_open s t z in
    let small = refused_between (finish s) n p (finish_closes s (gate_starts s t z).range) (sym (ap (λ (x : Out). x.answer) o) ∙ e) in
    absurd (omega (arith, small)))
    (λ g. let m = misuse_untouched_end s t (eqb-false (gate s (sizes_of t)) 0 g) in
    m ∙ ap (λ (k : ℕ). out s 0 (layout.refused k 0) t) (same_number (gate s (sizes_of t)) n 0 p (sym (ap (λ (x : Out). x.answer) m) ∙ e)))

-- a state within its range and tables of its own sizes are let through
pub gate_zero : (s : State) (z : Sizes) → in_range s ≡ true → s.sizes ≡ z → gate s z ≡ 0
unfolding gate
gate_zero s z r e =
    rw (r, eq-eqb s.sizes.inputs z.inputs (ap (λ (x : Sizes). x.inputs) e), eq-eqb s.sizes.outputs z.outputs (ap (λ (x : Sizes). x.outputs) e), eq-eqb s.sizes.items z.items (ap (λ (x : Sizes). x.items) e))

-- of a state within its range, 10 is given exactly where the sizes differ
pub gate_known : (s : State) (z : Sizes) → in_range s ≡ true → (gate s z ≡ 0 → ⊥) → gate s z ≡ 10
unfolding gate
gate_known s z r h =
    by_cases (eqb s.sizes.inputs z.inputs && eqb s.sizes.outputs z.outputs && eqb s.sizes.items z.items)
    (λ c. absurd (h (rw (r, c))))
    (λ c. rw (r, c))

pub ten_exactly : (s : State) (t : Tables) → in_range s ≡ true → ((s.sizes ≡ sizes_of t → ⊥) → gate s (sizes_of t) ≡ 10) × (gate s (sizes_of t) ≡ 10 → s.sizes ≡ sizes_of t → ⊥)
ten_exactly s t r = ((λ h. gate_known s (sizes_of t) r (λ z. h (gate_starts s t z).sizes)), (λ g e. omega (arith, g, gate_zero s (sizes_of t) r e)))

-- every call keeps the sizes, so they stay the fresh start's
pub sizes_kept : (s : State) (t : Tables) (xs : List ℕ) → (pushed s t xs).state.sizes ≡ s.sizes
unfolding closed
sizes_kept s t xs =
    by_cases (eqb (gate s (sizes_of t)) 0)
    (λ g. ap (λ (x : Out). x.state.sizes) (pushed_open s t xs (eqb-true (gate s (sizes_of t)) 0 g)) ∙ fed_sizes (machine s t) xs)
    (λ g. ap (λ (x : Out). x.state.sizes) (misuse_untouched s t xs (eqb-false (gate s (sizes_of t)) 0 g)))

pub sizes_kept_end : (s : State) (t : Tables) → (ended s t).state.sizes ≡ s.sizes
unfolding closed finish
sizes_kept_end s t =
    by_cases (eqb (gate s (sizes_of t)) 0)
    (λ g. ap (λ (x : Out). x.state.sizes) (ended_open s t (eqb-true (gate s (sizes_of t)) 0 g)) ∙ by_cases (leb 25 s.field.stage) (λ l. rw l) (λ l. rw l))
    (λ g. ap (λ (x : Out). x.state.sizes) (misuse_untouched_end s t (eqb-false (gate s (sizes_of t)) 0 g)))

-- an ended reading takes no more and repeats its answer, in feeding and finishing
none_taken : (n : ℕ) → n - n ≡ 0
none_taken n = omega arith

pub ended_repeats : (s : State) (t : Tables) (xs : List ℕ) → gate s (sizes_of t) ≡ 0 → FINISHED ≤ s.field.stage → pushed s t xs ≡ closed s 0 t
ended_repeats s t xs g h =
    pushed_open s t xs g
    ∙ ap (λ (m : Machine). closed m.state (m.state.taken - s.taken) m.tables) (fed_ended (machine s t) xs h)
    ∙ ap (λ (n : ℕ). closed s n t) (none_taken s.taken)

pub ended_repeats_end : (s : State) (t : Tables) → gate s (sizes_of t) ≡ 0 → FINISHED ≤ s.field.stage → ended s t ≡ closed s 0 t
unfolding finish
ended_repeats_end s t g h = ended_open s t g ∙ ap (λ (x : State). closed x 0 t) (rw (le-leb 25 s.field.stage h))

-- a finished reading leaves the tables, whatever stands in them
pub finished_leaves : (s : State) (t : Tables) (xs : List ℕ) → gate s (sizes_of t) ≡ 0 → s.field.stage ≡ FINISHED → ((pushed s t xs).tables ≡ t) × ((ended s t).tables ≡ t)
unfolding closed
finished_leaves s t xs g e =
    let n : s.field.stage ≡ 26 → ⊥ = λ q. omega arith in
    let over : 25 ≤ s.field.stage = omega (arith, e) in
    let c : (closed s 0 t).tables ≡ t = rw (ne_eqb s.field.stage 26 n) in
    (ap (λ (o : Out). o.tables) (ended_repeats s t xs g over) ∙ c, ap (λ (o : Out). o.tables) (ended_repeats_end s t g over) ∙ c)

-- what a call hands back beside the tables
abbrev pub back : Out → State × ℕ × layout.Answer Head
back o = (o.state, o.taken, o.answer)

-- the tables are never read back: what stands in them moves no answer, count or state
step_apart : (s : State) (t t' : Tables) (b : ℕ) → (step (machine s t) b).state ≡ (step (machine s t') b).state
unfolding step entering
step_apart s t t' b =
    by_cases (leb 25 s.field.stage)
    (λ l. rw l)
    (λ l. by_cases (eqb (s.field.have + 1) s.field.width) (λ e. rw (l, e)) (λ e. rw (l, e)))

fed_apart : (xs : List ℕ) (s : State) (t t' : Tables) → (fed (machine s t) xs).state ≡ (fed (machine s t') xs).state
unfolding fed
fed_apart [] s t t' = refl
fed_apart (b ∷ xs) s t t' =
    let m = step (machine s t) b in
    let m' = step (machine s t') b in
    fed_apart xs m.state m.tables m'.tables
    ∙ ap (λ (x : State). (fed (machine x m'.tables) xs).state) (step_apart s t t' b)

pub tables_apart : (s : State) (t t' : Tables) (xs : List ℕ) → sizes_of t ≡ sizes_of t' → back (pushed s t xs) ≡ back (pushed s t' xs)
unfolding closed
tables_apart s t t' xs e =
    by_cases (eqb (gate s (sizes_of t)) 0)
    (λ g. let z = eqb-true (gate s (sizes_of t)) 0 g in
    ap back (pushed_open s t xs z)
    ∙ ap (λ (x : State). back (out x (x.taken - s.taken) (answer_of x) t)) (fed_apart xs s t t')
    ∙ sym (ap back (pushed_open s t' xs (sym (ap (λ (y : Sizes). gate s y) e) ∙ z))))
    (λ g. let h = eqb-false (gate s (sizes_of t)) 0 g in
    ap back (misuse_untouched s t xs h)
    ∙ ap (λ (y : Sizes). back (out s 0 (layout.refused (gate s y) 0) t)) e
    ∙ sym (ap back (misuse_untouched s t' xs (λ q. h (ap (λ (y : Sizes). gate s y) e ∙ q)))))

pub tables_apart_end : (s : State) (t t' : Tables) → sizes_of t ≡ sizes_of t' → back (ended s t) ≡ back (ended s t')
unfolding closed
tables_apart_end s t t' e =
    by_cases (eqb (gate s (sizes_of t)) 0)
    (λ g. let z = eqb-true (gate s (sizes_of t)) 0 g in
    ap back (ended_open s t z) ∙ sym (ap back (ended_open s t' (sym (ap (λ (y : Sizes). gate s y) e) ∙ z))))
    (λ g. let h = eqb-false (gate s (sizes_of t)) 0 g in
    ap back (misuse_untouched_end s t h)
    ∙ ap (λ (y : Sizes). back (out s 0 (layout.refused (gate s y) 0) t)) e
    ∙ sym (ap back (misuse_untouched_end s t' (λ q. h (ap (λ (y : Sizes). gate s y) e ∙ q)))))

-- ---- feeding: pieces

-- while more is wanted a piece is taken entire
step_one : (s : State) (t : Tables) (b : ℕ) → s.field.stage < 25 → (step (machine s t) b).state.taken ≡ s.taken + 1
unfolding step entering
step_one s t b h =
    by_cases (eqb (s.field.have + 1) s.field.width)
    (λ e. rw (lt-leb 25 s.field.stage h, e) (settle_taken (gather s b)))
    (λ e. rw (lt-leb 25 s.field.stage h, e))

fed_entire : (xs : List ℕ) (m : Machine) → (fed m xs).state.field.stage < 25 → (fed m xs).state.taken ≡ m.state.taken + length xs
unfolding fed
fed_entire [] m h = omega arith
fed_entire (b ∷ xs) m h =
    by_cases (leb 25 m.state.field.stage)
    (λ l. absurd (stays m (b ∷ xs) (leb-true 25 m.state.field.stage l) h))
    (λ l. omega (arith, fed_entire xs (step m b) h, step_one m.state m.tables b (leb-false 25 m.state.field.stage l)))
  where
    stays : (m' : Machine) (ys : List ℕ) → 25 ≤ m'.state.field.stage → (fed m' ys).state.field.stage < 25 → ⊥
    stays m' ys l k = omega (arith, subst (λ (x : Machine). x.state.field.stage < 25) (fed_ended m' ys l) k)

-- the bytes told of a call are those that the reading has gone on by, for every state
pub call_counts : (s : State) (t : Tables) (xs : List ℕ) → (pushed s t xs).state.taken ≡ s.taken + (pushed s t xs).taken
unfolding closed
call_counts s t xs =
    by_cases (eqb (gate s (sizes_of t)) 0)
    (λ g. let o = pushed_open s t xs (eqb-true (gate s (sizes_of t)) 0 g) in
    subst (λ (x : Out). x.state.taken ≡ s.taken + x.taken) (sym o) (omega (arith, (fed_taken (machine s t) xs).least)))
    (λ g. subst (λ (x : Out). x.state.taken ≡ s.taken + x.taken) (sym (misuse_untouched s t xs (eqb-false (gate s (sizes_of t)) 0 g))) (omega arith))

-- and no more than the piece has
pub call_within : (s : State) (t : Tables) (xs : List ℕ) → (pushed s t xs).taken ≤ length xs
unfolding closed
call_within s t xs =
    by_cases (eqb (gate s (sizes_of t)) 0)
    (λ g. let o = pushed_open s t xs (eqb-true (gate s (sizes_of t)) 0 g) in
    subst (λ (x : Out). x.taken ≤ length xs) (sym o) (omega (arith, (fed_taken (machine s t) xs).most)))
    (λ g. subst (λ (x : Out). x.taken ≤ length xs) (sym (misuse_untouched s t xs (eqb-false (gate s (sizes_of t)) 0 g))) (omega arith))

pub finished_not_more : (h : _) → ◌≡◌ {A = layout.Answer Head} (layout.finished h) layout.more → ⊥
finished_not_more h e = let z : ◌≡◌ {A = ℕ} 0 1 = cc in omega arith

more_runs : (s : State) → in_range s ≡ true → answer_of s ≡ layout.more → s.field.stage < 25
unfolding answer_of
more_runs s r e =
    by_stage s r
    (λ o. omega (arith, o.stage))
    (λ q _. absurd (finished_not_more _ (rw (eq-eqb s.field.stage 25 q) at e)))
    (λ q _. let n : s.field.stage ≡ 25 → ⊥ = λ p. omega arith in absurd (more_not_refused _ _ (sym (rw (ne_eqb s.field.stage 25 n, eq-eqb s.field.stage 26 q) at e))))

pub piece_entire : (s : State) (t : Tables) (xs : List ℕ) → Bytes xs → (pushed s t xs).answer ≡ layout.more → (pushed s t xs).taken ≡ length xs
unfolding closed
piece_entire s t xs q e =
    by_cases (eqb (gate s (sizes_of t)) 0)
    (λ g. let z = eqb-true (gate s (sizes_of t)) 0 g in
    let o = pushed_open s t xs z in
    let runs = more_runs (fed (machine s t) xs).state (fed_range (machine s t) xs q (gate_starts s t z).range) (sym (ap (λ (x : Out). x.answer) o) ∙ e) in
    ap (λ (x : Out). x.taken) o ∙ omega (arith, fed_entire xs (machine s t) runs))
    (λ g. absurd (more_not_refused _ _ (sym (sym (ap (λ (x : Out). x.answer) (misuse_untouched s t xs (eqb-false (gate s (sizes_of t)) 0 g))) ∙ e))))

-- while more is wanted an empty piece changes nothing
pub empty_nothing : (s : State) (t : Tables) → gate s (sizes_of t) ≡ 0 → s.field.stage < FINISHED → pushed s t [] ≡ out s 0 layout.more t
unfolding fed closed answer_of
empty_nothing s t g h =
    let a : s.field.stage ≡ 25 → ⊥ = λ p. omega arith in
    let b : s.field.stage ≡ 26 → ⊥ = λ p. omega arith in
    pushed_open s t [] g ∙ ap (λ (n : ℕ). closed s n t) (none_taken s.taken) ∙ rw (ne_eqb s.field.stage 25 a, ne_eqb s.field.stage 26 b)

-- ---- demand 3: from a fresh start, whatever the pieces

unfoldable pub join : List (List ℕ) → List ℕ
join [] = []
join (p ∷ ps) = p ++ join ps

-- the state and tables after feeding pieces, state and tables handed on unchanged
pub record Held : Type 0 where
  pub state : State
  pub tables : Tables

abbrev pub handed : Out → Held
handed o = record { state = o.state; tables = o.tables }

unfoldable pub feeding : Held → List (List ℕ) → Held
feeding h [] = h
feeding h (p ∷ ps) = feeding (handed (pushed h.state h.tables p)) ps

abbrev pub started : Tables → Held
started t = record { state = (begun t).state; tables = (begun t).tables }

-- what is held after the bytes xs: 01's reading of them, partial tables included
abbrev pub Holds : Tables → (xs : List ℕ) → Bytes xs → Held → Type 0
Holds t xs q h = (h.state ≡ (after t xs q).state) × (h.tables ≡ (partial (layout_sizes t) xs).tables)

-- a call that ends where the bytes xs lead shows 01's reading of them
shows : (t : Tables) (xs : List ℕ) (q : Bytes xs) (n : ℕ) → closed (after t xs q).state n (after t xs q).tables ≡ out (after t xs q).state n (partial (layout_sizes t) xs).answer (partial (layout_sizes t) xs).tables
shows t xs q n =
    closed_shows (after t xs q).state n (after t xs q).tables (cleared t) _ (reads t xs q).answer (after_cleared t xs q)
    ∙ ap (λ (x : Tables). out (after t xs q).state n (reading t xs q).answer (shown (reading t xs q).answer x (cleared t))) (reads t xs q).tables

sizes_same : (t t' : Tables) → Lengths t t' → sizes_of t ≡ sizes_of t'
sizes_same t t' l = λ i. record { inputs = sym l.inputs i; outputs = sym l.outputs i; items = sym l.items i }

then_lengths : (t t' t'' : Tables) → Lengths t t' → Lengths t' t'' → Lengths t t''
then_lengths t t' t'' a b = record { inputs = b.inputs ∙ a.inputs; outputs = b.outputs ∙ a.outputs; items = b.items ∙ a.items }

cond_lengths : (b : Bool) (t t' t'' : Tables) → Lengths t t' → Lengths t t'' → Lengths t (cond b t' t'')
cond_lengths true t t' t'' a c = a
cond_lengths false t t' t'' a c = c

-- ---- an ended reading repeats its answer, said of the answer

ran_out : (s : State) → (answer_of s ≡ layout.more → ⊥) → 25 ≤ s.field.stage
unfolding answer_of
ran_out s h =
    by_cases (leb 25 s.field.stage)
    (λ l. leb-true 25 s.field.stage l)
    (λ l. let less = leb-false 25 s.field.stage l in
    let a : s.field.stage ≡ 25 → ⊥ = λ p. omega arith in
    let b : s.field.stage ≡ 26 → ⊥ = λ p. omega arith in
    absurd (h (rw (ne_eqb s.field.stage 25 a, ne_eqb s.field.stage 26 b))))

close_lengths : (s : State) (n : ℕ) (t : Tables) → Lengths t (closed s n t).tables
unfolding closed
close_lengths s n t = cond_lengths (eqb s.field.stage 26) t (cleared t) t (zero_lengths t) (record { inputs = refl; outputs = refl; items = refl })

close_twice : (s : State) (n : ℕ) (t : Tables) → closed s 0 (closed s n t).tables ≡ out s 0 (closed s n t).answer (closed s n t).tables
unfolding closed
close_twice s n t = by_cases (eqb s.field.stage 26) (λ e. rw e (ap (λ (x : Tables). out s 0 (answer_of s) x) (cleared_lengths t (cleared t) (zero_lengths t)))) (λ e. rw e)

finish_over : (s : State) → 25 ≤ (finish s).field.stage
unfolding finish
finish_over s = by_cases (leb 25 s.field.stage) (λ l. rw l (leb-true 25 s.field.stage l)) (λ l. rw l (omega arith))

finish_sizes : (s : State) → (finish s).sizes ≡ s.sizes
unfolding finish
finish_sizes s = by_cases (leb 25 s.field.stage) (λ l. rw l) (λ l. rw l)

-- whatever is fed next, and finishing too, takes nothing and gives the same answer and tables
abbrev pub Repeats : Out → Type 0
Repeats o = ((ys : List ℕ) → pushed o.state o.tables ys ≡ out o.state 0 o.answer o.tables) × (ended o.state o.tables ≡ out o.state 0 o.answer o.tables)

closed_repeats : (s : State) (n : ℕ) (t : Tables) → in_range s ≡ true → s.sizes ≡ sizes_of t → 25 ≤ s.field.stage → Repeats (closed s n t)
unfolding closed
closed_repeats s n t r e over =
    let g = gate_zero s (sizes_of (closed s n t).tables) r (e ∙ sizes_same t (closed s n t).tables (close_lengths s n t)) in
    ((λ ys. ended_repeats s (closed s n t).tables ys g over ∙ close_twice s n t), ended_repeats_end s (closed s n t).tables g over ∙ close_twice s n t)

-- a call that is not misused and doesn't answer more
pub answer_repeats : (s : State) (t : Tables) (xs : List ℕ) → Bytes xs → gate s (sizes_of t) ≡ 0 → ((pushed s t xs).answer ≡ layout.more → ⊥) → Repeats (pushed s t xs)
unfolding closed
answer_repeats s t xs q g h =
    let o = pushed_open s t xs g in
    let m = fed (machine s t) xs in
    let b = gate_starts s t g in
    let over = ran_out m.state (λ e. h (ap (λ (x : Out). x.answer) o ∙ e)) in
    subst Repeats (sym o) (closed_repeats m.state (m.state.taken - s.taken) m.tables (fed_range (machine s t) xs q b.range) (fed_sizes (machine s t) xs ∙ b.sizes ∙ sizes_same t m.tables (fed_lengths (machine s t) xs)) over)

-- finishing always ends a reading
pub answer_repeats_end : (s : State) (t : Tables) → gate s (sizes_of t) ≡ 0 → Repeats (ended s t)
answer_repeats_end s t g =
    let b = gate_starts s t g in
    subst Repeats (sym (ended_open s t g)) (closed_repeats (finish s) 0 t (finish_closes s b.range) (finish_sizes s ∙ b.sizes) (finish_over s))

-- after every finish, a misused one too
pub repeats_every_end : (s : State) (t : Tables) → Repeats (ended s t)
repeats_every_end s t =
    by_cases (eqb (gate s (sizes_of t)) 0)
    (λ g. answer_repeats_end s t (eqb-true (gate s (sizes_of t)) 0 g))
    (λ g. let h = eqb-false (gate s (sizes_of t)) 0 g in
    subst Repeats (sym (misuse_untouched_end s t h)) ((λ ys. misuse_untouched s t ys h), misuse_untouched_end s t h))

pub end_never_more : (s : State) (t : Tables) → (ended s t).answer ≡ layout.more → ⊥
unfolding closed
end_never_more s t e =
    by_cases (eqb (gate s (sizes_of t)) 0)
    (λ g. let z = eqb-true (gate s (sizes_of t)) 0 g in
    let less = more_runs (finish s) (finish_closes s (gate_starts s t z).range) (sym (ap (λ (x : Out). x.answer) (ended_open s t z)) ∙ e) in
    absurd (omega (arith, less, finish_over s)))
    (λ g. absurd (more_not_refused _ _ (sym (sym (ap (λ (x : Out). x.answer) (misuse_untouched_end s t (eqb-false (gate s (sizes_of t)) 0 g))) ∙ e))))

shown_finish : (a : layout.Answer Head) (n : ℕ) (t z : Tables) → shown (outcome.finish a n) (shown a t z) z ≡ shown (outcome.finish a n) t z
shown_finish (layout.finished h) n t z = refl
shown_finish layout.more n t z = refl
shown_finish (layout.refused m p) n t z = refl

-- of a refused state's tables only the lengths count
closed_either : (s : State) (n : ℕ) (t t' : Tables) → eqb s.field.stage 26 ≡ true → cleared t ≡ cleared t' → closed s n t ≡ closed s n t'
unfolding closed
closed_either s n t t' e c = rw e (ap (λ (x : Tables). out s n (answer_of s) x) c)

module _ (t : Tables) (xs : List ℕ) (q : Bytes xs) where
  abbrev left : Tables
  left = (after t xs q).tables

  left_lengths : Lengths t left
  left_lengths = then_lengths t (cleared t) left (zero_lengths t) (fed_lengths (begun t) xs)

  partial_as : (partial (layout_sizes t) xs).tables ≡ cond (eqb (after t xs q).state.field.stage 26) (cleared left) left
  unfolding closed
  partial_as = sym (ap (λ (o : Out). o.tables) (shows t xs q 0))

  partial_lengths : Lengths t (partial (layout_sizes t) xs).tables
  partial_lengths = subst (λ (x : Tables). Lengths t x) (sym partial_as) (cond_lengths (eqb (after t xs q).state.field.stage 26) t (cleared left) left (then_lengths t left (cleared left) left_lengths (zero_lengths left)) left_lengths)

  pub taken_as : (after t xs q).state.taken ≡ (partial (layout_sizes t) xs).taken
  taken_as = (reads t xs q).taken ∙ zero-add (reading t xs q).taken

  pub held_passes : gate (after t xs q).state (sizes_of (partial (layout_sizes t) xs).tables) ≡ 0
  held_passes = gate_zero (after t xs q).state (sizes_of (partial (layout_sizes t) xs).tables) (after_range t xs q) (fed_sizes (begun t) xs ∙ sizes_same t (partial (layout_sizes t) xs).tables partial_lengths)

  -- one more piece
  module _ (p : List ℕ) (q' : Bytes (xs ++ p)) where
    goes_on_lem : fed (after t xs q) p ≡ after t (xs ++ p) q'
    goes_on_lem = sym (fed_append (begun t) xs p)

    closes_alike : (n : ℕ) → closed (fed (machine (after t xs q).state (partial (layout_sizes t) xs).tables) p).state n (fed (machine (after t xs q).state (partial (layout_sizes t) xs).tables) p).tables ≡ closed (after t (xs ++ p) q').state n (after t (xs ++ p) q').tables
    closes_alike n =
        by_cases (eqb (after t xs q).state.field.stage 26)
        (λ e. let over : 25 ≤ (after t xs q).state.field.stage = omega (arith, eqb-true (after t xs q).state.field.stage 26 e) in
        ap (λ (m : Machine). closed m.state n m.tables) (fed_ended (machine (after t xs q).state (partial (layout_sizes t) xs).tables) p over)
        ∙ closed_either (after t xs q).state n (partial (layout_sizes t) xs).tables left e (cleared_lengths t (partial (layout_sizes t) xs).tables partial_lengths ∙ sym (cleared_lengths t left left_lengths))
        ∙ sym (ap (λ (m : Machine). closed m.state n m.tables) (sym goes_on_lem ∙ fed_ended (after t xs q) p over)))
        (λ e. ap (λ (x : Tables). closed (fed (machine (after t xs q).state x) p).state n (fed (machine (after t xs q).state x) p).tables) (partial_as ∙ rw e)
        ∙ ap (λ (m : Machine). closed m.state n m.tables) goes_on_lem)

    state_alike : (fed (machine (after t xs q).state (partial (layout_sizes t) xs).tables) p).state ≡ (after t (xs ++ p) q').state
    unfolding closed
    state_alike = ap (λ (o : Out). o.state) (closes_alike 0)

    -- a call's answer, the bytes it took and its tables are those of 01's reading of all bytes so far
    pub call_reads : pushed (after t xs q).state (partial (layout_sizes t) xs).tables p ≡ out (after t (xs ++ p) q').state ((partial (layout_sizes t) (xs ++ p)).taken - (partial (layout_sizes t) xs).taken) (partial (layout_sizes t) (xs ++ p)).answer (partial (layout_sizes t) (xs ++ p)).tables
    call_reads =
        pushed_open (after t xs q).state (partial (layout_sizes t) xs).tables p held_passes
        ∙ closes_alike _
        ∙ shows t (xs ++ p) q' _
        ∙ ap₂ (λ (m n : ℕ). out (after t (xs ++ p) q').state (m - n) (partial (layout_sizes t) (xs ++ p)).answer (partial (layout_sizes t) (xs ++ p)).tables) (ap (λ (s : State). s.taken) state_alike ∙ after_taken) taken_as
      where
        after_taken : (after t (xs ++ p) q').state.taken ≡ (partial (layout_sizes t) (xs ++ p)).taken
        after_taken = (reads t (xs ++ p) q').taken ∙ zero-add (reading t (xs ++ p) q').taken

  -- finishing gives 01's outcome
  pub finish_reads : ended (after t xs q).state (partial (layout_sizes t) xs).tables ≡ out (finish (after t xs q).state) 0 (at_once (layout_sizes t) xs).answer (at_once (layout_sizes t) xs).tables
  finish_reads = ended_open (after t xs q).state (partial (layout_sizes t) xs).tables held_passes
      ∙ closed_shows (finish (after t xs q).state) 0 (partial (layout_sizes t) xs).tables (cleared t) (at_once (layout_sizes t) xs).answer
      (answer_finish (after t xs q).state (after_range t xs q) ∙ ap₂ (λ (a : layout.Answer Head) (n : ℕ). outcome.finish a n) (reads t xs q).answer taken_as)
      (cleared_lengths t (partial (layout_sizes t) xs).tables partial_lengths)
      ∙ ap (λ (x : Tables). out (finish (after t xs q).state) 0 (at_once (layout_sizes t) xs).answer x) (shown_finish (reading t xs q).answer (reading t xs q).taken (laid (reading t xs q).log (cleared t)) (cleared t))

-- all bytes of a longer list are bytes
pub bytes_front : (xs ys : List ℕ) → Bytes (xs ++ ys) → Bytes xs
bytes_front [] ys q i = omega arith
bytes_front (x ∷ xs) ys q zero = q zero
bytes_front (x ∷ xs) ys q (suc i) = bytes_front xs ys (λ j. q (suc j)) i

feeding_holds : (ps : List (List ℕ)) (t : Tables) (xs : List ℕ) (q : Bytes xs) (h : Held) → Holds t xs q h → (q' : Bytes (xs ++ join ps)) → Holds t (xs ++ join ps) q' (feeding h ps)
unfolding feeding join
feeding_holds [] t xs q h w q' = subst (λ (ys : List ℕ). (h.state ≡ (fed (begun t) ys).state) × (h.tables ≡ (partial (layout_sizes t) ys).tables)) (sym (append-nil xs)) w
feeding_holds (p ∷ ps) t xs q h w q' =
    let q'' : Bytes ((xs ++ p) ++ join ps) = subst Bytes (sym (append_assoc xs p (join ps))) q' in
    let qp : Bytes (xs ++ p) = bytes_front (xs ++ p) (join ps) q'' in
    let o : pushed h.state h.tables p ≡ _ = ap₂ (λ (s : State) (x : Tables). pushed s x p) w.0 w.1 ∙ call_reads t xs q p qp in
    subst (λ (ys : List ℕ). ((feeding h (p ∷ ps)).state ≡ (fed (begun t) ys).state) × ((feeding h (p ∷ ps)).tables ≡ (partial (layout_sizes t) ys).tables)) (append_assoc xs p (join ps))
    (feeding_holds ps t (xs ++ p) qp (handed (pushed h.state h.tables p)) (ap (λ (x : Out). x.state) o, ap (λ (x : Out). x.tables) o) q'')

begun_holds : (t : Tables) (q : Bytes []) → Holds t [] q (started t)
unfolding fed
begun_holds t q = (refl, sym (partial_as t [] q ∙ refl))

-- the state and tables after feeding any pieces from a fresh start
pub feeding_held : (t : Tables) (ps : List (List ℕ)) (q : Bytes (join ps)) → Holds t (join ps) q (feeding (started t) ps)
feeding_held t ps q = feeding_holds ps t [] (λ i. omega arith) (started t) (begun_holds t (λ i. omega arith)) q

-- after EVERY call: answer, bytes taken and tables, partial tables included, are those of 01's reading of the joined bytes so far
pub feeding_reads : (t : Tables) (ps : List (List ℕ)) (p : List ℕ) (q : Bytes (join ps ++ p)) → let h = feeding (started t) ps in let o = pushed h.state h.tables p in (o.answer ≡ (partial (layout_sizes t) (join ps ++ p)).answer) × (o.taken ≡ (partial (layout_sizes t) (join ps ++ p)).taken - (partial (layout_sizes t) (join ps)).taken) × (o.tables ≡ (partial (layout_sizes t) (join ps ++ p)).tables)
feeding_reads t ps p q =
    let w = feeding_held t ps (bytes_front (join ps) p q) in
    let o = ap₂ (λ (s : State) (x : Tables). pushed s x p) w.0 w.1 ∙ call_reads t (join ps) (bytes_front (join ps) p q) p q in
    (ap (λ (x : Out). x.answer) o, ap (λ (x : Out). x.taken) o, ap (λ (x : Out). x.tables) o)

-- the bytes taken that the calls told, in all
unfoldable pub counted : Held → List (List ℕ) → ℕ
counted h [] = 0
counted h (p ∷ ps) = (pushed h.state h.tables p).taken + counted (handed (pushed h.state h.tables p)) ps

pub counted_on : (ps : List (List ℕ)) (h : Held) → (feeding h ps).state.taken ≡ h.state.taken + counted h ps
unfolding feeding counted
counted_on [] h = omega arith
counted_on (p ∷ ps) h = omega (arith, counted_on ps (handed (pushed h.state h.tables p)), call_counts h.state h.tables p)

pub counts_add : (t : Tables) (ps : List (List ℕ)) (q : Bytes (join ps)) → counted (started t) ps ≡ (partial (layout_sizes t) (join ps)).taken
counts_add t ps q = omega (arith, counted_on ps (started t), ap (λ (s : State). s.taken) (feeding_held t ps q).0, taken_as t (join ps) q)

-- what a reading ends with: answer (with its place), the bytes taken that its calls told and those in its state, and the tables
pub record Ends (n : ℕ) (o : Out) (w : Outcome) : Type 0 where
  pub answer : o.answer ≡ w.answer
  pub counted : n ≡ w.taken
  pub taken : o.state.taken ≡ w.taken
  pub tables : o.tables ≡ w.tables

abbrev pub finished : Held → Out
finished h = ended h.state h.tables

pub finishing_reads : (t : Tables) (ps : List (List ℕ)) (q : Bytes (join ps)) → Ends (counted (started t) ps) (finished (feeding (started t) ps)) (at_once (layout_sizes t) (join ps))
finishing_reads t ps q =
    let w = feeding_held t ps q in
    let o = ap₂ ended w.0 w.1 ∙ finish_reads t (join ps) q in
    record {
      answer = ap (λ (x : Out). x.answer) o;
      counted = counts_add t ps q;
      taken = ap (λ (x : Out). x.state.taken) o ∙ finish_taken (after t (join ps) q).state ∙ taken_as t (join ps) q;
      tables = ap (λ (x : Out). x.tables) o;
    }

-- demand 3, word for word: two inputs of one length that agree at each bearing byte of the first, each fed from a fresh start into
-- tables of equal sizes, each cut anywhere in its own way, state and tables handed on unchanged, then finished, end with the same
-- answer, place, count of bytes taken and numbers in every table, namely those of 01's reading
pub demand_3 : (t t' : Tables) (ps ps' : List (List ℕ)) → layout_sizes t ≡ layout_sizes t' → Agree (layout_sizes t) (join ps) (join ps') → (q : Bytes (join ps)) (q' : Bytes (join ps')) → Ends (counted (started t) ps) (finished (feeding (started t) ps)) (at_once (layout_sizes t) (join ps)) × Ends (counted (started t') ps') (finished (feeding (started t') ps')) (at_once (layout_sizes t) (join ps))
demand_3 t t' ps ps' e a q q' = (
  finishing_reads t ps q,
  subst (λ (w : Outcome). Ends (counted (started t') ps') (finished (feeding (started t') ps')) w) (sym (of_layout.blind_at_once (layout_sizes t) (join ps) (join ps') a ∙ ap (λ (z : outcome.Sizes). at_once z (join ps')) e)) (finishing_reads t' ps' q'),
)

-- after its last byte a reading is finished at once
pub ends_at_once : (t : Tables) (ps : List (List ℕ)) (p : List ℕ) (q : Bytes (join ps ++ p)) (h : Head) → (reading_of (layout_sizes t) (join ps ++ p)).answer ≡ layout.finished h → let d = feeding (started t) ps in (pushed d.state d.tables p).answer ≡ layout.finished h
ends_at_once t ps p q h e = (feeding_reads t ps p q).0 ∙ e
