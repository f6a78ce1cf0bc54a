-- Our reader and writer meet the page.
use Prim.Native.Nat.{ℕ, zero, suc, ◌+◌, ◌-◌, ◌≤◌}
use mathlib.Core.Path.{◌≡◌, refl, sym, ◌∙◌, ap, subst}
use mathlib.Core.Bool.{Bool, true, false, cond, ◌&&◌, true≢false}
use mathlib.Core.List.{List, [], ◌∷◌}
use native.Mathlib.Omega.{arith}
use lib.Dec.{leb, eqb}
use lib.ListN.{length, set, length-set}
use borrow.Author.Tests.{eq-eqb, ne_eqb, lt-leb, eqb-true, eqb-false}
use Rattle.layout.specs.Layout as layout
use Rattle.layout.specs.Transaction.{Head, limit}
use Rattle.layout.specs.Outcome as outcome
use Rattle.layout.specs.Outcome.{Tables, Outcome, zeros, partial, at_once, strict}
use Rattle.layout.specs.Writing as paper
use Rattle.layout.proofs.Reading.{by_cases, refused_not_more, finished_not_more}
use Rattle.std.specs.Prelude.{Option, Some, None}
use Rattle.decoders.specs.declared.Table.{Table}
use Rattle.decoders.specs.declared.Table.TheVariants.{Input, Output, Item}
use Rattle.decoders.specs.declared.Entered.{Entered}
use Rattle.decoders.specs.declared.Sizes.{Sizes}
use Rattle.decoders.specs.Machine.{State, refuse, next_stored, stored, enter_by, enter, Machine, machine, entering, step, gather, settle, fed, head_of, answer_of, fresh}
use Rattle.decoders.specs.Range.{in_range}
use Rattle.decoders.specs.Feeding.{sizes_of, cleared, begun, Out, gate, closed, pushed, ended, finish}
use Rattle.decoders.proofs.Ranges as range
use Rattle.decoders.proofs.Ranges.{by_stage}
use Rattle.decoders.proofs.Entries.{gate_starts, finish_closes}
use Rattle.decoders.proofs.Feeds.{Lengths, fed_range, fed_sizes, fed_lengths}
use Rattle.decoders.proofs.Answers.{eleven_answered, eleven_answered_end, ten_answered, ten_answered_end, NeverEleven, never_eleven_fresh, never_eleven_next, never_eleven_next_end}
use Rattle.decoders.proofs.Theorems.{pushed_open, ended_open, open_answer_end, more_not_refused, range_fresh, range_kept, range_kept_end, gate_zero, sizes_kept, sizes_kept_end, ended_repeats, ended_repeats_end, tables_apart, tables_apart_end, call_within, piece_entire, empty_nothing, call_reads, finish_reads, end_never_more, misuse_untouched, misuse_untouched_end}
use Rattle.encoders.specs.Answers as answers
use Rattle.demands.specs.Demands.{Call, sizes, Piece, Ask, piece, done, sent, Way, at_once_lem, strictly, call, started, next, calls, read, Numbered, misuse, settled, Repeated, Room, Leaves, Left, Alike, untouched, Known, Sized, Demand1, Demand2, Demand3, AsPaper}
use Rattle.demands.specs.Demands as page
use Rattle.demands.specs.Ours.{called, reader, writer}
use Rattle.demands.proofs.Calls.{settled_sizes, left_same, left_equal, leaves_then, left_then, Follows, follows_reads}
use Rattle.demands.proofs.Paper.{bytes_both, paper_demand_2, paper_demand_3, paper_whole}

-- ---- what is told is judged

-- ---- every call on every state: let through, or misused

-- sizes as the code has them, and as the page has them
as_code : (t t' : Tables) → sizes t ≡ sizes t' → sizes_of t ≡ sizes_of t'
as_code t t' e = λ j. record { inputs = (e j).inputs; outputs = (e j).outputs; items = (e j).items }

abbrev shown : Sizes → outcome.Sizes
shown z = record { inputs = z.inputs; outputs = z.outputs; items = z.items }

lengths_sizes : (t t' : Tables) → Lengths t t' → sizes t' ≡ sizes t
lengths_sizes t t' l = λ j. record { inputs = l.inputs j; outputs = l.outputs j; items = l.items j }

-- what a state within its range answers
by_answer :
    {C : Type 0} (x : State) → in_range x ≡ true
    → (x.field.stage ≤ 24 → answer_of x ≡ layout.more → C)
    → (x.field.stage ≡ 25 → answer_of x ≡ layout.finished (head_of x) → range.Finished x → C)
    → (x.field.stage ≡ 26 → answer_of x ≡ layout.refused x.field.value x.field.have → range.Refused x → C)
    → C
unfolding answer_of
by_answer x r f g h =
    by_stage x r
    (λ o. let a : x.field.stage ≡ 25 → ⊥ = λ z. omega (arith, o.stage) in
    let b : x.field.stage ≡ 26 → ⊥ = λ z. omega (arith, o.stage) in
    f o.stage (rw (ne_eqb x.field.stage 25 a, ne_eqb x.field.stage 26 b)))
    (λ z k. g z (rw (eq-eqb x.field.stage 25 z)) k)
    (λ z k. let a : x.field.stage ≡ 25 → ⊥ = λ y. omega arith in h z (rw (ne_eqb x.field.stage 25 a, eq-eqb x.field.stage 26 z)) k)

small_number : (n : ℕ) → n ≤ 8 → misuse n ≡ false
small_number n l = rw (ne_eqb n 10 (λ e. omega arith), ne_eqb n 11 (λ e. omega arith))

-- a call that is let through, as the page sees it
abbrev passed : State → ℕ → Tables → Call State
passed x n v = record { state = x; outcome = record { answer = answer_of x; taken = n; tables = settled (answer_of x) v } }

closed_tables : (x : State) (v : Tables) → in_range x ≡ true → cond (eqb x.field.stage 26) (cleared v) v ≡ settled (answer_of x) v
closed_tables x v r =
    by_answer x r
    (λ z e. let a : x.field.stage ≡ 26 → ⊥ = λ y. omega arith in rw (ne_eqb x.field.stage 26 a, e))
    (λ z e k. let a : x.field.stage ≡ 26 → ⊥ = λ y. omega arith in rw (ne_eqb x.field.stage 26 a, e))
    (λ z e k. rw (eq-eqb x.field.stage 26 z, e, small_number x.field.value k.greatest))

closed_passed : (x : State) (n : ℕ) (v : Tables) → in_range x ≡ true → called (closed x n v) ≡ passed x n v
unfolding closed
closed_passed x n v r = λ j. record { state = x; outcome = record { answer = answer_of x; taken = n; tables = closed_tables x v r j } }

-- it leaves a state within its range, of the tables' sizes
record Through (t : Tables) (x : State) (v : Tables) : Type 0 where
  range : in_range x ≡ true
  its_sizes : x.sizes ≡ sizes_of t
  same : sizes v ≡ sizes t

finish_sizes : (s : State) → (finish s).sizes ≡ s.sizes
unfolding finish
finish_sizes s = by_cases (leb 25 s.field.stage) (λ l. rw l) (λ l. rw l)

by_call :
    (P : Call State → Type 0) (s : State) (t : Tables) (q : Ask)
    → ((x : State) (n : ℕ) (v : Tables) → Through t x v → P (passed x n v))
    → ((gate s (sizes_of t) ≡ 0 → ⊥) → P (untouched s t (gate s (sizes_of t))))
    → P (call reader s t q)
by_call P s t (piece b) f g =
    by_cases (eqb (gate s (sizes_of t)) 0)
    (λ z. let k = eqb-true (gate s (sizes_of t)) 0 z in
    let w = gate_starts s t k in
    let m = fed (machine s t) b.bytes in
    let n = m.state.taken - s.taken in
    let r = fed_range (machine s t) b.bytes b.below w.range in
    subst P (sym (ap called (pushed_open s t b.bytes k) ∙ closed_passed m.state n m.tables r))
    (f m.state n m.tables (record { range = r; its_sizes = fed_sizes (machine s t) b.bytes ∙ w.sizes; same = lengths_sizes t m.tables (fed_lengths (machine s t) b.bytes) })))
    (λ z. let k = eqb-false (gate s (sizes_of t)) 0 z in subst P (sym (ap called (misuse_untouched s t b.bytes k))) (g k))
by_call P s t done f g =
    by_cases (eqb (gate s (sizes_of t)) 0)
    (λ z. let k = eqb-true (gate s (sizes_of t)) 0 z in
    let w = gate_starts s t k in
    let r = finish_closes s w.range in
    subst P (sym (ap called (ended_open s t k) ∙ closed_passed (finish s) 0 t r))
    (f (finish s) 0 t (record { range = r; its_sizes = finish_sizes s ∙ w.sizes; same = refl })))
    (λ z. let k = eqb-false (gate s (sizes_of t)) 0 z in subst P (sym (ap called (misuse_untouched_end s t k))) (g k))

-- the gate's number, where it is not 0
record Misuse (g : ℕ) : Type 0 where
  least : 10 ≤ g
  most : g ≤ 11
  misused : misuse g ≡ true

gate_bools : (b c : Bool) → (◌≡◌ {A = ℕ} (cond b (cond c 0 10) 11) 0 → ⊥) → Misuse (cond b (cond c 0 10) 11)
gate_bools true true h = absurd (h refl)
gate_bools true false h = record { least = omega arith; most = omega arith; misused = refl }
gate_bools false c h = record { least = omega arith; most = omega arith; misused = refl }

gate_misuse : (s : State) (z : Sizes) → (gate s z ≡ 0 → ⊥) → Misuse (gate s z)
unfolding gate
gate_misuse s z h = gate_bools (in_range s) (eqb s.sizes.inputs z.inputs && eqb s.sizes.outputs z.outputs && eqb s.sizes.items z.items) h

no_refusal : {A : Type 0} (n p : ℕ) → ◌≡◌ {A = layout.Answer Head} layout.more (layout.refused n p) → A
no_refusal n p e = absurd (let z : ◌≡◌ {A = ℕ} 0 1 = cc in omega arith)

not_finished : {A : Type 0} (h : Head) (n p : ℕ) → ◌≡◌ {A = layout.Answer Head} (layout.finished h) (layout.refused n p) → A
not_finished h n p e = absurd (let z : ◌≡◌ {A = ℕ} 0 1 = cc in omega arith)

same_refusal : (n m p q : ℕ) → ◌≡◌ {A = layout.Answer Head} (layout.refused n p) (layout.refused m q) → (n ≡ m) × (p ≡ q)
same_refusal n m p q e = (cc, cc)

-- a refusal by a call that is let through
passed_number : (x : State) (n p : ℕ) → in_range x ≡ true → answer_of x ≡ layout.refused n p → (1 ≤ n) × (n ≤ 8) × (p ≤ limit)
passed_number x n p r a =
    by_answer x r
    (λ z e. no_refusal n p (sym e ∙ a))
    (λ z e k. not_finished (head_of x) n p (sym e ∙ a))
    (λ z e k. let i = same_refusal x.field.value n x.field.have p (sym e ∙ a) in omega (arith, i, k.least, k.greatest, k.have, k.taken))

numbered_of : (a : layout.Answer Head) → ((n p : ℕ) → a ≡ layout.refused n p → (1 ≤ n) × (n ≤ 8) × (p ≤ limit)) → Numbered 11 limit a
numbered_of (layout.finished h) f = tt
numbered_of layout.more f = tt
numbered_of (layout.refused n p) f = let k = f n p refl in (k.0, omega (arith, k), k.2)

ours_numbered : (s : State) (t : Tables) (q : Ask) → Numbered 11 limit (call reader s t q).outcome.answer
ours_numbered s t q =
    by_call (λ c. Numbered 11 limit c.outcome.answer) s t q
    (λ x n v w. numbered_of (answer_of x) (λ m p e. passed_number x m p w.range e))
    (λ g. let k = gate_misuse s (sizes_of t) g in (omega (arith, k.least), k.most, omega arith))

ours_nine : (s : State) (t : Tables) (q : Ask) (p : ℕ) → (call reader s t q).outcome.answer ≡ layout.refused 9 p → ⊥
ours_nine s t q p =
    by_call (λ c. c.outcome.answer ≡ layout.refused 9 p → ⊥) s t q
    (λ x n v w e. let k = passed_number x 9 p w.range e in omega (arith, k))
    (λ g e. omega (arith, (gate_misuse s (sizes_of t) g).least, same_refusal (gate s (sizes_of t)) 9 0 p e))

ours_kept : (s : State) (t : Tables) (q : Ask) → sizes (call reader s t q).outcome.tables ≡ sizes t
ours_kept s t q = by_call (λ c. sizes c.outcome.tables ≡ sizes t) s t q (λ x n v w. settled_sizes (answer_of x) v ∙ w.same) (λ g. refl)

ours_refused : (s : State) (t : Tables) (q : Ask) (n p : ℕ) → (call reader s t q).outcome.answer ≡ layout.refused n p → misuse n ≡ false → (call reader s t q).outcome.tables ≡ zeros (sizes t)
ours_refused s t q n p =
    by_call (λ c. c.outcome.answer ≡ layout.refused n p → misuse n ≡ false → c.outcome.tables ≡ zeros (sizes t)) s t q
    (λ x k v w e m. ap (λ (a : layout.Answer Head). settled a v) e ∙ ap (λ b. cond b v (zeros (sizes v))) m ∙ ap zeros w.same)
    (λ g e m. absurd (true≢false (sym (gate_misuse s (sizes_of t) g).misused ∙ ap misuse (same_refusal (gate s (sizes_of t)) n 0 p e).0 ∙ m)))

ours_misused : (s : State) (t : Tables) (q : Ask) (n p : ℕ) → (call reader s t q).outcome.answer ≡ layout.refused n p → misuse n ≡ true → call reader s t q ≡ untouched s t n
ours_misused s t q n p =
    by_call (λ c. c.outcome.answer ≡ layout.refused n p → misuse n ≡ true → c ≡ untouched s t n) s t q
    (λ x k v w e m. absurd (true≢false (sym m ∙ small_number n (passed_number x n p w.range e).1)))
    (λ g e m. ap (untouched s t) (same_refusal (gate s (sizes_of t)) n 0 p e).0)

-- what any state finishes with
ours_room : (s : State) (t : Tables) (q : Ask) (h : Head) → (call reader s t q).outcome.answer ≡ layout.finished h → Room (sizes t) h × (h.flag ≤ 1) × (h.bytes ≤ limit)
ours_room s t q h =
    by_call (λ c. c.outcome.answer ≡ layout.finished h → Room (sizes t) h × (h.flag ≤ 1) × (h.bytes ≤ limit)) s t q
    (λ x n v w a. by_answer x w.range
    (λ z e. absurd (let y : ◌≡◌ {A = ℕ} 0 1 = cc in omega arith))
    (λ z e k. let i = w.its_sizes in
    let fits : Room (sizes t) (head_of x) × ((head_of x).flag ≤ 1) × ((head_of x).bytes ≤ limit) = (
      record {
        inputs = omega (arith, k.inputs, ap (λ (y : Sizes). y.inputs) i);
        outputs = omega (arith, k.outputs, ap (λ (y : Sizes). y.outputs) i);
        items = omega (arith, k.items, k.few_items, ap (λ (y : Sizes). y.items) i);
      },
      k.flag,
      k.taken,
    ) in
    subst (λ (g : Head). Room (sizes t) g × (g.flag ≤ 1) × (g.bytes ≤ limit)) (ap outcome.head_shown (sym e ∙ a)) fits)
    (λ z e k. not_finished h _ _ (sym a ∙ e)))
    (λ g a. not_finished h _ _ (sym a))

-- what has ended, misused calls too, is repeated, whatever stands in the tables
over_stage : (x : State) → in_range x ≡ true → (answer_of x ≡ layout.more → ⊥) → 25 ≤ x.field.stage
over_stage x r h = by_answer x r (λ z e. absurd (h e)) (λ z e k. omega arith) (λ z e k. omega arith)

passed_again : (x : State) (u : Tables) (q : Ask) → in_range x ≡ true → x.sizes ≡ sizes_of u → 25 ≤ x.field.stage → call reader x u q ≡ passed x 0 u
passed_again x u (piece b) r z over = ap called (ended_repeats x u b.bytes (gate_zero x (sizes_of u) r z) over) ∙ closed_passed x 0 u r
passed_again x u done r z over = ap called (ended_repeats_end x u (gate_zero x (sizes_of u) r z) over) ∙ closed_passed x 0 u r

misused_again : (s : State) (u : Tables) (q : Ask) (n : ℕ) → gate s (sizes_of u) ≡ n → Misuse n → call reader s u q ≡ untouched s u n
misused_again s u (piece b) n e k = ap called (misuse_untouched s u b.bytes (λ z. omega (arith, k.least))) ∙ ap (untouched s u) e
misused_again s u done n e k = ap called (misuse_untouched_end s u (λ z. omega (arith, k.least))) ∙ ap (untouched s u) e

ours_final : (s : State) (t : Tables) (q : Ask) → ((call reader s t q).outcome.answer ≡ layout.more → ⊥) → Repeated reader (call reader s t q)
ours_final s t q =
    by_call (λ c. (c.outcome.answer ≡ layout.more → ⊥) → Repeated reader c) s t q
    (λ x n v w h u q' e.
    let z = w.its_sizes ∙ as_code t u (sym (e ∙ settled_sizes (answer_of x) v ∙ w.same)) in
    ap (λ (c : Call State). c.outcome) (passed_again x u q' w.range z (over_stage x w.range h)))
    (λ g h u q' e.
    let k = gate_misuse s (sizes_of t) g in
    ap (λ (c : Call State). c.outcome) (misused_again s u q' (gate s (sizes_of t)) (ap (gate s) (as_code u t e)) k)
    ∙ ap (λ b. record { answer = layout.refused (gate s (sizes_of t)) 0; taken = 0; tables = cond b u (zeros (sizes u)) }) (sym k.misused))

-- ---- as document 01 reads

-- the machine's state behind the bytes xs
abbrev At : Tables → List ℕ → State → Type 0
At t xs s = s ≡ (fed (begun t) xs).state

follows : (t : Tables) → Follows reader t (At t)
unfolding fed
follows t =
    record {
      start = (refl, refl);
      goes_on_lem = λ xs q s w p.
          let z = sizes t in
          let ys = p.bytes in
          let o = ap (λ (x : State). pushed x (partial z xs).tables ys) w ∙ call_reads t xs q ys (bytes_both xs ys q p.below) in
          (ap (λ (x : Out). x.state) o, ap (λ (x : Out). (called x).outcome) o);
      closes = λ xs q s w.
          let z = sizes t in
          ap (λ (x : Out). (called x).outcome) (ap (λ (x : State). ended x (partial z xs).tables) w ∙ finish_reads t xs q);
      final = ours_final;
      zeroed = ours_refused;
    }

ours_reads : (t : Tables) (v : Way) → read reader t v ≡ page.paper (sizes t) v
ours_reads t (page.fed qs) = follows_reads reader t (At t) (follows t) qs
ours_reads t (at_once_lem p) = refl
ours_reads t (strictly p) = refl

pub as_paper : AsPaper reader writer
as_paper =
    record {
      reads = ours_reads;
      writes = λ h t source out. refl;
      lengths = λ h t source. refl;
    }

-- ---- demand 1: the rest

-- numbers that are stored: each place is overwritten in both, or left in both
set_leaves : (xs ys : List ℕ) (i a : ℕ) → length xs ≡ length ys → Leaves xs ys (set xs i a) (set ys i a)
set_leaves [] [] i a e j h = (refl, refl)
set_leaves [] (y ∷ ys) i a e j h = absurd (omega (arith, e))
set_leaves (x ∷ xs) [] i a e j h = absurd (omega (arith, e))
set_leaves (x ∷ xs) (y ∷ ys) zero a e zero h = absurd (h refl)
set_leaves (x ∷ xs) (y ∷ ys) zero a e (suc j) h = (refl, refl)
set_leaves (x ∷ xs) (y ∷ ys) (suc i) a e zero h = (refl, refl)
set_leaves (x ∷ xs) (y ∷ ys) (suc i) a e (suc j) h = set_leaves xs ys i a (omega (arith, e)) j h

stored_leaves : (e : Entered) (xs ys : List ℕ) → length xs ≡ length ys → Leaves xs ys (stored e xs) (stored e ys)
stored_leaves e xs ys q =
    let us = set xs e.at e.number in
    let vs = set ys e.at e.number in
    let first = set_leaves xs ys e.at e.number q in
    elim e.next as (λ o. Leaves xs ys (next_stored o (e.at + 1) us) (next_stored o (e.at + 1) vs)) [
      | None ↦ first
      | Some n ↦
          leaves_then xs ys us vs (set us (e.at + 1) n) (set vs (e.at + 1) n) first
          (set_leaves us vs (e.at + 1) n (length-set xs e.at e.number ∙ q ∙ sym (length-set ys e.at e.number)))
    ]

table_left : (table : Table) (e : Entered) (t t' : Tables) → sizes t ≡ sizes t' → Left t t' (enter_by table e t) (enter_by table e t')
table_left Input e t t' q = record { inputs = stored_leaves e t.inputs t'.inputs (λ j. (q j).inputs); outputs = λ j h. (refl, refl); items = λ j h. (refl, refl) }
table_left Output e t t' q = record { inputs = λ j h. (refl, refl); outputs = stored_leaves e t.outputs t'.outputs (λ j. (q j).outputs); items = λ j h. (refl, refl) }
table_left Item e t t' q = record { inputs = λ j h. (refl, refl); outputs = λ j h. (refl, refl); items = stored_leaves e t.items t'.items (λ j. (q j).items) }

entered_left : (e : Option Entered) (t t' : Tables) → sizes t ≡ sizes t' → Left t t' (enter e t) (enter e t')
entered_left None t t' q = left_same t t'
entered_left (Some e) t t' q = table_left e.table e t t' q

-- a byte, of one state and two tables
record Stepped (t t' : Tables) (m m' : Machine) : Type 0 where
  state : m.state ≡ m'.state
  left : Left t t' m.tables m'.tables
  same : sizes m.tables ≡ sizes m'.tables

step_left : (s : State) (t t' : Tables) (b : ℕ) → sizes t ≡ sizes t' → Stepped t t' (step (machine s t) b) (step (machine s t') b)
unfolding fed step entering
step_left s t t' b e =
    let same = lengths_sizes t (step (machine s t) b).tables (fed_lengths (machine s t) (b ∷ [])) ∙ e ∙ sym (lengths_sizes t' (step (machine s t') b).tables (fed_lengths (machine s t') (b ∷ []))) in
    by_cases (leb 25 s.field.stage)
    (λ l. record { state = rw l; left = rw l (left_same t t'); same = same })
    (λ l. by_cases (eqb (s.field.have + 1) s.field.width)
    (λ k. record { state = rw (l, k); left = rw (l, k) (entered_left (settle (gather s b)).entered t t' e); same = same })
    (λ k. record { state = rw (l, k); left = rw (l, k) (left_same t t'); same = same }))

fed_left : (xs : List ℕ) (s : State) (t t' : Tables) → sizes t ≡ sizes t' → Stepped t t' (fed (machine s t) xs) (fed (machine s t') xs)
unfolding fed
fed_left [] s t t' e = record { state = refl; left = left_same t t'; same = e }
fed_left (b ∷ xs) s t t' e =
    let m = step (machine s t) b in
    let m' = step (machine s t') b in
    let k = step_left s t t' b e in
    let w = subst (λ (x : State). Stepped m.tables m'.tables (fed m xs) (fed (machine x m'.tables) xs)) k.state (fed_left xs m.state m.tables m'.tables k.same) in
    record { state = w.state; left = left_then t t' m.tables m'.tables (fed m xs).tables (fed m' xs).tables k.left w.left; same = w.same }

closed_left : (x : State) (n n' : ℕ) (v v' : Tables) → sizes v ≡ sizes v' → Left v v' (closed x n v).tables (closed x n' v').tables
unfolding closed
closed_left x n n' v v' e = by_cases (eqb x.field.stage 26) (λ k. rw k (left_equal v v' _ _ (ap zeros e))) (λ k. rw k (left_same v v'))

asked_left : (s : State) (t t' : Tables) (q : Ask) → sizes t ≡ sizes t' → Left t t' (call reader s t q).outcome.tables (call reader s t' q).outcome.tables
unfolding pushed ended
asked_left s t t' (piece b) e =
    let g = ap (gate s) (as_code t t' e) in
    let m = fed (machine s t) b.bytes in
    let m' = fed (machine s t') b.bytes in
    let k = fed_left b.bytes s t t' e in
    let c : Left m.tables m'.tables (closed m.state (m.state.taken - s.taken) m.tables).tables (closed m'.state (m'.state.taken - s.taken) m'.tables).tables =
    subst (λ (x : State). Left m.tables m'.tables (closed m.state (m.state.taken - s.taken) m.tables).tables (closed x (x.taken - s.taken) m'.tables).tables) k.state (closed_left m.state _ _ m.tables m'.tables k.same) in
    by_cases (eqb (gate s (sizes_of t)) 0)
    (λ z. rw (sym g, z) (left_then t t' m.tables m'.tables _ _ k.left c))
    (λ z. rw (sym g, z) (left_same t t'))
asked_left s t t' done e =
    let g = ap (gate s) (as_code t t' e) in
    by_cases (eqb (gate s (sizes_of t)) 0)
    (λ z. rw (sym g, z) (closed_left (finish s) 0 0 t t' e))
    (λ z. rw (sym g, z) (left_same t t'))

ours_apart : (s : State) (t t' : Tables) (q : Ask) → sizes t ≡ sizes t' → Alike t t' (call reader s t q) (call reader s t' q)
ours_apart s t t' (piece b) e = let f = tables_apart s t t' b.bytes (as_code t t' e) in record { state = λ j. (f j).0; answer = λ j. (f j).2; taken = λ j. (f j).1; tables = asked_left s t t' (piece b) e }
ours_apart s t t' done e = let f = tables_apart_end s t t' (as_code t t' e) in record { state = λ j. (f j).0; answer = λ j. (f j).2; taken = λ j. (f j).1; tables = asked_left s t t' done e }

end_takes : (s : State) (t : Tables) → (ended s t).taken ≤ 0
unfolding ended closed
end_takes s t = by_cases (eqb (gate s (sizes_of t)) 0) (λ e. rw e (omega arith)) (λ e. rw e (omega arith))

ours_within : (s : State) (t : Tables) (q : Ask) → (call reader s t q).outcome.taken ≤ length (sent q)
ours_within s t (piece b) = call_within s t b.bytes
ours_within s t done = end_takes s t

ours_entire : (s : State) (t : Tables) (p : Piece) → (reader.push s t p.bytes).outcome.answer ≡ layout.more → (reader.push s t p.bytes).outcome.taken ≡ length p.bytes
ours_entire s t p e = piece_entire s t p.bytes p.below e

-- a state that wants more is let through, and in a field
record Wants (s : State) (t : Tables) : Type 0 where
  through : gate s (sizes_of t) ≡ 0
  below : s.field.stage ≤ 24

wants_of : (s : State) (t : Tables) → (reader.push s t []).outcome.answer ≡ layout.more → Wants s t
unfolding fed closed
wants_of s t e =
    by_cases (eqb (gate s (sizes_of t)) 0)
    (λ z. let k = eqb-true (gate s (sizes_of t)) 0 z in
    let a : answer_of s ≡ layout.more = sym (ap (λ (x : Out). x.answer) (pushed_open s t [] k)) ∙ e in
    by_answer s (gate_starts s t k).range
    (λ below _. record { through = k; below = below })
    (λ _ e k. absurd (let y : ◌≡◌ {A = ℕ} 0 1 = cc in omega arith))
    (λ _ e k. no_refusal _ _ (sym a ∙ e)))
    (λ z. absurd (more_not_refused _ _ (sym e ∙ ap (λ (x : Out). x.answer) (misuse_untouched s t [] (eqb-false (gate s (sizes_of t)) 0 z)))))

ours_empty : (s : State) (t : Tables) → (reader.push s t []).outcome.answer ≡ layout.more → reader.push s t [] ≡ record { state = s; outcome = record { answer = layout.more; taken = 0; tables = t } }
ours_empty s t e = let w = wants_of s t e in ap called (empty_nothing s t w.through (omega (arith, w.below)))

ours_wanting : (s : State) (t : Tables) (q : Ask) → (call reader s t q).outcome.answer ≡ layout.more → (u : Tables) → sizes u ≡ sizes t → (reader.push (call reader s t q).state u []).outcome.answer ≡ layout.more
ours_wanting s t q =
    by_call (λ c. c.outcome.answer ≡ layout.more → (u : Tables) → sizes u ≡ sizes t → (reader.push c.state u []).outcome.answer ≡ layout.more) s t q
    (λ x n v w a u k.
    by_answer x w.range
    (λ below _. ap (λ (o : Out). o.answer) (empty_nothing x u (gate_zero x (sizes_of u) w.range (w.its_sizes ∙ as_code t u (sym k))) (omega (arith, below))))
    (λ _ e _. absurd (finished_not_more (sym e ∙ a)))
    (λ _ e _. absurd (refused_not_more (sym e ∙ a))))
    (λ g a. absurd (refused_not_more a))

ours_one : (s : State) (t : Tables) → (reader.push s t []).outcome.answer ≡ layout.more → (p : ℕ) × ((reader.end s t).outcome.answer ≡ layout.refused 1 p)
unfolding finish answer_of
ours_one s t e =
    let w = wants_of s t e in
    let refuses : finish s ≡ refuse 1 s.taken s = rw (lt-leb 25 s.field.stage (omega (arith, w.below))) in
    (s.taken, open_answer_end s t w.through ∙ ap (λ (x : State). answer_of x) refuses)

-- states handed on from a fresh start are within their range, and keep its sizes
record Own (z : Sizes) (s : State) : Type 0 where
  range : in_range s ≡ true
  its_sizes : s.sizes ≡ z

own_call : (z : Sizes) (s : State) (t : Tables) (q : Ask) → Own z s → Own z (call reader s t q).state
own_call z s t (piece b) o = record { range = range_kept s t b.bytes b.below o.range; its_sizes = sizes_kept s t b.bytes ∙ o.its_sizes }
own_call z s t done o = record { range = range_kept_end s t o.range; its_sizes = sizes_kept_end s t ∙ o.its_sizes }

own : (qs : List Ask) (z : Sizes) (c : Call State) → Own z c.state → Own z (calls reader c qs).state
unfolding calls
own [] z c o = o
own (q ∷ qs) z c o = own qs z (next reader c q) (own_call z c.state c.outcome.tables q o)

as_sizes : (s : State) (u : Tables) → shown s.sizes ≡ sizes u → s.sizes ≡ sizes_of u
as_sizes s u e = λ j. record { inputs = (e j).inputs; outputs = (e j).outputs; items = (e j).items }

ours_ten : (s : State) → in_range s ≡ true → Sized reader (shown s.sizes) s
ours_ten s r u (piece b) =
    let k = ten_answered s u b.bytes b.below in (
      λ e same. (k.0 e).1 (as_sizes s u same),
      λ other. k.1 (r, λ same. other (ap shown same)),
    )
ours_ten s r u done =
    let k = ten_answered_end s u in (
      λ e same. (k.0 e).1 (as_sizes s u same),
      λ other. k.1 (r, λ same. other (ap shown same)),
    )

-- 11 by the state alone
eleven_out : (s : State) (t : Tables) (q : Ask) → (call reader s t q).outcome.answer ≡ layout.refused 11 0 → in_range s ≡ false
eleven_out s t (piece b) e = (eleven_answered s t b.bytes b.below).0 e
eleven_out s t done e = (eleven_answered_end s t).0 e

out_eleven : (s : State) (t : Tables) (q : Ask) → in_range s ≡ false → (call reader s t q).outcome.answer ≡ layout.refused 11 0
out_eleven s t (piece b) e = (eleven_answered s t b.bytes b.below).1 e
out_eleven s t done e = (eleven_answered_end s t).1 e

ours_any : (s : State) → Known reader s → (z : outcome.Sizes) × Sized reader z s
ours_any s k =
    by_cases (in_range s)
    (λ r. (shown s.sizes, ours_ten s r))
    (λ r. absurd (let none : Tables = record { inputs = []; outputs = []; items = [] } in k none done 0 (out_eleven s none done r)))

ours_known : (s : State) → NeverEleven s → Known reader s
ours_known s k t (piece b) p e = (k t p).0 b.bytes b.below e
ours_known s k t done p e = (k t p).1 e

ours_next : (s : State) (t : Tables) (q : Ask) → ((call reader s t q).outcome.answer ≡ layout.refused 11 0 → ⊥) → Known reader (call reader s t q).state
ours_next s t (piece b) h = ours_known (pushed s t b.bytes).state (never_eleven_next s t b.bytes b.below h)
ours_next s t done h = ours_known (ended s t).state (never_eleven_next_end s t h)

-- ---- ours meets the page

pub demand_1 : Demand1 reader writer
demand_1 =
    let w = paper_whole reader writer as_paper in
    record {
      numbered = ours_numbered;
      nine = ours_nine;
      placed = w.placed;
      ended = λ s t e. end_never_more s t e;
      ended_once = w.ended_once;
      entire = ours_entire;
      empty = ours_empty;
      wanting = ours_wanting;
      one = ours_one;
      final = ours_final;
      apart = ours_apart;
      afresh = w.afresh;
      afresh_start = λ t t' e. ap (λ (z : Sizes). record { state = fresh z; tables = zeros (shown z) }) (as_code t t' e);
      kept = ours_kept;
      within = ours_within;
      finished_room = ours_room;
      fresh_zero = λ t. refl;
      refused_call = ours_refused;
      refused_reading = w.refused_reading;
      finished_behind = w.finished_behind;
      misused = ours_misused;
      ten = λ t qs.
          let s = (calls reader (started reader t) qs).state in
          let o = own qs (sizes_of t) (started reader t) (record { range = range_fresh t; its_sizes = refl }) in
          subst (λ (z : Sizes). Sized reader (shown z) s) o.its_sizes (ours_ten s o.range);
      ten_any = ours_any;
      eleven_alone = λ s t t' q q' e. out_eleven s t' q' (eleven_out s t q e);
      eleven_fresh = λ t. ours_known (begun t).state (never_eleven_fresh t);
      eleven_next = ours_next;
      unwritten_output = w.unwritten_output;
    }

pub demand_2 : Demand2 reader writer
demand_2 = paper_demand_2 reader writer as_paper

pub demand_3 : Demand3 reader
demand_3 = paper_demand_3 reader writer as_paper
