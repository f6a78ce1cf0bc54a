-- A second reader, with no machine: it keeps all bytes so far and reads them anew at each call, by document 01's definitions. It meets the whole
-- page, so the page asks for no machine, no stage and no range test: its 10 is for other sizes, and it has no 11. Tables that it is lent
-- with an empty piece, or after its end, it doesn't fill again: "an empty one changes nothing", and a finished one "leaves them".
use Prim.Native.Nat.{ℕ, zero, suc, ◌-◌, ◌%◌, ◌<◌, ◌≤◌}
use mathlib.Core.Path.{◌≡◌, refl, sym, ◌∙◌, ap, ap₂, subst}
use mathlib.Core.Bool.{Bool, true, false, cond, ◌&&◌, true≢false}
use mathlib.Core.List.{List, [], ◌∷◌, ◌++◌, append-nil, map, map-append}
use native.Mathlib.Omega.{arith}
use lib.Dec.{eqb}
use lib.ListN.{length, length-map, length-append}
use lib.Seq.{length-sets}
use borrow.Author.Tests.{eq-eqb, ne_eqb, eqb-true}
use Rattle.layout.specs.Number.{Bytes}
use Rattle.layout.specs.Layout.{Answer, finished, more, refused, reading, Entry, Table, input, output, item}
use Rattle.layout.specs.Transaction.{Head, limit}
use Rattle.layout.specs.Outcome.{Tables, Sizes, Outcome, zeros, change, lay, laid, shown, outcome, reading_of, partial, finish as finish_answer, at_once, strict}
use Rattle.layout.specs.Writing.{writing, written_length}
use Rattle.layout.proofs.Reading.{by_cases, refused_not_more, finished_not_more}
use Rattle.layout.proofs.Judging.{and_true}
use Rattle.layout.proofs.Theorems.{stable, takes_all, one_byte_more, taken_limit, refused_zero_at_once}
use Rattle.demands.specs.Demands.{Call, Reader, Writer, sizes, Piece, Ask, piece, done, sent, Way, fed, at_once_lem, strictly, joined, ends, paper, call, started, next, calls, read, Numbered, misuse, settled, Repeated, Room, Left, Alike, untouched, Known, Sized, Demand1, Demand2, Demand3, AsPaper}
use Rattle.demands.proofs.Paper.{bytes_both, finished_fits, fair_partial, fair_once, partial_zero, once_ends, paper_demand_2, paper_demand_3, paper_whole}
use Rattle.demands.proofs.Calls.{grows, zeros_sizes, settled_sizes, settled_own, left_same, left_equal, settled_left, Follows, follows_reads}

-- ---- the reader

pub record Heard : Type 0 where
  pub bytes : List ℕ
  pub sizes : Sizes
  pub over : Bool

-- a byte is below 256, whatever a caller writes into the state
abbrev cut_down : List ℕ → List ℕ
cut_down xs = map (λ b. b % 256) xs

abbrev told : Bool → Sizes → List ℕ → Outcome
told true z xs = at_once z xs
told false z xs = partial z xs

abbrev heard : Heard → Outcome
heard s = told s.over s.sizes (cut_down s.bytes)

-- an ended reading takes no more
abbrev longer : Heard → List ℕ → Heard
longer s xs = cond s.over s (record { bytes = s.bytes ++ xs; sizes = s.sizes; over = false })

abbrev finish : Heard → Heard
finish s = record { bytes = s.bytes; sizes = s.sizes; over = true }

-- no number is entered: the piece is empty, or the reading had ended
abbrev still : List ℕ → Bool
still [] = true
still (x ∷ xs) = false

abbrev stays : Answer Head → Bool → Bool
stays (finished h) e = true
stays more e = e
stays (refused n p) e = true

-- from one state to the next
abbrev moved : Heard → Tables → Bool → Heard → Call Heard
moved s t e next =
    record {
      state = next;
      outcome = record { answer = (heard next).answer; taken = (heard next).taken - (heard s).taken; tables = cond (stays (heard s).answer e) (settled (heard s).answer t) (heard next).tables };
    }

abbrev same : Sizes → Sizes → Bool
same y z = eqb y.inputs z.inputs && eqb y.outputs z.outputs && eqb y.items z.items

abbrev tried : Heard → Tables → Bool → Heard → Call Heard
tried s t e next = cond (same s.sizes (sizes t)) (moved s t e next) (untouched s t 10)

abbrev pub anew : Reader Heard
anew =
    record {
      fresh = λ t. record { state = record { bytes = []; sizes = sizes t; over = false }; tables = zeros (sizes t) };
      push = λ s t xs. tried s t (still xs) (longer s xs);
      end = λ s t. tried s t false (finish s);
      once = λ t xs. at_once (sizes t) xs;
      strict = λ t xs. strict (sizes t) xs;
    }

abbrev grown : Heard → Ask → Heard
grown s (piece p) = longer s p.bytes
grown s done = finish s

abbrev quiet : Ask → Bool
quiet (piece p) = still p.bytes
quiet done = false

abbrev work : Heard → Tables → Ask → Call Heard
work s t q = moved s t (quiet q) (grown s q)

abbrev pub plain : Writer
plain = record { write = writing; long = written_length }

-- ---- what it hears

cut_bytes : (xs : List ℕ) → Bytes (cut_down xs)
cut_bytes [] i = omega arith
cut_bytes (x ∷ xs) zero = omega arith
cut_bytes (x ∷ xs) (suc i) = cut_bytes xs i

cut_same : (xs : List ℕ) → Bytes xs → cut_down xs ≡ xs
cut_same [] q = refl
cut_same (x ∷ xs) q = ap₂ ◌∷◌ (let l : x < 256 = q zero in omega arith) (cut_same xs (λ i. q (suc i)))

-- every table keeps its size
change_sizes : (u : Table) (f : List ℕ → List ℕ) → ((xs : List ℕ) → length (f xs) ≡ length xs) → (t : Tables) → sizes (change u f t) ≡ sizes t
change_sizes input f l t = λ j. record { inputs = l t.inputs j; outputs = length t.outputs; items = length t.items }
change_sizes output f l t = λ j. record { inputs = length t.inputs; outputs = l t.outputs j; items = length t.items }
change_sizes item f l t = λ j. record { inputs = length t.inputs; outputs = length t.outputs; items = l t.items j }

laid_sizes : (es : List Entry) (t : Tables) → sizes (laid es t) ≡ sizes t
unfolding laid
laid_sizes [] t = refl
laid_sizes (e ∷ es) t = laid_sizes es (lay e t) ∙ change_sizes e.table _ (λ xs. length-sets xs _ e.numbers) t

shown_sizes : (z : Sizes) (a : Answer Head) (es : List Entry) → sizes (shown a (laid es (zeros z)) (zeros z)) ≡ z
shown_sizes z (finished h) es = laid_sizes es (zeros z) ∙ zeros_sizes z
shown_sizes z more es = laid_sizes es (zeros z) ∙ zeros_sizes z
shown_sizes z (refused n p) es = zeros_sizes z

told_sizes : (b : Bool) (z : Sizes) (xs : List ℕ) → sizes (told b z xs).tables ≡ z
told_sizes true z xs = shown_sizes z (at_once z xs).answer (reading_of z xs).log
told_sizes false z xs = shown_sizes z (partial z xs).answer (reading_of z xs).log

told_numbered : (b : Bool) (z : Sizes) (xs : List ℕ) → Bytes xs → Numbered 8 (told b z xs).taken (told b z xs).answer
told_numbered true z xs q = fair_once z xs q
told_numbered false z xs q = fair_partial z xs q

told_limit : (b : Bool) (z : Sizes) (xs : List ℕ) → Bytes xs → (told b z xs).taken ≤ limit
told_limit true z xs q = taken_limit z xs q
told_limit false z xs q = taken_limit z xs q

told_fits : (b : Bool) (z : Sizes) (xs : List ℕ) → Bytes xs → (h : Head) → (told b z xs).answer ≡ finished h → Room z h × (h.flag ≤ 1) × (h.bytes ≤ limit)
unfolding joined ends
told_fits true z xs q h e = finished_fits z (at_once_lem (record { bytes = xs; below = q })) h e
told_fits false z xs q h e = finished_fits z (fed (piece (record { bytes = xs; below = q }) ∷ [])) h (ap (λ (l : List ℕ). (partial z l).answer) (append-nil xs) ∙ e)

told_zero : (b : Bool) (z : Sizes) (xs : List ℕ) (n p : ℕ) → (told b z xs).answer ≡ refused n p → (told b z xs).tables ≡ zeros z
told_zero true z xs n p e = (refused_zero_at_once z xs n p e).0
told_zero false z xs n p e = partial_zero z xs n p e

told_taken : (b : Bool) (z : Sizes) (xs : List ℕ) → (told b z xs).taken ≡ (partial z xs).taken
told_taken true z xs = refl
told_taken false z xs = refl

-- ---- a call that is let through

grown_sizes : (s : Heard) (q : Ask) → (grown s q).sizes ≡ s.sizes
grown_sizes s (piece p) = by_cases s.over (λ e. rw e) (λ e. rw e)
grown_sizes s done = refl

cut_grows : (z : Sizes) (xs ys : List ℕ) → (partial z (cut_down (xs ++ ys))).taken - (partial z (cut_down xs)).taken ≤ length ys
cut_grows z xs ys =
    let e = ap (λ (l : List ℕ). (partial z l).taken) (map-append (λ b. b % 256) xs ys) in
    omega (arith, e, (grows z (cut_down xs) (cut_down ys)).1, length-map ys (λ b. b % 256))

work_within : (s : Heard) (t : Tables) (q : Ask) → (work s t q).outcome.taken ≤ length (sent q)
work_within s t (piece p) =
    by_cases s.over
    (λ e. rw e (omega arith))
    (λ e. rw e (cut_grows s.sizes s.bytes p.bytes))
work_within s t done = omega (arith, told_taken s.over s.sizes (cut_down s.bytes))

heard_numbered : (s : Heard) → Numbered 8 (heard s).taken (heard s).answer
heard_numbered s = told_numbered s.over s.sizes (cut_down s.bytes) (cut_bytes s.bytes)

heard_limit : (s : Heard) → (heard s).taken ≤ limit
heard_limit s = told_limit s.over s.sizes (cut_down s.bytes) (cut_bytes s.bytes)

-- ---- every call

same_of : (y z : Sizes) → same y z ≡ true → y ≡ z
same_of y z e =
    let a = and_true (eqb y.inputs z.inputs && eqb y.outputs z.outputs) (eqb y.items z.items) e in
    let b = and_true (eqb y.inputs z.inputs) (eqb y.outputs z.outputs) a.0 in
    let i = eqb-true y.inputs z.inputs b.0 in
    let o = eqb-true y.outputs z.outputs b.1 in
    let n = eqb-true y.items z.items a.1 in
    λ j. record { inputs = i j; outputs = o j; items = n j }

of_same : (y z : Sizes) → y ≡ z → same y z ≡ true
of_same y z e = rw (eq-eqb y.inputs z.inputs (ap (λ (x : Sizes). x.inputs) e), eq-eqb y.outputs z.outputs (ap (λ (x : Sizes). x.outputs) e), eq-eqb y.items z.items (ap (λ (x : Sizes). x.items) e))

call_is : (s : Heard) (t : Tables) (q : Ask) → call anew s t q ≡ tried s t (quiet q) (grown s q)
call_is s t (piece p) = refl
call_is s t done = refl

-- let through, or told 10
by_call : (P : Call Heard → Type 0) (s : Heard) (t : Tables) (q : Ask) → (s.sizes ≡ sizes t → P (work s t q)) → ((s.sizes ≡ sizes t → ⊥) → P (untouched s t 10)) → P (call anew s t q)
by_call P s t q f g =
    subst P (sym (call_is s t q))
    (by_cases (same s.sizes (sizes t))
    (λ e. subst (λ (b : Bool). P (cond b (work s t q) (untouched s t 10))) (sym e) (f (same_of s.sizes (sizes t) e)))
    (λ e. subst (λ (b : Bool). P (cond b (work s t q) (untouched s t 10))) (sym e) (g (λ z. true≢false (sym (of_same s.sizes (sizes t) z) ∙ e)))))

passes : (s : Heard) (t : Tables) (q : Ask) → s.sizes ≡ sizes t → call anew s t q ≡ work s t q
passes s t q e = call_is s t q ∙ ap (λ (b : Bool). cond b (work s t q) (untouched s t 10)) (of_same s.sizes (sizes t) e)

more_numbers : (a : Answer Head) (n : ℕ) → n ≤ limit → Numbered 8 n a → Numbered 11 limit a
more_numbers (finished h) n l k = tt
more_numbers more n l k = tt
more_numbers (refused m p) n l k = (k.0, omega (arith, k), omega (arith, k, l))

eight : (a : Answer Head) (k n p : ℕ) → Numbered 8 k a → a ≡ refused n p → n ≤ 8
eight a k n p f e = (subst (λ (x : Answer Head). Numbered 8 k x) e f).1

same_number : (n m p q : ℕ) → ◌≡◌ {A = Answer Head} (refused n p) (refused m q) → n ≡ m
same_number n m p q e = cc

worked_number : (s : Heard) (q : Ask) (n p : ℕ) → (heard (grown s q)).answer ≡ refused n p → n ≤ 8
worked_number s q n p e = eight _ _ n p (heard_numbered (grown s q)) e

small_number : (n : ℕ) → n ≤ 8 → misuse n ≡ true → ⊥
small_number n l m = true≢false (sym m ∙ rw (ne_eqb n 10 (λ e. omega arith), ne_eqb n 11 (λ e. omega arith)))

anew_alike : (s : Heard) (t t' : Tables) (q : Ask) → sizes t ≡ sizes t' → Alike t t' (call anew s t q) (call anew s t' q)
anew_alike s t t' q e =
    by_call (λ c. Alike t t' c (call anew s t' q)) s t q
    (λ z. subst (λ (c : Call Heard). Alike t t' (work s t q) c) (sym (passes s t' q (z ∙ e))) (record { state = refl; answer = refl; taken = refl; tables = left }))
    (λ z. by_call (λ c. Alike t t' (untouched s t 10) c) s t' q (λ z'. absurd (z (z' ∙ sym e))) (λ z'. record { state = refl; answer = refl; taken = refl; tables = left_same t t' }))
  where
    left : Left t t' (work s t q).outcome.tables (work s t' q).outcome.tables
    left =
        by_cases (stays (heard s).answer (quiet q))
        (λ k. rw k (settled_left (heard s).answer t t' e))
        (λ k. rw k (left_equal t t' _ _ refl))

anew_sizes : (s : Heard) (t : Tables) (q : Ask) → (call anew s t q).state.sizes ≡ s.sizes
anew_sizes s t q = by_call (λ c. c.state.sizes ≡ s.sizes) s t q (λ z. grown_sizes s q) (λ z. refl)

own_sizes : (qs : List Ask) (c : Call Heard) → (calls anew c qs).state.sizes ≡ c.state.sizes
unfolding calls
own_sizes [] c = refl
own_sizes (q ∷ qs) c = own_sizes qs (next anew c q) ∙ anew_sizes c.state c.outcome.tables q

anew_ten : (s : Heard) → Sized anew s.sizes s
anew_ten s u q = (
  λ e z. let l = worked_number s q 10 0 (sym (ap (λ (c : Call Heard). c.outcome.answer) (passes s u q z)) ∙ e) in omega arith,
  by_call (λ c. (s.sizes ≡ sizes u → ⊥) → c.outcome.answer ≡ refused 10 0) s u q (λ z h. absurd (h z)) (λ z h. refl),
)

anew_known : (s : Heard) → Known anew s
anew_known s t q p =
    by_call (λ c. c.outcome.answer ≡ refused 11 p → ⊥) s t q
    (λ z e. let l = worked_number s q 11 p e in omega arith)
    (λ z e. let l = same_number 10 11 0 p e in omega arith)

anew_ended : (s : Heard) (t : Tables) → (anew.end s t).outcome.answer ≡ more → ⊥
anew_ended s t =
    by_call (λ c. c.outcome.answer ≡ more → ⊥) s t done
    (λ z e. once_ends s.sizes (cut_down s.bytes) e)
    (λ z e. let w : ◌≡◌ {A = ℕ} 0 1 = cc in omega arith)

-- ---- what has ended is repeated

once_partial : (z : Sizes) (xs : List ℕ) → ((partial z xs).answer ≡ more → ⊥) → at_once z xs ≡ partial z xs
once_partial z xs h = ap (λ (a : Answer Head). outcome z (reading a (reading_of z xs).taken (reading_of z xs).log)) (stops (reading_of z xs).answer (reading_of z xs).taken h)
  where
    stops : (a : Answer Head) (n : ℕ) → (a ≡ more → ⊥) → finish_answer a n ≡ a
    stops (finished g) n h = refl
    stops more n h = absurd (h refl)
    stops (refused m p) n h = refl

longer_partial : (z : Sizes) (xs ys : List ℕ) → ((partial z xs).answer ≡ more → ⊥) → partial z (xs ++ ys) ≡ partial z xs
longer_partial z xs ys h = ap (outcome z) (stable z xs ys h)

-- an ended reading, grown by whatever it is asked
heard_final : (s : Heard) (q : Ask) → ((heard s).answer ≡ more → ⊥) → heard (grown s q) ≡ heard s
heard_final s (piece p) =
    by_cases s.over
    (λ e. rw e (λ h. refl))
    (λ e. rw e (λ h. ap (partial s.sizes) (map-append (λ b. b % 256) s.bytes p.bytes) ∙ longer_partial s.sizes (cut_down s.bytes) (cut_down p.bytes) h))
heard_final s done = by_cases s.over (λ e. rw e (λ h. refl)) (λ e. rw e (λ h. once_partial s.sizes (cut_down s.bytes) h))

longer_nothing : (s : Heard) → longer s [] ≡ s
longer_nothing s = by_cases s.over (λ e. rw e) (λ e. rw e (λ j. record { bytes = append-nil s.bytes j; sizes = s.sizes; over = false }))

-- where no number is entered, nothing else changes either
held : (s : Heard) (q : Ask) → stays (heard s).answer (quiet q) ≡ true → heard (grown s q) ≡ heard s
held s q = by_answer (heard s).answer refl
  where
    silent : (q : Ask) → quiet q ≡ true → heard (grown s q) ≡ heard s
    silent (piece p) e = nothing p.bytes e
      where
        nothing : (xs : List ℕ) → still xs ≡ true → heard (longer s xs) ≡ heard s
        nothing [] e = ap heard (longer_nothing s)
        nothing (x ∷ xs) e = absurd (true≢false (sym e))
    silent done e = absurd (true≢false (sym e))

    by_answer : (a : Answer Head) → (heard s).answer ≡ a → stays (heard s).answer (quiet q) ≡ true → heard (grown s q) ≡ heard s
    by_answer (finished h) e k = heard_final s q (λ z. finished_not_more (sym e ∙ z))
    by_answer more e k = silent q (sym (ap (λ (a : Answer Head). stays a (quiet q)) e) ∙ k)
    by_answer (refused n p) e k = heard_final s q (λ z. refused_not_more (sym e ∙ z))

none_more : (n : ℕ) → n - n ≡ 0
none_more n = omega arith

-- what such a call shows
abbrev rests : Heard → Tables → Outcome
rests s t = record { answer = (heard s).answer; taken = 0; tables = settled (heard s).answer t }

by_work :
    (P : Outcome → Type 0) (s : Heard) (t : Tables) (q : Ask)
    → (stays (heard s).answer (quiet q) ≡ true → P (rests s t))
    → (stays (heard s).answer (quiet q) ≡ false → P (record { answer = (heard (grown s q)).answer; taken = (heard (grown s q)).taken - (heard s).taken; tables = (heard (grown s q)).tables }))
    → P (work s t q).outcome
by_work P s t q f g =
    let n = (heard (grown s q)).taken - (heard s).taken in
    by_cases (stays (heard s).answer (quiet q))
    (λ e. let h = held s q e in
    subst P (λ j. record { answer = (sym h j).answer; taken = sym (ap (λ (o : Outcome). o.taken - (heard s).taken) h ∙ none_more (heard s).taken) j; tables = cond (sym e j) (settled (heard s).answer t) (heard (grown s q)).tables }) (f e))
    (λ e. subst (λ b. P (record { answer = (heard (grown s q)).answer; taken = n; tables = cond b (settled (heard s).answer t) (heard (grown s q)).tables })) (sym e) (g e))

ended_stays : (a : Answer Head) (e : Bool) → (a ≡ more → ⊥) → stays a e ≡ true
ended_stays (finished h) e k = refl
ended_stays more e k = absurd (k refl)
ended_stays (refused n p) e k = refl

anew_kept : (s : Heard) (t : Tables) (q : Ask) → sizes (call anew s t q).outcome.tables ≡ sizes t
anew_kept s t q =
    by_call (λ c. sizes c.outcome.tables ≡ sizes t) s t q
    (λ z. by_work (λ o. sizes o.tables ≡ sizes t) s t q
    (λ e. settled_sizes (heard s).answer t)
    (λ e. told_sizes (grown s q).over (grown s q).sizes (cut_down (grown s q).bytes) ∙ grown_sizes s q ∙ z))
    (λ z. refl)

anew_refused : (s : Heard) (t : Tables) (q : Ask) (n p : ℕ) → (call anew s t q).outcome.answer ≡ refused n p → misuse n ≡ false → (call anew s t q).outcome.tables ≡ zeros (sizes t)
anew_refused s t q n p =
    by_call (λ c. c.outcome.answer ≡ refused n p → misuse n ≡ false → c.outcome.tables ≡ zeros (sizes t)) s t q
    (λ z. by_work (λ o. o.answer ≡ refused n p → misuse n ≡ false → o.tables ≡ zeros (sizes t)) s t q
    (λ _ e m. ap (λ (a : Answer Head). settled a t) e ∙ ap (λ b. cond b t (zeros (sizes t))) m)
    (λ _ e m. told_zero (grown s q).over (grown s q).sizes (cut_down (grown s q).bytes) n p e ∙ ap zeros (grown_sizes s q ∙ z)))
    (λ z e m. absurd (true≢false (ap misuse (same_number 10 n 0 p e) ∙ m)))

-- a state that has ended, asked again
rested : (s : Heard) (u : Tables) (q : Ask) → ((heard s).answer ≡ more → ⊥) → s.sizes ≡ sizes u → (call anew s u q).outcome ≡ rests s u
rested s u q h z =
    ap (λ (c : Call Heard). c.outcome) (passes s u q z)
    ∙ by_work (λ o. o ≡ rests s u) s u q (λ _. refl) (λ e. absurd (true≢false (sym (ended_stays (heard s).answer (quiet q) h) ∙ e)))

anew_final : (s : Heard) (t : Tables) (q : Ask) → ((call anew s t q).outcome.answer ≡ more → ⊥) → Repeated anew (call anew s t q)
anew_final s t q h u q' e = again (e ∙ anew_kept s t q) h
  where
    again : sizes u ≡ sizes t → ((call anew s t q).outcome.answer ≡ more → ⊥) → (call anew (call anew s t q).state u q').outcome ≡ record { answer = (call anew s t q).outcome.answer; taken = 0; tables = settled (call anew s t q).outcome.answer u }
    again k =
        by_call (λ c. (c.outcome.answer ≡ more → ⊥) → (call anew c.state u q').outcome ≡ record { answer = c.outcome.answer; taken = 0; tables = settled c.outcome.answer u }) s t q
        (λ z h. rested (grown s q) u q' h (grown_sizes s q ∙ z ∙ sym k))
        (λ z h. by_call (λ c. c.outcome ≡ record { answer = refused 10 0; taken = 0; tables = u }) s u q' (λ same. absurd (z (same ∙ k))) (λ _. refl))

-- while more is wanted, a piece is taken entire
grown_entire : (s : Heard) (xs : List ℕ) → (heard (longer s xs)).answer ≡ more → (heard (longer s xs)).taken - (heard s).taken ≡ length xs
grown_entire s xs =
    by_cases s.over
    (λ o. rw o (λ e. absurd (once_ends s.sizes (cut_down s.bytes) e)))
    (λ o. rw o (λ e.
    let z = s.sizes in
    let a = cut_down s.bytes in
    let b = cut_down xs in
    let e' : (partial z (a ++ b)).answer ≡ more = sym (ap (λ (l : List ℕ). (partial z l).answer) (map-append (λ b. b % 256) s.bytes xs)) ∙ e in
    let all : (partial z (a ++ b)).taken ≡ length (a ++ b) = takes_all z (a ++ b) e' in
    let before : (partial z a).taken ≡ length a = takes_all z a (wanted (partial z a).answer refl e') in
    omega (arith, ap (λ (l : List ℕ). (partial z l).taken) (map-append (λ b. b % 256) s.bytes xs), all, before, length-append a b, length-map xs (λ b. b % 256))))
  where
    wanted : (x : Answer Head) → (partial s.sizes (cut_down s.bytes)).answer ≡ x → (partial s.sizes (cut_down s.bytes ++ cut_down xs)).answer ≡ more → (partial s.sizes (cut_down s.bytes)).answer ≡ more
    wanted (finished h) k e = sym (ap (λ (o : Outcome). o.answer) (longer_partial s.sizes (cut_down s.bytes) (cut_down xs) (λ z. finished_not_more (sym k ∙ z)))) ∙ e
    wanted more k e = k
    wanted (refused n p) k e = sym (ap (λ (o : Outcome). o.answer) (longer_partial s.sizes (cut_down s.bytes) (cut_down xs) (λ z. refused_not_more (sym k ∙ z)))) ∙ e

anew_entire : (s : Heard) (t : Tables) (p : Piece) → (anew.push s t p.bytes).outcome.answer ≡ more → (anew.push s t p.bytes).outcome.taken ≡ length p.bytes
anew_entire s t p =
    by_call (λ c. c.outcome.answer ≡ more → c.outcome.taken ≡ length p.bytes) s t (piece p)
    (λ z e. grown_entire s p.bytes e)
    (λ z e. absurd (refused_not_more e))

nothing_sent : Piece
nothing_sent = record { bytes = []; below = λ i. omega arith }

anew_empty : (s : Heard) (t : Tables) → (anew.push s t []).outcome.answer ≡ more → anew.push s t [] ≡ record { state = s; outcome = record { answer = more; taken = 0; tables = t } }
unfolding nothing_sent
anew_empty s t =
    by_call (λ c. c.outcome.answer ≡ more → c ≡ record { state = s; outcome = record { answer = more; taken = 0; tables = t } }) s t (piece nothing_sent)
    (λ z e.
    let o : (work s t (piece nothing_sent)).outcome ≡ rests s t = by_work (λ o. o ≡ rests s t) s t (piece nothing_sent) (λ _. refl) (λ k. absurd (true≢false (sym (empty_stays (heard s).answer) ∙ k))) in
    let a : (heard s).answer ≡ more = sym (ap (λ (x : Heard). (heard x).answer) (longer_nothing s)) ∙ e in
    let r : (work s t (piece nothing_sent)).outcome ≡ record { answer = more; taken = 0; tables = t } = o ∙ ap (λ (x : Answer Head). record { answer = x; taken = 0; tables = settled x t }) a in
    λ j. record { state = longer_nothing s j; outcome = r j })
    (λ z e. absurd (refused_not_more e))
  where
    empty_stays : (a : Answer Head) → stays a true ≡ true
    empty_stays (finished h) = refl
    empty_stays more = refl
    empty_stays (refused n p) = refl

anew_wanting : (s : Heard) (t : Tables) (q : Ask) → (call anew s t q).outcome.answer ≡ more → (u : Tables) → sizes u ≡ sizes t → (anew.push (call anew s t q).state u []).outcome.answer ≡ more
unfolding nothing_sent
anew_wanting s t q =
    by_call (λ c. c.outcome.answer ≡ more → (u : Tables) → sizes u ≡ sizes t → (anew.push c.state u []).outcome.answer ≡ more) s t q
    (λ z e u k.
    ap (λ (c : Call Heard). c.outcome.answer) (passes (grown s q) u (piece nothing_sent) (grown_sizes s q ∙ z ∙ sym k))
    ∙ ap (λ (x : Heard). (heard x).answer) (longer_nothing (grown s q))
    ∙ e)
    (λ z e. absurd (refused_not_more e))

anew_one : (s : Heard) (t : Tables) → (anew.push s t []).outcome.answer ≡ more → (p : ℕ) × ((anew.end s t).outcome.answer ≡ refused 1 p)
unfolding nothing_sent
anew_one s t =
    by_call (λ c. c.outcome.answer ≡ more → (p : ℕ) × ((anew.end s t).outcome.answer ≡ refused 1 p)) s t (piece nothing_sent)
    (λ z e.
    let a : (heard s).answer ≡ more = sym (ap (λ (x : Heard). (heard x).answer) (longer_nothing s)) ∙ e in
    (_, ap (λ (c : Call Heard). c.outcome.answer) (passes s t done z) ∙ told_one s.over s.sizes (cut_down s.bytes) a))
    (λ z e. absurd (refused_not_more e))
  where
    told_one : (b : Bool) (z : Sizes) (xs : List ℕ) → (told b z xs).answer ≡ more → (at_once z xs).answer ≡ refused 1 (length xs)
    told_one true z xs e = absurd (once_ends z xs e)
    told_one false z xs e = ap (λ (o : Outcome). o.answer) (one_byte_more z xs e)

-- over the tables that it left, it leaves what it reads anew
unaltered : (s : Heard) (q : Ask) → (work s (heard s).tables q).outcome.tables ≡ (heard (grown s q)).tables
unaltered s q =
    by_cases (stays (heard s).answer (quiet q))
    (λ e. ap (λ b. cond b (settled (heard s).answer (heard s).tables) (heard (grown s q)).tables) e
    ∙ settled_own (heard s).answer s.sizes (heard s).tables (λ n p a _. told_zero s.over s.sizes (cut_down s.bytes) n p a)
    ∙ sym (ap (λ (o : Outcome). o.tables) (held s q e)))
    (λ e. ap (λ b. cond b (settled (heard s).answer (heard s).tables) (heard (grown s q)).tables) e)

-- ---- as document 01 reads

abbrev At : Tables → List ℕ → Heard → Type 0
At t xs s = s ≡ record { bytes = xs; sizes = sizes t; over = false }

module _ (t : Tables) (xs : List ℕ) (b : Bytes xs) where
  abbrev stood : Heard
  stood = record { bytes = xs; sizes = sizes t; over = false }

  as_heard : heard stood ≡ partial (sizes t) xs
  as_heard = ap (partial (sizes t)) (cut_same xs b)

  let_through : (s : Heard) → At t xs s → (q : Ask) → call anew s (partial (sizes t) xs).tables q ≡ record { state = grown stood q; outcome = record { answer = (heard (grown stood q)).answer; taken = (heard (grown stood q)).taken - (partial (sizes t) xs).taken; tables = (heard (grown stood q)).tables } }
  let_through s w q =
      let u = (partial (sizes t) xs).tables in
      let k : (work stood u q).outcome.tables ≡ (heard (grown stood q)).tables = subst (λ (o : Outcome). (work stood o.tables q).outcome.tables ≡ (heard (grown stood q)).tables) as_heard (unaltered stood q) in
      ap (λ (x : Heard). call anew x u q) w
      ∙ passes stood u q (sym (told_sizes false (sizes t) xs))
      ∙ (λ j. record { state = grown stood q; outcome = record { answer = (heard (grown stood q)).answer; taken = (heard (grown stood q)).taken - (as_heard j).taken; tables = k j } })

follows : (t : Tables) → Follows anew t (At t)
follows t =
    record {
      start = (refl, refl);
      goes_on_lem = λ xs b s w p.
          let o = let_through t xs b s w (piece p) in
          let ys = cut_same (xs ++ p.bytes) (bytes_both xs p.bytes b p.below) in (
            ap (λ (c : Call Heard). c.state) o,
            ap (λ (c : Call Heard). c.outcome) o ∙ (λ j. let y = partial (sizes t) (ys j) in record { answer = y.answer; taken = y.taken - (partial (sizes t) xs).taken; tables = y.tables }),
          );
      closes = λ xs b s w.
          let o = let_through t xs b s w done in
          ap (λ (c : Call Heard). c.outcome) o
          ∙ (λ j. let y = at_once (sizes t) (cut_same xs b j) in record { answer = y.answer; taken = y.taken - (partial (sizes t) xs).taken; tables = y.tables })
          ∙ ap (λ (n : ℕ). record { answer = (at_once (sizes t) xs).answer; taken = n; tables = (at_once (sizes t) xs).tables }) (none_more (partial (sizes t) xs).taken);
      final = anew_final;
      zeroed = anew_refused;
    }

anew_reads : (t : Tables) (v : Way) → read anew t v ≡ paper (sizes t) v
anew_reads t (fed qs) = follows_reads anew t (At t) (follows t) qs
anew_reads t (at_once_lem p) = refl
anew_reads t (strictly p) = refl

-- ---- it meets the page

pub anew_as_paper : AsPaper anew plain
anew_as_paper = record { reads = anew_reads; writes = λ h t source out. refl; lengths = λ h t source. refl }

pub anew_demand_1 : Demand1 anew plain
anew_demand_1 =
    let w = paper_whole anew plain anew_as_paper in
    record {
      numbered = λ s t q. by_call (λ c. Numbered 11 limit c.outcome.answer) s t q (λ z. more_numbers (heard (grown s q)).answer _ (heard_limit (grown s q)) (heard_numbered (grown s q))) (λ z. (omega arith, omega arith, omega arith));
      nine = λ s t q p.
          by_call (λ c. c.outcome.answer ≡ refused 9 p → ⊥) s t q
          (λ z e. let l = worked_number s q 9 p e in omega arith)
          (λ z e. let l = same_number 10 9 0 p e in omega arith);
      placed = w.placed;
      ended = anew_ended;
      ended_once = w.ended_once;
      entire = anew_entire;
      empty = anew_empty;
      wanting = anew_wanting;
      one = anew_one;
      final = anew_final;
      apart = anew_alike;
      afresh = w.afresh;
      afresh_start = λ t t' e. ap (λ (z : Sizes). record { state = record { bytes = []; sizes = z; over = false }; tables = zeros z }) e;
      kept = anew_kept;
      within = λ s t q. by_call (λ c. c.outcome.taken ≤ length (sent q)) s t q (λ z. work_within s t q) (λ z. omega arith);
      finished_room = λ s t q h.
          by_call (λ c. c.outcome.answer ≡ finished h → Room (sizes t) h × (h.flag ≤ 1) × (h.bytes ≤ limit)) s t q
          (λ z e. subst (λ (y : Sizes). Room y h × (h.flag ≤ 1) × (h.bytes ≤ limit)) (grown_sizes s q ∙ z) (told_fits (grown s q).over (grown s q).sizes (cut_down (grown s q).bytes) (cut_bytes (grown s q).bytes) h e))
          (λ z e. absurd (let y : ◌≡◌ {A = ℕ} 0 1 = cc in omega arith));
      fresh_zero = λ t. refl;
      refused_call = anew_refused;
      refused_reading = w.refused_reading;
      finished_behind = w.finished_behind;
      misused = λ s t q n p.
          by_call (λ c. c.outcome.answer ≡ refused n p → misuse n ≡ true → c ≡ untouched s t n) s t q
          (λ z e m. absurd (small_number n (worked_number s q n p e) m))
          (λ z e m. ap (untouched s t) (same_number 10 n 0 p e));
      ten = λ t qs.
          let s = (calls anew (started anew t) qs).state in
          subst (λ (z : Sizes). Sized anew z s) (own_sizes qs (started anew t)) (anew_ten s);
      ten_any = λ s k. (s.sizes, anew_ten s);
      eleven_alone = λ s t t' q q' e. absurd (anew_known s t q 0 e);
      eleven_fresh = λ t. anew_known (anew.fresh t).state;
      eleven_next = λ s t q h. anew_known (call anew s t q).state;
      unwritten_output = w.unwritten_output;
    }

pub anew_demand_2 : Demand2 anew plain
anew_demand_2 = paper_demand_2 anew plain anew_as_paper

pub anew_demand_3 : Demand3 anew
anew_demand_3 = paper_demand_3 anew plain anew_as_paper
