-- What the caller is ANSWERED, said of the answer and not of a definition behind it: when 11 and 10 are given, when never; what a
-- finished answer means; which numbers and places a refusal can have. docs/THEOREMS.md says which sentence each carries.
--     eleven_answered, ten_answered          11 exactly if the state is out of range; 10 exactly if it is in range and the sizes differ
--     never-eleven-*                         a fresh state, and one that a call with another answer returned, is never answered 11
--     zero-behind-*                          a call that answers finished leaves 0 behind its records
--     *-exactly, *-accepted                  finished exactly for an allowed transaction with room, and then with its head and tables
--     *_numbered, one_repeated               the numbers and places that a refusal can have
use Prim.Native.Nat.{ℕ, ◌+◌, ◌*◌, ◌≤◌}
use mathlib.Core.Path.{◌≡◌, refl, sym, ◌∙◌, ap, ap₂, subst}
use mathlib.Core.Bool.{Bool, true, false, cond, true≢false}
use mathlib.Core.List.{List, [], ◌∷◌, ◌++◌}
use mathlib.Core.Logic.{◌↔◌}
use native.Mathlib.Omega.{arith}
use lib.Dec.{ltb, eqb}
use lib.ListN.{length, get_or}
use borrow.Author.Tests.{eq-eqb, ne_eqb, eqb-true, eqb-false}
use Rattle.layout.specs.Number.{Bytes}
use Rattle.layout.specs.Layout as layout
use Rattle.layout.specs.Layout.{Table}
use Rattle.layout.specs.Transaction.{Head, transaction}
use Rattle.layout.specs.Outcome as outcome
use Rattle.layout.specs.Outcome.{Tables, Outcome, room_of, reading_of, partial, at_once, strict, width}
use Rattle.layout.specs.Contents.{Contents, contents_bytes}
use Rattle.layout.specs.Records.{head_of, tables_of}
use Rattle.layout.proofs.Reading.{by_cases, taken_there, refused_not_finished, refused_not_more}
use Rattle.layout.proofs.Sound.{rows_of, counts}
use Rattle.layout.proofs.Theorems as of_layout
use Rattle.layout.proofs.Theorems.{table_of, refusal_placed, finish_finished}
use Rattle.layout.proofs.RoundTrips.{Begins, begins, accepted, Is, whole_accepted, whole_exactly}
use Rattle.decoders.specs.Machine.{State, Machine, machine, field, with_field, refuse, opened, next_input, next_output, witnesses_end, next_output_witness, next_input_witness, next_script_item, next_pegin_item, body_ends, body_opened, length_settled, inputs_counted, outputs_counted, script_counted, pegin_counted, compact_settled, first_settled, further_settled, value_part, asset_part, nonce_part, amount_next, null_keys_next, keys_next, asset_next, value_next, nonce_next, sequence_next, locktime_next, little_settled, big_settled, opaque_settled, settle_by, settle, gather, entering, step, fed, answer_of}
use Rattle.decoders.specs.Range.{in_range}
use Rattle.decoders.specs.Feeding.{sizes_of, cleared, layout_sizes, begun, Out, out, gate, closed, pushed, ended, finish, read_once, read_strict}
use Rattle.decoders.proofs.Feeds.{cond_same, cond_decoder, step_case, fed_range}
use Rattle.decoders.proofs.Entries.{gate_starts, finish_closes}
use Rattle.decoders.proofs.Theorems.{refused_stage, ended_repeats, pushed_open, ended_open, open_answer, open_answer_end, same_number, same_place, refused_between, misuse_untouched, misuse_untouched_end, eleven_first, gate_known, gate_zero, ten_exactly, range_fresh, range_kept, range_kept_end, join, feeding, started, finished, counted, counted_on, call_counts, Ends, bytes_front, taken_as, feeding_held, call_reads, finishing_reads}

-- ---- a call, feeding or finishing

-- what there is to know of a call's result, whichever call it was
record Call (s : State) (t : Tables) (o : Out) : Type 0 where
  misused : (gate s (sizes_of t) ≡ 0 → ⊥) → o ≡ out s 0 (layout.refused (gate s (sizes_of t)) 0) t
  passed : gate s (sizes_of t) ≡ 0 → (n p : ℕ) → o.answer ≡ layout.refused n p → (1 ≤ n) × (n ≤ 8) × (p ≤ o.state.taken)
  range : in_range s ≡ true → in_range o.state ≡ true

pushed_call : (s : State) (t : Tables) (xs : List ℕ) → Bytes xs → Call s t (pushed s t xs)
unfolding closed
pushed_call s t xs q =
    record {
      misused = misuse_untouched s t xs;
      passed = λ g n p e.
          subst (λ (x : Out). (1 ≤ n) × (n ≤ 8) × (p ≤ x.state.taken)) (sym (pushed_open s t xs g))
          (refused_between (fed (machine s t) xs).state n p (fed_range (machine s t) xs q (gate_starts s t g).range) (sym (open_answer s t xs g) ∙ e));
      range = range_kept s t xs q;
    }

ended_call : (s : State) (t : Tables) → Call s t (ended s t)
unfolding closed
ended_call s t =
    record {
      misused = misuse_untouched_end s t;
      passed = λ g n p e.
          subst (λ (x : Out). (1 ≤ n) × (n ≤ 8) × (p ≤ x.state.taken)) (sym (ended_open s t g))
          (refused_between (finish s) n p (finish_closes s (gate_starts s t g).range) (sym (open_answer_end s t g) ∙ e));
      range = range_kept_end s t;
    }

-- a refusal of feeding or finishing: 1 to 8, 10 or 11; no further than the bytes taken in all; 10 and 11 at 0
pub record Numbered (n p taken : ℕ) : Type 0 where
  pub least : 1 ≤ n
  pub most : n ≤ 11
  pub not_nine : n ≡ 9 → ⊥
  pub place : p ≤ taken
  pub misuse : 10 ≤ n → p ≡ 0

module _ (s : State) (t : Tables) (o : Out) (c : Call s t o) where
  misused_answer : (gate s (sizes_of t) ≡ 0 → ⊥) → o.answer ≡ layout.refused (gate s (sizes_of t)) 0
  misused_answer h = ap (λ (x : Out). x.answer) (c.misused h)

  -- let through, or refused by 10 or 11
  by_gate : {C : Type 0} → (gate s (sizes_of t) ≡ 0 → C) → (in_range s ≡ true → o.answer ≡ layout.refused 10 0 → C) → (in_range s ≡ false → o.answer ≡ layout.refused 11 0 → C) → C
  by_gate f g h =
      by_cases (eqb (gate s (sizes_of t)) 0)
      (λ z. f (eqb-true (gate s (sizes_of t)) 0 z))
      (λ z. let shut = eqb-false (gate s (sizes_of t)) 0 z in
      by_cases (in_range s)
      (λ r. g r (misused_answer shut ∙ ap (λ (n : ℕ). layout.refused n 0) (gate_known s (sizes_of t) r shut)))
      (λ r. h r (misused_answer shut ∙ ap (λ (n : ℕ). layout.refused n 0) (eleven_first s (sizes_of t) r))))

  out_of_range : in_range s ≡ false → o.answer ≡ layout.refused 11 0
  out_of_range r =
      by_gate
      (λ g. absurd (omega (arith, g, eleven_first s (sizes_of t) r)))
      (λ r' _. absurd (true≢false (sym r' ∙ r)))
      (λ _ e. e)

  eleven_out : (p : ℕ) → o.answer ≡ layout.refused 11 p → in_range s ≡ false
  eleven_out p e =
      by_gate
      (λ g. absurd (omega (arith, c.passed g 11 p e)))
      (λ _ e'. absurd (omega (arith, same_number 10 11 0 p (sym e' ∙ e))))
      (λ r _. r)

  eleven_is : (o.answer ≡ layout.refused 11 0) ↔ (in_range s ≡ false)
  eleven_is = (eleven_out 0, out_of_range)

  ten_out : o.answer ≡ layout.refused 10 0 → (in_range s ≡ true) × (s.sizes ≡ sizes_of t → ⊥)
  ten_out e =
      by_gate
      (λ g. absurd (omega (arith, c.passed g 10 0 e)))
      (λ r _. (r, λ same. omega (arith, c.passed (gate_zero s (sizes_of t) r same) 10 0 e)))
      (λ _ e'. absurd (omega (arith, same_number 11 10 0 0 (sym e' ∙ e))))

  ten_is : (o.answer ≡ layout.refused 10 0) ↔ ((in_range s ≡ true) × (s.sizes ≡ sizes_of t → ⊥))
  ten_is = (
    ten_out,
    λ d.
        let ten = (ten_exactly s t d.0).0 d.1 in
        misused_answer (λ z. omega (arith, z, ten)) ∙ ap (λ (n : ℕ). layout.refused n 0) ten,
  )

  numbered : (n p : ℕ) → o.answer ≡ layout.refused n p → Numbered n p o.state.taken
  numbered n p e =
      by_gate
      (λ g. let k = c.passed g n p e in record { least = k.0; most = omega (arith, k); not_nine = λ z. omega (arith, k); place = k.2; misuse = λ z. absurd (omega (arith, k)) })
      (λ _ e'. at_zero_lem 10 (omega arith) (omega arith) e')
      (λ _ e'. at_zero_lem 11 (omega arith) (omega arith) e')
    where
      at_zero_lem : (m : ℕ) → 10 ≤ m → m ≤ 11 → o.answer ≡ layout.refused m 0 → Numbered n p o.state.taken
      at_zero_lem m l h e' =
          let a = same_number m n 0 p (sym e' ∙ e) in
          let b = same_place m n 0 p (sym e' ∙ e) in
          record { least = omega arith; most = omega arith; not_nine = λ z. omega arith; place = omega arith; misuse = λ z. omega arith }

  -- what the call returns is in range, unless it answered 11
  range_next : (o.answer ≡ layout.refused 11 0 → ⊥) → in_range o.state ≡ true
  range_next h = c.range (by_cases (in_range s) (λ r. r) (λ r. absurd (h (out_of_range r))))

-- ---- 11 and 10

-- 11 is answered exactly where the state fails the range test, whatever the tables and the bytes
pub eleven_answered : (s : State) (t : Tables) (xs : List ℕ) → Bytes xs → ((pushed s t xs).answer ≡ layout.refused 11 0) ↔ (in_range s ≡ false)
eleven_answered s t xs q = eleven_is s t (pushed s t xs) (pushed_call s t xs q)

pub eleven_answered_end : (s : State) (t : Tables) → ((ended s t).answer ≡ layout.refused 11 0) ↔ (in_range s ≡ false)
eleven_answered_end s t = eleven_is s t (ended s t) (ended_call s t)

-- 10 exactly where it passes and the sizes are not its own
pub ten_answered : (s : State) (t : Tables) (xs : List ℕ) → Bytes xs → ((pushed s t xs).answer ≡ layout.refused 10 0) ↔ ((in_range s ≡ true) × (s.sizes ≡ sizes_of t → ⊥))
ten_answered s t xs q = ten_is s t (pushed s t xs) (pushed_call s t xs q)

pub ten_answered_end : (s : State) (t : Tables) → ((ended s t).answer ≡ layout.refused 10 0) ↔ ((in_range s ≡ true) × (s.sizes ≡ sizes_of t → ⊥))
ten_answered_end s t = ten_is s t (ended s t) (ended_call s t)

-- the next call, feeding or finishing, with any tables and bytes, doesn't answer 11 at any place
abbrev pub NeverEleven : State → Type 0
NeverEleven s = (t : Tables) (p : ℕ) → ((xs : List ℕ) → Bytes xs → (pushed s t xs).answer ≡ layout.refused 11 p → ⊥) × ((ended s t).answer ≡ layout.refused 11 p → ⊥)

never_eleven : (s : State) → in_range s ≡ true → NeverEleven s
never_eleven s r t p = ((λ xs q e. true≢false (sym r ∙ eleven_out s t (pushed s t xs) (pushed_call s t xs q) p e)), (λ e. true≢false (sym r ∙ eleven_out s t (ended s t) (ended_call s t) p e)))

pub never_eleven_fresh : (t : Tables) → NeverEleven (begun t).state
never_eleven_fresh t = never_eleven (begun t).state (range_fresh t)

pub never_eleven_next : (s : State) (t : Tables) (xs : List ℕ) → Bytes xs → ((pushed s t xs).answer ≡ layout.refused 11 0 → ⊥) → NeverEleven (pushed s t xs).state
never_eleven_next s t xs q h = never_eleven (pushed s t xs).state (range_next s t (pushed s t xs) (pushed_call s t xs q) h)

pub never_eleven_next_end : (s : State) (t : Tables) → ((ended s t).answer ≡ layout.refused 11 0 → ⊥) → NeverEleven (ended s t).state
never_eleven_next_end s t h = never_eleven (ended s t).state (range_next s t (ended s t) (ended_call s t) h)

-- ---- finished

-- one more piece, after feeding pieces from a fresh start with state and tables handed on
abbrev pub call : Tables → List (List ℕ) → List ℕ → Out
call t ps p = let h = feeding (started t) ps in pushed h.state h.tables p

-- after every call: answer, the bytes told in all, those in the state, and tables, as 01's reading of the bytes so far has them
pub call_ends : (t : Tables) (ps : List (List ℕ)) (p : List ℕ) (q : Bytes (join ps ++ p)) → Ends (counted (started t) ps + (call t ps p).taken) (call t ps p) (partial (layout_sizes t) (join ps ++ p))
call_ends t ps p q =
    let h = feeding (started t) ps in
    let front = bytes_front (join ps) p q in
    let w = feeding_held t ps front in
    let o = ap₂ (λ (s : State) (x : Tables). pushed s x p) w.0 w.1 ∙ call_reads t (join ps) front p q in
    let taken : (call t ps p).state.taken ≡ (partial (layout_sizes t) (join ps ++ p)).taken = ap (λ (x : Out). x.state.taken) o ∙ taken_as t (join ps ++ p) q in
    record {
      answer = ap (λ (x : Out). x.answer) o;
      counted = omega (arith, taken, counted_on ps (started t), call_counts h.state h.tables p);
      taken = taken;
      tables = ap (λ (x : Out). x.tables) o;
    }

-- every number behind the records that a finished answer counts is 0
abbrev pub ZeroBehind : Head → Tables → Type 0
ZeroBehind g t = (k : Table) (j : ℕ) → width k * rows_of k (counts g) ≤ j → get_or (table_of k t) j 0 ≡ 0

pub zero_behind_call : (t : Tables) (ps : List (List ℕ)) (p : List ℕ) → Bytes (join ps ++ p) → (g : Head) → (call t ps p).answer ≡ layout.finished g → ZeroBehind g (call t ps p).tables
zero_behind_call t ps p q g e k j past =
    let r = call_ends t ps p q in
    ap (λ (x : Tables). get_or (table_of k x) j 0) r.tables
    ∙ of_layout.zero_behind (layout_sizes t) (join ps ++ p) q g (sym r.answer ∙ e) k j past

pub zero_behind_end : (t : Tables) (ps : List (List ℕ)) → Bytes (join ps) → (g : Head) → (finished (feeding (started t) ps)).answer ≡ layout.finished g → ZeroBehind g (finished (feeding (started t) ps)).tables
zero_behind_end t ps q g e k j past =
    let r = finishing_reads t ps q in
    ap (λ (x : Tables). get_or (table_of k x) j 0) r.tables
    ∙ of_layout.zero_behind_at_once (layout_sizes t) (join ps) q g (sym r.answer ∙ e) k j past

pub zero_behind_once : (t : Tables) (xs : List ℕ) → Bytes xs → (g : Head) → (read_once t xs).answer ≡ layout.finished g → ZeroBehind g (read_once t xs).tables
zero_behind_once t xs q g e = of_layout.zero_behind_at_once (layout_sizes t) xs q g e

pub zero_behind_strict : (t : Tables) (xs : List ℕ) → Bytes xs → (g : Head) → (read_strict t xs).answer ≡ layout.finished g → ZeroBehind g (read_strict t xs).tables
zero_behind_strict t xs q g e = of_layout.zero_behind_strict (layout_sizes t) xs q g e

-- ---- acceptance

-- what an accepted transaction shows: its head numbers, its bytes, its records and then zeros
abbrev pub shown_of : Tables → Contents → Outcome
shown_of t x = record { answer = layout.finished (head_of x); taken = length (contents_bytes x); tables = tables_of (layout_sizes t) x }

-- the answer is finished, with some head
abbrev pub Finishes : layout.Answer Head → Type 0
Finishes a = (g : Head) × (a ≡ layout.finished g)

-- where the reading finishes, so does reading at once: nothing is left to finish
once_same : (z : outcome.Sizes) (xs : List ℕ) (h : Head) → (partial z xs).answer ≡ layout.finished h → at_once z xs ≡ partial z xs
once_same z xs h e =
    ap (λ (a : layout.Answer Head). outcome.outcome z (layout.reading a (reading_of z xs).taken (reading_of z xs).log))
    (ap (λ (a : layout.Answer Head). outcome.finish a (reading_of z xs).taken) e ∙ sym e)

at_once_accepted : (t : Tables) (xs : List ℕ) (x : Contents) → Begins (layout_sizes t) xs x → at_once (layout_sizes t) xs ≡ shown_of t x
at_once_accepted t xs x b =
    let a = accepted (layout_sizes t) xs x b in
    once_same (layout_sizes t) xs (head_of x) (ap (λ (o : Outcome). o.answer) a) ∙ a

at_once_begins : (t : Tables) (xs : List ℕ) → Bytes xs → (g : Head) → (at_once (layout_sizes t) xs).answer ≡ layout.finished g → (x : Contents) × Begins (layout_sizes t) xs x
at_once_begins t xs q g e = begins (layout_sizes t) xs g q (finish_finished _ _ _ e)

-- read at once: finished exactly if the bytes begin with those of an allowed transaction for which the tables have room
pub once_exactly : (t : Tables) (xs : List ℕ) → Bytes xs → Finishes (read_once t xs).answer ↔ ((x : Contents) × Begins (layout_sizes t) xs x)
once_exactly t xs q = (λ f. at_once_begins t xs q f.0 f.1, λ b. (_, ap (λ (o : Outcome). o.answer) (at_once_accepted t xs b.0 b.1)))

-- and then answer, bytes taken and tables are that transaction's
pub once_accepted : (t : Tables) (xs : List ℕ) (x : Contents) → Begins (layout_sizes t) xs x → read_once t xs ≡ shown_of t x
once_accepted t xs x b = at_once_accepted t xs x b

-- read strictly: exactly if the bytes are those of such a transaction, and no more
pub strict_exactly : (t : Tables) (xs : List ℕ) → Bytes xs → Finishes (read_strict t xs).answer ↔ ((x : Contents) × Is (layout_sizes t) xs x)
strict_exactly t xs q = (
  λ f. (whole_exactly (layout_sizes t) xs q).0 f,
  λ b. (_, ap (λ (o : Outcome). o.answer) (whole_accepted (layout_sizes t) xs b.0 b.1)),
)

pub strict_accepted : (t : Tables) (xs : List ℕ) (x : Contents) → Is (layout_sizes t) xs x → read_strict t xs ≡ shown_of t x
strict_accepted t xs x i = whole_accepted (layout_sizes t) xs x i

-- fed in pieces from a fresh start, then finished
pub finish_exactly : (t : Tables) (ps : List (List ℕ)) → Bytes (join ps) → Finishes (finished (feeding (started t) ps)).answer ↔ ((x : Contents) × Begins (layout_sizes t) (join ps) x)
finish_exactly t ps q =
    let r = finishing_reads t ps q in (
      λ f. at_once_begins t (join ps) q f.0 (sym r.answer ∙ f.1),
      λ b. (_, r.answer ∙ ap (λ (o : Outcome). o.answer) (at_once_accepted t (join ps) b.0 b.1)),
    )

pub finish_accepted : (t : Tables) (ps : List (List ℕ)) → Bytes (join ps) → (x : Contents) → Begins (layout_sizes t) (join ps) x → Ends (counted (started t) ps) (finished (feeding (started t) ps)) (shown_of t x)
finish_accepted t ps q x b = subst (λ (w : Outcome). Ends (counted (started t) ps) (finished (feeding (started t) ps)) w) (at_once_accepted t (join ps) x b) (finishing_reads t ps q)

-- and the feeding call itself: it answers finished as soon as the bytes so far begin with a transaction, and only then
pub call_exactly : (t : Tables) (ps : List (List ℕ)) (p : List ℕ) → Bytes (join ps ++ p) → Finishes (call t ps p).answer ↔ ((x : Contents) × Begins (layout_sizes t) (join ps ++ p) x)
call_exactly t ps p q =
    let r = call_ends t ps p q in (
      λ f. begins (layout_sizes t) (join ps ++ p) f.0 q (sym r.answer ∙ f.1),
      λ b. (_, r.answer ∙ ap (λ (o : Outcome). o.answer) (accepted (layout_sizes t) (join ps ++ p) b.0 b.1)),
    )

pub call_accepted : (t : Tables) (ps : List (List ℕ)) (p : List ℕ) → Bytes (join ps ++ p) → (x : Contents) → Begins (layout_sizes t) (join ps ++ p) x → Ends (counted (started t) ps + (call t ps p).taken) (call t ps p) (shown_of t x)
call_accepted t ps p q x b = subst (λ (w : Outcome). Ends (counted (started t) ps + (call t ps p).taken) (call t ps p) w) (accepted (layout_sizes t) (join ps ++ p) x b) (call_ends t ps p q)

-- ---- the numbers and places of refusals

-- feeding and finishing, of every state
pub push_numbered : (s : State) (t : Tables) (xs : List ℕ) → Bytes xs → (n p : ℕ) → (pushed s t xs).answer ≡ layout.refused n p → Numbered n p (pushed s t xs).state.taken
push_numbered s t xs q = numbered s t (pushed s t xs) (pushed_call s t xs q)

pub end_numbered : (s : State) (t : Tables) (n p : ℕ) → (ended s t).answer ≡ layout.refused n p → Numbered n p (ended s t).state.taken
end_numbered s t = numbered s t (ended s t) (ended_call s t)

-- fed from a fresh start: 2 to 8, no further than the bytes fed
pub call_numbered : (t : Tables) (ps : List (List ℕ)) (p : List ℕ) → Bytes (join ps ++ p) → (n at : ℕ) → (call t ps p).answer ≡ layout.refused n at → (2 ≤ n) × (n ≤ 8) × (at ≤ (call t ps p).state.taken) × ((call t ps p).state.taken ≤ length (join ps ++ p))
call_numbered t ps p q n at e =
    let c = call_ends t ps p q in
    let z = layout_sizes t in
    omega (arith, c.taken, refusal_placed z (join ps ++ p) q n at (sym c.answer ∙ e), taken_there (transaction (room_of z)) (join ps ++ p))

layout_refused : (n m p q : ℕ) → ◌≡◌ {A = layout.Answer Head} (layout.refused n p) (layout.refused m q) → (n ≡ m) × (p ≡ q)
layout_refused n m p q e = (cc, cc)

-- finishing adds 1, the strict form 9
finish_placed : (a : layout.Answer Head) (taken n p : ℕ) → ((m q : ℕ) → a ≡ layout.refused m q → (2 ≤ m) × (m ≤ 8) × (q ≤ taken)) → outcome.finish a taken ≡ layout.refused n p → (1 ≤ n) × (n ≤ 8) × (p ≤ taken)
finish_placed (layout.finished h) taken n p f e = absurd (refused_not_finished (sym e))
finish_placed layout.more taken n p f e = omega (arith, layout_refused 1 n taken p e)
finish_placed (layout.refused m q) taken n p f e = omega (arith, f n p e)

follow_placed : (a : layout.Answer Head) (taken there n p : ℕ) → ((m q : ℕ) → a ≡ layout.refused m q → (1 ≤ m) × (m ≤ 8) × (q ≤ taken)) → outcome.follow a taken there ≡ layout.refused n p → (1 ≤ n) × (n ≤ 9) × (p ≤ taken)
follow_placed (layout.finished h) taken there n p f e =
    by_cases (ltb taken there)
    (λ l. omega (arith, layout_refused 9 n taken p (rw l at e)))
    (λ l. absurd (refused_not_finished (sym (rw l at e))))
follow_placed layout.more taken there n p f e = absurd (refused_not_more (sym e))
follow_placed (layout.refused m q) taken there n p f e = omega (arith, f n p e)

at_once_placed : (z : outcome.Sizes) (xs : List ℕ) → Bytes xs → (n p : ℕ) → (at_once z xs).answer ≡ layout.refused n p → (1 ≤ n) × (n ≤ 8) × (p ≤ (reading_of z xs).taken)
at_once_placed z xs q n p e = finish_placed (reading_of z xs).answer (reading_of z xs).taken n p (refusal_placed z xs q) e

-- at once: 1 to 8, no further than the bytes taken
pub once_numbered : (t : Tables) (xs : List ℕ) → Bytes xs → (n p : ℕ) → (read_once t xs).answer ≡ layout.refused n p → (1 ≤ n) × (n ≤ 8) × (p ≤ (read_once t xs).taken) × ((read_once t xs).taken ≤ length xs)
once_numbered t xs q n p e =
    omega (arith, at_once_placed (layout_sizes t) xs q n p e, taken_there (transaction (room_of (layout_sizes t))) xs)

-- strictly: 1 to 9
pub strict_numbered : (t : Tables) (xs : List ℕ) → Bytes xs → (n p : ℕ) → (read_strict t xs).answer ≡ layout.refused n p → (1 ≤ n) × (n ≤ 9) × (p ≤ (read_strict t xs).taken) × ((read_strict t xs).taken ≤ length xs)
strict_numbered t xs q n p e =
    let z = layout_sizes t in
    omega (arith, follow_placed (at_once z xs).answer (reading_of z xs).taken (length xs) n p (at_once_placed z xs q) e, taken_there (transaction (room_of z)) xs)

-- 1 is finishing's: no field that settles refuses with it
unfoldable one : State → Bool
one s = cond (eqb s.field.stage 26) (eqb s.field.value 1) false

cond_one : (b : Bool) (s s' : State) → one (cond b s s') ≡ cond b (one s) (one s')
cond_one true s s' = refl
cond_one false s s' = refl

open_one : (σ f w : ℕ) (s : State) → one (with_field (field σ f w 0 0) s) ≡ false
unfolding one
open_one σ f w s = cond_same (eqb σ 26) false

refuse_one : (n p : ℕ) (s : State) → one (refuse n p s) ≡ eqb n 1
unfolding one
refuse_one n p s = refl

opened_one : (place σ f w : ℕ) (s : State) → one (opened place σ f w s) ≡ false
unfolding opened
opened_one place σ f w s = simp (cond_one, open_one, refuse_one, cond_same)

ends_one : (σ : ℕ) (s : State) → one (body_ends σ s) ≡ false
unfolding body_ends next_input next_output next_input_witness next_output_witness next_script_item next_pegin_item witnesses_end
ends_one σ s = simp (cond_one, open_one, refuse_one, opened_one, cond_same)

compact_one : (σ start n : ℕ) (s : State) → one (compact_settled σ start n s).decoder ≡ false
unfolding compact_settled length_settled body_opened inputs_counted outputs_counted script_counted pegin_counted next_input next_output next_input_witness next_output_witness next_script_item next_pegin_item witnesses_end
compact_one σ start n s = simp (cond_decoder, cond_one, open_one, refuse_one, opened_one, ends_one, cond_same)

settle_one : (s : State) → one (settle s).decoder ≡ false
unfolding settle_by first_settled further_settled little_settled big_settled opaque_settled value_part asset_part nonce_part amount_next keys_next null_keys_next asset_next value_next nonce_next sequence_next locktime_next next_input next_output next_input_witness next_output_witness next_script_item next_pegin_item witnesses_end
settle_one s = simp (cond_decoder, cond_one, open_one, refuse_one, opened_one, ends_one, compact_one, cond_same)

step_one : (m : Machine) (b : ℕ) → one m.state ≡ false → one (step m b).state ≡ false
unfolding entering one
step_one m b h = step_case (λ (n : Machine). one n.state ≡ false) m b h (λ _ _. settle_one (gather m.state b)) (λ running _. rw (ne_eqb m.state.field.stage 26 (λ e. omega arith)))

fed_one : (xs : List ℕ) (m : Machine) → one m.state ≡ false → one (fed m xs).state ≡ false
unfolding fed
fed_one [] m h = h
fed_one (b ∷ xs) m h = fed_one xs (step m b) (step_one m b h)

-- a state that answers 1
one_stage : (s : State) (p : ℕ) → answer_of s ≡ layout.refused 1 p → one s ≡ true
unfolding one answer_of
one_stage s p e =
    by_cases (eqb s.field.stage 26)
    (λ z. let stage = eqb-true s.field.stage 26 z in
    let a : s.field.stage ≡ 25 → ⊥ = λ y. omega arith in
    rw z (eq-eqb s.field.value 1 (same_number s.field.value 1 s.field.have p (rw (ne_eqb s.field.stage 25 a, z) at e))))
    (λ z. absurd (true≢false (sym (refused_stage s 1 p e) ∙ z)))

one_ended : (s : State) → one s ≡ true → eqb s.field.stage 26 ≡ true
unfolding one
one_ended s e = by_cases (eqb s.field.stage 26) (λ z. z) (λ z. absurd (true≢false (sym (rw z at e))))

-- so a feeding answers it only where the reading had ended with it: it takes nothing, the state is as it was, and the tables are 0
pub one_repeated : (s : State) (t : Tables) (xs : List ℕ) (p : ℕ) → Bytes xs → (pushed s t xs).answer ≡ layout.refused 1 p → pushed s t xs ≡ out s 0 (layout.refused 1 p) (cleared t)
unfolding closed
one_repeated s t xs p q e =
    by_gate s t (pushed s t xs) (pushed_call s t xs q)
    (λ g. let was : one s ≡ true = by_cases (one s) (λ z. z) (λ z. absurd (true≢false (sym (one_stage (fed (machine s t) xs).state p (sym (open_answer s t xs g) ∙ e)) ∙ fed_one xs (machine s t) z))) in
    let refused = one_ended s was in
    let stage = eqb-true s.field.stage 26 refused in
    let over : 25 ≤ s.field.stage = omega arith in
    let o = ended_repeats s t xs g over in
    o ∙ ap₂ (λ (a : layout.Answer Head) (x : Tables). out s 0 a x) (sym (ap (λ (x : Out). x.answer) o) ∙ e) (rw refused))
    (λ _ e'. absurd (omega (arith, same_number 10 1 0 p (sym e' ∙ e))))
    (λ _ e'. absurd (omega (arith, same_number 11 1 0 p (sym e' ∙ e))))
