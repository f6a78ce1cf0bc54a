-- The public functions: what they need, and that they keep their promises.
use Prim.Native.Nat.{ℕ, ◌-◌}
use mathlib.Core.Path.{◌≡◌, refl, sym, ◌∙◌, ap, ap₂, subst}
use mathlib.Core.Bool.{Bool, true, false, cond, ◌&&◌}
use mathlib.Core.List.{List}
use native.Mathlib.Nat.{zero-add}
use native.Mathlib.Omega.{arith}
use lib.Dec.{leb, ltb, eqb}
use lib.ListN.{length}
use borrow.Author.Tests.{eq-eqb, ne_eqb, eqb-true, leb-false}
use Rattle.layout.specs.Number.{Bytes}
use Rattle.layout.specs.Layout as layout
use Rattle.layout.specs.Transaction.{Head}
use Rattle.layout.specs.Outcome as outcome
use Rattle.layout.specs.Outcome.{Tables, Outcome, laid, shown}
use Rattle.encode.specs.declared.refusal.RefusalKind.{RefusalKind}
use Rattle.encode.specs.declared.refusal.RefusalKind.TheVariants.{BytesFollow}
use Rattle.encode.specs.Refusal.{number_of}
use Rattle.encode.proofs.Refusals.{number_some}
use Rattle.layout.proofs.Reading.{by_cases}
use Rattle.decoders.specs.declared.Fed.{Fed}
use Rattle.decoders.specs.declared.Sizes.{Sizes}
use Rattle.decoders.specs.Machine.{State, refuse, answer_of, machine, Machine, fed, fresh}
use Rattle.decoders.specs.Range.{in_range}
use Rattle.decoders.specs.Feeding.{sizes_of, cleared, begun, Out, out, out_of, read_once, read_strict, gate, closed, pushed, ended, finish, follow}
use Rattle.decoders.specs.Needs.{misused, Starts, Closes, through, outcome_of}
use Rattle.decoders.proofs.Feeds.{fed_range}
use Rattle.decoders.proofs.Ranges.{fresh_range, finish_range}
use Rattle.decoders.proofs.Closing.{range_closes, refused_closes}
use Rattle.decoders.proofs.Fresh.{reading, after, reads, after_range, after_cleared, closed_shows, answer_finish, finish_taken, answer_follow, follow_taken, zero_lengths}

-- ---- the gate

gate_passes : (b a c d : Bool) → ◌≡◌ {A = ℕ} (cond b (cond (a && c && d) 0 10) 11) 0 → (b ≡ true) × (a ≡ true) × (c ≡ true) × (d ≡ true)
gate_passes true true true true e = (refl, refl, refl, refl)
gate_passes true true true false e = absurd (omega arith)
gate_passes true true false d e = absurd (omega arith)
gate_passes true false c d e = absurd (omega arith)
gate_passes false a c d e = absurd (omega arith)

pub gate_starts : (s : State) (t : Tables) → gate s (sizes_of t) ≡ 0 → Starts s t
unfolding gate
gate_starts s t z =
    let p = gate_passes (in_range s) (eqb s.sizes.inputs (length t.inputs)) (eqb s.sizes.outputs (length t.outputs)) (eqb s.sizes.items (length t.items)) z in
    let i = eqb-true s.sizes.inputs (length t.inputs) p.1 in
    let o = eqb-true s.sizes.outputs (length t.outputs) p.2 in
    let n = eqb-true s.sizes.items (length t.items) p.3 in
    record { range = p.0; sizes = λ j. record { inputs = i j; outputs = o j; items = n j } }

pub finish_closes : (s : State) → in_range s ≡ true → in_range (finish s) ≡ true
unfolding finish
finish_closes s h = by_cases (leb 25 s.field.stage) (λ q. rw q h) (λ q. rw q (finish_range s h (omega (arith, leb-false 25 s.field.stage q))))

-- the tables that are lent, by their sizes z
module _ (s : State) (t : Tables) (z : Sizes) (lent : z ≡ sizes_of t) where
  gate_lent : gate s z ≡ gate s (sizes_of t)
  gate_lent = ap (λ (x : Sizes). gate s x) lent

  -- a misuse, by its kind: no kind has number 0
  module _ (k : RefusalKind) (e : number_of k ≡ gate s z) where
    shut : gate s (sizes_of t) ≡ 0 → ⊥
    shut q = omega (arith, number_some k, e, gate_lent)

    pub pushed_misused : (xs : List ℕ) (r : Fed) → r ≡ misused k s → out_of r t ≡ pushed s t xs
    unfolding pushed
    pushed_misused xs r er =
        ap (λ (x : Fed). out_of x t) er
        ∙ rw (ne_eqb (gate s (sizes_of t)) 0 shut) (ap (λ (n : ℕ). out s 0 (layout.refused n 0) t) (e ∙ gate_lent))

    pub ended_misused : (r : Fed) → r ≡ misused k s → out_of r t ≡ ended s t
    unfolding ended
    ended_misused r er =
        ap (λ (x : Fed). out_of x t) er
        ∙ rw (ne_eqb (gate s (sizes_of t)) 0 shut) (ap (λ (n : ℕ). out s 0 (layout.refused n 0) t) (e ∙ gate_lent))

  module _ (g : gate s z ≡ 0) where
    passed : gate s (sizes_of t) ≡ 0
    passed = sym gate_lent ∙ g

    pub pushed_starts : Starts s t
    pushed_starts = gate_starts s t passed

    -- feeding: the state and tables that the loop leaves
    pub pushed_closed : (xs : List ℕ) (s' : State) (t' : Tables) (n : ℕ) (o : Out) → machine s' t' ≡ fed (machine s t) xs → n ≡ s'.taken - s.taken → o ≡ closed s' n t' → o ≡ pushed s t xs
    unfolding pushed
    pushed_closed xs s' t' n o em en eo =
        rw (eq-eqb (gate s (sizes_of t)) 0 passed) (eo ∙ ap (λ (k : ℕ). closed s' k t') en ∙ ap (λ (m : Machine). closed m.state (m.state.taken - s.taken) m.tables) em)

    pub pushed_closes : (xs : List ℕ) → Bytes xs → (s' : State) (t' : Tables) → machine s' t' ≡ fed (machine s t) xs → Closes s'
    pushed_closes xs q s' t' em = range_closes s' (subst (λ (m : Machine). in_range m.state ≡ true) (sym em) (fed_range (machine s t) xs q pushed_starts.range))

    pub ended_closed : (s' : State) (o : Out) → s' ≡ finish s → o ≡ closed s' 0 t → o ≡ ended s t
    unfolding ended
    ended_closed s' o es eo = rw (eq-eqb (gate s (sizes_of t)) 0 passed) (eo ∙ ap (λ (x : State). closed x 0 t) es)

    pub ended_closes : (s' : State) → s' ≡ finish s → Closes s'
    ended_closes s' es = range_closes s' (subst (λ (x : State). in_range x ≡ true) (sym es) (finish_closes s pushed_starts.range))

-- ---- reading at once

follow_closes : (there : ℕ) (s : State) → Closes s → Closes (follow there s)
unfolding follow
follow_closes there s h =
    by_cases (eqb s.field.stage 25)
    (λ p. by_cases (ltb s.taken there) (λ l. rw (p, l) (refused_closes (refuse 9 s.taken s) refl (BytesFollow, refl))) (λ l. rw (p, l) h))
    (λ p. rw p h)

begun_starts : (t : Tables) → Starts (fresh (sizes_of t)) (cleared t)
begun_starts t =
    let l = zero_lengths t in
    record { range = fresh_range (sizes_of t); sizes = λ j. record { inputs = sym l.inputs j; outputs = sym l.outputs j; items = sym l.items j } }

pub once_starts : (t : Tables) (d : State) (t₁ : Tables) → machine d t₁ ≡ begun t → Starts d t₁
once_starts t d t₁ e = subst (λ (m : Machine). Starts m.state m.tables) (sym e) (begun_starts t)

module _ (t : Tables) (xs : List ℕ) (q : Bytes xs) (done : State) (t₂ : Tables) (e : machine done t₂ ≡ through t xs) where
  abbrev left : State
  left = (after t xs q).state

  done_taken : done.taken ≡ (reading t xs q).taken
  done_taken = ap (λ (m : Machine). m.state.taken) e ∙ finish_taken left ∙ (reads t xs q).taken ∙ zero-add (reading t xs q).taken

  done_tables : t₂ ≡ laid (reading t xs q).log (cleared t)
  done_tables = ap (λ (m : Machine). m.tables) e ∙ (reads t xs q).tables

  done_cleared : cleared t₂ ≡ cleared t
  done_cleared = ap (λ (m : Machine). cleared m.tables) e ∙ after_cleared t xs q

  done_answer : answer_of done ≡ outcome.finish (reading t xs q).answer (reading t xs q).taken
  done_answer =
      ap (λ (m : Machine). answer_of m.state) e
      ∙ answer_finish left (after_range t xs q)
      ∙ ap₂ (λ (a : layout.Answer Head) (n : ℕ). outcome.finish a n) (reads t xs q).answer ((reads t xs q).taken ∙ zero-add (reading t xs q).taken)

  pub once_closes : Closes done
  once_closes = subst (λ (m : Machine). Closes m.state) (sym e) (range_closes (finish left) (finish_closes left (after_range t xs q)))

  pub strict_closes : (s : State) → s ≡ follow (length xs) done → Closes s
  strict_closes s es = subst Closes (sym es) (follow_closes (length xs) done once_closes)

  -- the state that a reading ends with shows the answer a
  shows : (s : State) (a : layout.Answer Head) → answer_of s ≡ a → s.taken ≡ (reading t xs q).taken → outcome_of (closed s s.taken t₂) ≡ record { answer = a; taken = (reading t xs q).taken; tables = shown a (laid (reading t xs q).log (cleared t)) (cleared t) }
  shows s a ea en =
      ap outcome_of (closed_shows s s.taken t₂ (cleared t) a ea done_cleared)
      ∙ λ i. record { answer = a; taken = en i; tables = shown a (done_tables i) (cleared t) }

  pub at_once_reads : (w : Outcome) → w ≡ outcome_of (closed done done.taken t₂) → w ≡ read_once t xs
  at_once_reads w ew = ew ∙ shows done _ done_answer done_taken

  pub strict_reads : (s : State) (w : Outcome) → s ≡ follow (length xs) done → w ≡ outcome_of (closed s s.taken t₂) → w ≡ read_strict t xs
  strict_reads s w es ew =
      ew
      ∙ shows s _
      (ap answer_of es ∙ answer_follow (length xs) done ∙ ap₂ (λ (a : layout.Answer Head) (n : ℕ). outcome.follow a n (length xs)) done_answer done_taken)
      (ap (λ (x : State). x.taken) es ∙ follow_taken (length xs) done ∙ done_taken)
