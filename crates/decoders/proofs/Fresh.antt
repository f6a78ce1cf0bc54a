-- From a fresh start the machine reads as document 01's layout does: answer, bytes taken and tables, wherever it stands.
use Prim.Native.Nat.{ℕ}
use mathlib.Core.Path.{◌≡◌, refl, ◌∙◌, ap, ap₂}
use mathlib.Core.Bool.{true, cond}
use mathlib.Core.List.{List}
use native.Mathlib.Omega.{arith}
use lib.Dec.{leb, ltb, eqb}
use lib.ListN.{length, replicate, length-replicate}
use borrow.Author.Tests.{eq-eqb, ne_eqb, le-leb, lt-leb, eqb-true}
use Rattle.layout.specs.Number.{Bytes}
use Rattle.layout.specs.Layout as layout
use Rattle.layout.specs.Layout.{Reading}
use Rattle.layout.specs.Transaction.{Head}
use Rattle.layout.specs.Outcome as outcome
use Rattle.layout.specs.Outcome.{Tables, laid, shown, reading_of}
use Rattle.layout.proofs.Reading.{by_cases}
use Rattle.decoders.specs.Machine.{State, answer_of, Machine, fed, entering}
use Rattle.decoders.specs.Range.{in_range}
use Rattle.decoders.specs.Feeding.{tables, sizes_of, cleared, layout_sizes, begun, out, closed, finish, follow}
use Rattle.decoders.proofs.Simulation.{Same, at_run}
use Rattle.decoders.proofs.Walk.{fresh_at}
use Rattle.decoders.proofs.Feeds.{Lengths, fed_lengths, fed_range}
use Rattle.decoders.proofs.Ranges.{fresh_range, by_stage}

-- ---- the tables are lent with any numbers; a fresh start zeroes them

cleared_zeros : (t : Tables) → cleared t ≡ outcome.zeros (layout_sizes t)
cleared_zeros t = refl

pub cleared_lengths : (t t' : Tables) → Lengths t t' → cleared t' ≡ cleared t
cleared_lengths t t' l = λ i. tables (replicate (l.inputs i) 0) (replicate (l.outputs i) 0) (replicate (l.items i) 0)

pub zero_lengths : (t : Tables) → Lengths t (cleared t)
zero_lengths t = record { inputs = length-replicate {A = ℕ} (length t.inputs) 0; outputs = length-replicate {A = ℕ} (length t.outputs) 0; items = length-replicate {A = ℕ} (length t.items) 0 }

module _ (t : Tables) (xs : List ℕ) (q : Bytes xs) where
  -- document 01's reading of the bytes, and the machine's
  abbrev pub reading : Reading Head
  reading = reading_of (layout_sizes t) xs

  abbrev pub after : Machine
  after = fed (begun t) xs

  pub reads : Same after 0 (cleared t) reading
  unfolding entering
  reads = at_run (fresh_at (sizes_of t)) (cleared t) xs q

  pub after_range : in_range after.state ≡ true
  after_range = fed_range (begun t) xs q (fresh_range (sizes_of t))

  pub after_cleared : cleared after.tables ≡ cleared t
  after_cleared = cleared_lengths (cleared t) after.tables (fed_lengths (begun t) xs) ∙ cleared_lengths t (cleared t) (zero_lengths t)

-- ---- what a state's answer shows

shown_own : (s : State) (t : Tables) → cond (eqb s.field.stage 26) (cleared t) t ≡ shown (answer_of s) t (cleared t)
unfolding answer_of
shown_own s t =
    by_cases (eqb s.field.stage 26)
    (λ q. let not_25 : s.field.stage ≡ 25 → ⊥ = λ p. omega (arith, eqb-true s.field.stage 26 q) in rw (ne_eqb s.field.stage 25 not_25, q))
    (λ q. by_cases (eqb s.field.stage 25) (λ p. rw (p, q)) (λ p. rw (p, q)))

-- a call that ends at a state shows its answer, and the tables as that answer leaves them
pub closed_shows : (s : State) (n : ℕ) (t z : Tables) (a : layout.Answer Head) → answer_of s ≡ a → cleared t ≡ z → closed s n t ≡ out s n a (shown a t z)
unfolding closed
closed_shows s n t z a e c =
    ap (λ (x : Tables). out s n (answer_of s) x) (shown_own s t)
    ∙ ap₂ (λ (x : layout.Answer Head) (y : Tables). out s n x (shown x t y)) e c

-- finishing, and the strict form, are document 01's
pub answer_finish : (s : State) → in_range s ≡ true → answer_of (finish s) ≡ outcome.finish (answer_of s) s.taken
unfolding finish answer_of
answer_finish s e =
    by_stage s e
    (λ o. let a : s.field.stage ≡ 25 → ⊥ = λ p. omega (arith, o.stage) in let b : s.field.stage ≡ 26 → ⊥ = λ p. omega (arith, o.stage) in rw (lt-leb 25 s.field.stage (omega (arith, o.stage)), ne_eqb s.field.stage 25 a, ne_eqb s.field.stage 26 b))
    (λ p _. rw (le-leb 25 s.field.stage (omega arith), eq-eqb s.field.stage 25 p))
    (λ p _. let a : s.field.stage ≡ 25 → ⊥ = λ q. omega arith in rw (le-leb 25 s.field.stage (omega arith), ne_eqb s.field.stage 25 a, eq-eqb s.field.stage 26 p))

pub finish_taken : (s : State) → (finish s).taken ≡ s.taken
unfolding finish
finish_taken s = by_cases (leb 25 s.field.stage) (λ q. rw q) (λ q. rw q)

pub answer_follow : (there : ℕ) (s : State) → answer_of (follow there s) ≡ outcome.follow (answer_of s) s.taken there
unfolding follow answer_of
answer_follow there s =
    by_cases (eqb s.field.stage 25)
    (λ p. by_cases (ltb s.taken there) (λ l. rw (p, l)) (λ l. rw (p, l, p)))
    (λ p. by_cases (eqb s.field.stage 26) (λ l. rw (p, p, l)) (λ l. rw (p, p, l)))

pub follow_taken : (there : ℕ) (s : State) → (follow there s).taken ≡ s.taken
unfolding follow
follow_taken there s = by_cases (eqb s.field.stage 25) (λ p. by_cases (ltb s.taken there) (λ l. rw (p, l)) (λ l. rw (p, l))) (λ p. rw p)
