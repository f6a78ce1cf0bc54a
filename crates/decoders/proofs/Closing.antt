-- Where a call starts and ends: the definitions at each test that the code makes.
use Prim.Native.Nat.{ℕ, ◌<◌, ◌≤◌}
use mathlib.Core.Path.{◌≡◌, refl, ◌∙◌, ap, ap₂}
use mathlib.Core.Bool.{Bool, true, false, ◌&&◌}
use native.Mathlib.Omega.{arith}
use lib.Dec.{eqb}
use borrow.Author.Tests.{le-leb, lt-leb, lt-ltb, le-ltb, eq-eqb, ne_eqb}
use Rattle.layout.specs.Layout as layout
use Rattle.layout.specs.Transaction as transaction
use Rattle.layout.specs.Outcome.{Tables}
use Rattle.encode.specs.declared.refusal.Refusal.{Refusal}
use Rattle.encode.specs.declared.refusal.RefusalKind.{RefusalKind}
use Rattle.encode.specs.Refusal.{number_of}
use Rattle.encode.proofs.Refusals.{kind_of, number_of_kind}
use Rattle.decoders.specs.declared.Head.{Head}
use Rattle.decoders.specs.declared.Sizes.{Sizes}
use Rattle.decoders.specs.declared.Answer.TheVariants.{Finished, More, Refused}
use Rattle.decoders.specs.Machine.{State, refuse, answer_of}
use Rattle.decoders.specs.Range.{in_range}
use Rattle.decoders.specs.Feeding.{told, out, cleared, gate, finish, follow, closed}
use Rattle.decoders.specs.Needs.{head_told, Listed, Closes}
use Rattle.decoders.proofs.Ranges.{range_finished, range_refused}

-- three tests, the first two together and the last two
in_turn : (a b c : Bool) → (a && b && c) ≡ (a && (b && c))
in_turn true b c = refl
in_turn false b c = refl

module _ (s : State) where
  pub told_finished : (h : Head) → s.field.stage ≡ 25 → h ≡ head_told s → told (Finished h) ≡ answer_of s
  unfolding answer_of
  told_finished h e q = rw (eq-eqb s.field.stage 25 e) (ap (λ (x : Head). told (Finished x)) q)

  pub told_refused : (r : Refusal) (k : RefusalKind) → s.field.stage ≡ 26 → number_of k ≡ s.field.value → r.kind ≡ k → r.place ≡ s.field.have → told (Refused r) ≡ answer_of s
  unfolding answer_of
  told_refused r k e n q p =
      let not_25 : s.field.stage ≡ 25 → ⊥ = λ z. omega arith in
      rw (ne_eqb s.field.stage 25 not_25, eq-eqb s.field.stage 26 e) (ap₂ (λ (a b : ℕ). layout.refused a b) (ap number_of q ∙ n) p)

  pub told_more : (s.field.stage ≡ 25 → ⊥) → (s.field.stage ≡ 26 → ⊥) → told More ≡ answer_of s
  unfolding answer_of
  told_more a b = rw (ne_eqb s.field.stage 25 a, ne_eqb s.field.stage 26 b)

  pub finish_ended : 25 ≤ s.field.stage → s ≡ finish s
  unfolding finish
  finish_ended h = rw (le-leb 25 s.field.stage h)

  pub finish_cut : s.field.stage < 25 → refuse 1 s.taken s ≡ finish s
  unfolding finish
  finish_cut h = rw (lt-leb 25 s.field.stage h)

  pub follow_more : (there : ℕ) → s.field.stage ≡ 25 → s.taken < there → refuse 9 s.taken s ≡ follow there s
  unfolding follow
  follow_more there e h = rw (eq-eqb s.field.stage 25 e, lt-ltb s.taken there h)

  pub follow_none : (there : ℕ) → s.field.stage ≡ 25 → there ≤ s.taken → s ≡ follow there s
  unfolding follow
  follow_none there e h = rw (eq-eqb s.field.stage 25 e, le-ltb s.taken there h)

  pub follow_not : (there : ℕ) → (s.field.stage ≡ 25 → ⊥) → s ≡ follow there s
  unfolding follow
  follow_not there e = rw (ne_eqb s.field.stage 25 e)

  pub closed_refused : (n : ℕ) (a : layout.Answer transaction.Head) (t t' : Tables) → s.field.stage ≡ 26 → a ≡ answer_of s → t' ≡ cleared t → out s n a t' ≡ closed s n t
  unfolding closed
  closed_refused n a t t' e qa qt = rw (eq-eqb s.field.stage 26 e) (ap₂ (λ (x : layout.Answer transaction.Head) (y : Tables). out s n x y) qa qt)

  pub closed_kept : (n : ℕ) (a : layout.Answer transaction.Head) (t : Tables) → (s.field.stage ≡ 26 → ⊥) → a ≡ answer_of s → out s n a t ≡ closed s n t
  unfolding closed
  closed_kept n a t e qa = rw (ne_eqb s.field.stage 26 e) (ap (λ (x : layout.Answer transaction.Head). out s n x t) qa)

  -- the gate: 11, then 10
  module _ (z : Sizes) where
    pub gate_range : in_range s ≡ false → 11 ≡ gate s z
    unfolding gate
    gate_range e = rw e

    pub gate_differs : in_range s ≡ true → (eqb s.sizes.inputs z.inputs && (eqb s.sizes.outputs z.outputs && eqb s.sizes.items z.items)) ≡ false → 10 ≡ gate s z
    unfolding gate
    gate_differs e d = rw (e, in_turn (eqb s.sizes.inputs z.inputs) (eqb s.sizes.outputs z.outputs) (eqb s.sizes.items z.items), d)

    pub gate_open : in_range s ≡ true → (eqb s.sizes.inputs z.inputs && (eqb s.sizes.outputs z.outputs && eqb s.sizes.items z.items)) ≡ true → gate s z ≡ 0
    unfolding gate
    gate_open e d = rw (e, in_turn (eqb s.sizes.inputs z.inputs) (eqb s.sizes.outputs z.outputs) (eqb s.sizes.items z.items), d)

  -- a finished state within its range has a head that fits, a refused one a number that is a kind's
  pub range_closes : in_range s ≡ true → Closes s
  range_closes e =
      record {
        headed = λ q. let f = range_finished s e q in omega (arith, f.taken, f.version, f.flag, f.few_inputs, f.few_outputs, f.few_items, f.locktime);
        listed = λ q. let r = range_refused s e q in (kind_of s.field.value, number_of_kind s.field.value r.least (omega (arith, r.greatest)));
      }

  pub refused_closes : s.field.stage ≡ 26 → Listed s.field.value → Closes s
  refused_closes e k = record { headed = λ q. absurd (omega arith); listed = λ _. k }
