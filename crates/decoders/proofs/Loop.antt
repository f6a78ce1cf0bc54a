-- A whole piece, field after field: what the loop keeps.
use Prim.Native.Nat.{ℕ, ◌+◌, ◌-◌, ◌<◌, ◌≤◌, min}
use mathlib.Core.Path.{◌≡◌, refl, sym, ◌∙◌, ap, subst}
use mathlib.Core.Bool.{Bool, true, false}
use lib.Dec.{eqb}
use borrow.Author.Tests.{eqb-true, eqb-false}
use mathlib.Core.List.{List, [], ◌∷◌}
use native.Mathlib.Omega.{arith}
use lib.ListN.{length, take, drop, length-drop, take-append-drop}
use lib.Seq.{take_all}
use Rattle.layout.specs.Number.{Bytes}
use Rattle.layout.specs.Outcome.{Tables}
use Rattle.layout.proofs.Number.{bytes_take, bytes_drop}
use Rattle.decoders.specs.Machine.{State, machine, Machine, fed}
use Rattle.decoders.specs.Range.{in_range}
use Rattle.decoders.specs.Feeding.{sizes_of}
use Rattle.decoders.specs.Needs.{Feeds, Starts, ours}
use Rattle.decoders.proofs.Advance.{step_taken}
use Rattle.decoders.proofs.Ranges.{range_open}
use Rattle.decoders.proofs.Feeds.{Lengths, fed_range, fed_sizes, fed_lengths}
use Rattle.decoders.proofs.Simulation.{fed_append, fed_ended}

-- feeding the rest from here is feeding all from the start
pub record Turn (xs : List ℕ) (s₀ : State) (t₀ : Tables) (s : State) (t : Tables) (rest : List ℕ) : Type 0 where
  pub bytes : Bytes rest
  pub range : in_range s ≡ true
  pub sizes : s.sizes ≡ sizes_of t
  pub lengths : Lengths t₀ t
  pub same : fed (machine s t) rest ≡ fed (machine s₀ t₀) xs

sizes_alike : (t t' : Tables) → Lengths t t' → sizes_of t ≡ sizes_of t'
sizes_alike t t' l = λ i. record { inputs = sym l.inputs i; outputs = sym l.outputs i; items = sym l.items i }

lengths_then : (t t' t'' : Tables) → Lengths t t' → Lengths t' t'' → Lengths t t''
lengths_then t t' t'' a b = record { inputs = b.inputs ∙ a.inputs; outputs = b.outputs ∙ a.outputs; items = b.items ∙ a.items }

pub turn_first : (xs : List ℕ) (s : State) (t : Tables) → Bytes xs → Starts s t → Turn xs s t s t xs
turn_first xs s t q h = record { bytes = q; range = h.range; sizes = h.sizes; lengths = record { inputs = refl; outputs = refl; items = refl }; same = refl }

-- what `is_empty` tells
pub none_left : (rest : List ℕ) (b : Bool) → b ≡ eqb (length rest) 0 → b ≡ true → length rest ≤ 0
none_left rest b e h = omega (arith, eqb-true (length rest) 0 (sym e ∙ h))

pub some_left : (rest : List ℕ) (b : Bool) → b ≡ eqb (length rest) 0 → b ≡ false → 0 < length rest
some_left rest b e h = let z : length rest ≡ 0 → ⊥ = eqb-false (length rest) 0 (sym e ∙ h) in omega (arith, z)

fed_none : (m : Machine) (rest : List ℕ) → length rest ≤ 0 → m ≡ fed m rest
unfolding fed
fed_none m [] h = refl
fed_none m (b ∷ bs) h = absurd (omega (arith, h))

module _ (xs : List ℕ) (s₀ : State) (t₀ : Tables) (s : State) (t : Tables) (rest : List ℕ) (u : Turn xs s₀ t₀ s t rest) where
  pub turn_ended : 25 ≤ s.field.stage → machine s t ≡ fed (machine s₀ t₀) xs
  turn_ended h = sym (fed_ended (machine s t) rest h) ∙ u.same

  pub turn_last : length rest ≤ 0 → machine s t ≡ fed (machine s₀ t₀) xs
  turn_last h = fed_none (machine s t) rest h ∙ u.same

  module _ (some : 0 < length rest) (open_yet : s.field.stage < 25) where
    pub turn_feeds : Feeds s t rest
    turn_feeds = record { range = u.range; runs = omega arith; sizes = u.sizes; some = some }

    module _ (s' : State) (t' : Tables) (e : machine s' t' ≡ fed (machine s t) (ours s rest)) where
      pub taken_more : s'.taken ≡ s.taken + min (s.field.width - s.field.have) (length rest)
      taken_more = ap (λ (m : Machine). m.state.taken) e ∙ step_taken s t rest turn_feeds u.bytes

      pub some_more : (s.taken < s'.taken) × (s'.taken - s.taken ≤ length rest)
      some_more = omega (arith, taken_more, (range_open s u.range turn_feeds.runs).have, some)

      turn_on : Turn xs s₀ t₀ s' t' (drop (s'.taken - s.taken) rest)
      turn_on =
          let k = min (s.field.width - s.field.have) (length rest) in
          let d : s'.taken - s.taken ≡ k = omega (arith, taken_more) in
          let l : Lengths t t' = subst (λ (m : Machine). Lengths t m.tables) (sym e) (fed_lengths (machine s t) (ours s rest)) in
          record {
            bytes = bytes_drop (s'.taken - s.taken) rest u.bytes;
            range = subst (λ (m : Machine). in_range m.state ≡ true) (sym e) (fed_range (machine s t) (ours s rest) (bytes_take k rest u.bytes) u.range);
            sizes = ap (λ (m : Machine). m.state.sizes) e ∙ fed_sizes (machine s t) (ours s rest) ∙ u.sizes ∙ sizes_alike t t' l;
            lengths = lengths_then t₀ t t' u.lengths l;
            same =
                ap (λ (x : ℕ). fed (machine s' t') (drop x rest)) d
                ∙ ap (λ (m : Machine). fed m (drop k rest)) e
                ∙ sym (fed_append (machine s t) (ours s rest) (drop k rest))
                ∙ ap (λ (x : List ℕ). fed (machine s t) x) (take-append-drop k rest)
                ∙ u.same;
          }

      -- the rest of a slice is told with its length
      pub turn_next : (rest' : List ℕ) → rest' ≡ take (length rest - (s'.taken - s.taken)) (drop (s'.taken - s.taken) rest) → Turn xs s₀ t₀ s' t' rest'
      turn_next rest' e' =
          let k = s'.taken - s.taken in
          subst (Turn xs s₀ t₀ s' t') (sym (e' ∙ take_all (length rest - k) (drop k rest) (omega (arith, length-drop k rest)))) turn_on
