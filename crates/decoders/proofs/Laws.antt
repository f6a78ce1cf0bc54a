-- What the functions' proofs cite: the machine's definitions at each test that the code makes.
use Rattle.std.proofs.Math.Nat.{min-le_left}
use Prim.Native.Nat.{ℕ, ◌+◌, ◌-◌, ◌<◌, ◌≤◌, min}
use mathlib.Core.Path.{◌≡◌, sym, ◌∙◌, ap}
use native.Mathlib.Omega.{arith}
use borrow.Author.Tests.{le-leb, lt-leb, lt-ltb, le-ltb, eq-eqb, ne_eqb}
use Rattle.layout.specs.Transaction.{limit}
use Rattle.decoders.specs.Machine.{State, field, with_field, refuse, finished, opened, number, compact, opaque, further, item_ends, set_index, set_items, set_left, next_input, next_output, witnesses_end, next_output_witness, next_input_witness, next_script_item, next_pegin_item, body_ends}

pub opened_past : (place stage form width n : ℕ) (s : State) → n ≡ min (s.taken + width) 18446744073709551615 → limit < n → opened place stage form width s ≡ refuse 2 place s
unfolding opened
opened_past place stage form width n s en past = let e : limit < s.taken + width = omega (arith, min-le_left (s.taken + width) 18446744073709551615) in rw (lt-leb (s.taken + width) limit e)

pub opened_default : (place stage form width h v n : ℕ) (s : State) → h ≡ 0 → v ≡ 0 → n ≡ min (s.taken + width) 18446744073709551615 → n ≤ limit → with_field (field stage form width h v) s ≡ opened place stage form width s
unfolding opened
opened_default place stage form width h v n s eh ev en fits =
    let e : s.taken + width ≤ limit = omega (arith, en, fits) in
    (λ j. with_field (field stage form width (eh j) (ev j)) s) ∙ sym (rw (le-leb (s.taken + width) limit e))

-- ---- by a test

module _ (s : State) where
  pub input_more : s.spot.index < s.counts.inputs → next_input s ≡ opaque 3 s
  unfolding next_input
  input_more h = rw (lt-ltb s.spot.index s.counts.inputs h)

  pub input_none : s.counts.inputs ≤ s.spot.index → next_input s ≡ compact 11 s
  unfolding next_input
  input_none h = rw (le-ltb s.spot.index s.counts.inputs h)

  pub output_more : s.spot.index < s.counts.outputs → next_output s ≡ number 12 1 s
  unfolding next_output
  output_more h = rw (lt-ltb s.spot.index s.counts.outputs h)

  pub output_none : s.counts.outputs ≤ s.spot.index → next_output s ≡ number 16 4 s
  unfolding next_output
  output_none h = rw (le-ltb s.spot.index s.counts.outputs h)

  pub all_empty_lem : s.spot.empty ≡ 1 → witnesses_end s ≡ refuse 8 4 s
  unfolding witnesses_end
  all_empty_lem h = rw (eq-eqb s.spot.empty 1 h)

  pub some_witness : (s.spot.empty ≡ 1 → ⊥) → witnesses_end s ≡ finished s
  unfolding witnesses_end
  some_witness h = rw (ne_eqb s.spot.empty 1 h)

  pub output_witness_more : s.spot.index < s.counts.outputs → next_output_witness s ≡ compact 23 s
  unfolding next_output_witness
  output_witness_more h = rw (lt-ltb s.spot.index s.counts.outputs h)

  pub output_witness_none : s.counts.outputs ≤ s.spot.index → next_output_witness s ≡ witnesses_end s
  unfolding next_output_witness
  output_witness_none h = rw (le-ltb s.spot.index s.counts.outputs h)

  pub input_witness_more : s.spot.index < s.counts.inputs → next_input_witness s ≡ compact 17 s
  unfolding next_input_witness
  input_witness_more h = rw (lt-ltb s.spot.index s.counts.inputs h)

  pub input_witness_none : s.counts.inputs ≤ s.spot.index → next_input_witness s ≡ next_output_witness (set_index 0 s)
  unfolding next_input_witness
  input_witness_none h = rw (le-ltb s.spot.index s.counts.inputs h)

  pub script_more : 0 < s.spot.left → next_script_item s ≡ compact 20 s
  unfolding next_script_item
  script_more h = rw (lt-ltb 0 s.spot.left h)

  pub script_none : s.spot.left ≤ 0 → next_script_item s ≡ compact 21 s
  unfolding next_script_item
  script_none h = rw (le-ltb 0 s.spot.left h)

  pub pegin_more : 0 < s.spot.left → next_pegin_item s ≡ compact 22 s
  unfolding next_pegin_item
  pegin_more h = rw (lt-ltb 0 s.spot.left h)

  pub pegin_none : s.spot.left ≤ 0 → next_pegin_item s ≡ next_input_witness (further s)
  unfolding next_pegin_item
  pegin_none h = rw (le-ltb 0 s.spot.left h)

  pub body_by : (stage k : ℕ) → stage ≡ k → body_ends stage s ≡ body_ends k s
  body_by stage k e = ap (λ (n : ℕ). body_ends n s) e

  pub body_rest : (stage : ℕ) → (stage ≡ 5 → ⊥) → (stage ≡ 15 → ⊥) → (stage ≡ 17 → ⊥) → (stage ≡ 18 → ⊥) → (stage ≡ 20 → ⊥) → (stage ≡ 22 → ⊥) → (stage ≡ 23 → ⊥) → body_ends stage s ≡ next_output_witness (further s)
  unfolding body_ends
  body_rest stage a b c d e f g = rw (ne_eqb stage 5 a, ne_eqb stage 15 b, ne_eqb stage 17 c, ne_eqb stage 18 d, ne_eqb stage 20 e, ne_eqb stage 22 f, ne_eqb stage 23 g)

-- ---- one item more

pub script_item : (s : State) (left : ℕ) → left ≡ s.spot.left - 1 → next_script_item (set_items (s.counts.items + 1) (set_left left s)) ≡ next_script_item (item_ends s)
script_item s left e = ap (λ (n : ℕ). next_script_item (set_items (s.counts.items + 1) (set_left n s))) e

pub pegin_item : (s : State) (left : ℕ) → left ≡ s.spot.left - 1 → next_pegin_item (set_items (s.counts.items + 1) (set_left left s)) ≡ next_pegin_item (item_ends s)
pegin_item s left e = ap (λ (n : ℕ). next_pegin_item (set_items (s.counts.items + 1) (set_left n s))) e
