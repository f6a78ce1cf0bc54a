-- Feeding keeps the range, the sizes and the tables' lengths, and takes no more bytes than there are.
use Prim.Native.Nat.{ℕ, zero, suc, ◌+◌, ◌*◌, ◌^◌, ◌<◌, ◌≤◌}
use mathlib.Core.Path.{◌≡◌, refl, ◌∙◌, subst}
use mathlib.Core.Bool.{Bool, true, false, cond}
use Rattle.std.specs.Prelude.{Option, Some, None}
use mathlib.Core.List.{List, [], ◌∷◌}
use native.Mathlib.Nat.{pow-succ', mul-le-mul_right}
use native.Mathlib.Numerals.{add-one}
use native.Mathlib.Omega.{arith}
use lib.Dec.{leb, eqb}
use lib.ListN.{length, set, length-set}
use borrow.Author.Tests.{leb-false, ltb-true, eqb-true, eqb-false, lt-ltb}
use Rattle.layout.specs.Number.{Bytes}
use Rattle.layout.specs.Outcome.{Tables}
use Rattle.layout.proofs.Reading.{by_cases}
use Rattle.decoders.specs.declared.Table.{Table}
use Rattle.decoders.specs.declared.Table.TheVariants.{Input, Output, Item}
use Rattle.decoders.specs.declared.Entered.{Entered}
use Rattle.decoders.specs.declared.Settled.{Settled}
use Rattle.decoders.specs.Machine.{OPAQUE, BIG, State, settle, settle_by, opened, compact_settled, length_settled, first_settled, further_settled, body_ends, body_seen, body_opened, emptied, inputs_counted, outputs_counted, script_counted, pegin_counted, little_settled, big_settled, opaque_settled, value_part, asset_part, nonce_part, amount_next, keys_next, null_keys_next, asset_next, value_next, nonce_next, sequence_next, next_input, next_output, next_input_witness, next_output_witness, next_script_item, next_pegin_item, witnesses_end, locktime_next, worth, gather, next_stored, stored, enter_by, enter, Machine, machine, entering, step, fed}
use Rattle.decoders.specs.Range.{in_range}
use Rattle.decoders.proofs.Ranges.{valued, value_iff, range_open, gather_range, gather_ready}
use Rattle.decoders.proofs.Settles.{settle_range}

-- ---- what settling keeps, of every state: both sides of every test do

pub cond_same : {A : Type 0} (b : Bool) (a : A) → cond b a a ≡ a
cond_same true a = refl
cond_same false a = refl

pub cond_decoder : (b : Bool) (r r' : Settled) → (cond b r r').decoder ≡ cond b r.decoder r'.decoder
cond_decoder true r r' = refl
cond_decoder false r r' = refl

cond_taken : (b : Bool) (s s' : State) → (cond b s s').taken ≡ cond b s.taken s'.taken
cond_taken true s s' = refl
cond_taken false s s' = refl

cond_sizes : (b : Bool) (s s' : State) → (cond b s s').sizes ≡ cond b s.sizes s'.sizes
cond_sizes true s s' = refl
cond_sizes false s s' = refl

opened_taken : (place σ f w : ℕ) (s : State) → (opened place σ f w s).taken ≡ s.taken
unfolding opened
opened_taken place σ f w s = simp (cond_taken, cond_same)

ends_taken : (σ : ℕ) (s : State) → (body_ends σ s).taken ≡ s.taken
unfolding body_ends next_input next_output next_input_witness next_output_witness next_script_item next_pegin_item witnesses_end
ends_taken σ s = simp (cond_taken, opened_taken, cond_same)

compact_taken : (σ start n : ℕ) (s : State) → (compact_settled σ start n s).decoder.taken ≡ s.taken
unfolding compact_settled length_settled body_seen body_opened emptied inputs_counted outputs_counted script_counted pegin_counted next_input next_output next_input_witness next_output_witness next_script_item next_pegin_item witnesses_end
compact_taken σ start n s = simp (cond_decoder, cond_taken, opened_taken, ends_taken, cond_same)

pub settle_taken : (s : State) → (settle s).decoder.taken ≡ s.taken
unfolding settle_by first_settled further_settled little_settled big_settled opaque_settled value_part asset_part nonce_part amount_next keys_next null_keys_next asset_next value_next nonce_next sequence_next locktime_next next_input next_output next_input_witness next_output_witness next_script_item next_pegin_item witnesses_end
settle_taken s = simp (cond_decoder, cond_taken, opened_taken, ends_taken, compact_taken, cond_same)

opened_sizes : (place σ f w : ℕ) (s : State) → (opened place σ f w s).sizes ≡ s.sizes
unfolding opened
opened_sizes place σ f w s = simp (cond_sizes, cond_same)

ends_sizes : (σ : ℕ) (s : State) → (body_ends σ s).sizes ≡ s.sizes
unfolding body_ends next_input next_output next_input_witness next_output_witness next_script_item next_pegin_item witnesses_end
ends_sizes σ s = simp (cond_sizes, opened_sizes, cond_same)

compact_sizes : (σ start n : ℕ) (s : State) → (compact_settled σ start n s).decoder.sizes ≡ s.sizes
unfolding compact_settled length_settled body_seen body_opened emptied inputs_counted outputs_counted script_counted pegin_counted next_input next_output next_input_witness next_output_witness next_script_item next_pegin_item witnesses_end
compact_sizes σ start n s = simp (cond_decoder, cond_sizes, opened_sizes, ends_sizes, cond_same)

pub settle_sizes : (s : State) → (settle s).decoder.sizes ≡ s.sizes
unfolding settle_by first_settled further_settled little_settled big_settled opaque_settled value_part asset_part nonce_part amount_next keys_next null_keys_next asset_next value_next nonce_next sequence_next locktime_next next_input next_output next_input_witness next_output_witness next_script_item next_pegin_item witnesses_end
settle_sizes s = simp (cond_decoder, cond_sizes, opened_sizes, ends_sizes, compact_sizes, cond_same)

-- ---- and entering

pub record Lengths (t t' : Tables) : Type 0 where
  pub inputs : length t'.inputs ≡ length t.inputs
  pub outputs : length t'.outputs ≡ length t.outputs
  pub items : length t'.items ≡ length t.items

stored_length : (e : Entered) (xs : List ℕ) → length (stored e xs) ≡ length xs
stored_length e xs =
    elim e.next as (λ o. length (next_stored o (e.at + 1) (set xs e.at e.number)) ≡ length xs) [
      | None ↦ length-set xs e.at e.number
      | Some n ↦ length-set (set xs e.at e.number) (e.at + 1) n ∙ length-set xs e.at e.number
    ]

entered_lengths : (table : Table) (e : Entered) (t : Tables) → Lengths t (enter_by table e t)
entered_lengths Input e t = record { inputs = stored_length e t.inputs; outputs = refl; items = refl }
entered_lengths Output e t = record { inputs = refl; outputs = stored_length e t.outputs; items = refl }
entered_lengths Item e t = record { inputs = refl; outputs = refl; items = stored_length e t.items }

pub enter_lengths : (e : Option Entered) (t : Tables) → Lengths t (enter e t)
enter_lengths None t = record { inputs = refl; outputs = refl; items = refl }
enter_lengths (Some e) t = entered_lengths e.table e t

-- ---- a byte

cond_case : {A : Type 0} (P : A → Type 0) (b : Bool) (x y : A) → (b ≡ true → P x) → (b ≡ false → P y) → P (cond b x y)
cond_case P true x y f g = f refl
cond_case P false x y f g = g refl

-- what a step comes to: nothing, a settled field, or one more byte
pub step_case : (P : Machine → Type 0) (m : Machine) (b : ℕ) → P m → (m.state.field.stage ≤ 24 → m.state.field.have + 1 ≡ m.state.field.width → P (entering (settle (gather m.state b)) m.tables)) → (m.state.field.stage ≤ 24 → (m.state.field.have + 1 ≡ m.state.field.width → ⊥) → P (machine (gather m.state b) m.tables)) → P (step m b)
unfolding step
step_case P m b ended last more =
    cond_case P (leb 25 m.state.field.stage) _ _ (λ _. ended) λ e.
    let running : m.state.field.stage ≤ 24 = omega (arith, leb-false) in
    cond_case P (eqb (m.state.field.have + 1) m.state.field.width) _ _ (λ e'. last running (eqb-true _ _ e')) (λ e'. more running (eqb-false _ _ e'))

-- one more byte keeps the value below its bytes' bound
big_small : (v h b : ℕ) → b < 256 → v < 256 ^ h → v * 256 + b < 256 ^ (h + 1)
big_small v h b s l = rw add-one (omega (arith, pow-succ' 256 h))

little_small : (v h b : ℕ) → b < 256 → v < 256 ^ h → v + b * 256 ^ h < 256 ^ (h + 1)
little_small v h b s l = let most : b ≤ 255 = omega arith in rw add-one (omega (arith, pow-succ' 256 h, mul-le-mul_right (256 ^ h) most))

worth_small : (f v h b : ℕ) → b < 256 → valued f v h ≡ true → valued f (worth f v h b) (h + 1) ≡ true
unfolding worth
worth_small f v h b s =
    by_cases (eqb f OPAQUE)
    (λ e. rw e (λ q. q))
    (λ e. by_cases (eqb f BIG)
    (λ e'. rw (e, e') (λ q. lt-ltb _ _ (big_small v h b s (ltb-true v (256 ^ h) q))))
    (λ e'. rw (e, e') (λ q. lt-ltb _ _ (little_small v h b s (ltb-true v (256 ^ h) q)))))

pub step_range : (m : Machine) (b : ℕ) → b < 256 → in_range m.state ≡ true → in_range (step m b).state ≡ true
unfolding entering
step_range m b small e =
    step_case (λ (n : Machine). in_range n.state ≡ true) m b e
    (λ running last. settle_range (gather s b) (gather_ready s 1 v e running last (subst (λ (n : ℕ). valued f v n ≡ true) last (valid running))))
    (λ running more. let o = range_open s e running in gather_range s 1 v e running (omega arith) (valid running))
  where
    s : State
    s = m.state

    f : ℕ
    f = s.field.form

    v : ℕ
    v = worth f s.field.value s.field.have b

    valid : s.field.stage ≤ 24 → valued f v (s.field.have + 1) ≡ true
    valid running = worth_small f s.field.value s.field.have b small ((value_iff (eqb f OPAQUE) s.field.value (256 ^ s.field.have)).1 (range_open s e running).stands.value)

pub fed_range : (m : Machine) (xs : List ℕ) → Bytes xs → in_range m.state ≡ true → in_range (fed m xs).state ≡ true
unfolding fed
fed_range m [] q e = e
fed_range m (b ∷ bs) q e = fed_range (step m b) bs (λ i. q (suc i)) (step_range m b (q zero) e)

pub step_sizes : (m : Machine) (b : ℕ) → (step m b).state.sizes ≡ m.state.sizes
unfolding entering
step_sizes m b = step_case (λ (n : Machine). n.state.sizes ≡ m.state.sizes) m b refl (λ _ _. settle_sizes (gather m.state b)) (λ _ _. refl)

pub fed_sizes : (m : Machine) (xs : List ℕ) → (fed m xs).state.sizes ≡ m.state.sizes
unfolding fed
fed_sizes m [] = refl
fed_sizes m (b ∷ bs) = fed_sizes (step m b) bs ∙ step_sizes m b

pub step_lengths : (m : Machine) (b : ℕ) → Lengths m.tables (step m b).tables
unfolding entering
step_lengths m b =
    step_case (λ (n : Machine). Lengths m.tables n.tables) m b
    (record { inputs = refl; outputs = refl; items = refl })
    (λ _ _. enter_lengths (settle (gather m.state b)).entered m.tables)
    (λ _ _. record { inputs = refl; outputs = refl; items = refl })

pub fed_lengths : (m : Machine) (xs : List ℕ) → Lengths m.tables (fed m xs).tables
unfolding fed
fed_lengths m [] = record { inputs = refl; outputs = refl; items = refl }
fed_lengths m (b ∷ bs) = let l = fed_lengths (step m b) bs in let k = step_lengths m b in omega arith

-- a step takes a byte or none
pub record Takes (n : ℕ) (m m' : Machine) : Type 0 where
  pub least : m.state.taken ≤ m'.state.taken
  pub most : m'.state.taken ≤ m.state.taken + n

pub step_taken : (m : Machine) (b : ℕ) → Takes 1 m (step m b)
unfolding entering
step_taken m b = step_case (Takes 1 m) m b (omega arith) (λ _ _. omega (arith, settle_taken (gather m.state b))) (λ _ _. omega arith)

pub fed_taken : (m : Machine) (xs : List ℕ) → Takes (length xs) m (fed m xs)
unfolding fed
fed_taken m [] = omega arith
fed_taken m (b ∷ bs) = let t = fed_taken (step m b) bs in let u = step_taken m b in omega arith
