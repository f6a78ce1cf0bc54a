-- Settling a whole field keeps the range, and what it enters fits its table: one law for each stage and form.
use Prim.Native.Nat.{ℕ, suc, ◌-◌, ◌^◌, ◌<◌, ◌≤◌}
use mathlib.Core.Path.{◌≡◌, refl, ap, subst}
use mathlib.Core.Bool.{cond, Bool, true, false, ◌||◌}
use native.Mathlib.Nat.{lt_of_lt_of_le, pow-le-pow_right}
use native.Mathlib.Omega.{arith}
use lib.Dec.{leb, eqb, lit<, lit≤}
use borrow.Author.Tests.{leb-true, eqb-true}
use Rattle.layout.specs.Transaction.{announced, least, vout, flags, flag_bit, all_ones}
use Rattle.layout.proofs.Reading.{by_cases}
use Rattle.decoders.specs.declared.Field.{Field}
use Rattle.decoders.specs.declared.Sizes.{Sizes}
use Rattle.decoders.specs.declared.Counts.{Counts}
use Rattle.decoders.specs.declared.Spot.{Spot}
use Rattle.decoders.specs.Needs.{Enterable}
use Rattle.decoders.specs.Stages.{LOCKTIME}
use Rattle.decoders.specs.Machine as m
use Rattle.confidential.specs.Width.{value_width, asset_width, nonce_width}
use Rattle.decoders.specs.Machine.{FURTHER, FIRST, OPAQUE, LITTLE, BIG, State, settle, settle_by, first_settled, further_settled, little_settled, big_settled, opaque_settled, value_part, asset_part, nonce_part, amount_next, keys_next, null_keys_next, asset_next, value_next, nonce_next, sequence_next, locktime_next}
use Rattle.decoders.specs.Range.{is_hidden, least_forms, greatest_forms, least_width, greatest_width, own_bytes, in_range}
use Rattle.decoders.proofs.Rows.{kind_at, stacked, dark_at}
use Rattle.decoders.proofs.Simulation.{st}
use Rattle.decoders.proofs.Ranges.{From, from, ◌then◌, Numbers, Few, Stands, Ready, finished_range}
use Rattle.decoders.proofs.Openings.{Ranged, Good, good, silent, tests, cond_ranged, cond_good, refused, Opens, opens, size_some, size_few, size_further, Behind, next_input_lem, next_input_witness_lem, Counted, inputs_counted_lem, outputs_counted_lem, script_counted_lem, pegin_counted_lem, Body, body_counted, input_script, output_script, amount_proof_lem, keys_proof_lem, script_item, pegin_item, surjection_proof_lem, range_proof_lem}

-- ---- a stage and a form at which a whole field settles well

abbrev At : ℕ → ℕ → Type 0
At σ f = (w h v t : ℕ) (z : Sizes) (c : Counts) (p : Spot) → h ≡ w → Stands σ f (st σ f w h v t z c p) → Good z (settle (st σ f w h v t z c p))

announced_some : (first : ℕ) → (2 ≤ announced first) × (announced first ≤ 8) × ((eqb (announced first) 2 || eqb (announced first) 4 || eqb (announced first) 8) ≡ true)
announced_some first =
    by_cases (eqb first 253) (λ e. rw e (omega arith, omega arith, refl)) λ e.
    by_cases (eqb first 254) (λ e'. rw (e, e') (omega arith, omega arith, refl)) (λ e'. rw (e, e') (omega arith, omega arith, refl))

-- what is known of the numbers that outlast a field does not go by the field, but for `empty`
likewise : {σ f g : ℕ} {s : State} (h : Field) → Numbers σ f s → s.spot.empty ≤ dark_at σ g → Numbers σ g (m.with_field h s)
likewise h k e = record { taken = k.taken; version = k.version; no_version = k.no_version; flagged = k.flagged; flag = k.flag; inputs = k.inputs; no_inputs = k.no_inputs; outputs = k.outputs; no_outputs = k.no_outputs; no_items = k.no_items; locktime = k.locktime; no_locktime = k.no_locktime; index = k.index; some_left = k.some_left; items = k.items; fewer = k.fewer; issued = k.issued; issuance = k.issuance; null = k.null; empty = e }

few_likewise : {σ : ℕ} {s : State} (h : Field) → Few σ s → Few σ (m.with_field h s)
few_likewise h k = record { inputs = k.inputs; outputs = k.outputs; input_witnesses = k.input_witnesses; index = k.index; items = k.items; unlit = k.unlit; stacks = k.stacks }

module _ (σ : ℕ) (running : σ ≤ 24) (further : least_forms (kind_at σ) ≡ 0) (deep : is_hidden (kind_at σ) ≡ false) (late : (start : ℕ) (s : State) → Behind σ start s → 5 ≤ start) (counted : Counted σ) where
  first_at : At σ FIRST
  unfolding settle_by first_settled least_width greatest_width own_bytes
  first_at w h v t z c p e r =
      let s = st σ FIRST w h v t z c p in
      let one : h ≡ 1 = omega (arith, e, r.wide, r.narrow) in
      let b : Behind σ (t - 1) s = record { numbers = r.numbers; few = r.few; least = omega (arith, one, r.least); lit = omega (arith, one, r.lit); exact = omega (arith, one, r.exact); seen = r.seen } in
      let a = announced_some v in
      cond_good (leb v 252)
      (λ q. counted (t - 1) v s (omega (arith, late (t - 1) s b, size_few v (leb-true v 252 q))) b)
      (λ _. silent (opens (t - 1) σ FURTHER (announced v) s
      (record {
        stage = running;
        some = omega (arith, a.0);
        narrow = omega (arith, a.1);
        near = omega arith;
        far = omega arith;
        limited = r.numbers.taken;
        stands = λ room. record { numbers = likewise (m.field σ FURTHER (announced v) 0 0) r.numbers r.numbers.empty; above = omega (arith, further); below = omega (arith, r.below); wide = a.0; narrow = a.1; further = a.2; value = omega arith; few = few_likewise (m.field σ FURTHER (announced v) 0 0) r.few; least = rw deep (omega (arith, one, r.least)); lit = rw deep (omega (arith, one, r.lit)); exact = rw deep (omega (arith, one, r.exact)); room = omega (arith, room); seen = r.seen };
      })))

  further_at_lem : At σ FURTHER
  unfolding settle_by further_settled least_width greatest_width own_bytes
  further_at_lem w h v t z c p e r =
      let s = st σ FURTHER w h v t z c p in
      let ls = rw deep at r.least in
      let lt = rw deep at r.lit in
      let ex = rw deep at r.exact in
      let b : Behind σ (t - w - 1) s = record { numbers = likewise s.field r.numbers r.numbers.empty; few = r.few; least = omega (arith, e, ls); lit = omega (arith, e, lt); exact = omega (arith, e, ex); seen = r.seen } in
      cond_good (leb (least w) v)
      (λ q. counted (t - w - 1) v s (omega (arith, late (t - w - 1) s b, size_further w v r.further (leb-true (least w) v q) (subst (λ (k : ℕ). v < 256 ^ k) e r.value))) b)
      (λ q. silent (refused 3 (t - w - 1) s (omega (arith, e, ls, r.wide, r.narrow, late (t - w - 1) s b, r.numbers.taken))))

dark_most : (σ : ℕ) → dark_at σ FIRST ≤ 1
dark_most σ = by_cases (stacked σ) (λ e. rw e (omega arith)) (λ e. by_cases (leb σ LOCKTIME) (λ e'. rw (e, e') (omega arith)) (λ e'. rw (e, e') (omega arith)))

-- the body's own bytes
module _ (σ : ℕ) (b : Body σ) where
  body_at_lem : At σ OPAQUE
  unfolding settle_by least_width own_bytes
  body_at_lem w h v t z c p e r =
      let s = st σ OPAQUE w h v t z c p in
      let some : 1 ≤ w = rw b.kind at r.wide in
      let ls = rw b.kind at r.least in
      rw (b.whole s) (silent (b.ends s (record { numbers = likewise s.field r.numbers (omega (arith, r.numbers.empty)); few = r.few; least = omega (arith, e, some, ls, size_some w); lit = omega (arith, e, some, ls, size_some w, dark_most σ) })))

-- ---- numbers, values, assets and nonces

below : (v w k : ℕ) → v < 256 ^ w → w ≤ k → v < 256 ^ k
below v w k h l = lt_of_lt_of_le h (pow-le-pow_right (lit< tt) l)

vout_small : (raw : ℕ) → raw < 2 ^ 32 → vout raw < 2 ^ 32
unfolding vout all_ones
vout_small raw h = by_cases (eqb raw 0xffff_ffff) (λ t. rw t h) (λ t. rw t (omega arith))

bit_small : (n raw : ℕ) → flag_bit n raw < 2
unfolding flag_bit all_ones
bit_small n raw = by_cases (eqb raw 0xffff_ffff) (λ t. rw t (omega arith)) (λ t. rw t (omega arith))

flags_small : (raw : ℕ) → flags raw < 4
unfolding flags
flags_small raw = omega (arith, bit_small 30 raw, bit_small 31 raw)

value_part_lem : (s : State) → 8 ≤ s.taken → Opens s.taken s.field.stage BIG 8 s → Opens s.taken s.field.stage OPAQUE 32 s → Ranged (value_part s)
unfolding value_part
value_part_lem s late big hidden =
    cond_ranged (eqb (value_width s.field.value) 9) (λ _. opens s.taken s.field.stage BIG 8 s big) λ _.
    cond_ranged (eqb (value_width s.field.value) 33) (λ _. opens s.taken s.field.stage OPAQUE 32 s hidden) λ _.
    refused 5 (s.taken - 1) s (omega (arith, late, big.limited))

-- an asset's or nonce's part, by whatever test its prefix is listed
part_ranged : (test : Bool) (s : State) → 8 ≤ s.taken → Opens s.taken s.field.stage OPAQUE 32 s → Ranged (cond test (m.opaque s.field.stage s) (m.refuse 5 (s.taken - 1) s))
part_ranged test s late hidden = cond_ranged test (λ _. opens s.taken s.field.stage OPAQUE 32 s hidden) λ _. refused 5 (s.taken - 1) s (omega (arith, late, hidden.limited))

module _ (w h v t : ℕ) (z : Sizes) (c : Counts) (p : Spot) (e : h ≡ w) where
  abbrev there : ℕ → ℕ → State
  there σ f = st σ f w h v t z c p

  abbrev Settling : ℕ → ℕ → Type 0
  Settling σ f = Stands σ f (there σ f) → Good z (settle (there σ f))

  version_at : Settling 0 LITTLE
  unfolding settle_by little_settled least_width greatest_width own_bytes
  version_at r = let small = below v h 4 r.value (omega arith) in silent (opens t 1 LITTLE 1 (m.set_version v (there 0 LITTLE)) (omega arith))

  flag_at : Settling 1 LITTLE
  unfolding settle_by little_settled least_width greatest_width own_bytes
  flag_at r = let small = below v h 1 r.value (omega arith) in silent (opens t 2 FIRST 1 (m.set_flag v (there 1 LITTLE)) (omega arith))

  txid_at : Settling 3 OPAQUE
  unfolding settle_by opaque_settled least_width greatest_width own_bytes
  txid_at r = good (opens t 4 LITTLE 4 (there 3 OPAQUE) (omega arith)) (omega arith)

  vout_at : Settling 4 LITTLE
  unfolding settle_by little_settled least_width greatest_width own_bytes
  vout_at r =
      let small = below v h 4 r.value (omega arith) in
      let bit = bit_small 31 v in
      let number = vout_small v small in
      let both = flags_small v in
      good (opens t 5 FIRST 1 (m.set_issuance (flag_bit 31 v) (there 4 LITTLE)) (omega arith)) (omega arith)

  sequence_at : Settling 6 LITTLE
  unfolding settle_by little_settled sequence_next least_width greatest_width own_bytes
  sequence_at r =
      let small = below v h 4 r.value (omega arith) in
      good
      (cond_ranged (eqb p.issuance 1)
      (λ q. opens t 7 OPAQUE 32 (there 6 LITTLE) (omega tests))
      (λ _. next_input_lem (m.further_input (there 6 LITTLE)) (omega arith)))
      (omega arith)

  nonce_at : Settling 7 OPAQUE
  unfolding settle_by opaque_settled least_width greatest_width own_bytes
  nonce_at r = good (opens t 8 OPAQUE 32 (there 7 OPAQUE) (omega arith)) (omega arith)

  entropy_at : Settling 8 OPAQUE
  unfolding settle_by opaque_settled least_width greatest_width own_bytes
  entropy_at r = silent (opens t 9 LITTLE 1 (there 8 OPAQUE) (omega arith))

  amount_at_lem : Settling 9 LITTLE
  unfolding settle_by little_settled amount_next least_width greatest_width own_bytes
  amount_at_lem r =
      let i = size_some c.inputs in let o = size_some c.outputs in
      let small = below v h 1 r.value (omega arith) in
      good
      (cond_ranged (eqb v 0)
      (λ _. opens t 10 LITTLE 1 (m.set_null 1 (there 9 LITTLE)) (omega arith))
      (λ _. value_part_lem (m.set_null 0 (there 9 LITTLE)) (omega arith) (omega arith) (omega arith)))
      (omega arith)

  amount_number_at : Settling 9 BIG
  unfolding settle_by big_settled least_width greatest_width own_bytes
  amount_number_at r =
      let small = below v h 8 r.value (omega arith) in
      good (opens t 10 LITTLE 1 (there 9 BIG) (omega arith)) (omega arith)

  amount_part_at : Settling 9 OPAQUE
  unfolding settle_by opaque_settled least_width greatest_width own_bytes
  amount_part_at r = silent (opens t 10 LITTLE 1 (there 9 OPAQUE) (omega arith))

  keys_at : Settling 10 LITTLE
  unfolding settle_by little_settled keys_next null_keys_next least_width greatest_width own_bytes
  keys_at r =
      let i = size_some c.inputs in let o = size_some c.outputs in
      let small = below v h 1 r.value (omega arith) in
      good
      (cond_ranged (eqb v 0)
      (λ _. cond_ranged (eqb p.null 1)
      (λ _. refused 6 (t - 66) (there 10 LITTLE) (omega arith))
      (λ _. next_input_lem (m.further_input (there 10 LITTLE)) (omega arith)))
      (λ _. value_part_lem (there 10 LITTLE) (omega arith) (omega arith) (omega arith)))
      (omega arith)

  keys_number_at : Settling 10 BIG
  unfolding settle_by big_settled least_width greatest_width own_bytes
  keys_number_at r =
      let small = below v h 8 r.value (omega arith) in
      good (next_input_lem (m.further_input (there 10 BIG)) (omega arith)) (omega arith)

  keys_part_at : Settling 10 OPAQUE
  unfolding settle_by opaque_settled least_width greatest_width own_bytes
  keys_part_at r = silent (next_input_lem (m.further_input (there 10 OPAQUE)) (omega arith))

  asset_at_lem : Settling 12 LITTLE
  unfolding settle_by little_settled asset_next asset_part least_width greatest_width own_bytes
  asset_at_lem r =
      let i = size_some c.inputs in let o = size_some c.outputs in
      let small = below v h 1 r.value (omega arith) in
      good
      (cond_ranged (eqb v 0)
      (λ _. opens t 13 LITTLE 1 (there 12 LITTLE) (omega arith))
      (λ _. part_ranged (eqb (asset_width v) 33) (there 12 LITTLE) (omega arith) (omega arith)))
      (omega arith)

  asset_part_at : Settling 12 OPAQUE
  unfolding settle_by opaque_settled least_width greatest_width own_bytes
  asset_part_at r = silent (opens t 13 LITTLE 1 (there 12 OPAQUE) (omega arith))

  value_at_lem : Settling 13 LITTLE
  unfolding settle_by little_settled value_next least_width greatest_width own_bytes
  value_at_lem r =
      let i = size_some c.inputs in let o = size_some c.outputs in
      let small = below v h 1 r.value (omega arith) in
      good
      (cond_ranged (eqb v 0)
      (λ _. opens t 14 LITTLE 1 (there 13 LITTLE) (omega arith))
      (λ _. value_part_lem (there 13 LITTLE) (omega arith) (omega arith) (omega arith)))
      (omega arith)

  value_number_at : Settling 13 BIG
  unfolding settle_by big_settled least_width greatest_width own_bytes
  value_number_at r =
      let small = below v h 8 r.value (omega arith) in
      good (opens t 14 LITTLE 1 (there 13 BIG) (omega arith)) (omega arith)

  value_part_at : Settling 13 OPAQUE
  unfolding settle_by opaque_settled least_width greatest_width own_bytes
  value_part_at r = silent (opens t 14 LITTLE 1 (there 13 OPAQUE) (omega arith))

  output_nonce_at : Settling 14 LITTLE
  unfolding settle_by little_settled nonce_next nonce_part least_width greatest_width own_bytes
  output_nonce_at r =
      let i = size_some c.inputs in let o = size_some c.outputs in
      let small = below v h 1 r.value (omega arith) in
      good
      (cond_ranged (eqb v 0)
      (λ _. opens t 15 FIRST 1 (there 14 LITTLE) (omega arith))
      (λ _. part_ranged (eqb (nonce_width v) 33) (there 14 LITTLE) (omega arith) (omega arith)))
      (omega arith)

  output_nonce_part_at : Settling 14 OPAQUE
  unfolding settle_by opaque_settled least_width greatest_width own_bytes
  output_nonce_part_at r = silent (opens t 15 FIRST 1 (there 14 OPAQUE) (omega arith))

  locktime_at : Settling 16 LITTLE
  unfolding settle_by little_settled locktime_next least_width greatest_width own_bytes
  locktime_at r =
      let small = below v h 4 r.value (omega arith) in
      let s = m.set_locktime v (there 16 LITTLE) in
      let i = size_some c.inputs in let o = size_some c.outputs in
      silent
      (cond_ranged (eqb c.flag 0)
      (λ q. let zero : c.flag ≡ 0 = eqb-true c.flag 0 q in
      record { range = finished_range (m.finished s) refl (record { form = refl; width = refl; have = refl; value = refl; taken = omega arith; version = omega arith; flag = omega arith; inputs = omega arith; few_inputs = omega arith; outputs = omega arith; few_outputs = omega arith; items = omega arith; few_items = omega arith; locktime = omega arith; index = refl; left = refl; issuance = refl; null = refl; empty = refl; least = omega arith; exact = omega arith; witnessed = rw zero (omega arith) }) })
      λ _.
      cond_ranged (eqb c.flag 1) (λ q. next_input_witness_lem (m.set_empty 1 (m.set_index 0 s)) (omega tests)) λ _.
      refused 7 4 s (omega arith))

-- ---- by stage and form

abbrev Forms : ℕ → Type 0
Forms σ = From (At σ) (least_forms (kind_at σ)) (suc (greatest_forms (kind_at σ)) - least_forms (kind_at σ))

counted_forms : (σ : ℕ) → σ ≤ 24 → least_forms (kind_at σ) ≡ 0 → is_hidden (kind_at σ) ≡ false → ((start : ℕ) (s : State) → Behind σ start s → 5 ≤ start) → Counted σ → From (At σ) 0 2
counted_forms σ h e d l k = further_at_lem σ h e d l k then first_at σ h e d l k then tt

body_forms : (σ : ℕ) → Body σ → From (At σ) 0 3
body_forms σ b =
    let e = ap least_forms b.kind in
    let d = ap is_hidden b.kind in
    let l : (start : ℕ) (s : State) → Behind σ start s → 5 ≤ start = λ start s r. omega (arith, b.late start s r) in
    further_at_lem σ b.stage e d l (body_counted σ b) then first_at σ b.stage e d l (body_counted σ b) then body_at_lem σ b then tt

stages : From Forms 0 25
stages =
    (version_at then tt)
    then (flag_at then tt)
    then counted_forms 2 (lit≤ tt) refl refl (λ start s r. omega arith) inputs_counted_lem
    then (txid_at then tt)
    then (vout_at then tt)
    then body_forms 5 input_script
    then (sequence_at then tt)
    then (nonce_at then tt)
    then (entropy_at then tt)
    then (amount_part_at then amount_at_lem then amount_number_at then tt)
    then (keys_part_at then keys_at then keys_number_at then tt)
    then counted_forms 11 (lit≤ tt) refl refl (λ start s r. omega arith) outputs_counted_lem
    then (asset_part_at then asset_at_lem then tt)
    then (value_part_at then value_at_lem then value_number_at then tt)
    then (output_nonce_part_at then output_nonce_at then tt)
    then body_forms 15 output_script
    then (locktime_at then tt)
    then body_forms 17 amount_proof_lem
    then body_forms 18 keys_proof_lem
    then counted_forms 19 (lit≤ tt) refl refl (λ start s r. omega arith) script_counted_lem
    then body_forms 20 script_item
    then counted_forms 21 (lit≤ tt) refl refl (λ start s r. omega arith) pegin_counted_lem
    then body_forms 22 pegin_item
    then body_forms 23 surjection_proof_lem
    then body_forms 24 range_proof_lem
    then tt

settle_good : (s : State) → Ready s → Good s.sizes (settle s)
settle_good s r =
    let σ = s.field.stage in
    let lo = least_forms (kind_at σ) in
    let hi = greatest_forms (kind_at σ) in
    from (At σ) lo (suc hi - lo) s.field.form r.stands.above (omega (arith, r.stands.above, r.stands.below))
    (from Forms 0 25 σ (omega arith) (omega (arith, r.stage)) stages)
    s.field.width s.field.have s.field.value s.taken s.sizes s.counts s.spot r.have r.stands

pub settle_range : (s : State) → Ready s → in_range (settle s).decoder ≡ true
settle_range s r = (settle_good s r).ranged.range

pub settle_fits : (s : State) → Ready s → Enterable (settle s).entered s.sizes
settle_fits s r = (settle_good s r).fits
