-- The machine's definitions at each test that the code makes: by which way it went, what is left.
use Prim.Native.Nat.{ℕ, ◌+◌, ◌-◌, ◌<◌, ◌≤◌}
use mathlib.Core.Path.{◌≡◌, refl, sym, ◌∙◌, ap, subst}
use mathlib.Core.Bool.{Bool, true, false, cond}
use native.Mathlib.Omega.{arith}
use lib.Dec.{leb, eqb}
use mir.Val.{bool_byte}
use borrow.Author.Tests.{le-leb, lt-leb, eq-eqb, ne_eqb, eqb-false, eqb-true, ltb-true, ltb-false, not-true, not-false}
use Rattle.layout.specs.Transaction.{limit, announced, least}
use Rattle.layout.proofs.Reading.{by_cases}
use Rattle.std.specs.Prelude.{None, Some}
use Rattle.confidential.specs.Width.{value_width, asset_width, nonce_width, listed}
use Rattle.decoders.specs.Machine.{FURTHER, FIRST, OPAQUE, LITTLE, BIG, State, field, with_field, set_index, set_inputs, set_outputs, set_left, set_null, set_empty, input_room, output_room, item_room, refuse, finished, opened, number, compact, opaque, further_input, settled, quiet, input1, input2, output2, high, low, next_input, next_output, next_input_witness, next_script_item, next_pegin_item, body_ends, emptied, body_entered, body_seen, body_opened, length_settled, inputs_counted, outputs_counted, script_counted, pegin_counted, compact_settled, first_settled, further_settled, value_part, asset_part, nonce_part, part, part_next, amount_next, null_keys_next, keys_next, asset_next, value_next, nonce_next, sequence_next, locktime_next, locktime_settled, little_settled, big_settled, opaque_settled, settle_by}
use Rattle.decoders.specs.Needs.{count_start, count_announces, count_long, count_settled}

true_not_false : true ≡ false → ⊥
true_not_false e = let z : ◌≡◌ {A = ℕ} 1 0 = ap (λ (x : Bool). cond x 1 0) e in omega (arith, z)

pub sequence_is : (s : State) → s.spot.issuance ≡ 1 → sequence_next s ≡ opaque 7 s
unfolding sequence_next
sequence_is s h = rw (eq-eqb s.spot.issuance 1 h)

pub sequence_not : (s : State) → (s.spot.issuance ≡ 1 → ⊥) → sequence_next s ≡ next_input (further_input s)
unfolding sequence_next
sequence_not s h = rw (ne_eqb s.spot.issuance 1 h)

pub null_keys_is : (s : State) → s.spot.null ≡ 1 → null_keys_next s ≡ refuse 6 (s.taken - 66) s
unfolding null_keys_next
null_keys_is s h = rw (eq-eqb s.spot.null 1 h)

pub null_keys_not : (s : State) → (s.spot.null ≡ 1 → ⊥) → null_keys_next s ≡ next_input (further_input s)
unfolding null_keys_next
null_keys_not s h = rw (ne_eqb s.spot.null 1 h)

pub keys_is : (s : State) → s.field.value ≡ 0 → keys_next s ≡ null_keys_next s
unfolding keys_next
keys_is s h = rw (eq-eqb s.field.value 0 h)

pub keys_not : (s : State) → (s.field.value ≡ 0 → ⊥) → keys_next s ≡ value_part s
unfolding keys_next
keys_not s h = rw (ne_eqb s.field.value 0 h)

-- a width in code: the one it is, or 0
told_width : (w n : ℕ) → listed w ≡ Some n → w ≡ n
told_width w n = by_cases (eqb w 0) (λ t. rw t (λ e. cc)) (λ t. rw t (λ e. cc))

told_none : (w : ℕ) → listed w ≡ None → w ≡ 0
told_none w = by_cases (eqb w 0) (λ t e. eqb-true w 0 t) (λ t. rw t (λ e. cc))

pub part_explicit : (w n : ℕ) (s : State) → listed w ≡ Some n → n ≡ 9 → part w s ≡ opened s.taken s.field.stage BIG 8 s
unfolding part
part_explicit w n s e h = rw (told_width w n e ∙ h)

pub part_commitment : (w n : ℕ) (s : State) → listed w ≡ Some n → n ≡ 33 → part w s ≡ opaque s.field.stage s
unfolding part
part_commitment w n s e h = rw (told_width w n e ∙ h)

pub part_other : (w n : ℕ) (s : State) → listed w ≡ Some n → (n ≡ 9 → ⊥) → (n ≡ 33 → ⊥) → part w s ≡ refuse 5 (s.taken - 1) s
unfolding part
part_other w n s e h h' = rw (told_width w n e, ne_eqb n 9 h, ne_eqb n 33 h')

pub part_unlisted : (w : ℕ) (s : State) → listed w ≡ None → part w s ≡ refuse 5 (s.taken - 1) s
unfolding part
part_unlisted w s e = rw (told_none w e)

pub part_null : (w stage form : ℕ) (s : State) → s.field.value ≡ 0 → part_next w stage form s ≡ opened s.taken stage form 1 s
unfolding part_next
part_null w stage form s h = rw (eq-eqb s.field.value 0 h)

pub part_some : (w stage form : ℕ) (s : State) → (s.field.value ≡ 0 → ⊥) → part_next w stage form s ≡ part w s
unfolding part_next
part_some w stage form s h = rw (ne_eqb s.field.value 0 h)

-- of each of the three; an asset's or nonce's width is never 9
pub value_part_lem : (s : State) → part (value_width s.field.value) s ≡ value_part s
unfolding part value_part
value_part_lem s = refl

not_nine : (null listed : Bool) → eqb (cond null 1 (cond listed 33 0)) 9 ≡ false
not_nine true _ = refl
not_nine false true = refl
not_nine false false = refl

asset_part_lem : (s : State) → part (asset_width s.field.value) s ≡ asset_part s
unfolding part asset_part
asset_part_lem s = rw (not_nine (eqb s.field.value 0) _)

nonce_part_lem : (s : State) → part (nonce_width s.field.value) s ≡ nonce_part s
unfolding part nonce_part
nonce_part_lem s = rw (not_nine (eqb s.field.value 0) _)

-- the three that call part_next are it, at their width and the field that follows
pub asset_next_lem : (s : State) → part_next (asset_width s.field.value) 13 LITTLE s ≡ asset_next s
unfolding part_next asset_next
asset_next_lem s = ap (cond (eqb s.field.value 0) (number 13 1 s)) (asset_part_lem s)

pub value_next_lem : (s : State) → part_next (value_width s.field.value) 14 LITTLE s ≡ value_next s
unfolding part_next value_next
value_next_lem s = ap (cond (eqb s.field.value 0) (number 14 1 s)) (value_part_lem s)

pub nonce_next_lem : (s : State) → part_next (nonce_width s.field.value) 15 FIRST s ≡ nonce_next s
unfolding part_next nonce_next
nonce_next_lem s = ap (cond (eqb s.field.value 0) (compact 15 s)) (nonce_part_lem s)

null_kept : (null : Bool) (w : ℕ) (s : State) → let t = set_null (bool_byte null) s in cond null (number 10 1 t) (part w t) ≡ cond null (number 10 1 (set_null 1 s)) (part w (set_null 0 s))
null_kept true w s = refl
null_kept false w s = refl

pub amount_next_lem : (n : ℕ) (s : State) → n ≡ bool_byte (eqb s.field.value 0) → part_next (value_width s.field.value) 10 LITTLE (set_null n s) ≡ amount_next s
unfolding part_next amount_next
amount_next_lem n s e = rw e (null_kept (eqb s.field.value 0) _ s ∙ ap (cond (eqb s.field.value 0) (number 10 1 (set_null 1 s))) (value_part_lem (set_null 0 s)))

pub emptied_is : (n : ℕ) (s : State) → n ≡ 0 → emptied n s ≡ s
unfolding emptied
emptied_is n s h = rw (eq-eqb (n) 0 h)

pub emptied_not : (n : ℕ) (s : State) → (n ≡ 0 → ⊥) → emptied n s ≡ set_empty 0 s
unfolding emptied
emptied_not n s h = rw (ne_eqb (n) 0 h)

pub body_opened_is : (stage n : ℕ) (s : State) → n ≡ 0 → body_opened stage n s ≡ body_ends stage s
unfolding body_opened
body_opened_is stage n s h = rw (eq-eqb (n) 0 h)

pub body_opened_not : (stage n : ℕ) (s : State) → (n ≡ 0 → ⊥) → body_opened stage n s ≡ with_field (field stage OPAQUE n 0 0) s
unfolding body_opened
body_opened_not stage n s h = rw (ne_eqb (n) 0 h)

pub body_opened_default : (stage n h v : ℕ) (s : State) → h ≡ 0 → v ≡ 0 → (n ≡ 0 → ⊥) → with_field (field stage OPAQUE n h v) s ≡ body_opened stage n s
body_opened_default stage n h v s eh ev some = (λ j. with_field (field stage OPAQUE n (eh j) (ev j)) s) ∙ sym (body_opened_not stage n s some)

pub locktime_plain : (s : State) → s.counts.flag ≡ 0 → locktime_next s ≡ finished s
unfolding locktime_next
locktime_plain s h = rw (eq-eqb s.counts.flag 0 h)

pub locktime_witnesses : (s : State) → (s.counts.flag ≡ 0 → ⊥) → s.counts.flag ≡ 1 → locktime_next s ≡ next_input_witness (set_empty 1 (set_index 0 s))
unfolding locktime_next
locktime_witnesses s h h' = rw (ne_eqb s.counts.flag 0 h, eq-eqb s.counts.flag 1 h')

pub locktime_refused : (s : State) → (s.counts.flag ≡ 0 → ⊥) → (s.counts.flag ≡ 1 → ⊥) → locktime_next s ≡ refuse 7 4 s
unfolding locktime_next
locktime_refused s h h' = rw (ne_eqb s.counts.flag 0 h, ne_eqb s.counts.flag 1 h')

pub inputs_fit : (start n : ℕ) (s : State) → n ≤ input_room s → inputs_counted start n s ≡ quiet (next_input (set_index 0 (set_inputs n s)))
unfolding inputs_counted
inputs_fit start n s h = rw (le-leb n (input_room s) h)

pub inputs_many : (start n : ℕ) (s : State) → input_room s < n → inputs_counted start n s ≡ quiet (refuse 4 start s)
unfolding inputs_counted
inputs_many start n s h = rw (lt-leb n (input_room s) h)

pub outputs_fit : (start n : ℕ) (s : State) → n ≤ output_room s → outputs_counted start n s ≡ quiet (next_output (set_index 0 (set_outputs n s)))
unfolding outputs_counted
outputs_fit start n s h = rw (le-leb n (output_room s) h)

pub outputs_many : (start n : ℕ) (s : State) → output_room s < n → outputs_counted start n s ≡ quiet (refuse 4 start s)
unfolding outputs_counted
outputs_many start n s h = rw (lt-leb n (output_room s) h)

pub script_fit : (start n : ℕ) (s : State) → n ≤ item_room s - s.counts.items → script_counted start n s ≡ settled (next_script_item (emptied n (set_left n s))) (input2 17 s.counts.items n s)
unfolding script_counted
script_fit start n s h = rw (le-leb n (item_room s - s.counts.items) h)

pub script_many : (start n : ℕ) (s : State) → item_room s - s.counts.items < n → script_counted start n s ≡ quiet (refuse 4 start s)
unfolding script_counted
script_many start n s h = rw (lt-leb n (item_room s - s.counts.items) h)

pub pegin_fit : (start n : ℕ) (s : State) → n ≤ item_room s - s.counts.items → pegin_counted start n s ≡ settled (next_pegin_item (emptied n (set_left n s))) (input1 19 n s)
unfolding pegin_counted
pegin_fit start n s h = rw (le-leb n (item_room s - s.counts.items) h)

pub pegin_many : (start n : ℕ) (s : State) → item_room s - s.counts.items < n → pegin_counted start n s ≡ quiet (refuse 4 start s)
unfolding pegin_counted
pegin_many start n s h = rw (lt-leb n (item_room s - s.counts.items) h)

pub length_fits : (stage start n : ℕ) (s : State) → s.taken ≤ limit → n ≤ 4000000 - s.taken → length_settled stage start n s ≡ settled (body_opened stage n (body_seen stage n s)) (body_entered stage n s)
unfolding length_settled
length_fits stage start n s h fits = let e : s.taken + n ≤ limit = omega arith in rw (le-leb (s.taken + n) limit e)

pub length_past : (stage start n : ℕ) (s : State) → s.taken ≤ limit → 4000000 - s.taken < n → length_settled stage start n s ≡ quiet (refuse 2 start s)
unfolding length_settled
length_past stage start n s h past = let e : limit < s.taken + n = omega arith in rw (lt-leb (s.taken + n) limit e)

pub first_itself : (s : State) → s.field.value ≤ 252 → first_settled s ≡ compact_settled s.field.stage (s.taken - 1) s.field.value s
unfolding first_settled
first_itself s h = rw (le-leb s.field.value 252 h)

pub first_announces : (s : State) → 252 < s.field.value → first_settled s ≡ quiet (opened (s.taken - 1) s.field.stage FURTHER (announced s.field.value) s)
unfolding first_settled
first_announces s h = rw (lt-leb s.field.value 252 h)

pub further_shortest : (s : State) → leb (least s.field.width) s.field.value ≡ true → further_settled s ≡ compact_settled s.field.stage (s.taken - s.field.width - 1) s.field.value s
unfolding further_settled
further_shortest s h = rw h

pub further_longer : (s : State) → leb (least s.field.width) s.field.value ≡ false → further_settled s ≡ quiet (refuse 3 (s.taken - s.field.width - 1) s)
unfolding further_settled
further_longer s h = rw h

pub little_by : (stage k : ℕ) (s : State) → stage ≡ k → little_settled stage s ≡ little_settled k s
little_by stage k s e = ap (λ (x : ℕ). little_settled x s) e

pub little_rest : (stage : ℕ) (s : State) → (stage ≡ 0 → ⊥) → (stage ≡ 1 → ⊥) → (stage ≡ 4 → ⊥) → (stage ≡ 6 → ⊥) → (stage ≡ 9 → ⊥) → (stage ≡ 10 → ⊥) → (stage ≡ 12 → ⊥) → (stage ≡ 13 → ⊥) → (stage ≡ 14 → ⊥) → little_settled stage s ≡ locktime_settled s
unfolding little_settled
little_rest stage s h0 h1 h4 h6 h9 h10 h12 h13 h14 = rw (ne_eqb stage 0 h0, ne_eqb stage 1 h1, ne_eqb stage 4 h4, ne_eqb stage 6 h6, ne_eqb stage 9 h9, ne_eqb stage 10 h10, ne_eqb stage 12 h12, ne_eqb stage 13 h13, ne_eqb stage 14 h14)

pub big_by : (stage k : ℕ) (s : State) → stage ≡ k → big_settled stage s ≡ big_settled k s
big_by stage k s e = ap (λ (x : ℕ). big_settled x s) e

pub big_rest : (stage : ℕ) (s : State) → (stage ≡ 9 → ⊥) → (stage ≡ 10 → ⊥) → big_settled stage s ≡ settled (number 14 1 s) (output2 4 (high s) (low s) s)
unfolding big_settled
big_rest stage s h9 h10 = rw (ne_eqb stage 9 h9, ne_eqb stage 10 h10)

pub opaque_by : (stage k : ℕ) (s : State) → stage ≡ k → opaque_settled stage s ≡ opaque_settled k s
opaque_by stage k s e = ap (λ (x : ℕ). opaque_settled x s) e

pub opaque_rest : (stage : ℕ) (s : State) → (stage ≡ 3 → ⊥) → (stage ≡ 7 → ⊥) → (stage ≡ 8 → ⊥) → (stage ≡ 9 → ⊥) → (stage ≡ 10 → ⊥) → (stage ≡ 12 → ⊥) → (stage ≡ 13 → ⊥) → (stage ≡ 14 → ⊥) → opaque_settled stage s ≡ quiet (body_ends stage s)
unfolding opaque_settled
opaque_rest stage s h3 h7 h8 h9 h10 h12 h13 h14 = rw (ne_eqb stage 3 h3, ne_eqb stage 7 h7, ne_eqb stage 8 h8, ne_eqb stage 9 h9, ne_eqb stage 10 h10, ne_eqb stage 12 h12, ne_eqb stage 13 h13, ne_eqb stage 14 h14)

pub form_by : (stage k : ℕ) (s : State) → stage ≡ k → settle_by stage s ≡ settle_by k s
form_by stage k s e = ap (λ (x : ℕ). settle_by x s) e

pub form_count : (form : ℕ) (s : State) → form ≤ 1 → settle_by form s ≡ count_settled form s
unfolding settle_by
form_count form s h =
    by_cases (eqb form 0)
    (λ e. rw e)
    (λ e. let z : form ≡ 0 → ⊥ = eqb-false form 0 e in let one : form ≡ 1 = omega (arith, z) in rw (e, eq-eqb form 1 one))

pub form_rest : (stage : ℕ) (s : State) → 1 < stage → (stage ≡ 2 → ⊥) → (stage ≡ 3 → ⊥) → settle_by stage s ≡ big_settled s.field.stage s
unfolding settle_by
form_rest stage s h h2 h3 =
    let h0 : stage ≡ 0 → ⊥ = λ z. omega (arith, z) in
    let h1 : stage ≡ 1 → ⊥ = λ z. omega (arith, z) in
    rw (ne_eqb stage 0 h0, ne_eqb stage 1 h1, ne_eqb stage 2 h2, ne_eqb stage 3 h3)

pub start_further : (form width taken a b : ℕ) → form ≡ 0 → a ≡ taken - width → b ≡ a - 1 → b ≡ count_start form width taken
start_further form width taken a b z e f = subst (λ (x : ℕ). x ≡ count_start form width taken) (sym (f ∙ ap (λ (y : ℕ). y - 1) e)) (rw (eq-eqb form 0 z))

-- a count or length, by what is known of it
pub count_announces_lem : (form : ℕ) (s : State) → count_announces form s.field.value ≡ true → count_settled form s ≡ quiet (opened (count_start form s.field.width s.taken) s.field.stage FURTHER (announced s.field.value) s)
count_announces_lem form s h =
    by_cases (eqb form 0)
    (λ e. absurd (true_not_false (sym (rw e at h))))
    (λ e. let l : 252 < s.field.value = ltb-true 252 s.field.value (rw e at h) in rw (e, first_announces s l))

pub count_long_lem : (form : ℕ) (s : State) → count_long form s.field.width s.field.value ≡ true → count_settled form s ≡ quiet (refuse 3 (count_start form s.field.width s.taken) s)
count_long_lem form s h =
    by_cases (eqb form 0)
    (λ e. let l : leb (least s.field.width) s.field.value ≡ false = not-true _ (rw e at h) in rw (e, further_longer s l))
    (λ e. absurd (true_not_false (sym (rw e at h))))

pub count_known : (form : ℕ) (s : State) → count_announces form s.field.value ≡ false → count_long form s.field.width s.field.value ≡ false → count_settled form s ≡ compact_settled s.field.stage (count_start form s.field.width s.taken) s.field.value s
count_known form s a b =
    by_cases (eqb form 0)
    (λ e. let l : leb (least s.field.width) s.field.value ≡ true = not-false _ (rw e at b) in rw (e, further_shortest s l))
    (λ e. let l : s.field.value ≤ 252 = ltb-false 252 s.field.value (rw e at a) in rw (e, first_itself s l))

pub compact_by : (stage k : ℕ) (start n : ℕ) (s : State) → stage ≡ k → compact_settled stage start n s ≡ compact_settled k start n s
compact_by stage k start n s e = ap (λ (x : ℕ). compact_settled x start n s) e

pub compact_rest : (stage : ℕ) (start n : ℕ) (s : State) → (stage ≡ 2 → ⊥) → (stage ≡ 11 → ⊥) → (stage ≡ 19 → ⊥) → (stage ≡ 21 → ⊥) → compact_settled stage start n s ≡ length_settled stage start n s
unfolding compact_settled
compact_rest stage start n s h2 h11 h19 h21 = rw (ne_eqb stage 2 h2, ne_eqb stage 11 h11, ne_eqb stage 19 h19, ne_eqb stage 21 h21)

pub seen_early : (stage n : ℕ) (s : State) → 17 ≤ stage → stage < 19 → emptied n s ≡ body_seen stage n s
unfolding body_seen
seen_early stage n s l h =
    by_cases (eqb stage 17)
    (λ e. rw e)
    (λ e. let z : stage ≡ 17 → ⊥ = eqb-false stage 17 e in let k : stage ≡ 18 = omega (arith, z) in rw (e, eq-eqb stage 18 k))

pub seen_late : (stage n : ℕ) (s : State) → 23 ≤ stage → stage < 25 → emptied n s ≡ body_seen stage n s
unfolding body_seen
seen_late stage n s l h =
    let a : stage ≡ 17 → ⊥ = λ q. omega (arith, q) in
    let b : stage ≡ 18 → ⊥ = λ q. omega (arith, q) in
    by_cases (eqb stage 23)
    (λ e. rw (ne_eqb stage 17 a, ne_eqb stage 18 b, e))
    (λ e. let z : stage ≡ 23 → ⊥ = eqb-false stage 23 e in let k : stage ≡ 24 = omega (arith, z) in rw (ne_eqb stage 17 a, ne_eqb stage 18 b, e, eq-eqb stage 24 k))

pub seen_rest : (stage : ℕ) (n : ℕ) (s : State) → (stage ≡ 17 → ⊥) → (stage ≡ 18 → ⊥) → (stage ≡ 23 → ⊥) → (stage ≡ 24 → ⊥) → s ≡ body_seen stage n s
unfolding body_seen
seen_rest stage n s h17 h18 h23 h24 = rw (ne_eqb stage 17 h17, ne_eqb stage 18 h18, ne_eqb stage 23 h23, ne_eqb stage 24 h24)

pub entered_by : (stage k : ℕ) (n : ℕ) (s : State) → stage ≡ k → body_entered stage n s ≡ body_entered k n s
entered_by stage k n s e = ap (λ (x : ℕ). body_entered x n s) e

pub entered_rest : (stage : ℕ) (n : ℕ) (s : State) → (stage ≡ 5 → ⊥) → (stage ≡ 15 → ⊥) → (stage ≡ 17 → ⊥) → (stage ≡ 18 → ⊥) → (stage ≡ 20 → ⊥) → (stage ≡ 22 → ⊥) → (stage ≡ 23 → ⊥) → body_entered stage n s ≡ output2 12 s.taken n s
unfolding body_entered
entered_rest stage n s h5 h15 h17 h18 h20 h22 h23 = rw (ne_eqb stage 5 h5, ne_eqb stage 15 h15, ne_eqb stage 17 h17, ne_eqb stage 18 h18, ne_eqb stage 20 h20, ne_eqb stage 22 h22, ne_eqb stage 23 h23)
