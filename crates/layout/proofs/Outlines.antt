-- Demand 3's bearing bytes from the contents, so that nobody has to believe `hides`.
--     bearing_exactly   two allowed transactions agree at the bearing bytes exactly if they have one outline
--     bearing_behind    and so with anything behind them
--     blind_starts      what starts as one outline is read alike, after each byte, of whatever length
--     blind_outline     so with whole transactions, and anything behind them
use Prim.Native.Nat.{ℕ, zero, suc, ◌+◌, ◌*◌, ◌^◌, ◌<◌, min}
use mathlib.Core.Path.{◌≡◌, refl, sym, ◌∙◌, ap, ap₂, subst}
use mathlib.Core.Bool.{Bool, true, false, cond}
use mathlib.Core.List.{List, [], ◌∷◌, ◌++◌, map, append-nil}
use mathlib.Core.Option
use mathlib.Core.Option.{Option, none, some}
use mathlib.Core.Logic.{◌↔◌}
use native.Mathlib.Omega.{arith}
use lib.Dec.{leb, ltb, eqb}
use lib.ListN.{length, take, drop, get_or, length-append, length-take, length-drop, length-map, length-replicate, take-append-drop}
use lib.Seq.{length-take-le, take_at}
use borrow.Author.Tests.{le-leb, ltb-true, ltb-false}
use Rattle.layout.specs.Number.{little, bytes_of}
use Rattle.layout.specs.Layout.{Entry, input, Answer, more, Reading}
use Rattle.layout.specs.Transaction.{Head, Room, entry, transaction}
use Rattle.layout.specs.Outcome.{Tables, Sizes, Outcome, room_of, reading_of, partial, at_once, strict, Bearing, Agree}
use Rattle.layout.specs.Contents.{Value, null, explicit, commitment, Token, absent, present, Issuance, Input, Output, InputWitness, OutputWitness, Witnesses, Contents, compact_bytes, flat, body_bytes, list_bytes, value_bytes, token_bytes, issuance_bytes, raw_vout, input_bytes, output_bytes, input_witness_bytes, output_witness_bytes, flag_of, contents_bytes, Allowed}
use Rattle.layout.specs.Records.{items_of, sum, item_count, head_of, tables_of, Fits}
use Rattle.layout.specs.Writing.{body, value_of, token_of, issuance_of, input_of, output_of, item_of, input_witness_of, output_witness_of, input_records, output_records, item_records, witnesses_of, contents_of, issues, value_width, ◌!◌}
use Rattle.layout.specs.Beginnings.{Starts}
use Rattle.layout.specs.Outline.{outline_by, blank, token_outline, value_outline, issuance_outline, input_outline, output_outline, input_witness_outline, output_witness_outline, witnesses_outline, outline}
use Rattle.layout.proofs.Trace.{Event, shown, hidden, enters, looked, passed, entering, trace, looks, looks_taken, up_to, trace_cut, First, goes_first, bears_taken, agree_first, agree_longer}
use Rattle.layout.proofs.Codes.{events_all}
use Rattle.layout.proofs.Parts.{body_events, value_events, token_events, amount_note, amount_halves, keys_note, keys_halves, issued_events, script_note, input_events, out_note, output_events, item_note, item_events, stack_events, in_note, pegin_note, input_witness_events, output_witness_events}
use Rattle.layout.proofs.Whole.{input_witnesses_events, tail_events, whole_events, goes, traced}
use Rattle.layout.proofs.Reading.{by_cases, told, by_bytes, taken_there}
use Rattle.layout.proofs.Limits.{starts_sooner}
use Rattle.layout.proofs.Theorems.{blind, stable, takes_all, blind_partial, blind_at_once, blind_strict}
use Rattle.layout.proofs.RoundTrips.{Begins, formed, accepted, shows, finished_same}

-- ---- a transaction and its outline are met as the same

module _ (f : ℕ) where
  long_blank : (xs : List ℕ) → length (blank f xs) ≡ length xs
  long_blank xs = length-replicate (length xs) f

  passed_blank : (xs : List ℕ) → passed (blank f xs) ≡ passed xs
  passed_blank [] = refl
  passed_blank (x ∷ xs) = ap (λ (es : List Event). hidden ∷ es) (passed_blank xs)

  long_body : (xs : List ℕ) → length (body_bytes (blank f xs)) ≡ length (body_bytes xs)
  unfolding body_bytes
  long_body xs = simp (length-append, long_blank)

  long_value : (v : Value) → length (value_bytes (value_outline f v)) ≡ length (value_bytes v)
  unfolding value_bytes
  long_value null = refl
  long_value (explicit v) = refl
  long_value (commitment p part) = ap suc (long_blank part)

  long_token : (t : Token) → length (token_bytes (token_outline f t)) ≡ length (token_bytes t)
  unfolding token_bytes
  long_token absent = refl
  long_token (present p part) = ap suc (long_blank part)

  long_issued : (o : Option Issuance) → length (issuance_bytes (Option.map (issuance_outline f) o)) ≡ length (issuance_bytes o)
  unfolding issuance_bytes
  long_issued none = refl
  long_issued (some x) = simp (length-append, long_blank, long_value)

  long_input : (x : Input) → length (input_bytes (input_outline f x)) ≡ length (input_bytes x)
  unfolding input_bytes
  long_input x = simp (length-append, long_blank, long_body, long_issued)

  long_output : (x : Output) → length (output_bytes (output_outline f x)) ≡ length (output_bytes x)
  unfolding output_bytes
  long_output x = simp (length-append, long_token, long_value, long_body)

  module _ {X : Type 0} (bytes : X → List ℕ) (o : X → X) (long : (x : X) → length (bytes (o x)) ≡ length (bytes x)) where
    long_flat : (xs : List X) → length (flat bytes (map o xs)) ≡ length (flat bytes xs)
    unfolding flat
    long_flat [] = refl
    long_flat (x ∷ xs) = simp (length-append, long x, long_flat xs)

    long_list : (xs : List X) → length (list_bytes bytes (map o xs)) ≡ length (list_bytes bytes xs)
    unfolding list_bytes
    long_list xs = simp (length-append, length-map, long_flat xs)

    same_all : (events : ℕ → ℕ → X → List Event) → ((i at : ℕ) (x : X) → events i at (o x) ≡ events i at x) → (i at : ℕ) (xs : List X) → events_all bytes events i at (map o xs) ≡ events_all bytes events i at xs
    same_all events same i at [] = refl
    same_all events same i at (x ∷ xs) = λ j. same i at x j ++ same_all events same (suc i) (at + long x j) xs j

  long_input_witness : (x : InputWitness) → length (input_witness_bytes (input_witness_outline f x)) ≡ length (input_witness_bytes x)
  unfolding input_witness_bytes
  long_input_witness x = simp (length-append, long_body, long_list body_bytes (blank f) long_body)

  long_output_witness : (x : OutputWitness) → length (output_witness_bytes (output_witness_outline f x)) ≡ length (output_witness_bytes x)
  unfolding output_witness_bytes
  long_output_witness x = simp (length-append, long_body)

  same_body : (note : ℕ → ℕ → Entry) (at : ℕ) (xs : List ℕ) → body_events note at (blank f xs) ≡ body_events note at xs
  same_body note at xs = ap₂ (λ (n : ℕ) (es : List Event). looked (compact_bytes n) ++ (enters (note (at + length (compact_bytes n)) n) ∷ es)) (long_blank xs) (passed_blank xs)

  same_value : (note amount : ℕ → ℕ → Entry) (at : ℕ) (v : Value) → value_events note amount at (value_outline f v) ≡ value_events note amount at v
  same_value note amount at null = refl
  same_value note amount at (explicit v) = refl
  same_value note amount at (commitment p part) = ap (λ (es : List Event). shown p ∷ enters (note p at) ∷ es) (passed_blank part)

  same_token : (note : ℕ → ℕ → Entry) (at : ℕ) (t : Token) → token_events note at (token_outline f t) ≡ token_events note at t
  same_token note at absent = refl
  same_token note at (present p part) = ap (λ (es : List Event). shown p ∷ enters (note p at) ∷ es) (passed_blank part)

  module _ (i : ℕ) where
    same_issued : (at : ℕ) (o : Option Issuance) → issued_events i at (Option.map (issuance_outline f) o) ≡ issued_events i at o
    same_issued at none = refl
    same_issued at (some x) =
        λ j.
        entering (passed_blank x.blinding_nonce j) (entry input i 6 (at ∷ []))
        ++ (passed_blank x.entropy j ++ (same_value (amount_note i) (amount_halves i) 0 x.amount j ++ same_value (keys_note i) (keys_halves i) 0 x.keys j))

    same_input : (at : ℕ) (x : Input) → input_events i at (input_outline f x) ≡ input_events i at x
    same_input at x =
        λ j.
        entering (passed_blank x.txid j) (entry input i 0 (at ∷ []))
        ++ (entering (looked (bytes_of little 4 (raw_vout x.vout x.flags))) (entry input i 1 (x.vout ∷ x.flags ∷ []))
        ++ (same_body (script_note i) (at + 36) x.script j
        ++ (entering (looked (bytes_of little 4 x.sequence)) (entry input i 5 (x.sequence ∷ []))
        ++ same_issued (at + 36 + long_body x.script j + 4) x.issuance j)))

    same_output : (at : ℕ) (x : Output) → output_events i at (output_outline f x) ≡ output_events i at x
    same_output at x =
        λ j.
        same_token (out_note i 0) at x.asset j
        ++ (same_value (out_note i 2) (out_note i 4) (at + long_token x.asset j) x.value j
        ++ (same_token (out_note i 6) (at + long_token x.asset j + long_value x.value j) x.nonce j
        ++ same_body (out_note i 8) (at + long_token x.asset j + long_value x.value j + long_token x.nonce j) x.script j))

  same_stack : (note : ℕ → Entry) (first at : ℕ) (xs : List (List ℕ)) → stack_events note first at (map (blank f) xs) ≡ stack_events note first at xs
  same_stack note first at xs =
      λ j.
      entering (looked (compact_bytes (length-map xs (blank f) j))) (note (length-map xs (blank f) j))
      ++ same_all body_bytes (blank f) long_body item_events (λ i at x. same_body (item_note i) at x) first (at + length (compact_bytes (length-map xs (blank f) j))) xs j

  same_input_witness : (i first at : ℕ) (x : InputWitness) → input_witness_events i first at (input_witness_outline f x) ≡ input_witness_events i first at x
  same_input_witness i first at x =
      λ j.
      same_body (in_note i 13) at x.amount_proof j
      ++ (same_body (in_note i 15) (at + long_body x.amount_proof j) x.keys_proof j
      ++ (same_stack (in_note i 17 first) first (at + long_body x.amount_proof j + long_body x.keys_proof j) x.script_items j
      ++ same_stack (pegin_note i) (first + length-map x.script_items (blank f) j) (at + long_body x.amount_proof j + long_body x.keys_proof j + long_list body_bytes (blank f) long_body x.script_items j) x.pegin_items j))

  same_output_witness : (i at : ℕ) (x : OutputWitness) → output_witness_events i at (output_witness_outline f x) ≡ output_witness_events i at x
  same_output_witness i at x =
      λ j.
      same_body (out_note i 10) at x.surjection_proof j
      ++ same_body (out_note i 12) (at + long_body x.surjection_proof j) x.range_proof j

  same_input_witnesses : (room i first at : ℕ) (xs : List InputWitness) → input_witnesses_events room i first at (map (input_witness_outline f) xs) ≡ input_witnesses_events room i first at xs
  same_input_witnesses room i first at [] = refl
  same_input_witnesses room i first at (x ∷ xs) =
      λ j.
      same_input_witness i first at x j
      ++ same_input_witnesses room (suc i) (first + length-map x.script_items (blank f) j + length-map x.pegin_items (blank f) j) (at + long_input_witness x j) xs j

  same_tail : (room ins outs flag at : ℕ) (o : Option Witnesses) → tail_events room ins outs flag at (Option.map (witnesses_outline f) o) ≡ tail_events room ins outs flag at o
  same_tail room ins outs flag at none = refl
  same_tail room ins outs flag at (some x) =
      λ j.
      same_input_witnesses room 0 0 at x.inputs j
      ++ same_all output_witness_bytes (output_witness_outline f) long_output_witness output_witness_events same_output_witness 0 (at + long_flat input_witness_bytes (input_witness_outline f) long_input_witness x.inputs j) x.outputs j

  same_flag : (o : Option Witnesses) → flag_of (Option.map (witnesses_outline f) o) ≡ flag_of o
  same_flag none = refl
  same_flag (some x) = refl

  pub same_whole : (room : Room) (at : ℕ) (x : Contents) → whole_events room at (outline_by f x) ≡ whole_events room at x
  same_whole room at x =
      let ins = length-map x.inputs (input_outline f) in
      let outs = length-map x.outputs (output_outline f) in
      let b = long_list input_bytes (input_outline f) long_input x.inputs in
      let c = long_list output_bytes (output_outline f) long_output x.outputs in
      λ j.
      looked (bytes_of little 4 x.version) ++ (shown (same_flag x.witnesses j) ∷
      ((looked (compact_bytes (ins j)) ++ same_all input_bytes (input_outline f) long_input input_events same_input 0 (at + 5 + length (compact_bytes (ins j))) x.inputs j)
      ++ ((looked (compact_bytes (outs j)) ++ same_all output_bytes (output_outline f) long_output output_events same_output 0 (at + 5 + b j + length (compact_bytes (outs j))) x.outputs j)
      ++ (looked (bytes_of little 4 x.locktime) ++ same_tail room.items (ins j) (outs j) (same_flag x.witnesses j) (at + 5 + b j + c j + 4) x.witnesses j))))

-- ---- so inputs with one outline agree at the bearing bytes

traced_outline : (z : Sizes) (xs : List ℕ) (x : Contents) → Begins z xs x → trace (transaction (room_of z)) xs ≡ whole_events (room_of z) 0 (outline x)
traced_outline z xs x b =
    ap (trace (transaction (room_of z))) b.same
    ∙ traced (room_of z) x (formed z x b.allowed b.fits) b.allowed.within b.rest
    ∙ sym (same_whole 0 (room_of z) 0 x)

-- what is met of the first bytes is the first of what is met of the outline
pub starts_met : (f : ℕ) (z : Sizes) (xs : List ℕ) (x : Contents) → Starts z xs x → First (trace (transaction (room_of z)) xs) (whole_events (room_of z) 0 (outline_by f x))
starts_met f z xs x b =
    let l = transaction (room_of z) in
    let n = length xs in
    let whole = contents_bytes x ++ b.behind in
    let cut : trace l xs ≡ up_to n (trace l whole) = ap (trace l) (sym (take_at xs b.rest n refl) ∙ ap (take n) b.same) ∙ trace_cut l n whole in
    let first = goes_first n (trace l whole) (whole_events (room_of z) 0 x) (goes (room_of z) x b.formed b.behind) in
    (first.0, same_whole f (room_of z) 0 x ∙ first.1 ∙ ap (λ (t : List Event). t ++ first.0) (sym cut))

-- a reading that takes fewer bytes than there are has ended, and with them
ended_by : (z : Sizes) (ys : List ℕ) → (reading_of z ys).taken < length ys → ((reading_of z ys).answer ≡ more → ⊥) × (told (reading_of z (take (reading_of z ys).taken ys)) ≡ told (reading_of z ys))
ended_by z ys less =
    let r = reading_of z ys in
    let m = r.taken in
    let back = take-append-drop m ys in
    let never : r.answer ≡ more → ⊥ = λ e. omega (arith, takes_all z ys e) in (
      never,
      by_bytes (transaction (room_of z)) (take m ys) (drop m ys) (subst (λ (bs : List ℕ). (reading_of z bs).answer ≡ more → ⊥) (sym back) never)
          ∙ ap₂ (λ (bs : List ℕ) (n : ℕ). cond (leb (reading_of z bs).taken n) (told (reading_of z bs)) (more, n)) back (length-take-le m ys (omega arith))
          ∙ ap (λ (t : Bool). cond t (told r) (more, m)) (le-leb m m (omega arith)),
    )

module _ (z : Sizes) (x y : Contents) (o : outline x ≡ outline y) where
  -- where both take a byte that bears, it is the same
  met_alike : (xs ys : List ℕ) → Starts z xs x → Starts z ys y → (i : ℕ) → Bearing z xs i → i < (reading_of z ys).taken → get_or xs i 0 ≡ get_or ys i 0
  met_alike xs ys b c =
      agree_first (transaction (room_of z)) xs ys (whole_events (room_of z) 0 (outline x)) (starts_met 0 z xs x b)
      (subst (λ (w : Contents). First (trace (transaction (room_of z)) ys) (whole_events (room_of z) 0 w)) (sym o) (starts_met 0 z ys y c))

  -- and both take as many: where the second has ended, the first, alike so far, has ended too
  taken_alike : (xs ys : List ℕ) → Starts z xs x → Starts z ys y → length xs ≡ length ys → (i : ℕ) → i < (reading_of z xs).taken → i < (reading_of z ys).taken
  taken_alike xs ys b c long i h =
      let l = transaction (room_of z) in
      let m = (reading_of z ys).taken in
      by_cases (ltb i m)
      (λ t. ltb-true i m t)
      (λ t.
      let past = ltb-false i m t in
      let there = taken_there l xs in
      let ended = ended_by z ys (omega arith) in
      let us = take m xs in
      let vs = take m ys in
      let all : (reading_of z vs).taken ≡ m = ap (λ (w : Answer Head × ℕ). w.1) ended.1 in
      let few = taken_there l us in
      let long_us = length-take-le m xs (omega arith) in
      let same = blind z us vs (record {
        alike = long_us ∙ sym (length-take-le m ys (omega arith));
        bearing = λ j w. met_alike us vs (starts_sooner z xs x b m) (starts_sooner z ys y c m) j w (omega (arith, all, few, long_us, bears_taken l us j w));
      }) in
      let stays = stable z us (drop m xs) (λ e. ended.0 (sym (ap (λ (w : Answer Head × ℕ). w.0) ended.1) ∙ sym (ap (λ (r : Reading Head). r.answer) same) ∙ e)) in
      let again = ap (λ (r : Reading Head). r.taken) (ap (reading_of z) (sym (take-append-drop m xs)) ∙ stays) in
      absurd (omega (arith, again, few, long_us)))

  -- The first bytes of two transactions of one outline, of whatever length, agree at the bearing bytes.
  pub starts_agree : (xs ys : List ℕ) → Starts z xs x → Starts z ys y → length xs ≡ length ys → Agree z xs ys
  starts_agree xs ys b c long = record { alike = long; bearing = λ i w. met_alike xs ys b c i w (taken_alike xs ys b c long i (bears_taken (transaction (room_of z)) xs i w)) }

-- allowed transactions, and what is behind them, start so
begun : (z : Sizes) (xs : List ℕ) (x : Contents) → Begins z xs x → Starts z xs x
begun z xs x b = record { formed = formed z x b.allowed b.fits; rest = []; behind = b.rest; same = append-nil xs ∙ b.same }

module _ (z : Sizes) (xs ys : List ℕ) (x y : Contents) (b : Starts z xs x) (c : Starts z ys y) (long : length xs ≡ length ys) (o : outline x ≡ outline y) where
  pub outline_agrees : Agree z xs ys
  outline_agrees = starts_agree z x y o xs ys b c long

  -- and so do the first k bytes of each
  pub outline_agrees_so_far : (k : ℕ) → Agree z (take k xs) (take k ys)
  outline_agrees_so_far k = starts_agree z x y o (take k xs) (take k ys) (starts_sooner z xs x b k) (starts_sooner z ys y c k) (length-take k xs ∙ ap (min k) long ∙ sym (length-take k ys))

  -- with anything the same behind them, cut and refused inputs too
  pub outline_agrees_then : (k : ℕ) (vs : List ℕ) → Agree z (take k xs ++ vs) (take k ys ++ vs)
  outline_agrees_then k vs =
      let a = outline_agrees_so_far k in
      record {
        alike = length-append (take k xs) vs ∙ ap (λ (n : ℕ). n + length vs) a.alike ∙ sym (length-append (take k ys) vs);
        bearing = agree_longer (transaction (room_of z)) (take k xs) (take k ys) vs a.alike a.bearing;
      }

-- ---- and those that agree have one outline: it can be read off the tables and the source's length

blank_body : (s t : List ℕ) → length s ≡ length t → (p n : ℕ) → (blank 0) (body s p n) ≡ (blank 0) (body t p n)
unfolding body
blank_body s t e p n = simp (length-take, length-drop, e)

map_same : {R X : Type 0} (o : X → X) (f g : R → X) → ((r : R) → o (f r) ≡ o (g r)) → (rs : List R) → map o (map f rs) ≡ map o (map g rs)
map_same o f g same [] = refl
map_same o f g same (r ∷ rs) = λ j. same r j ∷ map_same o f g same rs j

maybe_same : {X : Type 0} (o : X → X) (t : Bool) (u v : X) → o u ≡ o v → Option.map o (cond t (some u) none) ≡ Option.map o (cond t (some v) none)
maybe_same o true u v e = ap some e
maybe_same o false u v e = refl

map_part : (n m : ℕ) (us : List (List ℕ)) → map (blank 0) (take n (drop m us)) ≡ take n (drop m (map (blank 0) us))
map_part zero zero us = refl
map_part (suc n) zero [] = refl
map_part (suc n) zero (u ∷ us) = ap (λ (l : List (List ℕ)). (blank 0) u ∷ l) (map_part n zero us)
map_part n (suc m) (u ∷ us) = map_part n m us
map_part zero (suc m) [] = refl
map_part (suc n) (suc m) [] = refl

module _ (s t : List ℕ) (e : length s ≡ length t) where
  value_same : (at prefix high low : ℕ) → (value_outline 0) (value_of s at prefix high low) ≡ (value_outline 0) (value_of t at prefix high low)
  unfolding value_of
  value_same at prefix high low = pick (eqb prefix 0) (eqb prefix 1)
    where
      pick : (a b : Bool) → (value_outline 0) (cond a null (cond b (explicit (2 ^ 32 * high + low)) (commitment prefix (body s (at + 1) 32)))) ≡ (value_outline 0) (cond a null (cond b (explicit (2 ^ 32 * high + low)) (commitment prefix (body t (at + 1) 32))))
      pick true b = refl
      pick false true = refl
      pick false false = ap (commitment prefix) (blank_body s t e (at + 1) 32)

  token_same : (at prefix : ℕ) → (token_outline 0) (token_of s at prefix) ≡ (token_outline 0) (token_of t at prefix)
  unfolding token_of
  token_same at prefix = pick (eqb prefix 0)
    where
      pick : (a : Bool) → (token_outline 0) (cond a absent (present prefix (body s (at + 1) 32))) ≡ (token_outline 0) (cond a absent (present prefix (body t (at + 1) 32)))
      pick true = refl
      pick false = ap (present prefix) (blank_body s t e (at + 1) 32)

  input_same : (r : List ℕ) → (input_outline 0) (input_of s r) ≡ (input_outline 0) (input_of t r)
  unfolding input_of
  input_same r =
      let issuance : (issuance_outline 0) (issuance_of s r) ≡ (issuance_outline 0) (issuance_of t r) =
      (λ j. record {
        blinding_nonce = blank_body s t e (r ! 6) 32 j;
        entropy = blank_body s t e (r ! 6 + 32) 32 j;
        amount = value_same (r ! 6 + 64) (r ! 7) (r ! 8) (r ! 9) j;
        keys = value_same (r ! 6 + 64 + value_width (r ! 7)) (r ! 10) (r ! 11) (r ! 12) j;
      }) in
      λ j. record {
        txid = blank_body s t e (r ! 0) 32 j;
        vout = r ! 1;
        flags = r ! 2;
        script = blank_body s t e (r ! 3) (r ! 4) j;
        sequence = r ! 5;
        issuance = maybe_same (issuance_outline 0) (issues r) (issuance_of s r) (issuance_of t r) issuance j;
      }

  output_same : (r : List ℕ) → (output_outline 0) (output_of s r) ≡ (output_outline 0) (output_of t r)
  unfolding output_of
  output_same r =
      λ j. record {
        asset = token_same (r ! 1) (r ! 0) j;
        value = value_same (r ! 3) (r ! 2) (r ! 4) (r ! 5) j;
        nonce = token_same (r ! 7) (r ! 6) j;
        script = blank_body s t e (r ! 8) (r ! 9) j;
      }

  items_same : (rs : List (List ℕ)) → map (blank 0) (map (item_of s) rs) ≡ map (blank 0) (map (item_of t) rs)
  unfolding item_of
  items_same rs = map_same (blank 0) (item_of s) (item_of t) (λ r. blank_body s t e (r ! 0) (r ! 1)) rs

  input_witness_same : (us vs : List (List ℕ)) → map (blank 0) us ≡ map (blank 0) vs → (r : List ℕ) → (input_witness_outline 0) (input_witness_of s us r) ≡ (input_witness_outline 0) (input_witness_of t vs r)
  unfolding input_witness_of
  input_witness_same us vs q r =
      let some_items : (n m : ℕ) → map (blank 0) (take n (drop m us)) ≡ map (blank 0) (take n (drop m vs)) = λ n m. map_part n m us ∙ ap (λ (l : List (List ℕ)). take n (drop m l)) q ∙ sym (map_part n m vs) in
      λ j. record {
        amount_proof = blank_body s t e (r ! 13) (r ! 14) j;
        keys_proof = blank_body s t e (r ! 15) (r ! 16) j;
        script_items = some_items (r ! 18) (r ! 17) j;
        pegin_items = some_items (r ! 19) (r ! 17 + r ! 18) j;
      }

  output_witness_same : (r : List ℕ) → (output_witness_outline 0) (output_witness_of s r) ≡ (output_witness_outline 0) (output_witness_of t r)
  unfolding output_witness_of
  output_witness_same r = λ j. record { surjection_proof = blank_body s t e (r ! 10) (r ! 11) j; range_proof = blank_body s t e (r ! 12) (r ! 13) j }

  contents_same : (h : Head) (ts : Tables) → outline (contents_of h ts s) ≡ outline (contents_of h ts t)
  unfolding contents_of
  contents_same h ts =
      let us = map (item_of s) (item_records h ts) in
      let vs = map (item_of t) (item_records h ts) in
      let witnesses : (witnesses_outline 0) (witnesses_of h ts s) ≡ (witnesses_outline 0) (witnesses_of h ts t) =
      (λ j. record {
        inputs = map_same (input_witness_outline 0) (input_witness_of s us) (input_witness_of t vs) (input_witness_same us vs (items_same (item_records h ts))) (input_records h ts) j;
        outputs = map_same (output_witness_outline 0) (output_witness_of s) (output_witness_of t) output_witness_same (output_records h ts) j;
      }) in
      λ j. record {
        version = h.version;
        inputs = map_same (input_outline 0) (input_of s) (input_of t) input_same (input_records h ts) j;
        outputs = map_same (output_outline 0) (output_of s) (output_of t) output_same (output_records h ts) j;
        locktime = h.locktime;
        witnesses = maybe_same (witnesses_outline 0) (eqb h.flag 1) (witnesses_of h ts s) (witnesses_of h ts t) witnesses j;
      }

pub agree_outline : (z : Sizes) (xs ys : List ℕ) (x y : Contents) → Begins z xs x → Begins z ys y → Agree z xs ys → outline x ≡ outline y
agree_outline z xs ys x y b c a =
    let same = sym (accepted z xs x b) ∙ blind_partial z xs ys a ∙ accepted z ys y c in
    let heads = finished_same (ap (λ (o : Outcome). o.answer) same) in
    let tables = ap (λ (o : Outcome). o.tables) same in
    ap outline (sym (shows z xs x b))
    ∙ contents_same xs ys a.alike (head_of x) (tables_of z x)
    ∙ ap₂ (λ (h : Head) (t : Tables). outline (contents_of h t ys)) heads tables
    ∙ ap outline (shows z ys y c)

-- ---- what the documents cite

-- what has one outline has one length, and fits alike
outline_long : (z : Sizes) (xs ys : List ℕ) (x y : Contents) → Begins z xs x → Begins z ys y → outline x ≡ outline y → length (contents_bytes x) ≡ length (contents_bytes y)
outline_long z xs ys x y b c o = sym (long xs x b) ∙ ap (λ (w : Contents). length (looks (whole_events (room_of z) 0 w))) o ∙ long ys y c
  where
    long : (ws : List ℕ) (w : Contents) → Begins z ws w → length (looks (whole_events (room_of z) 0 (outline w))) ≡ length (contents_bytes w)
    long ws w d = ap (λ (t : List Event). length (looks t)) (sym (traced_outline z ws w d)) ∙ looks_taken (transaction (room_of z)) ws ∙ ap (λ (r : Outcome). r.taken) (accepted z ws w d)

items_counted : (xs : List InputWitness) → sum items_of (map (input_witness_outline 0) xs) ≡ sum items_of xs
unfolding sum
items_counted [] = refl
items_counted (x ∷ xs) = ap₂ ◌+◌ (ap₂ ◌+◌ (length-map x.script_items (blank 0)) (length-map x.pegin_items (blank 0))) (items_counted xs)

count_same : (o : Option Witnesses) → item_count (Option.map (witnesses_outline 0) o) ≡ item_count o
count_same none = refl
count_same (some x) = items_counted x.inputs

outline_fits : (room : Room) (x y : Contents) → outline x ≡ outline y → Fits room x → Fits room y
outline_fits room x y o f =
    let ins = sym (length-map x.inputs (input_outline 0)) ∙ ap (λ (w : Contents). length w.inputs) o ∙ length-map y.inputs (input_outline 0) in
    let outs = sym (length-map x.outputs (output_outline 0)) ∙ ap (λ (w : Contents). length w.outputs) o ∙ length-map y.outputs (output_outline 0) in
    let items = sym (count_same x.witnesses) ∙ ap (λ (w : Contents). item_count w.witnesses) o ∙ count_same y.witnesses in
    record { inputs = omega (arith, f.inputs); outputs = omega (arith, f.outputs); items = omega (arith, f.items) }

exactly : (z : Sizes) (xs ys : List ℕ) (x y : Contents) → Begins z xs x → Begins z ys y → (length (contents_bytes x) ≡ length (contents_bytes y) → length xs ≡ length ys) → Agree z xs ys ↔ (outline x ≡ outline y)
exactly z xs ys x y b c e = (agree_outline z xs ys x y b c, λ o. outline_agrees z xs ys x y (begun z xs x b) (begun z ys y c) (e (outline_long z xs ys x y b c o)) o)

-- Two allowed transactions for which there is room agree at the bearing bytes exactly if they have one outline.
pub bearing_exactly : (z : Sizes) (x y : Contents) → Allowed x → Allowed y → Fits (room_of z) x → Fits (room_of z) y → Agree z (contents_bytes x) (contents_bytes y) ↔ (outline x ≡ outline y)
bearing_exactly z x y a c f g =
    exactly z (contents_bytes x) (contents_bytes y) x y
    (record { allowed = a; fits = f; rest = []; same = sym (append-nil (contents_bytes x)) })
    (record { allowed = c; fits = g; rest = []; same = sym (append-nil (contents_bytes y)) })
    (λ long. long)

behind_long_lem : (x y : Contents) (rest rest' : List ℕ) → length rest ≡ length rest' → length (contents_bytes x) ≡ length (contents_bytes y) → length (contents_bytes x ++ rest) ≡ length (contents_bytes y ++ rest')
behind_long_lem x y rest rest' e long = length-append (contents_bytes x) rest ∙ ap₂ ◌+◌ long e ∙ sym (length-append (contents_bytes y) rest')

-- And so with anything behind them, of one length.
pub bearing_behind : (z : Sizes) (x y : Contents) → Allowed x → Allowed y → Fits (room_of z) x → Fits (room_of z) y → (rest rest' : List ℕ) → length rest ≡ length rest' → Agree z (contents_bytes x ++ rest) (contents_bytes y ++ rest') ↔ (outline x ≡ outline y)
bearing_behind z x y a c f g rest rest' e =
    exactly z (contents_bytes x ++ rest) (contents_bytes y ++ rest') x y
    (record { allowed = a; fits = f; rest = rest; same = refl })
    (record { allowed = c; fits = g; rest = rest'; same = refl })
    (behind_long_lem x y rest rest' e)

-- Then both are read alike, after each byte too: no word of bearing bytes.
pub record Alike (z : Sizes) (xs ys : List ℕ) : Type 0 where
  pub so_far : (k : ℕ) → partial z (take k xs) ≡ partial z (take k ys)
  pub all : partial z xs ≡ partial z ys
  pub at_once_lem : at_once z xs ≡ at_once z ys
  pub strictly : strict z xs ≡ strict z ys

pub blind_starts : (z : Sizes) (xs ys : List ℕ) (x y : Contents) → Starts z xs x → Starts z ys y → length xs ≡ length ys → outline x ≡ outline y → Alike z xs ys
blind_starts z xs ys x y b c long o =
    let p = outline_agrees z xs ys x y b c long o in
    record {
      so_far = λ k. blind_partial z _ _ (outline_agrees_so_far z xs ys x y b c long o k);
      all = blind_partial z _ _ p;
      at_once_lem = blind_at_once z _ _ p;
      strictly = blind_strict z _ _ p;
    }

pub blind_outline : (z : Sizes) (x y : Contents) → Allowed x → Allowed y → Fits (room_of z) x → outline x ≡ outline y → (rest rest' : List ℕ) → length rest ≡ length rest' → Alike z (contents_bytes x ++ rest) (contents_bytes y ++ rest')
blind_outline z x y a c f o rest rest' e =
    let b : Begins z (contents_bytes x ++ rest) x = record { allowed = a; fits = f; rest = rest; same = refl } in
    let d : Begins z (contents_bytes y ++ rest') y = record { allowed = c; fits = outline_fits (room_of z) x y o f; rest = rest'; same = refl } in
    blind_starts z _ _ x y (begun z _ x b) (begun z _ y d) (behind_long_lem x y rest rest' e (outline_long z _ _ x y b d o)) o
