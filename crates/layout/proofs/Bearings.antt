-- Which bytes bear, from what a transaction holds: of its first bytes, of whatever length, exactly those that are taken and are left where its hidden parts are blotted out.
use Prim.Native.Nat.{ℕ, zero, suc, ◌+◌, ◌^◌, ◌<◌}
use mathlib.Core.Path.{◌≡◌, refl, sym, ◌∙◌, ap, ap₂, subst}
use mathlib.Core.Bool.{Bool, true, false, cond}
use mathlib.Core.List.{List, [], ◌∷◌, ◌++◌, map, append-nil}
use mathlib.Core.Option
use mathlib.Core.Option.{Option, none, some}
use mathlib.Core.Logic.{◌↔◌}
use native.Mathlib.Omega.{arith}
use lib.Dec.{ltb}
use lib.ListN.{length, get_or, length-map, length-replicate, get_or-map}
use borrow.Author.Tests.{ltb-true, lt-ltb}
use Rattle.layout.specs.Number.{little, big, bytes_of, Bytes}
use Rattle.layout.specs.Layout.{Entry, hides}
use Rattle.layout.specs.Transaction.{Room, transaction}
use Rattle.layout.specs.Outcome.{Sizes, room_of, reading_of, partial, Bearing}
use Rattle.layout.specs.Contents.{Value, null, explicit, commitment, Token, absent, present, Issuance, Input, Output, InputWitness, OutputWitness, Witnesses, Contents, compact_bytes, flat, body_bytes, list_bytes, value_bytes, token_bytes, issuance_bytes, raw_vout, input_bytes, output_bytes, input_witness_bytes, output_witness_bytes, flag_of, witnesses_bytes, contents_bytes, Every, ValueAllowed, TokenAllowed, Flagged}
use Rattle.layout.specs.Fields.{Short, InputFormed, OutputFormed, InputWitnessFormed, OutputWitnessFormed, MaybeFormed, Formed}
use Rattle.layout.specs.Outline.{blank, token_outline, value_outline, issuance_outline, input_outline, output_outline, input_witness_outline, output_witness_outline, witnesses_outline, blotted}
use Rattle.layout.specs.Beginnings.{Starts}
use Rattle.layout.proofs.Number.{below, bytes_bytes}
use Rattle.layout.proofs.Compact.{forms}
use Rattle.layout.proofs.Trace.{Event, shown, enters, looked, passed, entering, trace, looks, looks_taken, looks_at, looks_both, looks_first}
use Rattle.layout.proofs.Codes.{events_all}
use Rattle.layout.proofs.Parts.{prefix_small, Listing, asset_listing, nonce_listing, body_events, value_events, token_events, amount_note, amount_halves, keys_note, keys_halves, issued_events, script_note, input_events, out_note, output_events, item_note, item_events, stack_events, in_note, pegin_note, input_witness_events, output_witness_events}
use Rattle.layout.proofs.Whole.{input_witnesses_events, tail_events, whole_events}
use Rattle.layout.proofs.Theorems.{bearing_is}
use Rattle.layout.proofs.Outlines.{starts_met}

-- what is left of a byte: itself, or nothing where it is blotted out
abbrev mark : ℕ → Option ℕ
mark b = cond (ltb b 256) (some b) none

-- these events look at what is left of these bytes
record Marks (es : List Event) (bs : List ℕ) : Type 0 where
  pub same : looks es ≡ map mark bs

map_both : (bs cs : List ℕ) → map mark (bs ++ cs) ≡ map mark bs ++ map mark cs
map_both [] cs = refl
map_both (b ∷ bs) cs = ap (λ (l : List (Option ℕ)). mark b ∷ l) (map_both bs cs)

marks_both : (es fs : List Event) (bs cs : List ℕ) → Marks es bs → Marks fs cs → Marks (es ++ fs) (bs ++ cs)
marks_both es fs bs cs e f = record { same = looks_both es fs ∙ ap₂ (λ (a b : List (Option ℕ)). a ++ b) e.same f.same ∙ sym (map_both bs cs) }

marks_entering : (es : List Event) (bs : List ℕ) (e : Entry) → Marks es bs → Marks (entering es e) bs
marks_entering es bs e m = record { same = looks_both es (enters e ∷ []) ∙ append-nil (looks es) ∙ m.same }

-- a byte, an entry, a byte that is blotted out, and then others
marks_shown : (b : ℕ) (es : List Event) (bs : List ℕ) → b < 256 → Marks es bs → Marks (shown b ∷ es) (b ∷ bs)
marks_shown b es bs h m = record { same = ap₂ (λ (o : Option ℕ) (l : List (Option ℕ)). o ∷ l) (sym (ap (λ (t : Bool). cond t (some b) none) (lt-ltb b 256 h))) m.same }

marks_enters : (e : Entry) (es : List Event) (bs : List ℕ) → Marks es bs → Marks (enters e ∷ es) bs
marks_enters e es bs m = record { same = m.same }

marks_none : Marks [] []
marks_none = record { same = refl }

marks_looked : (bs : List ℕ) → Bytes bs → Marks (looked bs) bs
marks_looked [] h = marks_none
marks_looked (b ∷ bs) h = marks_shown b (looked bs) bs (h zero) (marks_looked bs (λ i. h (suc i)))

marks_blot : (bs : List ℕ) → Marks (passed (blank 256 bs)) (blank 256 bs)
marks_blot [] = marks_none
marks_blot (b ∷ bs) = record { same = ap (λ (l : List (Option ℕ)). none ∷ l) (marks_blot bs).same }

-- ---- fields

compact_bytes_lem : (n : ℕ) → n < 2 ^ 64 → Bytes (compact_bytes n)
compact_bytes_lem n h =
    forms Bytes n h
    (λ le. below n [] (omega arith) (λ i. omega arith))
    (λ f above byte at_least_lem small. below f (bytes_of little _ n) byte (bytes_bytes little _ n))

short_blot : (xs : List ℕ) → Short xs → Short (blank 256 xs)
short_blot xs h = subst (λ (n : ℕ). n < 2 ^ 64) (sym (length-replicate (length xs) 256)) h

marks_body : (note : ℕ → ℕ → Entry) (at : ℕ) (xs : List ℕ) → Short xs → Marks (body_events note at (blank 256 xs)) (body_bytes (blank 256 xs))
unfolding body_bytes
marks_body note at xs h =
    let d = blank 256 xs in
    marks_both (looked (compact_bytes (length d))) (enters (note (at + length (compact_bytes (length d))) (length d)) ∷ passed d) (compact_bytes (length d)) d (marks_looked (compact_bytes (length d)) (compact_bytes_lem (length d) (short_blot xs h))) (marks_enters _ _ _ (marks_blot xs))

marks_value : (note amount : ℕ → ℕ → Entry) (at : ℕ) (v : Value) → ValueAllowed v → Marks (value_events note amount at (value_outline 256 v)) (value_bytes (value_outline 256 v))
unfolding value_bytes
marks_value note amount at null g = marks_shown 0 _ _ (omega arith) (marks_enters _ _ _ marks_none)
marks_value note amount at (explicit v) g = marks_shown 1 _ _ (omega arith) (marks_enters _ _ _ (marks_entering (looked (bytes_of big 8 v)) (bytes_of big 8 v) _ (marks_looked (bytes_of big 8 v) (bytes_bytes big 8 v))))
marks_value note amount at (commitment p part) g = marks_shown p _ _ (prefix_small (commitment p part) g) (marks_enters _ _ _ (marks_blot part))

module _ {lists : ℕ → Bool} (l : Listing lists) where
  marks_listed : (note : ℕ → ℕ → Entry) (at : ℕ) (t : Token) → TokenAllowed lists t → Marks (token_events note at (token_outline 256 t)) (token_bytes (token_outline 256 t))
  unfolding token_bytes
  marks_listed note at absent g = marks_shown 0 _ _ (omega arith) (marks_enters _ _ _ marks_none)
  marks_listed note at (present p part) g = marks_shown p _ _ (l.byte p g.0) (marks_enters _ _ _ (marks_blot part))

-- ---- inputs and outputs

module _ (i : ℕ) where
  marks_issued : (flags at : ℕ) (o : Option Issuance) → Flagged flags o → Marks (issued_events i at (Option.map (issuance_outline 256) o)) (issuance_bytes (Option.map (issuance_outline 256) o))
  unfolding issuance_bytes
  marks_issued flags at none g = marks_none
  marks_issued flags at (some x) g =
      marks_both _ _ (blank 256 x.blinding_nonce) _ (marks_entering (passed (blank 256 x.blinding_nonce)) _ _ (marks_blot x.blinding_nonce))
      (marks_both _ _ (blank 256 x.entropy) _ (marks_blot x.entropy)
      (marks_both _ _ (value_bytes (value_outline 256 x.amount)) _ (marks_value (amount_note i) (amount_halves i) 0 x.amount g.2.amount) (marks_value (keys_note i) (keys_halves i) 0 x.keys g.2.keys)))

  marks_input : (at : ℕ) (x : Input) → InputFormed x → Marks (input_events i at (input_outline 256 x)) (input_bytes (input_outline 256 x))
  unfolding input_bytes
  marks_input at x g =
      let raw = bytes_of little 4 (raw_vout x.vout x.flags) in
      let sequence = bytes_of little 4 x.sequence in
      marks_both _ _ (blank 256 x.txid) _ (marks_entering (passed (blank 256 x.txid)) _ _ (marks_blot x.txid))
      (marks_both _ _ raw _ (marks_entering (looked raw) raw _ (marks_looked raw (bytes_bytes little 4 (raw_vout x.vout x.flags))))
      (marks_both _ _ (body_bytes (blank 256 x.script)) _ (marks_body (script_note i) (at + 36) x.script g.script)
      (marks_both _ _ sequence _ (marks_entering (looked sequence) sequence _ (marks_looked sequence (bytes_bytes little 4 x.sequence)))
      (marks_issued x.flags _ x.issuance g.allowed.issuance))))

  marks_output : (at : ℕ) (x : Output) → OutputFormed x → Marks (output_events i at (output_outline 256 x)) (output_bytes (output_outline 256 x))
  unfolding output_bytes
  marks_output at x g =
      marks_both _ _ (token_bytes (token_outline 256 x.asset)) _ (marks_listed asset_listing (out_note i 0) at x.asset g.allowed.asset)
      (marks_both _ _ (value_bytes (value_outline 256 x.value)) _ (marks_value (out_note i 2) (out_note i 4) _ x.value g.allowed.value)
      (marks_both _ _ (token_bytes (token_outline 256 x.nonce)) _ (marks_listed nonce_listing (out_note i 6) _ x.nonce g.allowed.nonce)
      (marks_body (out_note i 8) _ x.script g.script)))

-- ---- so many

module _ {X : Type 0} (Good : X → Type 0) (bytes : X → List ℕ) (o : X → X) (events : ℕ → ℕ → X → List Event) (one : (i at : ℕ) (x : X) → Good x → Marks (events i at (o x)) (bytes (o x))) where
  marks_all : (i at : ℕ) (xs : List X) → Every Good xs → Marks (events_all bytes events i at (map o xs)) (flat bytes (map o xs))
  unfolding flat
  marks_all i at [] g = marks_none
  marks_all i at (x ∷ xs) g = marks_both _ _ (bytes (o x)) (flat bytes (map o xs)) (one i at x g.0) (marks_all (suc i) (at + length (bytes (o x))) xs g.1)

  -- behind a count, which may be entered
  marks_list : (first at : ℕ) (xs : List X) → Short xs → Every Good xs → (counted : List Event) → ((bs : List ℕ) → Marks (looked (compact_bytes (length (map o xs)))) bs → Marks counted bs) → Marks (counted ++ events_all bytes events first at (map o xs)) (list_bytes bytes (map o xs))
  unfolding list_bytes
  marks_list first at xs h g counted same =
      let c = compact_bytes (length (map o xs)) in
      let small : Short (map o xs) = subst (λ (n : ℕ). n < 2 ^ 64) (sym (length-map xs o)) h in
      marks_both counted _ c _ (same c (marks_looked c (compact_bytes_lem (length (map o xs)) small))) (marks_all first at xs g)

-- ---- witnesses

marks_stack : (note : ℕ → Entry) (first at : ℕ) (xs : List (List ℕ)) → Short xs → Every Short xs → Marks (stack_events note first at (map (blank 256) xs)) (list_bytes body_bytes (map (blank 256) xs))
marks_stack note first at xs h g = marks_list Short body_bytes (blank 256) item_events (λ i at x. marks_body (item_note i) at x) first _ xs h g _ (λ bs. marks_entering (looked (compact_bytes (length (map (blank 256) xs)))) bs (note (length (map (blank 256) xs))))

marks_input_witness : (i first at : ℕ) (x : InputWitness) → InputWitnessFormed x → Marks (input_witness_events i first at (input_witness_outline 256 x)) (input_witness_bytes (input_witness_outline 256 x))
unfolding input_witness_bytes
marks_input_witness i first at x g =
    marks_both _ _ (body_bytes (blank 256 x.amount_proof)) _ (marks_body (in_note i 13) at x.amount_proof g.amount_proof)
    (marks_both _ _ (body_bytes (blank 256 x.keys_proof)) _ (marks_body (in_note i 15) _ x.keys_proof g.keys_proof)
    (marks_both _ _ (list_bytes body_bytes (map (blank 256) x.script_items)) _ (marks_stack (in_note i 17 first) first _ x.script_items g.script_count g.script_items) (marks_stack (pegin_note i) _ _ x.pegin_items g.pegin_count g.pegin_items)))

marks_output_witness : (i at : ℕ) (x : OutputWitness) → OutputWitnessFormed x → Marks (output_witness_events i at (output_witness_outline 256 x)) (output_witness_bytes (output_witness_outline 256 x))
unfolding output_witness_bytes
marks_output_witness i at x g = marks_both _ _ (body_bytes (blank 256 x.surjection_proof)) _ (marks_body (out_note i 10) at x.surjection_proof g.surjection_proof) (marks_body (out_note i 12) _ x.range_proof g.range_proof)

marks_input_witnesses : (room i first at : ℕ) (xs : List InputWitness) → Every InputWitnessFormed xs → Marks (input_witnesses_events room i first at (map (input_witness_outline 256) xs)) (flat input_witness_bytes (map (input_witness_outline 256) xs))
unfolding flat
marks_input_witnesses room i first at [] g = marks_none
marks_input_witnesses room i first at (x ∷ xs) g = marks_both _ _ (input_witness_bytes (input_witness_outline 256 x)) _ (marks_input_witness i first at x g.0) (marks_input_witnesses room (suc i) (first + length (map (blank 256) x.script_items) + length (map (blank 256) x.pegin_items)) (at + length (input_witness_bytes (input_witness_outline 256 x))) xs g.1)

marks_tail : (room ins outs flag at n m : ℕ) (o : Option Witnesses) → MaybeFormed n m o → Marks (tail_events room ins outs flag at (Option.map (witnesses_outline 256) o)) (witnesses_bytes (Option.map (witnesses_outline 256) o))
unfolding witnesses_bytes
marks_tail room ins outs flag at n m none g = marks_none
marks_tail room ins outs flag at n m (some x) g =
    marks_both _ _ (flat input_witness_bytes (map (input_witness_outline 256) x.inputs)) _ (marks_input_witnesses room 0 0 at x.inputs g.inputs)
    (marks_all OutputWitnessFormed output_witness_bytes (output_witness_outline 256) output_witness_events marks_output_witness 0 _ x.outputs g.outputs)

-- ---- the transaction

flag_byte : (o : Option Witnesses) → flag_of o < 256
flag_byte none = omega arith
flag_byte (some x) = omega arith

marks_whole : (room : Room) (at : ℕ) (x : Contents) → Formed room x → Marks (whole_events room at (blotted x)) (contents_bytes (blotted x))
unfolding contents_bytes
marks_whole room at x g =
    let version = bytes_of little 4 x.version in
    let locktime = bytes_of little 4 x.locktime in
    marks_both (looked version) _ version _ (marks_looked version (bytes_bytes little 4 x.version))
    (marks_shown (flag_of (blotted x).witnesses) _ _ (flag_byte (blotted x).witnesses)
    (marks_both _ _ (list_bytes input_bytes (map (input_outline 256) x.inputs)) _ (marks_list InputFormed input_bytes (input_outline 256) input_events marks_input 0 _ x.inputs g.input_count g.inputs _ (λ bs m. m))
    (marks_both _ _ (list_bytes output_bytes (map (output_outline 256) x.outputs)) _ (marks_list OutputFormed output_bytes (output_outline 256) output_events marks_output 0 _ x.outputs g.output_count g.outputs _ (λ bs m. m))
    (marks_both (looked locktime) _ locktime _ (marks_looked locktime (bytes_bytes little 4 x.locktime)) (marks_tail room.items (length (blotted x).inputs) (length (blotted x).outputs) (flag_of (blotted x).witnesses) _ (length x.inputs) (length x.outputs) x.witnesses g.witnesses)))))

-- ---- so of the first bytes

-- something is left of a byte exactly if it is one
left_of : (t : Bool) (b v : ℕ) → cond t none (some v) ≡ mark b → (t ≡ false) ↔ (b < 256)
left_of true b v e = (λ f. absurd (let z : ◌≡◌ {A = ℕ} 1 0 = ap (λ (c : Bool). cond c 1 0) f in omega arith), λ h. absurd (let q = e ∙ ap (λ (c : Bool). cond c (some b) none) (lt-ltb b 256 h) in let z : ◌≡◌ {A = ℕ} 0 1 = ap (λ (o : Option ℕ). elim o [ none ↦ 0 | some n ↦ 1 ]) q in omega arith))
left_of false b v e = (λ f. by_size (ltb b 256) refl, λ h. refl)
  where
    by_size : (c : Bool) → ltb b 256 ≡ c → b < 256
    by_size true t = ltb-true b 256 t
    by_size false t = absurd (let q = e ∙ ap (λ (c : Bool). cond c (some b) none) t in let z : ◌≡◌ {A = ℕ} 1 0 = ap (λ (o : Option ℕ). elim o [ none ↦ 0 | some n ↦ 1 ]) q in omega arith)

pub bearing_starts : (z : Sizes) (xs : List ℕ) (x : Contents) → Starts z xs x → (i : ℕ) → Bearing z xs i ↔ ((i < (partial z xs).taken) × (get_or (contents_bytes (blotted x)) i 256 < 256))
bearing_starts z xs x b i =
    let l = transaction (room_of z) in
    let e : i < (reading_of z xs).taken → cond (hides l xs i) none (some (get_or xs i 0)) ≡ mark (get_or (contents_bytes (blotted x)) i 256) =
    λ h.
    sym (looks_at l xs i h)
    ∙ looks_first (trace l xs) (whole_events (room_of z) 0 (blotted x)) i (omega (arith, looks_taken l xs)) (starts_met 256 z xs x b)
    ∙ ap (λ (us : List (Option ℕ)). get_or us i none) (marks_whole (room_of z) 0 x b.formed).same
    ∙ get_or-map mark (contents_bytes (blotted x)) i 256 in
    let is = bearing_is z xs i in (
      λ w. let p = is.0 w in (p.0, (left_of (hides l xs i) (get_or (contents_bytes (blotted x)) i 256) (get_or xs i 0) (e p.0)).0 p.1),
      λ p. is.1 (p.0, (left_of (hides l xs i) (get_or (contents_bytes (blotted x)) i 256) (get_or xs i 0) (e p.0)).1 p.1),
    )
