-- The trace of a transaction makes its entries at the times of its timed log: so the reading of the first k bytes makes those of time
-- at most k.
use Prim.Native.Nat.{ℕ, zero, suc, ◌+◌, ◌/◌, ◌%◌, ◌^◌, ◌<◌, ◌≤◌}
use mathlib.Core.Path.{◌≡◌, refl, sym, ◌∙◌, ap, ap₂, subst}
use mathlib.Core.Bool.{Bool, false, cond}
use mathlib.Core.List.{List, [], ◌∷◌, ◌++◌, append_assoc, append-nil}
use mathlib.Core.Option.{Option, none, some}
use native.Mathlib.Nat.{add-zero, zero-add}
use native.Mathlib.Omega.{arith}
use lib.ListN.{length, take, drop, length-append, take-append-drop}
use borrow.Author.Tests.{le-leb, lt-leb}
use Rattle.layout.specs.Number.{little, big, bytes_of}
use Rattle.layout.specs.Layout.{Entry, input, Answer, finished, more, refused, Reading, run}
use Rattle.layout.specs.Transaction.{Head, Room, limit, entry, transaction}
use Rattle.layout.specs.Outcome
use Rattle.layout.specs.Outcome.{Tables, Sizes, room_of, zeros, laid, reading_of, partial}
use Rattle.layout.specs.Contents.{Value, null, explicit, commitment, Token, absent, present, Issuance, Input, Output, InputWitness, OutputWitness, Witnesses, Contents, compact_bytes, flat, body_bytes, list_bytes, value_bytes, token_bytes, issuance_bytes, raw_vout, input_bytes, output_bytes, input_witness_bytes, output_witness_bytes, flag_of, witnesses_bytes, contents_bytes, Every, IssuanceAllowed, Flagged, InputAllowed}
use Rattle.layout.specs.Fields.{InputFormed, Formed}
use Rattle.layout.specs.Beginnings.{witnesses_empty}
use Rattle.layout.specs.Records.{value_prefix, head_of}
use Rattle.layout.proofs.Number.{length_bytes}
use Rattle.layout.proofs.Reading.{refused_not_more, refused_not_finished, stable}
use Rattle.layout.proofs.Trace.{Event, shown, hidden, enters, looked, passed, entering, entries, trace, looks_taken, up_to, log_by, goes_before}
use Rattle.layout.proofs.Codes.{events_all}
use Rattle.layout.proofs.Parts.{body_events, value_events, token_events, amount_note, amount_halves, keys_note, keys_halves, issuance_events, issued_events, script_note, input_events, out_note, output_events, item_note, item_events, stack_events, in_note, pegin_note, input_witness_events, output_witness_events}
use Rattle.layout.proofs.Whole.{input_witnesses_events, tail_events, whole_events, reads, goes, traced}
use Rattle.layout.proofs.Timed.{Timed, timed, entered, by, body_timed, amount_timed, value_timed, token_timed, issuance_timed, issued_timed, input_timed, output_timed, all_timed, item_timed, stack_timed, input_witness_timed, output_witness_timed, input_witnesses_timed, tail_timed, whole_timed}

-- each entry with the bytes that came before it, from a position on
unfoldable pub timing : ℕ → List Event → List Timed
timing p [] = []
timing p (shown b ∷ es) = timing (p + 1) es
timing p (hidden ∷ es) = timing (p + 1) es
timing p (enters e ∷ es) = timed p e ∷ timing p es

-- ---- the entries before a byte are those of the times up to it

late : (k p : ℕ) (es : List Event) → k < p → entered (by k) (timing p es) ≡ []
unfolding timing entered
late k p [] h = refl
late k p (shown b ∷ es) h = late k (p + 1) es (omega arith)
late k p (hidden ∷ es) h = late k (p + 1) es (omega arith)
late k p (enters e ∷ es) h = rw (lt-leb p k h) (late k p es h)

in_time : (k p : ℕ) (es : List Event) → entries (up_to k es) ≡ entered (by (p + k)) (timing p es)
unfolding timing entered entries up_to
in_time k p [] = refl
in_time zero p (shown b ∷ es) = sym (late (p + 0) (p + 1) es (omega arith))
in_time zero p (hidden ∷ es) = sym (late (p + 0) (p + 1) es (omega arith))
in_time (suc k) p (shown b ∷ es) = in_time k (p + 1) es ∙ (let e : p + 1 + k ≡ p + suc k = omega arith in ap (λ (n : ℕ). entered (by n) (timing (p + 1) es)) e)
in_time (suc k) p (hidden ∷ es) = in_time k (p + 1) es ∙ (let e : p + 1 + k ≡ p + suc k = omega arith in ap (λ (n : ℕ). entered (by n) (timing (p + 1) es)) e)
in_time k p (enters e ∷ es) = ap (λ (l : List Entry). e ∷ l) (in_time k p es) ∙ sym (ap (λ (b : Bool). cond b (e ∷ entered (by (p + k)) (timing p es)) (entered (by (p + k)) (timing p es))) (le-leb p (p + k) (omega arith)))

-- ---- events of some bytes at a position, and then others

Told : ℕ → List Event → List ℕ → List Timed → Type 0
Told at es bs ts = (rest : List Event) → timing at (es ++ rest) ≡ ts ++ timing (at + length bs) rest

told_as : (at : ℕ) (es : List Event) (bs : List ℕ) (ts us : List Timed) → us ≡ ts → Told at es bs ts → Told at es bs us
told_as at es bs ts us e t = subst (Told at es bs) (sym e) t

told_at : (at at' : ℕ) (es : List Event) (bs : List ℕ) (ts : List Timed) → at ≡ at' → Told at es bs ts → Told at' es bs ts
told_at at at' es bs ts e t = subst (λ (p : ℕ). Told p es bs ts) e t

told_none : (at : ℕ) → Told at [] [] []
unfolding Told
told_none at rest = ap (λ (p : ℕ). timing p rest) (sym (add-zero at))

told_both : (at : ℕ) (es fs : List Event) (bs cs : List ℕ) (ts us : List Timed) → Told at es bs ts → Told (at + length bs) fs cs us → Told at (es ++ fs) (bs ++ cs) (ts ++ us)
unfolding Told
told_both at es fs bs cs ts us p q rest =
    let e : at + length bs + length cs ≡ at + length (bs ++ cs) = omega (arith, length-append bs cs) in
    ap (timing at) (append_assoc es fs rest)
    ∙ p (fs ++ rest)
    ∙ ap (λ (l : List Timed). ts ++ l) (q rest)
    ∙ sym (append_assoc ts us (timing (at + length bs + length cs) rest))
    ∙ ap (λ (n : ℕ). (ts ++ us) ++ timing n rest) e

told_looked : (at : ℕ) (bs : List ℕ) → Told at (looked bs) bs []
unfolding Told timing
told_looked at [] rest = ap (λ (p : ℕ). timing p rest) (sym (add-zero at))
told_looked at (b ∷ bs) rest = told_looked (at + 1) bs rest ∙ (let e : at + 1 + length bs ≡ at + suc (length bs) = omega arith in ap (λ (p : ℕ). timing p rest) e)

told_passed : (at : ℕ) (bs : List ℕ) → Told at (passed bs) bs []
unfolding Told timing
told_passed at [] rest = ap (λ (p : ℕ). timing p rest) (sym (add-zero at))
told_passed at (b ∷ bs) rest = told_passed (at + 1) bs rest ∙ (let e : at + 1 + length bs ≡ at + suc (length bs) = omega arith in ap (λ (p : ℕ). timing p rest) e)

told_entering : (at : ℕ) (es : List Event) (bs : List ℕ) (ts : List Timed) (e : Entry) → Told at es bs ts → Told at (entering es e) bs (ts ++ (timed (at + length bs) e ∷ []))
unfolding Told timing
told_entering at es bs ts e t rest =
    ap (timing at) (append_assoc es (enters e ∷ []) rest) ∙ t (enters e ∷ rest) ∙ sym (append_assoc ts (timed (at + length bs) e ∷ []) (timing (at + length bs) rest))

-- ---- fields

told_body : (note : ℕ → ℕ → Entry) (at : ℕ) (xs : List ℕ) → Told at (body_events note at xs) (body_bytes xs) (body_timed note at xs)
unfolding body_bytes Told timing
told_body note at xs =
    let c = compact_bytes (length xs) in
    told_both at (looked c) (enters (note (at + length c) (length xs)) ∷ passed xs) c xs [] (body_timed note at xs)
    (told_looked at c)
    (λ rest. ap (λ (l : List Timed). timed (at + length c) (note (at + length c) (length xs)) ∷ l) (told_passed (at + length c) xs rest))

told_value : (note amount : ℕ → ℕ → Entry) (at place : ℕ) (v : Value) → Told at (value_events note amount place v) (value_bytes v) (timed (at + 1) (note (value_prefix v) place) ∷ amount_timed amount (at + 9) v)
unfolding value_bytes Told timing
told_value note amount at place null rest = refl
told_value note amount at place (explicit v) rest =
    let long = length_bytes big 8 v in
    let e : at + 1 + length (bytes_of big 8 v) ≡ at + 9 = omega arith in
    let e' : at + 1 + length (bytes_of big 8 v) ≡ at + suc (length (bytes_of big 8 v)) = omega arith in
    ap (λ (l : List Timed). timed (at + 1) (note 1 place) ∷ l) (told_entering (at + 1) (looked (bytes_of big 8 v)) (bytes_of big 8 v) [] (amount (v / 2 ^ 32) (v % 2 ^ 32)) (told_looked (at + 1) (bytes_of big 8 v)) rest)
    ∙ ap₂ (λ (m n : ℕ). timed (at + 1) (note 1 place) ∷ timed m (amount (v / 2 ^ 32) (v % 2 ^ 32)) ∷ timing n rest) e e'
told_value note amount at place (commitment p part) rest =
    let e : at + 1 + length part ≡ at + suc (length part) = omega arith in
    ap (λ (l : List Timed). timed (at + 1) (note p place) ∷ l) (told_passed (at + 1) part rest ∙ ap (λ (n : ℕ). timing n rest) e)

told_token : (note : ℕ → ℕ → Entry) (at : ℕ) (t : Token) → Told at (token_events note at t) (token_bytes t) (token_timed note at t)
unfolding token_bytes Told timing
told_token note at absent rest = refl
told_token note at (present p part) rest =
    let e : at + 1 + length part ≡ at + suc (length part) = omega arith in
    ap (λ (l : List Timed). timed (at + 1) (note p at) ∷ l) (told_passed (at + 1) part rest ∙ ap (λ (n : ℕ). timing n rest) e)

-- ---- inputs and outputs

module _ (i : ℕ) where
  told_issuance : (at : ℕ) (x : Issuance) → IssuanceAllowed x → Told at (issuance_events i at x) (issuance_bytes (some x)) (issuance_timed i at x)
  unfolding issuance_bytes
  told_issuance at x g =
      let l₁ = g.blinding_nonce.long in
      let l₂ = g.entropy.long in
      let a₁ = at + length x.blinding_nonce in
      let a₂ = a₁ + length x.entropy in
      let a₃ = a₂ + length (value_bytes x.amount) in
      let e₁ : at + 32 ≡ a₁ = omega arith in
      let e₂ : at + 64 ≡ a₂ = omega arith in
      told_as at (issuance_events i at x) (issuance_bytes (some x)) _ (issuance_timed i at x)
      (λ j.
      timed (e₁ j) (entry input i 6 (at ∷ [])) ∷
      (value_timed (amount_note i) (amount_halves i) (e₂ j) x.amount ++ value_timed (keys_note i) (keys_halves i) (e₂ j + length (value_bytes x.amount)) x.keys))
      (told_both at _ _ _ _ _ _ (told_entering at _ _ _ (entry input i 6 (at ∷ [])) (told_passed at x.blinding_nonce))
      (told_both a₁ _ _ _ _ _ _ (told_passed a₁ x.entropy)
      (told_both a₂ _ _ _ _ _ _ (told_value (amount_note i) (amount_halves i) a₂ 0 x.amount) (told_value (keys_note i) (keys_halves i) a₃ 0 x.keys))))

  told_issued : (flags at : ℕ) (o : Option Issuance) → Flagged flags o → Told at (issued_events i at o) (issuance_bytes o) (issued_timed i at o)
  unfolding issuance_bytes
  told_issued flags at none g = told_none at
  told_issued flags at (some x) g = told_issuance at x g.2

  told_input : (at : ℕ) (x : Input) → InputAllowed x → Told at (input_events i at x) (input_bytes x) (input_timed i at x)
  unfolding input_bytes
  told_input at x g =
      let raw = bytes_of little 4 (raw_vout x.vout x.flags) in
      let seq = bytes_of little 4 x.sequence in
      let l₁ = g.txid.long in
      let l₂ = length_bytes little 4 (raw_vout x.vout x.flags) in
      let l₃ = length_bytes little 4 x.sequence in
      let a₁ = at + length x.txid in
      let a₂ = a₁ + length raw in
      let a₃ = a₂ + length (body_bytes x.script) in
      let e₁ : at + 32 ≡ a₁ = omega arith in
      let e₂ : at + 36 ≡ a₂ = omega arith in
      let e₄ : at + 36 + length (body_bytes x.script) + 4 ≡ a₃ + length seq = omega arith in
      told_as at (input_events i at x) (input_bytes x) _ (input_timed i at x)
      (λ j.
      timed (e₁ j) (entry input i 0 (at ∷ [])) ∷
      timed (e₂ j) (entry input i 1 (x.vout ∷ x.flags ∷ [])) ∷
      (body_timed (script_note i) (at + 36) x.script ++ (timed (e₄ j) (entry input i 5 (x.sequence ∷ [])) ∷ issued_timed i (at + 36 + length (body_bytes x.script) + 4) x.issuance)))
      (told_both at _ _ _ _ _ _ (told_entering at _ _ _ (entry input i 0 (at ∷ [])) (told_passed at x.txid))
      (told_both a₁ _ _ _ _ _ _ (told_entering a₁ _ _ _ (entry input i 1 (x.vout ∷ x.flags ∷ [])) (told_looked a₁ raw))
      (told_both a₂ _ _ _ _ _ _ (told_at (at + 36) a₂ _ _ _ e₂ (told_body (script_note i) (at + 36) x.script))
      (told_both a₃ _ _ _ _ _ _ (told_entering a₃ _ _ _ (entry input i 5 (x.sequence ∷ [])) (told_looked a₃ seq))
      (told_at (at + 36 + length (body_bytes x.script) + 4) (a₃ + length seq) _ _ _ e₄ (told_issued x.flags (at + 36 + length (body_bytes x.script) + 4) x.issuance g.issuance))))))

  told_output : (at : ℕ) (x : Output) → Told at (output_events i at x) (output_bytes x) (output_timed i at x)
  unfolding output_bytes
  told_output at x =
      let a₁ = at + length (token_bytes x.asset) in
      let a₂ = a₁ + length (value_bytes x.value) in
      let a₃ = a₂ + length (token_bytes x.nonce) in
      told_both at _ _ _ _ _ _ (told_token (out_note i 0) at x.asset)
      (told_both a₁ _ _ _ _ _ _ (told_value (out_note i 2) (out_note i 4) a₁ a₁ x.value)
      (told_both a₂ _ _ _ _ _ _ (told_token (out_note i 6) a₂ x.nonce) (told_body (out_note i 8) a₃ x.script)))

-- ---- so many

module _ {X : Type 0} (Good : X → Type 0) (bytes : X → List ℕ) (events : ℕ → ℕ → X → List Event) (one : ℕ → ℕ → X → List Timed) where
  told_all : ((i at : ℕ) (x : X) → Good x → Told at (events i at x) (bytes x) (one i at x)) → (i at : ℕ) (xs : List X) → Every Good xs → Told at (events_all bytes events i at xs) (flat bytes xs) (all_timed bytes one i at xs)
  unfolding flat
  told_all t i at [] g = told_none at
  told_all t i at (x ∷ xs) g = told_both at _ _ _ _ _ _ (t i at x g.0) (told_all t (suc i) (at + length (bytes x)) xs g.1)

  told_list : ((i at : ℕ) (x : X) → Good x → Told at (events i at x) (bytes x) (one i at x)) → (i at : ℕ) (xs : List X) → Every Good xs → Told at (looked (compact_bytes (length xs)) ++ events_all bytes events i (at + length (compact_bytes (length xs))) xs) (list_bytes bytes xs) (all_timed bytes one i (at + length (compact_bytes (length xs))) xs)
  unfolding list_bytes
  told_list t i at xs g = told_both at _ _ _ _ _ _ (told_looked at (compact_bytes (length xs))) (told_all t i (at + length (compact_bytes (length xs))) xs g)

any : {X : Type 0} (xs : List X) → Every (λ x. Unit {0}) xs
any [] = tt
any (x ∷ xs) = (tt, any xs)

-- ---- witnesses

told_stack : (note : ℕ → Entry) (first at : ℕ) (xs : List (List ℕ)) → Told at (stack_events note first at xs) (list_bytes body_bytes xs) (stack_timed note first at xs)
unfolding list_bytes
told_stack note first at xs =
    let c = compact_bytes (length xs) in
    told_both at _ _ _ _ _ _ (told_entering at _ _ _ (note (length xs)) (told_looked at c)) (told_all (λ x. Unit {0}) body_bytes item_events item_timed (λ j at x g. told_body (item_note j) at x) first (at + length c) xs (any xs))

told_input_witness : (i first at : ℕ) (x : InputWitness) → Told at (input_witness_events i first at x) (input_witness_bytes x) (input_witness_timed i first at x)
unfolding input_witness_bytes
told_input_witness i first at x =
    let a₁ = at + length (body_bytes x.amount_proof) in
    let a₂ = a₁ + length (body_bytes x.keys_proof) in
    let a₃ = a₂ + length (list_bytes body_bytes x.script_items) in
    told_both at _ _ _ _ _ _ (told_body (in_note i 13) at x.amount_proof)
    (told_both a₁ _ _ _ _ _ _ (told_body (in_note i 15) a₁ x.keys_proof)
    (told_both a₂ _ _ _ _ _ _ (told_stack (in_note i 17 first) first a₂ x.script_items) (told_stack (pegin_note i) (first + length x.script_items) a₃ x.pegin_items)))

told_output_witness : (i at : ℕ) (x : OutputWitness) → Told at (output_witness_events i at x) (output_witness_bytes x) (output_witness_timed i at x)
unfolding output_witness_bytes
told_output_witness i at x =
    let a₁ = at + length (body_bytes x.surjection_proof) in
    told_both at _ _ _ _ _ _ (told_body (out_note i 10) at x.surjection_proof) (told_body (out_note i 12) a₁ x.range_proof)

told_input_witnesses : (room i first at : ℕ) (xs : List InputWitness) → Told at (input_witnesses_events room i first at xs) (flat input_witness_bytes xs) (input_witnesses_timed i first at xs)
unfolding flat
told_input_witnesses room i first at [] = told_none at
told_input_witnesses room i first at (x ∷ xs) =
    told_both at _ _ _ _ _ _ (told_input_witness i first at x) (told_input_witnesses room (suc i) (first + length x.script_items + length x.pegin_items) (at + length (input_witness_bytes x)) xs)

told_tail : (room ins outs flag at : ℕ) (o : Option Witnesses) → Told at (tail_events room ins outs flag at o) (witnesses_bytes o) (tail_timed at o)
unfolding witnesses_bytes
told_tail room ins outs flag at none = told_none at
told_tail room ins outs flag at (some x) =
    told_both at _ _ _ _ _ _ (told_input_witnesses room 0 0 at x.inputs)
    (told_all (λ x. Unit {0}) output_witness_bytes output_witness_events output_witness_timed (λ i at x g. told_output_witness i at x) 0 (at + length (flat input_witness_bytes x.inputs)) x.outputs (any x.outputs))

-- ---- the transaction

module _ (room : Room) (x : Contents) (g : Formed room x) where
  told_whole : (at : ℕ) → Told at (whole_events room at x) (contents_bytes x) (whole_timed at x)
  unfolding contents_bytes
  told_whole at =
      let version = bytes_of little 4 x.version in
      let locktime = bytes_of little 4 x.locktime in
      let l₁ = length_bytes little 4 x.version in
      let l₂ = length_bytes little 4 x.locktime in
      let ins = list_bytes input_bytes x.inputs in
      let outs = list_bytes output_bytes x.outputs in
      let a₁ = at + length version in
      let a₂ = a₁ + 1 in
      let a₃ = a₂ + length ins in
      let a₄ = a₃ + length outs in
      let e₂ : at + 5 ≡ a₂ = omega arith in
      let e₃ : at + 5 + length ins ≡ a₃ = omega arith in
      let e₅ : at + 5 + length ins + length outs + 4 ≡ a₄ + length locktime = omega arith in
      told_both at _ _ _ _ _ _ (told_looked at version)
      (told_both a₁ (shown (flag_of x.witnesses) ∷ []) _ (flag_of x.witnesses ∷ []) _ [] _ (told_looked a₁ (flag_of x.witnesses ∷ []))
      (told_both a₂ _ _ _ _ _ _ (told_at (at + 5) a₂ _ _ _ e₂ (told_list InputFormed input_bytes input_events input_timed (λ i at y f. told_input i at y f.allowed) 0 (at + 5) x.inputs g.inputs))
      (told_both a₃ _ _ _ _ _ _ (told_at (at + 5 + length ins) a₃ _ _ _ e₃ (told_list (λ x. Unit {0}) output_bytes output_events output_timed (λ i at x g. told_output i at x) 0 (at + 5 + length ins) x.outputs (any x.outputs)))
      (told_both a₄ _ _ _ _ _ _ (told_looked a₄ locktime)
      (told_at (at + 5 + length ins + length outs + 4) (a₄ + length locktime) _ _ _ e₅ (told_tail room.items (length x.inputs) (length x.outputs) (flag_of x.witnesses) (at + 5 + length ins + length outs + 4) x.witnesses))))))

  pub whole_timing : timing 0 (whole_events room 0 x) ≡ whole_timed 0 x
  unfolding Told timing
  whole_timing = ap (timing 0) (sym (append-nil (whole_events room 0 x))) ∙ told_whole 0 [] ∙ append-nil (whole_timed 0 x)

  -- the reading of the first k bytes makes the entries of time at most k, whatever stands behind the transaction
  timed_by : (ys : List ℕ) (k : ℕ) → up_to k (trace (transaction room) (contents_bytes x ++ ys)) ≡ up_to k (whole_events room 0 x) → (run (transaction room) (take k (contents_bytes x ++ ys))).log ≡ entered (by k) (whole_timed 0 x)
  timed_by ys k e =
      log_by (transaction room) k (contents_bytes x ++ ys)
      ∙ ap entries e
      ∙ in_time k 0 (whole_events room 0 x)
      ∙ ap₂ (λ (n : ℕ) (ts : List Timed). entered (by n) ts) (zero-add k) whole_timing

  pub log_timed : length (contents_bytes x) ≤ limit → (ys : List ℕ) (k : ℕ) → (run (transaction room) (take k (contents_bytes x ++ ys))).log ≡ entered (by k) (whole_timed 0 x)
  log_timed h ys k = timed_by ys k (ap (up_to k) (traced room x g h ys))

  -- of whatever length, before a byte that is taken
  log_before : (ys : List ℕ) (k : ℕ) → k < (run (transaction room) (contents_bytes x ++ ys)).taken → (run (transaction room) (take k (contents_bytes x ++ ys))).log ≡ entered (by k) (whole_timed 0 x)
  log_before ys k h = timed_by ys k (goes_before k _ (whole_events room 0 x) (omega (arith, looks_taken (transaction room) (contents_bytes x ++ ys))) (goes room x g ys))

  -- no reading of the first k bytes is refused, since that of all of them finishes
  unrefused : length (contents_bytes x) ≤ limit → witnesses_empty x.witnesses ≡ false → (ys : List ℕ) (k n p : ℕ) → (run (transaction room) (take k (contents_bytes x ++ ys))).answer ≡ refused n p → ⊥
  unrefused h filled ys k n p e =
      let xs = contents_bytes x ++ ys in
      let same = ap (run (transaction room)) (sym (take-append-drop k xs)) ∙ stable (transaction room) (take k xs) (drop k xs) (λ q. refused_not_more (sym e ∙ q)) in
      refused_not_finished (sym e ∙ sym (ap (λ (r : Reading Head). r.answer) same) ∙ ap (λ (r : Reading Head). r.answer) (reads room x g h ys) ∙ ap (λ (t : Bool). cond t (refused 8 4) (finished (head_of x))) filled)

unrefused_shown : (a : Answer Head) (t z : Tables) → ((n p : ℕ) → a ≡ refused n p → ⊥) → Outcome.shown a t z ≡ t
unrefused_shown (finished h) t z never = refl
unrefused_shown more t z never = refl
unrefused_shown (refused n p) t z never = absurd (never n p refl)

-- so the tables of the first k bytes hold those entries, and 0 otherwise; of whatever length, while more is wanted
pub tables_before : (z : Sizes) (x : Contents) → Formed (room_of z) x → (ys : List ℕ) (k : ℕ) → k < (reading_of z (contents_bytes x ++ ys)).taken → (partial z (take k (contents_bytes x ++ ys))).answer ≡ more → (partial z (take k (contents_bytes x ++ ys))).tables ≡ laid (entered (by k) (whole_timed 0 x)) (zeros z)
tables_before z x g ys k h wants =
    let r = reading_of z (take k (contents_bytes x ++ ys)) in
    ap (λ (a : Answer Head). Outcome.shown a (laid r.log (zeros z)) (zeros z)) wants ∙ ap (λ (l : List Entry). laid l (zeros z)) (log_before (room_of z) x g ys k h)

pub tables_timed : (z : Sizes) (x : Contents) → Formed (room_of z) x → length (contents_bytes x) ≤ limit → witnesses_empty x.witnesses ≡ false → (ys : List ℕ) (k : ℕ) → (partial z (take k (contents_bytes x ++ ys))).tables ≡ laid (entered (by k) (whole_timed 0 x)) (zeros z)
tables_timed z x g h filled ys k =
    let r = reading_of z (take k (contents_bytes x ++ ys)) in
    unrefused_shown r.answer (laid r.log (zeros z)) (zeros z) (unrefused (room_of z) x g h filled ys k) ∙ ap (λ (l : List Entry). laid l (zeros z)) (log_timed (room_of z) x g h ys k)
