-- The logs of Parts and Whole with the bytes taken when each entry is made: positions count from the first byte, so that is where the
-- bytes taken end.
use Prim.Native.Nat.{ℕ, suc, ◌+◌, ◌/◌, ◌%◌, ◌^◌}
use mathlib.Core.Path.{◌≡◌, refl, ◌∙◌, ap, ap₂}
use mathlib.Core.Bool.{Bool, true, false, cond}
use mathlib.Core.List.{List, [], ◌∷◌, ◌++◌}
use mathlib.Core.Option.{Option, none, some}
use lib.Dec.{leb}
use lib.ListN.{length}
use Rattle.layout.specs.Layout.{Layout, Entry, input}
use Rattle.layout.specs.Transaction.{Head, Room, entry, input_at, output_at, item_at}
use Rattle.layout.specs.Contents.{Value, null, explicit, commitment, Token, Issuance, Input, Output, InputWitness, OutputWitness, Witnesses, Contents, compact_bytes, flat, body_bytes, list_bytes, value_bytes, token_bytes, input_bytes, output_bytes, input_witness_bytes, output_witness_bytes, flag_of}
use Rattle.layout.specs.Fields.{InputFormed, OutputFormed}
use Rattle.layout.specs.Records.{value_prefix, token_prefix}
use Rattle.layout.proofs.Codes.{log_all}
use Rattle.layout.proofs.Parts.{Body, body_log, amount_note, amount_halves, keys_note, keys_halves, value_log, issued_log, script_note, input_log, out_note, output_log, item_note, item_log, items_log, in_note, pegin_note, input_witness_log, output_witness_log}
use Rattle.layout.proofs.Whole.{input_witnesses_log, output_witnesses_log, tail_log, whole_log}

pub record Timed : Type 0 where
  pub time : ℕ
  pub entry : Entry

abbrev pub timed : ℕ → Entry → Timed
timed m e = record { time = m; entry = e }

-- the entries that are made by now, whichever times those are
unfoldable pub entered : (ℕ → Bool) → List Timed → List Entry
entered now [] = []
entered now (e ∷ es) = cond (now e.time) (e.entry ∷ entered now es) (entered now es)

-- once so many bytes are taken
abbrev pub by : ℕ → ℕ → Bool
by k m = leb m k

pub entered_both : (now : ℕ → Bool) (es fs : List Timed) → entered now (es ++ fs) ≡ entered now es ++ entered now fs
unfolding entered
entered_both now [] fs = refl
entered_both now (e ∷ es) fs = ap (λ (l : List Entry). cond (now e.time) (e.entry ∷ l) l) (entered_both now es fs) ∙ one (now e.time)
  where
    one : (b : Bool) → cond b (e.entry ∷ (entered now es ++ entered now fs)) (entered now es ++ entered now fs) ≡ cond b (e.entry ∷ entered now es) (entered now es) ++ entered now fs
    one true = refl
    one false = refl

-- ---- fields

-- with the length's last byte
abbrev pub body_timed : (ℕ → ℕ → Entry) → ℕ → List ℕ → List Timed
body_timed note at xs =
    let at' = at + length (compact_bytes (length xs)) in
    timed at' (note at' (length xs)) ∷ []

abbrev pub amount_timed : (ℕ → ℕ → Entry) → ℕ → Value → List Timed
amount_timed amount m null = []
amount_timed amount m (explicit v) = timed m (amount (v / 2 ^ 32) (v % 2 ^ 32)) ∷ []
amount_timed amount m (commitment p part) = []

abbrev pub value_timed : (ℕ → ℕ → Entry) → (ℕ → ℕ → Entry) → ℕ → Value → List Timed
value_timed note amount at v = timed (at + 1) (note (value_prefix v) at) ∷ amount_timed amount (at + 9) v

abbrev pub token_timed : (ℕ → ℕ → Entry) → ℕ → Token → List Timed
token_timed note at t = timed (at + 1) (note (token_prefix t) at) ∷ []

-- ---- inputs and outputs

module _ (i : ℕ) where
  abbrev pub issuance_timed : ℕ → Issuance → List Timed
  issuance_timed at x =
      timed (at + 32) (entry input i 6 (at ∷ [])) ∷
      (value_timed (amount_note i) (amount_halves i) (at + 64) x.amount ++ value_timed (keys_note i) (keys_halves i) (at + 64 + length (value_bytes x.amount)) x.keys)

  abbrev pub issued_timed : ℕ → Option Issuance → List Timed
  issued_timed at none = []
  issued_timed at (some x) = issuance_timed at x

  abbrev pub input_timed : ℕ → Input → List Timed
  input_timed at x =
      let at₁ = at + 36 + length (body_bytes x.script) + 4 in
      timed (at + 32) (entry input i 0 (at ∷ [])) ∷
      timed (at + 36) (entry input i 1 (x.vout ∷ x.flags ∷ [])) ∷
      (body_timed (script_note i) (at + 36) x.script ++ (timed at₁ (entry input i 5 (x.sequence ∷ [])) ∷ issued_timed at₁ x.issuance))

  abbrev pub output_timed : ℕ → Output → List Timed
  output_timed at x =
      let at₁ = at + length (token_bytes x.asset) in
      let at₂ = at₁ + length (value_bytes x.value) in
      let at₃ = at₂ + length (token_bytes x.nonce) in
      token_timed (out_note i 0) at x.asset ++ (value_timed (out_note i 2) (out_note i 4) at₁ x.value ++ (token_timed (out_note i 6) at₂ x.nonce ++ body_timed (out_note i 8) at₃ x.script))

-- of each, one behind the other, numbered on from i
module _ {X : Type 0} (bytes : X → List ℕ) (one : ℕ → ℕ → X → List Timed) where
  abbrev pub all_timed : ℕ → ℕ → List X → List Timed
  all_timed i at [] = []
  all_timed i at (x ∷ xs) = one i at x ++ all_timed (suc i) (at + length (bytes x)) xs

abbrev pub inputs_timed : ℕ → ℕ → List Input → List Timed
inputs_timed = all_timed input_bytes input_timed

abbrev pub outputs_timed : ℕ → ℕ → List Output → List Timed
outputs_timed = all_timed output_bytes output_timed

-- ---- witnesses

abbrev pub item_timed : ℕ → ℕ → List ℕ → List Timed
item_timed j = body_timed (item_note j)

abbrev pub items_timed : ℕ → ℕ → List (List ℕ) → List Timed
items_timed = all_timed body_bytes item_timed

-- with the count's last byte, before the items
abbrev pub stack_timed : (ℕ → Entry) → ℕ → ℕ → List (List ℕ) → List Timed
stack_timed note first at xs =
    let at' = at + length (compact_bytes (length xs)) in
    timed at' (note (length xs)) ∷ items_timed first at' xs

module _ (i : ℕ) where
  abbrev pub input_witness_timed : ℕ → ℕ → InputWitness → List Timed
  input_witness_timed first at x =
      let at₁ = at + length (body_bytes x.amount_proof) in
      let at₂ = at₁ + length (body_bytes x.keys_proof) in
      let at₃ = at₂ + length (list_bytes body_bytes x.script_items) in
      body_timed (in_note i 13) at x.amount_proof ++ (body_timed (in_note i 15) at₁ x.keys_proof ++ (stack_timed (in_note i 17 first) first at₂ x.script_items ++ stack_timed (pegin_note i) (first + length x.script_items) at₃ x.pegin_items))

  abbrev pub output_witness_timed : ℕ → OutputWitness → List Timed
  output_witness_timed at x = body_timed (out_note i 10) at x.surjection_proof ++ body_timed (out_note i 12) (at + length (body_bytes x.surjection_proof)) x.range_proof

abbrev pub input_witnesses_timed : ℕ → ℕ → ℕ → List InputWitness → List Timed
input_witnesses_timed i first at [] = []
input_witnesses_timed i first at (x ∷ xs) = input_witness_timed i first at x ++ input_witnesses_timed (suc i) (first + length x.script_items + length x.pegin_items) (at + length (input_witness_bytes x)) xs

abbrev pub output_witnesses_timed : ℕ → ℕ → List OutputWitness → List Timed
output_witnesses_timed = all_timed output_witness_bytes output_witness_timed

abbrev pub witnesses_timed : ℕ → Witnesses → List Timed
witnesses_timed at x = input_witnesses_timed 0 0 at x.inputs ++ output_witnesses_timed 0 (at + length (flat input_witness_bytes x.inputs)) x.outputs

abbrev pub tail_timed : ℕ → Option Witnesses → List Timed
tail_timed at none = []
tail_timed at (some x) = witnesses_timed at x

-- ---- the transaction, from a position on

abbrev pub whole_timed : ℕ → Contents → List Timed
whole_timed at x =
    let at₁ = at + 5 in
    let at₂ = at₁ + length (list_bytes input_bytes x.inputs) in
    let at₃ = at₂ + length (list_bytes output_bytes x.outputs) + 4 in
    inputs_timed 0 (at₁ + length (compact_bytes (length x.inputs))) x.inputs
    ++ (outputs_timed 0 (at₂ + length (compact_bytes (length x.outputs))) x.outputs
    ++ tail_timed at₃ x.witnesses)

-- ---- with nothing left out, the log itself

abbrev always : ℕ → Bool
always m = true

value_log_lem : (note amount : ℕ → ℕ → Entry) (at : ℕ) (v : Value) → entered always (value_timed note amount at v) ≡ value_log note amount at v
unfolding entered
value_log_lem note amount at null = refl
value_log_lem note amount at (explicit v) = refl
value_log_lem note amount at (commitment p part) = refl

issued_log_lem : (i at : ℕ) (o : Option Issuance) → entered always (issued_timed i at o) ≡ issued_log i at o
unfolding entered
issued_log_lem i at none = refl
issued_log_lem i at (some x) =
    let at' = at + 64 + length (value_bytes x.amount) in
    ap (λ (es : List Entry). entry input i 6 (at ∷ []) ∷ es)
    (entered_both always (value_timed (amount_note i) (amount_halves i) (at + 64) x.amount) (value_timed (keys_note i) (keys_halves i) at' x.keys)
    ∙ ap₂ (λ (es fs : List Entry). es ++ fs) (value_log_lem (amount_note i) (amount_halves i) (at + 64) x.amount) (value_log_lem (keys_note i) (keys_halves i) at' x.keys))

input_log_lem : (i at : ℕ) (x : Input) → entered always (input_timed i at x) ≡ input_log i at x
unfolding entered
input_log_lem i at x =
    let p = at + 36 + length (compact_bytes (length x.script)) in
    ap (λ (es : List Entry). entry input i 0 (at ∷ []) ∷ entry input i 1 (x.vout ∷ x.flags ∷ []) ∷ script_note i p (length x.script) ∷ entry input i 5 (x.sequence ∷ []) ∷ es) (issued_log_lem i (at + 36 + length (body_bytes x.script) + 4) x.issuance)

output_log_lem : (i at : ℕ) (x : Output) → entered always (output_timed i at x) ≡ output_log i at x
unfolding entered
output_log_lem i at x =
    let at₁ = at + length (token_bytes x.asset) in
    let at₂ = at₁ + length (value_bytes x.value) in
    let at₃ = at₂ + length (token_bytes x.nonce) in
    ap (λ (es : List Entry). out_note i 0 (token_prefix x.asset) at ∷ es)
    (entered_both always (value_timed (out_note i 2) (out_note i 4) at₁ x.value) (token_timed (out_note i 6) at₂ x.nonce ++ body_timed (out_note i 8) at₃ x.script)
    ∙ ap (λ (es : List Entry). es ++ (out_note i 6 (token_prefix x.nonce) at₂ ∷ body_log (out_note i 8) at₃ x.script)) (value_log_lem (out_note i 2) (out_note i 4) at₁ x.value))

module _ {X : Type 0} (part : ℕ → ℕ → (ℕ → Layout Head) → Layout Head) (Good : X → Type 0) (bytes : X → List ℕ) (one : ℕ → ℕ → X → List Timed) (log : ℕ → ℕ → X → List Entry) (same : (i at : ℕ) (x : X) → entered always (one i at x) ≡ log i at x) where
  all_log : (i at : ℕ) (xs : List X) → entered always (all_timed bytes one i at xs) ≡ log_all part Good bytes log i at xs
  unfolding entered
  all_log i at [] = refl
  all_log i at (x ∷ xs) = entered_both always (one i at x) (all_timed bytes one (suc i) (at + length (bytes x)) xs) ∙ ap₂ (λ (es fs : List Entry). es ++ fs) (same i at x) (all_log (suc i) (at + length (bytes x)) xs)

item_log_lem : (j at : ℕ) (x : List ℕ) → entered always (item_timed j at x) ≡ item_log j at x
unfolding entered
item_log_lem j at x = refl

items_log_lem : (j at : ℕ) (xs : List (List ℕ)) → entered always (items_timed j at xs) ≡ items_log j at xs
items_log_lem = all_log item_at Body body_bytes item_timed item_log item_log_lem

witness_log : (i first at : ℕ) (x : InputWitness) → entered always (input_witness_timed i first at x) ≡ input_witness_log i first at x
unfolding entered
witness_log i first at x =
    let at₁ = at + length (body_bytes x.amount_proof) in
    let at₂ = at₁ + length (body_bytes x.keys_proof) in
    let at₃ = at₂ + length (list_bytes body_bytes x.script_items) in
    let script = at₂ + length (compact_bytes (length x.script_items)) in
    let pegin = at₃ + length (compact_bytes (length x.pegin_items)) in
    let second = first + length x.script_items in
    ap (λ (es : List Entry). in_note i 13 (at + length (compact_bytes (length x.amount_proof))) (length x.amount_proof) ∷ in_note i 15 (at₁ + length (compact_bytes (length x.keys_proof))) (length x.keys_proof) ∷ in_note i 17 first (length x.script_items) ∷ es)
    (entered_both always (items_timed first script x.script_items) (timed pegin (pegin_note i (length x.pegin_items)) ∷ items_timed second pegin x.pegin_items)
    ∙ ap₂ (λ (es fs : List Entry). es ++ (pegin_note i (length x.pegin_items) ∷ fs)) (items_log_lem first script x.script_items) (items_log_lem second pegin x.pegin_items))

witnesses_log_lem : (room i first at : ℕ) (ws : List InputWitness) → entered always (input_witnesses_timed i first at ws) ≡ input_witnesses_log room i first at ws
unfolding entered
witnesses_log_lem room i first at [] = refl
witnesses_log_lem room i first at (w ∷ ws) =
    let next = first + length w.script_items + length w.pegin_items in
    let at' = at + length (input_witness_bytes w) in
    entered_both always (input_witness_timed i first at w) (input_witnesses_timed (suc i) next at' ws) ∙ ap₂ (λ (es fs : List Entry). es ++ fs) (witness_log i first at w) (witnesses_log_lem room (suc i) next at' ws)

output_witnesses_log_lem : (i at : ℕ) (ws : List OutputWitness) → entered always (output_witnesses_timed i at ws) ≡ output_witnesses_log i at ws
unfolding entered
output_witnesses_log_lem i at [] = refl
output_witnesses_log_lem i at (w ∷ ws) = ap (λ (es : List Entry). output_witness_log i at w ++ es) (output_witnesses_log_lem (suc i) (at + length (output_witness_bytes w)) ws)

tail_log_lem : (room : Room) (ins outs flag at : ℕ) (o : Option Witnesses) → entered always (tail_timed at o) ≡ tail_log room.items ins outs flag at o
unfolding entered
tail_log_lem room ins outs flag at none = refl
tail_log_lem room ins outs flag at (some x) =
    let at' = at + length (flat input_witness_bytes x.inputs) in
    entered_both always (input_witnesses_timed 0 0 at x.inputs) (output_witnesses_timed 0 at' x.outputs)
    ∙ ap₂ (λ (es fs : List Entry). es ++ fs) (witnesses_log_lem room.items 0 0 at x.inputs) (output_witnesses_log_lem 0 at' x.outputs)

pub whole_log_lem : (room : Room) (at : ℕ) (x : Contents) → entered (λ m. true) (whole_timed at x) ≡ whole_log room at x
whole_log_lem room at x =
    let at₁ = at + 5 + length (compact_bytes (length x.inputs)) in
    let at₂ = at + 5 + length (list_bytes input_bytes x.inputs) + length (compact_bytes (length x.outputs)) in
    let at₃ = at + 5 + length (list_bytes input_bytes x.inputs) + length (list_bytes output_bytes x.outputs) + 4 in
    entered_both always (inputs_timed 0 at₁ x.inputs) (outputs_timed 0 at₂ x.outputs ++ tail_timed at₃ x.witnesses)
    ∙ ap₂ (λ (es fs : List Entry). es ++ fs) (all_log input_at InputFormed input_bytes input_timed input_log input_log_lem 0 at₁ x.inputs)
    (entered_both always (outputs_timed 0 at₂ x.outputs) (tail_timed at₃ x.witnesses)
    ∙ ap₂ (λ (es fs : List Entry). es ++ fs) (all_log output_at OutputFormed output_bytes output_timed output_log output_log_lem 0 at₂ x.outputs) (tail_log_lem room (length x.inputs) (length x.outputs) (flag_of x.witnesses) at₃ x.witnesses))
