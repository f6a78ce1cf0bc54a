-- The tables of a reading are the transaction's records, each number kept if its moment has come, and then zeros; of a finished reading, all.
use Prim.Native.Nat.{ℕ, zero, suc, ◌+◌, ◌*◌, ◌/◌, ◌%◌, ◌^◌}
use mathlib.Core.Path.{◌≡◌, refl, sym, ◌∙◌, ap, ap₂, subst}
use mathlib.Core.Bool.{Bool, true, false, cond}
use mathlib.Core.List.{List, [], ◌∷◌, ◌++◌, append_assoc, append-nil}
use mathlib.Core.Option.{Option, none, some}
use native.Mathlib.Nat.{add_assoc, mul-add}
use native.Mathlib.Numerals.{add-one}
use native.Mathlib.Omega.{arith}
use lib.ListN.{length, replicate, length-append, length-replicate, replicate-append-replicate}
use Rattle.layout.specs.Layout.{Entry, Table, input, output, item}
use Rattle.layout.specs.Transaction.{entry}
use Rattle.layout.specs.Outcome.{Sizes, room_of, zeros, laid}
use Rattle.layout.specs.Contents.{Value, null, explicit, commitment, Issuance, Input, Output, InputWitness, OutputWitness, Witnesses, Contents, flat, body_bytes, list_bytes, value_bytes, token_bytes, input_bytes, output_bytes, input_witness_bytes, output_witness_bytes, Every}
use Rattle.layout.proofs.Forming.{Matches}
use Rattle.layout.specs.Records.{items_of, sum, item_count, Fits, body_columns, value_prefix, high, low, token_prefix, issuance_columns, input_columns, input_witness_columns, output_columns, output_witness_columns, placed, placed_witnesses, stack_records, witness_items, witnesses_items, beside, inputs_at, outputs_at, witnesses_at, input_witness_records, output_witness_records, all_items, tables_of}
use Rattle.layout.specs.Moments.{counted, body_moments, issuance_moments, input_moments, input_witness_moments, output_moments, output_witness_moments, stack_moments, witness_item_moments, witnesses_item_moments, all_input_witness_moments, all_output_witness_moments, all_item_moments, moments_of, kept, kept_in}
use Rattle.layout.proofs.Parts.{amount_note, amount_halves, keys_note, keys_halves, out_note}
use Rattle.layout.proofs.Whole.{whole_log}
use Rattle.layout.proofs.Timed.{Timed, timed, entered, value_timed, issued_timed, input_timed, output_timed, inputs_timed, outputs_timed, item_timed, items_timed, input_witness_timed, output_witness_timed, input_witnesses_timed, output_witnesses_timed, tail_timed, whole_timed, whole_log_lem}
use Rattle.layout.proofs.Kept.{Alike, alike_placed, alike_same, alike_both, alike_beside, alike_table, kept_rows, kept_zero, kept_blanks, kept_all, kept_placed, rows_same, rows_both, rows_beside, rows_long, rows_table}
use Rattle.layout.proofs.Cells.{same, Cell, cell, cells, Off, off_both, flat_both, bare_flat, bare_beside, nothing_flat, laid_in, laid_tables, laid_both, laid_off, laid_skip, Turns, ByCells, turned, all_turn, Completes, no_record, record_more, completed, filled}
pub use Rattle.layout.proofs.Cells.{blanks, placed_length, table_of}

-- ---- logs that leave a table alone

items_off : (t : Table) → same t item ≡ false → (j at : ℕ) (xs : List (List ℕ)) → Off t (items_timed j at xs)
items_off t n j at [] = tt
items_off t n j at (x ∷ xs) = (n, items_off t n (suc j) (at + length (body_bytes x)) xs)

value_off : (t : Table) (note amount : ℕ → ℕ → Entry) → ((a b : ℕ) → same t (note a b).table ≡ false) → ((a b : ℕ) → same t (amount a b).table ≡ false) → (at : ℕ) (v : Value) → Off t (value_timed note amount at v)
value_off t note amount n m at null = (n 0 at, tt)
value_off t note amount n m at (explicit v) = (n 1 at, (m (v / 2 ^ 32) (v % 2 ^ 32), tt))
value_off t note amount n m at (commitment p part) = (n p at, tt)

-- where a witness's script count and its pegin count stand
abbrev at_items : ℕ → InputWitness → ℕ
at_items at x = at + length (body_bytes x.amount_proof) + length (body_bytes x.keys_proof)

abbrev at_pegin : ℕ → InputWitness → ℕ
at_pegin at x = at_items at x + length (list_bytes body_bytes x.script_items)

module _ (i first at : ℕ) (x : InputWitness) where
  abbrev script_timed : List Timed
  script_timed = items_timed first (counted (at_items at x) x.script_items) x.script_items

  abbrev pegin_timed : List Timed
  pegin_timed = items_timed (first + length x.script_items) (counted (at_pegin at x) x.pegin_items) x.pegin_items

  -- proofs and script count; pegin count
  abbrev counted_timed : List Timed
  counted_timed =
      let at₁ = at + length (body_bytes x.amount_proof) in
      timed (counted at x.amount_proof) (entry input i 13 (body_columns at x.amount_proof)) ∷
      timed (counted at₁ x.keys_proof) (entry input i 15 (body_columns at₁ x.keys_proof)) ∷
      timed (counted (at_items at x) x.script_items) (entry input i 17 (first ∷ length x.script_items ∷ [])) ∷
      []

  abbrev pegin_counted : Timed
  pegin_counted = timed (counted (at_pegin at x) x.pegin_items) (entry input i 19 (length x.pegin_items ∷ []))

module _ (t : Table) (n : same t input ≡ false) where
  issued_off : (i at : ℕ) (o : Option Issuance) → Off t (issued_timed i at o)
  issued_off i at none = tt
  issued_off i at (some x) =
      let a = value_timed (amount_note i) (amount_halves i) (at + 64) x.amount in
      let k = value_timed (keys_note i) (keys_halves i) (at + 64 + length (value_bytes x.amount)) x.keys in
      (n, off_both t a k (value_off t (amount_note i) (amount_halves i) (λ a b. n) (λ a b. n) (at + 64) x.amount) (value_off t (keys_note i) (keys_halves i) (λ a b. n) (λ a b. n) (at + 64 + length (value_bytes x.amount)) x.keys))

  inputs_off : (xs : List Input) (i at : ℕ) → Off t (inputs_timed i at xs)
  inputs_off [] i at = tt
  inputs_off (x ∷ xs) i at = off_both t (input_timed i at x) (inputs_timed (suc i) (at + length (input_bytes x)) xs) (n, (n, (n, (n, issued_off i (at + 36 + length (body_bytes x.script) + 4) x.issuance)))) (inputs_off xs (suc i) (at + length (input_bytes x)))

  witnesses_off : same t item ≡ false → (ws : List InputWitness) (i first at : ℕ) → Off t (input_witnesses_timed i first at ws)
  witnesses_off m [] i first at = tt
  witnesses_off m (w ∷ ws) i first at =
      off_both t (input_witness_timed i first at w) (input_witnesses_timed (suc i) (first + length w.script_items + length w.pegin_items) (at + length (input_witness_bytes w)) ws)
      (n, (n, (n, off_both t (script_timed i first at w) (pegin_counted i first at w ∷ pegin_timed i first at w) (items_off t m first _ w.script_items) (n, items_off t m (first + length w.script_items) _ w.pegin_items))))
      (witnesses_off m ws (suc i) (first + length w.script_items + length w.pegin_items) (at + length (input_witness_bytes w)))

module _ (t : Table) (n : same t output ≡ false) where
  outputs_off : (xs : List Output) (i at : ℕ) → Off t (outputs_timed i at xs)
  outputs_off [] i at = tt
  outputs_off (x ∷ xs) i at =
      let at₁ = at + length (token_bytes x.asset) in
      let at₂ = at₁ + length (value_bytes x.value) in
      let at₃ = at₂ + length (token_bytes x.nonce) in
      let p = counted at₃ x.script in
      off_both t (output_timed i at x) (outputs_timed (suc i) (at + length (output_bytes x)) xs)
      (n, off_both t (value_timed (out_note i 2) (out_note i 4) at₁ x.value) (timed (at₂ + 1) (out_note i 6 (token_prefix x.nonce) at₂) ∷ timed p (out_note i 8 p (length x.script)) ∷ []) (value_off t (out_note i 2) (out_note i 4) (λ a b. n) (λ a b. n) at₁ x.value) (n, (n, tt)))
      (outputs_off xs (suc i) (at + length (output_bytes x)))

  output_witnesses_off : (ws : List OutputWitness) (i at : ℕ) → Off t (output_witnesses_timed i at ws)
  output_witnesses_off [] i at = tt
  output_witnesses_off (w ∷ ws) i at = (n, (n, output_witnesses_off ws (suc i) (at + length (output_witness_bytes w))))

issuance_long : (at : ℕ) (o : Option Issuance) → length (issuance_columns at o) ≡ 7
issuance_long at none = refl
issuance_long at (some x) = refl

pub input_long : (at : ℕ) (x : Input) → length (input_columns at x) ≡ 13
input_long at x = ap (λ (n : ℕ). suc (suc (suc (suc (suc (suc n)))))) (issuance_long (at + 36 + length (body_bytes x.script) + 4) x.issuance)

-- ---- records and their moments have one shape

issuance_alike : (at : ℕ) (o : Option Issuance) → length (issuance_moments at o) ≡ length (issuance_columns at o)
issuance_alike at none = refl
issuance_alike at (some x) = refl

input_alike : (at : ℕ) (x : Input) → length (input_moments at x) ≡ length (input_columns at x)
input_alike at x = ap (λ (n : ℕ). suc (suc (suc (suc (suc (suc n)))))) (issuance_alike (at + 36 + length (body_bytes x.script) + 4) x.issuance)

witnesses_alike : (first at : ℕ) (ws : List InputWitness) → Alike (placed input_witness_bytes input_witness_moments at ws) (placed_witnesses first at ws)
unfolding placed placed_witnesses
witnesses_alike first at [] = tt
witnesses_alike first at (w ∷ ws) = (refl, witnesses_alike (first + items_of w) (at + length (input_witness_bytes w)) ws)

input_witness_alike : (at n : ℕ) (o : Option Witnesses) → Alike (all_input_witness_moments at n o) (input_witness_records at n o)
input_witness_alike at n none = alike_same n 7 at
input_witness_alike at n (some w) = witnesses_alike 0 at w.inputs

output_witness_alike : (at n : ℕ) (o : Option Witnesses) → Alike (all_output_witness_moments at n o) (output_witness_records at n o)
output_witness_alike at n none = alike_same n 4 at
output_witness_alike at n (some w) = alike_placed output_witness_bytes output_witness_moments output_witness_columns (λ at x. refl) _ w.outputs

items_alike : (at : ℕ) (x : InputWitness) → Alike (witness_item_moments at x) (witness_items at x)
items_alike at x =
    alike_both (stack_moments (at_items at x) x.script_items) (stack_records (at_items at x) x.script_items) (stack_moments (at_pegin at x) x.pegin_items) (stack_records (at_pegin at x) x.pegin_items)
    (alike_placed body_bytes body_moments body_columns (λ at x. refl) _ x.script_items) (alike_placed body_bytes body_moments body_columns (λ at x. refl) _ x.pegin_items)

witnesses_items_alike : (at : ℕ) (ws : List InputWitness) → Alike (witnesses_item_moments at ws) (witnesses_items at ws)
unfolding witnesses_item_moments witnesses_items
witnesses_items_alike at [] = tt
witnesses_items_alike at (w ∷ ws) = alike_both (witness_item_moments at w) (witness_items at w) (witnesses_item_moments (at + length (input_witness_bytes w)) ws) (witnesses_items (at + length (input_witness_bytes w)) ws) (items_alike at w) (witnesses_items_alike (at + length (input_witness_bytes w)) ws)

all_items_alike : (at : ℕ) (o : Option Witnesses) → Alike (all_item_moments at o) (all_items at o)
all_items_alike at none = tt
all_items_alike at (some w) = witnesses_items_alike at w.inputs

-- ---- the rows of what is entered by now

module _ (now : ℕ → Bool) where
  -- ---- inputs

  abbrev if : ℕ → ℕ → ℕ
  if m n = cond (now m) n 0

  -- high and low of a value that starts there
  abbrev high_if : ℕ → Value → ℕ
  high_if at null = 0
  high_if at (explicit v) = if (at + 9) (v / 2 ^ 32)
  high_if at (commitment p part) = 0

  abbrev low_if : ℕ → Value → ℕ
  low_if at null = 0
  low_if at (explicit v) = if (at + 9) (v % 2 ^ 32)
  low_if at (commitment p part) = 0

  high_if_lem : (at : ℕ) (v : Value) → high_if at v ≡ if (at + 9) (high v)
  high_if_lem at null = sym (kept_zero (now (at + 9)))
  high_if_lem at (explicit v) = refl
  high_if_lem at (commitment p part) = sym (kept_zero (now (at + 9)))

  low_if_lem : (at : ℕ) (v : Value) → low_if at v ≡ if (at + 9) (low v)
  low_if_lem at null = sym (kept_zero (now (at + 9)))
  low_if_lem at (explicit v) = refl
  low_if_lem at (commitment p part) = sym (kept_zero (now (at + 9)))

  abbrev value_cells : ℕ → ℕ → Value → List Cell
  value_cells at c null = cell (at + 1) c (0 ∷ []) ∷ []
  value_cells at c (explicit v) = cell (at + 1) c (1 ∷ []) ∷ cell (at + 9) (c + 1) (v / 2 ^ 32 ∷ v % 2 ^ 32 ∷ []) ∷ []
  value_cells at c (commitment p part) = cell (at + 1) c (p ∷ []) ∷ []

  -- an input record without its witness
  abbrev kept_input : ℕ → Input → List ℕ
  kept_input at x = kept now (input_moments at x) (input_columns at x)

  module _ (i at vout flags p n sequence at' at'' : ℕ) where
    abbrev first_cells : List Cell → List Cell
    first_cells cs = cell (at + 32) 0 (at ∷ []) ∷ cell (at + 36) 1 (vout ∷ flags ∷ []) ∷ cell p 3 (p ∷ n ∷ []) ∷ cell at' 5 (sequence ∷ []) ∷ cs

    abbrev first_timed : List Timed → List Timed
    first_timed es = timed (at + 32) (entry input i 0 (at ∷ [])) ∷ timed (at + 36) (entry input i 1 (vout ∷ flags ∷ [])) ∷ timed p (entry input i 3 (p ∷ n ∷ [])) ∷ timed at' (entry input i 5 (sequence ∷ [])) ∷ es

    abbrev first_columns : List ℕ → List ℕ
    first_columns ns = if (at + 32) at ∷ if (at + 36) vout ∷ if (at + 36) flags ∷ if p p ∷ if p n ∷ if at' sequence ∷ (ns ++ blanks 7)

    plain_cells : ByCells now input i 0 20 (first_timed []) (first_cells []) (blanks 20) (first_columns (blanks 7))
    plain_cells = record { log = refl; filled = refl; fits = refl; long = refl }

    abbrev IssuedCells : Value → Value → Type 0
    IssuedCells a k =
        ByCells now input i 0 20
        (first_timed (timed (at' + 32) (entry input i 6 (at' ∷ [])) ∷ (value_timed (amount_note i) (amount_halves i) (at' + 64) a ++ value_timed (keys_note i) (keys_halves i) at'' k)))
        (first_cells (cell (at' + 32) 6 (at' ∷ []) ∷ (value_cells (at' + 64) 7 a ++ value_cells at'' 10 k)))
        (blanks 20)
        (first_columns (if (at' + 32) at' ∷ if (at' + 64 + 1) (value_prefix a) ∷ high_if (at' + 64) a ∷ low_if (at' + 64) a ∷ if (at'' + 1) (value_prefix k) ∷ high_if at'' k ∷ low_if at'' k ∷ []))

    issued_cells : (a k : Value) → IssuedCells a k
    issued_cells null null = record { log = refl; filled = refl; fits = refl; long = refl }
    issued_cells null (explicit k) = record { log = refl; filled = refl; fits = refl; long = refl }
    issued_cells null (commitment q part) = record { log = refl; filled = refl; fits = refl; long = refl }
    issued_cells (explicit a) null = record { log = refl; filled = refl; fits = refl; long = refl }
    issued_cells (explicit a) (explicit k) = record { log = refl; filled = refl; fits = refl; long = refl }
    issued_cells (explicit a) (commitment q part) = record { log = refl; filled = refl; fits = refl; long = refl }
    issued_cells (commitment b part) null = record { log = refl; filled = refl; fits = refl; long = refl }
    issued_cells (commitment b part) (explicit k) = record { log = refl; filled = refl; fits = refl; long = refl }
    issued_cells (commitment b part) (commitment q part') = record { log = refl; filled = refl; fits = refl; long = refl }

  module _ (i at vout flags p n sequence at' : ℕ) where
    -- a null field's numbers are 0 before and after
    issued_turns : (o : Option Issuance) → Turns now input i 0 (first_timed i at vout flags p n sequence at' 0 (issued_timed i at' o)) (blanks 20) (first_columns i at vout flags p n sequence at' 0 (kept now (issuance_moments at' o) (issuance_columns at' o)))
    unfolding kept
    issued_turns none front behind e =
        turned now (plain_cells i at vout flags p n sequence at' 0) front behind e
        ∙ ap (λ (ns : List ℕ). front ++ (first_columns i at vout flags p n sequence at' 0 ns ++ behind)) (sym (kept_blanks now at' 7))
    issued_turns (some x) front behind e =
        let at'' = at' + 64 + length (value_bytes x.amount) in
        let a = x.amount in
        let k = x.keys in
        turned now (issued_cells i at vout flags p n sequence at' at'' a k) front behind e
        ∙ λ j. front ++ (first_columns i at vout flags p n sequence at' 0 (if (at' + 32) at' ∷ if (at' + 64 + 1) (value_prefix a) ∷ high_if_lem (at' + 64) a j ∷ low_if_lem (at' + 64) a j ∷ if (at'' + 1) (value_prefix k) ∷ high_if_lem at'' k j ∷ low_if_lem at'' k j ∷ []) ++ behind)

  input_turns : (i at : ℕ) (x : Input) → Turns now input i 0 (input_timed i at x) (blanks 20) (kept_input at x ++ blanks 7)
  unfolding kept
  input_turns i at x = issued_turns i at x.vout x.flags (counted (at + 36) x.script) (length x.script) x.sequence (at + 36 + length (body_bytes x.script) + 4) x.issuance

  kept_issuance_long : (at : ℕ) (o : Option Issuance) → length (kept now (issuance_moments at o) (issuance_columns at o)) ≡ 7
  unfolding kept
  kept_issuance_long at none = refl
  kept_issuance_long at (some x) = refl

  kept_input_long : (at : ℕ) (x : Input) → length (kept_input at x) ≡ 13
  unfolding kept
  kept_input_long at x = ap (λ (n : ℕ). suc (suc (suc (suc (suc (suc n)))))) (kept_issuance_long (at + 36 + length (body_bytes x.script) + 4) x.issuance)

  -- ---- outputs

  abbrev kept_output : ℕ → Output → List ℕ
  kept_output at x = kept now (output_moments at x) (output_columns at x)

  abbrev output_value_cells : ℕ → Value → List Cell
  output_value_cells at null = cell (at + 1) 2 (0 ∷ at ∷ []) ∷ []
  output_value_cells at (explicit v) = cell (at + 1) 2 (1 ∷ at ∷ []) ∷ cell (at + 9) 4 (v / 2 ^ 32 ∷ v % 2 ^ 32 ∷ []) ∷ []
  output_value_cells at (commitment p part) = cell (at + 1) 2 (p ∷ at ∷ []) ∷ []

  module _ (i a at b at₁ at₂ p n : ℕ) where
    abbrev OutputCells : Value → Type 0
    OutputCells v =
        ByCells now output i 0 14
        (timed (at + 1) (out_note i 0 a at) ∷ (value_timed (out_note i 2) (out_note i 4) at₁ v ++ (timed (at₂ + 1) (out_note i 6 b at₂) ∷ timed p (out_note i 8 p n) ∷ [])))
        (cell (at + 1) 0 (a ∷ at ∷ []) ∷ (output_value_cells at₁ v ++ (cell (at₂ + 1) 6 (b ∷ at₂ ∷ []) ∷ cell p 8 (p ∷ n ∷ []) ∷ [])))
        (blanks 14)
        (if (at + 1) a ∷ if (at + 1) at ∷ if (at₁ + 1) (value_prefix v) ∷ if (at₁ + 1) at₁ ∷ high_if at₁ v ∷ low_if at₁ v ∷ if (at₂ + 1) b ∷ if (at₂ + 1) at₂ ∷ if p p ∷ if p n ∷ 0 ∷ 0 ∷ 0 ∷ 0 ∷ [])

    output_cells : (v : Value) → OutputCells v
    output_cells null = record { log = refl; filled = refl; fits = refl; long = refl }
    output_cells (explicit v) = record { log = refl; filled = refl; fits = refl; long = refl }
    output_cells (commitment q part) = record { log = refl; filled = refl; fits = refl; long = refl }

  output_turns : (i at : ℕ) (x : Output) → Turns now output i 0 (output_timed i at x) (blanks 14) (kept_output at x ++ blanks 4)
  unfolding kept
  output_turns i at x front behind e =
      let at₁ = at + length (token_bytes x.asset) in
      let at₂ = at₁ + length (value_bytes x.value) in
      let at₃ = at₂ + length (token_bytes x.nonce) in
      let a = token_prefix x.asset in
      let b = token_prefix x.nonce in
      let p = counted at₃ x.script in
      let n = length x.script in
      let v = x.value in
      turned now (output_cells i a at b at₁ at₂ p n v) front behind e
      ∙ λ j. front ++ ((if (at + 1) a ∷ if (at + 1) at ∷ if (at₁ + 1) (value_prefix v) ∷ if (at₁ + 1) at₁ ∷ high_if_lem at₁ v j ∷ low_if_lem at₁ v j ∷ if (at₂ + 1) b ∷ if (at₂ + 1) at₂ ∷ if p p ∷ if p n ∷ 0 ∷ 0 ∷ 0 ∷ 0 ∷ []) ++ behind)

  -- ---- witnesses, beside the records that are there

  module _ (i first at : ℕ) (x : InputWitness) where
    abbrev witness_cells : List Cell
    witness_cells =
        let at₁ = at + length (body_bytes x.amount_proof) in
        cell (counted at x.amount_proof) 0 (body_columns at x.amount_proof) ∷
        cell (counted at₁ x.keys_proof) 2 (body_columns at₁ x.keys_proof) ∷
        cell (counted (at_items at x) x.script_items) 4 (first ∷ length x.script_items ∷ []) ∷
        cell (counted (at_pegin at x) x.pegin_items) 6 (length x.pegin_items ∷ []) ∷
        []

    -- for the input table the items are as if they weren't there
    witness_laid : (xs : List ℕ) → laid_in now input (input_witness_timed i first at x) xs ≡ laid_in now input (cells input i 13 witness_cells) xs
    witness_laid xs =
        let es = counted_timed i first at x in
        let e = pegin_counted i first at x in
        let script = script_timed i first at x in
        let pegin = pegin_timed i first at x in
        laid_skip now input es script (e ∷ pegin) (items_off input refl first _ x.script_items) xs
        ∙ ap (λ (l : List Timed). laid_in now input (es ++ (e ∷ l)) xs) (sym (append-nil pegin))
        ∙ laid_skip now input (es ++ (e ∷ [])) pegin [] (items_off input refl (first + length x.script_items) _ x.pegin_items) xs

    witness_cells_lem : ByCells now input i 13 7 (cells input i 13 witness_cells) witness_cells (blanks 7) (kept now (input_witness_moments at x) (input_witness_columns first at x))
    unfolding kept
    witness_cells_lem = record { log = refl; filled = refl; fits = refl; long = refl }

    witness_turns : Turns now input i 13 (input_witness_timed i first at x) (blanks 7) (kept now (input_witness_moments at x) (input_witness_columns first at x))
    witness_turns front behind e = witness_laid (front ++ (blanks 7 ++ behind)) ∙ turned now witness_cells_lem front behind e

  output_witness_turns : (i at : ℕ) (x : OutputWitness) → Turns now output i 10 (output_witness_timed i at x) (blanks 4) (kept now (output_witness_moments at x) (output_witness_columns at x))
  unfolding kept
  output_witness_turns i at x =
      let at₁ = at + length (body_bytes x.surjection_proof) in
      turned now {cs = cell (counted at x.surjection_proof) 0 (body_columns at x.surjection_proof) ∷ cell (counted at₁ x.range_proof) 2 (body_columns at₁ x.range_proof) ∷ []} {old = blanks 4}
      (record { log = refl; filled = refl; fits = refl; long = refl })

  inputs_complete : (xs : List Input) (ws : List InputWitness) (i at first at' : ℕ) → length ws ≡ length xs → Completes now input 13 7 i (placed input_bytes kept_input at xs) (input_witnesses_timed i first at' ws) (kept_rows now (placed input_witness_bytes input_witness_moments at' ws) (placed_witnesses first at' ws))
  unfolding placed placed_witnesses kept_rows kept
  inputs_complete [] [] i at first at' e = no_record
  inputs_complete [] (w ∷ ws) i at first at' e = absurd (omega arith)
  inputs_complete (x ∷ xs) [] i at first at' e = absurd (omega arith)
  inputs_complete (x ∷ xs) (w ∷ ws) i at first at' e =
      let at₁ = at' + length (input_witness_bytes w) in
      record_more (input_witness_timed i first at' w) (kept_input_long at x) refl (witness_turns i first at' w)
      (subst (λ (n : ℕ). Completes now input 13 7 (suc i) (placed input_bytes kept_input (at + length (input_bytes x)) xs) (input_witnesses_timed (suc i) (first + length w.script_items + length w.pegin_items) at₁ ws) (kept_rows now (placed input_witness_bytes input_witness_moments at₁ ws) (placed_witnesses n at₁ ws))) (add_assoc first (length w.script_items) (length w.pegin_items))
      (inputs_complete xs ws (suc i) (at + length (input_bytes x)) (first + length w.script_items + length w.pegin_items) at₁ (omega arith)))

  outputs_complete : (xs : List Output) (ws : List OutputWitness) (i at at' : ℕ) → length ws ≡ length xs → Completes now output 10 4 i (placed output_bytes kept_output at xs) (output_witnesses_timed i at' ws) (kept_rows now (placed output_witness_bytes output_witness_moments at' ws) (placed output_witness_bytes output_witness_columns at' ws))
  unfolding placed kept_rows kept
  outputs_complete [] [] i at at' e = no_record
  outputs_complete [] (w ∷ ws) i at at' e = absurd (omega arith)
  outputs_complete (x ∷ xs) [] i at at' e = absurd (omega arith)
  outputs_complete (x ∷ xs) (w ∷ ws) i at at' e =
      record_more (output_witness_timed i at' w) refl refl (output_witness_turns i at' w) (outputs_complete xs ws (suc i) (at + length (output_bytes x)) (at' + length (output_witness_bytes w)) (omega arith))

  -- ---- items

  abbrev kept_item : ℕ → List ℕ → List ℕ
  kept_item at x = kept now (body_moments at x) (body_columns at x)

  item_turns : (j at : ℕ) (x : List ℕ) → Turns now item j 0 (item_timed j at x) (blanks 2) (kept_item at x)
  unfolding kept
  item_turns j at x = turned now {w = 2} {cs = cell (counted at x) 0 (body_columns at x) ∷ []} {old = blanks 2} (record { log = refl; filled = refl; fits = refl; long = refl })

  item_long : (at : ℕ) (x : List ℕ) → length (kept_item at x) ≡ 2
  unfolding kept
  item_long at x = refl

  stack_turns : (xs : List (List ℕ)) (j at : ℕ) (front behind : List ℕ) → length front ≡ 2 * j → laid_in now item (items_timed j at xs) (front ++ (blanks (2 * length xs) ++ behind)) ≡ front ++ (flat (λ r. r) (placed body_bytes kept_item at xs) ++ behind)
  stack_turns = all_turn now item body_bytes item_timed kept_item item_turns item_long

  stack_long : (at : ℕ) (xs : List (List ℕ)) → length (flat (λ r. r) (placed body_bytes kept_item at xs)) ≡ 2 * length xs
  unfolding flat placed
  stack_long at [] = refl
  stack_long at (x ∷ xs) = omega (arith, length-append (kept_item at x) (flat (λ r. r) (placed body_bytes kept_item (at + length (body_bytes x)) xs)), item_long at x, stack_long (at + length (body_bytes x)) xs)

  module _ (i first at : ℕ) (x : InputWitness) where
    abbrev script_records : List (List ℕ)
    script_records = placed body_bytes kept_item (counted (at_items at x) x.script_items) x.script_items

    abbrev pegin_records : List (List ℕ)
    pegin_records = placed body_bytes kept_item (counted (at_pegin at x) x.pegin_items) x.pegin_items

    witness_items_lem : (front behind : List ℕ) → length front ≡ 2 * first → laid_in now item (input_witness_timed i first at x) (front ++ (blanks (2 * items_of x) ++ behind)) ≡ front ++ (flat (λ r. r) (script_records ++ pegin_records) ++ behind)
    witness_items_lem front behind e =
        let a = 2 * length x.script_items in
        let b = 2 * length x.pegin_items in
        let s = flat (λ r. r) script_records in
        let p = flat (λ r. r) pegin_records in
        let script = script_timed i first at x in
        let pegin = pegin_timed i first at x in
        let split : blanks (2 * items_of x) ≡ blanks a ++ blanks b = ap blanks (mul-add 2 (length x.script_items) (length x.pegin_items)) ∙ sym (replicate-append-replicate a b 0) in
        let further : length (front ++ s) ≡ 2 * (first + length x.script_items) = omega (arith, length-append front s, stack_long (counted (at_items at x) x.script_items) x.script_items) in
        laid_skip now item [] (counted_timed i first at x) (script ++ (pegin_counted i first at x ∷ pegin)) (refl, (refl, (refl, tt))) (front ++ (blanks (2 * items_of x) ++ behind))
        ∙ laid_skip now item script (pegin_counted i first at x ∷ []) pegin (refl, tt) (front ++ (blanks (2 * items_of x) ++ behind))
        ∙ laid_both now item script pegin (front ++ (blanks (2 * items_of x) ++ behind))
        ∙ ap (λ (l : List ℕ). laid_in now item pegin (laid_in now item script (front ++ l))) (ap (λ (l : List ℕ). l ++ behind) split ∙ append_assoc (blanks a) (blanks b) behind)
        ∙ ap (laid_in now item pegin) (stack_turns x.script_items first _ front (blanks b ++ behind) e ∙ sym (append_assoc front s (blanks b ++ behind)))
        ∙ stack_turns x.pegin_items (first + length x.script_items) _ (front ++ s) behind further
        ∙ append_assoc front s (p ++ behind)
        ∙ ap (λ (l : List ℕ). front ++ l) (sym (append_assoc s p behind) ∙ ap (λ (l : List ℕ). l ++ behind) (sym (flat_both script_records pegin_records)))

    witness_items_long : length (flat (λ r. r) (script_records ++ pegin_records)) ≡ 2 * items_of x
    witness_items_long =
        omega (arith, ap (λ (l : List ℕ). length l) (flat_both script_records pegin_records), length-append (flat (λ r. r) script_records) (flat (λ r. r) pegin_records), stack_long (counted (at_items at x) x.script_items) x.script_items, stack_long (counted (at_pegin at x) x.pegin_items) x.pegin_items)

    -- a witness's items, kept
    stacks_kept : kept_rows now (witness_item_moments at x) (witness_items at x) ≡ script_records ++ pegin_records
    stacks_kept =
        let m = stack_moments (at_items at x) x.script_items in
        let r = stack_records (at_items at x) x.script_items in
        rows_both now m r (stack_moments (at_pegin at x) x.pegin_items) (stack_records (at_pegin at x) x.pegin_items) (alike_placed body_bytes body_moments body_columns (λ at x. refl) _ x.script_items)
        ∙ sym (ap₂ (λ (s p : List (List ℕ)). s ++ p) (kept_placed now body_bytes body_moments body_columns _ x.script_items) (kept_placed now body_bytes body_moments body_columns _ x.pegin_items))

  items_turn : (ws : List InputWitness) (i first at : ℕ) (front behind : List ℕ) → length front ≡ 2 * first → laid_in now item (input_witnesses_timed i first at ws) (front ++ (blanks (2 * sum items_of ws) ++ behind)) ≡ front ++ (flat (λ r. r) (kept_rows now (witnesses_item_moments at ws) (witnesses_items at ws)) ++ behind)
  unfolding laid_in sum witnesses_items witnesses_item_moments flat kept_rows
  items_turn [] i first at front behind e = refl
  items_turn (x ∷ ws) i first at front behind e =
      let at' = at + length (input_witness_bytes x) in
      let es = input_witnesses_timed (suc i) (first + length x.script_items + length x.pegin_items) at' ws in
      let a = 2 * items_of x in
      let b = 2 * sum items_of ws in
      let split : blanks (2 * (items_of x + sum items_of ws)) ≡ blanks a ++ blanks b = ap blanks (mul-add 2 (items_of x) (sum items_of ws)) ∙ sym (replicate-append-replicate a b 0) in
      let own = script_records i first at x ++ pegin_records i first at x in
      let others = kept_rows now (witnesses_item_moments at' ws) (witnesses_items at' ws) in
      let s = flat (λ r. r) own in
      let rest = flat (λ r. r) others in
      let further : length (front ++ s) ≡ 2 * (first + length x.script_items + length x.pegin_items) = omega (arith, length-append front s, witness_items_long i first at x) in
      let together : own ++ others ≡ kept_rows now (witness_item_moments at x ++ witnesses_item_moments at' ws) (witness_items at x ++ witnesses_items at' ws) =
      ap (λ (rows : List (List ℕ)). rows ++ others) (sym (stacks_kept i first at x)) ∙ sym (rows_both now (witness_item_moments at x) (witness_items at x) (witnesses_item_moments at' ws) (witnesses_items at' ws) (items_alike at x)) in
      laid_both now item (input_witness_timed i first at x) es (front ++ (blanks (2 * (items_of x + sum items_of ws)) ++ behind))
      ∙ ap (λ (l : List ℕ). laid_in now item es (laid_in now item (input_witness_timed i first at x) (front ++ l))) (ap (λ (l : List ℕ). l ++ behind) split ∙ append_assoc (blanks a) (blanks b) behind)
      ∙ ap (laid_in now item es) (witness_items_lem i first at x front (blanks b ++ behind) e ∙ sym (append_assoc front s (blanks b ++ behind)))
      ∙ items_turn ws (suc i) (first + length x.script_items + length x.pegin_items) at' (front ++ s) behind further
      ∙ append_assoc front s (rest ++ behind)
      ∙ ap (λ (l : List ℕ). front ++ l) (sym (append_assoc s rest behind) ∙ ap (λ (l : List ℕ). l ++ behind) (sym (flat_both own others) ∙ ap (flat (λ r. r)) together))

  -- ---- the whole

  module _ (x : Contents) where
    abbrev ins : List Input
    ins = x.inputs

    abbrev outs : List Output
    outs = x.outputs

    abbrev inputs_laid : List Timed
    inputs_laid = inputs_timed 0 (inputs_at x) ins

    abbrev outputs_laid : List Timed
    outputs_laid = outputs_timed 0 (outputs_at x) outs

    input_table : (o : Option Witnesses) → Matches (length ins) (length outs) o → (behind : List ℕ) → laid_in now input (inputs_laid ++ (outputs_laid ++ tail_timed (witnesses_at x) o)) (blanks (20 * length ins) ++ behind) ≡ flat (λ r. r) (beside (placed input_bytes kept_input (inputs_at x) ins) (kept_rows now (all_input_witness_moments (witnesses_at x) (length ins) o) (input_witness_records (witnesses_at x) (length ins) o))) ++ behind
    input_table o g behind =
        let rest = tail_timed (witnesses_at x) o in
        laid_both now input inputs_laid (outputs_laid ++ rest) (blanks (20 * length ins) ++ behind)
        ∙ ap (laid_in now input (outputs_laid ++ rest)) (all_turn now input input_bytes input_timed (λ at y. kept_input at y ++ blanks 7) input_turns (λ at y. length-append (kept_input at y) (blanks 7) ∙ ap (λ (n : ℕ). n + 7) (kept_input_long at y)) ins 0 (inputs_at x) [] behind refl)
        ∙ laid_skip now input [] outputs_laid rest (outputs_off input refl outs 0 (outputs_at x)) _
        ∙ ap (λ (l : List ℕ). laid_in now input rest (l ++ behind)) (bare_flat input_bytes kept_input 7 (inputs_at x) ins)
        ∙ witness_part o g
      where
        witness_part : (o : Option Witnesses) → Matches (length ins) (length outs) o → laid_in now input (tail_timed (witnesses_at x) o) (flat (λ r. r ++ blanks 7) (placed input_bytes kept_input (inputs_at x) ins) ++ behind) ≡ flat (λ r. r) (beside (placed input_bytes kept_input (inputs_at x) ins) (kept_rows now (all_input_witness_moments (witnesses_at x) (length ins) o) (input_witness_records (witnesses_at x) (length ins) o))) ++ behind
        witness_part none g =
            laid_off now input [] tt _
            ∙ ap (λ (l : List ℕ). l ++ behind) (bare_beside 7 (placed input_bytes kept_input (inputs_at x) ins) (length ins) (placed_length input_bytes kept_input (inputs_at x) ins) ∙ ap (λ (rows : List (List ℕ)). flat (λ r. r) (beside (placed input_bytes kept_input (inputs_at x) ins) rows)) (sym (rows_same now (length ins) 7 (witnesses_at x))))
        witness_part (some w) g =
            let at' = witnesses_at x + length (flat input_witness_bytes w.inputs) in
            laid_both now input (input_witnesses_timed 0 0 (witnesses_at x) w.inputs) (output_witnesses_timed 0 at' w.outputs) _
            ∙ ap (laid_in now input (output_witnesses_timed 0 at' w.outputs)) (completed now refl (inputs_complete ins w.inputs 0 (inputs_at x) 0 (witnesses_at x) g.0) [] behind refl)
            ∙ laid_off now input (output_witnesses_timed 0 at' w.outputs) (output_witnesses_off input refl w.outputs 0 _) _

    output_table : (o : Option Witnesses) → Matches (length ins) (length outs) o → (behind : List ℕ) → laid_in now output (inputs_laid ++ (outputs_laid ++ tail_timed (witnesses_at x) o)) (blanks (14 * length outs) ++ behind) ≡ flat (λ r. r) (beside (placed output_bytes kept_output (outputs_at x) outs) (kept_rows now (all_output_witness_moments (witnesses_at x) (length outs) o) (output_witness_records (witnesses_at x) (length outs) o))) ++ behind
    unfolding kept
    output_table o g behind =
        let rest = tail_timed (witnesses_at x) o in
        laid_skip now output [] inputs_laid (outputs_laid ++ rest) (inputs_off output refl ins 0 (inputs_at x)) _
        ∙ laid_both now output outputs_laid rest (blanks (14 * length outs) ++ behind)
        ∙ ap (laid_in now output rest) (all_turn now output output_bytes output_timed (λ at y. kept_output at y ++ blanks 4) output_turns (λ at y. refl) outs 0 (outputs_at x) [] behind refl)
        ∙ ap (λ (l : List ℕ). laid_in now output rest (l ++ behind)) (bare_flat output_bytes kept_output 4 (outputs_at x) outs)
        ∙ witness_part o g
      where
        witness_part : (o : Option Witnesses) → Matches (length ins) (length outs) o → laid_in now output (tail_timed (witnesses_at x) o) (flat (λ r. r ++ blanks 4) (placed output_bytes kept_output (outputs_at x) outs) ++ behind) ≡ flat (λ r. r) (beside (placed output_bytes kept_output (outputs_at x) outs) (kept_rows now (all_output_witness_moments (witnesses_at x) (length outs) o) (output_witness_records (witnesses_at x) (length outs) o))) ++ behind
        witness_part none g =
            laid_off now output [] tt _
            ∙ ap (λ (l : List ℕ). l ++ behind) (bare_beside 4 (placed output_bytes kept_output (outputs_at x) outs) (length outs) (placed_length output_bytes kept_output (outputs_at x) outs) ∙ ap (λ (rows : List (List ℕ)). flat (λ r. r) (beside (placed output_bytes kept_output (outputs_at x) outs) rows)) (sym (rows_same now (length outs) 4 (witnesses_at x))))
        witness_part (some w) g =
            let at' = witnesses_at x + length (flat input_witness_bytes w.inputs) in
            laid_skip now output [] (input_witnesses_timed 0 0 (witnesses_at x) w.inputs) (output_witnesses_timed 0 at' w.outputs) (witnesses_off output refl refl w.inputs 0 0 (witnesses_at x)) _
            ∙ completed now refl (outputs_complete outs w.outputs 0 (outputs_at x) at' g.1) [] behind refl

    item_table : (o : Option Witnesses) (behind : List ℕ) → laid_in now item (inputs_laid ++ (outputs_laid ++ tail_timed (witnesses_at x) o)) (blanks (2 * item_count o) ++ behind) ≡ flat (λ r. r) (kept_rows now (all_item_moments (witnesses_at x) o) (all_items (witnesses_at x) o)) ++ behind
    unfolding kept_rows
    item_table o behind =
        let rest = tail_timed (witnesses_at x) o in
        laid_skip now item [] inputs_laid (outputs_laid ++ rest) (inputs_off item refl ins 0 (inputs_at x)) _
        ∙ laid_skip now item [] outputs_laid rest (outputs_off item refl outs 0 (outputs_at x)) _
        ∙ witness_part o
      where
        witness_part : (o : Option Witnesses) → laid_in now item (tail_timed (witnesses_at x) o) (blanks (2 * item_count o) ++ behind) ≡ flat (λ r. r) (kept_rows now (all_item_moments (witnesses_at x) o) (all_items (witnesses_at x) o)) ++ behind
        witness_part none = laid_off now item [] tt _ ∙ nothing_flat behind
        witness_part (some w) =
            let at' = witnesses_at x + length (flat input_witness_bytes w.inputs) in
            laid_both now item (input_witnesses_timed 0 0 (witnesses_at x) w.inputs) (output_witnesses_timed 0 at' w.outputs) _
            ∙ laid_off now item (output_witnesses_timed 0 at' w.outputs) (output_witnesses_off item refl w.outputs 0 _) _
            ∙ items_turn w.inputs 0 0 (witnesses_at x) [] behind refl

-- ---- records of one width

abbrev pub Wide : ℕ → List (List ℕ) → Type 0
Wide w rows = Every (λ r. length r ≡ w) rows

pub flat_wide : (w : ℕ) (rows : List (List ℕ)) → Wide w rows → length (flat (λ r. r) rows) ≡ w * length rows
unfolding flat
flat_wide w [] g = omega arith
flat_wide w (r ∷ rows) g = omega (arith, length-append r (flat (λ r. r) rows), flat_wide w rows g.1, g.0, ap (λ (n : ℕ). w * n) (sym (add-one (length rows))), mul-add w (length rows) 1)

wide_both : (w : ℕ) (ps qs : List (List ℕ)) → Wide w ps → Wide w qs → Wide w (ps ++ qs)
wide_both w [] qs g h = h
wide_both w (p ∷ ps) qs g h = (g.0, wide_both w ps qs g.1 h)

pub beside_wide : (a b : ℕ) (rows news : List (List ℕ)) → Wide a rows → Wide b news → Wide (a + b) (beside rows news)
unfolding beside
beside_wide a b [] news g h = tt
beside_wide a b (r ∷ rows) [] g h = tt
beside_wide a b (r ∷ rows) (n ∷ news) g h = (omega (arith, length-append r n, g.0, h.0), beside_wide a b rows news g.1 h.1)

pub beside_length : (rows news : List (List ℕ)) → length news ≡ length rows → length (beside rows news) ≡ length rows
unfolding beside
beside_length [] news e = refl
beside_length (r ∷ rows) [] e = absurd (omega arith)
beside_length (r ∷ rows) (n ∷ news) e = ap suc (beside_length rows news (omega arith))

pub placed_wide : {X : Type 0} (bytes : X → List ℕ) (columns : ℕ → X → List ℕ) (w : ℕ) → ((at : ℕ) (x : X) → length (columns at x) ≡ w) → (at : ℕ) (xs : List X) → Wide w (placed bytes columns at xs)
unfolding placed
placed_wide bytes columns w long at [] = tt
placed_wide bytes columns w long at (x ∷ xs) = (long at x, placed_wide bytes columns w long (at + length (bytes x)) xs)

witnesses_wide : (first at : ℕ) (ws : List InputWitness) → Wide 7 (placed_witnesses first at ws)
unfolding placed_witnesses
witnesses_wide first at [] = tt
witnesses_wide first at (x ∷ xs) = (refl, witnesses_wide (first + items_of x) (at + length (input_witness_bytes x)) xs)

witnesses_length : (first at : ℕ) (ws : List InputWitness) → length (placed_witnesses first at ws) ≡ length ws
unfolding placed_witnesses
witnesses_length first at [] = refl
witnesses_length first at (x ∷ xs) = ap suc (witnesses_length (first + items_of x) (at + length (input_witness_bytes x)) xs)

blanks_wide : (b n : ℕ) → Wide b (replicate n (blanks b))
blanks_wide b zero = tt
blanks_wide b (suc n) = (length-replicate b 0, blanks_wide b n)

pub input_witness_wide : (at n : ℕ) (o : Option Witnesses) → Wide 7 (input_witness_records at n o)
input_witness_wide at n none = blanks_wide 7 n
input_witness_wide at n (some w) = witnesses_wide 0 at w.inputs

pub input_witness_length : (at n m : ℕ) (o : Option Witnesses) → Matches n m o → length (input_witness_records at n o) ≡ n
input_witness_length at n m none g = length-replicate n (blanks 7)
input_witness_length at n m (some w) g = witnesses_length 0 at w.inputs ∙ g.0

pub output_witness_wide : (at n : ℕ) (o : Option Witnesses) → Wide 4 (output_witness_records at n o)
output_witness_wide at n none = blanks_wide 4 n
output_witness_wide at n (some w) = placed_wide output_witness_bytes output_witness_columns 4 (λ at x. refl) (at + length (flat input_witness_bytes w.inputs)) w.outputs

pub output_witness_length : (at n m : ℕ) (o : Option Witnesses) → Matches m n o → length (output_witness_records at n o) ≡ n
output_witness_length at n m none g = length-replicate n (blanks 4)
output_witness_length at n m (some w) g = placed_length output_witness_bytes output_witness_columns (at + length (flat input_witness_bytes w.inputs)) w.outputs ∙ g.1

both_length : (ps qs : List (List ℕ)) → length (ps ++ qs) ≡ length ps + length qs
both_length ps qs = length-append ps qs

pub items_wide : (at : ℕ) (ws : List InputWitness) → Wide 2 (witnesses_items at ws)
unfolding witnesses_items
items_wide at [] = tt
items_wide at (x ∷ xs) =
    wide_both 2 (witness_items at x) (witnesses_items (at + length (input_witness_bytes x)) xs)
    (wide_both 2 (stack_records (at_items at x) x.script_items) (stack_records (at_pegin at x) x.pegin_items) (placed_wide body_bytes body_columns 2 (λ at x. refl) _ x.script_items) (placed_wide body_bytes body_columns 2 (λ at x. refl) _ x.pegin_items))
    (items_wide (at + length (input_witness_bytes x)) xs)

items_length : (at : ℕ) (ws : List InputWitness) → length (witnesses_items at ws) ≡ sum items_of ws
unfolding witnesses_items sum
items_length at [] = refl
items_length at (x ∷ xs) =
    omega (
      arith,
      both_length (witness_items at x) (witnesses_items (at + length (input_witness_bytes x)) xs),
      both_length (stack_records (at_items at x) x.script_items) (stack_records (at_pegin at x) x.pegin_items),
      items_length (at + length (input_witness_bytes x)) xs,
      placed_length body_bytes body_columns (counted (at_items at x) x.script_items) x.script_items,
      placed_length body_bytes body_columns (counted (at_pegin at x) x.pegin_items) x.pegin_items,
    )

pub all_items_wide : (at : ℕ) (o : Option Witnesses) → Wide 2 (all_items at o)
all_items_wide at none = tt
all_items_wide at (some w) = items_wide at w.inputs

pub all_items_length : (at : ℕ) (o : Option Witnesses) → length (all_items at o) ≡ item_count o
all_items_length at none = refl
all_items_length at (some w) = items_length at w.inputs

-- ---- the tables

abbrev pub input_rows : Contents → List (List ℕ)
input_rows x = beside (placed input_bytes input_columns (inputs_at x) x.inputs) (input_witness_records (witnesses_at x) (length x.inputs) x.witnesses)

abbrev pub output_rows : Contents → List (List ℕ)
output_rows x = beside (placed output_bytes output_columns (outputs_at x) x.outputs) (output_witness_records (witnesses_at x) (length x.outputs) x.witnesses)

abbrev pub item_rows : Contents → List (List ℕ)
item_rows x = all_items (witnesses_at x) x.witnesses

abbrev input_moment_rows : Contents → List (List ℕ)
input_moment_rows x = beside (placed input_bytes input_moments (inputs_at x) x.inputs) (all_input_witness_moments (witnesses_at x) (length x.inputs) x.witnesses)

abbrev output_moment_rows : Contents → List (List ℕ)
output_moment_rows x = beside (placed output_bytes output_moments (outputs_at x) x.outputs) (all_output_witness_moments (witnesses_at x) (length x.outputs) x.witnesses)

abbrev item_moment_rows : Contents → List (List ℕ)
item_moment_rows x = all_item_moments (witnesses_at x) x.witnesses

placed_inputs_alike : (x : Contents) → Alike (placed input_bytes input_moments (inputs_at x) x.inputs) (placed input_bytes input_columns (inputs_at x) x.inputs)
placed_inputs_alike x = alike_placed input_bytes input_moments input_columns input_alike (inputs_at x) x.inputs

placed_outputs_alike : (x : Contents) → Alike (placed output_bytes output_moments (outputs_at x) x.outputs) (placed output_bytes output_columns (outputs_at x) x.outputs)
placed_outputs_alike x = alike_placed output_bytes output_moments output_columns (λ at y. refl) (outputs_at x) x.outputs

input_rows_alike : (x : Contents) → Alike (input_moment_rows x) (input_rows x)
input_rows_alike x = alike_beside (placed input_bytes input_moments (inputs_at x) x.inputs) (placed input_bytes input_columns (inputs_at x) x.inputs) _ _ (placed_inputs_alike x) (input_witness_alike (witnesses_at x) (length x.inputs) x.witnesses)

output_rows_alike : (x : Contents) → Alike (output_moment_rows x) (output_rows x)
output_rows_alike x = alike_beside (placed output_bytes output_moments (outputs_at x) x.outputs) (placed output_bytes output_columns (outputs_at x) x.outputs) _ _ (placed_outputs_alike x) (output_witness_alike (witnesses_at x) (length x.outputs) x.witnesses)

item_rows_alike : (x : Contents) → Alike (item_moment_rows x) (item_rows x)
item_rows_alike x = all_items_alike (witnesses_at x) x.witnesses

-- a number's moment stands where the number stands
pub moments_beside : (t : Table) (z : Sizes) (x : Contents) → length (table_of t (moments_of z x)) ≡ length (table_of t (tables_of z x))
moments_beside input z x = alike_table z.inputs (input_moment_rows x) (input_rows x) (input_rows_alike x)
moments_beside output z x = alike_table z.outputs (output_moment_rows x) (output_rows x) (output_rows_alike x)
moments_beside item z x = alike_table z.items (item_moment_rows x) (item_rows x) (item_rows_alike x)

module _ (now : ℕ → Bool) (x : Contents) where
  input_rows_kept : beside (placed input_bytes (kept_input now) (inputs_at x) x.inputs) (kept_rows now (all_input_witness_moments (witnesses_at x) (length x.inputs) x.witnesses) (input_witness_records (witnesses_at x) (length x.inputs) x.witnesses)) ≡ kept_rows now (input_moment_rows x) (input_rows x)
  input_rows_kept =
      ap (λ (rows : List (List ℕ)). beside rows (kept_rows now (all_input_witness_moments (witnesses_at x) (length x.inputs) x.witnesses) (input_witness_records (witnesses_at x) (length x.inputs) x.witnesses))) (kept_placed now input_bytes input_moments input_columns (inputs_at x) x.inputs)
      ∙ sym (rows_beside now (placed input_bytes input_moments (inputs_at x) x.inputs) (placed input_bytes input_columns (inputs_at x) x.inputs) _ _ (placed_inputs_alike x))

  output_rows_kept : beside (placed output_bytes (kept_output now) (outputs_at x) x.outputs) (kept_rows now (all_output_witness_moments (witnesses_at x) (length x.outputs) x.witnesses) (output_witness_records (witnesses_at x) (length x.outputs) x.witnesses)) ≡ kept_rows now (output_moment_rows x) (output_rows x)
  output_rows_kept =
      ap (λ (rows : List (List ℕ)). beside rows (kept_rows now (all_output_witness_moments (witnesses_at x) (length x.outputs) x.witnesses) (output_witness_records (witnesses_at x) (length x.outputs) x.witnesses))) (kept_placed now output_bytes output_moments output_columns (outputs_at x) x.outputs)
      ∙ sym (rows_beside now (placed output_bytes output_moments (outputs_at x) x.outputs) (placed output_bytes output_columns (outputs_at x) x.outputs) _ _ (placed_outputs_alike x))

module _ (x : Contents) (g : Matches (length x.inputs) (length x.outputs) x.witnesses) where
  pub input_rows_wide : Wide 20 (input_rows x)
  input_rows_wide = beside_wide 13 7 (placed input_bytes input_columns (inputs_at x) x.inputs) (input_witness_records (witnesses_at x) (length x.inputs) x.witnesses) (placed_wide input_bytes input_columns 13 input_long (inputs_at x) x.inputs) (input_witness_wide (witnesses_at x) (length x.inputs) x.witnesses)

  pub input_rows_length : length (input_rows x) ≡ length x.inputs
  input_rows_length =
      let placed_long = placed_length input_bytes input_columns (inputs_at x) x.inputs in
      beside_length (placed input_bytes input_columns (inputs_at x) x.inputs) (input_witness_records (witnesses_at x) (length x.inputs) x.witnesses) (input_witness_length (witnesses_at x) (length x.inputs) (length x.outputs) x.witnesses g ∙ sym placed_long) ∙ placed_long

  pub output_rows_wide : Wide 14 (output_rows x)
  output_rows_wide = beside_wide 10 4 (placed output_bytes output_columns (outputs_at x) x.outputs) (output_witness_records (witnesses_at x) (length x.outputs) x.witnesses) (placed_wide output_bytes output_columns 10 (λ at y. refl) (outputs_at x) x.outputs) (output_witness_wide (witnesses_at x) (length x.outputs) x.witnesses)

  pub output_rows_length : length (output_rows x) ≡ length x.outputs
  output_rows_length =
      let placed_long = placed_length output_bytes output_columns (outputs_at x) x.outputs in
      beside_length (placed output_bytes output_columns (outputs_at x) x.outputs) (output_witness_records (witnesses_at x) (length x.outputs) x.witnesses) (output_witness_length (witnesses_at x) (length x.outputs) (length x.inputs) x.witnesses g ∙ sym placed_long) ∙ placed_long

  -- what is entered by now makes the records with what has come
  pub laid_kept : (now : ℕ → Bool) (z : Sizes) → Fits (room_of z) x → laid (entered now (whole_timed 0 x)) (zeros z) ≡ kept_in now (moments_of z x) (tables_of z x)
  laid_kept now z fits =
      let es = whole_timed 0 x in
      let a = rows_long now (input_moment_rows x) (input_rows x) (input_rows_alike x) ∙ flat_wide 20 (input_rows x) input_rows_wide ∙ ap (λ (n : ℕ). 20 * n) input_rows_length in
      let b = rows_long now (output_moment_rows x) (output_rows x) (output_rows_alike x) ∙ flat_wide 14 (output_rows x) output_rows_wide ∙ ap (λ (n : ℕ). 14 * n) output_rows_length in
      let c = rows_long now (item_moment_rows x) (item_rows x) (item_rows_alike x) ∙ flat_wide 2 (item_rows x) (all_items_wide (witnesses_at x) x.witnesses) ∙ ap (λ (n : ℕ). 2 * n) (all_items_length (witnesses_at x) x.witnesses) in
      let i = filled now input es z.inputs (20 * length x.inputs) (kept_rows now (input_moment_rows x) (input_rows x)) (omega (arith, fits.inputs)) a (λ behind. input_table now x x.witnesses g behind ∙ ap (λ (rows : List (List ℕ)). flat (λ r. r) rows ++ behind) (input_rows_kept now x)) ∙ sym (rows_table now z.inputs (input_moment_rows x) (input_rows x) (input_rows_alike x)) in
      let o = filled now output es z.outputs (14 * length x.outputs) (kept_rows now (output_moment_rows x) (output_rows x)) (omega (arith, fits.outputs)) b (λ behind. output_table now x x.witnesses g behind ∙ ap (λ (rows : List (List ℕ)). flat (λ r. r) rows ++ behind) (output_rows_kept now x)) ∙ sym (rows_table now z.outputs (output_moment_rows x) (output_rows x) (output_rows_alike x)) in
      let n = filled now item es z.items (2 * item_count x.witnesses) (kept_rows now (item_moment_rows x) (item_rows x)) (omega (arith, fits.items)) c (item_table now x x.witnesses) ∙ sym (rows_table now z.items (item_moment_rows x) (item_rows x) (item_rows_alike x)) in
      laid_tables now es (zeros z) ∙ λ j. record { inputs = i j; outputs = o j; items = n j }

  -- of the whole log, all
  pub laid_whole : (z : Sizes) → Fits (room_of z) x → laid (whole_log (room_of z) 0 x) (zeros z) ≡ tables_of z x
  laid_whole z fits =
      let always : ℕ → Bool = λ m. true in
      let all : (t : Table) → kept always (table_of t (moments_of z x)) (table_of t (tables_of z x)) ≡ table_of t (tables_of z x) = λ t. kept_all always (λ m. refl) (table_of t (moments_of z x)) (table_of t (tables_of z x)) (moments_beside t z x) in
      ap (λ (es : List Entry). laid es (zeros z)) (sym (whole_log_lem (room_of z) 0 x))
      ∙ laid_kept always z fits
      ∙ λ j. record { inputs = all input j; outputs = all output j; items = all item j }
