-- A whole transaction's bytes, as the code puts them.
use Prim.Native.Nat.{ℕ, ◌≤◌}
use mathlib.Core.Path.{◌≡◌, sym, ◌∙◌, ap, ap₂, subst}
use mathlib.Core.Bool.{cond}
use mathlib.Core.List.{List, [], ◌∷◌, ◌++◌, map, append_assoc}
use mathlib.Core.Option.{none, some}
use native.Mathlib.Omega.{arith}
use lib.Dec.{eqb}
use lib.ListN.{length}
use borrow.Author.Tests.{eqb-true, eqb-false, eq-eqb, ne_eqb}
use Rattle.layout.proofs.Reading.{by_cases}
use Rattle.layout.specs.Number.{little, bytes_of}
use Rattle.layout.specs.Transaction.{Head}
use Rattle.layout.specs.Outcome.{Tables}
use Rattle.layout.specs.Contents.{Every, Witnesses, flat, compact_bytes, list_bytes, input_bytes, output_bytes, input_witness_bytes, output_witness_bytes, flag_of, witnesses_bytes, contents_bytes}
use Rattle.layout.specs.Writing.{passes, table_faults, records, item_of, input_of, output_of, input_witness_of, output_witness_of, input_records, output_records, item_records, witnesses_of, contents_of, written_bytes}
use Rattle.encoders.specs.declared.table.Transaction.{Transaction}
use Rattle.encoders.specs.Needs.{Counted}
use Rattle.encoders.specs.Puts.{InputReady, OutputReady, OutputWitnessReady, ItemReady, InputWitnessReady, input_row_bytes, output_row_bytes, witness_row_bytes, output_witness_row_bytes, WitnessesReady, TransactionReady, witness_rows, transaction_bytes}
use Rattle.encoders.proofs.Judging.{records_length}
use Rattle.encoders.proofs.Rows.{every_of, flat_map, list_bytes_lem}
use Rattle.encoders.specs.Sinks.{Took}
use Rattle.encoders.proofs.Taking.{both}
use Rattle.encoders.proofs.Ready.{Passing, passing, inputs_ready, outputs_ready, items_ready, witnesses_ready, output_witnesses_ready}

-- ---- the parts of a transaction, in order

abbrev pub maybe : Head → Tables → List ℕ → List ℕ
maybe h t source = witnesses_bytes (cond (eqb h.flag 1) (some (witnesses_of h t source)) none)

abbrev parts_with : Head → List ℕ → List ℕ → List ℕ → List ℕ
parts_with h ins outs end =
    bytes_of little 4 h.version ++ ((h.flag ∷ []) ++ (compact_bytes h.inputs ++ (ins ++ (compact_bytes h.outputs ++ (outs ++ (bytes_of little 4 h.locktime ++ end))))))

abbrev pub parts : Head → Tables → List ℕ → List ℕ
parts h t source = parts_with h (flat (input_row_bytes source) (records 20 h.inputs t.inputs)) (flat (output_row_bytes source) (records 14 h.outputs t.outputs)) (maybe h t source)

flag_is : (flag : ℕ) (x : Witnesses) → flag ≤ 1 → flag_of (cond (eqb flag 1) (some x) none) ≡ flag
flag_is flag x h = by_cases (eqb flag 1) (λ t. rw t (sym (eqb-true flag 1 t))) (λ t. rw t (let d = eqb-false flag 1 t in omega arith))

pub written_parts : (h : Head) (t : Tables) (source : List ℕ) → h.flag ≤ 1 → written_bytes h t source ≡ parts h t source
unfolding contents_bytes contents_of
written_parts h t source small =
    let end : List ℕ = bytes_of little 4 h.locktime ++ maybe h t source in
    let ins : List ℕ = flat (input_row_bytes source) (records 20 h.inputs t.inputs) in
    let outs : List ℕ = flat (output_row_bytes source) (records 14 h.outputs t.outputs) in
    let e₁ : list_bytes output_bytes (map (output_of source) (output_records h t)) ++ end ≡ compact_bytes h.outputs ++ (outs ++ end) =
    ap (λ (l : List ℕ). l ++ end) (list_bytes_lem output_bytes (output_of source) h.outputs (output_records h t) (records_length 14 h.outputs t.outputs)) ∙ append_assoc (compact_bytes h.outputs) outs end
    in
    let behind : List ℕ = compact_bytes h.outputs ++ (outs ++ end) in
    let e₂ : list_bytes input_bytes (map (input_of source) (input_records h t)) ++ behind ≡ compact_bytes h.inputs ++ (ins ++ behind) =
    ap (λ (l : List ℕ). l ++ behind) (list_bytes_lem input_bytes (input_of source) h.inputs (input_records h t) (records_length 20 h.inputs t.inputs)) ∙ append_assoc (compact_bytes h.inputs) ins behind
    in
    ap₂ (λ (f : ℕ) (l : List ℕ). bytes_of little 4 h.version ++ (f ∷ (list_bytes input_bytes (map (input_of source) (input_records h t)) ++ l))) (flag_is h.flag (witnesses_of h t source) small) e₁
    ∙ ap (λ (l : List ℕ). bytes_of little 4 h.version ++ (h.flag ∷ l)) e₂

pub no_rows_left : (source : List ℕ) (x : Transaction) → x.head.flag ≡ 0 → witness_rows source x ≡ []
no_rows_left source x z = rw z

pub rows_left : (source : List ℕ) (x : Transaction) → (x.head.flag ≡ 0 → ⊥) → witness_rows source x ≡ flat (witness_row_bytes source x.items.now) x.inputs.now ++ flat (output_witness_row_bytes source) x.outputs.now
rows_left source x d = rw (ne_eqb x.head.flag 0 d)

module _ {h : Head} {t : Tables} {x : Transaction} (k : Counted h t x) (source : List ℕ) (e : table_faults h t (length source) ≡ passes) where
  passed : Passing h t (length source)
  passed = passing h t (length source) e

  flag : x.head.flag ≡ h.flag
  flag = ap (λ (g : Head). g.flag) k.head

  -- a flag that is not 0 is 1
  flagged : (x.head.flag ≡ 0 → ⊥) → h.flag ≡ 1
  flagged d = omega (arith, flag, passed.flag)

  many : length x.items.now ≡ h.items
  many = ap (λ (l : List (List ℕ)). length l) k.items ∙ records_length 2 h.items t.items

  witnesses_ready_lem : h.flag ≡ 1 → WitnessesReady (length source) x
  witnesses_ready_lem one =
      let there = length source in
      record {
        items = every_of (ItemReady there) k.items (items_ready h t there passed one);
        inputs = every_of (InputWitnessReady there (length x.items.now)) k.inputs (subst (λ (n : ℕ). Every (InputWitnessReady there n) (input_records h t)) (sym many) (witnesses_ready h t there passed one));
        outputs = every_of (OutputWitnessReady there) k.outputs (output_witnesses_ready h t there passed one);
      }

  pub ready : TransactionReady (length source) x
  ready =
      let there = length source in
      record {
        flag = omega (arith, flag, passed.flag);
        inputs = every_of (InputReady there) k.inputs (inputs_ready h t there passed);
        outputs = every_of (OutputReady there) k.outputs (outputs_ready h t there passed);
        witnesses = λ d. witnesses_ready_lem (flagged d);
      }

  none_left : x.head.flag ≡ 0 → maybe h t source ≡ witness_rows source x
  unfolding witnesses_bytes
  none_left z = let d : h.flag ≡ 1 → ⊥ = λ q. omega (arith, flag) in rw (z, ne_eqb h.flag 1 d)

  some_left : (x.head.flag ≡ 0 → ⊥) → maybe h t source ≡ witness_rows source x
  unfolding witnesses_bytes
  some_left d =
      let is = map (item_of source) (item_records h t) in
      rw (ne_eqb x.head.flag 0 d, eq-eqb h.flag 1 (flagged d), k.inputs, k.outputs, k.items)
      (ap₂ (λ (x y : List ℕ). x ++ y) (flat_map input_witness_bytes (input_witness_of source is) (input_records h t)) (flat_map output_witness_bytes (output_witness_of source) (output_records h t)))

  left : maybe h t source ≡ witness_rows source x
  left = by_cases (eqb x.head.flag 0) (λ b. none_left (eqb-true x.head.flag 0 b)) (λ b. some_left (eqb-false x.head.flag 0 b))

  -- the layout's bytes
  pub as_written : written_bytes h t source ≡ transaction_bytes source x
  unfolding transaction_bytes
  as_written =
      let ins = flat (input_row_bytes source) (input_records h t) in
      let outs = flat (output_row_bytes source) (output_records h t) in
      written_parts h t source passed.flag ∙ ap (parts_with h ins outs) left ∙ ap (λ (g : Head). parts_with g ins outs (witness_rows source x)) (sym k.head) ∙ rw (k.inputs, k.outputs)

-- what a sink took, in that order
pub in_order : (source : List ℕ) (x : Transaction) {S : Type 0} {step : S → ℕ → S} {a b c d f g i k u : S} → Took step (bytes_of little 4 x.head.version) a b → Took step (x.head.flag ∷ []) b c → Took step (compact_bytes x.head.inputs) c d
    → Took step (flat (input_row_bytes source) x.inputs.now) d f → Took step (compact_bytes x.head.outputs) f g → Took step (flat (output_row_bytes source) x.outputs.now) g i
    → Took step (bytes_of little 4 x.head.locktime) i k → Took step (witness_rows source x) k u → Took step (transaction_bytes source x) a u
unfolding transaction_bytes
in_order source x p q r y v z l w = both p (both q (both r (both y (both v (both z (both l w))))))
