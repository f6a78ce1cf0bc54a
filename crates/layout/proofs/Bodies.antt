-- Each body taken from the source shows equal bytes: by the columns of the written record and of the one read back. Every body that a
-- table names is here, by plain take and drop: no `contents_of`.
use Prim.Native.Nat.{ℕ, ◌<◌}
use mathlib.Core.Path.{◌≡◌}
use mathlib.Core.List.{List, ◌++◌}
use lib.ListN.{length}
use Rattle.layout.specs.Transaction.{Head}
use Rattle.layout.specs.Outcome.{Tables, Sizes, partial}
use Rattle.layout.specs.Writing.{contents_of, faults, passes, written_bytes}
use Rattle.layout.proofs.Columns.{record_at, at_each, InputBodies, OutputBodies, ItemBody, BodiesSame, shown_input_bodies, shown_output_bodies, shown_item_bodies}
use Rattle.layout.proofs.RoundTrips.{Lent, Holds, lengthened, held_parts, source_shows, back_shows}

module _ (h : Head) (t : Tables) (source : List ℕ) (lent : Lent h t source) (ok : faults h t source ≡ passes) (z : Sizes) (room : Holds z h) (rest : List ℕ) where
  abbrev back : List ℕ
  back = written_bytes h t source ++ rest

  abbrev told : Head
  told = lengthened h (length (written_bytes h t source))

  pub bodies_same : BodiesSame h t (partial z back).tables source back
  bodies_same =
      let x = contents_of h t source in
      let u = (partial z back).tables in
      let g = held_parts h t source lent ok in
      let a = source_shows h t source lent ok in
      let b = back_shows h t source lent ok z room rest in
      record {
        inputs = at_each (InputBodies source back) 20 h.inputs t.inputs u.inputs (shown_input_bodies x h told t u source back g a b);
        outputs = at_each (OutputBodies source back) 14 h.outputs t.outputs u.outputs (shown_output_bodies x h told t u source back g a b);
        items = at_each (ItemBody source back) 2 h.items t.items u.items (shown_item_bodies x h told t u source back g a b);
      }

  -- txid, script; blinding nonce, entropy, commitments of amount and keys; amount proof, keys proof
  pub input_bodies : (i : ℕ) → i < h.inputs → InputBodies source back (record_at 20 t.inputs i) (record_at 20 (partial z back).tables.inputs i)
  input_bodies = bodies_same.inputs

  -- asset, commitment, nonce, script; surjection proof, range proof
  pub output_bodies : (i : ℕ) → i < h.outputs → OutputBodies source back (record_at 14 t.outputs i) (record_at 14 (partial z back).tables.outputs i)
  output_bodies = bodies_same.outputs

  -- every script item and pegin item
  pub item_bodies : (i : ℕ) → i < h.items → ItemBody source back (record_at 2 t.items i) (record_at 2 (partial z back).tables.items i)
  item_bodies = bodies_same.items
