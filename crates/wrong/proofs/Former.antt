-- The slip "leaving a former transaction's records behind the count", performed: fresh starts that leave some of a former transaction in
-- the lent tables, and then a FINISHED reading of a smaller one. Answer, place, bytes taken and every record up to the counts are
-- right; only what stands behind them is not. Each is refused by the promise, and by `zero_behind_call` on its own.
use Prim.Native.Nat.{ℕ}
use mathlib.Core.Path.{◌≡◌, refl}
use mathlib.Core.List.{List, ◌++◌}
use lib.Dec.{lit≤}
use lib.ListN.{replicate, take, drop}
use Rattle.layout.specs.Layout.{finished}
use Rattle.layout.specs.Layout as layout
use Rattle.layout.specs.Outcome.{Tables}
use Rattle.layout.specs.Transaction.{Head}
use Rattle.decoders.specs.Machine.{fresh}
use Rattle.decoders.specs.Feeding.{tables, sizes_of, cleared, pushed, Out}
use Rattle.decoders.proofs.Answers.{ZeroBehind}
use Rattle.wrong.proofs.Loads.{computes, apart, paying, input, output}

-- room for two records of each kind, all of a former transaction
abbrev lent : Tables
lent = tables (replicate 40 7) (replicate 28 7) (replicate 4 7)

-- a reader by its fresh start: that start, and one piece
abbrev reader : (Tables → Tables) → Tables → List ℕ → Out
reader clear t xs = pushed (fresh (sizes_of t)) (clear t) xs

-- the promised one
abbrev promised : Tables → List ℕ → Out
promised = reader cleared

-- clears the first record of each table, as if one were all that could stand there
abbrev first_records : Tables → Tables
first_records t = tables (replicate 20 0 ++ drop 20 t.inputs) (replicate 14 0 ++ drop 14 t.outputs) (replicate 2 0 ++ drop 2 t.items)

-- sets a record to 0 when it begins: of this transaction, the first output
abbrev on_demand : Tables → Tables
on_demand t = tables t.inputs (replicate 14 0 ++ drop 14 t.outputs) t.items

-- the head numbers of `paying`: no input, one output
abbrev head : Head
head = record { version = 2; flag = 0; inputs = 0; outputs = 1; items = 0; locktime = 0; bytes = 15 }

-- what such a reader gets right: it answers finished with the head numbers, takes all bytes, and the one output record is as promised
pub record Right (clear : Tables → Tables) : Type 0 where
  pub answer : (reader clear lent paying).answer ≡ finished head
  pub taken : (reader clear lent paying).taken ≡ 15
  pub records : take 14 (reader clear lent paying).tables.outputs ≡ take 14 (promised lent paying).tables.outputs

pub first_records_right : Right first_records
unfolding computes
first_records_right = record { answer = refl; taken = refl; records = refl }

pub on_demand_right : Right on_demand
unfolding computes
on_demand_right = record { answer = refl; taken = refl; records = refl }

-- refuted by the promise: the second output record is the former transaction's
pub former_behind_wrong : reader first_records lent paying ≡ promised lent paying → ⊥
unfolding computes
former_behind_wrong = apart (λ o. output 14 o.tables) 7 0 refl refl refl

-- and no input was read, but one stands there
pub former_inputs_wrong : reader on_demand lent paying ≡ promised lent paying → ⊥
unfolding computes
former_inputs_wrong = apart (λ o. input 0 o.tables) 7 0 refl refl refl

-- and by the demand alone, whatever else the promise says: a finished answer has 0 behind its records
pub former_behind_not_zero : ZeroBehind head (reader first_records lent paying).tables → ⊥
unfolding computes
former_behind_not_zero z = apart (λ (n : ℕ). n) 7 0 refl refl refl (z layout.output 14 (lit≤ tt))

pub former_items_not_zero : ZeroBehind head (reader first_records lent paying).tables → ⊥
unfolding computes
former_items_not_zero z = apart (λ (n : ℕ). n) 7 0 refl refl refl (z layout.item 2 (lit≤ tt))

pub former_inputs_not_zero : ZeroBehind head (reader on_demand lent paying).tables → ⊥
unfolding computes
former_inputs_not_zero z = apart (λ (n : ℕ). n) 7 0 refl refl refl (z layout.input 0 (lit≤ tt))
