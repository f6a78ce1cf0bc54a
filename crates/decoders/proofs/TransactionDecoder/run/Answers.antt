use mathlib.Core.Path.{refl}
use native.Mathlib.Omega.{arith}
use Prim.Native.Nat.{◌-◌}
use lib.ListN.{length-drop}
use Rattle.decoders.specs.Feeding.{tables}
use Rattle.decoders.proofs.Loop.{turn_first, turn_ended, turn_last, none_left, some_left, turn_feeds, some_more, turn_next}
use Rattle.decoders.proofs.TransactionDecoder.run.Goals as goal

pub loop-rest-init : goal.loop-rest-init
loop-rest-init c = turn_first c.args.piece.now c.args.self (tables c.args.inputs.now c.args.outputs.now c.args.items.now) (λ i. (c.type_inv.piece i).fits) c.requires

pub advance-d-requires : goal.advance-d-requires
advance-d-requires c = turn_feeds c.args.piece.now c.args.self (tables c.args.inputs.now c.args.outputs.now c.args.items.now) c.loop-rest.d (tables c.loop-rest.inputs c.loop-rest.outputs c.loop-rest.items) c.loop-rest.rest.now c.loop-rest.invariant (some_left _ _ c.is_empty.ensures c.loop-rest-test.true) c.if-d-lt-FINISHED.true

pub overflow_sub-rest : goal.overflow_sub-rest
overflow_sub-rest c = omega (arith, some_more c.args.piece.now c.args.self (tables c.args.inputs.now c.args.outputs.now c.args.items.now) c.loop-rest.d (tables c.loop-rest.inputs c.loop-rest.outputs c.loop-rest.items) c.loop-rest.rest.now c.loop-rest.invariant (some_left _ _ c.is_empty.ensures c.loop-rest-test.true) c.if-d-lt-FINISHED.true c.advance-d.result (tables c.advance-d.new.inputs c.advance-d.new.outputs c.advance-d.new.items) c.advance-d.ensures)

pub slice_bounds-rest-count : goal.slice_bounds-rest-count
slice_bounds-rest-count c = (some_more c.args.piece.now c.args.self (tables c.args.inputs.now c.args.outputs.now c.args.items.now) c.loop-rest.d (tables c.loop-rest.inputs c.loop-rest.outputs c.loop-rest.items) c.loop-rest.rest.now c.loop-rest.invariant (some_left _ _ c.is_empty.ensures c.loop-rest-test.true) c.if-d-lt-FINISHED.true c.advance-d.result (tables c.advance-d.new.inputs c.advance-d.new.outputs c.advance-d.new.items) c.advance-d.ensures).1

pub slice_bounds-rest-start : goal.slice_bounds-rest-start
slice_bounds-rest-start c = (some_more c.args.piece.now c.args.self (tables c.args.inputs.now c.args.outputs.now c.args.items.now) c.loop-rest.d (tables c.loop-rest.inputs c.loop-rest.outputs c.loop-rest.items) c.loop-rest.rest.now c.loop-rest.invariant (some_left _ _ c.is_empty.ensures c.loop-rest-test.true) c.if-d-lt-FINISHED.true c.advance-d.result (tables c.advance-d.new.inputs c.advance-d.new.outputs c.advance-d.new.items) c.advance-d.ensures).1

pub loop-rest-smaller : goal.loop-rest-smaller
loop-rest-smaller c = omega (arith, some_more c.args.piece.now c.args.self (tables c.args.inputs.now c.args.outputs.now c.args.items.now) c.loop-rest.d (tables c.loop-rest.inputs c.loop-rest.outputs c.loop-rest.items) c.loop-rest.rest.now c.loop-rest.invariant (some_left _ _ c.is_empty.ensures c.loop-rest-test.true) c.if-d-lt-FINISHED.true c.advance-d.result (tables c.advance-d.new.inputs c.advance-d.new.outputs c.advance-d.new.items) c.advance-d.ensures, length-drop (c.advance-d.result.taken - c.loop-rest.d.taken) c.loop-rest.rest.now)

pub loop-rest-preserved : goal.loop-rest-preserved
loop-rest-preserved c = turn_next c.args.piece.now c.args.self (tables c.args.inputs.now c.args.outputs.now c.args.items.now) c.loop-rest.d (tables c.loop-rest.inputs c.loop-rest.outputs c.loop-rest.items) c.loop-rest.rest.now c.loop-rest.invariant (some_left _ _ c.is_empty.ensures c.loop-rest-test.true) c.if-d-lt-FINISHED.true c.advance-d.result (tables c.advance-d.new.inputs c.advance-d.new.outputs c.advance-d.new.items) c.advance-d.ensures _ refl

pub returns-else-d-lt-FINISHED : goal.returns-else-d-lt-FINISHED
returns-else-d-lt-FINISHED c = turn_ended c.args.piece.now c.args.self (tables c.args.inputs.now c.args.outputs.now c.args.items.now) c.loop-rest.d (tables c.loop-rest.inputs c.loop-rest.outputs c.loop-rest.items) c.loop-rest.rest.now c.loop-rest.invariant c.if-d-lt-FINISHED.false

pub returns-after-loop-rest : goal.returns-after-loop-rest
returns-after-loop-rest c = turn_last c.args.piece.now c.args.self (tables c.args.inputs.now c.args.outputs.now c.args.items.now) c.loop-rest.d (tables c.loop-rest.inputs c.loop-rest.outputs c.loop-rest.items) c.loop-rest.rest.now c.loop-rest.invariant (none_left _ _ c.is_empty.ensures c.loop-rest-test.false)
