use Rattle.std.proofs.Common.{length, sym, ◌∙◌, []}
use Rattle.encoders.specs.Puts.{InputWitnessReady, OutputWitnessReady}
use Rattle.encoders.proofs.Putting.{four_little}
use Rattle.encoders.proofs.Rows.{every_at}
use Rattle.encoders.proofs.Taking.{as_bytes, both, none, turn_start, turn_next, turn_end}
use Rattle.encoders.proofs.Whole.{in_order, rows_left, no_rows_left}
use Rattle.encoders.proofs.table.Transaction.put.Goals as goal

pub loop-r-init : goal.loop-r-init
loop-r-init g c = turn_start

pub loop-r-preserved : goal.loop-r-preserved
loop-r-preserved g c = turn_next [] c.loop-r-test.true c.loop-r.invariant c.put_input.ensures

pub loop-r-2-init : goal.loop-r-2-init
loop-r-2-init g c = turn_start

pub loop-r-2-preserved : goal.loop-r-2-preserved
loop-r-2-preserved g c = turn_next [] c.loop-r-2-test.true c.loop-r-2.invariant c.put_output.ensures

pub returns-then-self-eq0 : goal.returns-then-self-eq0
returns-then-self-eq0 g c =
    in_order c.args.source.now c.args.self.now
    (as_bytes (four_little c.args.self.now.head.version ∙ sym c.to_le_bytes.ensures) c.part.ensures) c.byte.ensures c.put_compact.ensures
    (turn_end c.loop-r-test.false c.loop-r.invariant) c.put_compact-2.ensures (turn_end c.loop-r-2-test.false c.loop-r-2.invariant)
    (as_bytes (four_little c.args.self.now.head.locktime ∙ sym c.to_le_bytes-2.ensures) c.part-2.ensures)
    (as_bytes (no_rows_left c.args.source.now c.args.self.now c.if-self-eq0.true) none)

pub loop-r-3-init : goal.loop-r-3-init
loop-r-3-init g c = turn_start

pub put_input_witness-requires-clause-items_ready : goal.put_input_witness-requires-clause-items_ready
put_input_witness-requires-clause-items_ready g c = (c.requires.witnesses c.if-self-eq0.false).items

pub put_input_witness-requires-clause-ready : goal.put_input_witness-requires-clause-ready
put_input_witness-requires-clause-ready g c = every_at (InputWitnessReady (length c.args.source.now) (length c.args.self.now.items.now)) c.args.self.now.inputs.now c.loop-r-3.r-index [] c.loop-r-3-test.true (c.requires.witnesses c.if-self-eq0.false).inputs

pub loop-r-3-preserved : goal.loop-r-3-preserved
loop-r-3-preserved g c = turn_next [] c.loop-r-3-test.true c.loop-r-3.invariant c.put_input_witness.ensures

pub loop-r-4-init : goal.loop-r-4-init
loop-r-4-init g c = turn_start

pub put_output_witness-requires : goal.put_output_witness-requires
put_output_witness-requires g c = every_at (OutputWitnessReady (length c.args.source.now)) c.args.self.now.outputs.now c.loop-r-4.r-index [] c.loop-r-4-test.true (c.requires.witnesses c.if-self-eq0.false).outputs

pub loop-r-4-preserved : goal.loop-r-4-preserved
loop-r-4-preserved g c = turn_next [] c.loop-r-4-test.true c.loop-r-4.invariant c.put_output_witness.ensures

pub returns : goal.returns
returns g c =
    in_order c.args.source.now c.args.self.now
    (as_bytes (four_little c.args.self.now.head.version ∙ sym c.to_le_bytes.ensures) c.part.ensures) c.byte.ensures c.put_compact.ensures
    (turn_end c.loop-r-test.false c.loop-r.invariant) c.put_compact-2.ensures (turn_end c.loop-r-2-test.false c.loop-r-2.invariant)
    (as_bytes (four_little c.args.self.now.head.locktime ∙ sym c.to_le_bytes-2.ensures) c.part-2.ensures)
    (as_bytes (rows_left c.args.source.now c.args.self.now c.if-self-eq0.false) (both (turn_end c.loop-r-3-test.false c.loop-r-3.invariant) (turn_end c.loop-r-4-test.false c.loop-r-4.invariant)))
