use Rattle.encoders.specs.Answers.{head_numbers}
use Rattle.encoders.proofs.Widths.{written_is}
use Rattle.encoders.proofs.table.Transaction.width.Goals as goal

pub returns : goal.returns
returns c =
    let x = c.args.self.now in
    written_is (head_numbers x.head) x.inputs.now x.outputs.now x.items.now c.compact_width.ensures c.inputs_width-ins.ensures c.compact_width-2.ensures c.outputs_width-outs.ensures c.items_width-its.ensures c.capped.ensures
