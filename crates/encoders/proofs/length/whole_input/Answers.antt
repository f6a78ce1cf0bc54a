use Rattle.encoders.proofs.Widths.{input_whole, input_alone}
use Rattle.encoders.proofs.length.whole_input.Goals as goal

pub returns-then-flag-eq1 : goal.returns-then-flag-eq1
returns-then-flag-eq1 c = input_whole c.args.r.now c.if-flag-eq1.true c.input_width.ensures c.input_witness_width.ensures

pub returns : goal.returns
returns c = input_alone c.args.r.now c.if-flag-eq1.false c.input_width-2.ensures
