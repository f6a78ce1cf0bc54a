use Rattle.encoders.proofs.Widths.{output_whole, output_alone}
use Rattle.encoders.proofs.length.whole_output.Goals as goal

pub returns-then-flag-eq1 : goal.returns-then-flag-eq1
returns-then-flag-eq1 c = output_whole c.args.r.now c.if-flag-eq1.true c.output_width.ensures c.output_witness_width.ensures

pub returns : goal.returns
returns c = output_alone c.args.r.now c.if-flag-eq1.false c.output_width-2.ensures
