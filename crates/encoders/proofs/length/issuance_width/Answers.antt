use Rattle.encoders.proofs.Widths.{issuance_with, issuance_without}
use Rattle.encoders.proofs.length.issuance_width.Goals as goal

pub returns-then-r-ge2 : goal.returns-then-r-ge2
returns-then-r-ge2 c = issuance_with c.args.r.now c.if-r-ge2.true c.value_width.ensures c.value_width-then-r-ge2.ensures

pub returns : goal.returns
returns c = issuance_without c.args.r.now c.if-r-ge2.false
