use Rattle.layout.specs.Writing.{issuance_rule}
use Rattle.encoders.proofs.Judging.{zeros_at_6}
use borrow.Author.Tests.{le-leb, lt-leb}
use Rattle.encoders.proofs.check.issuance_rule.Goals as goal

pub returns-then-r-ge2 : goal.returns-then-r-ge2
unfolding issuance_rule
returns-then-r-ge2 c = rw (le-leb _ _ c.if-r-ge2.true, c.issuance_lies.ensures, c.value_rule.ensures, c.value_rule-then-r-ge2.ensures)

pub returns : goal.returns
unfolding issuance_rule
returns c = rw (lt-leb _ _ c.if-r-ge2.false, c.zeros.ensures, zeros_at_6 c.args.r.now c.told-r)
