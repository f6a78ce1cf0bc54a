use Rattle.layout.specs.Writing.{output_witness_rule}
use Rattle.encoders.proofs.Judging.{zeros_at_10}
use borrow.Author.Tests.{eq-eqb, ne_eqb}
use Rattle.encoders.proofs.check.output_witness_rule.Goals as goal

pub returns-then-flag-eq1 : goal.returns-then-flag-eq1
unfolding output_witness_rule
returns-then-flag-eq1 c = rw (eq-eqb _ _ c.if-flag-eq1.true, c.lies.ensures, c.lies-then-flag-eq1.ensures)

pub returns : goal.returns
unfolding output_witness_rule
returns c = rw (ne_eqb _ _ c.if-flag-eq1.false, c.zeros.ensures, zeros_at_10 c.args.r.now c.told-r)
