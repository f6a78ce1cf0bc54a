use Rattle.layout.specs.Writing.{item_rule}
use borrow.Author.Tests.{eq-eqb, ne_eqb}
use Rattle.encoders.proofs.check.item_rule.Goals as goal

pub returns-then-flag-eq1 : goal.returns-then-flag-eq1
unfolding item_rule
returns-then-flag-eq1 c = rw (eq-eqb _ _ c.if-flag-eq1.true, c.lies.ensures)

pub returns : goal.returns
unfolding item_rule
returns c = rw (ne_eqb _ _ c.if-flag-eq1.false)
