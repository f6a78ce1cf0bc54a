use Rattle.layout.specs.Writing.{input_rule}
use Rattle.encoders.proofs.check.input_rule.Goals as goal

pub returns : goal.returns
unfolding input_rule
returns c = rw (c.lies.ensures, c.lies-2.ensures, c.issuance_rule.ensures, c.input_witness_rule.ensures)
