use Rattle.layout.specs.Writing.{output_rule}
use Rattle.encoders.proofs.check.output_rule.Goals as goal

pub returns : goal.returns
unfolding output_rule
returns c = rw (c.asset_rule.ensures, c.value_rule.ensures, c.lies.ensures, c.nonce_rule.ensures, c.lies-2.ensures, c.output_witness_rule.ensures)
