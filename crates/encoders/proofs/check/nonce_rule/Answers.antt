use Rattle.layout.specs.Writing.{token_rule}
use Rattle.encoders.proofs.check.nonce_rule.Goals as goal

pub returns : goal.returns
unfolding token_rule
returns c = rw c.lies.ensures
