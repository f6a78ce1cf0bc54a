use Rattle.layout.specs.Writing.{value_rule}
use mathlib.Core.Path.{refl}
use Rattle.encoders.proofs.check.value_rule.Goals as goal

pub returns : goal.returns
unfolding value_rule
returns c = refl
