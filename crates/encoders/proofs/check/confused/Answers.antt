use Rattle.layout.specs.Contents.{confused}
use mathlib.Core.Path.{refl}
use Rattle.encoders.proofs.check.confused.Goals as goal

pub returns : goal.returns
unfolding confused
returns c = refl
