use Rattle.decoders.proofs.Branches.{value_next_lem}
use mathlib.Core.Path.{◌∙◌}
use Rattle.decoders.proofs.settling.Settling.value_next.Goals as goal

pub returns : goal.returns
returns c = c.part_next.ensures ∙ value_next_lem c.args.self.decoder
