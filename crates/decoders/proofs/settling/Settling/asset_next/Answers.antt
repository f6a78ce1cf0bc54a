use Rattle.decoders.proofs.Branches.{asset_next_lem}
use mathlib.Core.Path.{◌∙◌}
use Rattle.decoders.proofs.settling.Settling.asset_next.Goals as goal

pub returns : goal.returns
returns c = c.part_next.ensures ∙ asset_next_lem c.args.self.decoder
