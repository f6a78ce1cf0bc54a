use Rattle.decoders.proofs.Branches.{amount_next_lem}
use mathlib.Core.Path.{◌∙◌}
use Rattle.decoders.proofs.settling.Settling.amount_next.Goals as goal

pub returns : goal.returns
returns c = c.part_next.ensures ∙ amount_next_lem _ c.args.self.decoder c.from-self.ensures
