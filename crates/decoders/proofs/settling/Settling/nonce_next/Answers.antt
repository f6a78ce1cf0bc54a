use Rattle.decoders.proofs.Branches.{nonce_next_lem}
use mathlib.Core.Path.{◌∙◌}
use Rattle.decoders.proofs.settling.Settling.nonce_next.Goals as goal

pub returns : goal.returns
returns c = c.part_next.ensures ∙ nonce_next_lem c.args.self.decoder
