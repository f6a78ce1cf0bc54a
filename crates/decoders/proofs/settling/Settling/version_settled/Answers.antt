use Rattle.decoders.proofs.settling.Settling.version_settled.Goals as goal

pub returns : goal.returns
returns c = cc
