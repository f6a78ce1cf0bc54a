use Rattle.decoders.proofs.settling.Settling.asset_settled.Goals as goal

pub returns : goal.returns
returns c = cc
