use Rattle.decoders.proofs.settling.Settling.locktime_settled.Goals as goal

pub returns : goal.returns
returns c = cc
