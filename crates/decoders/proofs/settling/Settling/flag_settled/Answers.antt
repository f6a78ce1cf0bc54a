use Rattle.decoders.proofs.settling.Settling.flag_settled.Goals as goal

pub returns : goal.returns
returns c = cc
