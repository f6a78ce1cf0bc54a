use Rattle.decoders.proofs.settling.Settling.keys_settled.Goals as goal

pub returns : goal.returns
returns c = cc
