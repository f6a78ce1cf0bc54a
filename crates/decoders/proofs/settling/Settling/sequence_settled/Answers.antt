use Rattle.decoders.proofs.settling.Settling.sequence_settled.Goals as goal

pub returns : goal.returns
returns c = cc
