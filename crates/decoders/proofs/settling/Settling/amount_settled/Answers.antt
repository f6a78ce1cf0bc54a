use Rattle.decoders.proofs.settling.Settling.amount_settled.Goals as goal

pub returns : goal.returns
returns c = cc
