use Rattle.decoders.proofs.settling.Settling.value_settled.Goals as goal

pub returns : goal.returns
returns c = cc
