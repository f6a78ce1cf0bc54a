use Rattle.decoders.proofs.settling.Settling.nonce_settled.Goals as goal

pub returns : goal.returns
returns c = cc
