use borrow.Author.Rules.{rules}
use Rattle.decoders.specs.Machine.{big_settled}
use Rattle.decoders.proofs.Branches.{big_by, big_rest}
use Rattle.decoders.proofs.settling.Settling.big_settled.Goals as goal

pub returns-in-9 : goal.returns-in-9
unfolding big_settled
returns-in-9 c = cc (big_by c.args.stage 9 c.args.self.decoder c.in-9.is)

pub returns-in-10 : goal.returns-in-10
unfolding big_settled
returns-in-10 c = cc (big_by c.args.stage 10 c.args.self.decoder c.in-10.is)

pub returns-in_default : goal.returns-in_default
returns-in_default c = cc (big_rest c.args.stage c.args.self.decoder (search rules) (search rules))
