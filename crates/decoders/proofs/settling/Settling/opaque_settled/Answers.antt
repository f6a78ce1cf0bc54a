use borrow.Author.Rules.{rules}
use Rattle.decoders.specs.Machine.{opaque_settled}
use Rattle.decoders.proofs.Branches.{opaque_by, opaque_rest}
use Rattle.decoders.proofs.settling.Settling.opaque_settled.Goals as goal

pub returns-in-3 : goal.returns-in-3
unfolding opaque_settled
returns-in-3 c = cc (opaque_by c.args.stage 3 c.args.self.decoder c.in-3.is)

pub returns-in-7 : goal.returns-in-7
unfolding opaque_settled
returns-in-7 c = cc (opaque_by c.args.stage 7 c.args.self.decoder c.in-7.is)

pub returns-in-8 : goal.returns-in-8
unfolding opaque_settled
returns-in-8 c = cc (opaque_by c.args.stage 8 c.args.self.decoder c.in-8.is)

pub returns-in-9 : goal.returns-in-9
unfolding opaque_settled
returns-in-9 c = cc (opaque_by c.args.stage 9 c.args.self.decoder c.in-9.is)

pub returns-in-10 : goal.returns-in-10
unfolding opaque_settled
returns-in-10 c = cc (opaque_by c.args.stage 10 c.args.self.decoder c.in-10.is)

pub returns-in-12 : goal.returns-in-12
unfolding opaque_settled
returns-in-12 c = cc (opaque_by c.args.stage 12 c.args.self.decoder c.in-12.is)

pub returns-in-13 : goal.returns-in-13
unfolding opaque_settled
returns-in-13 c = cc (opaque_by c.args.stage 13 c.args.self.decoder c.in-13.is)

pub returns-in-14 : goal.returns-in-14
unfolding opaque_settled
returns-in-14 c = cc (opaque_by c.args.stage 14 c.args.self.decoder c.in-14.is)

pub returns-in_default : goal.returns-in_default
returns-in_default c = cc (opaque_rest c.args.stage c.args.self.decoder (search rules) (search rules) (search rules) (search rules) (search rules) (search rules) (search rules) (search rules))
