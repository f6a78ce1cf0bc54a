use Rattle.decoders.proofs.Branches.{length_fits, length_past}
use Rattle.decoders.proofs.settling.Settling.length_settled.Goals as goal

pub returns-then-n-self : goal.returns-then-n-self
returns-then-n-self c = cc (length_fits c.args.stage c.args.start c.args.n c.args.self.decoder c.args.self.safe.taken c.if-n-self.true)

pub returns-else-n-self : goal.returns-else-n-self
returns-else-n-self c = cc (length_past c.args.stage c.args.start c.args.n c.args.self.decoder c.args.self.safe.taken c.if-n-self.false)
