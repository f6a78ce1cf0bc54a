use Rattle.decoders.proofs.Branches.{inputs_fit, inputs_many}
use Rattle.decoders.proofs.settling.Settling.inputs_counted.Goals as goal

pub returns-then-n-room : goal.returns-then-n-room
returns-then-n-room c = cc (inputs_fit c.args.start c.args.n c.args.self.decoder c.if-n-room.true)

pub returns-else-n-room : goal.returns-else-n-room
returns-else-n-room c = cc (inputs_many c.args.start c.args.n c.args.self.decoder c.if-n-room.false)
