use Rattle.write_back.proofs.Walking.{byte_ended, byte_same, byte_past, byte_other}
use Rattle.write_back.proofs.beside.BesideSink.byte.Goals.{else-at-self-via-then-at-self+else-self-at, else-at-self-via-else-at-self}
use Rattle.write_back.proofs.beside.BesideSink.byte.Goals as goal

pub returns-in_default : goal.returns-in_default
returns-in_default c = byte_ended c.args.b c.args.self.now _ c.in_default.is

pub returns-then-self-at : goal.returns-then-self-at
returns-then-self-at c = byte_same c.args.b c.args.self.now _ c.in-Ok.is c.if-at-self.true c.if-self-at.true

pub returns : goal.returns
returns c =
    elim c.else-at-self.branch [
      | else-at-self-via-then-at-self+else-self-at w ↦ byte_other c.args.b c.args.self.now _ c.in-Ok.is w.if-at-self.true w.if-self-at.false
      | else-at-self-via-else-at-self w ↦ byte_past c.args.b c.args.self.now _ c.in-Ok.is w.if-at-self.false
    ]
