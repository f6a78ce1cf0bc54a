use mathlib.Core.Path.{sym, ◌∙◌}
use Rattle.decoders.proofs.Branches.{null_keys_is, null_keys_not}
use mathlib.Core.Path.{sym, ◌∙◌}
use Rattle.decoders.proofs.settling.Settling.null_keys_next.Goals as goal

pub returns-then-self-eq1 : goal.returns-then-self-eq1
returns-then-self-eq1 c = cc (null_keys_is c.args.self.decoder c.if-self-eq1.true)

pub returns-else-self-eq1 : goal.returns-else-self-eq1
returns-else-self-eq1 c = c.input_ends.ensures ∙ sym (null_keys_not c.args.self.decoder c.if-self-eq1.false)
