use mathlib.Core.Path.{◌∙◌}
use Rattle.decoders.proofs.Closing.{follow_more, follow_none, follow_not}
use Rattle.decoders.proofs.TransactionDecoder.follow.Goals as goal

pub returns-then-taken-there : goal.returns-then-taken-there
returns-then-taken-there c = c.refuse.ensures ∙ follow_more c.args.self c.args.there c.if-self-eq-FINISHED.true c.if-taken-there.true

pub returns-else-taken-there : goal.returns-else-taken-there
returns-else-taken-there c = follow_none c.args.self c.args.there c.if-self-eq-FINISHED.true c.if-taken-there.false

pub returns-else-self-eq-FINISHED : goal.returns-else-self-eq-FINISHED
returns-else-self-eq-FINISHED c = follow_not c.args.self c.args.there c.if-self-eq-FINISHED.false
