use mathlib.Core.Path.{◌∙◌}
use Rattle.decoders.proofs.Closing.{finish_ended, finish_cut}
use Rattle.decoders.proofs.TransactionDecoder.finish.Goals as goal

pub returns-then-self-ge-FINISHED : goal.returns-then-self-ge-FINISHED
returns-then-self-ge-FINISHED c = finish_ended c.args.self c.if-self-ge-FINISHED.true

pub returns-else-self-ge-FINISHED : goal.returns-else-self-ge-FINISHED
returns-else-self-ge-FINISHED c = c.refuse.ensures ∙ finish_cut c.args.self c.if-self-ge-FINISHED.false
