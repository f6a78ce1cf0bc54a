use Rattle.decoders.proofs.Closing.{told_finished, told_refused, told_more}
use Rattle.decoders.proofs.TransactionDecoder.answer.Goals as goal

pub head-requires : goal.head-requires
head-requires c = c.requires.headed c.if-self-eq-FINISHED.true

pub returns-then-self-eq-FINISHED : goal.returns-then-self-eq-FINISHED
returns-then-self-eq-FINISHED c = told_finished c.args.self c.head.result c.if-self-eq-FINISHED.true c.head.ensures

pub returns-in-Ok : goal.returns-in-Ok
returns-in-Ok c = told_refused c.args.self c.at.result c.in-Ok.kind c.if-self-eq-REFUSED.true c.in-Ok.ensures c.at.ensures.kind c.at.ensures.place

pub returns-else-self-eq-REFUSED : goal.returns-else-self-eq-REFUSED
returns-else-self-eq-REFUSED c = told_more c.args.self c.if-self-eq-FINISHED.false c.if-self-eq-REFUSED.false
