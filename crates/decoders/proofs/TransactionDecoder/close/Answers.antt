use Rattle.decoders.specs.Feeding.{told, tables}
use Rattle.decoders.proofs.Closing.{closed_refused, closed_kept}
use Rattle.decoders.proofs.TransactionDecoder.close.Goals as goal

pub returns-then-self-eq-REFUSED : goal.returns-then-self-eq-REFUSED
returns-then-self-eq-REFUSED c = closed_refused c.args.self c.args.taken (told c.answer-answer.result) (tables c.args.inputs.now c.args.outputs.now c.args.items.now) _ c.if-self-eq-REFUSED.true c.answer-answer.ensures c.zero_all.ensures

pub returns-else-self-eq-REFUSED : goal.returns-else-self-eq-REFUSED
returns-else-self-eq-REFUSED c = closed_kept c.args.self c.args.taken (told c.answer-answer.result) (tables c.args.inputs.now c.args.outputs.now c.args.items.now) c.if-self-eq-REFUSED.false c.answer-answer.ensures
