use Rattle.decoders.specs.Feeding.{tables}
use Rattle.decoders.proofs.Entries.{ended_misused, ended_closed, ended_closes}
use Rattle.decoders.proofs.TransactionDecoder.end.Goals as goal

pub returns-in-Err : goal.returns-in-Err
returns-in-Err c = ended_misused c.args.self (tables c.args.inputs.now c.args.outputs.now c.args.items.now) _ c.of.ensures c.in-Err.kind c.in-Err.ensures _ c.misused.ensures

pub close-requires : goal.close-requires
close-requires c = ended_closes c.args.self (tables c.args.inputs.now c.args.outputs.now c.args.items.now) _ c.of.ensures c.in_default.ensures c.finish-self.result c.finish-self.ensures

pub returns : goal.returns
returns c = ended_closed c.args.self (tables c.args.inputs.now c.args.outputs.now c.args.items.now) _ c.of.ensures c.in_default.ensures c.finish-self.result _ c.finish-self.ensures c.close.ensures
