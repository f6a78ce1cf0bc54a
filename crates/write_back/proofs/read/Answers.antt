use Rattle.decoders.specs.Feeding.{tables}
use Rattle.write_back.proofs.Backing.{read_finished, read_more, read_refused}
use Rattle.write_back.proofs.read.Goals as goal

pub returns-in-Finished : goal.returns-in-Finished
returns-in-Finished c = read_finished (tables c.args.inputs.now c.args.outputs.now c.args.items.now) _ c.args.source.now _ _ _ (λ i. (c.type_inv.source i).fits) c.read_strict-r.ensures c.in-Finished.is c.written.ensures

pub returns-in-More : goal.returns-in-More
returns-in-More c = read_more (tables c.args.inputs.now c.args.outputs.now c.args.items.now) _ c.args.source.now _ _ c.read_strict-r.ensures c.in-More.is c.at.ensures.kind c.at.ensures.place

pub returns-in-Refused : goal.returns-in-Refused
returns-in-Refused c = read_refused (tables c.args.inputs.now c.args.outputs.now c.args.items.now) _ c.args.source.now _ _ c.read_strict-r.ensures c.in-Refused.is
