use Rattle.decoders.specs.Feeding.{tables}
use Rattle.decoders.proofs.Entries.{pushed_misused, pushed_starts, pushed_closed, pushed_closes}
use Rattle.decoders.proofs.TransactionDecoder.push_bytes.Goals as goal

pub returns-in-Err : goal.returns-in-Err
returns-in-Err c = pushed_misused c.args.self (tables c.args.inputs.now c.args.outputs.now c.args.items.now) _ c.of.ensures c.in-Err.kind c.in-Err.ensures c.args.piece.now _ c.misused.ensures

pub run-self-requires : goal.run-self-requires
run-self-requires c = pushed_starts c.args.self (tables c.args.inputs.now c.args.outputs.now c.args.items.now) _ c.of.ensures c.in_default.ensures

pub close-requires : goal.close-requires
close-requires c = pushed_closes c.args.self (tables c.args.inputs.now c.args.outputs.now c.args.items.now) _ c.of.ensures c.in_default.ensures c.args.piece.now (λ i. (c.type_inv.piece i).fits) c.run-self.result _ c.run-self.ensures

pub returns : goal.returns
returns c = pushed_closed c.args.self (tables c.args.inputs.now c.args.outputs.now c.args.items.now) _ c.of.ensures c.in_default.ensures c.args.piece.now c.run-self.result _ c.saturating_sub-taken.result _ c.run-self.ensures c.saturating_sub-taken.ensures c.close.ensures
