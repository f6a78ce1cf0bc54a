use Rattle.decoders.specs.Feeding.{tables}
use Rattle.decoders.proofs.Entries.{once_closes, at_once_reads}
use Rattle.decoders.proofs.TransactionDecoder.read.Goals as goal

pub shown-requires : goal.shown-requires
shown-requires c = once_closes (tables c.args.inputs.now c.args.outputs.now c.args.items.now) c.args.piece.now (λ i. (c.type_inv.piece i).fits) _ _ c.through-done.ensures

pub returns : goal.returns
returns c = at_once_reads (tables c.args.inputs.now c.args.outputs.now c.args.items.now) c.args.piece.now (λ i. (c.type_inv.piece i).fits) _ _ c.through-done.ensures _ c.shown.ensures
