use Rattle.decoders.specs.Feeding.{tables}
use Rattle.decoders.proofs.Entries.{strict_closes, strict_reads}
use Rattle.decoders.proofs.TransactionDecoder.read_strict.Goals as goal

pub shown-requires : goal.shown-requires
shown-requires c = strict_closes (tables c.args.inputs.now c.args.outputs.now c.args.items.now) c.args.piece.now (λ i. (c.type_inv.piece i).fits) _ _ c.through-done.ensures c.follow.result c.follow.ensures

pub returns : goal.returns
returns c = strict_reads (tables c.args.inputs.now c.args.outputs.now c.args.items.now) c.args.piece.now (λ i. (c.type_inv.piece i).fits) _ _ c.through-done.ensures c.follow.result _ c.follow.ensures c.shown.ensures
