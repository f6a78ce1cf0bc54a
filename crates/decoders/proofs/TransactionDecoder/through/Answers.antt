use Rattle.decoders.specs.Feeding.{tables}
use Rattle.decoders.proofs.Entries.{once_starts}
use Rattle.decoders.proofs.TransactionDecoder.through.Goals as goal

pub run-requires : goal.run-requires
run-requires c = once_starts (tables c.args.inputs.now c.args.outputs.now c.args.items.now) _ _ c.new.ensures
