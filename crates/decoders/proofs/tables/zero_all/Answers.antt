use Rattle.decoders.proofs.Zeroing.{cleared_each}
use Rattle.decoders.proofs.tables.zero_all.Goals as goal

pub returns : goal.returns
returns c = cleared_each c.args.inputs.now c.args.outputs.now c.args.items.now _ _ _ (c.fill.ensures.after (λ y e. e)) (c.fill-2.ensures.after (λ y e. e)) (c.fill-3.ensures.after (λ y e. e))
