use Rattle.decoders.specs.Feeding.{tables}
use Rattle.decoders.proofs.Advance.{step_have, step_part, step_gathers, step_fits, step_within, step_safe, step_enters, step_settles}
use Rattle.decoders.proofs.TransactionDecoder.advance.Goals as goal

pub overflow_sub-need : goal.overflow_sub-need
overflow_sub-need c = step_have c.args.self (tables c.args.inputs.now c.args.outputs.now c.args.items.now) c.args.rest.now c.requires (λ i. (c.type_inv.rest i).fits)

pub slice_bounds-worths-end : goal.slice_bounds-worths-end
slice_bounds-worths-end c = step_part c.args.self (tables c.args.inputs.now c.args.outputs.now c.args.items.now) c.args.rest.now c.requires (λ i. (c.type_inv.rest i).fits) c.min-k.result c.min-k.ensures

pub worths-v-requires : goal.worths-v-requires
worths-v-requires c = step_gathers c.args.self (tables c.args.inputs.now c.args.outputs.now c.args.items.now) c.args.rest.now c.requires (λ i. (c.type_inv.rest i).fits) c.min-k.result c.min-k.ensures

pub gathered-next-requires : goal.gathered-next-requires
gathered-next-requires c = step_fits c.args.self (tables c.args.inputs.now c.args.outputs.now c.args.items.now) c.args.rest.now c.requires (λ i. (c.type_inv.rest i).fits) c.min-k.result c.min-k.ensures

pub returns-then-k-need : goal.returns-then-k-need
returns-then-k-need c = step_within c.args.self (tables c.args.inputs.now c.args.outputs.now c.args.items.now) c.args.rest.now c.requires (λ i. (c.type_inv.rest i).fits) c.min-k.result c.min-k.ensures c.worths-v.result c.worths-v.ensures c.gathered-next.result c.if-k-need.true c.gathered-next.ensures

pub invariant_of-settle : goal.invariant_of-settle
invariant_of-settle c = record { safe = step_safe c.args.self (tables c.args.inputs.now c.args.outputs.now c.args.items.now) c.args.rest.now c.requires (λ i. (c.type_inv.rest i).fits) c.min-k.result c.min-k.ensures c.worths-v.result c.worths-v.ensures c.gathered-next.result c.if-k-need.false c.gathered-next.ensures }

pub enter-requires : goal.enter-requires
enter-requires c = step_enters c.args.self (tables c.args.inputs.now c.args.outputs.now c.args.items.now) c.args.rest.now c.requires (λ i. (c.type_inv.rest i).fits) c.min-k.result c.min-k.ensures c.worths-v.result c.worths-v.ensures c.gathered-next.result c.if-k-need.false c.gathered-next.ensures c.settle-done.result c.settle-done.ensures

pub returns : goal.returns
returns c = step_settles c.args.self (tables c.args.inputs.now c.args.outputs.now c.args.items.now) c.args.rest.now c.requires (λ i. (c.type_inv.rest i).fits) c.min-k.result c.min-k.ensures c.worths-v.result c.worths-v.ensures c.gathered-next.result c.if-k-need.false c.gathered-next.ensures c.settle-done.result _ c.settle-done.ensures c.enter.ensures
