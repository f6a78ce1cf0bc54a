use Prim.Native.Nat.{◌+◌}
use mathlib.Core.Path.{◌∙◌, ap}
use native.Mathlib.Omega.{arith}
use Rattle.decoders.specs.Machine.{worth}
use Rattle.decoders.proofs.Gather.{worthed_none, worthed_more, worthed_all}
use Rattle.decoders.proofs.Field.worths_slow.Goals as goal

pub loop-i-init : goal.loop-i-init
loop-i-init c = worthed_none c.args.self.form c.args.self.value c.args.self.have c.args.part.now c.requires.gathers.below

pub worth-v-requires : goal.worth-v-requires
worth-v-requires c = let h = c.requires.gathers.number c.requires.looked in record { looked = c.requires.looked; number = omega (arith, h); below = c.loop-i.invariant.1; byte = omega (arith, c.from.ensures, c.type_inv.part c.loop-i.i) }

pub loop-i-preserved : goal.loop-i-preserved
loop-i-preserved c = worthed_more c.args.self.form c.args.self.value c.args.self.have c.args.part.now c.loop-i.v c.loop-i.i c.worth-v.result c.loop-i.invariant c.loop-i-test.true (c.type_inv.part c.loop-i.i).fits (c.worth-v.ensures ∙ ap (λ (b : _). worth c.args.self.form c.loop-i.v (c.args.self.have + c.loop-i.i) b) c.from.ensures)

pub returns : goal.returns
returns c = worthed_all c.args.self.form c.args.self.value c.args.self.have c.args.part.now c.loop-i.v c.loop-i.i c.loop-i.invariant c.loop-i-test.false
