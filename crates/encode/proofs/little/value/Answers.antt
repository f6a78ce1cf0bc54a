-- `encode::little::value` meets its contract: n is the value of the bytes from i on.
use Rattle.std.proofs.Common.{◌≡◌, ◌+◌, ◌-◌, ◌*◌, drop, refl, sym, ap, arith}
use Rattle.std.proofs.Math.Seq.{drop-length}
use Rattle.layout.specs.Number.{value, little}
use Rattle.encode.proofs.Number.{value_next, value_eight}
use Rattle.encode.proofs.little.value.Goals as goal
use Rattle.encode.proofs.little.value.Goals.{After-from}

one_more : (c : After-from) → 256 * c.loop-i.n + c.from.result ≡ value little (drop (c.loop-i.i - 1) c.args.bytes.now)
one_more c = value_next c.loop-i.i _ _ _ _ (omega arith) c.loop-i.auto.i c.loop-i.invariant c.from.ensures

pub loop-i-init : goal.loop-i-init
unfolding value
loop-i-init c = sym (ap (value little) (drop-length c.args.bytes.now))

pub overflow_mul-n : goal.overflow_mul-n
overflow_mul-n c =
    omega (arith, value_next c.loop-i.i (c.loop-i.i - 1) _ _ _ (omega arith) c.loop-i.auto.i c.loop-i.invariant refl, value_eight (c.loop-i.i - 1) c.args.bytes.now (λ i. (c.type_inv.bytes i).fits) c.requires)

pub overflow_add-n : goal.overflow_add-n
overflow_add-n c = omega (arith, one_more (goal.at.overflow_add-n c).After-from, value_eight (c.loop-i.i - 1) c.args.bytes.now (λ i. (c.type_inv.bytes i).fits) c.requires)

pub loop-i-preserved : goal.loop-i-preserved
loop-i-preserved c = one_more (goal.at.loop-i-preserved c).After-from
