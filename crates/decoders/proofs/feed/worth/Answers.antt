use native.Mathlib.Omega.{arith}
use Rattle.decoders.proofs.Gather.{big_fits, little_fits, worth_big, worth_little}
use Rattle.decoders.proofs.feed.worth.Goals as goal

pub overflow_mul-result : goal.overflow_mul-result
overflow_mul-result c = omega (arith, big_fits c.args.value c.args.have c.args.b c.requires.number c.requires.below c.requires.byte)

pub overflow_add-result : goal.overflow_add-result
overflow_add-result c = omega (arith, big_fits c.args.value c.args.have c.args.b c.requires.number c.requires.below c.requires.byte)

pub overflow_mul-result-else-form-eq-BIG : goal.overflow_mul-result-else-form-eq-BIG
overflow_mul-result-else-form-eq-BIG c = omega (arith, little_fits c.args.value c.args.have c.args.b c.power.result c.requires.number c.requires.below c.requires.byte c.power.ensures)

pub overflow_add-result-else-form-eq-BIG : goal.overflow_add-result-else-form-eq-BIG
overflow_add-result-else-form-eq-BIG c = omega (arith, little_fits c.args.value c.args.have c.args.b c.power.result c.requires.number c.requires.below c.requires.byte c.power.ensures)

pub returns-then-form-eq-BIG : goal.returns-then-form-eq-BIG
returns-then-form-eq-BIG c = worth_big c.args.form c.args.value c.args.have c.args.b c.if-form-eq-BIG.true

pub returns-else-form-eq-BIG : goal.returns-else-form-eq-BIG
returns-else-form-eq-BIG c = worth_little c.args.form c.args.value c.args.have c.args.b c.power.result c.requires.looked c.if-form-eq-BIG.false c.power.ensures
