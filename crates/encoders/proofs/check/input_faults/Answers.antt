use Rattle.std.proofs.lemmas.Result.{err_from_is_err_and}
use Rattle.encoders.proofs.Judging.{judging_fault, judging_next, judging_last}
use Rattle.encoders.proofs.check.input_faults.Goals as goal

pub returns-in_err-first : goal.returns-in_err-first
returns-in_err-first c =
    let p = err_from_is_err_and c.from_residual.result c.from_residual.ensures.1 in
    rw (p.1, p.2) (judging_fault c.loop-i.invariant c.loop-i-test.true c.in_err-first.ensures.told)

pub loop-i-preserved : goal.loop-i-preserved
loop-i-preserved c = judging_next c.loop-i.invariant c.loop-i-test.true c.in_ok-first.ensures.told c.in_ok-first.ensures.small

pub returns : goal.returns
returns c = judging_last c.loop-i.invariant c.loop-i-test.false
