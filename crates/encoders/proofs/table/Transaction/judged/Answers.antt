use Rattle.std.proofs.Common.{sym, ap, ◌∙◌}
use Rattle.std.proofs.lemmas.Result.{err_from_is_err_and}
use Rattle.encoders.specs.Needs.{capped}
use Rattle.encoders.proofs.Judging.{counted_faults, exceeded_faults}
use Rattle.encoders.proofs.Widths.{counted_width, faulty, too_long_lem, fits}
use Rattle.encoders.proofs.table.Transaction.judged.Goals as goal

pub returns-in_err-transaction : goal.returns-in_err-transaction
returns-in_err-transaction c =
    let p = err_from_is_err_and c.from_residual.result c.from_residual.ensures.1 in
    let x = c.in_err-transaction.ensures in
    rw (p.1, p.2) (record { told = faulty _ _ _ (exceeded_faults _ _ _ x.exceeded ∙ sym x.told) })

pub returns-in_err-judge : goal.returns-in_err-judge
returns-in_err-judge c =
    let p = err_from_is_err_and c.from_residual-in_err-judge.result c.from_residual-in_err-judge.ensures.1 in
    rw (p.1, p.2) (record { told = faulty _ _ _ (sym (counted_faults c.in_ok-transaction.ensures _) ∙ sym c.in_err-judge.ensures) })

pub returns-then-n-gt-LIMIT : goal.returns-then-n-gt-LIMIT
returns-then-n-gt-LIMIT c =
    record {
      told =
          rw
          (c.at.ensures.kind, c.at.ensures.place)
          (too_long_lem _ _ _ (sym (counted_faults c.in_ok-transaction.ensures _) ∙ sym c.in_ok-judge.ensures) (c.width-n.ensures ∙ ap capped (counted_width c.in_ok-transaction.ensures)) c.if-n-gt-LIMIT.true);
    }

pub returns : goal.returns
returns c =
    record {
      counted = c.in_ok-transaction.ensures;
      told = fits _ _ _ (sym (counted_faults c.in_ok-transaction.ensures _) ∙ sym c.in_ok-judge.ensures) (c.width-n.ensures ∙ ap capped (counted_width c.in_ok-transaction.ensures)) c.if-n-gt-LIMIT.false;
    }
