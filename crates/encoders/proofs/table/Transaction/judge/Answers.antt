use Rattle.std.proofs.Common.{sym, ◌∙◌}
use Rattle.std.proofs.lemmas.Result.{err_from_is_err_and}
use Rattle.encoders.proofs.Judging.{fault_of, pass_of, hand_of, flag_refused, input_refused, output_refused, item_refused, sum_refused, empty_refused, nothing_refused}
use Rattle.encoders.proofs.table.Transaction.judge.Goals as goal

pub returns-then-flag-gt1 : goal.returns-then-flag-gt1
returns-then-flag-gt1 c = rw (c.at.ensures.kind, c.at.ensures.place, flag_refused _ _ _ _ _ c.if-flag-gt1.true)

pub returns-in_err-sum : goal.returns-in_err-sum
returns-in_err-sum c =
    let p = err_from_is_err_and c.from_residual.result c.from_residual.ensures.1 in
    rw (p.1, p.2) (sym (input_refused _ _ _ _ _ c.if-flag-gt1.false (fault_of _ _ c.in_err-sum.ensures)))

pub returns-in_err-output_faults : goal.returns-in_err-output_faults
returns-in_err-output_faults c =
    let p = err_from_is_err_and c.from_residual-in_err-output_faults.result c.from_residual-in_err-output_faults.ensures.1 in
    rw (p.1, p.2) (sym (output_refused _ _ _ _ _ c.if-flag-gt1.false (pass_of _ _ c.in_ok-sum.ensures) (sym c.in_err-output_faults.ensures)))

pub returns-in_err-item_faults : goal.returns-in_err-item_faults
returns-in_err-item_faults c =
    let p = err_from_is_err_and c.from_residual-in_err-item_faults.result c.from_residual-in_err-item_faults.ensures.1 in
    rw (p.1, p.2) (sym (item_refused _ _ _ _ _ c.if-flag-gt1.false (pass_of _ _ c.in_ok-sum.ensures) (sym c.in_ok-output_faults.ensures) (sym c.in_err-item_faults.ensures)))

pub returns-then-sum-self : goal.returns-then-sum-self
returns-then-sum-self c =
    rw
    (c.at-then-sum-self.ensures.kind, c.at-then-sum-self.ensures.place, sum_refused _ _ _ _ _ c.if-flag-gt1.false (pass_of _ _ c.in_ok-sum.ensures) (sym c.in_ok-output_faults.ensures) (sym c.in_ok-item_faults.ensures) (λ e. c.if-sum-self.true (hand_of _ _ c.in_ok-sum.ensures ∙ e)))

pub returns-then-all_empty : goal.returns-then-all_empty
returns-then-all_empty c =
    rw
    (c.at-then-all_empty.ensures.kind, c.at-then-all_empty.ensures.place, empty_refused _ _ _ _ _ c.if-flag-gt1.false (pass_of _ _ c.in_ok-sum.ensures) (sym c.in_ok-output_faults.ensures) (sym c.in_ok-item_faults.ensures) (sym (hand_of _ _ c.in_ok-sum.ensures) ∙ c.if-sum-self.false) (sym c.all_empty.ensures ∙ c.if-all_empty.true))

pub returns : goal.returns
returns c =
    sym
    (nothing_refused _ _ _ _ _ c.if-flag-gt1.false (pass_of _ _ c.in_ok-sum.ensures) (sym c.in_ok-output_faults.ensures) (sym c.in_ok-item_faults.ensures) (sym (hand_of _ _ c.in_ok-sum.ensures) ∙ c.if-sum-self.false) (sym c.all_empty.ensures ∙ c.if-all_empty.false))
