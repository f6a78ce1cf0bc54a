use Rattle.std.proofs.Common.{sym, ◌∙◌}
use Rattle.encoders.proofs.Judging.{breaks_rule, is_confused, is_null_lem, is_fine, items_small, passes_witness}
use Rattle.encoders.proofs.check.input_fault.Goals as goal

pub returns-then-not-input_rule-clause-told : goal.returns-then-not-input_rule-clause-told
returns-then-not-input_rule-clause-told c = rw (c.at.ensures.kind, c.at.ensures.place, breaks_rule _ _ _ _ _ (sym c.input_rule.ensures ∙ c.if-not-input_rule.true))

pub returns-then-confused-clause-told : goal.returns-then-confused-clause-told
returns-then-confused-clause-told c =
    rw (c.at-then-confused.ensures.kind, c.at-then-confused.ensures.place, is_confused _ _ _ _ _ (sym c.input_rule.ensures ∙ c.if-not-input_rule.false) (sym c.confused.ensures ∙ c.if-confused.true))

pub returns-then-null_issuance-clause-told : goal.returns-then-null_issuance-clause-told
returns-then-null_issuance-clause-told c =
    rw
    (c.at-then-null_issuance.ensures.kind, c.at-then-null_issuance.ensures.place, is_null_lem _ _ _ _ _ (sym c.input_rule.ensures ∙ c.if-not-input_rule.false) (sym c.confused.ensures ∙ c.if-confused.false) (sym c.null_issuance.ensures ∙ c.if-null_issuance.true))

pub returns : goal.returns
returns c =
    let f = is_fine c.args.flag c.args.there c.args.first c.args.i c.args.r.now (sym c.input_rule.ensures ∙ c.if-not-input_rule.false) (sym c.confused.ensures ∙ c.if-confused.false) (sym c.null_issuance.ensures ∙ c.if-null_issuance.false) in
    record {
      told = rw f;
      small = items_small _ _ _ _ (passes_witness _ _ _ _ _ f) (c.fits-r 17) (c.fits-r 18) (c.fits-r 19);
    }
