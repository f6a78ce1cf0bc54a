use borrow.Author.Rules.{rules}
use Rattle.decoders.specs.Machine.{settle_by}
use Rattle.decoders.proofs.Branches.{form_by, form_count, form_rest}
use mathlib.Core.Path.{sym, ◌∙◌}
use Rattle.decoders.proofs.settling.Settling.settle.Goals as goal

pub returns-then-form-le-FIRST : goal.returns-then-form-le-FIRST
returns-then-form-le-FIRST c = c.count_settled.ensures ∙ sym (form_count c.args.self.decoder.field.form c.args.self.decoder c.if-form-le-FIRST.true)

pub returns-in-2 : goal.returns-in-2
unfolding settle_by
returns-in-2 c = c.opaque_settled.ensures ∙ sym (form_by c.args.self.decoder.field.form 2 c.args.self.decoder c.in-2.is)

pub returns-in-3 : goal.returns-in-3
unfolding settle_by
returns-in-3 c = c.little_settled.ensures ∙ sym (form_by c.args.self.decoder.field.form 3 c.args.self.decoder c.in-3.is)

pub returns-in_default : goal.returns-in_default
returns-in_default c = c.big_settled.ensures ∙ sym (form_rest c.args.self.decoder.field.form c.args.self.decoder c.if-form-le-FIRST.false (search rules) (search rules))
