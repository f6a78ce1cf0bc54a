use Rattle.decoders.specs.Machine.{body_entered}
use Rattle.decoders.proofs.Branches.{entered_by, entered_rest}
use borrow.Author.Rules.{rules}
use mathlib.Core.Path.{sym, ◌∙◌}
use Rattle.std.proofs.Common.{inl, inr}
use Rattle.decoders.proofs.settling.Settling.body_entered.Goals as goal

pub returns-in-5 : goal.returns-in-5
unfolding body_entered
returns-in-5 c = c.input.ensures ∙ sym (entered_by c.args.stage 5 c.args.n c.args.self.decoder c.in-5.is)

pub returns-in-15 : goal.returns-in-15
unfolding body_entered
returns-in-15 c = c.output.ensures ∙ sym (entered_by c.args.stage 15 c.args.n c.args.self.decoder c.in-15.is)

pub returns-in-17 : goal.returns-in-17
unfolding body_entered
returns-in-17 c = c.input-in-17.ensures ∙ sym (entered_by c.args.stage 17 c.args.n c.args.self.decoder c.in-17.is)

pub returns-in-18 : goal.returns-in-18
unfolding body_entered
returns-in-18 c = c.input-in-18.ensures ∙ sym (entered_by c.args.stage 18 c.args.n c.args.self.decoder c.in-18.is)

pub returns-in-20 : goal.returns-in-20
unfolding body_entered
returns-in-20 c = c.item.ensures ∙ elim c.in-20.is [ inl e ↦ sym (entered_by c.args.stage 20 c.args.n c.args.self.decoder e) | inr e ↦ sym (entered_by c.args.stage 22 c.args.n c.args.self.decoder e) ]

pub returns-in-23 : goal.returns-in-23
unfolding body_entered
returns-in-23 c = c.output-in-23.ensures ∙ sym (entered_by c.args.stage 23 c.args.n c.args.self.decoder c.in-23.is)

pub returns-in_default : goal.returns-in_default
returns-in_default c = c.output-in_default.ensures ∙ sym (entered_rest c.args.stage c.args.n c.args.self.decoder (search rules) (search rules) (search rules) (search rules) (search rules) (search rules) (search rules))
