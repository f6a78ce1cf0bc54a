use Rattle.decoders.specs.Machine.{body_ends}
use Rattle.decoders.proofs.Laws.{body_by, body_rest}
use mathlib.Core.Path.{sym, ◌∙◌}
use borrow.Author.Rules.{rules}
use Rattle.decoders.proofs.settling.Settling.body_ends.Goals as goal

pub returns-in-5 : goal.returns-in-5
unfolding body_ends
returns-in-5 c = c.number.ensures ∙ sym (body_by c.args.self.decoder c.args.stage 5 c.in-5.is)

pub returns-in-15 : goal.returns-in-15
unfolding body_ends
returns-in-15 c = c.output_ends.ensures ∙ sym (body_by c.args.self.decoder c.args.stage 15 c.in-15.is)

pub returns-in-17 : goal.returns-in-17
unfolding body_ends
returns-in-17 c = c.compact.ensures ∙ sym (body_by c.args.self.decoder c.args.stage 17 c.in-17.is)

pub returns-in-18 : goal.returns-in-18
unfolding body_ends
returns-in-18 c = c.compact-in-18.ensures ∙ sym (body_by c.args.self.decoder c.args.stage 18 c.in-18.is)

pub returns-in-20 : goal.returns-in-20
unfolding body_ends
returns-in-20 c = c.script_item_ends.ensures ∙ sym (body_by c.args.self.decoder c.args.stage 20 c.in-20.is)

pub returns-in-22 : goal.returns-in-22
unfolding body_ends
returns-in-22 c = c.pegin_item_ends.ensures ∙ sym (body_by c.args.self.decoder c.args.stage 22 c.in-22.is)

pub returns-in-23 : goal.returns-in-23
unfolding body_ends
returns-in-23 c = c.compact-in-23.ensures ∙ sym (body_by c.args.self.decoder c.args.stage 23 c.in-23.is)

pub returns-in_default : goal.returns-in_default
returns-in_default c = c.output_witness_ends.ensures ∙ sym (body_rest _ _ (search rules) (search rules) (search rules) (search rules) (search rules) (search rules) (search rules))
