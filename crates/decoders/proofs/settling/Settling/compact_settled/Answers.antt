use borrow.Author.Rules.{rules}
use Rattle.decoders.specs.Machine.{compact_settled}
use Rattle.decoders.proofs.Branches.{compact_by, compact_rest}
use mathlib.Core.Path.{sym, ◌∙◌}
use Rattle.decoders.proofs.settling.Settling.compact_settled.Goals as goal

pub returns-in-2 : goal.returns-in-2
unfolding compact_settled
returns-in-2 c = c.inputs_counted.ensures ∙ sym (compact_by c.args.stage 2 c.args.start c.args.n c.args.self.decoder c.in-2.is)

pub returns-in-11 : goal.returns-in-11
unfolding compact_settled
returns-in-11 c = c.outputs_counted.ensures ∙ sym (compact_by c.args.stage 11 c.args.start c.args.n c.args.self.decoder c.in-11.is)

pub returns-in-19 : goal.returns-in-19
unfolding compact_settled
returns-in-19 c = c.script_counted.ensures ∙ sym (compact_by c.args.stage 19 c.args.start c.args.n c.args.self.decoder c.in-19.is)

pub returns-in-21 : goal.returns-in-21
unfolding compact_settled
returns-in-21 c = c.pegin_counted.ensures ∙ sym (compact_by c.args.stage 21 c.args.start c.args.n c.args.self.decoder c.in-21.is)

pub returns-in_default : goal.returns-in_default
returns-in_default c = c.length_settled.ensures ∙ sym (compact_rest c.args.stage c.args.start c.args.n c.args.self.decoder (search rules) (search rules) (search rules) (search rules))
