use borrow.Author.Rules.{rules}
use Rattle.decoders.specs.Machine.{little_settled}
use Rattle.decoders.proofs.Branches.{little_by, little_rest}
use mathlib.Core.Path.{sym, ◌∙◌}
use Rattle.decoders.proofs.settling.Settling.little_settled.Goals as goal

pub returns-in-0 : goal.returns-in-0
unfolding little_settled
returns-in-0 c = c.version_settled.ensures ∙ sym (little_by c.args.stage 0 c.args.self.decoder c.in-0.is)

pub returns-in-1 : goal.returns-in-1
unfolding little_settled
returns-in-1 c = c.flag_settled.ensures ∙ sym (little_by c.args.stage 1 c.args.self.decoder c.in-1.is)

pub returns-in-4 : goal.returns-in-4
unfolding little_settled
returns-in-4 c = c.vout_settled.ensures ∙ sym (little_by c.args.stage 4 c.args.self.decoder c.in-4.is)

pub returns-in-6 : goal.returns-in-6
unfolding little_settled
returns-in-6 c = c.sequence_settled.ensures ∙ sym (little_by c.args.stage 6 c.args.self.decoder c.in-6.is)

pub returns-in-9 : goal.returns-in-9
unfolding little_settled
returns-in-9 c = c.amount_settled.ensures ∙ sym (little_by c.args.stage 9 c.args.self.decoder c.in-9.is)

pub returns-in-10 : goal.returns-in-10
unfolding little_settled
returns-in-10 c = c.keys_settled.ensures ∙ sym (little_by c.args.stage 10 c.args.self.decoder c.in-10.is)

pub returns-in-12 : goal.returns-in-12
unfolding little_settled
returns-in-12 c = c.asset_settled.ensures ∙ sym (little_by c.args.stage 12 c.args.self.decoder c.in-12.is)

pub returns-in-13 : goal.returns-in-13
unfolding little_settled
returns-in-13 c = c.value_settled.ensures ∙ sym (little_by c.args.stage 13 c.args.self.decoder c.in-13.is)

pub returns-in-14 : goal.returns-in-14
unfolding little_settled
returns-in-14 c = c.nonce_settled.ensures ∙ sym (little_by c.args.stage 14 c.args.self.decoder c.in-14.is)

pub returns-in_default : goal.returns-in_default
returns-in_default c = c.locktime_settled.ensures ∙ sym (little_rest c.args.stage c.args.self.decoder (search rules) (search rules) (search rules) (search rules) (search rules) (search rules) (search rules) (search rules) (search rules))
