use Rattle.decoders.proofs.Branches.{count_announces_lem, count_long_lem, count_known}
use mathlib.Core.Path.{sym, ◌∙◌}
use Rattle.decoders.proofs.settling.Settling.count_settled.Goals as goal

pub returns-then-count_announces : goal.returns-then-count_announces
returns-then-count_announces c = cc (count_announces_lem c.args.self.decoder.field.form c.args.self.decoder (sym c.count_announces.ensures ∙ c.if-count_announces.true))

pub returns-then-count_long : goal.returns-then-count_long
returns-then-count_long c = cc (count_long_lem c.args.self.decoder.field.form c.args.self.decoder (sym c.count_long.ensures ∙ c.if-count_long.true))

pub returns : goal.returns
returns c = cc (count_known c.args.self.decoder.field.form c.args.self.decoder (sym c.count_announces.ensures ∙ c.if-count_announces.false) (sym c.count_long.ensures ∙ c.if-count_long.false))
