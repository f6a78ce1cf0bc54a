use mathlib.Core.Path.{sym, ◌∙◌}
use Rattle.decoders.proofs.Closing.{gate_range, gate_differs, gate_open}
use Rattle.decoders.proofs.TransactionDecoder.gate.Goals as goal

pub returns-then-not-in_range : goal.returns-then-not-in_range
returns-then-not-in_range c = gate_range c.args.self c.args.lent (sym c.in_range.ensures ∙ c.if-not-in_range.true)

pub returns-then-eq : goal.returns-then-eq
returns-then-eq c = gate_open c.args.self c.args.lent (sym c.in_range.ensures ∙ c.if-not-in_range.false) (sym c.eq.ensures ∙ c.if-eq.true)

pub returns-else-eq : goal.returns-else-eq
returns-else-eq c = gate_differs c.args.self c.args.lent (sym c.in_range.ensures ∙ c.if-not-in_range.false) (sym c.eq.ensures ∙ c.if-eq.false)
