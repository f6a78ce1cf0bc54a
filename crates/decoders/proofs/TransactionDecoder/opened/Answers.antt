use mathlib.Core.Path.{sym, ◌∙◌}
use Rattle.decoders.proofs.Laws.{opened_default, opened_past}
use Rattle.decoders.proofs.TransactionDecoder.opened.Goals as goal

pub returns-then-saturating_add-le-LIMIT : goal.returns-then-saturating_add-le-LIMIT
returns-then-saturating_add-le-LIMIT c = opened_default _ _ _ _ _ _ _ _ c.default.ensures.1.1.1.0 c.default.ensures.1.1.1.1 c.saturating_add.ensures c.if-saturating_add-le-LIMIT.true

pub returns-else-saturating_add-le-LIMIT : goal.returns-else-saturating_add-le-LIMIT
returns-else-saturating_add-le-LIMIT c = c.refuse.ensures ∙ sym (opened_past _ _ _ _ _ _ c.saturating_add.ensures c.if-saturating_add-le-LIMIT.false)
