use Rattle.decoders.proofs.Branches.{part_null, part_some}
use mathlib.Core.Path.{sym, ◌∙◌}
use Rattle.decoders.proofs.settling.Settling.part_next.Goals as goal

pub returns-then-self-eq0 : goal.returns-then-self-eq0
returns-then-self-eq0 g c = c.opened.ensures ∙ sym (part_null _ _ _ _ c.if-self-eq0.true)

pub returns-else-self-eq0 : goal.returns-else-self-eq0
returns-else-self-eq0 g c = c.part.ensures ∙ sym (part_some _ _ _ _ c.if-self-eq0.false)
