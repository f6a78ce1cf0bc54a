use Rattle.decoders.proofs.Branches.{body_opened_is, body_opened_default}
use mathlib.Core.Path.{sym, ◌∙◌}
use borrow.Author.Rules.{rules}
use Rattle.decoders.proofs.settling.Settling.body_opened.Goals as goal

pub returns-then-n-eq0 : goal.returns-then-n-eq0
returns-then-n-eq0 c = c.body_ends.ensures ∙ sym (body_opened_is _ _ _ (search rules))

pub returns-else-n-eq0 : goal.returns-else-n-eq0
returns-else-n-eq0 c = body_opened_default _ _ _ _ _ c.default.ensures.1.1.1.0 c.default.ensures.1.1.1.1 (search rules)
