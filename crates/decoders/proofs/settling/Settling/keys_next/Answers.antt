use Rattle.decoders.proofs.Branches.{keys_is, keys_not, value_part_lem}
use mathlib.Core.Path.{sym, ◌∙◌}
use borrow.Author.Rules.{rules}
use Rattle.decoders.proofs.settling.Settling.keys_next.Goals as goal

pub returns-then-self-eq0 : goal.returns-then-self-eq0
returns-then-self-eq0 c = c.null_keys_next.ensures ∙ sym (keys_is _ (search rules))

pub returns-else-self-eq0 : goal.returns-else-self-eq0
returns-else-self-eq0 c = c.part.ensures ∙ value_part_lem c.args.self.decoder ∙ sym (keys_not _ (search rules))
