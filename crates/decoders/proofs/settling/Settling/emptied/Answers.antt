use borrow.Author.Rules.{rules}
use Rattle.decoders.proofs.Branches.{emptied_is, emptied_not}
use mathlib.Core.Path.{sym}
use Rattle.decoders.proofs.settling.Settling.emptied.Goals as goal

pub returns-then-n-eq0 : goal.returns-then-n-eq0
returns-then-n-eq0 c = sym (emptied_is _ _ (search rules))

pub returns : goal.returns
returns c = sym (emptied_not _ _ (search rules))
