use Rattle.decoders.proofs.Branches.{start_further}
use borrow.Author.Tests.{ne_eqb}
use Rattle.decoders.proofs.Field.count_start.Goals as goal

pub returns-then-self-eq-FURTHER : goal.returns-then-self-eq-FURTHER
returns-then-self-eq-FURTHER c = start_further c.args.self.form c.args.self.width c.args.taken _ _ c.if-self-eq-FURTHER.true c.saturating_sub.ensures c.saturating_sub-then-self-eq-FURTHER.ensures

pub returns-else-self-eq-FURTHER : goal.returns-else-self-eq-FURTHER
returns-else-self-eq-FURTHER c = rw (ne_eqb c.args.self.form 0 c.if-self-eq-FURTHER.false) c.saturating_sub-else-self-eq-FURTHER.ensures
