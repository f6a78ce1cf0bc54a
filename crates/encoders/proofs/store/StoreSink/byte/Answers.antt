use borrow.Author.Tests.{lt-ltb, le-ltb}
use Rattle.encoders.specs.Sinks.{along}
use Rattle.encoders.proofs.store.StoreSink.byte.Goals as goal

pub returns-then-self : goal.returns-then-self
unfolding along
returns-then-self c = record { took = rw (lt-ltb _ _ c.if-self.true) }

pub returns-else-self : goal.returns-else-self
unfolding along
returns-else-self c = record { took = rw (le-ltb _ _ c.if-self.false) }
