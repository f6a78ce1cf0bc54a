use Rattle.decoders.proofs.Vout.{vout_kept, vout_masked}
use Rattle.decoders.proofs.settle.vout.Goals as goal

pub returns-then-raw-eq4294967295 : goal.returns-then-raw-eq4294967295
returns-then-raw-eq4294967295 c = vout_kept c.args.raw c.if-raw-eq4294967295.true

pub returns-else-raw-eq4294967295 : goal.returns-else-raw-eq4294967295
returns-else-raw-eq4294967295 c = vout_masked c.args.raw c.if-raw-eq4294967295.false
