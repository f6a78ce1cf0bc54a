use Rattle.decoders.proofs.Vout.{flag_none, flag_shifted}
use Rattle.decoders.proofs.settle.flag_bit.Goals as goal

pub returns-then-raw-eq4294967295 : goal.returns-then-raw-eq4294967295
returns-then-raw-eq4294967295 c = flag_none c.args.bit c.args.raw c.if-raw-eq4294967295.true

pub returns-else-raw-eq4294967295 : goal.returns-else-raw-eq4294967295
returns-else-raw-eq4294967295 c = flag_shifted c.args.bit c.args.raw c.if-raw-eq4294967295.false
