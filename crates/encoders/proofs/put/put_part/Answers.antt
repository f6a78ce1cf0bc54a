use Rattle.encoders.proofs.Putting.{body_lent}
use Rattle.encoders.proofs.Taking.{as_bytes}
use Rattle.encoders.proofs.put.put_part.Goals as goal

pub returns : goal.returns
returns g c = as_bytes (body_lent c.args.source.now c.args.at c.args.n) c.part.ensures
