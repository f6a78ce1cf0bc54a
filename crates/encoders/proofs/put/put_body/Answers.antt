use Rattle.encoders.proofs.Putting.{body_bytes_lem}
use Rattle.encoders.proofs.Taking.{as_bytes, both}
use Rattle.encoders.proofs.put.put_body.Goals as goal

pub returns : goal.returns
returns g c = as_bytes (body_bytes_lem _ _ _ c.requires) (both c.put_compact.ensures c.put_part.ensures)
