use Rattle.encoders.proofs.Putting.{issuance_none, issuance_some}
use Rattle.encoders.proofs.Taking.{as_bytes, both, none}
use Rattle.encoders.proofs.put.put_issuance.Goals as goal

pub returns-then-r-lt2 : goal.returns-then-r-lt2
returns-then-r-lt2 g c = as_bytes (issuance_none c.args.source.now c.args.r.now c.if-r-lt2.true) none

pub returns : goal.returns
returns g c = as_bytes (issuance_some c.args.source.now c.args.r.now _ c.if-r-lt2.false c.value_width.ensures) (both c.put_part.ensures (both c.put_part-2.ensures (both c.put_value.ensures c.put_value-2.ensures)))
