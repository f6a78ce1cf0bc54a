use Rattle.std.proofs.Common.{sym, ◌∙◌}
use Rattle.encoders.proofs.Putting.{four_little, input_parts}
use Rattle.encoders.proofs.Taking.{as_bytes, both}
use Rattle.encoders.proofs.put.put_input.Goals as goal

pub returns : goal.returns
returns g c =
    as_bytes (input_parts c.args.source.now c.args.r.now c.requires.flags c.requires.outpoint)
    (both c.put_part.ensures (both (as_bytes (four_little _ ∙ sym c.to_le_bytes.ensures) c.part.ensures) (both c.put_body.ensures (both (as_bytes (four_little _ ∙ sym c.to_le_bytes-2.ensures) c.part-2.ensures) c.put_issuance.ensures))))
