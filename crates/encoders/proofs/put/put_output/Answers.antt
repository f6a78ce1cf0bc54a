use Rattle.layout.specs.Contents.{output_bytes}
use Rattle.layout.specs.Writing.{output_of}
use Rattle.encoders.proofs.Taking.{both}
use Rattle.encoders.proofs.put.put_output.Goals as goal

pub returns : goal.returns
unfolding output_bytes output_of
returns g c = both c.put_token.ensures (both c.put_value.ensures (both c.put_token-2.ensures c.put_body.ensures))
