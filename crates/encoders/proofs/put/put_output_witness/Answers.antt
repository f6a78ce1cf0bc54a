use Rattle.layout.specs.Contents.{output_witness_bytes}
use Rattle.layout.specs.Writing.{output_witness_of}
use Rattle.encoders.proofs.Taking.{both}
use Rattle.encoders.proofs.put.put_output_witness.Goals as goal

pub returns : goal.returns
unfolding output_witness_bytes output_witness_of
returns g c = both c.put_body.ensures c.put_body-2.ensures
