use Rattle.layout.specs.Contents.{input_witness_bytes}
use Rattle.layout.specs.Writing.{input_witness_of}
use Rattle.encoders.proofs.Taking.{both}
use Rattle.encoders.proofs.put.put_input_witness.Goals as goal

pub returns : goal.returns
unfolding input_witness_bytes input_witness_of
returns g c = both c.put_body.ensures (both c.put_body-2.ensures (both c.put_stack.ensures c.put_stack-2.ensures))
