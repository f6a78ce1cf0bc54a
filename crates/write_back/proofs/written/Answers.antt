use Rattle.decoders.specs.Feeding.{tables}
use Rattle.encoders.specs.Answers.{head_numbers}
use Rattle.write_back.proofs.Backing.{written_told}
use Rattle.write_back.proofs.Walking.{walked}
use Rattle.write_back.proofs.written.Goals as goal

pub returns-in-Ok : goal.returns-in-Ok
returns-in-Ok c = written_told (head_numbers c.args.head) (tables c.args.inputs.now c.args.outputs.now c.args.items.now) c.args.source.now c.in-Ok.ensures.answers (walked c.in-Ok.ensures.takes) c.told.ensures
