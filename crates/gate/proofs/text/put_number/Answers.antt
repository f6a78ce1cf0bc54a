use Rattle.std.proofs.Common.{arith}
use Rattle.std.proofs.lemmas.Grind.{common_steps}
use Rattle.gate.proofs.Spelling.{number_spelt}
use Rattle.gate.proofs.text.put_number.Goals as goal

pub returns-clause-bytes : goal.returns-clause-bytes
returns-clause-bytes c =
    let digits = c.decimal-count.ensures in
    let spelt = number_spelt c.args.n _ _ (omega arith) digits.len digits.digits in
    grind (arith, common_steps, spelt)
