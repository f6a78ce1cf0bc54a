use Rattle.std.proofs.lemmas.Result.{err_from_is_err_and}
use Rattle.encoders.proofs.written_length.Goals as goal

pub returns-in_err-n : goal.returns-in_err-n
returns-in_err-n c =
    let p = err_from_is_err_and c.from_residual.result c.from_residual.ensures.1 in
    rw (p.1, p.2) c.in_err-n.ensures.told

pub returns : goal.returns
returns c = c.in_ok-n.ensures.told
