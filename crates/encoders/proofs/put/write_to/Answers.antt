use Rattle.std.proofs.Common.{◌∙◌}
use Rattle.std.proofs.lemmas.Result.{err_from_is_err_and}
use Rattle.encoders.proofs.Taking.{as_bytes, none}
use Rattle.encoders.proofs.Whole.{ready, as_written}
use Rattle.encoders.proofs.Writes.{write_judged, handed_all, handed_none}
use Rattle.encoders.proofs.put.write_to.Goals as goal

pub returns-in_err-transaction : goal.returns-in_err-transaction
returns-in_err-transaction g c =
    let p = err_from_is_err_and c.from_residual.result c.from_residual.ensures.1 in
    let x = c.in_err-transaction.ensures in
    record { answers = rw (p.1, p.2) x.told; takes = as_bytes (handed_none _ _ _ x.told) none }

pub put-requires : goal.put-requires
put-requires g c = let x = c.in_ok-transaction.ensures in ready x.counted _ (write_judged _ _ _ x.told)

pub returns : goal.returns
returns g c =
    let x = c.in_ok-transaction.ensures in
    record { answers = x.told; takes = as_bytes (handed_all _ _ _ x.told ∙ as_written x.counted _ (write_judged _ _ _ x.told)) c.put.ensures }
