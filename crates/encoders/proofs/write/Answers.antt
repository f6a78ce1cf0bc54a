use Rattle.std.proofs.Common.{rules, ◌∙◌}
use Rattle.std.proofs.lemmas.Result.{err_from_is_err_and}
use Rattle.encoders.proofs.Storing.{puts, same_output}
use Rattle.encoders.proofs.Taking.{as_bytes}
use Rattle.encoders.proofs.Whole.{ready, as_written}
use Rattle.encoders.proofs.Writes.{write_judged, write_refused, write_short, write_room, write_done}
use Rattle.encoders.proofs.write.Goals as goal

pub returns-in_err-transaction : goal.returns-in_err-transaction
returns-in_err-transaction c =
    let p = err_from_is_err_and c.from_residual.result c.from_residual.ensures.1 in
    rw (p.1, p.2) (write_refused _ _ _ _ c.in_err-transaction.ensures.told)

pub returns-then-output-n : goal.returns-then-output-n
returns-then-output-n c = rw (c.at.ensures.kind, c.at.ensures.place) (write_short _ _ _ _ c.in_ok-transaction.ensures.told c.if-output-n.true)

pub put-requires : goal.put-requires
put-requires c = let x = c.in_ok-transaction.ensures in ready x.counted _ (write_judged _ _ _ x.told)

pub returns : goal.returns
returns c =
    let x = c.in_ok-transaction.ensures in
    let h = write_room _ _ _ _ x.told c.if-output-n.false in
    let took = as_bytes (as_written x.counted _ (write_judged _ _ _ x.told)) c.put.ensures in
    let p = puts h took in
    let e = same_output h took in
    write_done _ _ _ _ _ x.told c.if-output-n.false (search rules ∙ p.same)
