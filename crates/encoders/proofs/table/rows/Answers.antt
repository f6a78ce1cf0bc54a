use Rattle.std.proofs.Common.{◌/◌, length, take, ap, ◌∙◌, arith}
use Rattle.encoders.proofs.Chunks.{first_records}
use Rattle.encoders.proofs.table.rows.Goals as goal

pub returns : goal.returns
returns g c = ap (take c.args.n) c.as_chunks.ensures.front ∙ first_records g.row.N c.args.n (length c.args.table.now / g.row.N) c.args.table.now (grind arith)
