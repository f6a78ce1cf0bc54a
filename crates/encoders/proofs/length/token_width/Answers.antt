use Rattle.std.proofs.Common.{arith}
use Rattle.encoders.proofs.Widths.{token_null, token_present}
use Rattle.encoders.proofs.length.token_width.Goals as goal

pub returns-in-0 : goal.returns-in-0
returns-in-0 c = token_null c.in-0.is

pub returns-in_default : goal.returns-in_default
returns-in_default c = token_present (λ e. omega arith)
