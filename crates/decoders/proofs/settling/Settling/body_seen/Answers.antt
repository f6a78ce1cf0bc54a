use mathlib.Core.Path.{◌∙◌}
use native.Mathlib.Omega.{arith}
use Rattle.decoders.proofs.Branches.{seen_early, seen_late, seen_rest}
use Rattle.decoders.proofs.settling.Settling.body_seen.Goals as goal
use Rattle.decoders.proofs.settling.Settling.body_seen.Goals.{then-stage-lt19, else-stage-lt19+else-stage-lt23+then-stage-lt25}

pub returns-in-17 : goal.returns-in-17
returns-in-17 c =
    c.emptied.ensures
    ∙ elim c.in-17-1.branch [
      | then-stage-lt19 w ↦ seen_early c.args.stage c.args.n c.args.self.decoder (omega arith) (omega arith)
      | else-stage-lt19+else-stage-lt23+then-stage-lt25 w ↦ seen_late c.args.stage c.args.n c.args.self.decoder (omega arith) (omega arith)
    ]

pub returns-in_default : goal.returns-in_default
returns-in_default c = seen_rest c.args.stage c.args.n c.args.self.decoder (λ e. omega arith) (λ e. omega arith) (λ e. omega arith) (λ e. omega arith)

pub returns-in_default-2 : goal.returns-in_default-2
returns-in_default-2 c = seen_rest c.args.stage c.args.n c.args.self.decoder (λ e. omega arith) (λ e. omega arith) (λ e. omega arith) (λ e. omega arith)

pub returns-in_default-3 : goal.returns-in_default-3
returns-in_default-3 c = seen_rest c.args.stage c.args.n c.args.self.decoder (λ e. omega arith) (λ e. omega arith) (λ e. omega arith) (λ e. omega arith)
