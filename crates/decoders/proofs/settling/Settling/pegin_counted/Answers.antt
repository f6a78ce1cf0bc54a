use Prim.Native.Nat.{ℕ, ◌-◌, ◌≤◌, ◌<◌}
use Rattle.decoders.proofs.Branches.{pegin_fit, pegin_many}
use mathlib.Core.Path.{◌∙◌, ap, subst}
use Rattle.decoders.proofs.settling.Settling.pegin_counted.Goals as goal

pub returns-then-n-left : goal.returns-then-n-left
returns-then-n-left c = cc (pegin_fit c.args.start c.args.n c.args.self.decoder (subst (λ (x : ℕ). c.args.n ≤ x) (c.saturating_sub-left.ensures ∙ ap (λ (y : ℕ). y - c.args.self.decoder.counts.items) c.item_room.ensures) c.if-n-left.true))

pub returns-else-n-left : goal.returns-else-n-left
returns-else-n-left c = cc (pegin_many c.args.start c.args.n c.args.self.decoder (subst (λ (x : ℕ). x < c.args.n) (c.saturating_sub-left.ensures ∙ ap (λ (y : ℕ). y - c.args.self.decoder.counts.items) c.item_room.ensures) c.if-n-left.false))
