use Rattle.decoders.proofs.Branches.{part_explicit, part_commitment, part_other, part_unlisted}
use mathlib.Core.Path.{sym, ◌∙◌}
use Rattle.decoders.proofs.settling.Settling.part.Goals as goal
use Rattle.decoders.proofs.settling.Settling.part.Goals.{in_default-via-in-Some+in_default, in_default-via-in_default}

pub returns-in-Some-eq9 : goal.returns-in-Some-eq9
returns-in-Some-eq9 g c = c.opened.ensures ∙ sym (part_explicit _ _ c.args.self.decoder (sym c.width.ensures ∙ c.in-Some-eq9.is) c.in-Some-eq9.field-0-test)

pub returns-in-Some-eq33 : goal.returns-in-Some-eq33
returns-in-Some-eq33 g c = c.opaque.ensures ∙ sym (part_commitment _ _ c.args.self.decoder (sym c.width.ensures ∙ c.in-Some-eq33.is) c.in-Some-eq33.field-0-test)

pub returns-in_default : goal.returns-in_default
returns-in_default g c =
    elim c.in_default.branch [
      | in_default-via-in-Some+in_default w ↦ cc (part_other _ _ c.args.self.decoder (sym w.in_default.ensures) w.in_default.field-0-test.0.1 w.in_default.field-0-test.1)
      | in_default-via-in_default w ↦ cc (part_unlisted _ c.args.self.decoder (sym c.width.ensures ∙ w.in_default.is))
    ]
