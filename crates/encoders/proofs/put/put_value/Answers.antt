use Rattle.std.proofs.Common.{sym, ap, ap₂, ◌∷◌, ◌++◌, ◌∙◌, List, ℕ}
use Rattle.encoders.proofs.Putting.{four_big, eight_big, value_front, value_null, value_explicit, value_part_lem}
use Rattle.encoders.proofs.Taking.{as_bytes, both}
use Rattle.encoders.proofs.put.put_value.Goals as goal

pub returns-then-prefix-eq0 : goal.returns-then-prefix-eq0
returns-then-prefix-eq0 g c = as_bytes (value_front _ _ _ _ _ ∙ ap (λ (l : List ℕ). c.args.prefix ∷ l) (value_null _ _ _ _ _ c.if-prefix-eq0.true)) c.byte.ensures

pub returns-then-prefix-eq1 : goal.returns-then-prefix-eq1
returns-then-prefix-eq1 g c =
    let amount = eight_big c.args.high c.args.low c.ranges.low.fits ∙ ap₂ (λ (x y : List ℕ). x ++ y) (four_big c.args.high ∙ sym c.to_be_bytes.ensures) (four_big c.args.low ∙ sym c.to_be_bytes-then-prefix-eq1.ensures) in
    as_bytes (value_front _ _ _ _ _ ∙ ap (λ (l : List ℕ). c.args.prefix ∷ l) (value_explicit _ _ _ _ _ c.if-prefix-eq1.true ∙ amount)) (both c.byte.ensures (both c.part.ensures c.part-then-prefix-eq1.ensures))

pub returns : goal.returns
returns g c = as_bytes (value_front _ _ _ _ _ ∙ ap (λ (l : List ℕ). c.args.prefix ∷ l) (value_part_lem _ _ _ _ _ c.if-prefix-eq0.false c.if-prefix-eq1.false)) (both c.byte.ensures c.put_part.ensures)
