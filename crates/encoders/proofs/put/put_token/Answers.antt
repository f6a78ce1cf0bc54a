use Rattle.std.proofs.Common.{ap, ◌∷◌, ◌∙◌, List, ℕ}
use Rattle.encoders.proofs.Putting.{token_front, token_null, token_part_lem}
use Rattle.encoders.proofs.Taking.{as_bytes, both}
use Rattle.encoders.proofs.put.put_token.Goals as goal

pub returns-then-prefix-eq0 : goal.returns-then-prefix-eq0
returns-then-prefix-eq0 g c = as_bytes (token_front _ _ _ ∙ ap (λ (l : List ℕ). c.args.prefix ∷ l) (token_null _ _ _ c.if-prefix-eq0.true)) c.byte.ensures

pub returns : goal.returns
returns g c = as_bytes (token_front _ _ _ ∙ ap (λ (l : List ℕ). c.args.prefix ∷ l) (token_part_lem _ _ _ c.if-prefix-eq0.false)) (both c.byte.ensures c.put_part.ensures)
