use Rattle.std.proofs.Common.{sym, ap, ◌∷◌, ◌∙◌, List, ℕ}
use Rattle.encoders.proofs.Putting.{two_little, four_little, compact_one, compact_two, compact_four}
use Rattle.encoders.proofs.Taking.{as_bytes, both}
use Rattle.encoders.proofs.put.put_compact.Goals as goal

pub returns-then-n-le252 : goal.returns-then-n-le252
returns-then-n-le252 g c = as_bytes (compact_one c.args.n c.if-n-le252.true) c.byte.ensures

pub returns-then-n-le65535 : goal.returns-then-n-le65535
returns-then-n-le65535 g c = as_bytes (compact_two c.args.n c.if-n-le252.false c.if-n-le65535.true ∙ ap (λ (l : List ℕ). 253 ∷ l) (two_little c.args.n ∙ sym c.to_le_bytes.ensures)) (both c.byte-then-n-le65535.ensures c.part.ensures)

pub returns : goal.returns
returns g c = as_bytes (compact_four c.args.n c.if-n-le65535.false c.ranges.n.fits ∙ ap (λ (l : List ℕ). 254 ∷ l) (four_little c.args.n ∙ sym c.to_le_bytes-2.ensures)) (both c.byte-2.ensures c.part-2.ensures)
