-- `encode::read_count` meets its contract: each return cites its law of Reader.antt.
use mathlib.Core.Path.{◌≡◌, sym, ◌∙◌}
use mathlib.Core.Bool.{cond}
use native.Mathlib.Omega.{arith}
use lib.Dec.{leb}
use lib.ListN.{take}
use Rattle.layout.specs.Number.{value, little}
use Rattle.layout.specs.Transaction.{least}
use Rattle.layout.specs.Layout.{finished, refused}
use Rattle.encode.specs.Count.{counted}
use Rattle.encode.proofs.Reader.{first_value, behind_value, count_empty, count_first, count_cut, count_whole}
use Rattle.encode.proofs.read_count.Goals as goal
use Rattle.encode.proofs.read_count.Goals.{After-value-n, After-from-first}

first : (c : After-from-first) → c.from-first.result ≡ value little (take 1 c.args.s.now)
first c = first_value _ _ _ _ c.in-Some.ensures.cases.0 c.from-first.ensures

whole : (c : After-value-n) → counted c.args.s.now ≡ cond (leb (least c.announced-bytes.result) c.value-n.result) (finished c.value-n.result) (refused 3 0)
whole c =
    count_whole _ _ (first_value _ _ _ _ c.in-Some.ensures.cases.0 c.from-first.ensures) (omega (arith, c.in-Some.ensures.cases.1)) _ c.announced-bytes.ensures (omega arith)
    (omega arith) _ (behind_value _ _ _ _ _ c.in-Some.ensures.cases.0 c.value-n.ensures)

pub returns-in_default : goal.returns-in_default
returns-in_default c = rw (c.at.ensures.kind, c.at.ensures.place) (count_empty _ c.in_default.ensures.cases)

pub returns-then-first-le252 : goal.returns-then-first-le252
returns-then-first-le252 c = count_first _ _ (first (goal.at.returns-then-first-le252 c).After-from-first) (omega (arith, c.in-Some.ensures.cases.1)) (omega arith)

pub returns-then-s-bytes : goal.returns-then-s-bytes
returns-then-s-bytes c =
    rw (c.at-then-s-bytes.ensures.kind, c.at-then-s-bytes.ensures.place)
    (count_cut _ _ (first (goal.at.returns-then-s-bytes c).After-from-first) (omega (arith, c.in-Some.ensures.cases.1)) _ c.announced-bytes.ensures (omega arith) (omega arith))

pub returns-then-is_shortest : goal.returns-then-is_shortest
returns-then-is_shortest c = simp (whole (goal.at.returns-then-is_shortest c).After-value-n, sym c.is_shortest.ensures ∙ c.if-is_shortest.true)

pub returns-else-is_shortest : goal.returns-else-is_shortest
returns-else-is_shortest c =
    rw (c.at-else-is_shortest.ensures.kind, c.at-else-is_shortest.ensures.place)
    (simp (whole (goal.at.returns-else-is_shortest c).After-value-n, sym c.is_shortest.ensures ∙ c.if-is_shortest.false))
