-- Wrong lines, each refuted: it is not the line that `put_line` promises.
use Prim.Native.Nat.{ℕ}
use mathlib.Core.Path.{◌≡◌, ap}
use mathlib.Core.List.{List, ◌++◌}
use native.Mathlib.Omega.{arith}
use lib.ListN.{get_or}
use Rattle.gate.specs.declared.Line.{Line}
use Rattle.gate.specs.Text.{digits_in, decimal, space, line_bytes}
use Rattle.gate.specs.Verdict.{line}

-- 0 0 1 2 3
abbrev heard : Line
heard = line 0 0 1 2 3

-- the outputs are printed where the inputs belong
pub counts_exchanged : Line → List ℕ
counts_exchanged l = line_bytes (line l.number l.place l.outputs l.outputs l.items)

pub counts_exchanged_wrong : ((l : Line) → counts_exchanged l ≡ line_bytes l) → ⊥
unfolding digits_in counts_exchanged
counts_exchanged_wrong e = let z : ◌≡◌ {A = ℕ} 50 49 = ap (λ (bs : List ℕ). get_or bs 4 0) (e heard) in omega arith

-- the line ends in a space, not in a line feed
pub line_without_end : Line → List ℕ
line_without_end l = decimal l.number ++ space ++ decimal l.place ++ space ++ decimal l.inputs ++ space ++ decimal l.outputs ++ space ++ decimal l.items ++ space

pub line_without_end_wrong : ((l : Line) → line_without_end l ≡ line_bytes l) → ⊥
unfolding digits_in line_without_end
line_without_end_wrong e = let z : ◌≡◌ {A = ℕ} 32 10 = ap (λ (bs : List ℕ). get_or bs 9 0) (e heard) in omega arith
