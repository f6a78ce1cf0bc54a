-- A test that a call answers, behind `if !call(..)`.
use Rattle.std.proofs.Common.{◌≡◌, ◌∙◌, sym, Bool, true, false}

pub off : {b t : Bool} → b ≡ t → b ≡ false → t ≡ false
off e p = sym e ∙ p

pub on : {b t : Bool} → b ≡ t → b ≡ true → t ≡ true
on e p = sym e ∙ p
