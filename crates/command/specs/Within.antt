-- What the contracts of `command` cite. Assumes nothing.
use Rattle.std.specs.Prelude.{ℕ, ◌≤◌}
use Rattle.command.specs.declared.Taken.{Taken}
use Rattle.command.specs.declared.Taken.TheVariants.{Whole, Longer}

-- where bytes are counted there are at most so many
abbrev pub Within : Taken → ℕ → Type 0
Within (Whole n) most = n ≤ most
Within Longer most = Unit {0}
