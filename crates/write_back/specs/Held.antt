-- The walk as a sink. Assumes nothing.
use Rattle.std.specs.Prelude.{ℕ}
use Rattle.write_back.specs.declared.beside.Beside.{Beside}
use Rattle.write_back.specs.Beside.{step}

abbrev pub held : Beside → ℕ → Beside
held s b = record s { reached = step s.source.now b s.reached }
