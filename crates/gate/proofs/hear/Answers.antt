use Rattle.std.proofs.Common.{sym, subst}
use Rattle.gate.specs.Verdict.{Printed}
use Rattle.gate.proofs.Speaking.{ended_printed, settled_printed}
use Rattle.gate.proofs.hear.Goals as goal

pub print-requires : goal.print-requires
print-requires c = subst Printed (sym c.as_slice.ensures.value) (ended_printed _ _ _ c.in-Ok-Ended.ensures c.in-Ok-Ended.field-0-is)

pub print-requires-in-Ok-Settled : goal.print-requires-in-Ok-Settled
print-requires-in-Ok-Settled c = subst Printed (sym c.as_slice-in-Ok-Settled.ensures.value) (settled_printed _ _ _ c.in-Ok-Settled.ensures c.in-Ok-Settled.field-0-is)
