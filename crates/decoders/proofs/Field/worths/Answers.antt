use native.Mathlib.Omega.{arith}
use mathlib.Core.Path.{sym}
use Rattle.decoders.proofs.Gather.{worths_opaque, one_worths, whole_worths}
use Rattle.decoders.proofs.Field.worths.Goals as goal

pub returns-then-self-eq-OPAQUE : goal.returns-then-self-eq-OPAQUE
returns-then-self-eq-OPAQUE c = sym (worths_opaque c.args.self.form c.args.self.value c.args.self.have c.args.part.now c.if-self-eq-OPAQUE.true)

pub worth-requires : goal.worth-requires
worth-requires c = let h = c.requires.number c.if-self-eq-OPAQUE.false in record { looked = c.if-self-eq-OPAQUE.false; number = omega (arith, h, c.in-len1.len_at_least); below = c.requires.below; byte = omega (arith, c.from.ensures, c.type_inv.part 0) }

pub returns-in-len1 : goal.returns-in-len1
returns-in-len1 c = one_worths c.args.self.form c.args.self.value c.args.self.have c.args.part.now c.from.result c.worth.result (omega (arith, c.in-len1.len_at_least, c.in-len1.len_below)) c.from.ensures c.worth.ensures

pub returns-in-Some : goal.returns-in-Some
returns-in-Some c = whole_worths c.args.self.form c.args.self.value c.args.self.have c.args.part.now c.in-Some.n c.if-self-eq-OPAQUE.false c.if-self-eq0.true c.requires.below c.in-Some.ensures
