use lib.Pointwise.{bytes_decides}
use Rattle.std.proofs.Common.{sym, ◌∙◌, ◌≡◌, ◌-◌, take, drop, arith}
use Rattle.encoders.proofs.Taking.{as_bytes, turn_start, turn_next, turn_end, each_byte}
use Rattle.write_back.proofs.Walking.{part_same}
use Rattle.write_back.proofs.beside.BesideSink.part.Goals as goal

pub returns-then-eq : goal.returns-then-eq
returns-then-eq c =
    let here : take (c.saturating_add-end.result - c.in-Ok.at) (drop c.in-Ok.at c.args.self.now.source.now) ≡ c.args.bytes.now =
    (bytes_decides _ c.args.bytes.now).0 (sym c.eq.ensures ∙ c.if-eq.true)
    in
    part_same c.args.bytes.now c.args.self.now _ _ c.in-Ok.is (omega (arith, c.well_formed)) c.if-end-self.true here

pub loop-b-init : goal.loop-b-init
loop-b-init c = turn_start

pub loop-b-preserved : goal.loop-b-preserved
loop-b-preserved c = turn_next 0 c.loop-b-test.true c.loop-b.invariant c.byte.ensures

pub returns : goal.returns
returns c = as_bytes (sym (each_byte c.args.bytes.now)) (turn_end c.loop-b-test.false c.loop-b.invariant)
