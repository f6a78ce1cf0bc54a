use Rattle.std.proofs.Common.{refl, sym, arith, rules}
use Rattle.std.proofs.lemmas.List.{nil_from_length}
use Rattle.encoders.proofs.Taking.{as_bytes, none}
use Rattle.encoders.proofs.Storing.{stored_part, stored_none, stored_front}
use Rattle.encoders.proofs.store.StoreSink.part.Goals as goal

pub returns-then-is_empty : goal.returns-then-is_empty
returns-then-is_empty c = as_bytes (nil_from_length c.args.bytes.now (search (rules, arith))) none

pub returns-then-self : goal.returns-then-self
returns-then-self c = record { took = sym (stored_none c.args.bytes.now c.args.self.now (omega (arith, c.if-self.true))) }

pub returns-then-bytes-room : goal.returns-then-bytes-room
returns-then-bytes-room c =
    stored_part c.args.bytes.now _ _ c.args.self.now c.copy.ensures refl (omega (arith, c.if-self.false, c.if-bytes-room.true))

pub returns : goal.returns
returns c =
    stored_front c.args.bytes.now _ _ c.args.self.now c.copy_long.ensures (omega (arith, c.if-bytes-room.false)) refl
    (omega (arith, c.if-self.false))
