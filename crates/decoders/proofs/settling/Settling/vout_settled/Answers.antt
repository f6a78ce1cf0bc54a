use native.Mathlib.Omega.{arith}
use Rattle.decoders.proofs.Vout.{flag_small, flags_both}
use Rattle.decoders.proofs.settling.Settling.vout_settled.Goals as goal

pub overflow_mul-both : goal.overflow_mul-both
overflow_mul-both c = omega (arith, flag_small 31 c.args.self.decoder.field.value, c.flag_bit-issuance.ensures)

pub overflow_add-both : goal.overflow_add-both
overflow_add-both c = omega (arith, flag_small 31 c.args.self.decoder.field.value, c.flag_bit-issuance.ensures, flag_small 30 c.args.self.decoder.field.value, c.flag_bit.ensures)

pub returns : goal.returns
returns c = cc (flags_both c.args.self.decoder.field.value _ _ c.flag_bit.ensures c.flag_bit-issuance.ensures)
