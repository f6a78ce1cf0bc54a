use Rattle.std.proofs.Common.{sym, ◌∙◌, ap, refl, List, ℕ, [], ◌∷◌, ◌++◌, get_or, arith}
use lib.Seq.{take_all}
use Rattle.std.proofs.lemmas.List.{take_more, take_more_set}
use Rattle.encoders.proofs.store.copy_bytes.Goals as goal

pub loop-i-init : goal.loop-i-init
loop-i-init c = (omega arith, refl)

pub loop-i-preserved : goal.loop-i-preserved
loop-i-preserved c =
    (omega arith, take_more_set c.loop-i.out c.loop-i.i _ (omega arith) ∙ ap (λ (l : List ℕ). l ++ get_or c.args.bytes.now c.loop-i.i 0 ∷ []) c.loop-i.invariant.1 ∙ sym (take_more c.args.bytes.now c.loop-i.i 0 c.loop-i-test.true))

pub returns : goal.returns
returns c = sym (take_all c.loop-i.i c.loop-i.out (omega arith)) ∙ c.loop-i.invariant.1 ∙ take_all c.loop-i.i c.args.bytes.now (omega arith)
