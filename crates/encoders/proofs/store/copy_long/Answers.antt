use Rattle.std.proofs.Common.{◌≡◌, ◌≤◌, refl, sym, ◌∙◌, ap, ap₂, List, ℕ, ◌++◌, ◌+◌, ◌-◌, length, take, drop, rules, arith}
use borrow.Rule.Slice.PartMut.{put_mid}
use lib.Seq.{take_all}
use Rattle.std.proofs.Math.Seq.{take-add}
use Rattle.std.proofs.lemmas.List.{length-take-le, length-drop}
use Rattle.std.proofs.lemmas.Slice.{take-put_mid}
use Rattle.encoders.proofs.store.copy_long.Goals as goal

-- a block copied behind what is copied
copied : (bytes out part : List ℕ) (at k n : ℕ) → n ≡ at + k → n ≤ length bytes → at ≤ length out → take at out ≡ take at bytes → part ≡ take k (drop at bytes) → take n (put_mid at k out part) ≡ take n bytes
copied bytes out part at k n ends fits room before e =
    let long : length part ≡ k = ap length e ∙ length-take-le k (drop at bytes) (omega (arith, ends, fits, length-drop at bytes)) in
    take-put_mid at k out part n (omega (arith, ends, long)) room ∙ ap₂ (λ (a b : List ℕ). a ++ b) before e ∙ sym (take-add at k bytes) ∙ ap (λ (m : ℕ). take m bytes) (sym ends)

pub loop-at-init : goal.loop-at-init
loop-at-init c = (omega arith, refl)

pub loop-at-preserved : goal.loop-at-preserved
loop-at-preserved c = (omega arith, copied c.args.bytes.now c.loop-at.out _ c.loop-at.at _ _ (omega arith) (omega arith) (omega arith) c.loop-at.invariant.1 c.copy_bytes.ensures)

pub returns : goal.returns
returns c =
    let whole = copied c.args.bytes.now c.loop-at.out c.copy_bytes-2.new.out c.loop-at.at (length c.loop-at.out - c.loop-at.at) (length c.args.bytes.now) (omega arith) (omega arith) (omega arith) c.loop-at.invariant.1 (c.copy_bytes-2.ensures ∙ ap (λ (k : ℕ). take k (drop c.loop-at.at c.args.bytes.now)) (omega arith)) in
    sym (take_all (length c.args.bytes.now) _ (search (rules, arith))) ∙ whole ∙ take_all (length c.args.bytes.now) c.args.bytes.now (omega arith)
