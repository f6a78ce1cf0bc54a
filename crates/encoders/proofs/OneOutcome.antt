-- Any two outcomes that a promise allows are equal: the result, and the output at exit. `Post` is the promise itself, as the check reads
-- it off the function's clauses; it speaks of the lifetimes, the arguments, the result, and the arguments at exit; of a
-- generic function also of the kind, here of any sink.
use mathlib.Core.Path.{◌≡◌, sym, ◌∙◌, ap}
use mathlib.Core.Bool.{Bool}
use Prim.Native.Nat.{ℕ}
use Rattle.std.proofs.Common.{Result}
use Rattle.layout.specs.Writing as writing
use Rattle.encode.specs.declared.refusal.Refusal.{Refusal}
use Rattle.encoders.proofs.Refusals.{told_alike}
use Rattle.encoders.proofs.write.Reads as write
use Rattle.encoders.proofs.written_length.Reads as length
use Rattle.encoders.proofs.is_fee.Reads as fee
use Rattle.encoders.proofs.put.write_to.Reads as write_to

pub one_outcome_write : (κ : _) (args : _) (r r' : Result ℕ Refusal) (exit exit' : _) → write.Post κ args r exit → write.Post κ args r' exit' → (r ≡ r') × (exit.1.1.1.1.1.0.now ≡ exit'.1.1.1.1.1.0.now)
one_outcome_write κ args r r' exit exit' p q = let e = p ∙ sym q in (told_alike (ap (λ (x : writing.Written). x.answer) e), ap (λ (x : writing.Written). x.output) e)

pub one_outcome_length : (κ : _) (args : _) (r r' : Result ℕ Refusal) (exit exit' : _) → length.Post κ args r exit → length.Post κ args r' exit' → r ≡ r'
one_outcome_length κ args r r' exit exit' p q = told_alike (p ∙ sym q)

pub one_outcome_fee : (κ : _) (args : _) (r r' : Bool) (exit exit' : _) → fee.Post κ args r exit → fee.Post κ args r' exit' → r ≡ r'
one_outcome_fee κ args r r' exit exit' p q = p ∙ sym q

-- and the sink at exit, whatever it makes of a byte
pub one_outcome_write_to : (S : _) (laws : _) (ghosts : _) (dict : _) (κ : _) (args : _) (r r' : Result ℕ Refusal) (exit exit' : _) → write_to.Post S laws ghosts dict κ args r exit → write_to.Post S laws ghosts dict κ args r' exit' → (r ≡ r') × (exit.1.1.1.1.1.0.now ≡ exit'.1.1.1.1.1.0.now)
one_outcome_write_to S laws ghosts dict κ args r r' exit exit' p q =
    let a = write_to.post-apart S laws ghosts dict κ args r exit p in
    let b = write_to.post-apart S laws ghosts dict κ args r' exit' q in
    (told_alike (a.answers ∙ sym b.answers), a.takes.took ∙ sym b.takes.took)
