-- The code's answers and 01's determine each other, since kinds and their numbers do.
use Prim.Native.Nat.{ℕ}
use mathlib.Core.Path.{◌≡◌, refl, sym, ◌∙◌, ap}
use Rattle.std.proofs.Common.{Result, Ok, Err}
use Rattle.layout.specs.Writing.{Verdict, wrote, unwritten}
use Rattle.encode.specs.declared.refusal.Refusal.{Refusal}
use Rattle.encode.specs.declared.refusal.RefusalKind.{RefusalKind}
use Rattle.encode.proofs.Refusals.{kind_of, kind_of_number}
use Rattle.encoders.specs.Answers.{told}

abbrev back : Verdict → Result ℕ Refusal
back (wrote n) = Ok n
back (unwritten n p) = Err (record { kind = kind_of n; place = p })

told_back : (r : Result ℕ Refusal) → back (told r) ≡ r
told_back (Ok n) = refl
told_back (Err e) = ap (λ (k : RefusalKind). Err (record { kind = k; place = e.place })) (kind_of_number e.kind)

pub told_alike : {r s : Result ℕ Refusal} → told r ≡ told s → r ≡ s
told_alike {r} {s} e = sym (told_back r) ∙ ap back e ∙ told_back s
