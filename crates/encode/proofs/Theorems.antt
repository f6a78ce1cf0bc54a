-- Any two results that a promise allows are equal. `Post` is the promise itself, as the check reads it off the function's clauses; it
-- speaks of the lifetimes, the arguments, the result, and the arguments at exit.
use Prim.Native.Nat.{ℕ}
use mathlib.Core.Path.{◌≡◌, refl, sym, ◌∙◌, ap}
use mathlib.Core.Bool.{Bool}
use mathlib.Core.Option.{some}
use Rattle.layout.specs.Layout.{Answer, finished, more, refused}
use Rattle.layout.specs.Outcome.{number_of, place_of}
use Rattle.std.specs.Prelude.{Result, Ok, Err}
use Rattle.encode.specs.declared.refusal.Refusal.{Refusal}
use Rattle.encode.specs.declared.refusal.RefusalKind.{RefusalKind}
use Rattle.encode.specs.declared.refusal.RefusalKind.TheVariants.{EndsEarly}
use Rattle.encode.specs.declared.refusal.UnlistedNumber.{UnlistedNumber}
use Rattle.encode.specs.Count.{answer_of}
use Rattle.encode.specs.Refusal as kind
use Rattle.encode.proofs.Refusals.{kind_of, kind_of_number, same_kind}
use Rattle.encode.proofs.announced.Reads as announced
use Rattle.encode.proofs.is_shortest.Reads as is_shortest
use Rattle.encode.proofs.read_count.Reads as read_count
use Rattle.encode.proofs.refusal.RefusalKind.number.Reads as number
use Rattle.encode.proofs.refusal.RefusalKind.at.Reads as placed
use Rattle.encode.proofs.refusal.RefusalKindTryFromUsize.try_from.Reads as try_from

pub one_outcome_announced : (κ : _) (args : _) (r r' : ℕ) (exit exit' : _) → announced.Post κ args r exit → announced.Post κ args r' exit' → r ≡ r'
one_outcome_announced κ args r r' exit exit' p q = p ∙ sym q

pub one_outcome_is_shortest : (κ : _) (args : _) (r r' : Bool) (exit exit' : _) → is_shortest.Post κ args r exit → is_shortest.Post κ args r' exit' → r ≡ r'
one_outcome_is_shortest κ args r r' exit exit' p q = p ∙ sym q

-- 01's number and place of each case of the result
pub count_numbers : (n : ℕ) (e : Refusal) → (number_of (answer_of (Ok n)) ≡ some 0) × (place_of (answer_of (Ok n)) ≡ 0) × (number_of (answer_of (Err e)) ≡ some (kind.number_of e.kind)) × (place_of (answer_of (Err e)) ≡ e.place)
count_numbers n e = (refl, refl, refl, refl)

-- an answer of 01 is that of one case at most: no two kinds have one number
abbrev pub told : Answer ℕ → Result ℕ Refusal
told (finished n) = Ok n
told more = Err (record { kind = EndsEarly; place = 0 })
told (refused n p) = Err (record { kind = kind_of n; place = p })

told_back : (r : Result ℕ Refusal) → told (answer_of r) ≡ r
told_back (Ok n) = refl
told_back (Err e) = ap (λ (k : RefusalKind). Err (record { kind = k; place = e.place })) (kind_of_number e.kind)

pub one_outcome_read_count : (κ : _) (args : _) (r r' : Result ℕ Refusal) (exit exit' : _) → read_count.Post κ args r exit → read_count.Post κ args r' exit' → r ≡ r'
one_outcome_read_count κ args r r' exit exit' p q = sym (told_back r) ∙ ap told (p ∙ sym q) ∙ told_back r'

pub one_outcome_number : (κ : _) (args : _) (r r' : ℕ) (exit exit' : _) → number.Post κ args r exit → number.Post κ args r' exit' → r ≡ r'
one_outcome_number κ args r r' exit exit' p q = p ∙ sym q

pub one_outcome_at : (κ : _) (args : _) (r r' : Refusal) (exit exit' : _) → placed.Post κ args r exit → placed.Post κ args r' exit' → r ≡ r'
one_outcome_at κ args r r' exit exit' p q =
    let a = placed.post-apart κ args r exit p in
    let b = placed.post-apart κ args r' exit' q in
    λ i. record { kind = (a.kind ∙ sym b.kind) i; place = (a.place ∙ sym b.place) i }

-- a number is that of one kind, or of none
decodes_one : (n : ℕ) (r r' : Result RefusalKind UnlistedNumber) → kind.Decodes n r → kind.Decodes n r' → r ≡ r'
decodes_one n (Ok k) (Ok k') p q = ap Ok (same_kind k k' (p ∙ sym q))
decodes_one n (Ok k) (Err e) p q = absurd (q.1 k p)
decodes_one n (Err e) (Ok k) p q = absurd (p.1 k q)
decodes_one n (Err e) (Err e') p q = λ i. Err (record { 0 = (p.0 ∙ sym q.0) i })

pub one_outcome_try_from : (κ : _) (args : _) (r r' : Result RefusalKind UnlistedNumber) (exit exit' : _) → try_from.Post κ args r exit → try_from.Post κ args r' exit' → r ≡ r'
one_outcome_try_from κ args r r' exit exit' p q = decodes_one _ r r' p q
