-- Why the programs read no more than 4,000,001 bytes of an input.
use Rattle.std.proofs.Common.{◌≡◌, ℕ, ◌<◌, Bool, cond, List, ◌++◌, length, sym, refl, ap, ◌∙◌, arith, length-append, lt-ltb}
use Rattle.layout.specs.Number.{Bytes}
use Rattle.layout.specs.Layout.{Answer, finished, more, refused, Reading, reading}
use Rattle.layout.specs.Transaction.{Head, limit}
use Rattle.layout.specs.Outcome.{Sizes, outcome, reading_of, finish, ended, follow, strictly, strict}
use Rattle.layout.proofs.Theorems.{stable, takes_all, taken_limit}

-- bytes follow in both
follows : (a : Answer Head) (taken n m : ℕ) → taken < n → taken < m → follow a taken n ≡ follow a taken m
follows (finished h) taken n m p q = ap (λ (t : Bool). cond t (refused 9 taken) (finished h)) (lt-ltb taken n p ∙ sym (lt-ltb taken m q))
follows more taken n m p q = refl
follows (refused k p') taken n m p q = refl

-- More bytes than a transaction can have: whatever follows them, the strict form's answer, bytes taken and tables are the same.
pub limit_settles : (z : Sizes) (xs ys : List ℕ) → Bytes xs → limit < length xs → strict z (xs ++ ys) ≡ strict z xs
limit_settles z xs ys bs long =
    let r = reading_of z xs in
    let most = taken_limit z xs bs in
    let ended_there : r.answer ≡ more → ⊥ = λ e. (let all = takes_all z xs e in omega arith) in
    let more_there = length-append xs ys in
    ap (λ (x : Reading Head). outcome z (strictly (length (xs ++ ys)) (ended x))) (stable z xs ys ended_there)
    ∙ ap (λ (a : Answer Head). outcome z (reading a r.taken r.log)) (follows (finish r.answer r.taken) r.taken (length (xs ++ ys)) (length xs) (omega arith) (omega arith))
