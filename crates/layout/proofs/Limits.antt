-- Refusal 2 exactly, at every field: no sooner and no later than the last byte before it.
use Prim.Native.Nat.{ℕ}
use mathlib.Core.Path.{◌≡◌, refl, sym, ◌∙◌, ap}
use mathlib.Core.Bool.{Bool, true, false, cond}
use mathlib.Core.List.{List, [], ◌∷◌, ◌++◌, append_assoc}
use lib.Dec.{leb}
use lib.ListN.{length, take, drop, take-append-drop}
use Rattle.layout.specs.Layout.{Answer, finished, more, refused, run}
use Rattle.layout.specs.Transaction.{Head, limit, transaction}
use Rattle.layout.specs.Outcome.{Sizes, room_of, partial}
use Rattle.layout.specs.Contents.{Contents, contents_bytes}
use Rattle.layout.specs.Records.{head_of}
use Rattle.layout.specs.Fields.{Field, fields_of, limited}
use Rattle.layout.specs.Beginnings.{witnesses_empty, verdict, ending, Starts}
use Rattle.layout.proofs.Reading.{by_cases, told, by_bytes, finished_not_more, refused_not_more, refused_not_finished}
use Rattle.layout.proofs.Whole.{judged}

-- what is judged by its fields has ended
pub limited_ends : (fs : List Field) (a : Answer Head) (n : ℕ) → (a ≡ more → ⊥) → (limited fs (a, n)).0 ≡ more → ⊥
unfolding limited
limited_ends [] a n never e = never e
limited_ends (f ∷ fs) a n never e =
    by_cases (leb f.end limit)
    (λ t. limited_ends fs a n never (rw t at e))
    (λ t. refused_not_more (rw t at e))

-- and finished only as it says
pub limited_finished : (fs : List Field) (a : Answer Head) (n : ℕ) (h : Head) → (limited fs (a, n)).0 ≡ finished h → (a ≡ finished h) × ((limited fs (a, n)).1 ≡ n)
unfolding limited
limited_finished [] a n h e = (e, refl)
limited_finished (f ∷ fs) a n h e =
    by_cases (leb f.end limit)
    (λ t. rw t (limited_finished fs a n h (rw t at e)))
    (λ t. absurd (refused_not_finished (rw t at e)))

verdict_ends : (b : Bool) (h : Head) → ◌≡◌ {A = Answer Head} (cond b (refused 8 4) (finished h)) more → ⊥
verdict_ends true h e = refused_not_more e
verdict_ends false h e = finished_not_more e

pub ending_ends : (x : Contents) → (ending x).0 ≡ more → ⊥
ending_ends x = limited_ends (fields_of 0 x) (verdict x) (length (contents_bytes x)) (verdict_ends (witnesses_empty x.witnesses) (head_of x))

-- The first of the first bytes are first bytes.
pub starts_sooner : (z : Sizes) (xs : List ℕ) (x : Contents) → Starts z xs x → (k : ℕ) → Starts z (take k xs) x
starts_sooner z xs x b k =
    record {
      formed = b.formed;
      rest = drop k xs ++ b.rest;
      behind = b.behind;
      same = sym (append_assoc (take k xs) (drop k xs) b.rest) ∙ ap (λ (l : List ℕ). l ++ b.rest) (take-append-drop k xs) ∙ b.same;
    }

-- the answer to them, and the bytes taken
pub limit_exactly : (z : Sizes) (xs : List ℕ) (x : Contents) → Starts z xs x → ◌≡◌ {A = Answer Head × ℕ} ((partial z xs).answer, (partial z xs).taken) (cond (leb (ending x).1 (length xs)) (ending x) (more, length xs))
limit_exactly z xs x b =
    let l = transaction (room_of z) in
    let whole : told (run l (xs ++ b.rest)) ≡ ending x = ap (λ (bs : List ℕ). told (run l bs)) b.same ∙ judged (room_of z) x b.formed b.behind in
    by_bytes l xs b.rest (λ wants. ending_ends x (sym (ap (λ (w : Answer Head × ℕ). w.0) whole) ∙ wants))
    ∙ ap (λ (w : Answer Head × ℕ). cond (leb w.1 (length xs)) w (more, length xs)) whole
