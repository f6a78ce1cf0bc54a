-- Any two outcomes that a promise allows are equal: every array and every table at exit. `Post` is the promise itself, as the check reads it
-- off the function's clauses; it speaks of the lifetimes, the arguments, the result, and the arguments at exit.
use mathlib.Core.Path.{◌≡◌, sym, ◌∙◌, ap}
use mathlib.Core.Bool.{Bool}
use mathlib.Core.List.{List}
use Prim.Native.Nat.{ℕ}
use Rattle.layout.specs.Outcome.{Tables}
use Rattle.takzulit.specs.Numbers.{Started, Shown, Kept, Wrote}
use Rattle.takzulit.proofs.takzulit_new.Reads as new
use Rattle.takzulit.proofs.takzulit_push_bytes.Reads as push
use Rattle.takzulit.proofs.takzulit_end.Reads as end
use Rattle.takzulit.proofs.takzulit_read.Reads as read
use Rattle.takzulit.proofs.takzulit_read_strict.Reads as strict
use Rattle.takzulit.proofs.takzulit_written_length.Reads as length
use Rattle.takzulit.proofs.takzulit_write.Reads as write
use Rattle.takzulit.proofs.takzulit_is_fee.Reads as fee

-- three tables that are alike
abbrev Alike : Tables → Tables → Type 0
Alike t u = (t.inputs ≡ u.inputs) × (t.outputs ≡ u.outputs) × (t.items ≡ u.items)

alike : (t u : Tables) → t ≡ u → Alike t u
alike t u e = (ap (λ (x : Tables). x.inputs) e, ap (λ (x : Tables). x.outputs) e, ap (λ (x : Tables). x.items) e)

abbrev AlikeShown : Shown → Shown → Type 0
AlikeShown v w = (v.answer ≡ w.answer) × (v.head ≡ w.head) × Alike v.tables w.tables

alike_shown : (v w : Shown) → v ≡ w → AlikeShown v w
alike_shown v w e = (ap (λ (x : Shown). x.answer) e, ap (λ (x : Shown). x.head) e, alike v.tables w.tables (ap (λ (x : Shown). x.tables) e))

abbrev lent : List ℕ → List ℕ → List ℕ → Tables
lent i o n = record { inputs = i; outputs = o; items = n }

abbrev seen : List ℕ → List ℕ → Tables → Shown
seen a h t = record { answer = a; head = h; tables = t }

pub one_outcome_new : (κ : _) (args : _) (r r' : _) (exit exit' : _) → new.Post κ args r exit → new.Post κ args r' exit' → (exit.0.now ≡ exit'.0.now) × Alike (lent exit.1.0.now exit.1.1.0.now exit.1.1.1.0.now) (lent exit'.1.0.now exit'.1.1.0.now exit'.1.1.1.0.now)
one_outcome_new κ args r r' exit exit' p q =
    let e = p ∙ sym q in
    (ap (λ (x : Started). x.state) e, alike _ _ (ap (λ (x : Started). x.tables) e))

pub one_outcome_push_bytes : (κ : _) (args : _) (r r' : _) (exit exit' : _) → push.Post κ args r exit → push.Post κ args r' exit' → (exit.0.now ≡ exit'.0.now) × AlikeShown (seen exit.1.1.1.1.1.1.0.now exit.1.1.1.1.1.0.now (lent exit.1.1.0.now exit.1.1.1.0.now exit.1.1.1.1.0.now)) (seen exit'.1.1.1.1.1.1.0.now exit'.1.1.1.1.1.0.now (lent exit'.1.1.0.now exit'.1.1.1.0.now exit'.1.1.1.1.0.now))
one_outcome_push_bytes κ args r r' exit exit' p q =
    let e = p ∙ sym q in
    (ap (λ (x : Kept). x.state) e, alike_shown _ _ (ap (λ (x : Kept). x.shown) e))

pub one_outcome_end : (κ : _) (args : _) (r r' : _) (exit exit' : _) → end.Post κ args r exit → end.Post κ args r' exit' → (exit.0.now ≡ exit'.0.now) × AlikeShown (seen exit.1.1.1.1.1.0.now exit.1.1.1.1.0.now (lent exit.1.0.now exit.1.1.0.now exit.1.1.1.0.now)) (seen exit'.1.1.1.1.1.0.now exit'.1.1.1.1.0.now (lent exit'.1.0.now exit'.1.1.0.now exit'.1.1.1.0.now))
one_outcome_end κ args r r' exit exit' p q =
    let e = p ∙ sym q in
    (ap (λ (x : Kept). x.state) e, alike_shown _ _ (ap (λ (x : Kept). x.shown) e))

pub one_outcome_read : (κ : _) (args : _) (r r' : _) (exit exit' : _) → read.Post κ args r exit → read.Post κ args r' exit' → AlikeShown (seen exit.1.1.1.1.1.0.now exit.1.1.1.1.0.now (lent exit.1.0.now exit.1.1.0.now exit.1.1.1.0.now)) (seen exit'.1.1.1.1.1.0.now exit'.1.1.1.1.0.now (lent exit'.1.0.now exit'.1.1.0.now exit'.1.1.1.0.now))
one_outcome_read κ args r r' exit exit' p q = alike_shown _ _ (p ∙ sym q)

pub one_outcome_strict : (κ : _) (args : _) (r r' : _) (exit exit' : _) → strict.Post κ args r exit → strict.Post κ args r' exit' → AlikeShown (seen exit.1.1.1.1.1.0.now exit.1.1.1.1.0.now (lent exit.1.0.now exit.1.1.0.now exit.1.1.1.0.now)) (seen exit'.1.1.1.1.1.0.now exit'.1.1.1.1.0.now (lent exit'.1.0.now exit'.1.1.0.now exit'.1.1.1.0.now))
one_outcome_strict κ args r r' exit exit' p q = alike_shown _ _ (p ∙ sym q)

pub one_outcome_length : (κ : _) (args : _) (r r' : _) (exit exit' : _) → length.Post κ args r exit → length.Post κ args r' exit' → exit.1.1.1.1.1.0.now ≡ exit'.1.1.1.1.1.0.now
one_outcome_length κ args r r' exit exit' p q = p ∙ sym q

pub one_outcome_write : (κ : _) (args : _) (r r' : _) (exit exit' : _) → write.Post κ args r exit → write.Post κ args r' exit' → (exit.1.1.1.1.1.1.0.now ≡ exit'.1.1.1.1.1.1.0.now) × (exit.1.1.1.1.1.0.now ≡ exit'.1.1.1.1.1.0.now)
one_outcome_write κ args r r' exit exit' p q =
    let e = p ∙ sym q in
    (ap (λ (x : Wrote). x.answer) e, ap (λ (x : Wrote). x.output) e)

pub one_outcome_fee : (κ : _) (args : _) (r r' : Bool) (exit exit' : _) → fee.Post κ args r exit → fee.Post κ args r' exit' → r ≡ r'
one_outcome_fee κ args r r' exit exit' p q = p ∙ sym q
