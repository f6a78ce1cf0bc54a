-- The loop as a function of the pieces that its reads bring, and what it prints: the strict form's line of the joined bytes.
use Prim.Native.Nat.{ℕ, ◌≤◌}
use mathlib.Core.Path.{◌≡◌, refl, sym, ◌∙◌, ap}
use mathlib.Core.Bool.{true, false, cond}
use mathlib.Core.List.{List, [], ◌∷◌, ◌++◌, append_assoc, append-nil}
use lib.Dec.{ltb}
use lib.ListN.{length}
use borrow.Author.Tests.{ltb-true, ltb-false}
use Rattle.layout.specs.Number.{Bytes}
use Rattle.layout.specs.Outcome as outcome
use Rattle.layout.specs.Outcome.{Tables, strict}
use Rattle.layout.proofs.Reading.{by_cases}
use Rattle.decoders.specs.Machine.{State}
use Rattle.decoders.specs.Feeding.{layout_sizes, begun, pushed, ended}
use Rattle.decoders.proofs.Theorems.{join}
use Rattle.gate.specs.declared.Line.{Line}
use Rattle.gate.specs.Text.{digits_in, line_bytes}
use Rattle.gate.specs.Verdict.{line, line_of, verdict_of, is_refused}
use Rattle.gate.proofs.Hearing.{Heard, fresh_heard, fresh_sizes, heard_on, settled_follows, settled_refused, heard_ends}

-- what `listen` does, piece by piece; the list's end is the input's
unfoldable pub listening : State → Tables → List (List ℕ) → Line
listening s u [] = verdict_of (ended s u).answer s.taken false
listening s u (p ∷ ps) =
    cond (ltb (pushed s u p).taken (length p)) (verdict_of (pushed s u p).answer (pushed s u p).state.taken true)
    (cond (is_refused (pushed s u p).answer) (verdict_of (pushed s u p).answer (pushed s u p).state.taken false)
    (listening (pushed s u p).state (pushed s u p).tables ps))

-- each piece is some bytes: a read that brings none is the end
abbrev pub Pieces : List (List ℕ) → Type 0
Pieces [] = Unit {0}
Pieces (p ∷ ps) = Bytes p × ((1 ≤ length p) × Pieces ps)

listening_strict : (ps : List (List ℕ)) → Pieces ps → (t u : Tables) (s : State) (h : Heard t s u) → listening s u ps ≡ line_of (strict (layout_sizes t) (h.read ++ join ps)).answer
unfolding listening join heard_on settled_follows settled_refused heard_ends
listening_strict [] w t u s h = (heard_ends t u s _ h refl).told ∙ ap (λ (xs : List ℕ). line_of (strict (layout_sizes t) xs).answer) (sym (append-nil h.read))
listening_strict (p ∷ ps) (q, (some, more)) t u s h =
    let joined : (h.read ++ p) ++ join ps ≡ h.read ++ (p ++ join ps) = append_assoc h.read p (join ps) in
    let o = pushed s u p in
    by_cases (ltb o.taken (length p))
    (λ w. rw w ((settled_follows t u s p q o h refl (ltb-true o.taken (length p) w)).told (join ps) ∙ ap (λ (xs : List ℕ). line_of (strict (layout_sizes t) xs).answer) joined))
    (λ w. by_cases (is_refused o.answer)
    (λ k. rw (w, k) ((settled_refused t u s p q o h refl k).told (join ps) ∙ ap (λ (xs : List ℕ). line_of (strict (layout_sizes t) xs).answer) joined))
    (λ k. rw (w, k) (listening_strict ps more t o.tables o.state (heard_on t u s p q o h refl some (ltb-false o.taken (length p) w)) ∙ ap (λ (xs : List ℕ). line_of (strict (layout_sizes t) xs).answer) joined)))

-- from a fresh start, whatever the pieces: the line is the strict form's of the joined bytes
pub gate_strict : (t : Tables) (ps : List (List ℕ)) → Pieces ps → listening (begun t).state (begun t).tables ps ≡ line_of (strict (layout_sizes t) (join ps)).answer
unfolding fresh_heard
gate_strict t ps w =
    listening_strict ps w (begun t).tables (begun t).tables (begun t).state (fresh_heard t (begun t).tables (begun t).state refl)
    ∙ ap (λ (z : outcome.Sizes). line_of (strict z (join ps)).answer) (fresh_sizes t (begun t).tables (begun t).state refl)

-- and so are the bytes that are printed
pub gate_prints : (t : Tables) (ps : List (List ℕ)) → Pieces ps → line_bytes (listening (begun t).state (begun t).tables ps) ≡ line_bytes (line_of (strict (layout_sizes t) (join ps)).answer)
gate_prints t ps w = ap line_bytes (gate_strict t ps w)

-- of 01's 96-byte load: `0 0 1 1 0` and a line feed
pub load_text : line_bytes (line 0 0 1 1 0) ≡ 48 ∷ 32 ∷ 48 ∷ 32 ∷ 49 ∷ 32 ∷ 49 ∷ 32 ∷ 48 ∷ 10 ∷ []
unfolding digits_in
load_text = refl
