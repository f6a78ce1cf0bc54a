-- The text, for the one write.
use Prim.Native.Nat.{ℕ}
use mathlib.Core.Path.{◌≡◌, ◌∙◌, ap, subst}
use mathlib.Core.List.{List, [], append-nil}
use Rattle.layout.specs.Outcome.{Sizes, strict}
use Rattle.arrayvec.specs.ArrayVec.{ArrayVec}
use Rattle.gate.specs.declared.Seen.{Seen}
use Rattle.gate.specs.declared.Seen.TheVariants.{Ended, Settled}
use Rattle.gate.specs.Text.{line_bytes}
use Rattle.gate.specs.Verdict.{EndedIn, SettledIn, Spoken, Printed, line_of}

pub ended_printed : (z : Sizes) (s : Seen (ArrayVec ℕ)) (t : ArrayVec ℕ) → Spoken z s → s ≡ Ended t → Printed t.items
ended_printed z s t h e =
    let i : EndedIn z t.items = subst (λ (x : Seen (ArrayVec ℕ)). Spoken z x) e h in
    record { sizes = z; read = i.read; are = i.bytes; told = i.told }

pub settled_printed : (z : Sizes) (s : Seen (ArrayVec ℕ)) (t : ArrayVec ℕ) → Spoken z s → s ≡ Settled t → Printed t.items
settled_printed z s t h e =
    let i : SettledIn z t.items = subst (λ (x : Seen (ArrayVec ℕ)). Spoken z x) e h in
    record { sizes = z; read = i.read; are = i.bytes; told = i.told [] ∙ ap (λ (xs : List ℕ). line_bytes (line_of (strict z xs).answer)) (append-nil i.read) }
