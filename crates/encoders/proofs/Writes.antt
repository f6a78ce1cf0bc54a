-- What `write` does with the answer of pass 1.
use Prim.Native.Nat.{ℕ, ◌<◌, ◌≤◌}
use mathlib.Core.Path.{◌≡◌, sym, ◌∙◌, ap}
use mathlib.Core.List.{List, []}
use native.Mathlib.Omega.{arith}
use lib.ListN.{length}
use Rattle.layout.specs.Transaction.{Head, limit}
use Rattle.layout.specs.Outcome.{Tables}
use Rattle.layout.specs.Writing.{passes, table_faults, faults, unless, written_bytes, wrote, unwritten, over, written_length, writing}
use Rattle.layout.specs.Writing as writing
use Rattle.layout.proofs.Judging.{also_split}
use Rattle.layout.proofs.RoundTrips.{length_is, refused_alike, passes_of}
use lib.Dec.{leb}
use borrow.Author.Tests.{leb-true}
use Rattle.encoders.proofs.Judging.{unless_passes}
use Rattle.encoders.specs.Sinks.{handed}
use Rattle.encoders.specs.Puts.{Room}

-- an answer beside an output
abbrev pub leaves : writing.Verdict → List ℕ → writing.Written
leaves v out = record { answer = v; output = out }

-- what the length says, where it is answered
pub record Sound (h : Head) (t : Tables) (source : List ℕ) (n : ℕ) : Type 0 where
  pub judged : table_faults h t (length source) ≡ passes
  pub faults : faults h t source ≡ passes
  pub length : n ≡ length (written_bytes h t source)
  pub within : n ≤ limit

pub done_sound : (h : Head) (t : Tables) (source : List ℕ) {n : ℕ} → wrote n ≡ written_length h t source → Sound h t source n
unfolding written_length faults
done_sound h t source {n} e =
    let m = length (written_bytes h t source) in
    let p = passes_of (faults h t source) m n (sym e) in
    let split = also_split (table_faults h t (length source)) (unless (leb m limit) 2 0) p.0 in
    record { judged = split.0; faults = p.0; length = sym p.1; within = omega (arith, p.1, leb-true m limit (unless_passes (leb m limit) 2 0 split.1)) }

module _ (h : Head) (t : Tables) (source : List ℕ) where
  pub write_judged : {n : ℕ} → wrote n ≡ written_length h t source → table_faults h t (length source) ≡ passes
  unfolding written_length faults
  write_judged {n} e =
      let p = passes_of (faults h t source) (length (written_bytes h t source)) n (sym e) in
      (also_split (table_faults h t (length source)) (unless (leb (length (written_bytes h t source)) limit) 2 0) p.0).0

  -- what goes into a sink
  pub handed_all : {n : ℕ} → wrote n ≡ written_length h t source → handed (written_length h t source) (written_bytes h t source) ≡ written_bytes h t source
  handed_all e = ap (λ (v : writing.Verdict). handed v (written_bytes h t source)) (sym e)

  pub handed_none : {n p : ℕ} → unwritten n p ≡ written_length h t source → handed (written_length h t source) (written_bytes h t source) ≡ []
  handed_none e = ap (λ (v : writing.Verdict). handed v (written_bytes h t source)) (sym e)

module _ (h : Head) (t : Tables) (source out : List ℕ) where
  pub write_refused : {n p : ℕ} → unwritten n p ≡ written_length h t source → leaves (unwritten n p) out ≡ writing h t source out
  write_refused {n} {p} e = sym (refused_alike h t source out n p (sym e))

  pub write_short : {n : ℕ} → wrote n ≡ written_length h t source → length out < n → leaves (unwritten 14 0) out ≡ writing h t source out
  write_short {n} e short = sym ((length_is h t source n (sym e)).too_short out short)

  pub write_room : {n : ℕ} → wrote n ≡ written_length h t source → n ≤ length out → Room (written_bytes h t source) out 0
  unfolding written_length
  write_room {n} e room =
      let p = passes_of (faults h t source) (length (written_bytes h t source)) n (sym e) in
      record { room = omega (arith, p.1, room) }

  pub write_done : {n : ℕ} (out' : List ℕ) → wrote n ≡ written_length h t source → n ≤ length out → out' ≡ over (written_bytes h t source) out → leaves (wrote n) out' ≡ writing h t source out
  write_done {n} out' e room o = ap (leaves (wrote n)) o ∙ sym ((length_is h t source n (sym e)).held_by out room)
