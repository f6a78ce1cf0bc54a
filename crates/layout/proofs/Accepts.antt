-- The writer accepts exactly what it should: tables over a source that show an allowed transaction, whatever their positions.
--     accepts_shown    no fault exactly if the tables show an allowed transaction
--     writes_exactly   the same of the answer, with the written length
--     shown_written    and then that transaction's bytes are written
--     two_shown        2 exactly if they show one that is allowed but for its length
--     shown_once       tables over a source show one transaction
use Prim.Native.Nat.{ℕ, ◌^◌, ◌<◌, ◌≤◌}
use mathlib.Core.Path.{◌≡◌, sym, ◌∙◌, ap, subst}
use mathlib.Core.Logic.{◌↔◌}
use mathlib.Core.Bool.{true}
use mathlib.Core.List.{List}
use native.Mathlib.Omega.{arith}
use lib.Dec.{leb}
use lib.ListN.{length}
use borrow.Author.Tests.{le-leb}
use Rattle.layout.specs.Transaction.{Head, limit}
use Rattle.layout.specs.Outcome.{Tables}
use Rattle.layout.specs.Contents.{Contents, contents_bytes, Every, InputAllowed, OutputAllowed, MaybeAllowed, Allowed}
use Rattle.layout.specs.Writing.{contents_of, passes, ◌also◌, unless, table_faults, written_bytes, faults, wrote, unwritten, verdict, touched, written_length, Written, writing, over}
use Rattle.layout.specs.Shows.{Shows}
use Rattle.layout.proofs.Showing.{Parts}
use Rattle.layout.proofs.Shown.{shown_contents, shown_passes}
use Rattle.layout.proofs.Accepted.{passed, parts_allowed}
use Rattle.layout.proofs.Passed.{passed_shows}
use Rattle.layout.proofs.RoundTrips.{Lent, write_allowed, source_shows, passes_of, written_tail}
use Rattle.layout.proofs.Exactly.{two_after}

passes_alone : (h : Head) (t : Tables) (source : List ℕ) (n : ℕ) → written_length h t source ≡ wrote n → faults h t source ≡ passes
unfolding written_length
passes_alone h t source n e = (passes_of (faults h t source) (length (written_bytes h t source)) n e).0

-- Allowed but for its length.
pub record Longer (x : Contents) : Type 0 where
  pub version : x.version < 2 ^ 32
  pub inputs : Every InputAllowed x.inputs
  pub outputs : Every OutputAllowed x.outputs
  pub locktime : x.locktime < 2 ^ 32
  pub witnesses : MaybeAllowed (length x.inputs) (length x.outputs) x.witnesses
  pub beyond : limit < length (contents_bytes x)

allowed_parts : (source : List ℕ) (x : Contents) → Allowed x → Parts source x
allowed_parts source x a = record { inputs = a.inputs; outputs = a.outputs; witnesses = a.witnesses }

longer_parts : (source : List ℕ) (x : Contents) → Longer x → Parts source x
longer_parts source x a = record { inputs = a.inputs; outputs = a.outputs; witnesses = a.witnesses }

-- Tables over a source show one transaction.
pub shown_once : (h : Head) (t : Tables) (source : List ℕ) (x y : Contents) → Allowed x → Allowed y → Shows h t source x → Shows h t source y → x ≡ y
shown_once h t source x y a b s u = sym (shown_contents h t source x (allowed_parts source x a) s) ∙ shown_contents h t source y (allowed_parts source y b) u

-- No fault, whatever the positions are.
pub shown_accepted : (h : Head) (t : Tables) (source : List ℕ) (x : Contents) → Allowed x → Shows h t source x → faults h t source ≡ passes
unfolding faults
shown_accepted h t source x a s =
    let g = allowed_parts source x a in
    let long : leb (length (written_bytes h t source)) limit ≡ true = ap (λ (y : Contents). leb (length (contents_bytes y)) limit) (shown_contents h t source x g s) ∙ le-leb (length (contents_bytes x)) limit a.within in
    λ j. shown_passes h t source x g s j also unless (long j) 2 0

-- Its bytes are written, and what stood behind them stays.
pub shown_written : (h : Head) (t : Tables) (source : List ℕ) (x : Contents) → Allowed x → Shows h t source x → (out : List ℕ) → length (contents_bytes x) ≤ length out → writing h t source out ≡ record { answer = wrote (length (contents_bytes x)); output = over (contents_bytes x) out }
unfolding writing
shown_written h t source x a s out room =
    let bytes : written_bytes h t source ≡ contents_bytes x = ap contents_bytes (shown_contents h t source x (allowed_parts source x a) s) in
    let fits : leb (length (contents_bytes x)) (length out) ≡ true = le-leb (length (contents_bytes x)) (length out) room in
    (λ j. let f = shown_accepted h t source x a s j also unless (leb (length (bytes j)) (length out)) 14 0 in record { answer = verdict f (length (bytes j)); output = touched f (bytes j) out })
    ∙ (λ j. record { answer = verdict (unless (fits j) 14 0) (length (contents_bytes x)); output = touched (unless (fits j) 14 0) (contents_bytes x) out })

module _ (h : Head) (t : Tables) (source : List ℕ) (lent : Lent h t source) where
  -- what tables without a fault of their own show
  told : table_faults h t (length source) ≡ passes → Shows h t source (contents_of h t source)
  told e = passed_shows source lent.source_bytes h t (passed source lent.source_bytes h t e) lent.inputs lent.outputs

  pub accepts_shown : (faults h t source ≡ passes) ↔ ((x : Contents) × Allowed x × Shows h t source x)
  accepts_shown = (λ e. (contents_of h t source, write_allowed h t source lent e, source_shows h t source lent e), λ s. shown_accepted h t source s.0 s.1 s.2)

  -- The same of the answer: it is the written length exactly if the output has room for a transaction that the tables show.
  pub writes_exactly : (out : List ℕ) (n : ℕ) → ((writing h t source out).answer ≡ wrote n) ↔ ((x : Contents) × Allowed x × Shows h t source x × (length (contents_bytes x) ≡ n) × (n ≤ length out))
  writes_exactly out n = (
    λ e.
        let w = written_tail h t source out n e in
        let f = passes_alone h t source n w.alone in
        (contents_of h t source, write_allowed h t source lent f, source_shows h t source lent f, sym w.long, w.room),
    λ s. let room : length (contents_bytes s.0) ≤ length out = omega (arith, s.3, s.4) in ap (λ (w : Written). w.answer) (shown_written h t source s.0 s.1 s.2 out room) ∙ ap wrote s.3,
  )

  -- 2 exactly if they show one that is too long and else allowed.
  pub two_shown : (written_length h t source ≡ unwritten 2 0) ↔ ((x : Contents) × Longer x × Shows h t source x)
  two_shown =
      let e = two_after h t source in (
        λ v.
            let q = e.0 v in
            let p = parts_allowed source lent.source_bytes h t (passed source lent.source_bytes h t q.0) lent.inputs lent.outputs in
            let s = told q.0 in
            (contents_of h t source, record { version = subst (λ (n : ℕ). n < 2 ^ 32) s.version lent.version; inputs = p.inputs; outputs = p.outputs; locktime = subst (λ (n : ℕ). n < 2 ^ 32) s.locktime lent.locktime; witnesses = p.witnesses; beyond = q.1 }, s),
        λ v.
            let g = longer_parts source v.0 v.1 in
            let same = ap (λ (y : Contents). length (contents_bytes y)) (shown_contents h t source v.0 g v.2) in
            e.1 (shown_passes h t source v.0 g v.2, omega (arith, same, v.1.beyond)),
      )
