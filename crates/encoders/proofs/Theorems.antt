-- The writer beside the reader: the round trips said of the promises of both. The theorems about the definitions stand in
-- layout/proofs/RoundTrips.
--     told_verdict      the answer tells 01's number, place and length
--     verdict_each      each of 01's fourteen numbers is told by a kind
--     head_given_lem    the writer takes the head numbers that the reader tells
--     written_back      what `read` finished on, `write` gives back: the same bytes
--     reads_back_lem    what `write` wrote, `read` finishes on: the same head numbers, tables that show the same transaction, the same bodies
--     written_exactly   `write` answers a length exactly where the tables show an allowed transaction for which there is room, and writes its bytes
--     long_exactly      `written_length` answers 2 exactly where they show one that is too long and else allowed
--     unwritten         what `written_length` refuses, by number and place, exactly where the tables show what 01 says (layout/specs/Unwritten)
--     refused, short    what `write` refuses: the same, and 14; refused_kind: by the kind, where these say the number
--     fee               `is_fee` says yes exactly of a script length 0
--     position_unread   what `write` leaves is the same, whatever stands as position of a null field or of an explicit value
use Prim.Native.Nat.{ℕ, ◌+◌, ◌*◌, ◌<◌, ◌≤◌}
use mathlib.Core.Path.{◌≡◌, refl, sym, ◌∙◌, ap, subst}
use mathlib.Core.Logic.{◌↔◌, ◌≢◌}
use mathlib.Core.Bool.{Bool, true}
use mathlib.Core.List.{List, ◌++◌}
use native.Mathlib.Omega.{arith}
use lib.ListN.{length, take, get_or, set}
use Rattle.std.proofs.Common.{Result, Ok, Err}
use Rattle.layout.specs.Number.{Bytes}
use Rattle.layout.specs.Layout as layout
use Rattle.layout.specs.Transaction as transaction
use Rattle.layout.specs.Outcome.{Tables, change, Outcome, partial, at_once, reading_of, outcome, finish}
use Rattle.layout.specs.Writing.{faults, passes, written_length, Verdict, wrote, verdict_number, verdict_place, verdict_length, over, contents_of, written_bytes, writing, is_fee, ◌!◌}
use Rattle.layout.specs.Writing as layout_written
use Rattle.layout.specs.Layout.{output}
use Rattle.layout.specs.Contents.{Contents, contents_bytes, Allowed}
use Rattle.layout.specs.Shows.{Shows}
use Rattle.layout.specs.Unwritten.{WriteRefusal}
use Rattle.layout.proofs.Theorems.{finish_finished}
use Rattle.layout.proofs.RoundTrips.{read_then_write, Lent, Holds, lengthened, write_then_read, records_agree, written_tail, passes_of}
use Rattle.layout.proofs.Columns.{RecordsAgree, BodiesSame}
use Rattle.layout.proofs.Bodies.{bodies_same}
use Rattle.layout.proofs.Accepts.{Longer, writes_exactly, shown_written, two_shown}
use Rattle.layout.proofs.Exactly.{unwritten_exactly, answer_alike, fourteen_exactly, fee_exactly}
use Rattle.layout.proofs.NotRead.{Unread, position_not_read}
use Rattle.decoders.specs.declared.Head.{Head}
use Rattle.decoders.specs.declared.Answer.TheVariants.{Finished}
use Rattle.decoders.specs.declared.Read.{Read}
use Rattle.decoders.specs.Feeding as feeding
use Rattle.decoders.specs.Feeding.{told_head, read_once, whole_of, layout_sizes}
use Rattle.encode.specs.declared.refusal.Refusal as refusal
use Rattle.encode.specs.declared.refusal.RefusalKind.{RefusalKind}
use Rattle.encode.specs.declared.refusal.RefusalKind.TheVariants.{LimitPassed, OutputShort}
use Rattle.encode.specs.Refusal.{number_of}
use Rattle.encode.proofs.Refusals.{kind_of, number_of_kind}
use Rattle.encoders.proofs.Refusals.{told_alike}
use Rattle.encoders.specs.Answers.{told, told_number, told_place, told_length, head_numbers, out_of}

-- what the code answers
abbrev Answered : Type 0
Answered = Result ℕ refusal.Refusal

-- refused with this kind at this place
abbrev pub refused_with : RefusalKind → ℕ → Answered
refused_with kind place = Err (record { kind = kind; place = place })

pub told_verdict : (r : Answered) → (told_number r ≡ verdict_number (told r)) × (told_place r ≡ verdict_place (told r)) × (told_length r ≡ verdict_length (told r))
told_verdict (Ok n) = (refl, refl, refl)
told_verdict (Err e) = (refl, refl, refl)

-- each of 01's fourteen numbers is told by a kind
pub verdict_each : (n p : ℕ) → 1 ≤ n → n ≤ 14 → told (refused_with (kind_of n) p) ≡ layout_written.unwritten n p
verdict_each n p l h = ap (λ (m : ℕ). layout_written.unwritten m p) (number_of_kind n l h)

pub head_given_lem : (h : Head) → head_numbers h ≡ told_head (Finished h)
head_given_lem h = refl

-- where reading at once finishes, its outcome is that of the bytes fed
once_partial : (t : Tables) (xs : List ℕ) (h : transaction.Head) → (at_once (layout_sizes t) xs).answer ≡ layout.finished h → at_once (layout_sizes t) xs ≡ partial (layout_sizes t) xs
once_partial t xs h e =
    let z = layout_sizes t in
    let q = finish_finished (reading_of z xs).answer (reading_of z xs).taken h e in
    ap (λ (a : layout.Answer transaction.Head). outcome z (layout.reading a (reading_of z xs).taken (reading_of z xs).log)) (e ∙ sym q)

-- Bytes that `read` finishes on, into any tables; then `write` with the head and tables that it gave, over the same bytes.
pub written_back :
    (xs : List ℕ) → Bytes xs
    → (t t' : Tables) (r : Read) (h : Head) → whole_of r t' ≡ read_once t xs → r.answer ≡ Finished h
    → (out out' : List ℕ) (w : Answered) → r.taken ≤ length out → out_of w out' ≡ writing (head_numbers h) t' xs out
    → (w ≡ Ok r.taken) × (out' ≡ over (take r.taken xs) out)
written_back xs bs t t' r h p e out out' w room q =
    let z = layout_sizes t in
    let f : (at_once z xs).answer ≡ layout.finished (head_numbers h) = sym (ap (λ (o : Outcome). o.answer) p) ∙ ap feeding.told e in
    let same = once_partial t xs (head_numbers h) f in
    let taken : r.taken ≡ (partial z xs).taken = ap (λ (o : Outcome). o.taken) p ∙ ap (λ (o : Outcome). o.taken) same in
    let tables : t' ≡ (partial z xs).tables = ap (λ (o : Outcome). o.tables) p ∙ ap (λ (o : Outcome). o.tables) same in
    let fin : (partial z xs).answer ≡ layout.finished (head_numbers h) = sym (ap (λ (o : Outcome). o.answer) same) ∙ f in
    let s = q ∙ ap (λ (u : Tables). writing (head_numbers h) u xs out) tables ∙ read_then_write z xs (head_numbers h) bs fin out (subst (λ (n : ℕ). n ≤ length out) taken room) in
    (told_alike (ap (λ (o : layout_written.Written). o.answer) s ∙ ap wrote (sym taken)), ap (λ (o : layout_written.Written). o.output) s ∙ ap (λ (n : ℕ). over (take n xs) out) (sym taken))

-- a finished reading of the bytes fed is that of reading at once
partial_once : (t : Tables) (xs : List ℕ) (h : transaction.Head) → (partial (layout_sizes t) xs).answer ≡ layout.finished h → at_once (layout_sizes t) xs ≡ partial (layout_sizes t) xs
partial_once t xs h e =
    let z = layout_sizes t in
    ap (λ (a : layout.Answer transaction.Head). outcome z (layout.reading a (reading_of z xs).taken (reading_of z xs).log)) (ap (λ (a : layout.Answer transaction.Head). finish a (reading_of z xs).taken) e ∙ sym e)

passing : (h : transaction.Head) (t : Tables) (source : List ℕ) (n : ℕ) → written_length h t source ≡ wrote n → faults h t source ≡ passes
unfolding written_length
passing h t source n e = (passes_of (faults h t source) (length (written_bytes h t source)) n e).0

-- What `write` wrote, with any bytes behind it, read into tables with room: all written bytes are taken, the head numbers are the same but
-- the length, the tables show the same transaction over the written bytes, and records agree in all but positions.
pub record SameAgain (h : Head) (t : Tables) (source : List ℕ) (n : ℕ) (r : Read) (u : Tables) (xs : List ℕ) : Type 0 where
  pub answer : feeding.told r.answer ≡ layout.finished (lengthened (head_numbers h) n)
  pub taken : r.taken ≡ n
  pub transaction : contents_of (lengthened (head_numbers h) n) u xs ≡ contents_of (head_numbers h) t source
  pub records : RecordsAgree (head_numbers h) t u
  pub bodies : BodiesSame (head_numbers h) t u source xs

pub reads_back_lem :
    (h : Head) (t : Tables) (source out out' : List ℕ) (n : ℕ) → Lent (head_numbers h) t source → out_of (Ok n) out' ≡ writing (head_numbers h) t source out
    → (u u' : Tables) (rest : List ℕ) (r : Read) → Holds (layout_sizes u) (head_numbers h) → whole_of r u' ≡ read_once u (take n out' ++ rest)
    → SameAgain h t source n r u' (take n out' ++ rest)
reads_back_lem h t source out out' n lent p u u' rest r room q =
    let g = head_numbers h in
    let v = sym (ap (λ (o : layout_written.Written). o.answer) p) in
    let w = written_tail g t source out n v in
    let bytes = written_bytes g t source in
    let same : take n out' ≡ bytes = ap (λ (o : layout_written.Written). take n o.output) p ∙ w.first in
    let ok = passing g t source n w.alone in
    let z = layout_sizes u in
    let b = write_then_read g t source lent ok z room rest in
    let once = partial_once u (bytes ++ rest) (lengthened g (length bytes)) b.answer in
    let long : length bytes ≡ n = sym w.long in
    let got : whole_of r u' ≡ partial z (bytes ++ rest) = q ∙ ap (λ (l : List ℕ). read_once u (l ++ rest)) same ∙ once in
    let tables : u' ≡ (partial z (bytes ++ rest)).tables = ap (λ (o : Outcome). o.tables) got in
    record {
      answer = ap (λ (o : Outcome). o.answer) got ∙ b.answer ∙ ap (λ (m : ℕ). layout.finished (lengthened g m)) long;
      taken = ap (λ (o : Outcome). o.taken) got ∙ b.taken ∙ long;
      transaction = (λ j. contents_of (lengthened g (sym long j)) (tables j) (same j ++ rest)) ∙ b.transaction;
      records = subst (λ (ts : Tables). RecordsAgree g t ts) (sym tables) (records_agree g t source lent ok z room rest);
      bodies = subst (λ (l : List ℕ). BodiesSame g t u' source (l ++ rest)) (sym same) (subst (λ (ts : Tables). BodiesSame g t ts source (bytes ++ rest)) (sym tables) (bodies_same g t source lent ok z room rest));
    }

-- Tables that show an allowed transaction are written, whatever their positions; and no others.
pub written_exactly :
    (h : Head) (t : Tables) (source out out' : List ℕ) (w : Answered) (n : ℕ) → Lent (head_numbers h) t source → out_of w out' ≡ writing (head_numbers h) t source out
    → (w ≡ Ok n) ↔ ((x : Contents) × Allowed x × Shows (head_numbers h) t source x × (length (contents_bytes x) ≡ n) × (n ≤ length out) × (out' ≡ over (contents_bytes x) out))
written_exactly h t source out out' w n lent p =
    let g = head_numbers h in
    let e = writes_exactly g t source lent out n in
    let same : told w ≡ (writing g t source out).answer = ap (λ (o : layout_written.Written). o.answer) p in (
      λ d.
          let q = e.0 (sym same ∙ ap told d) in
          let room : length (contents_bytes q.0) ≤ length out = omega (arith, q.3, q.4) in
          (q.0, q.1, q.2, q.3, q.4, ap (λ (o : layout_written.Written). o.output) p ∙ ap (λ (v : layout_written.Written). v.output) (shown_written g t source q.0 q.1 q.2 out room)),
      λ q. told_alike (same ∙ e.1 (q.0, q.1, q.2, q.3, q.4)),
    )

pub long_exactly :
    (h : Head) (t : Tables) (source : List ℕ) (w : Answered) → Lent (head_numbers h) t source → told w ≡ written_length (head_numbers h) t source
    → (w ≡ refused_with LimitPassed 0) ↔ ((x : Contents) × Longer x × Shows (head_numbers h) t source x)
long_exactly h t source w lent p =
    let e = two_shown (head_numbers h) t source lent in
    (λ d. e.0 (sym p ∙ ap told d), λ q. told_alike (p ∙ e.1 q))

pub unwritten :
    (h : Head) (t : Tables) (source : List ℕ) (w : Answered) (n p : ℕ) → told w ≡ written_length (head_numbers h) t source
    → (told w ≡ layout_written.unwritten n p) ↔ WriteRefusal (head_numbers h) t source n p
unwritten h t source w n p e =
    let u = unwritten_exactly (head_numbers h) t source n p in
    (λ d. u.0 (sym e ∙ d), λ q. e ∙ u.1 q)

-- a kind in place of its number
pub refused_kind : (w : Answered) (k : RefusalKind) (p : ℕ) → (w ≡ refused_with k p) ↔ (told w ≡ layout_written.unwritten (number_of k) p)
refused_kind w k p = (λ e. ap told e, λ e. told_alike e)

-- the answer of `write`
refused_of : (h : Head) (t : Tables) (source out out' : List ℕ) (w : Answered) (n p : ℕ) → out_of w out' ≡ writing (head_numbers h) t source out → (told w ≡ layout_written.unwritten n p) ↔ ((writing (head_numbers h) t source out).answer ≡ layout_written.unwritten n p)
refused_of h t source out out' w n p e =
    let same : told w ≡ (writing (head_numbers h) t source out).answer = ap (λ (o : layout_written.Written). o.answer) e in
    (λ d. sym same ∙ d, λ q. same ∙ q)

pub refused :
    (h : Head) (t : Tables) (source out out' : List ℕ) (w : Answered) (n p : ℕ) → n ≢ 14 → out_of w out' ≡ writing (head_numbers h) t source out
    → (told w ≡ layout_written.unwritten n p) ↔ WriteRefusal (head_numbers h) t source n p
refused h t source out out' w n p other e =
    let r = refused_of h t source out out' w n p e in
    let a = answer_alike (head_numbers h) t source n p out other in
    let u = unwritten_exactly (head_numbers h) t source n p in
    (λ d. u.0 (a.0 (r.0 d)), λ q. r.1 (a.1 (u.1 q)))

pub short :
    (h : Head) (t : Tables) (source out out' : List ℕ) (w : Answered) → out_of w out' ≡ writing (head_numbers h) t source out
    → (w ≡ refused_with OutputShort 0) ↔ ((n : ℕ) × (written_length (head_numbers h) t source ≡ wrote n) × (length out < n))
short h t source out out' w e =
    let r = refused_of h t source out out' w 14 0 e in
    let f = fourteen_exactly (head_numbers h) t source out in
    (λ d. f.0 (r.0 (ap told d)), λ q. told_alike (r.1 (f.1 q)))

pub fee : (r : List ℕ) (b : Bool) → b ≡ is_fee r → (b ≡ true) ↔ (r ! 9 ≡ 0)
fee r b e = let f = fee_exactly r in (λ d. f.0 (sym e ∙ d), λ q. e ∙ f.1 q)

pub position_unread :
    (h : Head) (t : Tables) (source out : List ℕ) (i column position : ℕ) → Unread (λ k. get_or t.outputs (14 * i + k) 0) column
    → (w w' : Answered) (o o' : List ℕ) → out_of w o ≡ writing (head_numbers h) t source out → out_of w' o' ≡ writing (head_numbers h) (change output (λ xs. set xs (14 * i + column) position) t) source out
    → (w' ≡ w) × (o' ≡ o)
position_unread h t source out i c p u w w' o o' e e' =
    let s = e' ∙ position_not_read (head_numbers h) t source out i c p u ∙ sym e in
    (told_alike (ap (λ (v : layout_written.Written). v.answer) s), ap (λ (v : layout_written.Written). v.output) s)
