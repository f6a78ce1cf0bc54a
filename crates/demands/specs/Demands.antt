-- The demands of document 00, of any reader and any writer. Its sentences are quoted in its order, each above the fields that say it; one, about
-- the Rust, stands above none, and says why. Where a sentence of document 01 spells one out, it is quoted below it. All rests on 01 as `layout`
-- has it: what is read, allowed, entered and written. No state, stage or machine is known here.
use Rattle.std.specs.Prelude.{ℕ, ◌+◌, ◌*◌, ◌^◌, ◌<◌, ◌≤◌, ◌≡◌, Bool, true, false, cond, ◌||◌, List, [], ◌∷◌, ◌++◌, map, ◌↔◌, eqb, length, take, get_or}
use Rattle.layout.specs.Number.{Bytes}
use Rattle.layout.specs.Layout.{Answer, finished, more, refused, input, output, item}
use Rattle.layout.specs.Transaction.{Head, limit}
use Rattle.layout.specs.Outcome.{Tables, Sizes, Outcome, width, room_of, zeros, head_shown, partial, at_once, strict, Agree}
use Rattle.layout.specs.Contents.{Contents, contents_bytes, Allowed}
use Rattle.layout.specs.Records.{head_of, Fits, tables_of}
use Rattle.layout.specs.Writing.{Verdict, wrote, unwritten, Written, ◌!◌, input_records, output_records, item_records, contents_of, written_length, writing}

-- ---- a reader and a writer

-- What a call gives back: a state, and what the caller sees: answer, bytes taken, tables.
pub record Call (S : Type 0) : Type 0 where
  pub state : S
  pub outcome : Outcome

pub record Start (S : Type 0) : Type 0 where
  pub state : S
  pub tables : Tables

-- Whatever its state is: a fresh start, feeding a piece, finishing; reading at once and its strict form.
pub record Reader (S : Type 0) : Type 0 where
  pub fresh : Tables → Start S
  pub push : S → Tables → List ℕ → Call S
  pub end : S → Tables → Call S
  pub once : Tables → List ℕ → Outcome
  pub strict : Tables → List ℕ → Outcome

-- From head numbers, tables, source and output; and the length asked for alone.
pub record Writer : Type 0 where
  pub write : Head → Tables → List ℕ → List ℕ → Written
  pub long : Head → Tables → List ℕ → Verdict

abbrev pub sizes : Tables → Sizes
sizes t = record { inputs = length t.inputs; outputs = length t.outputs; items = length t.items }

-- ---- one call, on any state: a piece is fed, or the reading is finished

-- Any bytes, none too.
pub record Piece : Type 0 where
  pub bytes : List ℕ
  pub below : Bytes bytes

pub data Ask : Type 0 where
  piece : Piece → Ask
  done : Ask

abbrev pub sent : Ask → List ℕ
sent (piece p) = p.bytes
sent done = []

-- ---- a reading from a fresh start: fed in any pieces, finished or not yet, and asked again; at once; strictly

pub data Way : Type 0 where
  fed : List Ask → Way
  at_once_lem : Piece → Way
  strictly : Piece → Way

-- the bytes that it offers: all pieces up to the first finish
unfoldable pub joined : List Ask → List ℕ
joined [] = []
joined (piece p ∷ qs) = p.bytes ++ joined qs
joined (done ∷ qs) = []

abbrev pub offered : Way → List ℕ
offered (fed qs) = joined qs
offered (at_once_lem p) = p.bytes
offered (strictly p) = p.bytes

unfoldable pub ends : List Ask → Bool
ends [] = false
ends (piece p ∷ qs) = ends qs
ends (done ∷ qs) = true

-- fed and then finished; or at once, which 01 says is the same
abbrev pub Ended : Way → Type 0
Ended (fed qs) = ends qs ≡ true
Ended (at_once_lem p) = Unit {0}
Ended (strictly p) = ⊥

-- 01's reading of it
abbrev pub paper : Sizes → Way → Outcome
paper z (fed qs) = cond (ends qs) (at_once z (joined qs)) (partial z (joined qs))
paper z (at_once_lem p) = at_once z p.bytes
paper z (strictly p) = strict z p.bytes

module _ {S : Type 0} (r : Reader S) where
  abbrev pub call : S → Tables → Ask → Call S
  call s t (piece p) = r.push s t p.bytes
  call s t done = r.end s t

  -- A fresh start wants more and took nothing. Then state and tables are handed on unaltered, and counts of bytes taken are added up.
  abbrev pub started : Tables → Call S
  started t = record { state = (r.fresh t).state; outcome = record { answer = more; taken = 0; tables = (r.fresh t).tables } }

  abbrev pub next : Call S → Ask → Call S
  next c q =
      let d = call c.state c.outcome.tables q in
      record { state = d.state; outcome = record { answer = d.outcome.answer; taken = c.outcome.taken + d.outcome.taken; tables = d.outcome.tables } }

  unfoldable pub calls : Call S → List Ask → Call S
  calls c [] = c
  calls c (q ∷ qs) = calls (next c q) qs

  abbrev pub read : Tables → Way → Outcome
  read t (fed qs) = (calls (started t) qs).outcome
  read t (at_once_lem p) = r.once t p.bytes
  read t (strictly p) = r.strict t p.bytes

-- ---- demand 1

-- A refusal has a number, from 1 to so many, and its place lies within so many bytes.
abbrev pub Numbered : ℕ → ℕ → Answer Head → Type 0
Numbered most bytes (finished h) = Unit {0}
Numbered most bytes more = Unit {0}
Numbered most bytes (refused n p) = (1 ≤ n) × (n ≤ most) × (p ≤ bytes)

-- 9 is the strict form's alone.
abbrev pub numbers : Way → ℕ
numbers (fed qs) = 8
numbers (at_once_lem p) = 8
numbers (strictly p) = 9

-- Its place lies within the bytes taken, and they are no more than there are.
pub record Placed (v : Way) (o : Outcome) : Type 0 where
  pub numbered : Numbered (numbers v) o.taken o.answer
  pub taken : o.taken ≤ length (offered v)

abbrev pub misuse : ℕ → Bool
misuse n = eqb n 10 || eqb n 11

-- What an ended reading makes of tables when it is asked again. Misuse touches nothing.
abbrev pub settled : Answer Head → Tables → Tables
settled (finished h) u = u
settled more u = u
settled (refused n p) u = cond (misuse n) u (zeros (sizes u))

-- Asked again, with whatever stands in the tables by now, it takes nothing and answers the same.
abbrev pub Repeated : {S : Type 0} → Reader S → Call S → Type 0
Repeated r c =
    (u : Tables) (q : Ask) → sizes u ≡ sizes c.outcome.tables
    → (call r c.state u q).outcome ≡ record { answer = c.outcome.answer; taken = 0; tables = settled c.outcome.answer u }

-- Tables of these sizes have room for the counts.
pub record Room (z : Sizes) (h : Head) : Type 0 where
  pub inputs : h.inputs ≤ (room_of z).inputs
  pub outputs : h.outputs ≤ (room_of z).outputs
  pub items : h.items ≤ (room_of z).items

-- Of a table of two calls, lent and left: where they leave different numbers, each has left the number that stood there.
abbrev pub Leaves : List ℕ → List ℕ → List ℕ → List ℕ → Type 0
Leaves t t' u u' = (j : ℕ) → (get_or u j 0 ≡ get_or u' j 0 → ⊥) → (get_or u j 0 ≡ get_or t j 0) × (get_or u' j 0 ≡ get_or t' j 0)

pub record Left (t t' u u' : Tables) : Type 0 where
  pub inputs : Leaves t.inputs t'.inputs u.inputs u'.inputs
  pub outputs : Leaves t.outputs t'.outputs u.outputs u'.outputs
  pub items : Leaves t.items t'.items u.items u'.items

-- Two calls that differ in their tables alone.
pub record Alike {S : Type 0} (t t' : Tables) (c d : Call S) : Type 0 where
  pub state : c.state ≡ d.state
  pub answer : c.outcome.answer ≡ d.outcome.answer
  pub taken : c.outcome.taken ≡ d.outcome.taken
  pub tables : Left t t' c.outcome.tables d.outcome.tables

-- Every number behind the last record is 0, surplus numbers too.
pub record Behind (h : Head) (t : Tables) : Type 0 where
  pub inputs : (j : ℕ) → width input * h.inputs ≤ j → get_or t.inputs j 0 ≡ 0
  pub outputs : (j : ℕ) → width output * h.outputs ≤ j → get_or t.outputs j 0 ≡ 0
  pub items : (j : ℕ) → width item * h.items ≤ j → get_or t.items j 0 ≡ 0

-- What a call that touches nothing gives back.
abbrev pub untouched : {S : Type 0} → S → Tables → ℕ → Call S
untouched s t n = record { state = s; outcome = record { answer = refused n 0; taken = 0; tables = t } }

-- A state that no call tells 11.
abbrev pub Known : {S : Type 0} → Reader S → S → Type 0
Known r s = (t : Tables) (q : Ask) (p : ℕ) → (call r s t q).outcome.answer ≡ refused 11 p → ⊥

-- A state that is told 10 exactly where the tables' sizes are not these.
abbrev pub Sized : {S : Type 0} → Reader S → Sizes → S → Type 0
Sized r z s = (t : Tables) (q : Ask) → ((call r s t q).outcome.answer ≡ refused 10 0) ↔ (z ≡ sizes t → ⊥)

pub record Demand1 {S : Type 0} (r : Reader S) (w : Writer) : Type 0 where
  -- "Whatever bytes arrive, in whatever pieces, the reader ends with a finished transaction, a wish for more, or a numbered refusal with
  -- its place." Every call on every state, where 9 is none's, for 01 has it for "strict reading, bytes follow"; every reading from a fresh
  -- start. A finish wishes for no more.
  pub numbered : (s : S) (t : Tables) (q : Ask) → Numbered 11 limit (call r s t q).outcome.answer
  pub nine : (s : S) (t : Tables) (q : Ask) (p : ℕ) → (call r s t q).outcome.answer ≡ refused 9 p → ⊥
  pub placed : (t : Tables) (v : Way) → Placed v (read r t v)
  pub ended : (s : S) (t : Tables) → (r.end s t).outcome.answer ≡ more → ⊥
  pub ended_once : (t : Tables) (p : Piece) → ((r.once t p.bytes).answer ≡ more → ⊥) × ((r.strict t p.bytes).answer ≡ more → ⊥)
  -- 01: "While more is wanted, a piece is taken entire, or the reading ends within it; an empty one changes nothing."
  pub entire : (s : S) (t : Tables) (p : Piece) → (r.push s t p.bytes).outcome.answer ≡ more → (r.push s t p.bytes).outcome.taken ≡ length p.bytes
  pub empty :
      (s : S) (t : Tables)
      → (r.push s t []).outcome.answer ≡ more → r.push s t [] ≡ record { state = s; outcome = record { answer = more; taken = 0; tables = t } }
  pub wanting :
      (s : S) (t : Tables) (q : Ask) → (call r s t q).outcome.answer ≡ more
      → (u : Tables) → sizes u ≡ sizes t → (r.push (call r s t q).state u []).outcome.answer ≡ more
  -- 01: "Finishing a reading that wants more gives refusal 1."
  pub one : (s : S) (t : Tables) → (r.push s t []).outcome.answer ≡ more → (p : ℕ) × ((r.end s t).outcome.answer ≡ refused 1 p)
  -- 01: "An ended one takes no more and repeats its answer, at finish too; a refused one sets the tables to 0 again, a finished one leaves them."
  pub final : (s : S) (t : Tables) (q : Ask) → ((call r s t q).outcome.answer ≡ more → ⊥) → Repeated r (call r s t q)
  -- "It never trusts the caller." What this record says of calls, it says of every state and of all tables. Tables are never read back, neither
  -- in a call nor from before a fresh start; they keep their sizes; no call takes more than it is sent; and what any state finishes with has
  -- room in the tables, a flag that 01 lists and a length within its limit.
  pub apart : (s : S) (t t' : Tables) (q : Ask) → sizes t ≡ sizes t' → Alike t t' (call r s t q) (call r s t' q)
  pub afresh : (t t' : Tables) (v : Way) → sizes t ≡ sizes t' → read r t v ≡ read r t' v
  pub afresh_start : (t t' : Tables) → sizes t ≡ sizes t' → r.fresh t ≡ r.fresh t'
  pub kept : (s : S) (t : Tables) (q : Ask) → sizes (call r s t q).outcome.tables ≡ sizes t
  pub within : (s : S) (t : Tables) (q : Ask) → (call r s t q).outcome.taken ≤ length (sent q)
  pub finished_room :
      (s : S) (t : Tables) (q : Ask) (h : Head)
      → (call r s t q).outcome.answer ≡ finished h → Room (sizes t) h × (h.flag ≤ 1) × (h.bytes ≤ limit)
  -- 01: "A fresh start sets every table to 0."
  pub fresh_zero : (t : Tables) → (r.fresh t).tables ≡ zeros (sizes t)
  -- "A refused reading leaves every number of the lent tables 0;"
  pub refused_call :
      (s : S) (t : Tables) (q : Ask) (n p : ℕ)
      → (call r s t q).outcome.answer ≡ refused n p → misuse n ≡ false → (call r s t q).outcome.tables ≡ zeros (sizes t)
  pub refused_reading : (t : Tables) (v : Way) (n p : ℕ) → (read r t v).answer ≡ refused n p → (read r t v).tables ≡ zeros (sizes t)
  -- "a finished one, its state and tables not altered between calls, leaves 0 behind its last record;" However often it is asked again.
  pub finished_behind : (t : Tables) (v : Way) (h : Head) → (read r t v).answer ≡ finished h → Behind h (read r t v).tables
  -- "the two misuse refusals (10 and 11) touch nothing." The call gives back what it was given and takes nothing. And they are for misuse. 10:
  -- a state handed on from a fresh start is told it exactly where the tables' sizes are not the fresh start's, and every state that isn't told
  -- 11 has such sizes.
  pub misused : (s : S) (t : Tables) (q : Ask) (n p : ℕ) → (call r s t q).outcome.answer ≡ refused n p → misuse n ≡ true → call r s t q ≡ untouched s t n
  pub ten : (t : Tables) (qs : List Ask) → Sized r (sizes t) (calls r (started r t) qs).state
  pub ten_any : (s : S) → Known r s → (z : Sizes) × Sized r z s
  -- 01: "On each call 11 comes before 10": it depends on the state alone. It "is never given to a state that a fresh start returned, or a call with
  -- an answer other than 11."
  pub eleven_alone :
      (s : S) (t t' : Tables) (q q' : Ask)
      → (call r s t q).outcome.answer ≡ refused 11 0 → (call r s t' q').outcome.answer ≡ refused 11 0
  pub eleven_fresh : (t : Tables) → Known r (r.fresh t).state
  pub eleven_next : (s : S) (t : Tables) (q : Ask) → ((call r s t q).outcome.answer ≡ refused 11 0 → ⊥) → Known r (call r s t q).state
  -- "A refused write leaves the output untouched."
  pub unwritten_output :
      (h : Head) (t : Tables) (source out : List ℕ) (n p : ℕ)
      → (w.write h t source out).answer ≡ unwritten n p → (w.write h t source out).output ≡ out

-- ---- demand 2

-- The bytes that a way offers begin with these; read strictly, they are these.
abbrev pub Carries : Way → List ℕ → Type 0
Carries (fed qs) ys = (rest : List ℕ) × (joined qs ≡ ys ++ rest)
Carries (at_once_lem p) ys = (rest : List ℕ) × (p.bytes ≡ ys ++ rest)
Carries (strictly p) ys = p.bytes ≡ ys

-- A whole transaction, allowed by 01's layout and size limit, for which the tables have room.
pub record Brings (z : Sizes) (v : Way) (x : Contents) : Type 0 where
  pub allowed : Allowed x
  pub room : Fits (room_of z) x
  pub carried : Carries v (contents_bytes x)

-- What a caller can lend to the writer: bytes, and numbers of 32 bits.
pub record Lent (h : Head) (t : Tables) (source : List ℕ) : Type 0 where
  pub version : h.version < 2 ^ 32
  pub locktime : h.locktime < 2 ^ 32
  pub inputs : (i : ℕ) → get_or t.inputs i 0 < 2 ^ 32
  pub outputs : (i : ℕ) → get_or t.outputs i 0 < 2 ^ 32
  pub source_bytes : Bytes source

abbrev pub sized : ℕ → Head → Head
sized n h = record { version = h.version; flag = h.flag; inputs = h.inputs; outputs = h.outputs; items = h.items; locktime = h.locktime; bytes = n }

-- The numbers of a record that are no positions, by their columns, which count from 0.
abbrev pub input_numbers : List ℕ
input_numbers = 1 ∷ 2 ∷ 4 ∷ 5 ∷ 7 ∷ 8 ∷ 9 ∷ 10 ∷ 11 ∷ 12 ∷ 14 ∷ 16 ∷ 17 ∷ 18 ∷ 19 ∷ []

abbrev pub output_numbers : List ℕ
output_numbers = 0 ∷ 2 ∷ 4 ∷ 5 ∷ 6 ∷ 9 ∷ 11 ∷ 13 ∷ []

abbrev pub item_numbers : List ℕ
item_numbers = 1 ∷ []

abbrev pub columns : List ℕ → List (List ℕ) → List (List ℕ)
columns cs rs = map (λ r. map (λ c. r ! c) cs) rs

-- Read back: the same head numbers but the length, all written bytes taken, the same transaction; 01: records agree in all but positions.
pub record Same (h : Head) (t : Tables) (source : List ℕ) (n : ℕ) (xs : List ℕ) (o : Outcome) : Type 0 where
  pub answer : o.answer ≡ finished (sized n h)
  pub taken : o.taken ≡ n
  pub transaction : contents_of (sized n h) o.tables xs ≡ contents_of h t source
  pub inputs : columns input_numbers (input_records h o.tables) ≡ columns input_numbers (input_records h t)
  pub outputs : columns output_numbers (output_records h o.tables) ≡ columns output_numbers (output_records h t)
  pub items : columns item_numbers (item_records h o.tables) ≡ columns item_numbers (item_records h t)

pub record Demand2 {S : Type 0} (r : Reader S) (w : Writer) : Type 0 where
  -- "A whole transaction is accepted exactly when document 01's layout and size limit allow it and the tables have room,"
  pub accepted : (t : Tables) (v : Way) → ((h : Head) × ((read r t v).answer ≡ finished h)) ↔ ((x : Contents) × Brings (sizes t) v x)
  -- "and the tables say what that layout says." Its records and head numbers; and the bytes taken are its bytes.
  pub told :
      (t : Tables) (v : Way) (x : Contents) → Brings (sizes t) v x
      → read r t v ≡ record { answer = finished (head_of x); taken = length (contents_bytes x); tables = tables_of (sizes t) x }
  -- "Written back over the same bytes with room enough, they give the same bytes."
  pub back :
      (t : Tables) (v : Way) (x : Contents) → Brings (sizes t) v x → (out : List ℕ) → length (contents_bytes x) ≤ length out
      → let b = w.write (head_shown (read r t v).answer) (read r t v).tables (offered v) out in
      (b.answer ≡ wrote (length (contents_bytes x))) × (take (length (contents_bytes x)) b.output ≡ contents_bytes x)
  -- "What the writer accepts reads back as the same transaction." In every way that carries the written bytes, into tables with room.
  pub again :
      (h : Head) (t : Tables) (source out : List ℕ) (n : ℕ) → Lent h t source → (w.write h t source out).answer ≡ wrote n
      → (u : Tables) (v : Way) → Room (sizes u) h → Carries v (take n (w.write h t source out).output) → Same h t source n (offered v) (read r u v)
  -- "On the domain in 01 all this equals the Rust." No theorem says it; its own text was run over shims (docs/DIFFERENCES.md, section 7). Document 01
  -- decides: `AsPaper` stands in for it.

-- ---- demand 3

pub record Two (t t' : Tables) (v v' : Way) : Type 0 where
  -- "Take two inputs of one length that agree at each bearing byte of the first, as 01 lists them, and differ as they like in hashes,
  -- commitments, scripts and proofs."
  pub agree : Agree (sizes t) (offered v) (offered v')
  -- "Feed each from a fresh start into tables of equal sizes, each cut anywhere in its own way, state and tables handed on unchanged, then
  -- finish."
  pub equal : sizes t ≡ sizes t'
  pub finish : Ended v
  pub finish' : Ended v'

pub record Demand3 {S : Type 0} (r : Reader S) : Type 0 where
  -- "Both end with the same answer, place, count of bytes taken and numbers in every table,"
  pub both : (t t' : Tables) (v v' : Way) → Two t t' v v' → read r t v ≡ read r t' v'
  -- "namely those of 01's reading."
  pub namely : (t t' : Tables) (v v' : Way) → Two t t' v v' → read r t v ≡ at_once (sizes t) (offered v)

-- ---- what stands in for "equals the Rust"

-- Reading, after every call too, and writing are those of document 01. Demands 2 and 3 follow from it for any reader (proofs/Paper), and without
-- it a reader that tells every strict refusal as 5 at 0 meets demands 1 to 3 (proofs/Fives).
pub record AsPaper {S : Type 0} (r : Reader S) (w : Writer) : Type 0 where
  pub reads : (t : Tables) (v : Way) → read r t v ≡ paper (sizes t) v
  pub writes : (h : Head) (t : Tables) (source out : List ℕ) → w.write h t source out ≡ writing h t source out
  pub lengths : (h : Head) (t : Tables) (source : List ℕ) → w.long h t source ≡ written_length h t source
