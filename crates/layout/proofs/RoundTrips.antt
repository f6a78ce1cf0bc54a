-- Reading and writing are inverse: what the documents cite of demand 2, and of writing in demand 1.
--     accepts_exactly          a reading finishes exactly if the bytes begin with those of an allowed transaction for which there is room
--     accepted                 and then answer, bytes taken and tables are that transaction's
--     whole_exactly            read strictly: exactly if the bytes are those of such a transaction, and no more
--     one_transaction          no bytes begin with two of them
--     tables_show              a finished reading's head numbers and tables show its transaction over its bytes
--     never_refused            a finished reading's tables are refused by the writer for nothing but 14
--     read_then_write          written back over the same bytes they give the same bytes
--     write_then_read          what the writer accepts reads back as the same transaction
--     records_agree            record for record, the numbers agree in all but positions
--     length_is                the length asked for alone is that of the written bytes
--     too_long                 2 at 0, where it would be longer than 4,000,000
--     refused_write_untouched  a refused write leaves the output as it was; written_tail: a success keeps what stands behind
use Prim.Native.Nat.{ℕ, ◌^◌, ◌<◌, ◌≤◌}
use mathlib.Core.Path.{◌≡◌, refl, sym, ◌∙◌, ap, ap₂, subst}
use mathlib.Core.Bool.{Bool, true, false, cond}
use mathlib.Core.List.{List, [], ◌∷◌, ◌++◌, append-nil}
use mathlib.Core.Logic.{◌↔◌}
use native.Mathlib.Omega.{arith}
use lib.Dec.{leb, ltb}
use lib.ListN.{length, take, drop, length-append}
use lib.Seq.{take_at, drop_at}
use borrow.Author.Tests.{leb-true, le-leb, lt-leb, ltb-false, le-ltb}
use Rattle.layout.specs.Number.{Bytes}
use Rattle.layout.specs.Layout.{Answer, finished, more, refused, reading}
use Rattle.layout.specs.Transaction.{Head, limit}
use Rattle.layout.specs.Outcome.{Tables, Sizes, Outcome, room_of, outcome, reading_of, partial, finish, follow, strict}
use Rattle.layout.specs.Contents.{Contents, contents_bytes, Allowed}
use Rattle.layout.specs.Fields.{Formed}
use Rattle.layout.specs.Records.{head_of, Fits, tables_of}
use Rattle.layout.specs.Shows.{Shows}
use Rattle.layout.specs.Writing.{contents_of, Fault, passes, fault, ◌also◌, unless, table_faults, written_bytes, faults, Verdict, wrote, unwritten, verdict, over, touched, Written, written_length, writing}
use Rattle.layout.proofs.Reading.{by_cases, refused_not_finished}
use Rattle.layout.proofs.Theorems.{finish_finished, follow_finished}
use Rattle.layout.proofs.Whole.{whole_log, reads, found}
use Rattle.layout.proofs.Forming.{formed_in, allowed_in, filled, allowed_matches}
use Rattle.layout.proofs.Laying.{laid_whole}
use Rattle.layout.proofs.Showing.{Standing, standing, Parts}
use Rattle.layout.proofs.Own.{own_shows}
use Rattle.layout.proofs.Judging.{also_split, unless_true}
use Rattle.layout.proofs.Shown.{shown_contents, shown_passes}
use Rattle.layout.proofs.Accepted.{Words, Passed, passed, Tells, tells, parts_allowed}
use Rattle.layout.proofs.Passed.{passed_shows}
use Rattle.layout.proofs.Columns.{RecordsAgree, shown_inputs_agree, shown_outputs_agree, shown_items_agree}

-- ---- accepts_exactly

-- The bytes begin with those of an allowed transaction, and the tables have room for it.
pub record Begins (z : Sizes) (xs : List ℕ) (x : Contents) : Type 0 where
  pub allowed : Allowed x
  pub fits : Fits (room_of z) x
  pub rest : List ℕ
  pub same : xs ≡ contents_bytes x ++ rest

pub formed : (z : Sizes) (x : Contents) → Allowed x → Fits (room_of z) x → Formed (room_of z) x
formed z x a f = formed_in (room_of z) x a f

pub accepted : (z : Sizes) (xs : List ℕ) (x : Contents) → Begins z xs x → partial z xs ≡ record { answer = finished (head_of x); taken = length (contents_bytes x); tables = tables_of z x }
accepted z xs x b =
    ap (partial z) b.same
    ∙ ap (outcome z) (reads (room_of z) x (formed z x b.allowed b.fits) b.allowed.within b.rest)
    ∙ ap (λ (t : Bool). outcome z (reading (cond t (refused 8 4) (finished (head_of x))) (length (contents_bytes x)) (whole_log (room_of z) 0 x))) (filled (length x.inputs) (length x.outputs) x.witnesses b.allowed.witnesses)
    ∙ ap (λ (t : Tables). record { answer = finished (head_of x); taken = length (contents_bytes x); tables = t }) (laid_whole x (allowed_matches (length x.inputs) (length x.outputs) x.witnesses b.allowed.witnesses) z b.fits)

pub begins : (z : Sizes) (xs : List ℕ) (h : Head) → Bytes xs → (partial z xs).answer ≡ finished h → (x : Contents) × Begins z xs x
begins z xs h bs e =
    let u = found (room_of z) xs h bs e in
    let f = u.formed in (
      u.contents,
      record {
        allowed = allowed_in (room_of z) u.contents f u.not_empty u.within;
        fits = f.fits;
        rest = u.rest;
        same = u.same;
      },
    )

pub accepts_exactly : (z : Sizes) (xs : List ℕ) → Bytes xs → ((h : Head) × ((partial z xs).answer ≡ finished h)) ↔ ((x : Contents) × Begins z xs x)
accepts_exactly z xs bs = (λ a. begins z xs a.0 bs a.1, λ b. (head_of b.0, ap (λ (o : Outcome). o.answer) (accepted z xs b.0 b.1)))

-- where a strict reading finishes, so did the reading, and no byte is left
strict_finished : (z : Sizes) (xs : List ℕ) (h : Head) → (strict z xs).answer ≡ finished h → ((partial z xs).answer ≡ finished h) × (length xs ≤ (partial z xs).taken)
strict_finished z xs h e =
    let once = follow_finished (finish (reading_of z xs).answer (reading_of z xs).taken) (reading_of z xs).taken (length xs) h e in
    let taken = (reading_of z xs).taken in
    let follows : follow (finished h) taken (length xs) ≡ finished h = ap (λ (a : Answer Head). follow a taken (length xs)) (sym once) ∙ e in
    (finish_finished (reading_of z xs).answer taken h once, by_cases (ltb taken (length xs)) (λ t. absurd (refused_not_finished (rw t at follows))) (λ t. ltb-false taken (length xs) t))

-- A whole transaction is accepted exactly when the layout and the size limit allow it and the tables have room.
pub record Is (z : Sizes) (xs : List ℕ) (x : Contents) : Type 0 where
  pub allowed : Allowed x
  pub fits : Fits (room_of z) x
  pub same : xs ≡ contents_bytes x

is_begun : (z : Sizes) (xs : List ℕ) (x : Contents) → Is z xs x → Begins z xs x
is_begun z xs x i = record { allowed = i.allowed; fits = i.fits; rest = []; same = i.same ∙ sym (append-nil (contents_bytes x)) }

pub whole_accepted : (z : Sizes) (xs : List ℕ) (x : Contents) → Is z xs x → strict z xs ≡ record { answer = finished (head_of x); taken = length (contents_bytes x); tables = tables_of z x }
whole_accepted z xs x i =
    let p = accepted z xs x (is_begun z xs x i) in
    let a : (reading_of z xs).answer ≡ finished (head_of x) = ap (λ (o : Outcome). o.answer) p in
    let n : (reading_of z xs).taken ≡ length xs = ap (λ (o : Outcome). o.taken) p ∙ sym (ap (λ (l : List ℕ). length l) i.same) in
    let f : follow (finish (reading_of z xs).answer (reading_of z xs).taken) (reading_of z xs).taken (length xs) ≡ (reading_of z xs).answer =
    ap (λ (b : Answer Head). follow (finish b (reading_of z xs).taken) (reading_of z xs).taken (length xs)) a
    ∙ ap (λ (t : Bool). cond t (refused 9 (reading_of z xs).taken) (finished (head_of x))) (le-ltb (reading_of z xs).taken (length xs) (omega arith))
    ∙ sym a in
    ap (λ (b : Answer Head). outcome z (reading b (reading_of z xs).taken (reading_of z xs).log)) f ∙ p

pub whole_exactly : (z : Sizes) (xs : List ℕ) → Bytes xs → ((h : Head) × ((strict z xs).answer ≡ finished h)) ↔ ((x : Contents) × Is z xs x)
whole_exactly z xs bs = (forward, λ b. (head_of b.0, ap (λ (o : Outcome). o.answer) (whole_accepted z xs b.0 b.1)))
  where
    nothing_left : (ys rest : List ℕ) → length (ys ++ rest) ≤ length ys → rest ≡ []
    nothing_left ys [] h = refl
    nothing_left ys (r ∷ rest) h = absurd (omega (arith, length-append ys (r ∷ rest)))

    forward : (h : Head) × ((strict z xs).answer ≡ finished h) → (x : Contents) × Is z xs x
    forward a =
        let s = strict_finished z xs a.0 a.1 in
        let b = begins z xs a.0 bs s.0 in
        let x = b.0 in
        let taken : (partial z xs).taken ≡ length (contents_bytes x) = ap (λ (o : Outcome). o.taken) (accepted z xs x b.1) in
        let long : length (contents_bytes x ++ b.1.rest) ≤ length (contents_bytes x) = subst (λ (l : List ℕ). length l ≤ length (contents_bytes x)) b.1.same (omega (arith, s.1)) in
        (x, record { allowed = b.1.allowed; fits = b.1.fits; same = b.1.same ∙ ap (λ (l : List ℕ). contents_bytes x ++ l) (nothing_left (contents_bytes x) b.1.rest long) ∙ append-nil (contents_bytes x) })

-- ---- what the records show

module _ (z : Sizes) (xs : List ℕ) (x : Contents) (b : Begins z xs x) where
  pub parts : Parts xs x
  parts = record { inputs = b.allowed.inputs; outputs = b.allowed.outputs; witnesses = b.allowed.witnesses }

  pub stand : Standing xs x
  stand = standing xs x (record { front = []; behind = b.rest; long = refl; same = b.same })

  -- Its head numbers and tables, over those bytes, show it.
  pub its_shows : Shows (head_of x) (tables_of z x) xs x
  its_shows = own_shows xs x parts stand z b.fits

  pub shows : contents_of (head_of x) (tables_of z x) xs ≡ x
  shows = shown_contents (head_of x) (tables_of z x) xs x parts its_shows

  no_fault : table_faults (head_of x) (tables_of z x) (length xs) ≡ passes
  no_fault = shown_passes (head_of x) (tables_of z x) xs x parts its_shows

  pub written : written_bytes (head_of x) (tables_of z x) xs ≡ contents_bytes x
  written = ap contents_bytes shows

  no_faults : faults (head_of x) (tables_of z x) xs ≡ passes
  unfolding faults
  no_faults = ap₂ ◌also◌ no_fault (ap (λ (b : Bool). unless b 2 0) (ap (λ (l : List ℕ). leb (length l) limit) written ∙ le-leb (length (contents_bytes x)) limit b.allowed.within))

pub finished_same : {a b : Head} → ◌≡◌ {A = Answer Head} (finished a) (finished b) → a ≡ b
finished_same {a} e = ap (λ (r : Answer Head). elim r [ finished h ↦ h | more ↦ a | refused n p ↦ a ]) e

-- the head and tables of a finished reading are its transaction's
module _ (z : Sizes) (xs : List ℕ) (h : Head) (bs : Bytes xs) (e : (partial z xs).answer ≡ finished h) where
  abbrev pub its : Contents
  its = (begins z xs h bs e).0

  its_outcome : partial z xs ≡ record { answer = finished (head_of its); taken = length (contents_bytes its); tables = tables_of z its }
  its_outcome = accepted z xs its (begins z xs h bs e).1

  pub its_head : head_of its ≡ h
  its_head = finished_same (sym (ap (λ (o : Outcome). o.answer) its_outcome) ∙ e)

  pub its_tables : tables_of z its ≡ (partial z xs).tables
  its_tables = sym (ap (λ (o : Outcome). o.tables) its_outcome)

  -- They show it over its bytes: every number, and every body at its position.
  pub tables_show : Shows h (partial z xs).tables xs its
  tables_show = subst (λ (g : Head). Shows g (partial z xs).tables xs its) its_head (subst (λ (t : Tables). Shows (head_of its) t xs its) its_tables (its_shows z xs its (begins z xs h bs e).1))

  pub never_refused : faults h (partial z xs).tables xs ≡ passes
  never_refused = ap₂ (λ (g : Head) (t : Tables). faults g t xs) (sym its_head) (sym its_tables) ∙ no_faults z xs its (begins z xs h bs e).1

  -- the written bytes are the bytes taken
  pub taken_written : written_bytes h (partial z xs).tables xs ≡ take (partial z xs).taken xs
  taken_written =
      let b = (begins z xs h bs e).1 in
      ap₂ (λ (g : Head) (t : Tables). written_bytes g t xs) (sym its_head) (sym its_tables)
      ∙ written z xs its b
      ∙ sym (ap₂ (λ (n : ℕ) (l : List ℕ). take n l) (ap (λ (o : Outcome). o.taken) its_outcome) b.same ∙ take_at (contents_bytes its) b.rest (length (contents_bytes its)) refl)

  taken_length : length (written_bytes h (partial z xs).tables xs) ≡ (partial z xs).taken
  taken_length =
      let b = (begins z xs h bs e).1 in
      ap (λ (l : List ℕ). length l) (ap₂ (λ (g : Head) (t : Tables). written_bytes g t xs) (sym its_head) (sym its_tables) ∙ written z xs its b) ∙ sym (ap (λ (o : Outcome). o.taken) its_outcome)

  -- Written back over the same bytes with room enough, they give the same bytes; without room 14, and nothing is touched.
  pub read_then_write : (out : List ℕ) → (partial z xs).taken ≤ length out → writing h (partial z xs).tables xs out ≡ record { answer = wrote (partial z xs).taken; output = over (take (partial z xs).taken xs) out }
  unfolding writing
  read_then_write out room =
      let enough : leb (length (written_bytes h (partial z xs).tables xs)) (length out) ≡ true = le-leb (length (written_bytes h (partial z xs).tables xs)) (length out) (omega (arith, taken_length)) in
      let f : (faults h (partial z xs).tables xs also unless (leb (length (written_bytes h (partial z xs).tables xs)) (length out)) 14 0) ≡ passes = ap₂ ◌also◌ never_refused (ap (λ (t : Bool). unless t 14 0) enough) in
      (λ j. record { answer = verdict (f j) (taken_length j); output = touched (f j) (taken_written j) out })

  pub read_then_short : (out : List ℕ) → length out < (partial z xs).taken → writing h (partial z xs).tables xs out ≡ record { answer = unwritten 14 0; output = out }
  unfolding writing
  read_then_short out room =
      let short : leb (length (written_bytes h (partial z xs).tables xs)) (length out) ≡ false = lt-leb (length (written_bytes h (partial z xs).tables xs)) (length out) (omega (arith, taken_length)) in
      let f : (faults h (partial z xs).tables xs also unless (leb (length (written_bytes h (partial z xs).tables xs)) (length out)) 14 0) ≡ fault 14 0 = ap₂ ◌also◌ never_refused (ap (λ (t : Bool). unless t 14 0) short) in
      (λ j. record { answer = verdict (f j) (taken_length j); output = touched (f j) (taken_written j) out })

-- no bytes begin with two transactions
pub one_transaction : (z : Sizes) (xs : List ℕ) (x y : Contents) → Begins z xs x → Begins z xs y → x ≡ y
one_transaction z xs x y b c =
    let same = sym (accepted z xs x b) ∙ accepted z xs y c in
    let heads = finished_same (ap (λ (o : Outcome). o.answer) same) in
    let tables = ap (λ (o : Outcome). o.tables) same in
    sym (shows z xs x b) ∙ ap₂ (λ (h : Head) (t : Tables). contents_of h t xs) heads tables ∙ shows z xs y c

-- ---- write_then_read

-- What is lent: bytes, and numbers of 32 bits.
pub record Lent (h : Head) (t : Tables) (source : List ℕ) : Type 0 where
  pub version : h.version < 2 ^ 32
  pub locktime : h.locktime < 2 ^ 32
  pub inputs : Words t.inputs
  pub outputs : Words t.outputs
  pub source_bytes : Bytes source

-- Tables of these sizes have room for the counts.
pub record Holds (z : Sizes) (h : Head) : Type 0 where
  pub inputs : h.inputs ≤ (room_of z).inputs
  pub outputs : h.outputs ≤ (room_of z).outputs
  pub items : h.items ≤ (room_of z).items

-- the head numbers, with another length in bytes
abbrev pub lengthened : Head → ℕ → Head
lengthened h n = record { version = h.version; flag = h.flag; inputs = h.inputs; outputs = h.outputs; items = h.items; locktime = h.locktime; bytes = n }

module _ (h : Head) (t : Tables) (source : List ℕ) (lent : Lent h t source) (ok : faults h t source ≡ passes) where
  abbrev held : Contents
  held = contents_of h t source

  abbrev bytes : List ℕ
  bytes = written_bytes h t source

  split_faults : (table_faults h t (length source) ≡ passes) × (unless (leb (length bytes) limit) 2 0 ≡ passes)
  unfolding faults
  split_faults = also_split (table_faults h t (length source)) (unless (leb (length bytes) limit) 2 0) ok

  all_passed : Passed source lent.source_bytes h t
  all_passed = passed source lent.source_bytes h t split_faults.0

  told : Tells source lent.source_bytes h held
  told = tells source lent.source_bytes h t all_passed

  -- What the writer accepts is an allowed transaction.
  pub write_allowed : Allowed held
  unfolding contents_of
  write_allowed =
      let p = parts_allowed source lent.source_bytes h t all_passed lent.inputs lent.outputs in
      record { version = lent.version; inputs = p.inputs; outputs = p.outputs; locktime = lent.locktime; witnesses = p.witnesses; within = leb-true (length bytes) limit (unless_true (leb (length bytes) limit) 2 0 split_faults.1) }

  begun : (z : Sizes) → Holds z h → (rest : List ℕ) → Begins z (bytes ++ rest) held
  begun z room rest =
      record {
        allowed = write_allowed;
        fits = record {
          inputs = subst (λ (n : ℕ). n ≤ (room_of z).inputs) told.inputs room.inputs;
          outputs = subst (λ (n : ℕ). n ≤ (room_of z).outputs) told.outputs room.outputs;
          items = subst (λ (n : ℕ). n ≤ (room_of z).items) told.items room.items;
        };
        rest = rest;
        same = refl;
      }

  head_same : head_of held ≡ lengthened h (length bytes)
  head_same = λ j. record { version = sym told.version j; flag = sym told.flag j; inputs = sym told.inputs j; outputs = sym told.outputs j; items = sym told.items j; locktime = sym told.locktime j; bytes = length bytes }

  -- What is read back: the head numbers but the length, all bytes, and tables that show the same transaction over the written bytes.
  pub record ReadsBack (z : Sizes) (rest : List ℕ) : Type 0 where
    pub answer : (partial z (bytes ++ rest)).answer ≡ finished (lengthened h (length bytes))
    pub taken : (partial z (bytes ++ rest)).taken ≡ length bytes
    pub tables : (partial z (bytes ++ rest)).tables ≡ tables_of z held
    pub transaction : contents_of (lengthened h (length bytes)) (partial z (bytes ++ rest)).tables (bytes ++ rest) ≡ contents_of h t source

  pub write_then_read : (z : Sizes) → Holds z h → (rest : List ℕ) → ReadsBack z rest
  write_then_read z room rest =
      let b = begun z room rest in
      let o = accepted z (bytes ++ rest) held b in
      record {
        answer = ap (λ (r : Outcome). r.answer) o ∙ ap (λ (g : Head). finished g) head_same;
        taken = ap (λ (r : Outcome). r.taken) o;
        tables = ap (λ (r : Outcome). r.tables) o;
        transaction = ap₂ (λ (g : Head) (ts : Tables). contents_of g ts (bytes ++ rest)) (sym head_same) (ap (λ (r : Outcome). r.tables) o) ∙ shows z (bytes ++ rest) held b;
      }

  -- Both show one transaction: the tables over the source, and those read back over the written bytes.
  pub source_shows : Shows h t source held
  source_shows = passed_shows source lent.source_bytes h t all_passed lent.inputs lent.outputs

  pub back_shows : (z : Sizes) → Holds z h → (rest : List ℕ) → Shows (lengthened h (length bytes)) (partial z (bytes ++ rest)).tables (bytes ++ rest) held
  back_shows z room rest =
      let b = begun z room rest in
      let tables = ap (λ (r : Outcome). r.tables) (accepted z (bytes ++ rest) held b) in
      subst (λ (g : Head). Shows g (partial z (bytes ++ rest)).tables (bytes ++ rest) held) head_same (subst (λ (u : Tables). Shows (head_of held) u (bytes ++ rest) held) (sym tables) (its_shows z (bytes ++ rest) held b))

  pub held_parts : Parts source held
  held_parts = parts_allowed source lent.source_bytes h t all_passed lent.inputs lent.outputs

  -- And record for record, the numbers agree in all but positions.
  pub records_agree : (z : Sizes) → Holds z h → (rest : List ℕ) → RecordsAgree h t (partial z (bytes ++ rest)).tables
  records_agree z room rest =
      let g = lengthened h (length bytes) in
      let u = (partial z (bytes ++ rest)).tables in
      let b = back_shows z room rest in
      record {
        inputs = shown_inputs_agree held h g t u source (bytes ++ rest) held_parts source_shows b;
        outputs = shown_outputs_agree held h g t u source (bytes ++ rest) held_parts source_shows b;
        items = shown_items_agree held h g t u source (bytes ++ rest) held_parts source_shows b;
      }

-- ---- the answer, the length and the output

-- The length asked for alone is that of the written bytes, and writing into an output that holds them says the same.
pub record LengthIs (h : Head) (t : Tables) (source : List ℕ) (n : ℕ) : Type 0 where
  pub long : n ≡ length (written_bytes h t source)
  pub held_by : (out : List ℕ) → n ≤ length out → writing h t source out ≡ record { answer = wrote n; output = over (written_bytes h t source) out }
  pub too_short : (out : List ℕ) → length out < n → writing h t source out ≡ record { answer = unwritten 14 0; output = out }

pub passes_of : (f : Fault) (n m : ℕ) → verdict f n ≡ wrote m → (f ≡ passes) × (n ≡ m)
passes_of passes n m e = (refl, ap (λ (v : Verdict). elim v [ wrote k ↦ k | unwritten a b ↦ 0 ]) e)
passes_of (fault a b) n m e = absurd (let z : ◌≡◌ {A = ℕ} 0 1 = ap (λ (v : Verdict). elim v [ wrote k ↦ 1 | unwritten a b ↦ 0 ]) e in omega arith)

pub length_is : (h : Head) (t : Tables) (source : List ℕ) (n : ℕ) → written_length h t source ≡ wrote n → LengthIs h t source n
unfolding written_length writing
length_is h t source n e =
    let p = passes_of (faults h t source) (length (written_bytes h t source)) n e in
    let bytes = written_bytes h t source in
    record {
      long = sym p.1;
      held_by = λ out room.
          let enough : leb (length bytes) (length out) ≡ true = le-leb (length bytes) (length out) (omega (arith, p.1)) in
          let f : (faults h t source also unless (leb (length bytes) (length out)) 14 0) ≡ passes = ap₂ ◌also◌ p.0 (ap (λ (b : Bool). unless b 14 0) enough) in
          λ j. record { answer = verdict (f j) (p.1 j); output = touched (f j) bytes out };
      too_short = λ out short.
          let less : leb (length bytes) (length out) ≡ false = lt-leb (length bytes) (length out) (omega (arith, p.1)) in
          let f : (faults h t source also unless (leb (length bytes) (length out)) 14 0) ≡ fault 14 0 = ap₂ ◌also◌ p.0 (ap (λ (b : Bool). unless b 14 0) less) in
          λ j. record { answer = verdict (f j) (length bytes); output = touched (f j) bytes out };
    }

-- 2, at place 0, exactly where tables without a fault would be written too long.
pub too_long_lem : (h : Head) (t : Tables) (source : List ℕ) → table_faults h t (length source) ≡ passes → limit < length (written_bytes h t source) → written_length h t source ≡ unwritten 2 0
unfolding written_length faults
too_long_lem h t source e long = λ j. verdict (e j also unless (lt-leb (length (written_bytes h t source)) limit long j) 2 0) (length (written_bytes h t source))

-- A write that is refused for its tables is refused as its length is.
pub refused_alike : (h : Head) (t : Tables) (source out : List ℕ) (n p : ℕ) → written_length h t source ≡ unwritten n p → writing h t source out ≡ record { answer = unwritten n p; output = out }
unfolding written_length writing
refused_alike h t source out n p e = by_fault (faults h t source) (written_bytes h t source) e
  where
    by_fault : (f : Fault) (bytes : List ℕ) → verdict f (length bytes) ≡ unwritten n p → ◌≡◌ {A = Written} (record { answer = verdict (f also unless (leb (length bytes) (length out)) 14 0) (length bytes); output = touched (f also unless (leb (length bytes) (length out)) 14 0) bytes out }) (record { answer = unwritten n p; output = out })
    by_fault passes bytes e = absurd (let z : ◌≡◌ {A = ℕ} 0 1 = ap (λ (v : Verdict). elim v [ wrote k ↦ 0 | unwritten a b ↦ 1 ]) e in omega arith)
    by_fault (fault a b) bytes e = ap (λ (v : Verdict). record { answer = v; output = out }) e

touched_refused : (f : Fault) (bytes out : List ℕ) (m n p : ℕ) → verdict f m ≡ unwritten n p → touched f bytes out ≡ out
touched_refused passes bytes out m n p e = absurd (let z : ◌≡◌ {A = ℕ} 0 1 = ap (λ (v : Verdict). elim v [ wrote k ↦ 0 | unwritten a b ↦ 1 ]) e in omega arith)
touched_refused (fault a b) bytes out m n p e = refl

-- A refused write leaves the output untouched.
pub refused_write_untouched : (h : Head) (t : Tables) (source out : List ℕ) (n p : ℕ) → (writing h t source out).answer ≡ unwritten n p → (writing h t source out).output ≡ out
unfolding writing
refused_write_untouched h t source out n p e =
    let bytes = written_bytes h t source in
    touched_refused (faults h t source also unless (leb (length bytes) (length out)) 14 0) bytes out (length bytes) n p e

-- A written output has the written bytes first, and behind them what stood there.
pub record Wrote (h : Head) (t : Tables) (source out : List ℕ) (n : ℕ) : Type 0 where
  pub long : n ≡ length (written_bytes h t source)
  pub room : n ≤ length out
  pub first : take n (writing h t source out).output ≡ written_bytes h t source
  pub behind : drop n (writing h t source out).output ≡ drop n out
  pub alone : written_length h t source ≡ wrote n

pub written_tail : (h : Head) (t : Tables) (source out : List ℕ) (n : ℕ) → (writing h t source out).answer ≡ wrote n → Wrote h t source out n
unfolding writing written_length over
written_tail h t source out n e =
    let bytes = written_bytes h t source in
    let p = passes_of (faults h t source also unless (leb (length bytes) (length out)) 14 0) (length bytes) n e in
    let q = also_split (faults h t source) (unless (leb (length bytes) (length out)) 14 0) p.0 in
    let out_is : touched (faults h t source also unless (leb (length bytes) (length out)) 14 0) bytes out ≡ bytes ++ drop (length bytes) out = ap (λ (f : Fault). touched f bytes out) p.0 in
    record {
      long = sym p.1;
      room = omega (arith, leb-true (length bytes) (length out) (unless_true _ 14 0 q.1), p.1);
      first = ap (take n) out_is ∙ take_at bytes (drop (length bytes) out) n p.1;
      behind = ap (drop n) out_is ∙ drop_at bytes (drop (length bytes) out) n p.1 ∙ ap (λ (m : ℕ). drop m out) p.1;
      alone = ap₂ verdict q.0 p.1;
    }
