-- A reader and a writer that read and write as document 01 says meet demands 2 and 3, and demand 1 of whole readings, whatever they are.
use Prim.Native.Nat.{ℕ, zero, suc, ◌*◌, ◌≤◌}
use mathlib.Core.Path.{◌≡◌, refl, sym, ◌∙◌, ap, ap₂, subst}
use mathlib.Core.Bool.{Bool, cond}
use mathlib.Core.List.{List, [], ◌∷◌, ◌++◌, append-nil, map}
use mathlib.Core.Option.{Option, none, some}
use native.Mathlib.Omega.{arith}
use lib.Dec.{ltb}
use lib.ListN.{length, take, get_or}
use lib.Seq.{take_at}
use borrow.Author.Tests.{le-ltb}
use Rattle.layout.specs.Number.{Bytes}
use Rattle.layout.specs.Layout.{Answer, finished, more, refused, Reading, reading, Table, input, output, item}
use Rattle.layout.specs.Transaction.{Head, limit, transaction}
use Rattle.layout.specs.Outcome.{Tables, Sizes, Outcome, width, room_of, zeros, laid, shown, head_shown, outcome, reading_of, partial, finish, at_once, follow, strict}
use Rattle.layout.specs.Contents.{Witnesses, Contents, flag_of, contents_bytes}
use Rattle.layout.specs.Records.{head_of, tables_of}
use Rattle.layout.specs.Writing.{wrote, unwritten, Written, ◌!◌, input_records, output_records, item_records, contents_of, written_bytes, faults, passes, written_length, over, writing}
use Rattle.layout.proofs.Reading.{by_cases, taken_there, refused_not_more, finished_not_more}
use Rattle.layout.proofs.Sound.{rows_of, counts}
use Rattle.layout.proofs.Theorems.{blind_at_once, refusal_placed, finish_finished, refused_zero_at_once, refused_zero_strict, zero_behind, zero_behind_at_once, zero_behind_strict, table_of}
use Rattle.layout.proofs.Columns.{InputAgrees, OutputAgrees, Each₂}
use Rattle.layout.proofs.RoundTrips as trips
use Rattle.layout.proofs.RoundTrips.{Begins, begins, whole_exactly, read_then_write, write_then_read, records_agree, passes_of, written_tail, refused_write_untouched}
use Rattle.demands.specs.Demands.{Reader, Writer, sizes, Piece, Ask, piece, done, Way, fed, at_once_lem, strictly, joined, offered, ends, Ended, paper, read, Numbered, Placed, Behind, Carries, Brings, Lent, Room, sized, input_numbers, output_numbers, item_numbers, columns, Same, Demand2, Demand3, AsPaper}

-- ---- a way's bytes

pub rest_of : (v : Way) (ys : List ℕ) → Carries v ys → (rest : List ℕ) × (offered v ≡ ys ++ rest)
rest_of (fed qs) ys c = c
rest_of (at_once_lem p) ys c = c
rest_of (strictly p) ys c = ([], c ∙ sym (append-nil ys))

pub bytes_both : (xs ys : List ℕ) → Bytes xs → Bytes ys → Bytes (xs ++ ys)
bytes_both [] ys p q i = q i
bytes_both (x ∷ xs) ys p q zero = p zero
bytes_both (x ∷ xs) ys p q (suc i) = bytes_both xs ys (λ j. p (suc j)) q i

-- all that is offered is bytes
pub joined_bytes : (qs : List Ask) → Bytes (joined qs)
unfolding joined
joined_bytes [] i = omega arith
joined_bytes (piece p ∷ qs) i = bytes_both p.bytes (joined qs) p.below (joined_bytes qs) i
joined_bytes (done ∷ qs) i = omega arith

pub bytes_offered : (v : Way) → Bytes (offered v)
bytes_offered (fed qs) = joined_bytes qs
bytes_offered (at_once_lem p) = p.below
bytes_offered (strictly p) = p.below

begun : (z : Sizes) (v : Way) (x : Contents) → Brings z v x → Begins z (offered v) x
begun z v x b =
    let c = rest_of v (contents_bytes x) b.carried in
    record { allowed = b.allowed; fits = b.room; rest = c.0; same = c.1 }

-- ---- where the reading of a way's bytes finishes, and a strict one has none left, that is the way's outcome

abbrev NoneLeft : Way → ℕ → Type 0
NoneLeft (fed qs) n = Unit {0}
NoneLeft (at_once_lem p) n = Unit {0}
NoneLeft (strictly p) n = length p.bytes ≤ n

none_left : (v : Way) (ys : List ℕ) (n : ℕ) → Carries v ys → n ≡ length ys → NoneLeft v n
none_left (fed qs) ys n c e = tt
none_left (at_once_lem p) ys n c e = tt
none_left (strictly p) ys n c e = omega (arith, ap (λ (l : List ℕ). length l) c)

once_partial : (z : Sizes) (xs : List ℕ) (h : Head) → (partial z xs).answer ≡ finished h → at_once z xs ≡ partial z xs
once_partial z xs h e = ap (λ (a : Answer Head). outcome z (reading a (reading_of z xs).taken (reading_of z xs).log)) (ap (λ (a : Answer Head). finish a (reading_of z xs).taken) e ∙ sym e)

strict_partial : (z : Sizes) (xs : List ℕ) (h : Head) → (partial z xs).answer ≡ finished h → length xs ≤ (partial z xs).taken → strict z xs ≡ partial z xs
strict_partial z xs h e n =
    let taken = (reading_of z xs).taken in
    ap (λ (a : Answer Head). outcome z (reading a taken (reading_of z xs).log))
    (ap (λ (a : Answer Head). follow (finish a taken) taken (length xs)) e ∙ ap (λ (b : Bool). cond b (refused 9 taken) (finished h)) (le-ltb taken (length xs) n) ∙ sym e)

pub as_partial : (z : Sizes) (v : Way) (h : Head) → (partial z (offered v)).answer ≡ finished h → NoneLeft v (partial z (offered v)).taken → paper z v ≡ partial z (offered v)
as_partial z (fed qs) h e n = by_cases (ends qs) (λ b. rw b (once_partial z (joined qs) h e)) (λ b. rw b refl)
as_partial z (at_once_lem p) h e n = once_partial z p.bytes h e
as_partial z (strictly p) h e n = strict_partial z p.bytes h e n

-- ---- demand 2: acceptance

pub told : (z : Sizes) (v : Way) (x : Contents) → Brings z v x → paper z v ≡ record { answer = finished (head_of x); taken = length (contents_bytes x); tables = tables_of z x }
told z v x b =
    let o = trips.accepted z (offered v) x (begun z v x b) in
    as_partial z v (head_of x) (ap (λ (p : Outcome). p.answer) o) (none_left v (contents_bytes x) _ b.carried (ap (λ (p : Outcome). p.taken) o)) ∙ o

pub brought : (z : Sizes) (v : Way) (h : Head) → (paper z v).answer ≡ finished h → (x : Contents) × Brings z v x
brought z (fed qs) h e =
    let xs = joined qs in
    let f : (partial z xs).answer ≡ finished h =
    by_cases (ends qs) (λ b. finish_finished (reading_of z xs).answer (reading_of z xs).taken h (rw b at e)) (λ b. rw b at e) in
    let b = begins z xs h (joined_bytes qs) f in
    (b.0, record { allowed = b.1.allowed; room = b.1.fits; carried = (b.1.rest, b.1.same) })
brought z (at_once_lem p) h e =
    let b = begins z p.bytes h p.below (finish_finished (reading_of z p.bytes).answer (reading_of z p.bytes).taken h e) in
    (b.0, record { allowed = b.1.allowed; room = b.1.fits; carried = (b.1.rest, b.1.same) })
brought z (strictly p) h e =
    let b = (whole_exactly z p.bytes p.below).0 (h, e) in
    (b.0, record { allowed = b.1.allowed; room = b.1.fits; carried = b.1.same })

-- what a reading finishes with has room, a flag that is listed, and a length within the limit
flag_listed : (w : Option Witnesses) → flag_of w ≤ 1
flag_listed none = omega arith
flag_listed (some w) = omega arith

pub finished_fits : (z : Sizes) (v : Way) (h : Head) → (paper z v).answer ≡ finished h → Room z h × (h.flag ≤ 1) × (h.bytes ≤ limit)
finished_fits z v h e =
    let b = brought z v h e in
    let x = b.0 in
    let fits : Room z (head_of x) × ((head_of x).flag ≤ 1) × ((head_of x).bytes ≤ limit) = (record { inputs = b.1.room.inputs; outputs = b.1.room.outputs; items = b.1.room.items }, flag_listed x.witnesses, b.1.allowed.within) in
    subst (λ (g : Head). Room z g × (g.flag ≤ 1) × (g.bytes ≤ limit)) (ap (λ (o : Outcome). head_shown o.answer) (sym (told z v x b.1)) ∙ ap head_shown e) fits

-- ---- demand 2: written back, and read back

back : (z : Sizes) (xs : List ℕ) (x : Contents) → Bytes xs → Begins z xs x → (out : List ℕ) → length (contents_bytes x) ≤ length out → writing (head_of x) (tables_of z x) xs out ≡ record { answer = wrote (length (contents_bytes x)); output = over (contents_bytes x) out }
back z xs x q b out room =
    let o = trips.accepted z xs x b in
    let n = length (contents_bytes x) in
    let first : take n xs ≡ contents_bytes x = ap (take n) b.same ∙ take_at (contents_bytes x) b.rest n refl in
    subst (λ (p : Outcome). writing (head_of x) p.tables xs out ≡ record { answer = wrote p.taken; output = over (take p.taken xs) out }) o
    (read_then_write z xs (head_of x) q (ap (λ (p : Outcome). p.answer) o) out (subst (λ (p : Outcome). p.taken ≤ length out) (sym o) room))
    ∙ ap (λ (l : List ℕ). record { answer = wrote n; output = over l out }) first

over_first : (bytes out : List ℕ) → take (length bytes) (over bytes out) ≡ bytes
unfolding over
over_first bytes out = take_at bytes _ (length bytes) refl

-- record for record, and so column for column
agreed : {P : List ℕ → List ℕ → Type 0} (cs : List ℕ) → ((r s : List ℕ) → P r s → map (λ c. r ! c) cs ≡ map (λ c. s ! c) cs) → (rs ss : List (List ℕ)) → Each₂ P rs ss → columns cs rs ≡ columns cs ss
agreed cs f [] [] e = refl
agreed cs f [] (s ∷ ss) e = absurd e
agreed cs f (r ∷ rs) [] e = absurd e
agreed cs f (r ∷ rs) (s ∷ ss) e = ap₂ ◌∷◌ (f r s e.0) (agreed cs f rs ss e.1)

module _ (h : Head) (t : Tables) (source out : List ℕ) (n : ℕ) (lent : Lent h t source) (e : (writing h t source out).answer ≡ wrote n) where
  abbrev own : trips.Lent h t source
  own = record { version = lent.version; locktime = lent.locktime; inputs = lent.inputs; outputs = lent.outputs; source_bytes = lent.source_bytes }

  abbrev tail : trips.Wrote h t source out n
  tail = written_tail h t source out n e

  ok : faults h t source ≡ passes
  unfolding written_length
  ok = (passes_of (faults h t source) (length (written_bytes h t source)) n tail.alone).0

  same : (z : Sizes) → Room z h → (rest : List ℕ) → let xs = written_bytes h t source ++ rest in Same h t source n xs (partial z xs)
  same z room rest =
      let holds : trips.Holds z h = record { inputs = room.inputs; outputs = room.outputs; items = room.items } in
      let b = write_then_read h t source own ok z holds rest in
      let a = records_agree h t source own ok z holds rest in
      let u = (partial z (written_bytes h t source ++ rest)).tables in
      let long = tail.long in
      record {
        answer = b.answer ∙ ap (λ (m : ℕ). finished (sized m h)) (sym long);
        taken = b.taken ∙ sym long;
        transaction = ap (λ (m : ℕ). contents_of (sized m h) u (written_bytes h t source ++ rest)) long ∙ b.transaction;
        inputs = sym (agreed input_numbers (λ r s (p : InputAgrees r s). λ j. p.vout j ∷ p.flags j ∷ p.script_length j ∷ p.sequence j ∷ p.amount_prefix j ∷ p.amount_high j ∷ p.amount_low j ∷ p.keys_prefix j ∷ p.keys_high j ∷ p.keys_low j ∷ p.amount_proof_length j ∷ p.keys_proof_length j ∷ p.first_item j ∷ p.script_items j ∷ p.pegin_items j ∷ []) (input_records h t) (input_records h u) a.inputs);
        outputs = sym (agreed output_numbers (λ r s (p : OutputAgrees r s). λ j. p.asset_prefix j ∷ p.value_prefix j ∷ p.value_high j ∷ p.value_low j ∷ p.nonce_prefix j ∷ p.script_length j ∷ p.surjection_proof_length j ∷ p.range_proof_length j ∷ []) (output_records h t) (output_records h u) a.outputs);
        items = sym (agreed item_numbers (λ r s (p : r ! 1 ≡ s ! 1). λ j. p j ∷ []) (item_records h t) (item_records h u) a.items);
      }

  -- in every way that carries the written bytes
  pub same_way : (z : Sizes) → Room z h → (v : Way) → Carries v (take n (writing h t source out).output) → Same h t source n (offered v) (paper z v)
  same_way z room v c =
      let bytes = written_bytes h t source in
      let d : Carries v bytes = subst (λ (l : List ℕ). Carries v l) tail.first c in
      let rest = rest_of v bytes d in
      let s : Same h t source n (offered v) (partial z (offered v)) = subst (λ (l : List ℕ). Same h t source n l (partial z l)) (sym rest.1) (same z room rest.0) in
      subst (λ (o : Outcome). Same h t source n (offered v) o) (sym (as_partial z v (sized n h) s.answer (none_left v bytes _ d (s.taken ∙ tail.long)))) s

pub paper_demand_2 : {S : Type 0} (r : Reader S) (w : Writer) → AsPaper r w → Demand2 r w
paper_demand_2 r w p =
    record {
      accepted = λ t v. (
        λ a. brought (sizes t) v a.0 (sym (ap (λ (o : Outcome). o.answer) (p.reads t v)) ∙ a.1),
        λ b. (head_of b.0, ap (λ (o : Outcome). o.answer) (p.reads t v ∙ told (sizes t) v b.0 b.1)),
      );
      told = λ t v x b. p.reads t v ∙ told (sizes t) v x b;
      back = λ t v x b out room.
          let o = p.reads t v ∙ told (sizes t) v x b in
          let e : w.write (head_shown (read r t v).answer) (read r t v).tables (offered v) out ≡ record { answer = wrote (length (contents_bytes x)); output = over (contents_bytes x) out } =
          ap (λ (y : Outcome). w.write (head_shown y.answer) y.tables (offered v) out) o ∙ p.writes (head_of x) (tables_of (sizes t) x) (offered v) out ∙ back (sizes t) (offered v) x (bytes_offered v) (begun (sizes t) v x b) out room in
          (ap (λ (b : Written). b.answer) e, ap (λ (b : Written). take (length (contents_bytes x)) b.output) e ∙ over_first (contents_bytes x) out);
      again = λ h t source out n lent e u v room c.
          let is = p.writes h t source out in
          subst (λ (o : Outcome). Same h t source n (offered v) o) (sym (p.reads u v))
          (same_way h t source out n lent (sym (ap (λ (b : Written). b.answer) is) ∙ e) (sizes u) room v (subst (λ (b : Written). Carries v (take n b.output)) is c));
    }

-- ---- demand 3

ended_paper : (z : Sizes) (v : Way) → Ended v → paper z v ≡ at_once z (offered v)
ended_paper z (fed qs) e = rw e
ended_paper z (at_once_lem p) e = refl
ended_paper z (strictly p) e = absurd e

pub paper_demand_3 : {S : Type 0} (r : Reader S) (w : Writer) → AsPaper r w → Demand3 r
paper_demand_3 r w p =
    record {
      both = λ t t' v v' c.
          p.reads t v
          ∙ ended_paper (sizes t) v c.finish
          ∙ blind_at_once (sizes t) (offered v) (offered v') c.agree
          ∙ ap (λ (z : Sizes). at_once z (offered v')) c.equal
          ∙ sym (ended_paper (sizes t') v' c.finish')
          ∙ sym (p.reads t' v');
      namely = λ t t' v v' c. p.reads t v ∙ ended_paper (sizes t) v c.finish;
    }

-- ---- demand 1, of whole readings

fair_of : (a : Answer Head) (n : ℕ) → ((m p : ℕ) → a ≡ refused m p → (2 ≤ m) × (m ≤ 8) × (p ≤ n)) → Numbered 8 n a
fair_of (finished h) n f = tt
fair_of more n f = tt
fair_of (refused m p) n f = let k = f m p refl in (omega (arith, k), k.1, k.2)

fair_finish : (a : Answer Head) (n : ℕ) → Numbered 8 n a → Numbered 8 n (finish a n)
fair_finish (finished h) n f = tt
fair_finish more n f = (omega arith, omega arith, omega arith)
fair_finish (refused m p) n f = f

fair_follow : (a : Answer Head) (n there : ℕ) → Numbered 8 n a → Numbered 9 n (follow a n there)
fair_follow (finished h) n there f = by_cases (ltb n there) (λ b. rw b (omega arith, omega arith, omega arith)) (λ b. rw b tt)
fair_follow more n there f = f
fair_follow (refused m p) n there f = (f.0, omega (arith, f), f.2)

module _ (z : Sizes) (xs : List ℕ) (q : Bytes xs) where
  abbrev r : Reading Head
  r = reading_of z xs

  pub fair_partial : Numbered 8 (partial z xs).taken (partial z xs).answer
  fair_partial = fair_of r.answer r.taken (refusal_placed z xs q)

  pub fair_once : Numbered 8 (at_once z xs).taken (at_once z xs).answer
  fair_once = fair_finish r.answer r.taken fair_partial

  fair_strict : Numbered 9 (strict z xs).taken (strict z xs).answer
  fair_strict = fair_follow (finish r.answer r.taken) r.taken (length xs) fair_once

  there : r.taken ≤ length xs
  there = taken_there (transaction (room_of z)) xs

pub placed : (z : Sizes) (v : Way) → Placed v (paper z v)
placed z (fed qs) =
    let xs = joined qs in
    let b = joined_bytes qs in
    by_cases (ends qs)
    (λ e. rw e (record { numbered = fair_once z xs b; taken = there z xs b }))
    (λ e. rw e (record { numbered = fair_partial z xs b; taken = there z xs b }))
placed z (at_once_lem p) = record { numbered = fair_once z p.bytes p.below; taken = there z p.bytes p.below }
placed z (strictly p) = record { numbered = fair_strict z p.bytes p.below; taken = there z p.bytes p.below }

finish_ends : (a : Answer Head) (n : ℕ) → finish a n ≡ more → ⊥
finish_ends (finished h) n e = finished_not_more e
finish_ends more n e = refused_not_more e
finish_ends (refused m p) n e = refused_not_more e

follow_more : (a : Answer Head) (n there : ℕ) → follow a n there ≡ more → a ≡ more
follow_more (finished h) n there e = by_cases (ltb n there) (λ b. absurd (refused_not_more (rw b at e))) (λ b. absurd (finished_not_more (rw b at e)))
follow_more more n there e = refl
follow_more (refused m p) n there e = e

pub once_ends : (z : Sizes) (xs : List ℕ) → (at_once z xs).answer ≡ more → ⊥
once_ends z xs e = finish_ends (reading_of z xs).answer (reading_of z xs).taken e

pub strict_ends : (z : Sizes) (xs : List ℕ) → (strict z xs).answer ≡ more → ⊥
strict_ends z xs e = once_ends z xs (follow_more (finish (reading_of z xs).answer (reading_of z xs).taken) (reading_of z xs).taken (length xs) e)

pub partial_zero : (z : Sizes) (xs : List ℕ) (n p : ℕ) → (partial z xs).answer ≡ refused n p → (partial z xs).tables ≡ zeros z
partial_zero z xs n p e = ap (λ (a : Answer Head). shown a (laid (reading_of z xs).log (zeros z)) (zeros z)) e

pub refused_zero : (z : Sizes) (v : Way) (n p : ℕ) → (paper z v).answer ≡ refused n p → (paper z v).tables ≡ zeros z
refused_zero z (fed qs) n p e = by_cases (ends qs) (λ b. rw b (refused_zero_at_once z (joined qs) n p (rw b at e)).0) (λ b. rw b (partial_zero z (joined qs) n p (rw b at e)))
refused_zero z (at_once_lem xs) n p e = (refused_zero_at_once z xs.bytes n p e).0
refused_zero z (strictly xs) n p e = (refused_zero_strict z xs.bytes n p e).0

behind_of : (h : Head) (t : Tables) → ((k : Table) (j : ℕ) → width k * rows_of k (counts h) ≤ j → get_or (table_of k t) j 0 ≡ 0) → Behind h t
behind_of h t f = record { inputs = f input; outputs = f output; items = f item }

pub behind : (z : Sizes) (v : Way) (h : Head) → (paper z v).answer ≡ finished h → Behind h (paper z v).tables
behind z (fed qs) h e =
    by_cases (ends qs)
    (λ b. rw b (behind_of h _ (zero_behind_at_once z (joined qs) (joined_bytes qs) h (rw b at e))))
    (λ b. rw b (behind_of h _ (zero_behind z (joined qs) (joined_bytes qs) h (rw b at e))))
behind z (at_once_lem p) h e = behind_of h _ (zero_behind_at_once z p.bytes p.below h e)
behind z (strictly p) h e = behind_of h _ (zero_behind_strict z p.bytes p.below h e)

-- what demand 1 asks of whole readings, and of the writer
pub record Whole {S : Type 0} (r : Reader S) (w : Writer) : Type 0 where
  pub placed : (t : Tables) (v : Way) → Placed v (read r t v)
  pub ended_once : (t : Tables) (p : Piece) → ((r.once t p.bytes).answer ≡ more → ⊥) × ((r.strict t p.bytes).answer ≡ more → ⊥)
  pub afresh : (t t' : Tables) (v : Way) → sizes t ≡ sizes t' → read r t v ≡ read r t' v
  pub refused_reading : (t : Tables) (v : Way) (n p : ℕ) → (read r t v).answer ≡ refused n p → (read r t v).tables ≡ zeros (sizes t)
  pub finished_behind : (t : Tables) (v : Way) (h : Head) → (read r t v).answer ≡ finished h → Behind h (read r t v).tables
  pub unwritten_output : (h : Head) (t : Tables) (source out : List ℕ) (n p : ℕ) → (w.write h t source out).answer ≡ unwritten n p → (w.write h t source out).output ≡ out

pub paper_whole : {S : Type 0} (r : Reader S) (w : Writer) → AsPaper r w → Whole r w
paper_whole r w p =
    record {
      placed = λ t v. subst (λ (o : Outcome). Placed v o) (sym (p.reads t v)) (placed (sizes t) v);
      ended_once = λ t b. (
        λ e. once_ends (sizes t) b.bytes (sym (ap (λ (o : Outcome). o.answer) (p.reads t (at_once_lem b))) ∙ e),
        λ e. strict_ends (sizes t) b.bytes (sym (ap (λ (o : Outcome). o.answer) (p.reads t (strictly b))) ∙ e),
      );
      afresh = λ t t' v e. p.reads t v ∙ ap (λ (z : Sizes). paper z v) e ∙ sym (p.reads t' v);
      refused_reading = λ t v n m e. let o = p.reads t v in ap (λ (y : Outcome). y.tables) o ∙ refused_zero (sizes t) v n m (sym (ap (λ (y : Outcome). y.answer) o) ∙ e);
      finished_behind = λ t v h e. let o = p.reads t v in subst (λ (y : Outcome). Behind h y.tables) (sym o) (behind (sizes t) v h (sym (ap (λ (y : Outcome). y.answer) o) ∙ e));
      unwritten_output = λ h t source out n m e. let o = p.writes h t source out in ap (λ (b : Written). b.output) o ∙ refused_write_untouched h t source out n m (sym (ap (λ (b : Written). b.answer) o) ∙ e);
    }
