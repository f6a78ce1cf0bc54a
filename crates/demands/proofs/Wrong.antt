-- The wrong readers of document 01, "What the promises have to say": each refuted by the demand that it names for it, and over any reader where
-- that goes. Then some more.
--     refusing    refuses all: stopped by demand 2; keeps demand 3's equality
--     answering   always the same answer, over any reader: stopped by demand 2; keeps demand 3's equality
--     nothing     does nothing: stopped by demand 1's zeroing, whatever it answers
--     idle        leaves the tables as they were, over any reader: stopped by demand 2's tables; over one that accepts as it should, by
--                 demand 1's zeroing
--     nods        works on the first piece and nods at later ones, over any reader: stopped by demand 3, 01's reading
--     invents     makes up the count of bytes taken, from all but the bytes, over any reader: stopped by demand 3, 01's reading
--     leaves      leaves a former transaction's records behind the count: stopped by demand 1, and over any reader by demand 2
--     spoils      right at its end, but an ask more brings rubbish into the tables: stopped by demand 1
--     hasty       refuses in the middle and goes on all the same: stopped by demand 1
--     restores    finished, it puts its records back into tables that were cleared for the next: stopped by demand 1
--     boasts      reads as 01 says, but a state that none returned finishes with more records than the tables hold: stopped by demand 1,
--                 over any reader, and so are the next five
--     stuck       the same, but it wants more for ever, and takes nothing
--     strays      the same, but it refuses at a place where no byte can be
--     fickle      the same, but its 11 depends on the tables' sizes
--     mixes       the same, but it copies a number of a table to other places
--     sulks       the same, but it wants more, and refuses an empty piece
--     trusting    takes tables of any sizes, over any reader: stopped by demand 1
--     zealous     zeroes the tables at every refusal, 10 and 11 too, over any reader: stopped by demand 1
--     peeks       reads a number back from the tables, over any reader: stopped by demand 1
--     stingy      a writer for which no output is long enough: stopped by demand 2
--     scribbles   a writer that has begun before it refuses: stopped by demand 1
use Prim.Native.Nat.{ℕ, zero, suc, ◌+◌, ◌-◌, ◌*◌, ◌^◌, ◌<◌}
use mathlib.Core.Path.{◌≡◌, refl, sym, ◌∙◌, ap, subst}
use mathlib.Core.Bool.{Bool, true, false, cond}
use mathlib.Core.List.{List, [], ◌∷◌, ◌++◌, append-nil, map}
use mathlib.Core.Option.{none}
use native.Mathlib.Nat.{add-zero}
use native.Mathlib.Numerals.{add-one}
use native.Mathlib.Omega.{arith}
use lib.Dec.{ltb, eqb}
use lib.ListN.{length, take, drop, get_or, replicate}
use borrow.Author.Tests.{ltb-true, eqb-false}
use Rattle.layout.specs.Number.{Bytes, bytes_of}
use Rattle.layout.specs.Layout.{Answer, finished, more, refused, input, output, item}
use Rattle.layout.specs.Transaction.{Head}
use Rattle.layout.specs.Outcome.{Tables, Sizes, Outcome, width, zeros, at_once}
use Rattle.layout.specs.Contents.{Input, Contents, Allowed, Every, contents_bytes, compact_bytes, flat, body_bytes, list_bytes, issuance_bytes, input_bytes, witnesses_bytes, confused, all}
use Rattle.layout.specs.Records.{head_of, tables_of, placed, beside}
use Rattle.layout.specs.Writing.{Verdict, wrote, unwritten, Written, writing}
use Rattle.layout.proofs.Reading.{by_cases}
use Rattle.layout.proofs.Judging.{and_true}
use Rattle.layout.proofs.RoundTrips as trips
use Rattle.demands.specs.Demands.{Call, Reader, Writer, sizes, Piece, Ask, piece, done, Way, fed, at_once_lem, strictly, joined, offered, ends, Ended, started, next, calls, read, settled, Brings, Demand1, Demand2, Two, Demand3, AsPaper}
use Rattle.demands.proofs.Paper.{told}
use Rattle.demands.proofs.Calls.{zeros_sizes}

-- ---- two transactions: of no inputs and outputs, in 11 bytes, of any version; and one with an input, in 52 bytes

abbrev bare : ℕ → Contents
bare v = record { version = v; inputs = []; outputs = []; locktime = 0; witnesses = none }

abbrev coin : Input
coin = record { txid = replicate 32 0; vout = 0; flags = 0; script = []; sequence = 0; issuance = none }

abbrev spend : Contents
spend = record { version = 2; inputs = coin ∷ []; outputs = []; locktime = 0; witnesses = none }

unfoldable computes : Unit {0}
unfolding contents_bytes bytes_of compact_bytes all flat body_bytes list_bytes issuance_bytes input_bytes witnesses_bytes confused placed beside
computes = tt

bytes_of_lem : (xs : List ℕ) → Every (λ b. b < 256) xs → Bytes xs
bytes_of_lem [] e i = omega arith
bytes_of_lem (x ∷ xs) e zero = e.0
bytes_of_lem (x ∷ xs) e (suc i) = bytes_of_lem xs e.1 i

-- by a test, for lists that are long
tested : (xs : List ℕ) → all (λ b. ltb b 256) xs ≡ true → Bytes xs
unfolding computes
tested [] e i = omega arith
tested (x ∷ xs) e zero = ltb-true x 256 (and_true (ltb x 256) (all (λ b. ltb b 256) xs) e).0
tested (x ∷ xs) e (suc i) = tested xs (and_true (ltb x 256) (all (λ b. ltb b 256) xs) e).1 i

bare_long : (v : ℕ) → length (contents_bytes (bare v)) ≡ 11
unfolding computes
bare_long v = refl

spend_long : length (contents_bytes spend) ≡ 52
unfolding computes
spend_long = refl

bare_bytes : (v : ℕ) → Bytes (contents_bytes (bare v))
unfolding computes
bare_bytes v = bytes_of_lem (contents_bytes (bare v)) (omega arith)

spend_bytes : Bytes (contents_bytes spend)
unfolding computes
spend_bytes = tested (contents_bytes spend) refl

bare_allowed : (v : ℕ) → v < 2 ^ 32 → Allowed (bare v)
bare_allowed v l = record { version = l; inputs = tt; outputs = tt; locktime = omega arith; witnesses = tt; within = omega (arith, bare_long v) }

spend_allowed : Allowed spend
unfolding computes
spend_allowed =
    record {
      version = omega arith;
      inputs = (record { txid = record { long = refl; bytes = bytes_of_lem (replicate 32 0) (omega arith) }; outpoint = refl; script = bytes_of_lem [] tt; sequence = omega arith; issuance = omega arith }, tt);
      outputs = tt;
      locktime = omega arith;
      witnesses = tt;
      within = omega (arith, spend_long);
    }

-- the bytes of each, and no byte at all
abbrev bare_piece : ℕ → Piece
bare_piece v = record { bytes = contents_bytes (bare v); below = bare_bytes v }

abbrev spend_piece : Piece
spend_piece = record { bytes = contents_bytes spend; below = spend_bytes }

abbrev no_byte : Piece
no_byte = record { bytes = []; below = bytes_of_lem [] tt }

bare_brings : (z : Sizes) (v : ℕ) → v < 2 ^ 32 → Brings z (at_once_lem (bare_piece v)) (bare v)
bare_brings z v l = record { allowed = bare_allowed v l; room = record { inputs = omega arith; outputs = omega arith; items = omega arith }; carried = ([], sym (append-nil _)) }

-- room for one input record, and the item table's half
abbrev clean : Tables
clean = record { inputs = replicate 20 0; outputs = []; items = [] }

spend_brings : Brings (sizes clean) (at_once_lem spend_piece) spend
spend_brings = record { allowed = spend_allowed; room = record { inputs = omega arith; outputs = omega arith; items = omega arith }; carried = ([], sym (append-nil _)) }

-- its record begins with the txid's position
spend_record : get_or (tables_of (sizes clean) spend).inputs 0 0 ≡ 6
unfolding computes
spend_record = refl

-- tables in which something stands
abbrev used : Tables
used = record { inputs = []; outputs = []; items = 7 ∷ [] }

apart : {A : Type 0} (number : A → ℕ) {a b : A} (n m : ℕ) → number a ≡ n → number b ≡ m → (n ≡ m → ⊥) → a ≡ b → ⊥
apart number n m p q d e = d (sym p ∙ ap number e ∙ q)

-- what tells answers apart: its kind, a refusal's number, a transaction's version
abbrev kind : Answer Head → ℕ
kind (finished h) = 0
kind more = 1
kind (refused n p) = 2

abbrev told_number_lem : Answer Head → ℕ
told_number_lem (finished h) = 0
told_number_lem more = 0
told_number_lem (refused n p) = n

abbrev version_told : Answer Head → ℕ
version_told (finished h) = h.version
version_told more = 0
version_told (refused n p) = 0

-- ---- refuses all

abbrev same : Answer Head → Tables → Outcome
same a t = record { answer = a; taken = 0; tables = zeros (sizes t) }

-- whatever it is asked, it gives one answer, takes nothing and zeroes the tables
abbrev constant : Answer Head → Reader (Unit {0})
constant a =
    record {
      fresh = λ t. record { state = tt; tables = zeros (sizes t) };
      push = λ s t xs. record { state = tt; outcome = same a t };
      end = λ s t. record { state = tt; outcome = same a t };
      once = λ t xs. same a t;
      strict = λ t xs. same a t;
    }

abbrev pub refusing : ℕ → ℕ → Reader (Unit {0})
refusing n p = constant (refused n p)

pub refusing_2 : (n p : ℕ) (w : Writer) → Demand2 (refusing n p) w → ⊥
refusing_2 n p w d =
    apart (λ (o : Outcome). kind o.answer) 2 0 refl refl (λ e. omega arith)
    (d.told used (at_once_lem (bare_piece 2)) (bare 2) (bare_brings (sizes used) 2 (omega arith)))

-- demand 3's equality alone it keeps, and so does every constant answer
abbrev always : Answer Head → Sizes → Outcome
always a z = record { answer = a; taken = 0; tables = zeros z }

module _ (a : Answer Head) where
  on_always : (z : Sizes) (q : Ask) (c : Call (Unit {0})) → c.outcome.taken ≡ 0 → sizes c.outcome.tables ≡ z → (next (constant a) c q).outcome ≡ always a z
  on_always z (piece p) c n e = λ j. record { answer = a; taken = (add-zero c.outcome.taken ∙ n) j; tables = zeros (e j) }
  on_always z done c n e = λ j. record { answer = a; taken = (add-zero c.outcome.taken ∙ n) j; tables = zeros (e j) }

  goes_always : (z : Sizes) (qs : List Ask) (c : Call (Unit {0})) → c.outcome ≡ always a z → (calls (constant a) c qs).outcome ≡ always a z
  unfolding calls
  goes_always z [] c e = e
  goes_always z (q ∷ qs) c e =
      goes_always z qs (next (constant a) c q)
      (on_always z q c (ap (λ (o : Outcome). o.taken) e) (ap (λ (o : Outcome). sizes o.tables) e ∙ zeros_sizes z))

  constant_reads : (t : Tables) (v : Way) → Ended v → read (constant a) t v ≡ always a (sizes t)
  unfolding calls ends
  constant_reads t (fed []) e = absurd (apart (λ (b : Bool). cond b 1 0) 0 1 refl refl (λ z. omega arith) e)
  constant_reads t (fed (q ∷ qs)) e = goes_always (sizes t) qs (next (constant a) (started (constant a) t) q) (on_always (sizes t) q (started (constant a) t) refl (zeros_sizes (sizes t)))
  constant_reads t (at_once_lem p) e = refl
  constant_reads t (strictly p) e = absurd e

  pub constant_3 : (t t' : Tables) (v v' : Way) → Two t t' v v' → read (constant a) t v ≡ read (constant a) t' v'
  constant_3 t t' v v' p = constant_reads t v p.finish ∙ ap (always a) p.equal ∙ sym (constant_reads t' v' p.finish')

pub refusing_3 : (n p : ℕ) (t t' : Tables) (v v' : Way) → Two t t' v v' → read (refusing n p) t v ≡ read (refusing n p) t' v'
refusing_3 n p = constant_3 (refused n p)

-- ---- always the same answer

abbrev relabelled : Answer Head → Outcome → Outcome
relabelled a o = record { answer = a; taken = o.taken; tables = o.tables }

abbrev relabel : {S : Type 0} → Answer Head → Call S → Call S
relabel a c = record { state = c.state; outcome = relabelled a c.outcome }

abbrev pub answering : {S : Type 0} → Answer Head → Reader S → Reader S
answering a r =
    record {
      fresh = r.fresh;
      push = λ s t xs. relabel a (r.push s t xs);
      end = λ s t. relabel a (r.end s t);
      once = λ t xs. relabelled a (r.once t xs);
      strict = λ t xs. relabelled a (r.strict t xs);
    }

module _ {S : Type 0} (r : Reader S) where
  -- two transactions of two versions
  pub answering_2 : (a : Answer Head) (w : Writer) → Demand2 (answering a r) w → ⊥
  answering_2 a w d =
      let two : a ≡ finished (head_of (bare 2)) = ap (λ (o : Outcome). o.answer) (d.told used (at_once_lem (bare_piece 2)) (bare 2) (bare_brings (sizes used) 2 (omega arith))) in
      let three : a ≡ finished (head_of (bare 3)) = ap (λ (o : Outcome). o.answer) (d.told used (at_once_lem (bare_piece 3)) (bare 3) (bare_brings (sizes used) 3 (omega arith))) in
      apart version_told 2 3 refl refl (λ e. omega arith) (sym two ∙ three)

  module _ (a : Answer Head) where
    goes_relabelled : (qs : List Ask) (c : Call S) → calls (answering a r) (relabel a c) qs ≡ relabel a (calls r c qs)
    unfolding calls
    goes_relabelled [] c = refl
    goes_relabelled (piece p ∷ qs) c = goes_relabelled qs (next r c (piece p))
    goes_relabelled (done ∷ qs) c = goes_relabelled qs (next r c done)

    answering_reads : (t : Tables) (v : Way) → Ended v → read (answering a r) t v ≡ relabelled a (read r t v)
    unfolding calls ends
    answering_reads t (fed []) e = absurd (apart (λ (b : Bool). cond b 1 0) 0 1 refl refl (λ z. omega arith) e)
    answering_reads t (fed (piece p ∷ qs)) e = ap (λ (c : Call S). c.outcome) (goes_relabelled qs (next r (started r t) (piece p)))
    answering_reads t (fed (done ∷ qs)) e = ap (λ (c : Call S). c.outcome) (goes_relabelled qs (next r (started r t) done))
    answering_reads t (at_once_lem p) e = refl
    answering_reads t (strictly p) e = absurd e

    pub answering_3 : ((t t' : Tables) (v v' : Way) → Two t t' v v' → read r t v ≡ read r t' v') → (t t' : Tables) (v v' : Way) → Two t t' v v' → read (answering a r) t v ≡ read (answering a r) t' v'
    answering_3 d t t' v v' p = answering_reads t v p.finish ∙ ap (relabelled a) (d t t' v v' p) ∙ sym (answering_reads t' v' p.finish')

-- ---- does nothing

abbrev pub nothing : Answer Head → Reader (Unit {0})
nothing a =
    let o : Tables → Outcome = λ t. record { answer = a; taken = 0; tables = t } in
    record {
      fresh = λ t. record { state = tt; tables = t };
      push = λ s t xs. record { state = tt; outcome = o t };
      end = λ s t. record { state = tt; outcome = o t };
      once = λ t xs. o t;
      strict = λ t xs. o t;
    }

sevens : (n : ℕ) → ◌≡◌ {A = ℕ} (get_or (replicate (n + 1) 7) n 0) 7
sevens n = simp add-one (go n)
  where
    go : (n : ℕ) → ◌≡◌ {A = ℕ} (get_or (replicate (suc n) 7) n 0) 7
    go zero = refl
    go (suc n) = go n

-- A finished answer tells how many records there are; behind them, something stands. A refusal leaves all of it. And a finish wants no more.
pub nothing_1 : (a : Answer Head) (w : Writer) → Demand1 (nothing a) w → ⊥
nothing_1 (finished h) w d =
    let n = width item * h.items in
    apart (λ (x : ℕ). x) 7 0 (sevens n) refl (λ e. omega arith)
    ((d.finished_behind (record { inputs = []; outputs = []; items = replicate (n + 1) 7 }) (at_once_lem no_byte) h refl).items n (omega arith))
nothing_1 more w d = d.ended tt used refl
nothing_1 (refused n p) w d = apart (λ (t : Tables). get_or t.items 0 0) 7 0 refl refl (λ e. omega arith) (d.refused_reading used (at_once_lem no_byte) n p refl)

-- answers and counts as it should, and leaves the tables as they were
abbrev unmoved : Tables → Outcome → Outcome
unmoved t o = record { answer = o.answer; taken = o.taken; tables = t }

abbrev pub idle : {S : Type 0} → Reader S → Reader S
idle r =
    record {
      fresh = λ t. record { state = (r.fresh t).state; tables = t };
      push = λ s t xs. let c = r.push s t xs in record { state = c.state; outcome = unmoved t c.outcome };
      end = λ s t. let c = r.end s t in record { state = c.state; outcome = unmoved t c.outcome };
      once = λ t xs. unmoved t (r.once t xs);
      strict = λ t xs. unmoved t (r.strict t xs);
    }

no_bytes : (x : Contents) (rest : List ℕ) → [] ≡ contents_bytes x ++ rest → ⊥
unfolding computes
no_bytes x rest e = apart (λ (l : List ℕ). length (take 1 l)) 0 1 refl refl (λ z. omega arith) e

module _ {S : Type 0} (r : Reader S) (w : Writer) where
  pub idle_2 : Demand2 (idle r) w → ⊥
  unfolding computes
  idle_2 d =
      apart (λ (o : Outcome). get_or o.tables.items 0 0) 7 0 refl refl (λ e. omega arith)
      (d.told used (at_once_lem (bare_piece 2)) (bare 2) (bare_brings (sizes used) 2 (omega arith)))

  -- no byte at all is refused, and something still stands in the tables
  pub idle_1 : Demand2 r w → Demand1 (idle r) w → ⊥
  idle_1 d₂ d₁ = by_answer (r.once used []).answer refl
    where
      by_answer : (a : Answer Head) → (r.once used []).answer ≡ a → ⊥
      by_answer (finished h) e = let b = (d₂.accepted used (at_once_lem no_byte)).0 (h, e) in no_bytes b.0 b.1.carried.0 b.1.carried.1
      by_answer more e = (d₁.ended_once used no_byte).0 e
      by_answer (refused n p) e = apart (λ (t : Tables). get_or t.items 0 0) 7 0 refl refl (λ z. omega arith) (d₁.refused_reading used (at_once_lem no_byte) n p e)

-- ---- works on the first piece and only nods at later ones

pub record Nodding (S : Type 0) : Type 0 where
  pub inner : S
  pub worked : Bool

abbrev pub nods : {S : Type 0} → Reader S → Reader (Nodding S)
nods r =
    record {
      fresh = λ t. record { state = record { inner = (r.fresh t).state; worked = false }; tables = (r.fresh t).tables };
      push = λ s t xs.
          let c = r.push s.inner t xs in
          cond s.worked
          (record { state = s; outcome = record { answer = more; taken = length xs; tables = t } })
          (record { state = record { inner = c.state; worked = true }; outcome = c.outcome });
      end = λ s t. let c = r.end s.inner t in record { state = record { inner = c.state; worked = true }; outcome = c.outcome };
      once = r.once;
      strict = r.strict;
    }

-- two inputs of one length, in a second piece
abbrev second : Piece → Way
second p = fed (piece no_byte ∷ piece p ∷ done ∷ [])

self : (t : Tables) (v : Way) → Ended v → Two t t v v
self t v e = record { agree = record { alike = refl; bearing = λ i b. refl }; equal = refl; finish = e; finish' = e }

second_offered : (p : Piece) → offered (second p) ≡ p.bytes
unfolding joined
second_offered p = append-nil p.bytes

ends_second : (p : Piece) → Ended (second p)
unfolding ends
ends_second p = refl

module _ {S : Type 0} (r : Reader S) where
  nods_alike : (t : Tables) (p p' : Piece) → length p.bytes ≡ length p'.bytes → read (nods r) t (second p) ≡ read (nods r) t (second p')
  unfolding calls
  nods_alike t p p' e =
      let a = r.push (r.fresh t).state (r.fresh t).tables [] in
      let b = r.end a.state a.outcome.tables in
      ap (λ (n : ℕ). record { answer = b.outcome.answer; taken = 0 + a.outcome.taken + n + b.outcome.taken; tables = b.outcome.tables }) e

  pub nods_3 : Demand3 (nods r) → ⊥
  nods_3 d =
      apart (λ (o : Outcome). version_told o.answer) 2 3 refl refl (λ e. omega arith)
      (sym (reads 2 (omega arith)) ∙ nods_alike used (bare_piece 2) (bare_piece 3) (bare_long 2 ∙ sym (bare_long 3)) ∙ reads 3 (omega arith))
    where
      reads : (v : ℕ) → v < 2 ^ 32 → read (nods r) used (second (bare_piece v)) ≡ record { answer = finished (head_of (bare v)); taken = length (contents_bytes (bare v)); tables = tables_of (sizes used) (bare v) }
      reads v l =
          let p = bare_piece v in
          d.namely used used (second p) (second p) (self used (second p) (ends_second p))
          ∙ ap (at_once (sizes used)) (second_offered p)
          ∙ told (sizes used) (at_once_lem p) (bare v) (bare_brings (sizes used) v l)

-- ---- invents the count of bytes taken

-- from the state, the tables and the piece's length, but not from its bytes; a finish says a number of its own
abbrev counted : {S : Type 0} → ℕ → Call S → Call S
counted n c = record { state = c.state; outcome = record { answer = c.outcome.answer; taken = n; tables = c.outcome.tables } }

abbrev pub invents : {S : Type 0} → (S → Tables → ℕ → ℕ) → ℕ → Reader S → Reader S
invents f g r =
    record {
      fresh = r.fresh;
      push = λ s t xs. counted (f s t (length xs)) (r.push s t xs);
      end = λ s t. counted g (r.end s t);
      once = r.once;
      strict = r.strict;
    }

abbrev first : Piece → Way
first p = fed (piece p ∷ done ∷ [])

first_offered : (p : Piece) → offered (first p) ≡ p.bytes
unfolding joined
first_offered p = append-nil p.bytes

ends_first : (p : Piece) → Ended (first p)
unfolding ends
ends_first p = refl

-- 52 bytes of which 52 are taken, and 52 bytes of which 11 are
abbrev trailing : List ℕ
trailing = contents_bytes (bare 2) ++ replicate 41 0

trailing_long : length trailing ≡ 52
unfolding computes
trailing_long = refl

trailing_bytes : Bytes trailing
unfolding computes
trailing_bytes = tested (contents_bytes (bare 2) ++ replicate 41 0) refl

abbrev trailing_piece : Piece
trailing_piece = record { bytes = trailing; below = trailing_bytes }

trailing_brings : (z : Sizes) → Brings z (at_once_lem trailing_piece) (bare 2)
trailing_brings z = record { allowed = bare_allowed 2 (omega arith); room = record { inputs = omega arith; outputs = omega arith; items = omega arith }; carried = (replicate 41 0, refl) }

module _ {S : Type 0} (r : Reader S) (f : S → Tables → ℕ → ℕ) (g : ℕ) where
  counts : (p : Piece) → (read (invents f g r) clean (first p)).taken ≡ 0 + f (r.fresh clean).state (r.fresh clean).tables (length p.bytes) + g
  unfolding calls
  counts p = refl

  pub invents_3 : Demand3 (invents f g r) → ⊥
  invents_3 d =
      let n = f (r.fresh clean).state (r.fresh clean).tables in
      omega (arith, reads spend_piece spend spend_brings, counts spend_piece, ap n spend_long, reads trailing_piece (bare 2) (trailing_brings (sizes clean)), counts trailing_piece, ap n trailing_long, spend_long, bare_long 2)
    where
      reads : (p : Piece) (x : Contents) → Brings (sizes clean) (at_once_lem p) x → (read (invents f g r) clean (first p)).taken ≡ length (contents_bytes x)
      reads p x b =
          ap (λ (o : Outcome). o.taken)
          (d.namely clean clean (first p) (first p) (self clean (first p) (ends_first p)) ∙ ap (at_once (sizes clean)) (first_offered p) ∙ told (sizes clean) (at_once_lem p) x b)

-- ---- leaves a former transaction's records behind the count

-- a finished reading's records, and behind them what stood there
abbrev overlaid : ℕ → List ℕ → List ℕ → List ℕ
overlaid n new old = take n new ++ drop n old

abbrev overlay : Answer Head → Tables → Tables → Tables
overlay (finished h) old new =
    record {
      inputs = overlaid (width input * h.inputs) new.inputs old.inputs;
      outputs = overlaid (width output * h.outputs) new.outputs old.outputs;
      items = overlaid (width item * h.items) new.items old.items;
    }
overlay more old new = new
overlay (refused n p) old new = new

abbrev left : Tables → Outcome → Outcome
left old o = record { answer = o.answer; taken = o.taken; tables = overlay o.answer old o.tables }

-- it remembers what stood in the tables at the fresh start
pub record Remembering (S : Type 0) : Type 0 where
  pub inner : S
  pub former : Tables

abbrev pub leaves : {S : Type 0} → Reader S → Reader (Remembering S)
leaves r =
    record {
      fresh = λ t. record { state = record { inner = (r.fresh t).state; former = t }; tables = (r.fresh t).tables };
      push = λ s t xs. let c = r.push s.inner t xs in record { state = record { inner = c.state; former = s.former }; outcome = left s.former c.outcome };
      end = λ s t. let c = r.end s.inner t in record { state = record { inner = c.state; former = s.former }; outcome = left s.former c.outcome };
      once = λ t xs. left t (r.once t xs);
      strict = λ t xs. left t (r.strict t xs);
    }

module _ {S : Type 0} (r : Reader S) (w : Writer) where
  -- the last lorry's transaction was read into these tables, by this reader
  abbrev night : Tables
  night = (read (leaves r) clean (at_once_lem spend_piece)).tables

  -- the next one has no inputs
  abbrev lorry : Outcome
  lorry = r.once night (contents_bytes (bare 2))

  still_there : lorry.answer ≡ finished (head_of (bare 2)) → get_or night.inputs 0 0 ≡ 6 → get_or (read (leaves r) night (at_once_lem (bare_piece 2))).tables.inputs 0 0 ≡ 6
  still_there e six = ap (λ (a : Answer Head). get_or (overlay a night lorry.tables).inputs 0 0) e ∙ six

  pub leaves_1 : Demand2 r w → Demand1 (leaves r) w → ⊥
  unfolding computes
  leaves_1 d₂ d₁ =
      let six = ap (λ (o : Outcome). get_or (left clean o).tables.inputs 0 0) (d₂.told clean (at_once_lem spend_piece) spend spend_brings) in
      let e = ap (λ (o : Outcome). o.answer) (d₂.told night (at_once_lem (bare_piece 2)) (bare 2) (bare_brings (sizes night) 2 (omega arith))) in
      apart (λ (n : ℕ). n) 6 0 (still_there e six) refl (λ z. omega arith) ((d₁.finished_behind night (at_once_lem (bare_piece 2)) (head_of (bare 2)) e).inputs 0 (omega arith))

  blank : (n : ℕ) → ◌≡◌ {A = ℕ} (get_or (replicate n 0) 0 0) 0
  blank zero = refl
  blank (suc n) = refl

  pub leaves_2 : Demand2 (leaves r) w → ⊥
  unfolding computes
  leaves_2 d =
      let six = ap (λ (o : Outcome). get_or o.tables.inputs 0 0) (d.told clean (at_once_lem spend_piece) spend spend_brings) in
      let o = d.told night (at_once_lem (bare_piece 2)) (bare 2) (bare_brings (sizes night) 2 (omega arith)) in
      apart (λ (y : Outcome). get_or y.tables.inputs 0 0) 6 0 (still_there (ap (λ (y : Outcome). y.answer) o) six) (blank (length night.inputs - 0)) (λ z. omega arith) o

-- ---- right at its end, but an ask more spoils the tables

pub record Spoiling (S : Type 0) : Type 0 where
  pub inner : S
  pub last : Answer Head

abbrev rubbish : Tables → Tables
rubbish t = record { inputs = map (λ n. 7) t.inputs; outputs = map (λ n. 7) t.outputs; items = map (λ n. 7) t.items }

abbrev spoilt : {S : Type 0} → Answer Head → Spoiling S → Tables → Call S → Call (Spoiling S)
spoilt (finished h) s t c = record { state = s; outcome = record { answer = finished h; taken = 0; tables = rubbish t } }
spoilt more s t c = record { state = record { inner = c.state; last = c.outcome.answer }; outcome = c.outcome }
spoilt (refused n p) s t c = record { state = record { inner = c.state; last = c.outcome.answer }; outcome = c.outcome }

abbrev pub spoils : {S : Type 0} → Reader S → Reader (Spoiling S)
spoils r =
    record {
      fresh = λ t. record { state = record { inner = (r.fresh t).state; last = more }; tables = (r.fresh t).tables };
      push = λ s t xs. spoilt s.last s t (r.push s.inner t xs);
      end = λ s t. spoilt s.last s t (r.end s.inner t);
      once = r.once;
      strict = r.strict;
    }

module _ {S : Type 0} (r : Reader S) (w : Writer) where
  pub spoils_1 : Demand2 r w → Demand1 (spoils r) w → ⊥
  unfolding computes calls joined
  spoils_1 d₂ d₁ =
      let p = bare_piece 2 in
      let xs = contents_bytes (bare 2) in
      let b : Brings (sizes used) (fed (piece p ∷ [])) (bare 2) = record { allowed = bare_allowed 2 (omega arith); room = record { inputs = omega arith; outputs = omega arith; items = omega arith }; carried = ([], refl) } in
      let o = d₂.told used (fed (piece p ∷ [])) (bare 2) b in
      let c = (r.push (r.fresh used).state (r.fresh used).tables xs).outcome in
      let s : Spoiling S = record { inner = (r.push (r.fresh used).state (r.fresh used).tables xs).state; last = c.answer } in
      let e : c.answer ≡ finished (head_of (bare 2)) = ap (λ (y : Outcome). y.answer) o in
      let t : c.tables ≡ tables_of (sizes used) (bare 2) = ap (λ (y : Outcome). y.tables) o in
      let done_says : (read (spoils r) used (first p)).answer ≡ finished (head_of (bare 2)) = ap (λ (a : Answer Head). (spoilt a s c.tables (r.end s.inner c.tables)).outcome.answer) e in
      let done_leaves : get_or (read (spoils r) used (first p)).tables.items 0 0 ≡ 7 = ap (λ (a : Answer Head). get_or (spoilt a s c.tables (r.end s.inner c.tables)).outcome.tables.items 0 0) e ∙ ap (λ (u : Tables). get_or (rubbish u).items 0 0) t in
      apart (λ (n : ℕ). n) 7 0 done_leaves refl (λ z. omega arith) ((d₁.finished_behind used (first p) (head_of (bare 2)) done_says).items 0 (omega arith))

-- ---- finished, it puts its records back, whatever was done to the tables since

pub record Restoring (S : Type 0) : Type 0 where
  pub inner : S
  pub last : Answer Head
  pub filled : Tables

abbrev restored : {S : Type 0} → Answer Head → Restoring S → Call S → Call (Restoring S)
restored (finished h) s c = record { state = s; outcome = record { answer = finished h; taken = 0; tables = s.filled } }
restored more s c = record { state = record { inner = c.state; last = c.outcome.answer; filled = c.outcome.tables }; outcome = c.outcome }
restored (refused n p) s c = record { state = record { inner = c.state; last = c.outcome.answer; filled = c.outcome.tables }; outcome = c.outcome }

abbrev pub restores : {S : Type 0} → Reader S → Reader (Restoring S)
restores r =
    record {
      fresh = λ t. record { state = record { inner = (r.fresh t).state; last = more; filled = (r.fresh t).tables }; tables = (r.fresh t).tables };
      push = λ s t xs. restored s.last s (r.push s.inner t xs);
      end = λ s t. restored s.last s (r.end s.inner t);
      once = r.once;
      strict = r.strict;
    }

module _ {S : Type 0} (r : Reader S) (w : Writer) where
  pub restores_1 : Demand2 r w → Demand1 (restores r) w → ⊥
  unfolding computes calls joined
  restores_1 d₂ d₁ =
      let p = bare_piece 2 in
      let xs = contents_bytes (bare 2) in
      let b : Brings (sizes used) (fed (piece p ∷ [])) (bare 2) = record { allowed = bare_allowed 2 (omega arith); room = record { inputs = omega arith; outputs = omega arith; items = omega arith }; carried = ([], refl) } in
      let o = d₂.told used (fed (piece p ∷ [])) (bare 2) b in
      let c = r.push (r.fresh used).state (r.fresh used).tables xs in
      let s : Restoring S = record { inner = c.state; last = c.outcome.answer; filled = c.outcome.tables } in
      let e : c.outcome.answer ≡ finished (head_of (bare 2)) = ap (λ (y : Outcome). y.answer) o in
      let t : c.outcome.tables ≡ tables_of (sizes used) (bare 2) = ap (λ (y : Outcome). y.tables) o in
      let again = d₁.final ((restores r).fresh used).state (r.fresh used).tables (piece p) (λ z. apart kind 0 1 refl refl (λ n. omega arith) (sym e ∙ z)) used done (sym (ap sizes t)) in
      let back : get_or (restored c.outcome.answer s (r.end c.state used)).outcome.tables.items 0 0 ≡ 0 = ap (λ (a : Answer Head). get_or (restored a s (r.end c.state used)).outcome.tables.items 0 0) e ∙ ap (λ (u : Tables). get_or u.items 0 0) t in
      let left : get_or (settled c.outcome.answer used).items 0 0 ≡ 7 = ap (λ (a : Answer Head). get_or (settled a used).items 0 0) e in
      apart (λ (y : Outcome). get_or y.tables.items 0 0) 0 7 back left (λ z. omega arith) again

-- ---- right from a fresh start, and wrong on a state that none returned

pub record Forged (S : Type 0) : Type 0 where
  pub inner : S
  pub forged : Bool

abbrev gave : {S : Type 0} → Forged S → Call S → Outcome → Call (Forged S)
gave s c o = cond s.forged (record { state = s; outcome = o }) (record { state = record { inner = c.state; forged = false }; outcome = c.outcome })

-- there it gives these, fed, and at a finish
abbrev pub forging : {S : Type 0} → (Tables → List ℕ → Outcome) → (Tables → Outcome) → Reader S → Reader (Forged S)
forging f g r =
    record {
      fresh = λ t. record { state = record { inner = (r.fresh t).state; forged = false }; tables = (r.fresh t).tables };
      push = λ s t xs. gave s (r.push s.inner t xs) (f t xs);
      end = λ s t. gave s (r.end s.inner t) (g t);
      once = r.once;
      strict = r.strict;
    }

abbrev refuses : ℕ → ℕ → Tables → Outcome
refuses n p t = record { answer = refused n p; taken = 0; tables = zeros (sizes t) }

-- its flag is 9, too
abbrev million : Head
million = record { version = 0; flag = 9; inputs = 1000000; outputs = 1000000; items = 1000000; locktime = 0; bytes = 0 }

abbrev million_told : Tables → Outcome
million_told t = record { answer = finished million; taken = 0; tables = t }

abbrev pub boasts : {S : Type 0} → Reader S → Reader (Forged S)
boasts = forging (λ t xs. million_told t) million_told

abbrev pub stuck : {S : Type 0} → Reader S → Reader (Forged S)
stuck = forging (λ t xs. record { answer = more; taken = 0; tables = t }) (refuses 1 0)

abbrev pub strays : {S : Type 0} → Reader S → Reader (Forged S)
strays = forging (λ t xs. refuses 1 4000000000 t) (refuses 1 4000000000)

-- 11 only where the lent input table is empty
abbrev by_inputs : Tables → ℕ → Outcome
by_inputs t zero = record { answer = refused 11 0; taken = 0; tables = t }
by_inputs t (suc n) = refuses 1 0 t

abbrev pub fickle : {S : Type 0} → Reader S → Reader (Forged S)
fickle = forging (λ t xs. by_inputs t (length t.inputs)) (λ t. by_inputs t (length t.inputs))

-- the first item's position, all over
abbrev spread : Tables → Tables
spread t = record { inputs = t.inputs; outputs = t.outputs; items = map (λ n. get_or t.items 0 0) t.items }

abbrev pub mixes : {S : Type 0} → Reader S → Reader (Forged S)
mixes = forging (λ t xs. record { answer = more; taken = 0; tables = spread t }) (refuses 1 0)

abbrev no_empty : Tables → List ℕ → Outcome
no_empty t [] = refuses 5 0 t
no_empty t (x ∷ xs) = record { answer = more; taken = length (x ∷ xs); tables = t }

abbrev pub sulks : {S : Type 0} → Reader S → Reader (Forged S)
sulks = forging no_empty (refuses 1 0)

abbrev one_item : ℕ → Tables
one_item n = record { inputs = []; outputs = []; items = n ∷ 0 ∷ [] }

module _ {S : Type 0} (r : Reader S) where
  -- demands 2 and 3, and what stands in for the Rust, they keep
  module _ (f : Tables → List ℕ → Outcome) (g : Tables → Outcome) where
    abbrev sound : Call S → Call (Forged S)
    sound c = record { state = record { inner = c.state; forged = false }; outcome = c.outcome }

    goes_sound : (qs : List Ask) (c : Call S) → calls (forging f g r) (sound c) qs ≡ sound (calls r c qs)
    unfolding calls
    goes_sound [] c = refl
    goes_sound (piece p ∷ qs) c = goes_sound qs (next r c (piece p))
    goes_sound (done ∷ qs) c = goes_sound qs (next r c done)

    forging_reads : (t : Tables) (v : Way) → read (forging f g r) t v ≡ read r t v
    forging_reads t (fed qs) = ap (λ (c : Call (Forged S)). c.outcome) (goes_sound qs (started r t))
    forging_reads t (at_once_lem p) = refl
    forging_reads t (strictly p) = refl

    pub forging_as_paper : (w : Writer) → AsPaper r w → AsPaper (forging f g r) w
    forging_as_paper w a = record { reads = λ t v. forging_reads t v ∙ a.reads t v; writes = a.writes; lengths = a.lengths }

  abbrev forged_state : Forged S
  forged_state = record { inner = (r.fresh used).state; forged = true }

  pub boasts_1 : (w : Writer) → Demand1 (boasts r) w → ⊥
  boasts_1 w d = let k = (d.finished_room forged_state used done million refl).0.inputs in omega (arith, k)

  pub stuck_1 : (w : Writer) → Demand1 (stuck r) w → ⊥
  stuck_1 w d = let k = d.entire forged_state used (bare_piece 2) refl in omega (arith, k, bare_long 2)

  pub strays_1 : (w : Writer) → Demand1 (strays r) w → ⊥
  strays_1 w d = let k = (d.numbered forged_state used done).2 in omega (arith, k)

  pub fickle_1 : (w : Writer) → Demand1 (fickle r) w → ⊥
  fickle_1 w d = apart told_number_lem 1 11 refl refl (λ z. omega arith) (d.eleven_alone forged_state used clean done done refl)

  pub mixes_1 : (w : Writer) → Demand1 (mixes r) w → ⊥
  mixes_1 w d =
      let k : ◌≡◌ {A = ℕ} 7 0 = ((d.apart forged_state (one_item 7) (one_item 8) (piece no_byte) refl).tables.items 1 (λ e. omega (arith, e))).0 in
      omega (arith, k)

  pub sulks_1 : (w : Writer) → Demand1 (sulks r) w → ⊥
  unfolding computes
  sulks_1 w d = apart kind 2 1 refl refl (λ z. omega arith) (d.wanting forged_state used (piece (bare_piece 2)) refl used refl)

-- ---- refuses in the middle, and goes on all the same

pub record Hurried (S : Type 0) : Type 0 where
  pub inner : S
  pub hidden : Tables

abbrev masked : Answer Head → Tables → Outcome → Outcome
masked (finished h) t o = o
masked more t o = record { answer = refused 5 0; taken = o.taken; tables = zeros (sizes t) }
masked (refused n p) t o = o

abbrev hurried : {S : Type 0} → Tables → Call S → Call (Hurried S)
hurried t c = record { state = record { inner = c.state; hidden = c.outcome.tables }; outcome = masked c.outcome.answer t c.outcome }

abbrev pub hasty : {S : Type 0} → Reader S → Reader (Hurried S)
hasty r =
    record {
      fresh = λ t. record { state = record { inner = (r.fresh t).state; hidden = (r.fresh t).tables }; tables = (r.fresh t).tables };
      push = λ s t xs. hurried t (r.push s.inner s.hidden xs);
      end = λ s t. hurried t (r.end s.inner s.hidden);
      once = r.once;
      strict = r.strict;
    }

module _ {S : Type 0} (r : Reader S) (w : Writer) where
  pub hasty_1 : Demand1 r w → Demand2 r w → Demand1 (hasty r) w → ⊥
  unfolding calls joined
  hasty_1 d₁ d₂ d = by_answer a.outcome.answer refl
    where
      a : Call S
      a = r.push (r.fresh used).state (r.fresh used).tables []

      b : Outcome
      b = (r.push a.state a.outcome.tables (contents_bytes (bare 2))).outcome

      brings : Brings (sizes used) (fed (piece no_byte ∷ piece (bare_piece 2) ∷ [])) (bare 2)
      brings = record { allowed = bare_allowed 2 (omega arith); room = record { inputs = omega arith; outputs = omega arith; items = omega arith }; carried = ([], refl) }

      finishes : b.answer ≡ finished (head_of (bare 2))
      finishes = ap (λ (o : Outcome). o.answer) (d₂.told used (fed (piece no_byte ∷ piece (bare_piece 2) ∷ [])) (bare 2) brings)

      by_answer : (x : Answer Head) → a.outcome.answer ≡ x → ⊥
      by_answer (finished h) e = let y = (d₂.accepted used (fed (piece no_byte ∷ []))).0 (h, e) in no_bytes y.0 y.1.carried.0 y.1.carried.1
      by_answer more e =
          let o = masked a.outcome.answer (r.fresh used).tables a.outcome in
          let says : o.answer ≡ refused 5 0 = ap (λ (x : Answer Head). (masked x (r.fresh used).tables a.outcome).answer) e in
          let again : (masked b.answer o.tables b).answer ≡ o.answer =
          ap (λ (y : Outcome). y.answer) (d.final ((hasty r).fresh used).state ((hasty r).fresh used).tables (piece no_byte) (λ z. apart kind 2 1 refl refl (λ n. omega arith) (sym says ∙ z)) o.tables (piece (bare_piece 2)) refl) in
          apart kind 0 2 refl refl (λ n. omega arith) (sym finishes ∙ sym (ap (λ (x : Answer Head). (masked x o.tables b).answer) finishes) ∙ again ∙ says)
      by_answer (refused n p) e =
          let again = ap (λ (o : Outcome). o.answer) (d₁.final (r.fresh used).state (r.fresh used).tables (piece no_byte) (λ z. apart kind 2 1 refl refl (λ n. omega arith) (sym e ∙ z)) a.outcome.tables (piece (bare_piece 2)) refl) in
          apart kind 0 2 refl refl (λ n. omega arith) (sym finishes ∙ again ∙ e)

-- ---- trusts the caller's tables: never says 10; or zeroes them where it says so

abbrev reworded : (Answer Head → Answer Head) → Outcome → Outcome
reworded f o = record { answer = f o.answer; taken = o.taken; tables = o.tables }

abbrev unten : Answer Head → Answer Head
unten (finished h) = finished h
unten more = more
unten (refused n p) = cond (eqb n 10) more (refused n p)

abbrev pub trusting : {S : Type 0} → Reader S → Reader S
trusting r =
    record {
      fresh = r.fresh;
      push = λ s t xs. let c = r.push s t xs in record { state = c.state; outcome = reworded unten c.outcome };
      end = λ s t. let c = r.end s t in record { state = c.state; outcome = reworded unten c.outcome };
      once = r.once;
      strict = r.strict;
    }

never_ten : (a : Answer Head) → unten a ≡ refused 10 0 → ⊥
never_ten (finished h) e = apart kind 0 2 refl refl (λ z. omega arith) e
never_ten more e = apart kind 1 2 refl refl (λ z. omega arith) e
never_ten (refused n p) e =
    by_cases (eqb n 10)
    (λ b. apart kind 1 2 refl refl (λ z. omega arith) (rw b at e))
    (λ b. let m : n ≡ 10 = ap told_number_lem (rw b at e) in eqb-false n 10 b m)

-- the fresh start saw a table of one number, the call is lent three of none
abbrev none_lent : Tables
none_lent = record { inputs = []; outputs = []; items = [] }

other_sizes : sizes used ≡ sizes none_lent → ⊥
other_sizes e = apart (λ (z : Sizes). z.items) 1 0 refl refl (λ n. omega arith) e

pub trusting_1 : {S : Type 0} (r : Reader S) (w : Writer) → Demand1 (trusting r) w → ⊥
unfolding calls
trusting_1 r w d = never_ten (r.end (r.fresh used).state none_lent).outcome.answer ((d.ten used [] none_lent done).1 other_sizes)

-- a refusal's tables, whatever its number
abbrev wiped : Answer Head → Tables → Tables → Tables
wiped (finished h) t u = u
wiped more t u = u
wiped (refused n p) t u = zeros (sizes t)

abbrev wiping : Tables → Outcome → Outcome
wiping t o = record { answer = o.answer; taken = o.taken; tables = wiped o.answer t o.tables }

abbrev pub zealous : {S : Type 0} → Reader S → Reader S
zealous r =
    record {
      fresh = r.fresh;
      push = λ s t xs. let c = r.push s t xs in record { state = c.state; outcome = wiping t c.outcome };
      end = λ s t. let c = r.end s t in record { state = c.state; outcome = wiping t c.outcome };
      once = r.once;
      strict = r.strict;
    }

pub zealous_1 : {S : Type 0} (r : Reader S) (w : Writer) → Demand1 (zealous r) w → ⊥
unfolding calls
zealous_1 r w d =
    let s = (r.fresh none_lent).state in
    let c = (r.end s used).outcome in
    let e : c.answer ≡ refused 10 0 = (d.ten none_lent [] used done).1 (λ z. other_sizes (sym z)) in
    apart (λ (t : Tables). get_or t.items 0 0) 0 7 refl refl (λ z. omega arith)
    (sym (ap (λ (a : Answer Head). wiped a used c.tables) e) ∙ ap (λ (x : Call _). x.outcome.tables) (d.misused s used done 10 0 e refl))

-- reads a number back from the tables, and answers by it
abbrev peeked : ℕ → Answer Head → Answer Head
peeked zero a = refused 1 0
peeked (suc n) a = more

abbrev pub peeks : {S : Type 0} → Reader S → Reader S
peeks r =
    record {
      fresh = r.fresh;
      push = λ s t xs. let c = r.push s t xs in record { state = c.state; outcome = reworded (peeked (get_or t.items 0 0)) c.outcome };
      end = r.end;
      once = r.once;
      strict = r.strict;
    }

pub peeks_1 : {S : Type 0} (r : Reader S) (w : Writer) → Demand1 (peeks r) w → ⊥
peeks_1 r w d =
    apart kind 1 2 refl refl (λ z. omega arith)
    (d.apart (r.fresh used).state used (record { inputs = []; outputs = []; items = 0 ∷ [] }) (piece no_byte) refl).answer

-- ---- writers

-- no output is long enough for it
abbrev pub stingy : Writer → Writer
stingy w = record { write = λ h t source out. record { answer = unwritten 14 0; output = out }; long = w.long }

abbrev said : Verdict → ℕ
said (wrote n) = 0
said (unwritten n p) = n

pub stingy_2 : {S : Type 0} (r : Reader S) (w : Writer) → Demand2 r (stingy w) → ⊥
stingy_2 r w d =
    apart said 14 0 refl refl (λ e. omega arith)
    (d.back used (at_once_lem (bare_piece 2)) (bare 2) (bare_brings (sizes used) 2 (omega arith)) (replicate 11 0) (omega (arith, bare_long 2))).0

-- it has written a byte before it refuses
abbrev scribbled : Verdict → List ℕ → List ℕ
scribbled (wrote n) out = out
scribbled (unwritten n p) [] = []
scribbled (unwritten n p) (b ∷ out) = 1 ∷ out

abbrev pub scribbles : Writer → Writer
scribbles w = record { write = λ h t source out. let b = w.write h t source out in record { answer = b.answer; output = scribbled b.answer b.output }; long = w.long }

-- a transaction's own tables, into an output of one byte: 14
short : writing (head_of (bare 2)) (tables_of (sizes used) (bare 2)) (contents_bytes (bare 2)) (0 ∷ []) ≡ record { answer = unwritten 14 0; output = 0 ∷ [] }
short =
    let xs = contents_bytes (bare 2) in
    let b = bare_brings (sizes used) 2 (omega arith) in
    let o = trips.accepted (sizes used) xs (bare 2) (record { allowed = b.allowed; fits = b.room; rest = []; same = sym (append-nil xs) }) in
    subst (λ (y : Outcome). writing (head_of (bare 2)) y.tables xs (0 ∷ []) ≡ record { answer = unwritten 14 0; output = 0 ∷ [] }) o
    (trips.read_then_short (sizes used) xs (head_of (bare 2)) (bare_bytes 2) (ap (λ (y : Outcome). y.answer) o) (0 ∷ []) (omega (arith, ap (λ (y : Outcome). y.taken) o, bare_long 2)))

pub scribbles_1 : {S : Type 0} (r : Reader S) (w : Writer) → AsPaper r w → Demand1 r (scribbles w) → ⊥
scribbles_1 r w p d =
    let h = head_of (bare 2) in
    let t = tables_of (sizes used) (bare 2) in
    let xs = contents_bytes (bare 2) in
    let e = p.writes h t xs (0 ∷ []) ∙ short in
    apart (λ (out : List ℕ). get_or out 0 0) 1 0 refl refl (λ z. omega arith)
    (sym (ap (λ (b : Written). scribbled b.answer b.output) e) ∙ d.unwritten_output h t xs (0 ∷ []) 14 0 (ap (λ (b : Written). b.answer) e))
