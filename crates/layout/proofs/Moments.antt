-- When each number enters: the reading of the first bytes of an allowed transaction, however many they are.
--     tables_so_far   its tables are the transaction's, with each number kept exactly if its moment has come
--     number_so_far   number by number: what stands at a place is the transaction's number there, or 0 before its moment
--     so_far          before the last byte: more is wanted, all bytes are taken
--     all_come        from the last byte on: finished, and every number has come
--     read_exactly    of first bytes of what is formed, and of all of them with anything behind, one equation: the outcome
use Prim.Native.Nat.{ℕ, ◌+◌, ◌-◌, ◌<◌, ◌≤◌}
use mathlib.Core.Path.{◌≡◌, refl, sym, ◌∙◌, ap}
use mathlib.Core.Bool.{Bool, true, false, cond}
use mathlib.Core.List.{List, ◌++◌}
use native.Mathlib.Omega.{arith}
use lib.Dec.{leb}
use lib.ListN.{length, get_or, take, drop, length-append, take-append-drop}
use lib.Seq.{length-take-le, take-append-add, take-append-le, take_at}
use borrow.Author.Tests.{leb-true, leb-false}
use Rattle.layout.specs.Number.{Bytes}
use Rattle.layout.specs.Layout.{Answer, finished, more, refused, Reading, Table, input, output, item}
use Rattle.layout.specs.Transaction.{Head, transaction}
use Rattle.layout.specs.Outcome.{Tables, Sizes, Outcome, room_of, zeros, laid, shown, reading_of, partial}
use Rattle.layout.specs.Contents.{Contents, contents_bytes}
use Rattle.layout.specs.Fields.{fields_of}
use Rattle.layout.specs.Records.{head_of, tables_of}
use Rattle.layout.specs.Moments.{moments_of, kept, tables_by}
use Rattle.layout.specs.Beginnings.{witnesses_empty, verdict, ending, end_of, outcome_by, Starts}
use Rattle.layout.proofs.Reading.{by_cases, taken_there, finished_not_more, refused_not_more, refused_not_finished}
use Rattle.layout.proofs.Theorems.{stable, takes_all, taken_limit}
use Rattle.layout.proofs.Whole.{judged}
use Rattle.layout.proofs.Forming.{allowed_in, filled, allowed_matches, formed_matches}
use Rattle.layout.proofs.Limits.{ending_ends, limited_finished, limit_exactly}
use Rattle.layout.proofs.Timed.{by}
use Rattle.layout.proofs.Timing.{tables_timed, tables_before}
use Rattle.layout.proofs.Kept.{kept_at}
use Rattle.layout.proofs.Laying.{table_of, moments_beside, laid_kept}
use Rattle.layout.proofs.RoundTrips.{Begins, formed, accepted}

only_more : (a : Answer Head) → ((a ≡ more → ⊥) → ⊥) → a ≡ more
only_more (finished h) ends = absurd (ends finished_not_more)
only_more more ends = refl
only_more (refused n p) ends = absurd (ends refused_not_more)

module _ (z : Sizes) (xs : List ℕ) (x : Contents) (b : Begins z xs x) where
  abbrev long : ℕ
  long = length (contents_bytes x)

  pub tables_so_far : (k : ℕ) → (partial z (take k xs)).tables ≡ tables_by k z x
  tables_so_far k =
      ap (λ (l : List ℕ). (partial z (take k l)).tables) b.same
      ∙ tables_timed z x (formed z x b.allowed b.fits) b.allowed.within (filled (length x.inputs) (length x.outputs) x.witnesses b.allowed.witnesses) b.rest k
      ∙ laid_kept x (allowed_matches (length x.inputs) (length x.outputs) x.witnesses b.allowed.witnesses) (by k) z b.fits

  in_table : (t : Table) (k : ℕ) → table_of t (tables_by k z x) ≡ kept (by k) (table_of t (moments_of z x)) (table_of t (tables_of z x))
  in_table input k = refl
  in_table output k = refl
  in_table item k = refl

  pub number_so_far : (t : Table) (k i : ℕ) → get_or (table_of t (partial z (take k xs)).tables) i 0 ≡ cond (leb (get_or (table_of t (moments_of z x)) i 0) k) (get_or (table_of t (tables_of z x)) i 0) 0
  number_so_far t k i =
      ap (λ (ts : Tables). get_or (table_of t ts) i 0) (tables_so_far k)
      ∙ ap (λ (l : List ℕ). get_or l i 0) (in_table t k)
      ∙ kept_at (by k) (table_of t (moments_of z x)) (table_of t (tables_of z x)) i (moments_beside t z x)

  there : long ≤ length xs
  there = omega (arith, ap (λ (l : List ℕ). length l) b.same, length-append (contents_bytes x) b.rest)

  -- a reading that had ended before would have taken as many bytes as the whole one
  wants : (k : ℕ) → k < long → (reading_of z (take k xs)).answer ≡ more
  wants k h =
      only_more (reading_of z (take k xs)).answer λ ended.
      let same : reading_of z xs ≡ reading_of z (take k xs) = ap (reading_of z) (sym (take-append-drop k xs)) ∙ stable z (take k xs) (drop k xs) ended in
      let whole : (reading_of z xs).taken ≡ long = ap (λ (o : Outcome). o.taken) (accepted z xs x b) in
      let few = taken_there (transaction (room_of z)) (take k xs) in
      omega (arith, ap (λ (r : Reading Head). r.taken) same, whole, few, length-take-le k xs (omega (arith, there)))

  pub so_far : (k : ℕ) → k < long → partial z (take k xs) ≡ record { answer = more; taken = k; tables = tables_by k z x }
  so_far k h =
      let taken : (reading_of z (take k xs)).taken ≡ k = takes_all z (take k xs) (wants k h) ∙ length-take-le k xs (omega (arith, there)) in
      λ j. record { answer = wants k h j; taken = taken j; tables = tables_so_far k j }

  pub all_come : (k : ℕ) → long ≤ k → (partial z (take k xs) ≡ record { answer = finished (head_of x); taken = long; tables = tables_of z x }) × (tables_by k z x ≡ tables_of z x)
  all_come k h =
      let parts : k ≡ long + (k - long) = omega arith in
      let cut : take k xs ≡ contents_bytes x ++ take (k - long) b.rest = ap (take k) b.same ∙ ap (λ (n : ℕ). take n (contents_bytes x ++ b.rest)) parts ∙ take-append-add (contents_bytes x) b.rest (k - long) in
      let whole = accepted z (take k xs) x (record { allowed = b.allowed; fits = b.fits; rest = take (k - long) b.rest; same = cut }) in
      (whole, sym (tables_so_far k) ∙ ap (λ (o : Outcome). o.tables) whole)

-- ---- of whatever length

not_empty_lem : (b : Bool) (g h : Head) → ◌≡◌ {A = Answer Head} (cond b (refused 8 4) (finished g)) (finished h) → b ≡ false
not_empty_lem true g h e = absurd (refused_not_finished e)
not_empty_lem false g h e = refl

module _ (z : Sizes) (xs : List ℕ) (x : Contents) (b : Starts z xs x) (bytes : Bytes xs) where
  told_so : (a : Answer Head × ℕ) → cond (leb (ending x).1 (length xs)) (ending x) (more, length xs) ≡ a → ((partial z xs).answer ≡ a.0) × ((partial z xs).taken ≡ a.1)
  told_so a f = let t = limit_exactly z xs x b ∙ f in (ap (λ (w : Answer Head × ℕ). w.0) t, ap (λ (w : Answer Head × ℕ). w.1) t)

  by_now : leb (ending x).1 (length xs) ≡ false → (partial z xs).answer ≡ more → (partial z xs).tables ≡ tables_by (length xs) z x
  by_now later wants =
      let k = length xs in
      let cut : take k (contents_bytes x ++ b.behind) ≡ xs = ap (take k) (sym b.same) ∙ take_at xs b.rest k refl in
      let whole = ap (λ (w : Answer Head × ℕ). w.1) (judged (room_of z) x b.formed b.behind) in
      let less = leb-false (ending x).1 k later in
      ap (λ (l : List ℕ). (partial z l).tables) (sym cut)
      ∙ tables_before z x b.formed b.behind k (omega (arith, whole, less)) (ap (λ (l : List ℕ). (partial z l).answer) cut ∙ wants)
      ∙ laid_kept x (formed_matches (length x.inputs) (length x.outputs) x.witnesses b.formed.witnesses) (by k) z b.formed.fits

  at_end : (a : Answer Head) → (ending x).0 ≡ a → leb (ending x).1 (length xs) ≡ true → (partial z xs).answer ≡ a → (partial z xs).taken ≡ (ending x).1 → (partial z xs).tables ≡ shown a (tables_of z x) (zeros z)
  at_end (refused n p) v t answer taken = ap (λ (a : Answer Head). shown a (laid (reading_of z xs).log (zeros z)) (zeros z)) answer
  at_end more v t answer taken = absurd (ending_ends x v)
  at_end (finished h) v t answer taken =
      let g = b.formed in
      let n = length (contents_bytes x) in
      let said = limited_finished (fields_of 0 x) (verdict x) n h v in
      let ends : (ending x).1 ≡ n = said.1 in
      let there : n ≤ length xs = omega (arith, leb-true (ending x).1 (length xs) t, ends) in
      let in_limit = taken_limit z xs bytes in
      let front : take n xs ≡ contents_bytes x = sym (take-append-le n xs b.rest there) ∙ ap (take n) b.same ∙ take_at (contents_bytes x) b.behind n refl in
      let allowed = allowed_in (room_of z) x g (not_empty_lem (witnesses_empty x.witnesses) (head_of x) h said.0) (omega (arith, in_limit, taken, ends)) in
      let begins : Begins z xs x = record { allowed = allowed; fits = g.fits; rest = drop n xs; same = sym (take-append-drop n xs) ∙ ap (λ (l : List ℕ). l ++ drop n xs) front } in
      ap (λ (o : Outcome). o.tables) (accepted z xs x begins)

  pub read_exactly : partial z xs ≡ outcome_by (length xs) z x
  read_exactly =
      let wanting : Outcome = record { answer = more; taken = length xs; tables = tables_by (length xs) z x } in
      by_cases (leb (ending x).1 (length xs))
      (λ t.
      let s = told_so (ending x) (ap (λ (b : Bool). cond b (ending x) (more, length xs)) t) in
      let o : partial z xs ≡ end_of z x = λ j. record { answer = s.0 j; taken = s.1 j; tables = at_end (ending x).0 refl t s.0 s.1 j } in
      o ∙ ap (λ (b : Bool). cond b (end_of z x) wanting) (sym t))
      (λ t.
      let s = told_so (more, length xs) (ap (λ (b : Bool). cond b (ending x) (more, length xs)) t) in
      let o : partial z xs ≡ wanting = λ j. record { answer = s.0 j; taken = s.1 j; tables = by_now t s.0 j } in
      o ∙ ap (λ (b : Bool). cond b (end_of z x) wanting) (sym t))
