-- Entries laid into the tables, one table and one record at a time: what is entered by now, whichever times those are. Numbers that are
-- entered or not are as if they or zeros were, where nothing stood yet: so a record's columns come out one by one, by computing.
use Prim.Native.Nat.{ℕ, zero, suc, ◌+◌, ◌-◌, ◌*◌, ◌≤◌}
use mathlib.Core.Path.{◌≡◌, refl, sym, ◌∙◌, ap, ap₂}
use mathlib.Core.Bool.{Bool, true, false, cond}
use mathlib.Core.List.{List, [], ◌∷◌, ◌++◌, append_assoc, map}
use native.Mathlib.Nat.{add-zero, zero-add, mul-add}
use native.Mathlib.Numerals.{add-one}
use native.Mathlib.Omega.{arith}
use lib.Dec.{leb, eqb}
use lib.ListN.{length, set, get_or, replicate, length-append, length-set, replicate-append-replicate}
use lib.Seq.{sets, set-append_left, length-sets}
use borrow.Author.Tests.{leb-true, eqb-true}
use Rattle.layout.specs.Layout.{Entry, Table, input, output, item}
use Rattle.layout.specs.Transaction.{entry}
use Rattle.layout.specs.Outcome.{Tables, width, change, lay, laid}
use Rattle.layout.specs.Contents.{flat}
use Rattle.layout.specs.Records.{placed, beside, table}
use Rattle.layout.proofs.Timed.{Timed, timed, entered, all_timed}

-- ---- numbers set in a list

set_right : (xs ys : List ℕ) (n a : ℕ) → set (xs ++ ys) (length xs + n) a ≡ xs ++ set ys n a
set_right [] ys n a = ap (λ (m : ℕ). set ys m a) (zero-add n)
set_right (x ∷ xs) ys n a =
    let next : suc (length xs) + n ≡ suc (length xs + n) = omega arith in
    ap (λ (m : ℕ). set (x ∷ (xs ++ ys)) m a) next ∙ ap (λ (l : List ℕ). x ∷ l) (set_right xs ys n a)

sets_right : (xs ys : List ℕ) (n : ℕ) (ns : List ℕ) → sets (xs ++ ys) (length xs + n) ns ≡ xs ++ sets ys n ns
sets_right xs ys n [] = refl
sets_right xs ys n (a ∷ ns) =
    let next : suc (length xs + n) ≡ length xs + suc n = omega arith in
    ap₂ (λ (l : List ℕ) (m : ℕ). sets l m ns) (set_right xs ys n a) next ∙ sets_right xs (set ys n a) (suc n) ns

sets_left : (ns xs ys : List ℕ) (n : ℕ) → n + length ns ≤ length xs → sets (xs ++ ys) n ns ≡ sets xs n ns ++ ys
sets_left [] xs ys n h = refl
sets_left (a ∷ ns) xs ys n h =
    ap (λ (l : List ℕ). sets l (suc n) ns) (set-append_left xs ys n a (omega arith))
    ∙ sets_left ns (set xs n a) ys (suc n) (omega (arith, length-set xs n a))

cond_both : (b c : Bool) → cond b c false ≡ true → (b ≡ true) × (c ≡ true)
cond_both true c e = (refl, e)
cond_both false c e = absurd (let z : ◌≡◌ {A = ℕ} 0 1 = ap (λ (t : Bool). cond t 1 0) e in omega arith)

-- no number stands there yet, so 0 set there changes nothing
abbrev free : List ℕ → ℕ → List ℕ → Bool
free row c [] = true
free row c (n ∷ ns) = cond (eqb (get_or row c 0) 0) (free row (suc c) ns) false

set_free : (row : List ℕ) (c : ℕ) → get_or row c 0 ≡ 0 → set row c 0 ≡ row
set_free [] c e = refl
set_free (x ∷ xs) zero e = ap (λ (n : ℕ). n ∷ xs) (sym e)
set_free (x ∷ xs) (suc c) e = ap (λ (l : List ℕ). x ∷ l) (set_free xs c e)

sets_free : (ns row : List ℕ) (c : ℕ) → free row c ns ≡ true → sets row c (map (λ n. 0) ns) ≡ row
sets_free [] row c e = refl
sets_free (n ∷ ns) row c e =
    let ok = cond_both (eqb (get_or row c 0) 0) (free row (suc c) ns) e in
    ap (λ (l : List ℕ). sets l (suc c) (map (λ n. 0) ns)) (set_free row c (eqb-true (get_or row c 0) 0 ok.0)) ∙ sets_free ns row (suc c) ok.1

map_same : (ns : List ℕ) → map (λ n. n) ns ≡ ns
map_same [] = refl
map_same (n ∷ ns) = ap (λ (l : List ℕ). n ∷ l) (map_same ns)

-- numbers that are entered or not: it is as if they or zeros were
entered_or_not : (b : Bool) (row : List ℕ) (c : ℕ) (ns : List ℕ) → free row c ns ≡ true → cond b (sets row c ns) row ≡ sets row c (map (λ n. cond b n 0) ns)
entered_or_not true row c ns e = ap (sets row c) (sym (map_same ns))
entered_or_not false row c ns e = sym (sets_free ns row c e)

-- ---- one table at a time

abbrev pub same : Table → Table → Bool
same input input = true
same input output = false
same input item = false
same output input = false
same output output = true
same output item = false
same item input = false
same item output = false
same item item = true

same_self : (t : Table) → same t t ≡ true
same_self input = refl
same_self output = refl
same_self item = refl

abbrev at_place : Table → Entry → List ℕ → List ℕ
at_place t e xs = sets xs (width t * e.row + e.column) e.numbers

abbrev pub table_of : Table → Tables → List ℕ
table_of input t = t.inputs
table_of output t = t.outputs
table_of item t = t.items

change_in : (t u : Table) (f : Table → List ℕ → List ℕ) (ts : Tables) → table_of t (change u (f u) ts) ≡ cond (same t u) (f t (table_of t ts)) (table_of t ts)
change_in input input f ts = refl
change_in input output f ts = refl
change_in input item f ts = refl
change_in output input f ts = refl
change_in output output f ts = refl
change_in output item f ts = refl
change_in item input f ts = refl
change_in item output f ts = refl
change_in item item f ts = refl

either : {X : Type 0} (b : Bool) (x : X) → cond b x x ≡ x
either true x = refl
either false x = refl

-- numbers that are 0
abbrev pub blanks : ℕ → List ℕ
blanks n = replicate n 0

blank : (w n : ℕ) → blanks (w * suc n) ≡ blanks w ++ blanks (w * n)
blank w n =
    let longer : w * suc n ≡ w + w * n = omega (arith, ap (λ (m : ℕ). w * m) (sym (add-one n)), mul-add w n 1) in
    ap blanks longer ∙ sym (replicate-append-replicate w (w * n) 0)

-- a column, its numbers, and when they enter
pub record Cell : Type 0 where
  pub time : ℕ
  pub column : ℕ
  pub numbers : List ℕ

abbrev pub cell : ℕ → ℕ → List ℕ → Cell
cell m c ns = record { time = m; column = c; numbers = ns }

-- the entries of a record's cells, whose columns are behind the first k
abbrev pub cells : Table → ℕ → ℕ → List Cell → List Timed
cells t i k [] = []
cells t i k (c ∷ cs) = timed c.time (entry t i (k + c.column) c.numbers) ∷ cells t i k cs

-- a log of other tables
abbrev pub Off : Table → List Timed → Type 0
Off t [] = Unit {0}
Off t (e ∷ es) = (same t e.entry.table ≡ false) × Off t es

pub off_both : (t : Table) (es fs : List Timed) → Off t es → Off t fs → Off t (es ++ fs)
off_both t [] fs g h = h
off_both t (e ∷ es) fs g h = (g.0, off_both t es fs g.1 h)

-- ---- lists of records

pub flat_both : (ps qs : List (List ℕ)) → flat (λ r. r) (ps ++ qs) ≡ flat (λ r. r) ps ++ flat (λ r. r) qs
unfolding flat
flat_both [] qs = refl
flat_both (p ∷ ps) qs = ap (λ (l : List ℕ). p ++ l) (flat_both ps qs) ∙ sym (append_assoc p (flat (λ r. r) ps) (flat (λ r. r) qs))

-- records that were only filled up with 0
pub bare_flat : {X : Type 0} (bytes : X → List ℕ) (columns : ℕ → X → List ℕ) (b at : ℕ) (xs : List X) → flat (λ r. r) (placed bytes (λ at x. columns at x ++ blanks b) at xs) ≡ flat (λ r. r ++ blanks b) (placed bytes columns at xs)
unfolding flat placed
bare_flat bytes columns b at [] = refl
bare_flat bytes columns b at (x ∷ xs) = ap (λ (l : List ℕ). (columns at x ++ blanks b) ++ l) (bare_flat bytes columns b (at + length (bytes x)) xs)

pub bare_beside : (b : ℕ) (rows : List (List ℕ)) (n : ℕ) → length rows ≡ n → flat (λ r. r ++ blanks b) rows ≡ flat (λ r. r) (beside rows (replicate n (blanks b)))
unfolding flat beside
bare_beside b [] n e = refl
bare_beside b (r ∷ rows) zero e = absurd (omega arith)
bare_beside b (r ∷ rows) (suc n) e = ap (λ (l : List ℕ). (r ++ blanks b) ++ l) (bare_beside b rows n (omega arith))

pub placed_length : {X : Type 0} (bytes : X → List ℕ) (columns : ℕ → X → List ℕ) (at : ℕ) (xs : List X) → length (placed bytes columns at xs) ≡ length xs
unfolding placed
placed_length bytes columns at [] = refl
placed_length bytes columns at (x ∷ xs) = ap suc (placed_length bytes columns (at + length (bytes x)) xs)

-- so many numbers that are 0 are some, and then the rest
split_blanks : (size k : ℕ) → k ≤ size → blanks size ≡ blanks k ++ blanks (size - k)
split_blanks size k h = let all_of : size ≡ k + (size - k) = omega arith in ap blanks all_of ∙ sym (replicate-append-replicate k (size - k) 0)

pub nothing_flat : (behind : List ℕ) → behind ≡ flat {X = List ℕ} (λ r. r) [] ++ behind
unfolding flat
nothing_flat behind = refl

-- ---- what is entered by now

module _ (now : ℕ → Bool) where
  -- what a log makes of one table
  unfoldable pub laid_in : Table → List Timed → List ℕ → List ℕ
  laid_in t [] xs = xs
  laid_in t (e ∷ es) xs = laid_in t es (cond (now e.time) (cond (same t e.entry.table) (at_place t e.entry xs) xs) xs)

  laid_in_lem : (t : Table) (es : List Timed) (ts : Tables) → table_of t (laid (entered now es) ts) ≡ laid_in t es (table_of t ts)
  unfolding laid laid_in entered
  laid_in_lem t [] ts = refl
  laid_in_lem t (e ∷ es) ts = one (laid_in_lem t es) (now e.time)
    where
      one : ((ts : Tables) → table_of t (laid (entered now es) ts) ≡ laid_in t es (table_of t ts)) → (b : Bool) → table_of t (laid (cond b (e.entry ∷ entered now es) (entered now es)) ts) ≡ laid_in t es (cond b (cond (same t e.entry.table) (at_place t e.entry (table_of t ts)) (table_of t ts)) (table_of t ts))
      one others true = others (lay e.entry ts) ∙ ap (laid_in t es) (change_in t e.entry.table (λ u xs. sets xs (width u * e.entry.row + e.entry.column) e.entry.numbers) ts)
      one others false = others ts

  pub laid_tables : (es : List Timed) (ts : Tables) → laid (entered now es) ts ≡ record { inputs = laid_in input es ts.inputs; outputs = laid_in output es ts.outputs; items = laid_in item es ts.items }
  laid_tables es ts = λ j. record { inputs = laid_in_lem input es ts j; outputs = laid_in_lem output es ts j; items = laid_in_lem item es ts j }

  pub laid_both : (t : Table) (es fs : List Timed) (xs : List ℕ) → laid_in t (es ++ fs) xs ≡ laid_in t fs (laid_in t es xs)
  unfolding laid_in
  laid_both t [] fs xs = refl
  laid_both t (e ∷ es) fs xs = laid_both t es fs (cond (now e.time) (cond (same t e.entry.table) (at_place t e.entry xs) xs) xs)

  pub laid_off : (t : Table) (es : List Timed) → Off t es → (xs : List ℕ) → laid_in t es xs ≡ xs
  unfolding laid_in
  laid_off t [] g xs = refl
  laid_off t (e ∷ es) g xs =
      ap (λ (b : Bool). laid_in t es (cond (now e.time) (cond b (at_place t e.entry xs) xs) xs)) g.0
      ∙ ap (laid_in t es) (either (now e.time) xs)
      ∙ laid_off t es g.1 xs

  -- entries of another table in the middle do nothing
  pub laid_skip : (t : Table) (es fs gs : List Timed) → Off t fs → (xs : List ℕ) → laid_in t (es ++ (fs ++ gs)) xs ≡ laid_in t (es ++ gs) xs
  laid_skip t es fs gs o xs =
      laid_both t es (fs ++ gs) xs
      ∙ laid_both t fs gs (laid_in t es xs)
      ∙ ap (laid_in t gs) (laid_off t fs o (laid_in t es xs))
      ∙ sym (laid_both t es gs xs)

  -- ---- one record at a time

  -- a cell's numbers if they are entered by now, and otherwise zeros
  abbrev put : Cell → List ℕ → List ℕ
  put c row = sets row c.column (map (λ n. cond (now c.time) n 0) c.numbers)

  abbrev pub fills : List Cell → List ℕ → List ℕ
  fills [] row = row
  fills (c ∷ cs) row = fills cs (put c row)

  -- each cell lies in the row, where nothing is entered yet
  abbrev pub fit : ℕ → List Cell → List ℕ → Bool
  fit w [] row = true
  fit w (c ∷ cs) row =
      cond (leb (c.column + length c.numbers) w) (cond (free row c.column c.numbers) (fit w cs (put c row)) false) false

  in_place : (b : Bool) (front new row behind : List ℕ) → cond b (front ++ (new ++ behind)) (front ++ (row ++ behind)) ≡ front ++ (cond b new row ++ behind)
  in_place true front new row behind = refl
  in_place false front new row behind = refl

  -- cells of one record change that record alone
  laid_row : (t : Table) (i k w : ℕ) (cs : List Cell) (front row behind : List ℕ) → length front ≡ width t * i + k → length row ≡ w → fit w cs row ≡ true → laid_in t (cells t i k cs) (front ++ (row ++ behind)) ≡ front ++ (fills cs row ++ behind)
  unfolding laid_in
  laid_row t i k w [] front row behind e l f = refl
  laid_row t i k w (c ∷ cs) front row behind e l f =
      let b = now c.time in
      let old = front ++ (row ++ behind) in
      let new = put c row in
      let ok = cond_both (leb (c.column + length c.numbers) w) (cond (free row c.column c.numbers) (fit w cs new) false) f in
      let ok' = cond_both (free row c.column c.numbers) (fit w cs new) ok.1 in
      let there : c.column + length c.numbers ≤ length row = omega (arith, leb-true (c.column + length c.numbers) w ok.0) in
      let column : width t * i + (k + c.column) ≡ length front + c.column = omega arith in
      let set_there : sets old (width t * i + (k + c.column)) c.numbers ≡ front ++ (sets row c.column c.numbers ++ behind) =
      ap (λ (n : ℕ). sets old n c.numbers) column
      ∙ sets_right front (row ++ behind) c.column c.numbers
      ∙ ap (λ (l : List ℕ). front ++ l) (sets_left c.numbers row behind c.column there) in
      ap (λ (s : Bool). laid_in t (cells t i k cs) (cond b (cond s (sets old (width t * i + (k + c.column)) c.numbers) old) old)) (same_self t)
      ∙ ap (λ (l : List ℕ). laid_in t (cells t i k cs) (cond b l old)) set_there
      ∙ ap (laid_in t (cells t i k cs)) (in_place b front (sets row c.column c.numbers) row behind ∙ ap (λ (r : List ℕ). front ++ (r ++ behind)) (entered_or_not b row c.column c.numbers ok'.0))
      ∙ laid_row t i k w cs front new behind e (length-sets row c.column (map (λ n. cond b n 0) c.numbers) ∙ l) ok'.1

  -- A log turns a record's numbers behind its first k into others and leaves the rest.
  abbrev pub Turns : Table → ℕ → ℕ → List Timed → List ℕ → List ℕ → Type 0
  Turns t i k es old new = (front behind : List ℕ) → length front ≡ width t * i + k → laid_in t es (front ++ (old ++ behind)) ≡ front ++ (new ++ behind)

  pub record ByCells (t : Table) (i k w : ℕ) (es : List Timed) (cs : List Cell) (old new : List ℕ) : Type 0 where
    pub log : es ≡ cells t i k cs
    pub filled : fills cs old ≡ new
    pub fits : fit w cs old ≡ true
    pub long : length old ≡ w

  pub turned : {t : Table} {i k w : ℕ} {es : List Timed} {cs : List Cell} {old new : List ℕ} → ByCells t i k w es cs old new → Turns t i k es old new
  turned {t = t} {i = i} {k = k} {w = w} {es = es} {cs = cs} {old = old} b front behind e =
      ap (λ (l : List Timed). laid_in t l (front ++ (old ++ behind))) b.log
      ∙ laid_row t i k w cs front old behind e b.long b.fits
      ∙ ap (λ (r : List ℕ). front ++ (r ++ behind)) b.filled

  -- ---- of each, one behind the other

  module _ {X : Type 0} (t : Table) (bytes : X → List ℕ) (one : ℕ → ℕ → X → List Timed) (columns : ℕ → X → List ℕ) (turns : (i at : ℕ) (x : X) → Turns t i 0 (one i at x) (blanks (width t)) (columns at x)) (long : (at : ℕ) (x : X) → length (columns at x) ≡ width t) where
    pub all_turn : (xs : List X) (i at : ℕ) (front behind : List ℕ) → length front ≡ width t * i → laid_in t (all_timed bytes one i at xs) (front ++ (blanks (width t * length xs) ++ behind)) ≡ front ++ (flat (λ r. r) (placed bytes columns at xs) ++ behind)
    unfolding laid_in placed flat
    all_turn [] i at front behind e = let nothing : width t * 0 ≡ 0 = omega arith in ap (λ (n : ℕ). front ++ (blanks n ++ behind)) nothing
    all_turn (x ∷ xs) i at front behind e =
        let w = width t in
        let row = columns at x in
        let rest = blanks (w * length xs) in
        let at' = at + length (bytes x) in
        let after_it : length (front ++ row) ≡ w * suc i = omega (arith, length-append front row, long at x, ap (λ (m : ℕ). w * m) (sym (add-one i)), mul-add w i 1) in
        laid_both t (one i at x) (all_timed bytes one (suc i) at' xs) (front ++ (blanks (w * suc (length xs)) ++ behind))
        ∙ ap (λ (l : List ℕ). laid_in t (all_timed bytes one (suc i) at' xs) (laid_in t (one i at x) (front ++ l))) (ap (λ (l : List ℕ). l ++ behind) (blank w (length xs)) ∙ append_assoc (blanks w) rest behind)
        ∙ ap (laid_in t (all_timed bytes one (suc i) at' xs)) (turns i at x front (rest ++ behind) (e ∙ sym (add-zero (w * i))) ∙ sym (append_assoc front row (rest ++ behind)))
        ∙ all_turn xs (suc i) at' (front ++ row) behind after_it
        ∙ append_assoc front row (flat (λ r. r) (placed bytes columns at' xs) ++ behind)
        ∙ ap (λ (l : List ℕ). front ++ l) (sym (append_assoc row (flat (λ r. r) (placed bytes columns at' xs)) behind))

  -- records with room for b numbers more, a log, and those numbers
  pub data Completes (t : Table) (k b : ℕ) : ℕ → List (List ℕ) → List Timed → List (List ℕ) → Type 0 where
    no_record : {i : ℕ} → Completes t k b i [] [] []
    record_more : {i : ℕ} {row new : List ℕ} {rows news : List (List ℕ)} {fs : List Timed} (es : List Timed) → length row ≡ k → length new ≡ b → Turns t i k es (blanks b) new → Completes t k b (suc i) rows fs news → Completes t k b i (row ∷ rows) (es ++ fs) (new ∷ news)

  pub completed : {t : Table} {k b i : ℕ} {rows news : List (List ℕ)} {es : List Timed} → k + b ≡ width t → Completes t k b i rows es news → (front behind : List ℕ) → length front ≡ width t * i → laid_in t es (front ++ (flat (λ r. r ++ blanks b) rows ++ behind)) ≡ front ++ (flat (λ r. r) (beside rows news) ++ behind)
  unfolding laid_in flat beside
  completed w no_record front behind e = refl
  completed {t = t} {k = k} {b = b} w (record_more {i = i} {row = row} {new = new} {rows = rows} {news = news} {fs = fs} es l m turns c) front behind e =
      let rest = flat (λ r. r ++ blanks b) rows in
      let end = flat (λ r. r) (beside rows news) in
      let up_to : length (front ++ row) ≡ width t * i + k = omega (arith, length-append front row) in
      let after_it : length (front ++ (row ++ new)) ≡ width t * suc i = omega (arith, length-append front (row ++ new), length-append row new, ap (λ (n : ℕ). width t * n) (sym (add-one i)), mul-add (width t) i 1) in
      laid_both t es fs (front ++ (((row ++ blanks b) ++ rest) ++ behind))
      ∙ ap (λ (l : List ℕ). laid_in t fs (laid_in t es l)) (ap (λ (l : List ℕ). front ++ l) (append_assoc (row ++ blanks b) rest behind ∙ append_assoc row (blanks b) (rest ++ behind)) ∙ sym (append_assoc front row (blanks b ++ (rest ++ behind))))
      ∙ ap (laid_in t fs) (turns (front ++ row) (rest ++ behind) up_to ∙ append_assoc front row (new ++ (rest ++ behind)) ∙ ap (λ (l : List ℕ). front ++ l) (sym (append_assoc row new (rest ++ behind))) ∙ sym (append_assoc front (row ++ new) (rest ++ behind)))
      ∙ completed w c (front ++ (row ++ new)) behind after_it
      ∙ append_assoc front (row ++ new) (end ++ behind)
      ∙ ap (λ (l : List ℕ). front ++ l) (sym (append_assoc (row ++ new) end behind))

  -- what a table of zeros becomes, if so many of its first numbers become the records
  pub filled : (t : Table) (es : List Timed) (size k : ℕ) (rows : List (List ℕ)) → k ≤ size → length (flat (λ r. r) rows) ≡ k → ((behind : List ℕ) → laid_in t es (blanks k ++ behind) ≡ flat (λ r. r) rows ++ behind) → laid_in t es (blanks size) ≡ table size rows
  filled t es size k rows h e turns =
      ap (laid_in t es) (split_blanks size k h) ∙ turns (blanks (size - k)) ∙ ap (λ (n : ℕ). flat (λ r. r) rows ++ blanks (size - n)) (sym e)
