-- What follows from document 01's reading alone, in its own terms. docs/THEOREMS.md says which sentence each carries.
use Prim.Native.Nat.{ℕ, zero, suc, ◌+◌, ◌*◌, ◌^◌, ◌<◌, ◌≤◌}
use mathlib.Core.Path.{◌≡◌, refl, sym, ◌∙◌, ap, ap₂, subst}
use mathlib.Core.List.{List, [], ◌∷◌, ◌++◌, append-nil}
use mathlib.Core.Bool.{Bool, true, false, cond, not, ◌&&◌}
use mathlib.Core.Logic.{◌↔◌}
use mathlib.Core.Option.{Option, some, none}
use native.Mathlib.Nat.{zero-add, mul-zero, mul-suc, mul-le-mul_left, le_trans}
use native.Mathlib.Omega.{arith}
use lib.Dec.{ltb}
use lib.ListN.{length, get_or, drop, replicate, set, length-set}
use lib.Seq.{sets, get_or-set_other, get_or-take, get_or-drop}
use borrow.Author.Tests.{ltb-true, lt-ltb, le-ltb}
use Rattle.layout.specs.Number.{Bytes}
use Rattle.layout.specs.Layout.{Answer, finished, more, refused, Reading, reading, Entry, Table, input, output, item, run, hides}
use Rattle.layout.specs.Transaction.{Head, transaction}
use Rattle.layout.specs.Outcome.{Tables, Sizes, width, room_of, zeros, change, lay, laid, shown, outcome, reading_of, partial, finish, ended, at_once, follow, strictly, strict, Bearing, Agree, number_of, place_of, head_shown, no_head}
use Rattle.layout.specs.Contents.{Issuance, Input, flat, issuance_bytes, input_bytes, contents_bytes, Every, Flagged, InputAllowed}
use Rattle.layout.specs.Records.{head_of, issuance_columns, input_columns, placed, beside, inputs_at, witnesses_at, input_witness_records}
use Rattle.layout.specs.Writing.{records, ◌!◌}
use Rattle.layout.proofs.Reading as reading_laws
use Rattle.layout.proofs.Reading.{by_cases, chain, rest, refused_not_finished}
use Rattle.layout.proofs.Sound.{Each, Fair, Kept, Done, Rows, AtMost, rows_of, counts, rows, promised, end_of, transaction_kept}
use Rattle.layout.proofs.Whole.{whole_log, reads, found}
use Rattle.layout.specs.Fields.{InputFormed}
use Rattle.layout.proofs.Codes.{every_as}
use Rattle.layout.proofs.Forming.{formed_matches}
use Rattle.layout.proofs.Laying.{input_rows, input_rows_wide, input_rows_length, laid_whole}
use Rattle.layout.proofs.Showing.{Stands, stands_first, stands_next, stands_lies, value_width_lem, issuance_stands, input_stands, standing, records_rows}

-- ---- demand 3's second half

pub blind : (z : Sizes) (xs ys : List ℕ) → Agree z xs ys → reading_of z xs ≡ reading_of z ys
blind z xs ys a =
    reading_laws.blind (transaction (room_of z)) xs ys a.alike λ i h e.
    a.bearing i (simp (lt-ltb i (reading_of z xs).taken h, e))

pub blind_partial : (z : Sizes) (xs ys : List ℕ) → Agree z xs ys → partial z xs ≡ partial z ys
blind_partial z xs ys a = ap (outcome z) (blind z xs ys a)

pub blind_at_once : (z : Sizes) (xs ys : List ℕ) → Agree z xs ys → at_once z xs ≡ at_once z ys
blind_at_once z xs ys a = ap (λ r. outcome z (ended r)) (blind z xs ys a)

pub blind_strict : (z : Sizes) (xs ys : List ℕ) → Agree z xs ys → strict z xs ≡ strict z ys
blind_strict z xs ys a = ap₂ (λ r n. outcome z (strictly n (ended r))) (blind z xs ys a) a.alike

-- a byte that isn't bearing may be any other: the inputs agree, and so have the same reading
pub agree_hidden : (z : Sizes) (xs : List ℕ) (i v : ℕ) → (Bearing z xs i → ⊥) → Agree z xs (set xs i v)
agree_hidden z xs i v h = record {
  alike = sym (length-set xs i v);
  bearing = λ j b. sym (get_or-set_other xs i j v 0 (λ e. h (subst (λ (n : ℕ). Bearing z xs n) e b)));
}

-- ---- cutting

pub cut : (z : Sizes) (xs ys : List ℕ) → reading_of z (xs ++ ys) ≡ chain (reading_of z xs) (run (rest (transaction (room_of z)) xs) ys)
cut z xs ys = reading_laws.cut (transaction (room_of z)) xs ys

pub stable : (z : Sizes) (xs ys : List ℕ) → ((reading_of z xs).answer ≡ more → ⊥) → reading_of z (xs ++ ys) ≡ reading_of z xs
stable z xs ys e = reading_laws.stable (transaction (room_of z)) xs ys e

pub prefix_free : (z : Sizes) (xs ys : List ℕ) (h : Head) → (reading_of z xs).answer ≡ finished h → (reading_of z (xs ++ ys)).taken ≡ length (xs ++ ys) → ys ≡ []
prefix_free z xs ys h e whole = reading_laws.prefix_free (transaction (room_of z)) xs ys h e whole

pub takes_all : (z : Sizes) (xs : List ℕ) → (reading_of z xs).answer ≡ more → (reading_of z xs).taken ≡ length xs
takes_all z xs e = reading_laws.takes_all (transaction (room_of z)) xs e

pub one_byte_more : (z : Sizes) (xs : List ℕ) → (partial z xs).answer ≡ more → at_once z xs ≡ record { answer = refused 1 (length xs); taken = length xs; tables = zeros z }
one_byte_more z xs e =
    let r = reading_of z xs in
    ap (λ (a : Answer Head). outcome z (reading (finish a r.taken) r.taken r.log)) e
    ∙ ap (λ (n : ℕ). record { answer = refused 1 n; taken = n; tables = zeros z }) (takes_all z xs e)

-- ---- what every reading keeps

room_small : (z : Sizes) → (room_of z).items < 2 ^ 32
room_small z = omega arith

abbrev room_rows : Sizes → Rows
room_rows z = rows (room_of z).inputs (room_of z).outputs (room_of z).items

keeps : (z : Sizes) (xs : List ℕ) → Bytes xs → Kept (room_rows z) 0 (rows 0 0 0) 0 (reading_of z xs)
keeps z xs h = transaction_kept (room_rows z) (room_of z) (room_small z) (omega arith) xs h

-- in numbers, so that it says what the limit is
pub taken_limit : (z : Sizes) (xs : List ℕ) → Bytes xs → (reading_of z xs).taken ≤ 4000000
taken_limit z xs h = omega (arith, (keeps z xs h).limited)

-- a refusal's number is 2 to 8 (1 and 9 are finish's and the strict form's), and its place is no further than the bytes taken
pub refusal_placed : (z : Sizes) (xs : List ℕ) → Bytes xs → (n p : ℕ) → (reading_of z xs).answer ≡ refused n p → (2 ≤ n) × (n ≤ 8) × (p ≤ (reading_of z xs).taken)
refusal_placed z xs h n p e = let k = (keeps z xs h).placed n p e in omega (arith, k)

-- after a refusal every table is 0, and no head number shows
refused_shown : (a : Answer Head) (t z : Tables) (n p : ℕ) → a ≡ refused n p → shown a t z ≡ z
refused_shown a t z n p e = ap (λ (x : Answer Head). shown x t z) e

pub refused_zero_at_once : (z : Sizes) (xs : List ℕ) (n p : ℕ) → (at_once z xs).answer ≡ refused n p → ((at_once z xs).tables ≡ zeros z) × (head_shown (at_once z xs).answer ≡ no_head)
refused_zero_at_once z xs n p e = (refused_shown (at_once z xs).answer _ (zeros z) n p e, ap head_shown e)

pub refused_zero_strict : (z : Sizes) (xs : List ℕ) (n p : ℕ) → (strict z xs).answer ≡ refused n p → ((strict z xs).tables ≡ zeros z) × (head_shown (strict z xs).answer ≡ no_head)
refused_zero_strict z xs n p e = (refused_shown (strict z xs).answer _ (zeros z) n p e, ap head_shown e)

-- finished is answer 0 at place 0; more wanted has no number and place 0; a refusal has its own
pub answer_numbers_lem : (h : Head) (n p : ℕ) → (number_of (finished h) ≡ some 0) × (place_of (finished h) ≡ 0) × (number_of {A = Head} more ≡ none) × (place_of {A = Head} more ≡ 0) × (number_of {A = Head} (refused n p) ≡ some n) × (place_of {A = Head} (refused n p) ≡ p)
answer_numbers_lem h n p = (refl, refl, refl, refl, refl, refl)

-- a finished reading's head numbers are those read; otherwise none shows, that is, each is 0
pub head_numbers_lem : (h : Head) (n p : ℕ) → (head_shown (finished h) ≡ h) × (head_shown more ≡ record { version = 0; flag = 0; inputs = 0; outputs = 0; items = 0; locktime = 0; bytes = 0 }) × (head_shown (refused n p) ≡ record { version = 0; flag = 0; inputs = 0; outputs = 0; items = 0; locktime = 0; bytes = 0 })
head_numbers_lem h n p = (refl, refl, refl)

-- every entry stays in its record, and its numbers are below 2^32
pub entries_fair : (z : Sizes) (xs : List ℕ) → Bytes xs → Each Fair (reading_of z xs).log
entries_fair z xs h = (keeps z xs h).fair

each_both : {X : Type 0} {P Q R : X → Type 0} → ((x : X) → P x → Q x → R x) → (l : List X) → Each P l → Each Q l → Each R l
each_both f [] u v = tt
each_both f (x ∷ l) u v = (f x u.0 v.0, each_both f l u.1 v.1)

each_map : {X : Type 0} {P Q : X → Type 0} → ((x : X) → P x → Q x) → (l : List X) → Each P l → Each Q l
each_map f [] u = tt
each_map f (x ∷ l) u = (f x u.0, each_map f l u.1)

module _ (z : Sizes) (xs : List ℕ) (bytes : Bytes xs) (h : Head) (e : (reading_of z xs).answer ≡ finished h) where
  finished_done : Done (room_rows z) 0 (rows 0 0 0) (reading_of z xs).taken h (reading_of z xs).log
  finished_done = subst (λ n. Done (room_rows z) 0 (rows 0 0 0) n h (reading_of z xs).log) (zero-add (reading_of z xs).taken) ((keeps z xs bytes).done h e)

  pub inside : Each (λ en. en.row < rows_of en.table (counts h)) (reading_of z xs).log
  inside = each_map (λ en i. i.row) (reading_of z xs).log finished_done.inside

  pub within_bytes : Each (λ en. end_of en ≤ (reading_of z xs).taken) (reading_of z xs).log
  within_bytes = each_map (λ en i. i.ends) (reading_of z xs).log finished_done.inside

  -- its counts are at most the records that the tables hold, so every entry lies in its table
  pub counts_room : AtMost (counts h) (room_rows z)
  counts_room = finished_done.room

  pub head_bytes : h.bytes ≡ (reading_of z xs).taken
  head_bytes = finished_done.bytes

-- ---- the same of the tables

abbrev pub table_of : Table → Tables → List ℕ
table_of input t = t.inputs
table_of output t = t.outputs
table_of item t = t.items

-- what holds of each table, and of one that is changed, holds of each afterwards
change_keeps : (P : Table → List ℕ → Type 0) (u : Table) (f : List ℕ → List ℕ) (ts : Tables) → ((t : Table) → P t (table_of t ts)) → P u (f (table_of u ts)) → (t : Table) → P t (table_of t (change u f ts))
change_keeps P input f ts q p input = p
change_keeps P input f ts q p output = q output
change_keeps P input f ts q p item = q item
change_keeps P output f ts q p input = q input
change_keeps P output f ts q p output = p
change_keeps P output f ts q p item = q item
change_keeps P item f ts q p input = q input
change_keeps P item f ts q p output = q output
change_keeps P item f ts q p item = p

abbrev Stores : (Table → List ℕ → Type 0) → Entry → Type 0
Stores P e = (xs : List ℕ) → P e.table xs → P e.table (sets xs (width e.table * e.row + e.column) e.numbers)

laid_keeps : (P : Table → List ℕ → Type 0) (log : List Entry) → Each (Stores P) log → (ts : Tables) → ((t : Table) → P t (table_of t ts)) → (t : Table) → P t (table_of t (laid log ts))
unfolding laid
laid_keeps P [] s ts q = q
laid_keeps P (e ∷ es) s ts q = laid_keeps P es s.1 (lay e ts) (change_keeps P e.table _ ts q (s.0 (table_of e.table ts) (q e.table)))

get_d_sets_behind : (vs xs : List ℕ) (i j : ℕ) → i + length vs ≤ j → get_or (sets xs i vs) j 0 ≡ get_or xs j 0
get_d_sets_behind [] xs i j h = refl
get_d_sets_behind (v ∷ vs) xs i j h = get_d_sets_behind vs (set xs i v) (suc i) j (omega arith) ∙ get_or-set_other xs i j v 0 (λ e. omega arith)

zeros_behind : (n j : ℕ) → ◌≡◌ {A = ℕ} (get_or (replicate n 0) j 0) 0
zeros_behind zero j = refl
zeros_behind (suc n) zero = refl
zeros_behind (suc n) (suc j) = zeros_behind n j

zeros_at : (z : Sizes) (t : Table) (j : ℕ) → get_or (table_of t (zeros z)) j 0 ≡ 0
zeros_at z input j = zeros_behind z.inputs j
zeros_at z output j = zeros_behind z.outputs j
zeros_at z item j = zeros_behind z.items j

shown_keeps : (P : Tables → Type 0) (a : Answer Head) (t z : Tables) → P t → P z → P (shown a t z)
shown_keeps P (finished h) t z p q = p
shown_keeps P more t z p q = p
shown_keeps P (refused n p') t z p q = q

-- an entry ends with its record, so it touches nothing behind the count
row_ends : (w i c n m : ℕ) → c + n ≤ w → i < m → w * i + c + n ≤ w * m
row_ends w i c n m fits less = omega (arith, mul-suc w i, mul-le-mul_left w less)

-- 0 stands behind the last record of a finished reading, surplus numbers included
pub zero_behind : (z : Sizes) (xs : List ℕ) → Bytes xs → (h : Head) → (reading_of z xs).answer ≡ finished h → (t : Table) (j : ℕ) → width t * rows_of t (counts h) ≤ j → get_or (table_of t (partial z xs).tables) j 0 ≡ 0
zero_behind z xs bytes h e =
    shown_keeps (λ ts. (t : Table) → Behind t (table_of t ts)) (reading_of z xs).answer _ (zeros z)
    (laid_keeps Behind (reading_of z xs).log stores (zeros z) (λ t j _. zeros_at z t j))
    (λ t j _. zeros_at z t j)
  where
    Behind : Table → List ℕ → Type 0
    Behind t ns = (j : ℕ) → width t * rows_of t (counts h) ≤ j → get_or ns j 0 ≡ 0

    stores : Each (Stores Behind) (reading_of z xs).log
    stores =
        each_both
        (λ en fair row ns q j less. get_d_sets_behind en.numbers ns (width en.table * en.row + en.column) j (le_trans (row_ends (width en.table) en.row en.column (length en.numbers) (rows_of en.table (counts h)) fair.fits row) less) ∙ q j less)
        (reading_of z xs).log (entries_fair z xs bytes) (inside z xs bytes h e)

-- the same of reading at once and of the strict form: where they finish, so did the reading
pub finish_finished : (a : Answer Head) (n : ℕ) (h : Head) → finish a n ≡ finished h → a ≡ finished h
finish_finished (finished g) n h e = e
finish_finished more n h e = absurd (refused_not_finished e)
finish_finished (refused m p) n h e = e

pub follow_finished : (a : Answer Head) (n there : ℕ) (h : Head) → follow a n there ≡ finished h → a ≡ finished h
follow_finished (finished g) n there h e = by_cases (ltb n there) (λ t. absurd (refused_not_finished (rw t at e))) (λ t. rw t at e)
follow_finished more n there h e = e
follow_finished (refused m p) n there h e = e

pub zero_behind_at_once : (z : Sizes) (xs : List ℕ) → Bytes xs → (h : Head) → (at_once z xs).answer ≡ finished h → (t : Table) (j : ℕ) → width t * rows_of t (counts h) ≤ j → get_or (table_of t (at_once z xs).tables) j 0 ≡ 0
zero_behind_at_once z xs bytes h e t j less =
    let q = finish_finished (reading_of z xs).answer (reading_of z xs).taken h e in
    ap (λ (a : Answer Head). get_or (table_of t (shown a (laid (reading_of z xs).log (zeros z)) (zeros z))) j 0) (e ∙ sym q) ∙ zero_behind z xs bytes h q t j less

pub zero_behind_strict : (z : Sizes) (xs : List ℕ) → Bytes xs → (h : Head) → (strict z xs).answer ≡ finished h → (t : Table) (j : ℕ) → width t * rows_of t (counts h) ≤ j → get_or (table_of t (strict z xs).tables) j 0 ≡ 0
zero_behind_strict z xs bytes h e t j less =
    let q = follow_finished (at_once z xs).answer (reading_of z xs).taken (length xs) h e in
    ap (λ (a : Answer Head). get_or (table_of t (shown a (laid (reading_of z xs).log (zeros z)) (zeros z))) j 0) (e ∙ sym q) ∙ zero_behind_at_once z xs bytes h q t j less

abbrev Small : List ℕ → Type 0
Small ns = (j : ℕ) → get_or ns j 0 < 2 ^ 32

set_small : (ns : List ℕ) (i v : ℕ) → v < 2 ^ 32 → Small ns → Small (set ns i v)
set_small [] i v h s j = s j
set_small (n ∷ ns) zero v h s zero = h
set_small (n ∷ ns) zero v h s (suc j) = s (suc j)
set_small (n ∷ ns) (suc i) v h s zero = s zero
set_small (n ∷ ns) (suc i) v h s (suc j) = set_small ns i v h (λ k. s (suc k)) j

sets_small : (vs ns : List ℕ) (i : ℕ) → Each (λ v. v < 2 ^ 32) vs → Small ns → Small (sets ns i vs)
sets_small [] ns i h s = s
sets_small (v ∷ vs) ns i h s = sets_small vs (set ns i v) (suc i) h.1 (set_small ns i v h.0 s)

-- every number of every table is below 2^32, whatever was read
pub numbers_small : (z : Sizes) (xs : List ℕ) → Bytes xs → (t : Table) (j : ℕ) → get_or (table_of t (partial z xs).tables) j 0 < 2 ^ 32
numbers_small z xs bytes =
    shown_keeps (λ ts. (t : Table) → Small (table_of t ts)) (reading_of z xs).answer _ (zeros z)
    (laid_keeps (λ _. Small) (reading_of z xs).log stores (zeros z) zero_small)
    zero_small
  where
    zero_small : (t : Table) → Small (table_of t (zeros z))
    zero_small t j = omega (arith, zeros_at z t j)

    stores : Each (Stores (λ _. Small)) (reading_of z xs).log
    stores = each_map (λ en fair ns. sets_small en.numbers ns _ fair.small) (reading_of z xs).log (entries_fair z xs bytes)

-- ---- an issuance's amount and keys

-- an input record with the issuance flag: from its position on, blinding nonce and entropy, amount and keys lie within so many bytes
abbrev pub Issued : ℕ → List ℕ → Type 0
Issued n r = 2 ≤ get_or r 2 0 → get_or r 6 0 + 64 + promised (get_or r 7 0) + promised (get_or r 10 0) ≤ n

module _ (source : List ℕ) where
  issued : (at flags : ℕ) (o : Option Issuance) → Flagged flags o → Stands source at (issuance_bytes o) → (ws : List ℕ) → Issued (length source) (0 ∷ 0 ∷ flags ∷ 0 ∷ 0 ∷ 0 ∷ (issuance_columns at o ++ ws))
  issued at flags none g s ws = λ h. absurd (omega arith)
  issued at flags (some x) g s ws =
      let t = issuance_stands source at x g.2 s in
      λ h. omega (arith, stands_lies _ _ t.keys, value_width_lem x.amount g.2.amount, value_width_lem x.keys g.2.keys)

  rows_issued : (xs : List Input) (at : ℕ) (ws : List (List ℕ)) → Every InputAllowed xs → Stands source at (flat input_bytes xs) → Every (Issued (length source)) (beside (placed input_bytes input_columns at xs) ws)
  unfolding flat placed beside
  rows_issued [] at ws g s = tt
  rows_issued (x ∷ xs) at [] g s = tt
  rows_issued (x ∷ xs) at (w ∷ ws) g s =
      let t = input_stands source at x g.0 (stands_first at (input_bytes x) (flat input_bytes xs) s) in
      (issued _ x.flags x.issuance g.0.issuance t.issuance w, rows_issued xs (at + length (input_bytes x)) ws g.1 (stands_next at (input_bytes x) (flat input_bytes xs) s))

itself_stands : (source : List ℕ) → Stands source 0 source
itself_stands source = record { front = []; behind = []; long = refl; same = sym (append-nil source) }

finished_same : {g h : Head} → ◌≡◌ {A = Answer Head} (finished g) (finished h) → g ≡ h
finished_same e = cc

-- finished: what `within_bytes` leaves out, since an issuance's prefixes are entered without their positions
pub issuance_within : (z : Sizes) (xs : List ℕ) → Bytes xs → (h : Head) → (reading_of z xs).answer ≡ finished h → Every (Issued (reading_of z xs).taken) (records (width input) h.inputs (partial z xs).tables.inputs)
issuance_within z xs bytes h e =
    let u = found (room_of z) xs h bytes e in
    let x = u.contents in
    let g = u.formed in
    let m = formed_matches (length x.inputs) (length x.outputs) x.witnesses g.witnesses in
    let r = ap (reading_of z) u.same ∙ reads (room_of z) x g u.within u.rest ∙ ap (λ (t : Bool). reading (cond t (refused 8 4) (finished (head_of x))) (length (contents_bytes x)) (whole_log (room_of z) 0 x)) u.not_empty in
    let same : head_of x ≡ h = finished_same (sym (ap (λ (y : Reading Head). y.answer) r) ∙ e) in
    let rows : records (width input) (length x.inputs) (laid (whole_log (room_of z) 0 x) (zeros z)).inputs ≡ input_rows x =
    ap (λ (t : Tables). records (width input) (length x.inputs) t.inputs) (laid_whole x m z g.fits)
    ∙ records_rows (width input) (input_rows x) (length x.inputs) _ (input_rows_wide x m) (input_rows_length x m) in
    let all = rows_issued (contents_bytes x) x.inputs (inputs_at x) (input_witness_records (witnesses_at x) (length x.inputs) x.witnesses) (every_as InputFormed InputAllowed (λ y f. f.allowed) x.inputs g.inputs) (standing (contents_bytes x) x (itself_stands (contents_bytes x))).inputs in
    subst (λ (k : Head). Every (Issued (reading_of z xs).taken) (records (width input) k.inputs (partial z xs).tables.inputs)) same
    (subst (λ (y : Reading Head). Every (Issued y.taken) (records (width input) (length x.inputs) (outcome z y).tables.inputs)) (sym r)
    (subst (λ (rs : List (List ℕ)). Every (Issued (length (contents_bytes x))) rs) (sym rows) all))

-- ---- room, at once, strictly

-- A table holds as many whole records as fit; the item table at most 4,294,967,295.
pub room_is : (z : Sizes) (n : ℕ) → ((n ≤ (room_of z).inputs) ↔ (20 * n ≤ z.inputs)) × ((n ≤ (room_of z).outputs) ↔ (14 * n ≤ z.outputs)) × ((n ≤ (room_of z).items) ↔ ((2 * n ≤ z.items) × (n ≤ 4294967295)))
room_is z n = ((λ h. omega arith, λ h. omega arith), (λ h. omega arith, λ h. omega arith), (λ h. (omega arith, omega arith), λ h. omega (arith, h.0, h.1)))

-- Reading at once changes nothing where no more is wanted; its strict form adds 9, at the first byte behind, and nothing else.
finish_stays : (a : Answer Head) (n : ℕ) → (a ≡ more → ⊥) → finish a n ≡ a
finish_stays (finished h) n f = refl
finish_stays more n f = absurd (f refl)
finish_stays (refused k p) n f = refl

pub at_once_other : (z : Sizes) (xs : List ℕ) → ((partial z xs).answer ≡ more → ⊥) → at_once z xs ≡ partial z xs
at_once_other z xs f = ap (λ (b : Answer Head). outcome z (reading b (reading_of z xs).taken (reading_of z xs).log)) (finish_stays (reading_of z xs).answer (reading_of z xs).taken f)

pub strict_nine : (z : Sizes) (xs : List ℕ) (h : Head) → (reading_of z xs).answer ≡ finished h → (reading_of z xs).taken < length xs → strict z xs ≡ record { answer = refused 9 (reading_of z xs).taken; taken = (reading_of z xs).taken; tables = zeros z }
strict_nine z xs h e less =
    let n = (reading_of z xs).taken in
    let a : follow (finish (reading_of z xs).answer n) n (length xs) ≡ refused 9 n = ap (λ (b : Answer Head). follow (finish b n) n (length xs)) e ∙ ap (λ (t : Bool). cond t (refused 9 n) (finished h)) (lt-ltb n (length xs) less) in
    ap (λ (b : Answer Head). outcome z (reading b n (reading_of z xs).log)) a

follow_stays : (a : Answer Head) (n m : ℕ) → ((h : Head) → a ≡ finished h → m ≤ n) → follow a n m ≡ a
follow_stays (finished h) n m f = ap (λ (t : Bool). cond t (refused 9 n) (finished h)) (le-ltb n m (f h refl))
follow_stays more n m f = refl
follow_stays (refused k p) n m f = refl

pub strict_other : (z : Sizes) (xs : List ℕ) → ((h : Head) → (at_once z xs).answer ≡ finished h → length xs ≤ (at_once z xs).taken) → strict z xs ≡ at_once z xs
strict_other z xs f = ap (λ (b : Answer Head). outcome z (reading b (reading_of z xs).taken (reading_of z xs).log)) (follow_stays (at_once z xs).answer (reading_of z xs).taken (length xs) f)

-- ---- words that other statements use, said by themselves

taken_shown : (a b : Bool) → (a && not b) ≡ true → (a ≡ true) × (b ≡ false)
taken_shown true true e = absurd (let z : ◌≡◌ {A = ℕ} 0 1 = ap (λ (t : Bool). cond t 1 0) e in omega arith)
taken_shown true false e = (refl, refl)
taken_shown false b e = absurd (let z : ◌≡◌ {A = ℕ} 0 1 = ap (λ (t : Bool). cond t 1 0) e in omega arith)

-- Bearing are all bytes that are taken, except those that are never looked at: of any bytes, finished or not.
pub bearing_is : (z : Sizes) (xs : List ℕ) (i : ℕ) → Bearing z xs i ↔ ((i < (partial z xs).taken) × (hides (transaction (room_of z)) xs i ≡ false))
bearing_is z xs i = (
  λ b. let p = taken_shown (ltb i (reading_of z xs).taken) (hides (transaction (room_of z)) xs i) b in (ltb-true i (reading_of z xs).taken p.0, p.1),
  λ p. ap₂ (λ (s t : Bool). s && not t) (lt-ltb i (reading_of z xs).taken p.0) p.1,
)

-- A record's number is the number that stands there, whatever the others are.
pub number_is : (r : List ℕ) (c : ℕ) → r ! c ≡ get_or r c 0
number_is r c = refl

-- Number c of record i stands at i times the width, and c: record by record, with nothing between.
pub record_number : (w n : ℕ) (xs : List ℕ) (i c : ℕ) → i < n → c < w → get_or (records w n xs) i [] ! c ≡ get_or xs (w * i + c) 0
unfolding records
record_number w zero xs i c less wide = absurd (omega arith)
record_number w (suc n) xs zero c less wide = get_or-take w xs c 0 wide ∙ (let e : c ≡ w * 0 + c = omega (arith, mul-zero w) in ap (λ (m : ℕ). get_or xs m 0) e)
record_number w (suc n) xs (suc i) c less wide =
    record_number w n (drop w xs) i c (omega arith) wide
    ∙ get_or-drop w xs (w * i + c) 0
    ∙ (let e : w + (w * i + c) ≡ w * suc i + c = omega (arith, mul-suc w i) in ap (λ (m : ℕ). get_or xs m 0) e)
