-- What the caller sees of every list of bytes, from what transactions hold.
--     first_enough   what follows 4,000,000 bytes changes nothing
--     determined     an outcome is seen exactly if specs/Beginnings tells it
use Prim.Native.Nat.{ℕ, suc, ◌+◌, ◌-◌, ◌^◌, ◌<◌, ◌≤◌}
use mathlib.Core.Path.{◌≡◌, refl, sym, ◌∙◌, ap, ap₂, subst}
use mathlib.Core.Bool.{Bool, true, false, cond}
use mathlib.Core.List.{List, [], ◌∷◌, ◌++◌, append-nil}
use mathlib.Core.Logic.{◌↔◌}
use native.Mathlib.Omega.{arith}
use lib.Dec.{leb}
use lib.ListN.{length, take, drop, get_or, length-append, length-take, length-drop, take-append-drop}
use lib.Seq.{take_at, take_all, take-append-le, length-take-le}
use borrow.Author.Tests.{leb-true, leb-false, le-leb, lt-leb}
use Rattle.layout.specs.Number.{little, bytes_of, Bytes}
use Rattle.layout.specs.Layout.{Layout, Answer, more, refused, Reading, reading, run}
use Rattle.layout.specs.Transaction.{Head, limit, announced, compact_at, transaction}
use Rattle.layout.specs.Outcome.{Sizes, Outcome, room_of, zeros, laid, shown, outcome, reading_of, partial}
use Rattle.layout.specs.Contents.{Contents, contents_bytes, compact_bytes}
use Rattle.layout.specs.Fields.{Formed}
use Rattle.layout.specs.Moments.{tables_by}
use Rattle.layout.specs.Sites.{What, Site, sites_of, compact, Fault, not_shortest, too_many, not_listed, null_issuance}
use Rattle.layout.specs.Beginnings.{ending, end_of, Starts, fault_by, FaultIn, seven_of, Plain, Known, Told}
use Rattle.layout.specs.Beginnings as told
use Rattle.layout.proofs.Number.{length_bytes, bytes_take}
use Rattle.layout.proofs.Compact.{forms}
use Rattle.layout.proofs.Reading.{by_cases, taken_there, wants_or_ends, by_bytes}
use Rattle.layout.proofs.Theorems.{stable, takes_all, taken_limit}
use Rattle.layout.proofs.Codes.{after, Comes}
use Rattle.layout.proofs.Whole.{reached}
use Rattle.layout.proofs.Given.{compact_wants, further_waits}
use Rattle.layout.proofs.Limits.{ending_ends}
use Rattle.layout.proofs.Moments.{read_exactly}
use Rattle.layout.proofs.Sited.{compact_stands, Refuses, every_among, faults_given}
use Rattle.layout.proofs.Covers.{Covered, whole, inside, faulty, covered}
use Rattle.layout.proofs.FlagLast.{unflagged, flag_seven}

-- what stands behind the same first bytes
split : (front tail xs rest : List ℕ) → length front ≤ length xs → xs ++ rest ≡ front ++ tail → (take (length front) xs ≡ front) × (drop (length front) xs ++ rest ≡ tail)
split [] tail xs rest h e = (refl, e)
split (a ∷ front) tail [] rest h e = absurd (omega arith)
split (a ∷ front) tail (b ∷ xs) rest h e =
    let r = split front tail xs rest (omega arith) (ap (drop 1) e) in
    (ap₂ (λ (n : ℕ) (l : List ℕ). n ∷ l) (ap (λ (l : List ℕ). get_or l 0 0) e) r.0, r.1)

-- ---- a fault of which not all bytes are there

-- its first byte announces further ones
record Announces (fault : List ℕ) : Type 0 where
  pub first : ℕ
  pub further : List ℕ
  pub byte : first < 256
  pub above : 252 < first
  pub long : length further ≡ announced first
  pub same : fault ≡ first ∷ further

count_announces_lem : (n : ℕ) → n < 2 ^ 64 → 1 < length (compact_bytes n) → Announces (compact_bytes n)
count_announces_lem n small =
    forms (λ (l : List ℕ). 1 < length l → Announces l) n small
    (λ h less. absurd (omega arith))
    (λ f above byte at_least_lem fits less. record { first = f; further = bytes_of little (announced f) n; byte = byte; above = above; long = length_bytes little (announced f) n; same = refl })

-- only a count's or length's fault can be there in part: the others are of one byte, or told whole
in_part : (what : What) (number : ℕ) (fault : List ℕ) → 1 < length fault → (number ≡ 6 → ⊥) → Fault what number fault → (compact what ≡ true) × Announces fault
in_part what number fault less six (not_shortest c e f) = (c, record { first = f.first; further = bytes_of little (announced f.first) f.n; byte = f.byte; above = f.above; long = length_bytes little (announced f.first) f.n; same = f.same })
in_part what number fault less six (too_many left c e f) = (
  ap compact c,
  subst Announces (sym f.same) (count_announces_lem f.n f.small (subst (λ (l : List ℕ). 1 < length l) f.same less)),
)
in_part what number fault less six (not_listed e f) = absurd (omega (arith, ap (λ (l : List ℕ). length l) f.same))
in_part what number fault less six (null_issuance c e f) = absurd (six e)

-- ---- what is told of a fault, where it is known whether it ends within the limit and whether it is there

module _ (k : ℕ) (z : Sizes) (x : Contents) (at number : ℕ) (fault : List ℕ) where
  abbrev fault_told : Bool → Bool → Outcome
  fault_told within there =
      let v : Answer Head × ℕ = cond within (refused number at, at + length fault) (refused 2 at, at + 1) in
      cond there (record { answer = v.0; taken = v.1; tables = zeros z }) (record { answer = more; taken = k; tables = tables_by at z x })

  fault_is : (within there : Bool) → leb (at + length fault) limit ≡ within → leb (cond within (at + length fault) (at + 1)) k ≡ there → fault_by k z x at number fault ≡ fault_told within there
  fault_is true there e f = rw (e, f) refl
  fault_is false there e f = rw (e, f) refl

-- ---- behind the first bytes of a transaction, up to a site

module _ (z : Sizes) (x : Contents) (g : Formed (room_of z) x) (s : Site) (w : Comes (transaction (room_of z)) (contents_bytes x) 0 s) (front : List ℕ) (at_front : take s.at (contents_bytes x) ≡ front) (bytes : Bytes front) (room : s.at + 1 ≤ limit) where
  long_front : length front ≡ s.at
  long_front = ap (λ (l : List ℕ). length l) (sym at_front) ∙ length-take-le s.at (contents_bytes x) (omega (arith, w.upto))

  begins : Starts z front x
  begins = record { formed = g; rest = drop s.at (contents_bytes x); behind = []; same = ap (λ (l : List ℕ). l ++ drop s.at (contents_bytes x)) (sym at_front) ∙ take-append-drop s.at (contents_bytes x) ∙ sym (append-nil (contents_bytes x)) }

  goes : (ys : List ℕ) → reading_of z (front ++ ys) ≡ after s.at w.entered (run w.next ys)
  goes ys =
      let all : s.at ≡ s.at - 0 = omega arith in
      ap (λ (l : List ℕ). reading_of z (l ++ ys)) (sym at_front)
      ∙ ap (λ (n : ℕ). reading_of z (take n (contents_bytes x) ++ ys)) all
      ∙ w.goes (omega arith) ys
      ∙ ap (λ (n : ℕ). after n w.entered (run w.next ys)) (sym all)

  -- where nothing is there of a count or length, the tables are the transaction's so far
  tables_there : (k : ℕ → ℕ → Layout Head) → w.next ≡ compact_at s.at k → laid (w.entered ++ []) (zeros z) ≡ tables_by s.at z x
  tables_there k e =
      let r : reading_of z front ≡ reading more (s.at + 0) (w.entered ++ []) = ap (reading_of z) (sym (append-nil front)) ∙ goes [] ∙ ap (λ (l : Layout Head). after s.at w.entered (run l [])) e ∙ ap (after s.at w.entered) (compact_wants s.at k room) in
      let o = read_exactly z front x begins bytes in
      let wants : (partial z front).answer ≡ more = ap (λ (q : Reading Head). q.answer) r in
      let shows : (partial z front).tables ≡ laid (w.entered ++ []) (zeros z) = ap (λ (q : Reading Head). (outcome z q).tables) r in
      by_cases (leb (ending x).1 (length front))
      (λ t. absurd (ending_ends x (sym (ap (λ (p : Outcome). p.answer) (o ∙ ap (λ (b : Bool). cond b (end_of z x) (record { answer = more; taken = length front; tables = tables_by (length front) z x })) t)) ∙ wants)))
      (λ t. sym shows ∙ ap (λ (p : Outcome). p.tables) (o ∙ ap (λ (b : Bool). cond b (end_of z x) (record { answer = more; taken = length front; tables = tables_by (length front) z x })) t) ∙ ap (λ (n : ℕ). tables_by n z x) long_front)

  -- the first bytes of a fault: more is wanted, or 2 is given with the first one
  waits : (number : ℕ) (fault ys rest behind : List ℕ) → compact s.what ≡ true → Announces fault → 0 < length ys → length ys < length fault → ys ++ rest ≡ fault ++ behind → partial z (front ++ ys) ≡ fault_by (length (front ++ ys)) z x s.at number fault
  waits number fault [] rest behind c a some few e = absurd (omega arith)
  waits number fault (y ∷ ys) rest behind c a some few e =
      let k = compact_stands s.what s.at w.next c w.stands in
      let n = announced a.first in
      let long_fault : length fault ≡ 1 + n = ap (λ (l : List ℕ). length l) a.same ∙ ap suc a.long ∙ omega arith in
      let first : y ≡ a.first = ap (λ (l : List ℕ). get_or l 0 0) (e ∙ ap (λ (l : List ℕ). l ++ behind) a.same) in
      let byte : y < 256 = subst (λ (m : ℕ). m < 256) (sym first) a.byte in
      let above : 252 < y = subst (λ (m : ℕ). 252 < m) (sym first) a.above in
      let same_n : announced y ≡ n = ap announced first in
      let at = s.at in
      let long_xs : length (front ++ (y ∷ ys)) ≡ at + suc (length ys) = length-append front (y ∷ ys) ∙ ap (λ (m : ℕ). m + suc (length ys)) long_front in
      let runs = ap (λ (l : Layout Head). run l (y ∷ ys)) k.1 ∙ further_waits at y k.0 ys byte above room (omega arith) in
      let ends : at + 1 + announced y ≡ at + length fault = omega arith in
      let xs = front ++ (y ∷ ys) in
      let seen : (b : Bool) → leb (at + length fault) limit ≡ b → reading_of z xs ≡ after at w.entered (cond b (reading more (1 + length ys) []) (reading (refused 2 at) 1 [])) =
      λ b t. goes (y ∷ ys) ∙ ap (after at w.entered) (runs ∙ ap (λ (m : ℕ). cond (leb m limit) (reading more (1 + length ys) []) (reading (refused 2 at) 1 [])) ends ∙ ap (λ (c : Bool). cond c (reading more (1 + length ys) []) (reading (refused 2 at) 1 [])) t) in
      by_cases (leb (at + length fault) limit)
      (λ t.
      let taken : at + (1 + length ys) ≡ length xs = omega arith in
      ap (outcome z) (seen true t)
      ∙ (λ j. record { answer = more; taken = taken j; tables = tables_there k.0 k.1 j })
      ∙ sym (fault_is (length xs) z x at number fault true false t (lt-leb (at + length fault) (length xs) (omega arith))))
      (λ t. ap (outcome z) (seen false t) ∙ sym (fault_is (length xs) z x at number fault false true t (le-leb (at + 1) (length xs) (omega arith))))

  -- all bytes of a fault
  given : (number : ℕ) (fault zs : List ℕ) → Fault s.what number fault → Refuses z front fault number s.at → s.at + length fault ≤ limit → partial z (front ++ (fault ++ zs)) ≡ fault_by (length (front ++ (fault ++ zs))) z x s.at number fault
  given number fault zs f told_so within =
      let at = s.at in
      let xs = front ++ (fault ++ zs) in
      let t = told_so zs in
      let answer : (partial z xs).answer ≡ refused number at = ap (λ (v : Answer Head × ℕ). v.0) t in
      let taken : (partial z xs).taken ≡ at + length fault = ap (λ (v : Answer Head × ℕ). v.1) t ∙ ap (λ (n : ℕ). n + length fault) long_front in
      let cleared : (partial z xs).tables ≡ zeros z = ap (λ (a : Answer Head). shown a (laid (reading_of z xs).log (zeros z)) (zeros z)) answer in
      let there : leb (at + length fault) (length xs) ≡ true = le-leb (at + length fault) (length xs) (omega (arith, length-append front (fault ++ zs), length-append fault zs, long_front)) in
      (λ j. record { answer = answer j; taken = taken j; tables = cleared j }) ∙ sym (fault_is (length xs) z x at number fault true true (le-leb (at + length fault) limit within) there)

-- all of it: the first bytes of a transaction, up to one of its sites, and there a fault or the first bytes of one
fault_exactly : (z : Sizes) (xs : List ℕ) → Bytes xs → length xs ≤ limit → (x : Contents) (f : FaultIn z xs x) → partial z xs ≡ fault_by (length xs) z x f.there.at f.number f.fault
fault_exactly z xs bytes short x f =
    let s = f.there in
    let near = f.near in
    let b = f.first in
    let g = b.formed in
    let number = f.number in
    let fault = f.fault in
    let front = take s.at xs in
    let ys = drop s.at xs in
    let long_front = length-take-le s.at xs (omega arith) in
    let long_ys : length ys ≡ length xs - s.at = length-drop s.at xs in
    let w = every_among (Comes (transaction (room_of z)) (contents_bytes x) 0) s (sites_of (room_of z) 0 x) (reached (room_of z) x g) f.among in
    let front_x : take s.at (contents_bytes x) ≡ front = sym (take-append-le s.at (contents_bytes x) b.behind (omega (arith, w.upto))) ∙ ap (take s.at) (sym b.same) ∙ take_at front b.rest s.at long_front in
    let front_bytes = bytes_take s.at xs bytes in
    let room : s.at + 1 ≤ limit = omega arith in
    let seen : partial z (front ++ ys) ≡ fault_by (length (front ++ ys)) z x s.at number fault → partial z xs ≡ fault_by (length xs) z x s.at number fault =
    subst (λ (l : List ℕ). partial z l ≡ fault_by (length l) z x s.at number fault) (take-append-drop s.at xs) in
    by_cases (leb (length fault) (length ys))
    (λ t.
    let there = leb-true (length fault) (length ys) t in
    let all = split fault f.behind ys f.rest there f.same in
    let zs = drop (length fault) ys in
    let whole_ys : fault ++ zs ≡ ys = ap (λ (l : List ℕ). l ++ zs) (sym all.0) ∙ take-append-drop (length fault) ys in
    let within : s.at + length fault ≤ limit = omega arith in
    seen (subst (λ (l : List ℕ). partial z (front ++ l) ≡ fault_by (length (front ++ l)) z x s.at number fault) whole_ys
    (given z x g s w front front_x front_bytes room number fault zs f.wrong
    (subst (λ (l : List ℕ). Refuses z l fault number s.at) front_x (faults_given z x g s f.among number fault f.wrong within)) within)))
    (λ t.
    let fewer = leb-false (length fault) (length ys) t in
    let six : number ≡ 6 → ⊥ = λ e. omega (arith, ap (λ (l : List ℕ). length l) f.same, length-append ys f.rest, length-append fault f.behind, ap (λ (l : List ℕ). length l) (f.whole e)) in
    let part = in_part s.what number fault (omega arith) six f.wrong in
    seen (waits z x g s w front front_x front_bytes room number fault ys f.rest f.behind part.0 part.1 (omega arith) fewer f.same))

-- ---- every list of bytes

-- what is told of them is what is seen
told_seen : (z : Sizes) (xs : List ℕ) (o : Outcome) → Bytes xs → length xs ≤ limit → Plain z xs o → o ≡ partial z xs
told_seen z xs o bytes short (told.starts x b e) = e ∙ sym (read_exactly z xs x b bytes)
told_seen z xs o bytes short (told.faulty x f e) = e ∙ sym (fault_exactly z xs bytes short x f)

-- and something is told of all
plain_told : (z : Sizes) (xs : List ℕ) → Bytes xs → length xs ≤ limit → Covered (Formed (room_of z)) contents_bytes (sites_of (room_of z)) 0 xs → Plain z xs (partial z xs)
plain_told z xs bytes short (whole x g rest e) = let b : Starts z xs x = record { formed = g; rest = []; behind = rest; same = append-nil xs ∙ e } in told.starts x b (read_exactly z xs x b bytes)
plain_told z xs bytes short (inside x g rest e) = let b : Starts z xs x = record { formed = g; rest = rest; behind = []; same = e ∙ sym (append-nil (contents_bytes x)) } in told.starts x b (read_exactly z xs x b bytes)
plain_told z xs bytes short (faulty x g f) =
    let at = f.there.at in
    let near = f.reached in
    let at_front : at ≡ length f.front = omega (arith, f.place) in
    let cut = split f.front (f.fault ++ f.behind) xs f.rest (omega arith) f.same in
    let first_x : take at xs ≡ f.front = ap (λ (n : ℕ). take n xs) at_front ∙ cut.0 in
    let b : Starts z (take at xs) x = record { formed = g; rest = f.back; behind = []; same = ap (λ (l : List ℕ). l ++ f.back) first_x ∙ sym f.parted ∙ sym (append-nil (contents_bytes x)) } in
    let same : drop at xs ++ f.rest ≡ f.fault ++ f.behind = ap (λ (n : ℕ). drop n xs ++ f.rest) at_front ∙ cut.1 in
    let i : FaultIn z xs x = record { there = f.there; first = b; among = f.among; near = omega arith; number = f.number; fault = f.fault; rest = f.rest; behind = f.behind; wrong = f.wrong; same = same; whole = f.ended } in
    told.faulty x i (fault_exactly z xs bytes short x i)

known_seen : (z : Sizes) (xs : List ℕ) (o : Outcome) → Bytes xs → length xs ≤ limit → Known z xs o → o ≡ partial z xs
known_seen z xs o bytes short (told.plain k) = told_seen z xs o bytes short k
known_seen z xs o bytes short (told.flag_above a b c d flag ys e above p k q) =
    let bytes' = unflagged a b c d flag ys (subst Bytes e bytes) in
    q ∙ ap (seven_of z) (told_seen z (a ∷ b ∷ c ∷ d ∷ 0 ∷ ys) p bytes' (omega (arith, ap (λ (l : List ℕ). length l) e)) k) ∙ sym (flag_seven z a b c d flag ys above) ∙ ap (partial z) (sym e)

-- the flag is 0 or 1, or not there yet
unflagged_known : (z : Sizes) (xs : List ℕ) → Bytes xs → length xs ≤ limit → (5 ≤ length xs → get_or xs 4 0 ≤ 1) → Known z xs (partial z xs)
unflagged_known z xs bytes short flag = told.plain (plain_told z xs bytes short (covered (room_of z) xs bytes flag))

seen_known : (z : Sizes) (xs : List ℕ) → Bytes xs → length xs ≤ limit → Known z xs (partial z xs)
seen_known z (a ∷ b ∷ c ∷ d ∷ flag ∷ ys) bytes short =
    by_cases (leb flag 1)
    (λ t. unflagged_known z _ bytes short (λ h. leb-true flag 1 t))
    (λ t.
    let above = leb-false flag 1 t in
    let bytes' = unflagged a b c d flag ys bytes in
    told.flag_above a b c d flag ys refl above (partial z (a ∷ b ∷ c ∷ d ∷ 0 ∷ ys)) (plain_told z _ bytes' short (covered (room_of z) _ bytes' (λ h. omega arith))) (flag_seven z a b c d flag ys above))
seen_known z [] bytes short = unflagged_known z _ bytes short (λ h. absurd (omega arith))
seen_known z (a ∷ []) bytes short = unflagged_known z _ bytes short (λ h. absurd (omega arith))
seen_known z (a ∷ b ∷ []) bytes short = unflagged_known z _ bytes short (λ h. absurd (omega arith))
seen_known z (a ∷ b ∷ c ∷ []) bytes short = unflagged_known z _ bytes short (λ h. absurd (omega arith))
seen_known z (a ∷ b ∷ c ∷ d ∷ []) bytes short = unflagged_known z _ bytes short (λ h. absurd (omega arith))

-- No reading takes more: what ends by then has ended, and what would go on is refused.
pub first_enough : (z : Sizes) (xs : List ℕ) → Bytes xs → partial z xs ≡ partial z (take 4000000 xs)
first_enough z xs bytes =
    let n : ℕ = 4000000 in
    let back = take-append-drop n xs in
    let few = taken_limit z xs bytes in
    wants_or_ends (reading_of z xs).answer
    (λ wants. ap (partial z) (sym (take_all n xs (omega (arith, takes_all z xs wants, few)))))
    (λ never.
    let t = by_bytes (transaction (room_of z)) (take n xs) (drop n xs) (subst (λ (l : List ℕ). (reading_of z l).answer ≡ more → ⊥) (sym back) never) ∙ ap (λ (l : List ℕ). cond (leb (reading_of z l).taken (length (take n xs))) ((reading_of z l).answer, (reading_of z l).taken) (more, length (take n xs))) back in
    let there : leb (reading_of z xs).taken (length (take n xs)) ≡ true = le-leb (reading_of z xs).taken (length (take n xs)) (omega (arith, length-take n xs, taken_there (transaction (room_of z)) xs, few)) in
    let ended : (reading_of z (take n xs)).answer ≡ (reading_of z xs).answer = ap (λ (v : Answer Head × ℕ). v.0) (t ∙ ap (λ (b : Bool). cond b ((reading_of z xs).answer, (reading_of z xs).taken) (more, length (take n xs))) there) in
    ap (partial z) (sym back) ∙ ap (outcome z) (stable z (take n xs) (drop n xs) (λ e. never (sym ended ∙ e))))

-- An outcome is seen exactly if it is told: of any bytes.
pub determined : (z : Sizes) (xs : List ℕ) (o : Outcome) → Bytes xs → Told z xs o ↔ (o ≡ partial z xs)
determined z xs o bytes =
    let ys = take limit xs in
    let few : length ys ≤ limit = omega (arith, length-take limit xs) in
    let same : partial z xs ≡ partial z ys = first_enough z xs bytes in
    let bytes' = bytes_take limit xs bytes in
    (λ k. known_seen z ys o bytes' few k ∙ sym same, λ e. subst (Known z ys) (sym (e ∙ same)) (seen_known z ys bytes' few))
