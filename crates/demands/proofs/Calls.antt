-- A reader that follows document 01 from call to call reads as it says in any pieces, finished or not, and asked again. One law for any reader.
use Prim.Native.Nat.{ℕ, ◌+◌, ◌-◌, ◌≤◌}
use mathlib.Core.Path.{◌≡◌, refl, sym, ◌∙◌, ap, subst}
use mathlib.Core.Bool.{false, cond}
use mathlib.Core.List.{List, [], ◌∷◌, ◌++◌, append-nil, append_assoc}
use native.Mathlib.Nat.{add-zero}
use native.Mathlib.Omega.{arith}
use lib.ListN.{length, length-replicate, get_or}
use Rattle.layout.specs.Number.{Bytes}
use Rattle.layout.specs.Layout.{Answer, finished, more, refused, Reading, run, reading}
use Rattle.layout.specs.Transaction.{Head, Room, transaction, further_at, within}
use Rattle.layout.specs.Outcome.{Tables, Sizes, Outcome, room_of, zeros, laid, outcome, partial, at_once}
use Rattle.layout.proofs.Reading.{by_cases, taken_there, rest}
use Rattle.layout.proofs.Theorems.{cut}
use Rattle.demands.specs.Demands.{Call, Reader, sizes, Piece, Ask, piece, done, fed, joined, ends, paper, call, started, next, calls, read, misuse, settled, Repeated, Leaves, Left}
use Rattle.demands.proofs.Paper.{bytes_both, once_ends}

-- ---- of document 01's reading

-- no byte at all: more is wanted
pub nothing_read : (room : Room) → run (transaction room) [] ≡ reading more 0 []
unfolding run transaction further_at within
nothing_read room = refl

pub nothing_partial : (z : Sizes) → partial z [] ≡ record { answer = more; taken = 0; tables = zeros z }
unfolding laid
nothing_partial z = ap (outcome z) (nothing_read (room_of z))

-- with further bytes, no fewer are taken, and no more than those further
pub grows : (z : Sizes) (xs ys : List ℕ) → ((partial z xs).taken ≤ (partial z (xs ++ ys)).taken) × ((partial z (xs ++ ys)).taken ≤ (partial z xs).taken + length ys)
grows z xs ys =
    let e = ap (λ (y : Reading Head). y.taken) (cut z xs ys) in
    let l = taken_there (rest (transaction (room_of z)) xs) ys in
    (omega (arith, e), omega (arith, e, l))

pub zeros_sizes : (z : Sizes) → sizes (zeros z) ≡ z
zeros_sizes z = λ j. record { inputs = length-replicate {A = ℕ} z.inputs 0 j; outputs = length-replicate {A = ℕ} z.outputs 0 j; items = length-replicate {A = ℕ} z.items 0 j }

-- what an ended reading makes of tables: their sizes stay; and those that it left are left
pub settled_sizes : (a : Answer Head) (u : Tables) → sizes (settled a u) ≡ sizes u
settled_sizes (finished h) u = refl
settled_sizes more u = refl
settled_sizes (refused n p) u = by_cases (misuse n) (λ e. rw e) (λ e. rw e (zeros_sizes (sizes u)))

pub settled_own : (a : Answer Head) (z : Sizes) (u : Tables) → ((n p : ℕ) → a ≡ refused n p → misuse n ≡ false → u ≡ zeros z) → settled a u ≡ u
settled_own (finished h) z u f = refl
settled_own more z u f = refl
settled_own (refused n p) z u f =
    by_cases (misuse n) (λ e. rw e)
    (λ e. let k = f n p refl e in rw e (ap (λ (t : Tables). zeros (sizes t)) k ∙ ap zeros (zeros_sizes z) ∙ sym k))

-- two tables lent, two left: nothing is done; the same is left; one after the other
pub left_same : (t t' : Tables) → Left t t' t t'
left_same t t' = record { inputs = λ j h. (refl, refl); outputs = λ j h. (refl, refl); items = λ j h. (refl, refl) }

pub left_equal : (t t' u u' : Tables) → u ≡ u' → Left t t' u u'
left_equal t t' u u' e =
    record {
      inputs = λ j h. absurd (h (ap (λ (x : Tables). get_or x.inputs j 0) e));
      outputs = λ j h. absurd (h (ap (λ (x : Tables). get_or x.outputs j 0) e));
      items = λ j h. absurd (h (ap (λ (x : Tables). get_or x.items j 0) e));
    }

pub leaves_then : (t t' u u' v v' : List ℕ) → Leaves t t' u u' → Leaves u u' v v' → Leaves t t' v v'
leaves_then t t' u u' v v' f g j h =
    let k = g j h in
    let w = f j (λ e. h (k.0 ∙ e ∙ sym k.1)) in
    (k.0 ∙ w.0, k.1 ∙ w.1)

pub left_then : (t t' u u' v v' : Tables) → Left t t' u u' → Left u u' v v' → Left t t' v v'
left_then t t' u u' v v' f g =
    record {
      inputs = leaves_then t.inputs t'.inputs u.inputs u'.inputs v.inputs v'.inputs f.inputs g.inputs;
      outputs = leaves_then t.outputs t'.outputs u.outputs u'.outputs v.outputs v'.outputs f.outputs g.outputs;
      items = leaves_then t.items t'.items u.items u'.items v.items v'.items f.items g.items;
    }

pub settled_left : (a : Answer Head) (t t' : Tables) → sizes t ≡ sizes t' → Left t t' (settled a t) (settled a t')
settled_left (finished h) t t' e = left_same t t'
settled_left more t t' e = left_same t t'
settled_left (refused n p) t t' e = by_cases (misuse n) (λ k. rw k (left_same t t')) (λ k. rw k (left_equal t t' _ _ (ap zeros e)))

-- what a call shows that adds bytes, and one that finishes
abbrev pub added : Sizes → List ℕ → List ℕ → Outcome
added z xs ys = let o = partial z (xs ++ ys) in record { answer = o.answer; taken = o.taken - (partial z xs).taken; tables = o.tables }

abbrev pub closing : Sizes → List ℕ → Outcome
closing z xs = let o = at_once z xs in record { answer = o.answer; taken = 0; tables = o.tables }

-- ---- the law

-- `At xs s`: the state s stands behind the bytes xs
pub record Follows {S : Type 0} (r : Reader S) (t : Tables) (At : List ℕ → S → Type 0) : Type 0 where
  pub start : At [] (r.fresh t).state × ((r.fresh t).tables ≡ zeros (sizes t))
  pub goes_on_lem : (xs : List ℕ) → Bytes xs → (s : S) → At xs s → (p : Piece) → let c = call r s (partial (sizes t) xs).tables (piece p) in At (xs ++ p.bytes) c.state × (c.outcome ≡ added (sizes t) xs p.bytes)
  pub closes : (xs : List ℕ) → Bytes xs → (s : S) → At xs s → (r.end s (partial (sizes t) xs).tables).outcome ≡ closing (sizes t) xs
  pub final : (s : S) (u : Tables) (q : Ask) → ((call r s u q).outcome.answer ≡ more → ⊥) → Repeated r (call r s u q)
  pub zeroed : (s : S) (u : Tables) (q : Ask) (n p : ℕ) → (call r s u q).outcome.answer ≡ refused n p → misuse n ≡ false → (call r s u q).outcome.tables ≡ zeros (sizes u)

module _ {S : Type 0} (r : Reader S) (t : Tables) (At : List ℕ → S → Type 0) (f : Follows r t At) where
  -- a call, with the bytes taken in all
  abbrev summed : ℕ → Call S → Call S
  summed n c = record { state = c.state; outcome = record { answer = c.outcome.answer; taken = n; tables = c.outcome.tables } }

  -- what has ended, however often it is asked
  stays : (qs : List Ask) (s : S) (u : Tables) (q : Ask) (n : ℕ) → ((call r s u q).outcome.answer ≡ more → ⊥) → (calls r (summed n (call r s u q)) qs).outcome ≡ (summed n (call r s u q)).outcome
  unfolding calls
  stays [] s u q n h = refl
  stays (q' ∷ qs) s u q n h =
      let c = call r s u q in
      let d = call r c.state c.outcome.tables q' in
      let own = settled_own c.outcome.answer (sizes u) c.outcome.tables (f.zeroed s u q) in
      let e : d.outcome ≡ record { answer = c.outcome.answer; taken = 0; tables = c.outcome.tables } = f.final s u q h c.outcome.tables q' refl ∙ (λ j. record { answer = c.outcome.answer; taken = 0; tables = own j }) in
      let m : n + d.outcome.taken ≡ n = ap (λ (o : Outcome). n + o.taken) e ∙ add-zero n in
      stays qs c.state c.outcome.tables q' (n + d.outcome.taken) (λ z. h (sym (ap (λ (o : Outcome). o.answer) e) ∙ z))
      ∙ (λ j. record { answer = (e j).answer; taken = m j; tables = (e j).tables })

  goes : (qs : List Ask) (xs : List ℕ) → Bytes xs → (c : Call S) → At xs c.state → c.outcome ≡ partial (sizes t) xs → (calls r c qs).outcome ≡ cond (ends qs) (at_once (sizes t) (xs ++ joined qs)) (partial (sizes t) (xs ++ joined qs))
  unfolding calls joined ends
  goes [] xs b c w e = e ∙ ap (partial (sizes t)) (sym (append-nil xs))
  goes (piece p ∷ qs) xs b c w e =
      let ys = p.bytes in
      let k = subst (λ (o : Outcome). At (xs ++ ys) (call r c.state o.tables (piece p)).state × ((call r c.state o.tables (piece p)).outcome ≡ added (sizes t) xs ys)) (sym e) (f.goes_on_lem xs b c.state w p) in
      let d = (call r c.state c.outcome.tables (piece p)).outcome in
      let n : c.outcome.taken + d.taken ≡ (partial (sizes t) (xs ++ ys)).taken = omega (arith, ap (λ (o : Outcome). o.taken) e, ap (λ (o : Outcome). o.taken) k.1, (grows (sizes t) xs ys).0) in
      goes qs (xs ++ ys) (bytes_both xs ys b p.below) (next r c (piece p)) k.0 (λ j. record { answer = (k.1 j).answer; taken = n j; tables = (k.1 j).tables })
      ∙ ap (λ (l : List ℕ). cond (ends qs) (at_once (sizes t) l) (partial (sizes t) l)) (append_assoc xs ys (joined qs))
  goes (done ∷ qs) xs b c w e =
      let k : (r.end c.state c.outcome.tables).outcome ≡ closing (sizes t) xs = subst (λ (o : Outcome). (r.end c.state o.tables).outcome ≡ closing (sizes t) xs) (sym e) (f.closes xs b c.state w) in
      let d = (r.end c.state c.outcome.tables).outcome in
      let n : c.outcome.taken + d.taken ≡ (at_once (sizes t) xs).taken = omega (arith, ap (λ (o : Outcome). o.taken) e, ap (λ (o : Outcome). o.taken) k) in
      stays qs c.state c.outcome.tables done (c.outcome.taken + d.taken) (λ z. once_ends (sizes t) xs (sym (ap (λ (o : Outcome). o.answer) k) ∙ z))
      ∙ (λ j. record { answer = (k j).answer; taken = n j; tables = (k j).tables })
      ∙ ap (at_once (sizes t)) (sym (append-nil xs))

  pub follows_reads : (qs : List Ask) → read r t (fed qs) ≡ paper (sizes t) (fed qs)
  follows_reads qs =
      goes qs [] (λ i. omega arith) (started r t) f.start.0
      ((λ j. record { answer = more; taken = 0; tables = f.start.1 j }) ∙ sym (nothing_partial (sizes t)))
