-- The machine does what a layout says, once a state stands at it: whatever bytes are fed, answer, count and tables are those of the
-- layout's reading. Nothing here knows of a stage.
use Prim.Native.Nat.{ℕ, suc, ◌+◌, ◌*◌, ◌^◌, ◌<◌, ◌≤◌}
use mathlib.Core.Path.{◌≡◌, refl, sym, ◌∙◌, ap, subst}
use mathlib.Core.Bool.{cond}
use mathlib.Core.List.{List, [], ◌∷◌, ◌++◌, append_assoc, append-nil}
use native.Mathlib.Nat.{add_assoc, mul_comm}
use native.Mathlib.Omega.{arith}
use lib.Dec.{eqb}
use lib.ListN.{length, take, drop, length-append, take-append-drop}
use lib.Seq.{length-take-le}
use borrow.Author.Tests.{lt-leb, le-leb, eq-eqb, ne_eqb}
use Rattle.layout.specs.Number.{Order, little, big, value, Bytes}
use Rattle.layout.specs.Layout.{Layout, number, opaque, enter, refuse, accept, Answer, refused, more, Reading, reading, behind, noted, Entry, Hidden, run}
use Rattle.layout.specs.Transaction.{Head}
use Rattle.layout.specs.Outcome.{Tables, lay, laid}
use Rattle.layout.proofs.Number.{value_append, joined, value_small, bytes_drop}
use Rattle.layout.proofs.Reading.{by_cases, field_run, field_case, field_there}
use Rattle.decoders.specs.declared.Sizes.{Sizes}
use Rattle.decoders.specs.declared.Counts.{Counts}
use Rattle.decoders.specs.declared.Spot.{Spot}
use Rattle.decoders.specs.declared.Entered.{Entered}
use Rattle.decoders.specs.declared.Settled.{Settled}
use Rattle.decoders.specs.Machine.{OPAQUE, BIG, State, field, worth, gather, enter_by, Machine, machine, entering, step, fed, answer_of, settle, quiet, settled}

-- ---- a fold

pub fed_append : (m : Machine) (xs ys : List ℕ) → fed m (xs ++ ys) ≡ fed (fed m xs) ys
unfolding fed
fed_append m [] ys = refl
fed_append m (x ∷ xs) ys = fed_append (step m x) xs ys

step_ended : (m : Machine) (x : ℕ) → 25 ≤ m.state.field.stage → step m x ≡ m
unfolding step
step_ended m x h = rw (le-leb 25 m.state.field.stage h)

pub fed_ended : (m : Machine) (xs : List ℕ) → 25 ≤ m.state.field.stage → fed m xs ≡ m
unfolding fed step
fed_ended m [] h = refl
fed_ended m (x ∷ xs) h = ap (λ (n : Machine). fed n xs) (step_ended m x h) ∙ fed_ended m xs h

-- ---- gathering a field's bytes

-- a state with a field of which `have` bytes are there
abbrev pub st : ℕ → ℕ → ℕ → ℕ → ℕ → ℕ → Sizes → Counts → Spot → State
st stage form width have v taken z c p = record { field = field stage form width have v; taken = taken; sizes = z; counts = c; spot = p }

-- what bytes are worth in a form
unfoldable pub worth_of : ℕ → List ℕ → ℕ
worth_of form bs = cond (eqb form OPAQUE) 0 (value (cond (eqb form BIG) big little) bs)

one_byte : (o : Order) (b : ℕ) → value o (b ∷ []) ≡ b
unfolding value
one_byte little b = omega arith
one_byte big b = omega arith

worth_snoc : (form : ℕ) (bs : List ℕ) (b : ℕ) → worth_of form (bs ++ (b ∷ [])) ≡ worth form (worth_of form bs) (length bs) b
unfolding worth_of worth joined
worth_snoc form bs b =
    by_cases (eqb form OPAQUE)
    (λ e. rw e)
    (λ e. by_cases (eqb form BIG)
    (λ e'. rw (e, e') (value_append big bs (b ∷ []) ∙ ap (λ (v : ℕ). value big bs * 256 ^ 1 + v) (one_byte big b)))
    (λ e'. rw (e, e') (value_append little bs (b ∷ []) ∙ ap (λ (v : ℕ). value little bs + v) (ap (λ (v : ℕ). 256 ^ length bs * v) (one_byte little b) ∙ mul_comm (256 ^ length bs) b))))

module _ (σ f w at : ℕ) (z : Sizes) (c : Counts) (p : Spot) (t : Tables) (running : σ < 25) where
  -- the bytes bs of the field are there
  abbrev partly : List ℕ → State
  partly bs = st σ f w (length bs) (worth_of f bs) (at + length bs) z c p

  gather_one : (bs : List ℕ) (b : ℕ) → gather (partly bs) b ≡ partly (bs ++ (b ∷ []))
  gather_one bs b =
      let one : length bs + 1 ≡ length (bs ++ (b ∷ [])) = sym (length-append bs (b ∷ [])) in
      let worths = sym (worth_snoc f bs b) in
      let takens : at + length bs + 1 ≡ at + length (bs ++ (b ∷ [])) = omega arith in
      λ i. st σ f w (one i) (worths i) (takens i) z c p

  step_within : (bs : List ℕ) (b : ℕ) → length bs + 1 < w → step (machine (partly bs) t) b ≡ machine (partly (bs ++ (b ∷ []))) t
  unfolding step
  step_within bs b h = rw (lt-leb 25 σ running, ne_eqb (length bs + 1) w (λ e. omega arith)) (ap (λ (s : State). machine s t) (gather_one bs b))

  step_last : (bs : List ℕ) (b : ℕ) → length bs + 1 ≡ w → step (machine (partly bs) t) b ≡ entering (settle (partly (bs ++ (b ∷ [])))) t
  unfolding step
  step_last bs b h = rw (lt-leb 25 σ running, eq-eqb (length bs + 1) w h) (ap (λ (s : State). entering (settle s) t) (gather_one bs b))

  gathers : (bs rest : List ℕ) → length bs + length rest < w → fed (machine (partly bs) t) rest ≡ machine (partly (bs ++ rest)) t
  unfolding fed
  gathers bs [] h = ap (λ (l : List ℕ). machine (partly l) t) (sym (append-nil bs))
  gathers bs (b ∷ rest) h =
      ap (λ (m : Machine). fed m rest) (step_within bs b (omega arith))
      ∙ gathers (bs ++ (b ∷ [])) rest (omega (arith, length-append bs (b ∷ [])))
      ∙ ap (λ (l : List ℕ). machine (partly l) t) (append_assoc bs (b ∷ []) rest)

  settles : (bs : List ℕ) (b : ℕ) (rest : List ℕ) → length bs + suc (length rest) ≡ w → fed (machine (partly bs) t) (b ∷ rest) ≡ entering (settle (partly (bs ++ (b ∷ rest)))) t
  unfolding fed
  settles bs b [] h = step_last bs b (omega arith)
  settles bs b (b' ∷ rest) h =
      ap (λ (m : Machine). fed m (b' ∷ rest)) (step_within bs b (omega arith))
      ∙ settles (bs ++ (b ∷ [])) b' rest (omega (arith, length-append bs (b ∷ [])))
      ∙ ap (λ (l : List ℕ). entering (settle (partly l)) t) (append_assoc bs (b ∷ []) (b' ∷ rest))

  settles_all : (bs : List ℕ) → length bs ≡ w → 0 < w → fed (machine (partly []) t) bs ≡ entering (settle (st σ f w w (worth_of f bs) (at + w) z c p)) t
  settles_all [] h pos = absurd (omega arith)
  settles_all (b ∷ bs) h pos = settles [] b bs (omega arith) ∙ ap (λ (n : ℕ). entering (settle (st σ f w n (worth_of f (b ∷ bs)) (at + n) z c p)) t) h

-- ---- standing at a layout

-- `At r l`: what a settled field gives, at most one entry and the next state, is what l enters first; and that state has the field open
-- that l goes on with, and settling it for every value stands at what follows; or both have ended.
pub data At : ℕ → Settled → Layout Head → Type 0 where
  refusing : {at : ℕ} {s : State} {n p : ℕ} → 25 ≤ s.field.stage → s.taken ≡ at → answer_of s ≡ refused n p → At at (quiet s) (refuse n p)
  ending : {at : ℕ} {s : State} {h : Head} → 25 ≤ s.field.stage → s.taken ≡ at → answer_of s ≡ Answer.finished h → At at (quiet s) (accept h)
  awaiting : {σ f w at : ℕ} {z : Sizes} {c : Counts} {p : Spot} {o : Order} {k : ℕ → Layout Head} → σ < 25 → 0 < w → ((bs : List ℕ) → worth_of f bs ≡ value o bs) → ((v : ℕ) → v < 256 ^ w → At (at + w) (settle (st σ f w w v (at + w) z c p)) (k v)) → At at (quiet (st σ f w 0 0 at z c p)) (number o w k)
  passing : {σ w at : ℕ} {z : Sizes} {c : Counts} {p : Spot} {h : Hidden} {l : Layout Head} → σ < 25 → 0 < w → At (at + w) (settle (st σ OPAQUE w w 0 (at + w) z c p)) l → At at (quiet (st σ OPAQUE w 0 0 at z c p)) (opaque h w l)
  nothing : {at : ℕ} {s : State} {h : Hidden} {l : Layout Head} → At at (quiet s) l → At at (quiet s) (opaque h 0 l)
  enters : {at : ℕ} {s : State} {e : Entered} {en : Entry} {l : Layout Head} → ((t : Tables) → enter_by e.table e t ≡ lay en t) → At at (quiet s) l → At at (settled s e) (enter en l)

-- ---- and so it reads as the layout does

pub record Same (m : Machine) (at : ℕ) (t : Tables) (r : Reading Head) : Type 0 where
  pub answer : answer_of m.state ≡ r.answer
  pub taken : m.state.taken ≡ at + r.taken
  pub tables : m.tables ≡ laid r.log t

worth_none : (f : ℕ) → worth_of f [] ≡ 0
unfolding worth_of value
worth_none f = by_cases (eqb f OPAQUE) (λ e. rw e) (λ e. by_cases (eqb f BIG) (λ e'. rw (e, e')) (λ e'. rw (e, e')))

running_more : (σ f w have v at : ℕ) (z : Sizes) (c : Counts) (p : Spot) → σ < 25 → answer_of (st σ f w have v at z c p) ≡ more
unfolding answer_of
running_more σ f w have v at z c p h = rw (ne_eqb σ 25 (λ e. omega arith), ne_eqb σ 26 (λ e. omega arith))

field_same : (σ f w at : ℕ) (z : Sizes) (c : Counts) (p : Spot) (t : Tables) (xs : List ℕ) (r : Reading Head) → σ < 25 → 0 < w → (w ≤ length xs → Same (fed (entering (settle (st σ f w w (worth_of f (take w xs)) (at + w) z c p)) t) (drop w xs)) (at + w) t r) → Same (fed (machine (st σ f w 0 0 at z c p) t) xs) at t (field_run w xs r)
unfolding laid
field_same σ f w at z c p t xs r running pos go =
    field_case (λ (x : Reading Head). Same (fed (machine (st σ f w 0 0 at z c p) t) xs) at t x) w xs r
    (λ there.
    let q = go there in
    subst (λ (m : Machine). Same m at t (behind w r))
    (sym (ap (λ (s : State). fed (machine s t) xs) start
    ∙ ap (λ (l : List ℕ). fed (machine (partly σ f w at z c p t running []) t) l) (sym (take-append-drop w xs))
    ∙ fed_append (machine (partly σ f w at z c p t running []) t) (take w xs) (drop w xs)
    ∙ ap (λ (m : Machine). fed m (drop w xs)) (settles_all σ f w at z c p t running (take w xs) (length-take-le w xs there) pos)))
    (record { answer = q.answer; taken = q.taken ∙ add_assoc at w r.taken; tables = q.tables }))
    (λ short. subst (λ (m : Machine). Same m at t (reading more (length xs) [])) (sym (ap (λ (s : State). fed (machine s t) xs) start ∙ gathers σ f w at z c p t running [] xs (omega arith))) (record { answer = running_more σ f w (length xs) (worth_of f xs) (at + length xs) z c p running; taken = refl; tables = refl }))
  where
    start : st σ f w 0 0 at z c p ≡ partly σ f w at z c p t running []
    start = let e = sym (worth_none f) in let a : at ≡ at + 0 = omega arith in λ i. st σ f w 0 (e i) (a i) z c p

worth_opaque : (bs : List ℕ) → worth_of OPAQUE bs ≡ 0
unfolding worth_of
worth_opaque bs = refl

ended_same : (s : State) (at : ℕ) (t : Tables) (xs : List ℕ) {a : Answer Head} → 25 ≤ s.field.stage → s.taken ≡ at → answer_of s ≡ a → Same (fed (machine s t) xs) at t (reading a 0 [])
unfolding laid
ended_same s at t xs {a} h e' e = subst (λ (m : Machine). Same m at t (reading a 0 [])) (sym (fed_ended (machine s t) xs h)) (record { answer = e; taken = omega arith; tables = refl })

opaque_none : (r : Reading Head) (xs : List ℕ) → r ≡ field_run 0 xs r
opaque_none r xs = (let e : r.taken ≡ 0 + r.taken = omega arith in λ i. reading r.answer (e i) r.log) ∙ sym (field_there 0 xs r (omega arith))

pub at_run : {at : ℕ} {r : Settled} {l : Layout Head} → At at r l → (t : Tables) (xs : List ℕ) → Bytes xs → Same (fed (entering r t) xs) at t (run l xs)
unfolding run laid entering
at_run {at} (refusing {s = s} h e' e) t xs q = ended_same s at t xs h e' e
at_run {at} (ending {s = s} h e' e) t xs q = ended_same s at t xs h e' e
at_run (awaiting {σ = σ} {f = f} {w = w} {at = at} {z = z} {c = c} {p = p} {o = o} {k = k} running pos worths go) t xs q =
    field_same σ f w at z c p t xs (run (k (value o (take w xs))) (drop w xs)) running pos λ there.
    subst (λ (v : ℕ). Same (fed (entering (settle (st σ f w w v (at + w) z c p)) t) (drop w xs)) (at + w) t (run (k (value o (take w xs))) (drop w xs))) (sym (worths (take w xs)))
    (at_run (go (value o (take w xs)) (value_small o w xs q)) t (drop w xs) (bytes_drop w xs q))
at_run (passing {σ = σ} {w = w} {at = at} {z = z} {c = c} {p = p} {l = l} running pos go) t xs q =
    field_same σ OPAQUE w at z c p t xs (run l (drop w xs)) running pos λ there.
    subst (λ (v : ℕ). Same (fed (entering (settle (st σ OPAQUE w w v (at + w) z c p)) t) (drop w xs)) (at + w) t (run l (drop w xs))) (sym (worth_opaque (take w xs)))
    (at_run go t (drop w xs) (bytes_drop w xs q))
at_run {at} (nothing {s = s} {l = l} d) t xs q = subst (λ (r : Reading Head). Same (fed (machine s t) xs) at t r) (opaque_none (run l xs) xs) (at_run d t xs q)
at_run {at} (enters {s = s} {e = e} {en = en} {l = l} same d) t xs q =
    let r = at_run d (lay en t) xs q in
    subst (λ (t' : Tables). Same (fed (machine s t') xs) at t (noted en (run l xs))) (sym (same t))
    (record { answer = r.answer; taken = r.taken; tables = r.tables })
