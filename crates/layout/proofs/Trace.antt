-- What a reading does, in order: it looks at a byte, passes a byte that it never looks at, makes an entry.
--     looks_taken   its bytes are those that are taken
--     looks_at      a byte is passed exactly if the layout hides it, and is looked at with its value otherwise
--     trace_cut     the trace of the first k bytes is what comes before the byte behind them
--     log_by        so the reading of the first k bytes makes the entries that come before it
--     Goes          a trace goes along some events and on behind them, or stops among them
--     agree_first   two inputs that are met as the first of the same events agree at each bearing byte that both take
use Prim.Native.Nat.{ℕ, zero, suc, ◌+◌, ◌-◌, ◌<◌, ◌≤◌, min}
use mathlib.Core.Path.{◌≡◌, refl, sym, ◌∙◌, ap, ap₂, subst}
use mathlib.Core.Bool.{Bool, true, false, cond, not, ◌&&◌}
use mathlib.Core.List.{List, [], ◌∷◌, ◌++◌, map, append_assoc, append-nil}
use mathlib.Core.Option.{Option, none, some}
use native.Mathlib.Omega.{arith}
use lib.Dec.{leb, ltb}
use lib.ListN.{length, take, drop, get_or, length-append, length-take, length-map, get_or-append}
use lib.Seq.{get_or-take, get_or-drop, take-nil, take-take, take_at, length-take-le, get_or-append-add}
use borrow.Author.Tests.{leb-true, leb-false, ltb-true, ltb-false, le-leb, lt-leb, lt-ltb}
use Rattle.layout.specs.Number.{value}
use Rattle.layout.specs.Layout.{Layout, number, opaque, enter, refuse, accept, Reading, Entry, run, hides}
use Rattle.layout.specs.Outcome.{bears}
use Rattle.layout.proofs.Reading.{by_cases, field_run, field_case, field_there, field_short}

pub data Event : Type 0 where
  shown : ℕ → Event
  hidden : Event
  enters : Entry → Event

abbrev pub looked : List ℕ → List Event
looked xs = map shown xs

abbrev pub passed : List ℕ → List Event
passed xs = map (λ _. hidden) xs

-- and then an entry
abbrev pub entering : List Event → Entry → List Event
entering es e = es ++ (enters e ∷ [])

module _ {A : Type 0} where
  -- A field that isn't all there is met as far as it goes.
  unfoldable pub trace : Layout A → List ℕ → List Event
  trace (number o w k) xs =
      elim (leb w (length xs)) [
        | true ↦ looked (take w xs) ++ trace (k (value o (take w xs))) (drop w xs)
        | false ↦ looked xs
      ]
  trace (opaque h w l) xs =
      elim (leb w (length xs)) [
        | true ↦ passed (take w xs) ++ trace l (drop w xs)
        | false ↦ passed xs
      ]
  trace (enter e l) xs = enters e ∷ trace l xs
  trace (refuse n p) xs = []
  trace (accept a) xs = []

-- ---- a field, of bytes that are looked at or of bytes that aren't

abbrev pub met : Bool → List ℕ → List Event
met hid xs = map (λ b. cond hid hidden (shown b)) xs

abbrev pub field_trace : Bool → ℕ → List ℕ → List Event → List Event
field_trace hid w xs t = elim (leb w (length xs)) [ true ↦ met hid (take w xs) ++ t | false ↦ met hid xs ]

pub trace_there : (hid : Bool) (w : ℕ) (xs : List ℕ) (t : List Event) → w ≤ length xs → field_trace hid w xs t ≡ met hid (take w xs) ++ t
trace_there hid w xs t h = rw (le-leb w (length xs) h, field_trace)

pub trace_short : (hid : Bool) (w : ℕ) (xs : List ℕ) (t : List Event) → length xs < w → field_trace hid w xs t ≡ met hid xs
trace_short hid w xs t h = rw (lt-leb w (length xs) h, field_trace)

-- ---- its bytes

-- a byte's value where it is looked at
abbrev pub looks : List Event → List (Option ℕ)
looks [] = []
looks (shown b ∷ es) = some b ∷ looks es
looks (hidden ∷ es) = none ∷ looks es
looks (enters e ∷ es) = looks es

abbrev seen : Bool → ℕ → Option ℕ
seen hid b = cond hid none (some b)

looks_met : (hid : Bool) (xs : List ℕ) (t : List Event) → looks (met hid xs ++ t) ≡ map (seen hid) xs ++ looks t
looks_met true [] t = refl
looks_met true (x ∷ xs) t = ap (λ (l : List (Option ℕ)). none ∷ l) (looks_met true xs t)
looks_met false [] t = refl
looks_met false (x ∷ xs) t = ap (λ (l : List (Option ℕ)). some x ∷ l) (looks_met false xs t)

get_d_first : (hid : Bool) (xs : List ℕ) (us : List (Option ℕ)) (i : ℕ) → i < length xs → get_or (map (seen hid) xs ++ us) i none ≡ seen hid (get_or xs i 0)
get_d_first hid [] us i h = absurd (omega arith)
get_d_first hid (x ∷ xs) us zero h = refl
get_d_first hid (x ∷ xs) us (suc i) h = get_d_first hid xs us i (omega arith)

get_d_behind : (hid : Bool) (xs : List ℕ) (us : List (Option ℕ)) (i : ℕ) → length xs ≤ i → get_or (map (seen hid) xs ++ us) i none ≡ get_or us (i - length xs) none
get_d_behind hid [] us i h = ap (λ (n : ℕ). get_or us n none) (omega arith)
get_d_behind hid (x ∷ xs) us zero h = absurd (omega arith)
get_d_behind hid (x ∷ xs) us (suc i) h = get_d_behind hid xs us i (omega arith) ∙ ap (λ (n : ℕ). get_or us n none) (omega arith)

-- the bytes taken, each with what the layout says of it
abbrev Met : List ℕ → (ℕ → Bool) → ℕ → List Event → Type 0
Met xs hid taken t = (length (looks t) ≡ taken) × ((i : ℕ) → i < taken → get_or (looks t) i none ≡ seen (hid i) (get_or xs i 0))

module _ {A : Type 0} where
  met_field : (here : Bool) (w : ℕ) (xs : List ℕ) (r : Reading A) (t : List Event) (hid : ℕ → Bool) → Met (drop w xs) hid r.taken t → Met xs (λ i. cond (ltb i w) here (hid (i - w))) (field_run w xs r).taken (field_trace here w xs t)
  met_field here w xs r t hid ih =
      by_cases (leb w (length xs))
      (λ e. let h = leb-true w (length xs) e in subst (λ (s : Reading A). Met xs all s.taken (field_trace here w xs t)) (sym (field_there w xs r h)) (subst (λ (u : List Event). Met xs all (w + r.taken) u) (sym (trace_there here w xs t h)) (there h)))
      (λ e. let h = leb-false w (length xs) e in subst (λ (s : Reading A). Met xs all s.taken (field_trace here w xs t)) (sym (field_short w xs r h)) (subst (λ (u : List Event). Met xs all (length xs) u) (sym (trace_short here w xs t h)) (short h)))
    where
      all : ℕ → Bool
      all i = cond (ltb i w) here (hid (i - w))

      own : (i : ℕ) → ltb i w ≡ true → seen here (get_or xs i 0) ≡ seen (all i) (get_or xs i 0)
      own i e = ap (λ (b : Bool). seen (cond b here (hid (i - w))) (get_or xs i 0)) (sym e)

      there : w ≤ length xs → Met xs all (w + r.taken) (met here (take w xs) ++ t)
      there h =
          let l = looks_met here (take w xs) t in
          let long = length-take-le w xs h in (
            ap (λ (us : List (Option ℕ)). length us) l ∙ length-append (map (seen here) (take w xs)) (looks t) ∙ ap₂ ◌+◌ (length-map (take w xs) (seen here) ∙ long) ih.0,
            λ i less.
                ap (λ (us : List (Option ℕ)). get_or us i none) l
                ∙ by_cases (ltb i w)
                (λ e. let below = ltb-true i w e in get_d_first here (take w xs) (looks t) i (omega arith) ∙ ap (seen here) (get_or-take w xs i 0 below) ∙ own i e)
                (λ e.
                let past = ltb-false i w e in
                let back : w + (i - w) ≡ i = omega arith in
                get_d_behind here (take w xs) (looks t) i (omega arith)
                ∙ ap (λ (n : ℕ). get_or (looks t) (i - n) none) long
                ∙ ih.1 (i - w) (omega arith)
                ∙ ap (seen (hid (i - w))) (get_or-drop w xs (i - w) 0 ∙ ap (λ (n : ℕ). get_or xs n 0) back)
                ∙ ap (λ (b : Bool). seen (cond b here (hid (i - w))) (get_or xs i 0)) (sym e)),
          )

      short : length xs < w → Met xs all (length xs) (met here xs)
      short h =
          let l = ap looks (sym (append-nil (met here xs))) ∙ looks_met here xs [] in (
            ap (λ (us : List (Option ℕ)). length us) (l ∙ append-nil (map (seen here) xs)) ∙ length-map xs (seen here),
            λ i less. ap (λ (us : List (Option ℕ)). get_or us i none) l ∙ get_d_first here xs [] i less ∙ own i (lt-ltb i w (omega arith)),
          )

  pub met_trace : (l : Layout A) (xs : List ℕ) → Met xs (hides l xs) (run l xs).taken (trace l xs)
  unfolding run hides trace
  met_trace (number o w k) xs = met_field false w xs _ _ (hides (k (value o (take w xs))) (drop w xs)) (met_trace (k (value o (take w xs))) (drop w xs))
  met_trace (opaque h w l) xs = met_field true w xs _ _ (hides l (drop w xs)) (met_trace l (drop w xs))
  met_trace (enter e l) xs = met_trace l xs
  met_trace (refuse n p) xs = (refl, λ i less. absurd (omega arith))
  met_trace (accept a) xs = (refl, λ i less. absurd (omega arith))

  pub looks_taken : (l : Layout A) (xs : List ℕ) → length (looks (trace l xs)) ≡ (run l xs).taken
  looks_taken l xs = (met_trace l xs).0

  pub looks_at : (l : Layout A) (xs : List ℕ) (i : ℕ) → i < (run l xs).taken → get_or (looks (trace l xs)) i none ≡ cond (hides l xs i) none (some (get_or xs i 0))
  looks_at l xs = (met_trace l xs).1

-- ---- the first k bytes

-- what comes before the byte behind k bytes
unfoldable pub up_to : ℕ → List Event → List Event
up_to k [] = []
up_to k (enters e ∷ es) = enters e ∷ up_to k es
up_to zero (shown b ∷ es) = []
up_to (suc k) (shown b ∷ es) = shown b ∷ up_to k es
up_to zero (hidden ∷ es) = []
up_to (suc k) (hidden ∷ es) = hidden ∷ up_to k es

up_past : (hid : Bool) (xs : List ℕ) (t : List Event) (k : ℕ) → length xs ≤ k → up_to k (met hid xs ++ t) ≡ met hid xs ++ up_to (k - length xs) t
unfolding up_to
up_past hid [] t k h = ap (λ (n : ℕ). up_to n t) (omega arith)
up_past hid (x ∷ xs) t zero h = absurd (omega arith)
up_past true (x ∷ xs) t (suc k) h = ap (λ (es : List Event). hidden ∷ es) (up_past true xs t k (omega arith) ∙ ap (λ (n : ℕ). met true xs ++ up_to n t) (omega arith))
up_past false (x ∷ xs) t (suc k) h = ap (λ (es : List Event). shown x ∷ es) (up_past false xs t k (omega arith) ∙ ap (λ (n : ℕ). met false xs ++ up_to n t) (omega arith))

up_within : (hid : Bool) (xs : List ℕ) (t : List Event) (k : ℕ) → k < length xs → up_to k (met hid xs ++ t) ≡ met hid (take k xs)
unfolding up_to
up_within hid [] t k h = absurd (omega arith)
up_within true (x ∷ xs) t zero h = refl
up_within false (x ∷ xs) t zero h = refl
up_within true (x ∷ xs) t (suc k) h = ap (λ (es : List Event). hidden ∷ es) (up_within true xs t k (omega arith))
up_within false (x ∷ xs) t (suc k) h = ap (λ (es : List Event). shown x ∷ es) (up_within false xs t k (omega arith))

up_bytes : (hid : Bool) (xs : List ℕ) (k : ℕ) → up_to k (met hid xs) ≡ met hid (take k xs)
unfolding up_to
up_bytes hid [] zero = refl
up_bytes hid [] (suc k) = refl
up_bytes true (x ∷ xs) zero = refl
up_bytes false (x ∷ xs) zero = refl
up_bytes true (x ∷ xs) (suc k) = ap (λ (es : List Event). hidden ∷ es) (up_bytes true xs k)
up_bytes false (x ∷ xs) (suc k) = ap (λ (es : List Event). shown x ∷ es) (up_bytes false xs k)

drop_take : (w k : ℕ) (xs : List ℕ) → w ≤ k → drop w (take k xs) ≡ take (k - w) (drop w xs)
drop_take zero k xs h = let e : k ≡ k - 0 = omega arith in ap (λ (n : ℕ). take n xs) e
drop_take (suc w) zero xs h = absurd (omega arith)
drop_take (suc w) (suc k) [] h = sym (take-nil (suc k - suc w))
drop_take (suc w) (suc k) (x ∷ xs) h = let e : k - w ≡ suc k - suc w = omega arith in drop_take w k xs (omega arith) ∙ ap (λ (n : ℕ). take n (drop w xs)) e

module _ {A : Type 0} where
  cut_field : (f : List ℕ → Layout A) (hid : Bool) (w k : ℕ) (xs : List ℕ) → ((j : ℕ) → trace (f (take w xs)) (take j (drop w xs)) ≡ up_to j (trace (f (take w xs)) (drop w xs))) → field_trace hid w (take k xs) (trace (f (take w (take k xs))) (drop w (take k xs))) ≡ up_to k (field_trace hid w xs (trace (f (take w xs)) (drop w xs)))
  cut_field f hid w k xs ih =
      by_cases (leb w (length xs))
      (λ e.
      let h = leb-true w (length xs) e in
      let long = length-take-le w xs h in
      by_cases (leb w k)
      (λ e'.
      let h' = leb-true w k e' in
      trace_there hid w (take k xs) _ (omega (arith, length-take k xs))
      ∙ ap₂ (λ (b c : List ℕ). met hid b ++ trace (f b) c) (take-take w k xs h') (drop_take w k xs h')
      ∙ ap (λ (es : List Event). met hid (take w xs) ++ es) (ih (k - w))
      ∙ ap (λ (n : ℕ). met hid (take w xs) ++ up_to (k - n) t) (sym long)
      ∙ sym (up_past hid (take w xs) t k (omega arith))
      ∙ ap (up_to k) (sym (trace_there hid w xs t h)))
      (λ e'.
      let h' = leb-false w k e' in
      trace_short hid w (take k xs) _ (omega (arith, length-take k xs))
      ∙ ap (met hid) (sym (take-take k w xs (omega arith)))
      ∙ sym (up_within hid (take w xs) t k (omega arith))
      ∙ ap (up_to k) (sym (trace_there hid w xs t h))))
      (λ e.
      let h = leb-false w (length xs) e in
      trace_short hid w (take k xs) _ (omega (arith, length-take k xs))
      ∙ sym (up_bytes hid xs k)
      ∙ ap (up_to k) (sym (trace_short hid w xs t h)))
    where
      t : List Event
      t = trace (f (take w xs)) (drop w xs)

  pub trace_cut : (l : Layout A) (n : ℕ) (xs : List ℕ) → trace l (take n xs) ≡ up_to n (trace l xs)
  unfolding trace up_to
  trace_cut (number o w k) n xs = cut_field (λ bs. k (value o bs)) false w n xs (λ j. trace_cut (k (value o (take w xs))) j (drop w xs))
  trace_cut (opaque h w l) n xs = cut_field (λ _. l) true w n xs (λ j. trace_cut l j (drop w xs))
  trace_cut (enter e l) n xs = ap (λ (es : List Event). enters e ∷ es) (trace_cut l n xs)
  trace_cut (refuse m p) n xs = refl
  trace_cut (accept a) n xs = refl

-- ---- its entries

unfoldable pub entries : List Event → List Entry
entries [] = []
entries (shown b ∷ es) = entries es
entries (hidden ∷ es) = entries es
entries (enters e ∷ es) = e ∷ entries es

entries_met : (hid : Bool) (xs : List ℕ) (t : List Event) → entries (met hid xs ++ t) ≡ entries t
unfolding entries
entries_met hid [] t = refl
entries_met true (x ∷ xs) t = entries_met true xs t
entries_met false (x ∷ xs) t = entries_met false xs t

module _ {A : Type 0} where
  log_field : (hid : Bool) (w : ℕ) (xs : List ℕ) (r : Reading A) (t : List Event) → r.log ≡ entries t → (field_run w xs r).log ≡ entries (field_trace hid w xs t)
  unfolding entries
  log_field hid w xs r t e =
      field_case (λ (s : Reading A). s.log ≡ entries (field_trace hid w xs t)) w xs r
      (λ h. e ∙ sym (entries_met hid (take w xs) t) ∙ ap entries (sym (trace_there hid w xs t h)))
      (λ h. sym (entries_met hid xs []) ∙ ap entries (append-nil (met hid xs) ∙ sym (trace_short hid w xs t h)))

  log_trace : (l : Layout A) (xs : List ℕ) → (run l xs).log ≡ entries (trace l xs)
  unfolding run trace entries
  log_trace (number o w k) xs = log_field false w xs _ _ (log_trace (k (value o (take w xs))) (drop w xs))
  log_trace (opaque h w l) xs = log_field true w xs _ _ (log_trace l (drop w xs))
  log_trace (enter e l) xs = ap (λ (es : List Entry). e ∷ es) (log_trace l xs)
  log_trace (refuse n p) xs = refl
  log_trace (accept a) xs = refl

  pub log_by : (l : Layout A) (k : ℕ) (xs : List ℕ) → (run l (take k xs)).log ≡ entries (up_to k (trace l xs))
  log_by l k xs = log_trace l (take k xs) ∙ ap entries (trace_cut l k xs)

-- ---- inputs with one trace

both : (a b : Bool) → (a && b) ≡ true → (a ≡ true) × (b ≡ true)
both true true e = (refl, refl)
both true false e = (refl, e)
both false b e = (e, absurd (let z : ◌≡◌ {A = ℕ} 0 1 = ap (λ (c : Bool). cond c 1 0) e in omega arith))

not_hidden : (a : Bool) → not a ≡ true → a ≡ false
not_hidden true e = sym e
not_hidden false e = refl

same_look : (c d : Bool) (u v : ℕ) → c ≡ false → seen c u ≡ seen d v → u ≡ v
same_look true d u v e s = absurd (let z : ◌≡◌ {A = ℕ} 1 0 = ap (λ (b : Bool). cond b 1 0) e in omega arith)
same_look false true u v e s = absurd (let z : ◌≡◌ {A = ℕ} 0 1 = cc in omega arith)
same_look false false u v e s = cc

-- ---- and with the same bytes behind them

looks_upto : (n : ℕ) (t : List Event) → looks (up_to n t) ≡ take n (looks t)
unfolding up_to
looks_upto zero [] = refl
looks_upto (suc n) [] = refl
looks_upto n (enters e ∷ t) = looks_upto n t
looks_upto zero (shown b ∷ t) = refl
looks_upto (suc n) (shown b ∷ t) = ap (λ (l : List (Option ℕ)). some b ∷ l) (looks_upto n t)
looks_upto zero (hidden ∷ t) = refl
looks_upto (suc n) (hidden ∷ t) = ap (λ (l : List (Option ℕ)). none ∷ l) (looks_upto n t)

shown_so : (c : Bool) (u v : ℕ) → seen c u ≡ some v → c ≡ false
shown_so true u v e = absurd (let z : ◌≡◌ {A = ℕ} 0 1 = cc in omega arith)
shown_so false u v e = refl

module _ {A : Type 0} where
  -- a byte that bears in a longer input bears in its beginning
  pub bears_sooner : (l : Layout A) (xs vs : List ℕ) (i : ℕ) → i < length xs → bears l (xs ++ vs) i ≡ true → bears l xs i ≡ true
  bears_sooner l xs vs i within b =
      let n = length xs in
      let zs = xs ++ vs in
      let p = both (ltb i (run l zs).taken) (not (hides l zs i)) b in
      let less = ltb-true i (run l zs).taken p.0 in
      let same : trace l xs ≡ up_to n (trace l zs) = ap (trace l) (sym (take_at xs vs n refl)) ∙ trace_cut l n zs in
      let looks_same : looks (trace l xs) ≡ take n (looks (trace l zs)) = ap looks same ∙ looks_upto n (trace l zs) in
      let long : (run l xs).taken ≡ min n (run l zs).taken = sym (looks_taken l xs) ∙ ap (λ (us : List (Option ℕ)). length us) looks_same ∙ length-take n (looks (trace l zs)) ∙ ap (min n) (looks_taken l zs) in
      let here : i < (run l xs).taken = omega (arith, long) in
      let look : seen (hides l xs i) (get_or xs i 0) ≡ some (get_or zs i 0) =
      sym (looks_at l xs i here)
      ∙ ap (λ (us : List (Option ℕ)). get_or us i none) looks_same
      ∙ get_or-take n (looks (trace l zs)) i none within
      ∙ looks_at l zs i less
      ∙ ap (λ (c : Bool). seen c (get_or zs i 0)) (not_hidden (hides l zs i) p.1) in
      ap₂ (λ (a c : Bool). a && not c) (lt-ltb i (run l xs).taken here) (shown_so (hides l xs i) (get_or xs i 0) (get_or zs i 0) look)

  pub agree_longer : (l : Layout A) (xs ys vs : List ℕ) → length xs ≡ length ys → ((i : ℕ) → bears l xs i ≡ true → get_or xs i 0 ≡ get_or ys i 0) → (i : ℕ) → bears l (xs ++ vs) i ≡ true → get_or (xs ++ vs) i 0 ≡ get_or (ys ++ vs) i 0
  agree_longer l xs ys vs long a i b =
      by_cases (ltb i (length xs))
      (λ e. let less = ltb-true i (length xs) e in get_or-append xs vs 0 i less ∙ a i (bears_sooner l xs vs i less b) ∙ sym (get_or-append ys vs 0 i (omega arith)))
      (λ e.
      let past = ltb-false i (length xs) e in
      let at : length xs + (i - length xs) ≡ i = omega arith in
      ap (λ (n : ℕ). get_or (xs ++ vs) n 0) (sym at) ∙ get_or-append-add xs vs (i - length xs) 0
      ∙ sym (get_or-append-add ys vs (i - length xs) 0) ∙ ap (λ (n : ℕ). get_or (ys ++ vs) n 0) (omega arith))

-- ---- a trace along some events

-- It goes on behind them; or it stops among them, where a field would end past the limit.
pub data Goes (past : Type 0) (t es u : List Event) : Type 0 where
  on : t ≡ es ++ u → Goes past t es u
  stops : past → (left : List Event) → es ≡ t ++ left → Goes past t es u

pub goes_as : {past : Type 0} {t t' es es' u u' : List Event} → t' ≡ t → es' ≡ es → u ≡ u' → Goes past t es u → Goes past t' es' u'
goes_as e f g (on h) = on (e ∙ h ∙ ap₂ (λ (a b : List Event). a ++ b) (sym f) g)
goes_as e f g (stops p left h) = stops p left (f ∙ h ∙ ap (λ (a : List Event). a ++ left) (sym e))

pub goes_past : {past past' : Type 0} {t es u : List Event} → (past → past') → Goes past t es u → Goes past' t es u
goes_past f (on h) = on h
goes_past f (stops p left h) = stops (f p) left h

-- along some events, and then along others
pub goes_both : {past past' ever : Type 0} (t es u fs v : List Event) → (past → ever) → (past' → ever) → Goes past t es u → Goes past' u fs v → Goes ever t (es ++ fs) v
goes_both t es u fs v f g (on e) (on h) = on (e ∙ ap (λ (a : List Event). es ++ a) h ∙ sym (append_assoc es fs v))
goes_both t es u fs v f g (on e) (stops p left h) = stops (g p) left (ap (λ (a : List Event). es ++ a) h ∙ sym (append_assoc es u left) ∙ ap (λ (a : List Event). a ++ left) (sym e))
goes_both t es u fs v f g (stops p left e) next = stops (f p) (left ++ fs) (ap (λ (a : List Event). a ++ fs) e ∙ append_assoc t left fs)

-- where it can't stop, it is they
pub goes_whole : {past : Type 0} (t es : List Event) → (past → ⊥) → Goes past t es [] → t ≡ es
goes_whole t es never (on e) = e ∙ append-nil es
goes_whole t es never (stops p left e) = absurd (never p)

-- what it does before a byte that it meets is what the events have before that byte
before : (k : ℕ) (t left : List Event) → k < length (looks t) → up_to k (t ++ left) ≡ up_to k t
unfolding up_to
before k [] left h = absurd (omega arith)
before k (enters e ∷ t) left h = ap (λ (a : List Event). enters e ∷ a) (before k t left h)
before zero (shown b ∷ t) left h = refl
before (suc k) (shown b ∷ t) left h = ap (λ (a : List Event). shown b ∷ a) (before k t left (omega arith))
before zero (hidden ∷ t) left h = refl
before (suc k) (hidden ∷ t) left h = ap (λ (a : List Event). hidden ∷ a) (before k t left (omega arith))

pub goes_before : {past : Type 0} (k : ℕ) (t es : List Event) → k < length (looks t) → Goes past t es [] → up_to k t ≡ up_to k es
goes_before k t es h (on e) = ap (up_to k) (e ∙ append-nil es)
goes_before k t es h (stops p left e) = sym (before k t left h) ∙ ap (up_to k) (sym e)

-- the events before a byte come first
upto_first : (k : ℕ) (t : List Event) → (left : List Event) × (t ≡ up_to k t ++ left)
unfolding up_to
upto_first k [] = ([], refl)
upto_first k (enters e ∷ t) = let p = upto_first k t in (p.0, ap (λ (a : List Event). enters e ∷ a) p.1)
upto_first zero (shown b ∷ t) = (shown b ∷ t, refl)
upto_first (suc k) (shown b ∷ t) = let p = upto_first k t in (p.0, ap (λ (a : List Event). shown b ∷ a) p.1)
upto_first zero (hidden ∷ t) = (hidden ∷ t, refl)
upto_first (suc k) (hidden ∷ t) = let p = upto_first k t in (p.0, ap (λ (a : List Event). hidden ∷ a) p.1)

-- the first of some events
abbrev pub First : List Event → List Event → Type 0
First t es = (left : List Event) × (es ≡ t ++ left)

pub goes_first : {past : Type 0} (k : ℕ) (t es : List Event) → Goes past t es [] → First (up_to k t) es
goes_first k t es (on e) = let p = upto_first k t in (p.0, sym (append-nil es) ∙ sym e ∙ p.1)
goes_first k t es (stops past left e) = let p = upto_first k t in (p.0 ++ left, e ∙ ap (λ (a : List Event). a ++ left) p.1 ∙ append_assoc (up_to k t) p.0 left)

pub looks_both : (t u : List Event) → looks (t ++ u) ≡ looks t ++ looks u
looks_both [] u = refl
looks_both (shown b ∷ t) u = ap (λ (l : List (Option ℕ)). some b ∷ l) (looks_both t u)
looks_both (hidden ∷ t) u = ap (λ (l : List (Option ℕ)). none ∷ l) (looks_both t u)
looks_both (enters e ∷ t) u = looks_both t u

pub looks_first : (t es : List Event) (i : ℕ) → i < length (looks t) → First t es → get_or (looks t) i none ≡ get_or (looks es) i none
looks_first t es i h p = sym (ap (λ (l : List (Option ℕ)). get_or l i none) (ap looks p.1 ∙ looks_both t p.0) ∙ get_or-append (looks t) (looks p.0) none i h)

module _ {A : Type 0} where
  pub bears_taken : (l : Layout A) (xs : List ℕ) (i : ℕ) → bears l xs i ≡ true → i < (run l xs).taken
  bears_taken l xs i b = ltb-true i (run l xs).taken (both (ltb i (run l xs).taken) (not (hides l xs i)) b).0

-- two inputs that are met as the first of the same events agree at each bearing byte that both take
module _ {A : Type 0} where
  pub agree_first : (l : Layout A) (xs ys : List ℕ) (es : List Event) → First (trace l xs) es → First (trace l ys) es → (i : ℕ) → bears l xs i ≡ true → i < (run l ys).taken → get_or xs i 0 ≡ get_or ys i 0
  agree_first l xs ys es f g i b there =
      let less = bears_taken l xs i b in
      same_look (hides l xs i) (hides l ys i) (get_or xs i 0) (get_or ys i 0) (not_hidden (hides l xs i) (both (ltb i (run l xs).taken) (not (hides l xs i)) b).1)
      (sym (looks_at l xs i less)
      ∙ looks_first (trace l xs) es i (omega (arith, looks_taken l xs)) f
      ∙ sym (looks_first (trace l ys) es i (omega (arith, looks_taken l ys)) g)
      ∙ looks_at l ys i there)
