-- What holds of every layout's reading, by induction on the layout alone.
--     takes_all     a reading that wants more has taken every byte
--     taken_there   no reading takes more bytes than there are
--     blind         two inputs of one length that agree at the bearing bytes of the first have the same reading
--     cut           the reading of xs ++ ys is the reading of xs, and then that of ys by what is left of the layout
--     stable        an ended reading is the same whatever follows
--     by_bytes      it ends with the last byte that it takes: before it more is wanted, from it on it has ended
--     prefix_free   no whole text of a layout goes on to another
-- A number and a part that is never looked at are both a field: so many bytes, and then a layout that those bytes choose. What both
-- need is proved once of a field.
use Prim.Native.Nat.{ℕ, ◌+◌, ◌-◌, ◌<◌, ◌≤◌}
use mathlib.Core.Path.{◌≡◌, refl, sym, ◌∙◌, ap, ap₂, subst}
use mathlib.Core.Bool.{Bool, true, false, cond}
use mathlib.Core.List.{List, [], ◌∷◌, ◌++◌, append-nil}
use native.Mathlib.Nat.{add_assoc, add-zero}
use native.Mathlib.Omega.{arith}
use lib.Dec.{leb, ltb}
use lib.ListN.{length, take, drop, get_or, length-append, length-drop}
use lib.Seq.{ext_get_or, get_or-take, get_or-drop, take-append-le, drop-append-le, take-append-add, drop-append-add, length-take-le}
use borrow.Author.Tests.{leb-true, leb-false, le-leb, lt-leb, lt-ltb, le-ltb}
use Rattle.layout.specs.Number.{value}
use Rattle.layout.specs.Layout.{Layout, number, opaque, enter, refuse, accept, Answer, finished, more, refused, Reading, reading, behind, noted, Entry, run, hides}
use Rattle.layout.proofs.Number.{joined, value_append}

-- by the two values of a test, with the equation
pub by_cases : {C : Type 0} (b : Bool) → (b ≡ true → C) → (b ≡ false → C) → C
by_cases true f g = f refl
by_cases false f g = g refl

drops_alike : (w : ℕ) (xs ys : List ℕ) → length xs ≡ length ys → length (drop w xs) ≡ length (drop w ys)
drops_alike w xs ys e = length-drop w xs ∙ ap (λ n. n - w) e ∙ sym (length-drop w ys)

-- ys stands for xs wherever a reading that took n bytes looked
abbrev Stands : ℕ → (ℕ → Bool) → List ℕ → List ℕ → Type 0
Stands n hidden xs ys = (i : ℕ) → i < n → hidden i ≡ false → get_or xs i 0 ≡ get_or ys i 0

-- a number's own bytes are the same
same_bytes : (w n : ℕ) (hidden : ℕ → Bool) (xs ys : List ℕ) → w ≤ length xs → length xs ≡ length ys → Stands (w + n) (λ i. cond (ltb i w) false (hidden (i - w))) xs ys → take w xs ≡ take w ys
same_bytes w n hidden xs ys h e s =
    ext_get_or 0 (take w xs) (take w ys)
    (length-take-le w xs h ∙ sym (length-take-le w ys (omega arith)))
    (λ i less.
    let below : i < w = omega (arith, length-take-le w xs h) in
    get_or-take w xs i 0 below ∙ s i (omega arith) (rw (lt-ltb i w below)) ∙ sym (get_or-take w ys i 0 below))

-- and what follows stands too
stands_behind : (w n : ℕ) (here : Bool) (hidden : ℕ → Bool) (xs ys : List ℕ) → Stands (w + n) (λ i. cond (ltb i w) here (hidden (i - w))) xs ys → Stands n hidden (drop w xs) (drop w ys)
stands_behind w n here hidden xs ys s i less e =
    let back : w + i - w ≡ i = omega arith in
    let not_here : ltb (w + i) w ≡ false = le-ltb (w + i) w (omega arith) in
    get_or-drop w xs i 0 ∙ s (w + i) (omega arith) (rw (not_here, back) e) ∙ sym (get_or-drop w ys i 0)

no_more : (ys : List ℕ) → length ys ≡ 0 → ys ≡ []
no_more [] e = refl
no_more (y ∷ ys) e = absurd (omega arith)

module _ {A : Type 0} where
  -- a field's reading: all of its bytes are there, and the reading r of what follows goes on; or they are not
  abbrev pub field_run : ℕ → List ℕ → Reading A → Reading A
  field_run w xs r = elim (leb w (length xs)) [ true ↦ behind w r | false ↦ reading more (length xs) [] ]

  pub field_there : (w : ℕ) (xs : List ℕ) (r : Reading A) → w ≤ length xs → field_run w xs r ≡ behind w r
  field_there w xs r h = rw (le-leb w (length xs) h, field_run)

  pub field_short : (w : ℕ) (xs : List ℕ) (r : Reading A) → length xs < w → field_run w xs r ≡ reading more (length xs) []
  field_short w xs r h = rw (lt-leb w (length xs) h, field_run)

  -- what holds of the reading that goes on, and of the one that wants more, holds of the field's
  pub field_case : (P : Reading A → Type 0) (w : ℕ) (xs : List ℕ) (r : Reading A) → (w ≤ length xs → P (behind w r)) → (length xs < w → P (reading more (length xs) [])) → P (field_run w xs r)
  field_case P w xs r there short =
      by_cases (leb w (length xs))
      (λ e. rw (e, field_run) (there (leb-true w (length xs) e)))
      (λ e. rw (e, field_run) (short (leb-false w (length xs) e)))

  -- ---- takes_all

  pub refused_not_more : {n p : ℕ} → ◌≡◌ {A = Answer A} (refused n p) more → ⊥
  refused_not_more e = let z : ◌≡◌ {A = ℕ} 0 1 = cc in omega arith

  pub refused_not_finished : {n p : ℕ} {a : A} → ◌≡◌ {A = Answer A} (refused n p) (finished a) → ⊥
  refused_not_finished e = let z : ◌≡◌ {A = ℕ} 0 1 = cc in omega arith

  pub finished_not_more : {a : A} → ◌≡◌ {A = Answer A} (finished a) more → ⊥
  finished_not_more e = let z : ◌≡◌ {A = ℕ} 0 1 = cc in omega arith

  abbrev TakesAll : List ℕ → Reading A → Type 0
  TakesAll xs r = r.answer ≡ more → r.taken ≡ length xs

  takes_field : (w : ℕ) (xs : List ℕ) (r : Reading A) → TakesAll (drop w xs) r → TakesAll xs (field_run w xs r)
  takes_field w xs r ih =
      field_case (TakesAll xs) w xs r
      (λ h e. omega (arith, ih e, length-drop w xs))
      (λ _ _. refl)

  pub takes_all : (l : Layout A) (xs : List ℕ) → (run l xs).answer ≡ more → (run l xs).taken ≡ length xs
  unfolding run
  takes_all (number o w k) xs = takes_field w xs _ (takes_all (k (value o (take w xs))) (drop w xs))
  takes_all (opaque h w l) xs = takes_field w xs _ (takes_all l (drop w xs))
  takes_all (enter e l) xs = takes_all l xs
  takes_all (refuse n p) xs = λ e. absurd (refused_not_more e)
  takes_all (accept a) xs = λ e. absurd (finished_not_more e)

  there_field : (w : ℕ) (xs : List ℕ) (r : Reading A) → r.taken ≤ length (drop w xs) → (field_run w xs r).taken ≤ length xs
  there_field w xs r ih =
      field_case (λ r'. r'.taken ≤ length xs) w xs r
      (λ h. omega (arith, ih, length-drop w xs))
      (λ _. omega arith)

  pub taken_there : (l : Layout A) (xs : List ℕ) → (run l xs).taken ≤ length xs
  unfolding run
  taken_there (number o w k) xs = there_field w xs _ (taken_there (k (value o (take w xs))) (drop w xs))
  taken_there (opaque h w l) xs = there_field w xs _ (taken_there l (drop w xs))
  taken_there (enter e l) xs = taken_there l xs
  taken_there (refuse n p) xs = omega arith
  taken_there (accept a) xs = omega arith

  -- ---- blind

  field_same : (w : ℕ) (xs ys : List ℕ) (r s : Reading A) → length xs ≡ length ys → (w ≤ length xs → r ≡ s) → field_run w xs r ≡ field_run w ys s
  field_same w xs ys r s e same =
      field_case (λ r'. r' ≡ field_run w ys s) w xs r
      (λ h. ap (behind w) (same h) ∙ sym (field_there w ys s (omega arith)))
      (λ h. ap (λ n. reading more n []) e ∙ sym (field_short w ys s (omega arith)))

  field_stands : (w : ℕ) (xs ys : List ℕ) (r : Reading A) (hidden : ℕ → Bool) → w ≤ length xs → Stands (field_run w xs r).taken hidden xs ys → Stands (w + r.taken) hidden xs ys
  field_stands w xs ys r hidden h s = subst (λ (r' : Reading A). Stands r'.taken hidden xs ys) (field_there w xs r h) s

  pub blind : (l : Layout A) (xs ys : List ℕ) → length xs ≡ length ys → Stands (run l xs).taken (hides l xs) xs ys → run l xs ≡ run l ys
  unfolding run hides
  blind (number o w k) xs ys e s =
      field_same w xs ys _ _ e λ h.
      let hidden = hides (k (value o (take w xs))) (drop w xs) in
      let s' = field_stands w xs ys _ _ h s in
      blind (k (value o (take w xs))) (drop w xs) (drop w ys) (drops_alike w xs ys e) (stands_behind w _ false hidden xs ys s')
      ∙ ap (λ bs. run (k (value o bs)) (drop w ys)) (same_bytes w _ hidden xs ys h e s')
  blind (opaque x w l) xs ys e s =
      field_same w xs ys _ _ e λ h.
      blind l (drop w xs) (drop w ys) (drops_alike w xs ys e) (stands_behind w _ _ (hides l (drop w xs)) xs ys (field_stands w xs ys _ _ h s))
  blind (enter e l) xs ys q s = ap (noted e) (blind l xs ys q s)
  blind (refuse n p) xs ys e s = refl
  blind (accept a) xs ys e s = refl

  -- ---- cut

  -- what is left of a layout behind some bytes: the rest of a number is a narrower number
  unfoldable pub rest : Layout A → List ℕ → Layout A
  rest (number o w k) xs =
      elim (leb w (length xs)) [
        | true ↦ rest (k (value o (take w xs))) (drop w xs)
        | false ↦ number o (w - length xs) (λ v. k (joined o xs (w - length xs) v))
      ]
  rest (opaque h w l) xs =
      elim (leb w (length xs)) [
        | true ↦ rest l (drop w xs)
        | false ↦ opaque h (w - length xs) l
      ]
  rest (enter e l) xs = rest l xs
  rest (refuse n p) xs = refuse n p
  rest (accept a) xs = accept a

  -- one reading, and then another by what the first left
  abbrev pub chain : Reading A → Reading A → Reading A
  chain r s = reading s.answer (r.taken + s.taken) (r.log ++ s.log)

  abbrev field_rest : ℕ → List ℕ → Layout A → Layout A → Layout A
  field_rest w xs l m = elim (leb w (length xs)) [ true ↦ l | false ↦ m ]

  rest_there : (w : ℕ) (xs : List ℕ) (l m : Layout A) → w ≤ length xs → field_rest w xs l m ≡ l
  rest_there w xs l m h = rw (le-leb w (length xs) h, field_rest)

  rest_short : (w : ℕ) (xs : List ℕ) (l m : Layout A) → length xs < w → field_rest w xs l m ≡ m
  rest_short w xs l m h = rw (lt-leb w (length xs) h, field_rest)

  -- a field of w bytes, whose bytes choose what follows by f; g is f behind the bytes xs
  module _ (w : ℕ) (f : List ℕ → Layout A) (xs ys : List ℕ) where
    abbrev Goes : Reading A → Type 0
    Goes s = field_run w (xs ++ ys) (run (f (take w (xs ++ ys))) (drop w (xs ++ ys))) ≡ chain (field_run w xs (run (f (take w xs)) (drop w xs))) s

    cut_there : w ≤ length xs → run (f (take w xs)) (drop w xs ++ ys) ≡ chain (run (f (take w xs)) (drop w xs)) (run (rest (f (take w xs)) (drop w xs)) ys) → Goes (run (rest (f (take w xs)) (drop w xs)) ys)
    cut_there h ih =
        let s = run (rest (f (take w xs)) (drop w xs)) ys in
        let r = run (f (take w xs)) (drop w xs) in
        field_there w (xs ++ ys) _ (omega (arith, length-append xs ys))
        ∙ ap₂ (λ (b c : List ℕ). behind w (run (f b) c)) (take-append-le w xs ys h) (drop-append-le w xs ys h)
        ∙ ap (behind w) ih
        ∙ ap (λ n. reading s.answer n (r.log ++ s.log)) (sym (add_assoc w r.taken s.taken))
        ∙ ap (λ (r' : Reading A). chain r' s) (sym (field_there w xs r h))

    -- the bytes behind xs end the field, or they are too few as well
    cut_short : (g : List ℕ → Layout A) → length xs < w → ((bs : List ℕ) → length bs ≡ w - length xs → g bs ≡ f (xs ++ bs)) → Goes (field_run (w - length xs) ys (run (g (take (w - length xs) ys)) (drop (w - length xs) ys)))
    cut_short g h same =
        let d = w - length xs in
        let r = run (g (take d ys)) (drop d ys) in
        let whole : w ≡ length xs + d = omega arith in
        field_case (λ (s : Reading A). Goes s) d ys r
        (λ enough.
        field_there w (xs ++ ys) _ (omega (arith, length-append xs ys))
        ∙ ap₂ (λ (b c : List ℕ). behind w (run (f b) c)) (ap (λ n. take n (xs ++ ys)) whole ∙ take-append-add xs ys d) (ap (λ n. drop n (xs ++ ys)) whole ∙ drop-append-add xs ys d)
        ∙ ap (λ l. behind w (run l (drop d ys))) (sym (same (take d ys) (length-take-le d ys enough)))
        ∙ ap (λ n. reading r.answer n r.log) (omega arith)
        ∙ ap (λ (r' : Reading A). chain r' (behind d r)) (sym (field_short w xs _ h)))
        (λ few.
        field_short w (xs ++ ys) _ (omega (arith, length-append xs ys))
        ∙ ap (λ n. reading more n []) (length-append xs ys)
        ∙ ap (λ (r' : Reading A). chain r' (reading more (length ys) [])) (sym (field_short w xs _ h)))

    cut_field : (g : List ℕ → Layout A) (m : Layout A) → run m ys ≡ field_run (w - length xs) ys (run (g (take (w - length xs) ys)) (drop (w - length xs) ys)) → ((bs : List ℕ) → length bs ≡ w - length xs → g bs ≡ f (xs ++ bs)) → run (f (take w xs)) (drop w xs ++ ys) ≡ chain (run (f (take w xs)) (drop w xs)) (run (rest (f (take w xs)) (drop w xs)) ys) → Goes (run (field_rest w xs (rest (f (take w xs)) (drop w xs)) m) ys)
    cut_field g m e same ih =
        by_cases (leb w (length xs))
        (λ t. subst (λ (l : Layout A). Goes (run l ys)) (sym (rest_there w xs _ m (leb-true w (length xs) t))) (cut_there (leb-true w (length xs) t) ih))
        (λ t. subst (λ (l : Layout A). Goes (run l ys)) (sym (rest_short w xs _ m (leb-false w (length xs) t))) (subst (λ (s : Reading A). Goes s) (sym e) (cut_short g (leb-false w (length xs) t) same)))

  pub cut : (l : Layout A) (xs ys : List ℕ) → run l (xs ++ ys) ≡ chain (run l xs) (run (rest l xs) ys)
  unfolding run rest
  cut (number o w k) xs ys =
      cut_field w (λ bs. k (value o bs)) xs ys (λ bs. k (joined o xs (w - length xs) (value o bs))) _ refl
      (λ bs e. ap k (sym (value_append o xs bs ∙ ap (λ n. joined o xs n (value o bs)) e)))
      (cut (k (value o (take w xs))) (drop w xs) ys)
  cut (opaque h w l) xs ys = cut_field w (λ _. l) xs ys (λ _. l) (opaque h (w - length xs) l) refl (λ bs e. refl) (cut l (drop w xs) ys)
  cut (enter e l) xs ys = ap (noted e) (cut l xs ys)
  cut (refuse n p) xs ys = refl
  cut (accept a) xs ys = refl

  -- ---- stable, prefix-free

  abbrev Ends : Reading A → Type 0
  Ends r = r.answer ≡ more → ⊥

  -- nothing is left of a layout whose reading has ended but the end
  rest_field : (w : ℕ) (xs ys : List ℕ) (r : Reading A) (l m : Layout A) → (Ends r → run l ys ≡ reading r.answer 0 []) → Ends (field_run w xs r) → run (field_rest w xs l m) ys ≡ reading (field_run w xs r).answer 0 []
  rest_field w xs ys r l m ih e =
      by_cases (leb w (length xs))
      (λ t. let h = leb-true w (length xs) t in
      let there = field_there w xs r h in
      ap (λ (l' : Layout A). run l' ys) (rest_there w xs l m h)
      ∙ ih (λ q. e (ap (λ (r' : Reading A). r'.answer) there ∙ q))
      ∙ ap (λ (r' : Reading A). reading r'.answer 0 []) (sym there))
      (λ t. absurd (e (ap (λ (r' : Reading A). r'.answer) (field_short w xs r (leb-false w (length xs) t)))))

  rest_ended : (l : Layout A) (xs ys : List ℕ) → Ends (run l xs) → run (rest l xs) ys ≡ reading (run l xs).answer 0 []
  unfolding run rest
  rest_ended (number o w k) xs ys = rest_field w xs ys _ _ _ (rest_ended (k (value o (take w xs))) (drop w xs) ys)
  rest_ended (opaque h w l) xs ys = rest_field w xs ys _ _ _ (rest_ended l (drop w xs) ys)
  rest_ended (enter e l) xs ys = rest_ended l xs ys
  rest_ended (refuse n p) xs ys = λ _. refl
  rest_ended (accept a) xs ys = λ _. refl

  pub stable : (l : Layout A) (xs ys : List ℕ) → Ends (run l xs) → run l (xs ++ ys) ≡ run l xs
  stable l xs ys e =
      cut l xs ys
      ∙ ap (λ (s : Reading A). chain (run l xs) s) (rest_ended l xs ys e)
      ∙ ap₂ (λ (n : ℕ) (es : List Entry). reading (run l xs).answer n es) (add-zero (run l xs).taken) (append-nil (run l xs).log)

  -- ---- by_bytes

  -- where more is wanted, the end wants a byte at least
  rest_takes_field : (w : ℕ) (xs ys : List ℕ) (r s : Reading A) (l m : Layout A) → run m ys ≡ field_run (w - length xs) ys s → (r.answer ≡ more → Ends (run l ys) → 0 < (run l ys).taken) → (field_run w xs r).answer ≡ more → Ends (run (field_rest w xs l m) ys) → 0 < (run (field_rest w xs l m) ys).taken
  rest_takes_field w xs ys r s l m e ih wants ends =
      by_cases (leb w (length xs))
      (λ t. let h = leb-true w (length xs) t in
      let same = rest_there w xs l m h in
      subst (λ (l' : Layout A). 0 < (run l' ys).taken) (sym same) (ih (ap (λ (r' : Reading A). r'.answer) (sym (field_there w xs r h)) ∙ wants) (subst (λ (l' : Layout A). Ends (run l' ys)) same ends)))
      (λ t. let h = leb-false w (length xs) t in
      let same = ap (λ (l' : Layout A). run l' ys) (rest_short w xs l m h) ∙ e in
      subst (λ (r' : Reading A). 0 < r'.taken) (sym same)
      (field_case (λ (r' : Reading A). Ends r' → 0 < r'.taken) (w - length xs) ys s (λ _ _. omega arith) (λ _ never. absurd (never refl)) (subst Ends same ends)))

  rest_takes : (l : Layout A) (xs ys : List ℕ) → (run l xs).answer ≡ more → Ends (run (rest l xs) ys) → 0 < (run (rest l xs) ys).taken
  unfolding run rest
  rest_takes (number o w k) xs ys = rest_takes_field w xs ys _ _ _ _ refl (rest_takes (k (value o (take w xs))) (drop w xs) ys)
  rest_takes (opaque h w l) xs ys = rest_takes_field w xs ys _ _ _ _ refl (rest_takes l (drop w xs) ys)
  rest_takes (enter e l) xs ys = rest_takes l xs ys
  rest_takes (refuse n p) xs ys = λ e. absurd (refused_not_more e)
  rest_takes (accept a) xs ys = λ e. absurd (finished_not_more e)

  pub wants_or_ends : (a : Answer A) → {C : Type 0} → (a ≡ more → C) → ((a ≡ more → ⊥) → C) → C
  wants_or_ends (finished a) f g = g (λ e. finished_not_more e)
  wants_or_ends more f g = f refl
  wants_or_ends (refused n p) f g = g (λ e. refused_not_more e)

  -- answer and bytes taken
  abbrev pub told : Reading A → Answer A × ℕ
  told r = (r.answer, r.taken)

  pub by_bytes : (l : Layout A) (xs ys : List ℕ) → Ends (run l (xs ++ ys)) → let r = run l (xs ++ ys) in told (run l xs) ≡ cond (leb r.taken (length xs)) (told r) (more, length xs)
  by_bytes l xs ys ends =
      let r = run l (xs ++ ys) in
      let whole = cut l xs ys in
      wants_or_ends (run l xs).answer
      (λ e.
      let all_taken = takes_all l xs e in
      let some = rest_takes l xs ys e (subst Ends whole ends) in
      let later : leb r.taken (length xs) ≡ false = lt-leb r.taken (length xs) (omega (arith, ap (λ (s : Reading A). s.taken) whole)) in
      (λ j. (e j, all_taken j)) ∙ ap (λ (t : Bool). cond t (told r) (more, length xs)) (sym later))
      (λ never.
      let same = stable l xs ys never in
      let by_then : leb r.taken (length xs) ≡ true = le-leb r.taken (length xs) (omega (arith, taken_there l xs, ap (λ (s : Reading A). s.taken) same)) in
      ap told (sym same) ∙ ap (λ (t : Bool). cond t (told r) (more, length xs)) (sym by_then))

  pub prefix_free : (l : Layout A) (xs ys : List ℕ) (a : A) → (run l xs).answer ≡ finished a → (run l (xs ++ ys)).taken ≡ length (xs ++ ys) → ys ≡ []
  prefix_free l xs ys a e whole =
      let same = stable l xs ys (λ q. finished_not_more (sym e ∙ q)) in
      no_more ys (omega (arith, taken_there l xs, sym (ap (λ (r : Reading A). r.taken) same) ∙ whole, length-append xs ys))
