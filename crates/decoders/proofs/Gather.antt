-- Gathering a part of a field at once is feeding its bytes one after another, from any state.
use Prim.Native.Nat.{ℕ, zero, suc, ◌+◌, ◌*◌, ◌%◌, ◌^◌, ◌<◌, ◌≤◌}
use Rattle.std.proofs.lemmas.Nat.{pow-add}
use Rattle.std.specs.Array.{IsWholeChunk}
use Rattle.std.specs.Int.{w16, w32, w64, from_le_bytes, from_be_bytes}
use mathlib.Core.Path.{◌≡◌, refl, sym, ◌∙◌, ap, subst}
use mathlib.Core.Bool.{cond}
use mathlib.Core.List.{List, [], ◌∷◌}
use native.Mathlib.Nat.{mod-eq_of_lt, pow-succ', mul-le-mul_right, pow-le-pow_right, add-zero, mul-zero, mul_assoc, mul-add, add-mul, mul_comm, mul_left_comm}
use native.Mathlib.Numerals.{add-one}
use native.Mathlib.Omega.{arith}
use lib.Dec.{eqb, lit<}
use lib.ListN.{length, drop, get_or, drop_of_length-le}
use lib.Seq.{drop-cons, take_all}
use Rattle.layout.specs.Number.{Order, value, little, big}
use Rattle.encode.proofs.Number.{weighed, value_bytes_lem}
use borrow.Author.Tests.{lt-leb, eq-eqb, ne_eqb, eqb-true, eqb-false}
use Rattle.layout.specs.Outcome.{Tables}
use Rattle.layout.proofs.Reading.{by_cases}
use Rattle.decoders.specs.Machine.{OPAQUE, BIG, State, worth, worths, gather, gathered, machine, Machine, step, fed, entering, settle}
use Rattle.decoders.specs.Needs.{whole}

-- ---- one byte more

pub byte_below : (value b p : ℕ) → value < p → b < 256 → value * 256 + b < 256 * p
byte_below value b p h hb = omega arith

pub weight_below : (value b p : ℕ) → value < p → b < 256 → value + b * p < 256 * p
weight_below value b p h hb = let most : b ≤ 255 = omega arith in omega (arith, mul-le-mul_right p most)

pub power_64 : (have : ℕ) → have < 8 → 256 * 256 ^ have ≤ 18446744073709551616
power_64 have h =
    let at_most : 256 ^ suc have ≤ 256 ^ 8 = pow-le-pow_right (lit< tt) h in
    omega (arith, at_most, pow-succ' 256 have)

pub big_fits : (value have b : ℕ) → have < 8 → value < 256 ^ have → b < 256 → value * 256 + b < 18446744073709551616
big_fits value have b n h hb = omega (arith, byte_below value b (256 ^ have) h hb, power_64 have n)

pub little_fits : (value have b p : ℕ) → have < 8 → value < 256 ^ have → b < 256 → p ≡ 256 ^ have → value + b * p < 18446744073709551616
little_fits value have b p n h hb e = rw e (omega (arith, weight_below value b (256 ^ have) h hb, power_64 have n))

power_bits : (j : ℕ) → 2 ^ (8 * j) ≡ 256 ^ j
power_bits zero = refl
power_bits (suc j) =
    let e : 8 * suc j ≡ 8 * j + 8 = omega arith in
    ap (λ (n : ℕ). 2 ^ n) e ∙ pow-add 2 (8 * j) 8 ∙ omega (arith, power_bits j, pow-succ' 256 j)

pub shifted : (j : ℕ) → j < 8 → 1 * 2 ^ (8 * j) % 18446744073709551616 ≡ 256 ^ j
shifted j h =
    let e : 1 * 2 ^ (8 * j) ≡ 256 ^ j = omega (arith, power_bits j) in
    let l : 256 ^ j < 18446744073709551616 = omega (arith, power_64 j h) in
    ap (λ (n : ℕ). n % 18446744073709551616) e ∙ mod-eq_of_lt l

pub worth_big : (form value have b : ℕ) → form ≡ BIG → value * 256 + b ≡ worth form value have b
unfolding worth
worth_big form value have b e = sym (ap (λ (f : ℕ). cond (eqb f OPAQUE) value (cond (eqb f BIG) (value * 256 + b) (value + b * 256 ^ have))) e)

pub worth_little : (form value have b p : ℕ) → (form ≡ OPAQUE → ⊥) → (form ≡ BIG → ⊥) → p ≡ 256 ^ have → value + b * p ≡ worth form value have b
unfolding worth
worth_little form value have b p h h' e = rw (ne_eqb form OPAQUE h, ne_eqb form BIG h') (ap (λ (q : ℕ). value + b * q) e)

pub worth_below : (form value have b : ℕ) → value < 256 ^ have → b < 256 → worth form value have b < 256 ^ (have + 1)
unfolding worth
worth_below form value have b h hb =
    rw (add-one have, pow-succ' 256 have)
    (by_cases (eqb form OPAQUE)
    (λ t. rw t (omega arith))
    (λ t. by_cases (eqb form BIG) (λ t'. rw (t, t') (byte_below value b (256 ^ have) h hb)) (λ t'. rw (t, t') (weight_below value b (256 ^ have) h hb))))

-- ---- several bytes

pub worths_opaque : (form value have : ℕ) (bs : List ℕ) → form ≡ OPAQUE → worths form value have bs ≡ value
unfolding worths worth
worths_opaque form value have [] e = refl
worths_opaque form value have (b ∷ bs) e = ap (λ (v : ℕ). worths form v (have + 1) bs) (rw (eq-eqb form OPAQUE e)) ∙ worths_opaque form value (have + 1) bs e

-- the first i bytes are in v, and the rest makes of it what all make of the value
abbrev pub Worthed : ℕ → ℕ → ℕ → List ℕ → ℕ → ℕ → Type 0
Worthed form value have bs v i = (i ≤ length bs) × (v < 256 ^ (have + i)) × (worths form v (have + i) (drop i bs) ≡ worths form value have bs)

pub worthed_none : (form value have : ℕ) (bs : List ℕ) → value < 256 ^ have → Worthed form value have bs value 0
worthed_none form value have bs h = (omega arith, rw (add-zero have) h, ap (λ (n : ℕ). worths form value n bs) (add-zero have))

pub worthed_more : (form value have : ℕ) (bs : List ℕ) (v i w : ℕ) → Worthed form value have bs v i → i < length bs → get_or bs i 0 < 256 → w ≡ worth form v (have + i) (get_or bs i 0) → Worthed form value have bs w (i + 1)
unfolding worths
worthed_more form value have bs v i w q less byte e =
    let up : have + (i + 1) ≡ have + i + 1 = omega arith in (
      omega arith,
      subst (λ (n : ℕ). n < 256 ^ (have + (i + 1))) (sym e) (rw up (worth_below form v (have + i) (get_or bs i 0) q.1 byte)),
      ap (λ (x : ℕ). worths form x (have + (i + 1)) (drop (i + 1) bs)) e
          ∙ ap (λ (n : ℕ). worths form (worth form v (have + i) (get_or bs i 0)) n (drop (i + 1) bs)) up
          ∙ ap (λ (n : ℕ). worths form (worth form v (have + i) (get_or bs i 0)) (have + i + 1) (drop n bs)) (add-one i)
          ∙ sym (ap (λ (l : List ℕ). worths form v (have + i) l) (drop-cons bs i 0 less))
          ∙ q.2,
    )

pub worthed_all : (form value have : ℕ) (bs : List ℕ) (v i : ℕ) → Worthed form value have bs v i → length bs ≤ i → v ≡ worths form value have bs
unfolding worths
worthed_all form value have bs v i q h = sym (ap (λ (l : List ℕ). worths form v (have + i) l) (drop_of_length-le bs h)) ∙ q.2

-- ---- bytes that belong to the open field

-- gathering in two steps is gathering at once
gathered_twice : (s : State) (k v v' : ℕ) → gathered k v' (gathered 1 v s) ≡ gathered (suc k) v' s
gathered_twice s k v v' =
    let a : s.field.have + 1 + k ≡ s.field.have + suc k = omega arith in
    let b : s.taken + 1 + k ≡ s.taken + suc k = omega arith in
    λ i. record { field = record { stage = s.field.stage; form = s.field.form; width = s.field.width; have = a i; value = v' }; taken = b i; sizes = s.sizes; counts = s.counts; spot = s.spot }

gathered_none : (s : State) → s ≡ gathered 0 s.field.value s
gathered_none s =
    let a : s.field.have ≡ s.field.have + 0 = omega arith in
    let b : s.taken ≡ s.taken + 0 = omega arith in
    λ i. record { field = record { stage = s.field.stage; form = s.field.form; width = s.field.width; have = a i; value = s.field.value }; taken = b i; sizes = s.sizes; counts = s.counts; spot = s.spot }

abbrev worth_of : State → List ℕ → ℕ
worth_of s bs = worths s.field.form s.field.value s.field.have bs

step_within : (s : State) (t : Tables) (b : ℕ) → s.field.stage ≤ 24 → s.field.have + 1 < s.field.width → step (machine s t) b ≡ machine (gather s b) t
unfolding step
step_within s t b run less = rw (lt-leb 25 s.field.stage (omega arith), ne_eqb (s.field.have + 1) s.field.width (λ e. omega arith))

step_last : (s : State) (t : Tables) (b : ℕ) → s.field.stage ≤ 24 → s.field.have + 1 ≡ s.field.width → step (machine s t) b ≡ entering (settle (gather s b)) t
unfolding step
step_last s t b run e = rw (lt-leb 25 s.field.stage (omega arith), eq-eqb (s.field.have + 1) s.field.width e)

pub fed_within : (bs : List ℕ) (s : State) (t : Tables) → s.field.stage ≤ 24 → s.field.have + length bs < s.field.width → fed (machine s t) bs ≡ machine (gathered (length bs) (worth_of s bs) s) t
unfolding fed worths
fed_within [] s t run less = ap (λ (x : State). machine x t) (gathered_none s)
fed_within (b ∷ bs) s t run less =
    ap (λ (m : Machine). fed m bs) (step_within s t b run (omega arith))
    ∙ fed_within bs (gather s b) t run (omega arith)
    ∙ ap (λ (x : State). machine x t) (gathered_twice s (length bs) (worth s.field.form s.field.value s.field.have b) (worth_of s (b ∷ bs)))

pub fed_settles : (bs : List ℕ) (s : State) (t : Tables) → s.field.stage ≤ 24 → 0 < length bs → s.field.have + length bs ≡ s.field.width → fed (machine s t) bs ≡ entering (settle (gathered (length bs) (worth_of s bs) s)) t
unfolding fed worths
fed_settles [] s t run some e = absurd (omega arith)
fed_settles (b ∷ []) s t run some e = step_last s t b run (omega arith)
fed_settles (b ∷ (b' ∷ bs)) s t run some e =
    ap (λ (m : Machine). fed m (b' ∷ bs)) (step_within s t b run (omega arith))
    ∙ fed_settles (b' ∷ bs) (gather s b) t run (omega arith) (omega arith)
    ∙ ap (λ (x : State). entering (settle x) t) (gathered_twice s (length (b' ∷ bs)) (worth s.field.form s.field.value s.field.have b) (worth_of s (b ∷ (b' ∷ bs))))

-- ---- a number that lies whole in the piece

pub worths_little : (form v h : ℕ) (bs : List ℕ) → (form ≡ OPAQUE → ⊥) → (form ≡ BIG → ⊥) → worths form v h bs ≡ v + 256 ^ h * value little bs
unfolding worths worth value
worths_little form v h [] a b = omega (arith, mul-zero (256 ^ h))
worths_little form v h (x ∷ bs) a b =
    rw (ne_eqb form OPAQUE a, ne_eqb form BIG b)
    (worths_little form (v + x * 256 ^ h) (h + 1) bs a b
    ∙ omega (arith, ap (λ (n : ℕ). 256 ^ n * value little bs) (add-one h), ap (λ (n : ℕ). n * value little bs) (pow-succ' 256 h), mul_assoc 256 (256 ^ h) (value little bs), mul-add (256 ^ h) x (256 * value little bs), mul_comm x (256 ^ h), mul_left_comm (256 ^ h) 256 (value little bs)))

pub worths_big : (form v h : ℕ) (bs : List ℕ) → form ≡ BIG → worths form v h bs ≡ v * 256 ^ length bs + value big bs
unfolding worths worth value
worths_big form v h [] e = omega arith
worths_big form v h (x ∷ bs) e =
    let not_opaque : form ≡ OPAQUE → ⊥ = λ q. omega arith in
    rw (ne_eqb form OPAQUE not_opaque, eq-eqb form BIG e)
    (worths_big form (v * 256 + x) (h + 1) bs e
    ∙ omega (arith, add-mul (v * 256) x (256 ^ length bs), mul_assoc v 256 (256 ^ length bs), ap (λ (n : ℕ). v * n) (pow-succ' 256 (length bs))))

none_yet : (value have : ℕ) → have ≡ 0 → value < 256 ^ have → value ≡ 0
none_yet value have e h = let z : value < 256 ^ 0 = subst (λ (n : ℕ). value < 256 ^ n) e h in omega arith

pub whole_worths : (form v have : ℕ) (bs : List ℕ) (r : ℕ) → (form ≡ OPAQUE → ⊥) → have ≡ 0 → v < 256 ^ have → r ≡ whole form bs → r ≡ worths form v have bs
whole_worths form v have bs r f e h q =
    let z : v ≡ 0 = none_yet v have e h in
    q
    ∙ by_cases (eqb form BIG)
    (λ b. rw b (omega (arith, worths_big form v have bs (eqb-true form BIG b), ap (λ (n : ℕ). n * 256 ^ length bs) z)))
    (λ b. rw b (omega (arith, worths_little form v have bs f (eqb-false form BIG b), ap (λ (n : ℕ). 256 ^ n * value little bs) e)))

pub one_worths : (form v have : ℕ) (bs : List ℕ) (b r : ℕ) → length bs ≡ 1 → b ≡ get_or bs 0 0 → r ≡ worth form v have b → r ≡ worths form v have bs
unfolding worths
one_worths form v have (x ∷ []) b r e eb er = er ∙ ap (worth form v have) eb
one_worths form v have [] b r e eb er = absurd (omega arith)
one_worths form v have (x ∷ (y ∷ bs)) b r e eb er = absurd (omega arith)

-- all bytes of a list, each with its weight
weighed_value : (o : Order) (w : ℕ) (xs : List ℕ) → length xs ≡ w → value o xs ≡ weighed o w (λ i. get_or xs i 0)
weighed_value o w xs e = sym (ap (value o) (take_all w xs (omega arith))) ∙ value_bytes_lem o w xs (omega arith)

module _ (form : ℕ) (xs ys : List ℕ) (r : ℕ) where
  pub two_loaded : (form ≡ BIG → ⊥) → IsWholeChunk xs ys 2 → r ≡ from_le_bytes w16 ys → r ≡ whole form xs
  two_loaded f w e = rw (ne_eqb form BIG f) (e ∙ omega (arith, weighed_value little 2 ys (ap length w.same ∙ w.long)) ∙ ap (value little) w.same)

  pub four_loaded : (form ≡ BIG → ⊥) → IsWholeChunk xs ys 4 → r ≡ from_le_bytes w32 ys → r ≡ whole form xs
  four_loaded f w e = rw (ne_eqb form BIG f) (e ∙ omega (arith, weighed_value little 4 ys (ap length w.same ∙ w.long)) ∙ ap (value little) w.same)

  pub eight_loaded : (form ≡ BIG → ⊥) → IsWholeChunk xs ys 8 → r ≡ from_le_bytes w64 ys → r ≡ whole form xs
  eight_loaded f w e = rw (ne_eqb form BIG f) (e ∙ omega (arith, weighed_value little 8 ys (ap length w.same ∙ w.long)) ∙ ap (value little) w.same)

  pub eight_big_loaded : form ≡ BIG → IsWholeChunk xs ys 8 → r ≡ from_be_bytes w64 ys → r ≡ whole form xs
  eight_big_loaded f w e = rw (eq-eqb form BIG f) (e ∙ omega (arith, weighed_value big 8 ys (ap length w.same ∙ w.long)) ∙ ap (value big) w.same)
