-- One field's step of the code: what it needs, and that it is feeding the bytes that belong to the field.
use Prim.Native.Nat.{ℕ, zero, suc, ◌+◌, ◌-◌, ◌^◌, ◌<◌, ◌≤◌, min}
use mathlib.Core.Path.{◌≡◌, refl, sym, ◌∙◌, ap, ap₂, subst}
use mathlib.Core.Bool.{true, cond}
use mathlib.Core.List.{List, [], ◌∷◌}
use native.Mathlib.Nat.{add-zero, pow-succ'}
use native.Mathlib.Omega.{arith}
use lib.Dec.{ltb, eqb}
use lib.ListN.{length, take}
use lib.Seq.{length-take-le}
use borrow.Author.Tests.{eq-eqb, lt-ltb, eqb-true, ltb-true, ltb-false}
use Rattle.layout.specs.Number.{Bytes}
use Rattle.layout.specs.Outcome.{Tables}
use Rattle.layout.proofs.Number.{bytes_take}
use Rattle.layout.proofs.Reading.{by_cases}
use Rattle.decoders.specs.declared.Settled.{Settled}
use Rattle.decoders.specs.declared.Sizes.{Sizes}
use Rattle.decoders.specs.Machine.{OPAQUE, State, worth, worths, gathered, enter, machine, Machine, fed, entering, settle, Safe}
use Rattle.decoders.proofs.Rows.{kind_at}
use Rattle.decoders.specs.Feeding.{sizes_of}
use Rattle.decoders.specs.Needs.{Enterable, Gathers, Fits, Feeds, ours}
use Rattle.decoders.proofs.Gather.{worth_below, worths_opaque, fed_within, fed_settles}
use Rattle.decoders.proofs.Ranges.{number_narrow, width_most, Open, Ready, range_open, gather_ready, ready_safe}
use Rattle.decoders.proofs.Settles.{settle_fits}
use Rattle.decoders.proofs.Feeds.{settle_taken}

-- ---- values

pub worths_below : (form value have : ℕ) (bs : List ℕ) → Bytes bs → value < 256 ^ have → worths form value have bs < 256 ^ (have + length bs)
unfolding worths
worths_below form value have [] q h = rw (add-zero have) h
worths_below form value have (b ∷ bs) q h =
    let up : have + 1 + length bs ≡ have + suc (length bs) = omega arith in
    subst (λ (n : ℕ). worths form (worth form value have b) (have + 1) bs < 256 ^ n) up (worths_below form (worth form value have b) (have + 1) bs (λ i. q (suc i)) (worth_below form value have b h (q zero)))

pow_above : (n : ℕ) → 0 < 256 ^ n
pow_above zero = omega arith
pow_above (suc n) = omega (arith, pow_above n, pow-succ' 256 n)

-- ---- the step

module _ (s : State) (t : Tables) (xs : List ℕ) (f : Feeds s t xs) (q : Bytes xs) where
  is_open : Open s
  is_open = range_open s f.range f.runs

  pub step_have : s.field.have ≤ s.field.width
  step_have = omega (arith, is_open.have)

  -- how many of the bytes are the field's
  module _ (k : ℕ) (e : k ≡ min (s.field.width - s.field.have) (length xs)) where
    pub step_part : k ≡ length (take k xs)
    step_part = sym (length-take-le k xs (omega arith))

    value_under : s.field.value < 256 ^ s.field.have
    value_under =
        by_cases (eqb s.field.form OPAQUE)
        (λ o. let z : s.field.value ≡ 0 = rw o at is_open.stands.value in omega (arith, pow_above s.field.have))
        (λ o. rw o at is_open.stands.value)

    pub step_gathers : Gathers s.field.form s.field.value s.field.have (length (take k xs))
    step_gathers =
        record {
          number = λ h. omega (arith, step_part, is_open.have, is_open.stands.narrow, number_narrow (kind_at s.field.stage) s.field.form h);
          below = value_under;
        }

    pub step_fits : Fits k s
    step_fits = omega (arith, is_open.stands.room, is_open.have, is_open.stands.narrow, width_most (kind_at s.field.stage) s.field.form)

    -- the value that the field's bytes make
    module _ (v : ℕ) (ev : v ≡ worths s.field.form s.field.value s.field.have (take k xs)) where
      valued : (n : ℕ) → n ≡ s.field.have + k → cond (eqb s.field.form OPAQUE) (eqb v 0) (ltb v (256 ^ n)) ≡ true
      valued n en =
          by_cases (eqb s.field.form OPAQUE)
          (λ o. rw o (eq-eqb v 0 (ev ∙ worths_opaque s.field.form s.field.value s.field.have (take k xs) (eqb-true s.field.form OPAQUE o) ∙ (rw o at is_open.stands.value))))
          (λ o. rw o (lt-ltb v (256 ^ n) (subst (λ (x : ℕ). x < 256 ^ n) (sym ev) (subst (λ (x : ℕ). worths s.field.form s.field.value s.field.have (take k xs) < 256 ^ x) (ap (λ (x : ℕ). s.field.have + x) (sym step_part) ∙ sym en) (worths_below s.field.form s.field.value s.field.have (take k xs) (bytes_take k xs q) value_under)))))

      gathered_as : gathered k v s ≡ gathered (length (take k xs)) (worths s.field.form s.field.value s.field.have (take k xs)) s
      gathered_as = ap₂ (λ (n w : ℕ). gathered n w s) step_part ev

      pub step_within : (r : State) → k < s.field.width - s.field.have → r ≡ gathered k v s → machine r t ≡ fed (machine s t) (ours s xs)
      step_within r less er =
          ap (λ (x : State). machine x t) (er ∙ gathered_as)
          ∙ sym (fed_within (take k xs) s t f.runs (omega (arith, step_part)))
          ∙ ap (λ (n : ℕ). fed (machine s t) (take n xs)) e

      -- its last byte is there
      module _ (r : State) (whole : s.field.width - s.field.have ≤ k) (er : r ≡ gathered k v s) where
        filled : s.field.have + k ≡ s.field.width
        filled = omega (arith, is_open.have)

        pub step_ready : Ready r
        step_ready = subst Ready (sym er) (gather_ready s k v f.range f.runs filled (valued s.field.width (sym filled)))

        pub step_safe : Safe r
        step_safe = ready_safe r step_ready

        -- what it enters finds its place
        pub step_enters : (d : Settled) → d ≡ settle r → Enterable d.entered (sizes_of t)
        step_enters d ed =
            subst (λ (x : Settled). Enterable x.entered (sizes_of t)) (sym ed)
            (subst (λ (z : Sizes). Enterable (settle r).entered z) (ap (λ (x : State). x.sizes) er ∙ f.sizes) (settle_fits r step_ready))

        pub step_settles : (d : Settled) (t' : Tables) → d ≡ settle r → t' ≡ enter d.entered t → machine d.decoder t' ≡ fed (machine s t) (ours s xs)
        unfolding entering
        step_settles d t' ed et =
            ap (λ (x : Tables). machine d.decoder x) et
            ∙ ap (λ (x : Settled). entering x t) (ed ∙ ap settle (er ∙ gathered_as))
            ∙ sym (fed_settles (take k xs) s t f.runs (omega (arith, step_part, f.some, is_open.have)) (omega (arith, step_part, filled)))
            ∙ ap (λ (n : ℕ). fed (machine s t) (take n xs)) e

  -- so many bytes are taken
  pub step_taken : (fed (machine s t) (ours s xs)).state.taken ≡ s.taken + min (s.field.width - s.field.have) (length xs)
  unfolding entering
  step_taken =
      let k = min (s.field.width - s.field.have) (length xs) in
      let part : k ≡ length (take k xs) = step_part k refl in
      by_cases (ltb k (s.field.width - s.field.have))
      (λ l. ap (λ (m : Machine). m.state.taken) (fed_within (take k xs) s t f.runs (omega (arith, part, ltb-true k (s.field.width - s.field.have) l))) ∙ ap (λ (n : ℕ). s.taken + n) (sym part))
      (λ l. ap (λ (m : Machine). m.state.taken) (fed_settles (take k xs) s t f.runs (omega (arith, part, f.some, is_open.have)) (omega (arith, part, is_open.have, ltb-false k (s.field.width - s.field.have) l))) ∙ settle_taken (gathered (length (take k xs)) _ s) ∙ ap (λ (n : ℕ). s.taken + n) (sym part))
