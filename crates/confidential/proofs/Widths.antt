-- The widths are the layout's. Width 0: the prefix is not listed. Width 1: nothing stands behind it. Any other: so many bytes, less 1 for the
-- prefix, stand behind it: a value's as a number if the prefix is 1, all others hidden.
use Prim.Native.Nat.{ℕ, ◌-◌, ◌/◌, ◌%◌, ◌^◌}
use mathlib.Core.Path.{◌≡◌, refl, ap, fun_ext}
use mathlib.Core.Bool.{Bool, true, false, cond, ◌||◌}
use lib.Dec.{eqb}
use Rattle.layout.specs.Number.{little, big}
use Rattle.layout.specs.Layout.{Layout, enter, refuse, Entry, Hidden, commitment_part}
use Rattle.layout.specs.Transaction.{◌▸◌, number_at, opaque_at, value_at, prefixed_at}
use Rattle.confidential.specs.Width.{value_width, prefixed_width}

module _ {A : Type 0} where
  abbrev by_width : ℕ → A → A → (ℕ → A) → A
  by_width w unlisted null behind = cond (eqb w 0) unlisted (cond (eqb w 1) null (behind (w - 1)))

  -- over the tests' values: null, explicit, listed
  value_decides : (n e l : Bool) (x : A) (y z : ℕ → A) (u : A) → cond n x (cond e (y 8) (cond l (z 32) u)) ≡ by_width (cond n 1 (cond e 9 (cond l 33 0))) u x (λ w. cond e (y w) (z w))
  value_decides true _ _ x y z u = refl
  value_decides false true _ x y z u = refl
  value_decides false false true x y z u = refl
  value_decides false false false x y z u = refl

  prefixed_decides : (n l : Bool) (x : A) (z : ℕ → A) (u : A) → cond n x (cond l (z 32) u) ≡ by_width (cond n 1 (cond l 33 0)) u x z
  prefixed_decides true _ x z u = refl
  prefixed_decides false true x z u = refl
  prefixed_decides false false x z u = refl

module _ {A : Type 0} where
  pub value_by_width : (at : ℕ) (note amount : ℕ → ℕ → Entry) (k : ℕ → ℕ → Layout A) →
      value_at at note amount k ≡
      (number_at at little 1 λ prefix at'.
      enter (note prefix at) ▸
      cond (eqb (value_width prefix) 0) (refuse 5 at) ▸
      cond (eqb (value_width prefix) 1) (k prefix at') ▸
      cond (eqb prefix 1)
      (number_at at' big (value_width prefix - 1) λ v at''.
      enter (amount (v / 2 ^ 32) (v % 2 ^ 32)) ▸
      k prefix at'')
      (opaque_at at' commitment_part (value_width prefix - 1) (k prefix)))
  unfolding value_at
  value_by_width at note amount k =
      ap (number_at at little 1)
      (fun_ext λ p. fun_ext λ at'. ap (enter (note p at))
      (value_decides (eqb p 0) (eqb p 1) (eqb p 8 || eqb p 9) _
      (λ w. number_at at' big w λ v at''. enter (amount (v / 2 ^ 32) (v % 2 ^ 32)) ▸ k p at'')
      (λ w. opaque_at at' commitment_part w (k p)) _))

  pub prefixed_by_width : (at : ℕ) (part : Hidden) (listed : ℕ → Bool) (note : ℕ → ℕ → Entry) (k : ℕ → Layout A) →
      prefixed_at at part listed note k ≡
      (number_at at little 1 λ prefix at'.
      enter (note prefix at) ▸
      cond (eqb (prefixed_width listed prefix) 0) (refuse 5 at) ▸
      cond (eqb (prefixed_width listed prefix) 1) (k at')
      (opaque_at at' part (prefixed_width listed prefix - 1) k))
  unfolding prefixed_at
  prefixed_by_width at part listed note k =
      ap (number_at at little 1)
      (fun_ext λ p. fun_ext λ at'. ap (enter (note p at))
      (prefixed_decides (eqb p 0) (listed p) _ (λ w. opaque_at at' part w k) _))
