-- Numbers that are kept if their moment has come: over rows, records and tables of one shape.
use Prim.Native.Nat.{ℕ, zero, suc, ◌+◌, ◌-◌}
use mathlib.Core.Path.{◌≡◌, refl, sym, ◌∙◌, ap, ap₂}
use mathlib.Core.Bool.{Bool, true, false, cond}
use mathlib.Core.List.{List, [], ◌∷◌, ◌++◌}
use native.Mathlib.Omega.{arith}
use lib.ListN.{length, get_or, replicate, length-append, length-replicate}
use Rattle.layout.specs.Contents.{flat}
use Rattle.layout.specs.Records.{placed, beside, table}
use Rattle.layout.specs.Moments.{kept}

-- as many rows, each as long as the other
abbrev pub Alike : List (List ℕ) → List (List ℕ) → Type 0
Alike [] [] = Unit {0}
Alike [] (r ∷ rows) = ⊥
Alike (m ∷ ms) [] = ⊥
Alike (m ∷ ms) (r ∷ rows) = (length m ≡ length r) × Alike ms rows

pub alike_placed : {X : Type 0} (bytes : X → List ℕ) (f g : ℕ → X → List ℕ) → ((at : ℕ) (x : X) → length (f at x) ≡ length (g at x)) → (at : ℕ) (xs : List X) → Alike (placed bytes f at xs) (placed bytes g at xs)
unfolding placed
alike_placed bytes f g e at [] = tt
alike_placed bytes f g e at (x ∷ xs) = (e at x, alike_placed bytes f g e (at + length (bytes x)) xs)

pub alike_same : (n w m : ℕ) → Alike (replicate n (replicate w m)) (replicate n (replicate w 0))
alike_same zero w m = tt
alike_same (suc n) w m = (length-replicate w m ∙ sym (length-replicate w 0), alike_same n w m)

pub alike_both : (ms rows ms' rows' : List (List ℕ)) → Alike ms rows → Alike ms' rows' → Alike (ms ++ ms') (rows ++ rows')
alike_both [] [] ms' rows' a b = b
alike_both [] (r ∷ rows) ms' rows' a b = absurd a
alike_both (m ∷ ms) [] ms' rows' a b = absurd a
alike_both (m ∷ ms) (r ∷ rows) ms' rows' a b = (a.0, alike_both ms rows ms' rows' a.1 b)

pub alike_beside : (ms rows ms' rows' : List (List ℕ)) → Alike ms rows → Alike ms' rows' → Alike (beside ms ms') (beside rows rows')
unfolding beside
alike_beside [] [] ms' rows' a b = tt
alike_beside [] (r ∷ rows) ms' rows' a b = absurd a
alike_beside (m ∷ ms) [] ms' rows' a b = absurd a
alike_beside (m ∷ ms) (r ∷ rows) [] [] a b = tt
alike_beside (m ∷ ms) (r ∷ rows) [] (r' ∷ rows') a b = absurd b
alike_beside (m ∷ ms) (r ∷ rows) (m' ∷ ms') [] a b = absurd b
alike_beside (m ∷ ms) (r ∷ rows) (m' ∷ ms') (r' ∷ rows') a b = (omega (arith, a.0, b.0, length-append m m', length-append r r'), alike_beside ms rows ms' rows' a.1 b.1)

pub alike_flat : (ms rows : List (List ℕ)) → Alike ms rows → length (flat (λ r. r) ms) ≡ length (flat (λ r. r) rows)
unfolding flat
alike_flat [] [] a = refl
alike_flat [] (r ∷ rows) a = absurd a
alike_flat (m ∷ ms) [] a = absurd a
alike_flat (m ∷ ms) (r ∷ rows) a = omega (arith, a.0, alike_flat ms rows a.1, length-append m (flat (λ r. r) ms), length-append r (flat (λ r. r) rows))

pub alike_table : (size : ℕ) (ms rows : List (List ℕ)) → Alike ms rows → length (table size ms) ≡ length (table size rows)
alike_table size ms rows a =
    let e = alike_flat ms rows a in
    length-append (flat (λ r. r) ms) _
    ∙ ap₂ ◌+◌ e (length-replicate (size - length (flat (λ r. r) ms)) 0 ∙ ap (λ (n : ℕ). size - n) e ∙ sym (length-replicate (size - length (flat (λ r. r) rows)) 0))
    ∙ sym (length-append (flat (λ r. r) rows) _)

pub kept_zero : (b : Bool) → ◌≡◌ {A = ℕ} (cond b 0 0) 0
kept_zero true = refl
kept_zero false = refl

module _ (now : ℕ → Bool) where
  -- row by row
  unfoldable pub kept_rows : List (List ℕ) → List (List ℕ) → List (List ℕ)
  kept_rows [] rows = []
  kept_rows (m ∷ ms) [] = []
  kept_rows (m ∷ ms) (r ∷ rows) = kept now m r ∷ kept_rows ms rows

  pub kept_blanks : (m n : ℕ) → kept now (replicate n m) (replicate n 0) ≡ replicate n 0
  unfolding kept
  kept_blanks m zero = refl
  kept_blanks m (suc n) = ap₂ (λ (a : ℕ) (l : List ℕ). a ∷ l) (kept_zero (now m)) (kept_blanks m n)

  pub kept_both : (ms ns ms' ns' : List ℕ) → length ms ≡ length ns → kept now (ms ++ ms') (ns ++ ns') ≡ kept now ms ns ++ kept now ms' ns'
  unfolding kept
  kept_both [] [] ms' ns' e = refl
  kept_both [] (n ∷ ns) ms' ns' e = absurd (omega arith)
  kept_both (m ∷ ms) [] ms' ns' e = absurd (omega arith)
  kept_both (m ∷ ms) (n ∷ ns) ms' ns' e = ap (λ (l : List ℕ). cond (now m) n 0 ∷ l) (kept_both ms ns ms' ns' (omega arith))

  pub kept_long : (ms ns : List ℕ) → length ms ≡ length ns → length (kept now ms ns) ≡ length ns
  unfolding kept
  kept_long [] [] e = refl
  kept_long [] (n ∷ ns) e = absurd (omega arith)
  kept_long (m ∷ ms) [] e = refl
  kept_long (m ∷ ms) (n ∷ ns) e = ap suc (kept_long ms ns (omega arith))

  pub kept_at : (ms ns : List ℕ) (i : ℕ) → length ms ≡ length ns → get_or (kept now ms ns) i 0 ≡ cond (now (get_or ms i 0)) (get_or ns i 0) 0
  unfolding kept
  kept_at [] [] i e = sym (kept_zero (now 0))
  kept_at [] (n ∷ ns) i e = absurd (omega arith)
  kept_at (m ∷ ms) [] i e = absurd (omega arith)
  kept_at (m ∷ ms) (n ∷ ns) zero e = refl
  kept_at (m ∷ ms) (n ∷ ns) (suc i) e = kept_at ms ns i (omega arith)

  pub kept_all : ((m : ℕ) → now m ≡ true) → (ms ns : List ℕ) → length ms ≡ length ns → kept now ms ns ≡ ns
  unfolding kept
  kept_all all [] [] e = refl
  kept_all all [] (n ∷ ns) e = absurd (omega arith)
  kept_all all (m ∷ ms) [] e = refl
  kept_all all (m ∷ ms) (n ∷ ns) e = ap₂ (λ (b : Bool) (l : List ℕ). cond b n 0 ∷ l) (all m) (kept_all all ms ns (omega arith))

  pub kept_placed : {X : Type 0} (bytes : X → List ℕ) (f g : ℕ → X → List ℕ) (at : ℕ) (xs : List X) → placed bytes (λ at x. kept now (f at x) (g at x)) at xs ≡ kept_rows (placed bytes f at xs) (placed bytes g at xs)
  unfolding placed kept_rows
  kept_placed bytes f g at [] = refl
  kept_placed bytes f g at (x ∷ xs) = ap (λ (rows : List (List ℕ)). kept now (f at x) (g at x) ∷ rows) (kept_placed bytes f g (at + length (bytes x)) xs)

  pub rows_same : (n w m : ℕ) → kept_rows (replicate n (replicate w m)) (replicate n (replicate w 0)) ≡ replicate n (replicate w 0)
  unfolding kept_rows
  rows_same zero w m = refl
  rows_same (suc n) w m = ap₂ (λ (r : List ℕ) (rows : List (List ℕ)). r ∷ rows) (kept_blanks m w) (rows_same n w m)

  pub rows_both : (ms rows ms' rows' : List (List ℕ)) → Alike ms rows → kept_rows (ms ++ ms') (rows ++ rows') ≡ kept_rows ms rows ++ kept_rows ms' rows'
  unfolding kept_rows
  rows_both [] [] ms' rows' a = refl
  rows_both [] (r ∷ rows) ms' rows' a = absurd a
  rows_both (m ∷ ms) [] ms' rows' a = absurd a
  rows_both (m ∷ ms) (r ∷ rows) ms' rows' a = ap (λ (l : List (List ℕ)). kept now m r ∷ l) (rows_both ms rows ms' rows' a.1)

  pub rows_beside : (ms rows ms' rows' : List (List ℕ)) → Alike ms rows → kept_rows (beside ms ms') (beside rows rows') ≡ beside (kept_rows ms rows) (kept_rows ms' rows')
  unfolding kept_rows beside
  rows_beside [] [] ms' rows' a = refl
  rows_beside [] (r ∷ rows) ms' rows' a = absurd a
  rows_beside (m ∷ ms) [] ms' rows' a = absurd a
  rows_beside (m ∷ ms) (r ∷ rows) [] rows' a = refl
  rows_beside (m ∷ ms) (r ∷ rows) (m' ∷ ms') [] a = refl
  rows_beside (m ∷ ms) (r ∷ rows) (m' ∷ ms') (r' ∷ rows') a = ap₂ (λ (l : List ℕ) (ls : List (List ℕ)). l ∷ ls) (kept_both m r m' r' a.0) (rows_beside ms rows ms' rows' a.1)

  pub rows_flat : (ms rows : List (List ℕ)) → Alike ms rows → kept now (flat (λ r. r) ms) (flat (λ r. r) rows) ≡ flat (λ r. r) (kept_rows ms rows)
  unfolding kept_rows flat kept
  rows_flat [] [] a = refl
  rows_flat [] (r ∷ rows) a = absurd a
  rows_flat (m ∷ ms) [] a = absurd a
  rows_flat (m ∷ ms) (r ∷ rows) a = kept_both m r (flat (λ r. r) ms) (flat (λ r. r) rows) a.0 ∙ ap (λ (l : List ℕ). kept now m r ++ l) (rows_flat ms rows a.1)

  pub rows_long : (ms rows : List (List ℕ)) → Alike ms rows → length (flat (λ r. r) (kept_rows ms rows)) ≡ length (flat (λ r. r) rows)
  rows_long ms rows a = ap (λ (l : List ℕ). length l) (sym (rows_flat ms rows a)) ∙ kept_long (flat (λ r. r) ms) (flat (λ r. r) rows) (alike_flat ms rows a)

  pub rows_table : (size : ℕ) (ms rows : List (List ℕ)) → Alike ms rows → kept now (table size ms) (table size rows) ≡ table size (kept_rows ms rows)
  rows_table size ms rows a =
      let behind : ℕ → List ℕ = λ n. replicate (size - n) 0 in
      kept_both (flat (λ r. r) ms) (flat (λ r. r) rows) (behind (length (flat (λ r. r) ms))) (behind (length (flat (λ r. r) rows))) (alike_flat ms rows a)
      ∙ ap₂ (λ (l b : List ℕ). l ++ b) (rows_flat ms rows a)
      (ap (λ (n : ℕ). kept now (behind n) (behind (length (flat (λ r. r) rows)))) (alike_flat ms rows a)
      ∙ kept_blanks 0 (size - length (flat (λ r. r) rows))
      ∙ ap behind (sym (rows_long ms rows a)))
