-- The layout's numbers, counts and lengths, read from bytes that are all there, or cut.
--     number_there, number_short     a number at a place within the limit
--     announced_cases                a first byte announces 2, 4 or 8 bytes
--     compact_empty, _first, _cut, _whole     a count or length: nothing there; its first byte is itself; further bytes missing; all there
use Prim.Native.Nat.{ℕ, ◌+◌, ◌<◌, ◌≤◌}
use mathlib.Core.Path.{◌≡◌, sym, ◌∙◌, ap}
use mathlib.Core.Bool.{Bool, true, false, cond}
use mathlib.Core.List.{List, []}
use native.Mathlib.Omega.{arith}
use lib.Dec.{leb, eqb, lit≤}
use lib.ListN.{length, take, drop, length-drop}
use borrow.Author.Tests.{le-leb, lt-leb}
use Rattle.layout.specs.Number.{Order, little, value}
use Rattle.layout.specs.Layout.{Layout, refuse, reading, behind, more, run}
use Rattle.layout.specs.Transaction.{limit, within, further_at, compact_at, announced, least}
use Rattle.layout.proofs.Reading.{field_run, field_there, field_short}

picked : (P : ℕ → Type 0) → P 2 → P 4 → P 8 → (a b : Bool) → P (cond a 2 (cond b 4 8))
picked P p₂ p₄ p₈ true _ = p₂
picked P p₂ p₄ p₈ false true = p₄
picked P p₂ p₄ p₈ false false = p₈

pub announced_cases : (P : ℕ → Type 0) → P 2 → P 4 → P 8 → (first : ℕ) → P (announced first)
announced_cases P p₂ p₄ p₈ first = picked P p₂ p₄ p₈ (eqb first 253) (eqb first 254)

module _ {A : Type 0} where
  pub within_limit : (place end : ℕ) (l : Layout A) → end ≤ limit → within place end l ≡ l
  unfolding within
  within_limit place end l h = rw (le-leb end limit h)

  module _ (place at : ℕ) (o : Order) (w : ℕ) (k : ℕ → ℕ → Layout A) (xs : List ℕ) (fits : at + w ≤ limit) where
    number_run : run (further_at place at o w k) xs ≡ field_run w xs (run (k (value o (take w xs)) (at + w)) (drop w xs))
    unfolding run further_at
    number_run = ap (λ (l : Layout A). run l xs) (within_limit place (at + w) _ fits)

    pub number_there : w ≤ length xs → run (further_at place at o w k) xs ≡ behind w (run (k (value o (take w xs)) (at + w)) (drop w xs))
    number_there h = number_run ∙ field_there w xs _ h

    pub number_short : length xs < w → run (further_at place at o w k) xs ≡ reading more (length xs) []
    number_short h = number_run ∙ field_short w xs _ h

  -- a count or length that cannot pass the limit
  module _ (at : ℕ) (k : ℕ → ℕ → Layout A) (xs : List ℕ) (fits : at + 9 ≤ limit) where
    pub compact_empty : length xs ≡ 0 → run (compact_at at k) xs ≡ reading more 0 []
    unfolding compact_at
    compact_empty e = number_short at at little 1 _ xs (omega arith) (omega arith) ∙ ap (λ (n : ℕ). reading more n []) e

    module _ (first : ℕ) (is : first ≡ value little (take 1 xs)) (there : 1 ≤ length xs) where
      pub compact_first : first ≤ 252 → run (compact_at at k) xs ≡ behind 1 (run (k first (at + 1)) (drop 1 xs))
      unfolding compact_at
      compact_first h =
          number_there at at little 1 _ xs (omega arith) there
          ∙ ap (λ (l : Layout A). behind 1 (run l (drop 1 xs))) (rw (← is, le-leb first 252 h))

      module _ (w : ℕ) (says : w ≡ announced first) (above : 252 < first) where
        -- what stands behind the first byte
        further : Layout A
        further = further_at at (at + 1) little w λ n at'. cond (leb (least w) n) (k n at') (refuse 3 at)

        compact_further : run (compact_at at k) xs ≡ behind 1 (run further (drop 1 xs))
        unfolding compact_at further
        compact_further =
            number_there at at little 1 _ xs (omega arith) there
            ∙ ap (λ (l : Layout A). behind 1 (run l (drop 1 xs))) (rw (← is, lt-leb first 252 above, ← says))

        small : at + 1 + w ≤ limit
        small = omega (arith, announced_cases (λ n. n ≤ 8) (lit≤ tt) (lit≤ tt) (lit≤ tt) first)

        pub compact_cut : length xs ≤ w → run (compact_at at k) xs ≡ reading more (length xs) []
        unfolding further
        compact_cut h =
            compact_further
            ∙ ap (behind 1) (number_short at (at + 1) little w _ (drop 1 xs) small (omega (arith, length-drop 1 xs)))
            ∙ ap (λ (n : ℕ). reading more n []) (omega (arith, length-drop 1 xs))

        pub compact_whole : (n : ℕ) → n ≡ value little (take w (drop 1 xs)) → w < length xs → run (compact_at at k) xs ≡ behind 1 (behind w (run (cond (leb (least w) n) (k n (at + 1 + w)) (refuse 3 at)) (drop w (drop 1 xs))))
        unfolding further
        compact_whole n is_n h =
            compact_further
            ∙ ap (behind 1) (number_there at (at + 1) little w _ (drop 1 xs) small (omega (arith, length-drop 1 xs)))
            ∙ ap (λ (v : ℕ). behind 1 (behind w (run (cond (leb (least w) v) (k v (at + 1 + w)) (refuse 3 at)) (drop w (drop 1 xs))))) (sym is_n)
