-- What the reader of one count answers, by what stands at its first bytes: a law for each of its returns.
use Prim.Native.Nat.{ℕ, ◌<◌, ◌≤◌}
use mathlib.Core.Path.{◌≡◌, refl, sym, ◌∙◌, ap}
use mathlib.Core.Bool.{Bool, true, false, cond}
use mathlib.Core.List.{List, ◌∷◌}
use native.Mathlib.Omega.{arith}
use lib.Dec.{leb, lit≤}
use lib.ListN.{length, take, drop}
use Rattle.layout.specs.Number.{little, value}
use Rattle.layout.specs.Layout.{accept, refuse, Answer, finished, refused, Reading, run, behind}
use Rattle.layout.specs.Transaction.{announced, least}
use Rattle.layout.specs.Outcome.{finish}
use Rattle.encode.specs.Count.{counted}
use Rattle.encode.proofs.Compact.{compact_empty, compact_first, compact_cut, compact_whole}

abbrev ended : Reading ℕ → Answer ℕ
ended r = finish r.answer r.taken

judged : (w n : ℕ) (xs : List ℕ) (short : Bool) → ended (behind 1 (behind w (run (cond short (accept n) (refuse 3 0)) xs))) ≡ cond short (finished n) (refused 3 0)
unfolding run
judged w n xs true = refl
judged w n xs false = refl

-- the first byte, and what stands behind it
pub first_value : (xs behind : List ℕ) (byte first : ℕ) → xs ≡ byte ∷ behind → first ≡ byte → first ≡ value little (take 1 xs)
unfolding value
first_value xs behind byte first e is = rw e (omega (arith, is))

pub behind_value : (xs behind : List ℕ) (byte w n : ℕ) → xs ≡ byte ∷ behind → n ≡ value little (take w behind) → n ≡ value little (take w (drop 1 xs))
behind_value xs behind byte w n e is = rw e is

module _ (xs : List ℕ) where
  pub count_empty : length xs ≡ 0 → refused 1 0 ≡ counted xs
  count_empty e = sym (ap ended (compact_empty 0 _ xs (lit≤ tt) e))

  module _ (first : ℕ) (is : first ≡ value little (take 1 xs)) (there : 1 ≤ length xs) where
    pub count_first : first ≤ 252 → finished first ≡ counted xs
    unfolding run
    count_first h = sym (ap ended (compact_first 0 _ xs (lit≤ tt) first is there h))

    module _ (w : ℕ) (says : w ≡ announced first) (above : 252 < first) where
      pub count_cut : length xs ≤ w → refused 1 (length xs) ≡ counted xs
      count_cut h = sym (ap ended (compact_cut 0 _ xs (lit≤ tt) first is there w says above h))

      pub count_whole : w < length xs → (n : ℕ) → n ≡ value little (take w (drop 1 xs)) → counted xs ≡ cond (leb (least w) n) (finished n) (refused 3 0)
      count_whole h n is_n =
          ap ended (compact_whole 0 _ xs (lit≤ tt) first is there w says above n is_n h)
          ∙ judged w n (drop w (drop 1 xs)) (leb (least w) n)
