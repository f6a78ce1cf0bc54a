-- Each fault of a part is given, with its number and place and with the byte that settles it, whatever follows: the other direction of Refused,
-- for every part of the layout, at every position.
use Prim.Native.Nat.{ℕ, ◌+◌, ◌^◌, ◌<◌, ◌≤◌}
use mathlib.Core.Path.{◌≡◌, refl, sym, ◌∙◌, ap}
use mathlib.Core.Bool.{Bool, false, cond, ◌&&◌, ◌||◌}
use mathlib.Core.List.{List, [], ◌∷◌, ◌++◌}
use native.Mathlib.Omega.{arith}
use lib.Dec.{leb, eqb}
use lib.ListN.{length}
use borrow.Author.Tests.{le-leb, lt-leb}
use Rattle.layout.specs.Number.{little, bytes_of}
use Rattle.layout.specs.Layout.{Layout, input, blinding_nonce, entropy, enter, refuse, Reading, reading, more, refused, Entry, Hidden, run}
use Rattle.layout.specs.Transaction.{Head, limit, entry, within, further_at, number_at, opaque_at, announced, least, compact_at, count_at, value_at, prefixed_at, issuance_at}
use Rattle.layout.specs.Contents.{Fixed, null, compact_bytes, value_bytes}
use Rattle.layout.proofs.Codes.{after, number_codes, opaque_codes}
use Rattle.layout.proofs.Number.{length_bytes}
use Rattle.layout.proofs.Reading.{by_cases, field_short}
use Rattle.layout.proofs.Compact.{one_byte}
use Rattle.layout.proofs.Parts.{compact_codes, value_codes}

abbrev Refuses : Layout Head → List ℕ → ℕ → ℕ → ℕ → Type 0
Refuses l xs number place taken = run l xs ≡ reading (refused number place) taken []

-- ---- counts and lengths

-- the first byte of a count or length, read
first_read : (at : ℕ) (first : ℕ) (k : ℕ → ℕ → Layout Head) (ys : List ℕ) → first < 256 → at + 1 ≤ limit → run (number_at at little 1 k) (first ∷ ys) ≡ after 1 [] (run (k first (at + 1)) ys)
first_read at first k ys byte room =
    let b = one_byte first byte in
    ap (λ (l : List ℕ). run (number_at at little 1 k) (l ++ ys)) (sym b)
    ∙ (number_codes (λ at. at) little 1).forth first (omega arith) at k ys (omega (arith, ap (λ (l : List ℕ). length l) b))
    ∙ ap (λ (l : List ℕ). after (length l) [] (run (k first (at + length l)) ys)) b

-- nothing of it is there
pub compact_wants : (at : ℕ) (k : ℕ → ℕ → Layout Head) → at + 1 ≤ limit → run (compact_at at k) [] ≡ reading more 0 []
unfolding compact_at further_at within run
compact_wants at k room = rw (le-leb (at + 1) limit room) refl

module _ (at first : ℕ) (k : ℕ → ℕ → Layout Head) (ys : List ℕ) (byte : first < 256) (above : 252 < first) (room : at + 1 ≤ limit) where
  further_read : run (compact_at at k) (first ∷ ys) ≡ after 1 [] (run (further_at at (at + 1) little (announced first) λ n at''. cond (leb (least (announced first)) n) (k n at'') (refuse 3 at)) ys)
  unfolding compact_at
  further_read =
      first_read at first _ ys byte room
      ∙ ap (λ (t : Bool). after 1 [] (run (cond t (k first (at + 1)) (further_at at (at + 1) little (announced first) λ n at''. cond (leb (least (announced first)) n) (k n at'') (refuse 3 at))) ys)) (lt-leb first 252 above)

  -- not all further bytes are there: more is wanted, or 2 where they would end past 4,000,000
  pub further_waits : length ys < announced first → run (compact_at at k) (first ∷ ys) ≡ cond (leb (at + 1 + announced first) limit) (reading more (1 + length ys) []) (reading (refused 2 at) 1 [])
  unfolding further_at within run
  further_waits few =
      further_read
      ∙ by_cases (leb (at + 1 + announced first) limit)
      (λ e. rw e (ap (after 1 []) (field_short (announced first) ys _ few)))
      (λ e. rw e refl)

-- 3: not in shortest form; judged after the last byte
pub not_shortest_lem : (at first n : ℕ) (k : ℕ → ℕ → Layout Head) (ys : List ℕ) → first < 256 → 252 < first → n < least (announced first) → n < 256 ^ announced first → at + 1 + announced first ≤ limit → Refuses (compact_at at k) (first ∷ (bytes_of little (announced first) n ++ ys)) 3 at (1 + announced first)
unfolding run
not_shortest_lem at first n k ys byte above less small room =
    let w = announced first in
    let long = length_bytes little w n in
    further_read at first k (bytes_of little w n ++ ys) byte above (omega arith)
    ∙ ap (after 1 []) ((number_codes (λ _. at) little w).forth n small (at + 1) (λ m at''. cond (leb (least w) m) (k m at'') (refuse 3 at)) ys (omega arith))
    ∙ ap (λ (t : Bool). after 1 [] (after (length (bytes_of little w n)) [] (run (cond t (k n (at + 1 + length (bytes_of little w n))) (refuse 3 at)) ys))) (lt-leb (least w) n less)
    ∙ ap (λ (m : ℕ). reading (refused 3 at) m []) (omega arith)

-- 4: count exceeds the records left
pub too_many_lem : (at left n : ℕ) (k : ℕ → ℕ → Layout Head) (ys : List ℕ) → n < 2 ^ 64 → left < n → at + length (compact_bytes n) ≤ limit → Refuses (count_at at left k) (compact_bytes n ++ ys) 4 at (length (compact_bytes n))
unfolding count_at run
too_many_lem at left n k ys small less room =
    compact_codes.forth n small at (λ n at'. cond (leb n left) (k n at') (refuse 4 at)) ys room
    ∙ ap (λ (t : Bool). after (length (compact_bytes n)) [] (run (cond t (k n (at + length (compact_bytes n))) (refuse 4 at)) ys)) (lt-leb n left less)
    ∙ ap (λ (m : ℕ). reading (refused 4 at) m []) (omega arith)

-- ---- prefixes and issuances

-- 5: prefix not listed. The prefix was entered; a refused reading's entries don't show.
pub value_not_listed : (at p : ℕ) (note amount : ℕ → ℕ → Entry) (k : ℕ → ℕ → Layout Head) (ys : List ℕ) → p < 256 → eqb p 0 ≡ false → eqb p 1 ≡ false → (eqb p 8 || eqb p 9) ≡ false → at + 1 ≤ limit → run (value_at at note amount k) (p ∷ ys) ≡ reading (refused 5 at) 1 (note p at ∷ [])
unfolding value_at run
value_not_listed at p note amount k ys byte e f g room = first_read at p _ ys byte room ∙ rw (e, f, g)

pub token_not_listed : (at p : ℕ) (part : Hidden) (listed : ℕ → Bool) (note : ℕ → ℕ → Entry) (k : ℕ → Layout Head) (ys : List ℕ) → p < 256 → eqb p 0 ≡ false → listed p ≡ false → at + 1 ≤ limit → run (prefixed_at at part listed note k) (p ∷ ys) ≡ reading (refused 5 at) 1 (note p at ∷ [])
unfolding prefixed_at run
token_not_listed at p part listed note k ys byte e f room = first_read at p _ ys byte room ∙ rw (e, f)

-- 6: both values of an issuance are null; given with the second one's prefix
module _ (i at : ℕ) (k : ℕ → Layout Head) (nonce entropy' ys : List ℕ) (g : Fixed 32 nonce) (h : Fixed 32 entropy') (room : at + 66 ≤ limit) where
  abbrev keys_of : ℕ → ℕ → Layout Head
  keys_of amount at₃ = value_at at₃ (λ p _. entry input i 10 (p ∷ [])) (λ high low. entry input i 11 (high ∷ low ∷ [])) λ keys at₄. cond (eqb amount 0 && eqb keys 0) (refuse 6 at) (k at₄)

  abbrev values_of : ℕ → Layout Head
  values_of at₂ = value_at at₂ (λ p _. entry input i 7 (p ∷ [])) (λ high low. entry input i 8 (high ∷ low ∷ [])) keys_of

  values_refused : (at₂ : ℕ) → at₂ + 2 ≤ limit → let r = run (values_of at₂) (0 ∷ 0 ∷ ys) in (r.answer ≡ refused 6 at) × (r.taken ≡ 2)
  unfolding run value_bytes
  values_refused at₂ e =
      let a = (value_codes (λ p _. entry input i 7 (p ∷ [])) (λ high low. entry input i 8 (high ∷ low ∷ []))).forth null tt at₂ keys_of (0 ∷ ys) (omega arith) in
      let b = (value_codes (λ p _. entry input i 10 (p ∷ [])) (λ high low. entry input i 11 (high ∷ low ∷ []))).forth null tt (at₂ + 1) (λ keys at₄. cond (eqb keys 0) (refuse 6 at) (k at₄)) ys (omega arith) in
      (ap (λ (r : Reading Head). r.answer) a ∙ ap (λ (r : Reading Head). r.answer) b, ap (λ (r : Reading Head). r.taken) a ∙ ap (λ (r : Reading Head). 1 + r.taken) b)

  pub null_issuance_lem : let r = run (issuance_at i at k) (nonce ++ (entropy' ++ (0 ∷ 0 ∷ ys))) in (r.answer ≡ refused 6 at) × (r.taken ≡ 66)
  unfolding issuance_at run
  null_issuance_lem =
      let long = g.long in
      let long' = h.long in
      let a = (opaque_codes blinding_nonce 32).forth nonce g at (λ _ at₁. enter (entry input i 6 (at ∷ [])) (opaque_at at₁ entropy 32 values_of)) (entropy' ++ (0 ∷ 0 ∷ ys)) (omega arith) in
      let b = (opaque_codes entropy 32).forth entropy' h (at + length nonce) (λ _. values_of) (0 ∷ 0 ∷ ys) (omega arith) in
      let c = values_refused (at + length nonce + length entropy') (omega arith) in (
        ap (λ (r : Reading Head). r.answer) a ∙ ap (λ (r : Reading Head). r.answer) b ∙ c.0,
        ap (λ (r : Reading Head). r.taken) a ∙ ap (λ (r : Reading Head). length nonce + r.taken) b ∙ ap (λ (n : ℕ). length nonce + (length entropy' + n)) c.1 ∙ omega arith,
      )
