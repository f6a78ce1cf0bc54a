-- Laws of putting bytes into a slice, and what the parts of a transaction are in the code's words.
use Prim.Native.Nat.{ℕ, ◌+◌, ◌-◌, ◌*◌, ◌/◌, ◌%◌, ◌^◌, ◌≤◌, ◌<◌}
use mathlib.Core.Path.{◌≡◌, refl, sym, ◌∙◌, ap, ap₂}
use mathlib.Core.List.{List, [], ◌∷◌, ◌++◌, append_assoc}
use native.Mathlib.Omega.{arith}
use native.Mathlib.Numerals.{add-one}
use lib.ListN.{length, take, drop, set, length-append, length-drop}
use lib.Seq.{take_at, drop_at, drop-drop, length-take-le, set_split}
use lib.Bits.{bit_or, or_zero_r, or_shifted_r}
use lib.Dec.{leb, eqb}
use mathlib.Core.Bool.{true, false, cond}
use borrow.Author.Tests.{le-leb, lt-leb, eq-eqb, ne_eqb, eqb-true, leb-false}
use Rattle.std.proofs.Common.{w16, w32}
use Rattle.std.specs.Int.{to_le_bytes, to_be_bytes}
use Rattle.layout.proofs.Reading.{by_cases}
use Rattle.layout.specs.Number.{little, big, bytes_of}
use Rattle.layout.specs.Contents.{compact_bytes, body_bytes, value_bytes, token_bytes, issuance_bytes, input_bytes, raw_vout, confused}
use Rattle.layout.specs.Writing.{over, body, ◌!◌, value_of, value_width, token_of, input_of}
use Rattle.encoders.specs.Puts.{Room, Puts, issuance_in}

clash : true ≡ false → ⊥
clash e = let z : ◌≡◌ {A = ℕ} 0 1 = cc in omega arith

pub put_byte : (b : ℕ) (out : List ℕ) (k : ℕ) → Room (b ∷ []) out k → Puts (b ∷ []) out k (set out k b) (k + 1)
unfolding over
put_byte b out k h = record { next = refl; same = set_split out k b (omega (arith, h.room)) ∙ ap (λ (l : List ℕ). take k out ++ b ∷ l) (ap (λ (n : ℕ). drop n out) (sym (add-one k)) ∙ sym (drop-drop 1 k out)) }

-- ---- one part behind the other

over_append : (xs ys z : List ℕ) → over (xs ++ ys) z ≡ xs ++ over ys (drop (length xs) z)
unfolding over
over_append xs ys z =
    append_assoc xs ys (drop (length (xs ++ ys)) z)
    ∙ ap (λ (l : List ℕ). xs ++ (ys ++ l)) (ap (λ (n : ℕ). drop n z) (length-append xs ys) ∙ sym (drop-drop (length ys) (length xs) z))

pub put_both : (xs ys : List ℕ) {out out' out'' : List ℕ} {k n m : ℕ} → Room (xs ++ ys) out k → Puts xs out k out' n → Puts ys out' n out'' m → Puts (xs ++ ys) out k out'' m
unfolding over
put_both xs ys {out} {out'} {out''} {k} {n} {m} h p q =
    let both : length (xs ++ ys) ≡ length xs + length ys = length-append xs ys in
    let d : List ℕ = drop (length xs) (drop k out) in
    let e : out' ≡ (take k out ++ xs) ++ d = p.same ∙ sym (append_assoc (take k out) xs d) in
    let front : length (take k out) ≡ k = length-take-le k out (omega (arith, h.room)) in
    let there : length (take k out ++ xs) ≡ n = length-append (take k out) xs ∙ omega (arith, p.next) in
    record {
      next = omega (arith, p.next, q.next);
      same =
          q.same
          ∙ ap₂ (λ (a b : List ℕ). a ++ over ys b) (ap (take n) e ∙ take_at (take k out ++ xs) d n there) (ap (drop n) e ∙ drop_at (take k out ++ xs) d n there)
          ∙ append_assoc (take k out) xs (over ys d)
          ∙ ap (λ (t : List ℕ). take k out ++ t) (sym (over_append xs ys (drop k out)));
    }

-- ---- numbers

cons₄ : {a a' b b' c c' d d' : ℕ} → a ≡ a' → b ≡ b' → c ≡ c' → d ≡ d' → ◌≡◌ {A = List ℕ} (a ∷ b ∷ c ∷ d ∷ []) (a' ∷ b' ∷ c' ∷ d' ∷ [])
cons₄ p q r s = cc

pub two_little : (n : ℕ) → bytes_of little 2 n ≡ to_le_bytes w16 n
unfolding bytes_of
two_little n = refl

pub four_little : (n : ℕ) → bytes_of little 4 n ≡ to_le_bytes w32 n
unfolding bytes_of
four_little n = cons₄ refl refl (omega arith) (omega arith)

pub four_big : (n : ℕ) → bytes_of big 4 n ≡ to_be_bytes w32 n
unfolding bytes_of
four_big n = cons₄ refl refl refl (omega arith)

cons₈ : {a a' b b' c c' d d' e e' f f' g g' i i' : ℕ} → a ≡ a' → b ≡ b' → c ≡ c' → d ≡ d' → e ≡ e' → f ≡ f' → g ≡ g' → i ≡ i'
    → ◌≡◌ {A = List ℕ} (a ∷ b ∷ c ∷ d ∷ e ∷ f ∷ g ∷ i ∷ []) (a' ∷ b' ∷ c' ∷ d' ∷ e' ∷ f' ∷ g' ∷ i' ∷ [])
cons₈ p q r s t u v w = cc

pub eight_big : (high low : ℕ) → low < 2 ^ 32 → bytes_of big 8 (2 ^ 32 * high + low) ≡ bytes_of big 4 high ++ bytes_of big 4 low
unfolding bytes_of
eight_big high low h =
    let n : ℕ = 2 ^ 32 * high + low in
    let a : n / 256 ^ 7 ≡ high / 256 ^ 3 = omega arith in
    let b : n / 256 ^ 6 ≡ high / 256 ^ 2 = omega arith in
    let c : n / 256 ^ 5 ≡ high / 256 ^ 1 = omega arith in
    let d : n / 256 ^ 4 ≡ high / 256 ^ 0 = omega arith in
    let e : n / 256 ^ 3 ≡ low / 256 ^ 3 + 256 * high = omega arith in
    let f : n / 256 ^ 2 ≡ low / 256 ^ 2 + 256 * (256 * high) = omega arith in
    let g : n / 256 ^ 1 ≡ low / 256 ^ 1 + 256 * (65536 * high) = omega arith in
    let i : n / 256 ^ 0 ≡ low / 256 ^ 0 + 256 * (16777216 * high) = omega arith in
    let up : (x y : ℕ) → (x + 256 * y) % 256 ≡ x % 256 = λ x y. omega arith in
    let at : (x y z : ℕ) → x ≡ y + 256 * z → x % 256 ≡ y % 256 = λ x y z q. ap (λ (m : ℕ). m % 256) q ∙ up y z in
    cons₈ (ap (λ (m : ℕ). m % 256) a) (ap (λ (m : ℕ). m % 256) b) (ap (λ (m : ℕ). m % 256) c) (ap (λ (m : ℕ). m % 256) d)
    (at (n / 256 ^ 3) (low / 256 ^ 3) high e) (at (n / 256 ^ 2) (low / 256 ^ 2) (256 * high) f)
    (at (n / 256 ^ 1) (low / 256 ^ 1) (65536 * high) g) (at (n / 256 ^ 0) (low / 256 ^ 0) (16777216 * high) i)

pub compact_one : (n : ℕ) → n ≤ 252 → compact_bytes n ≡ n ∷ []
unfolding compact_bytes
compact_one n h = simp (le-leb n 252 h)

pub compact_two : (n : ℕ) → 252 < n → n ≤ 65535 → compact_bytes n ≡ 253 ∷ bytes_of little 2 n
unfolding compact_bytes
compact_two n g h = simp (lt-leb n 252 g, le-leb n 65535 h)

pub compact_four : (n : ℕ) → 65535 < n → n < 2 ^ 32 → compact_bytes n ≡ 254 ∷ bytes_of little 4 n
unfolding compact_bytes
compact_four n g h =
    let g' : 252 < n = omega arith in
    let h' : n ≤ 4294967295 = omega arith in
    simp (lt-leb n 252 g', lt-leb n 65535 g, le-leb n 4294967295 h')

-- ---- parts of the source

pub body_length_lem : (source : List ℕ) (at n : ℕ) → at + n ≤ length source → length (body source at n) ≡ n
unfolding body
body_length_lem source at n h = length-take-le n (drop at source) (omega (arith, length-drop at source))

pub body_bytes_lem : (source : List ℕ) (at n : ℕ) → at + n ≤ length source → body_bytes (body source at n) ≡ compact_bytes n ++ body source at n
unfolding body_bytes
body_bytes_lem source at n h = ap (λ (m : ℕ). compact_bytes m ++ body source at n) (body_length_lem source at n h)

-- as the code lends it
pub body_lent : (source : List ℕ) (at n : ℕ) → body source at n ≡ take (at + n - at) (drop at source)
unfolding body
body_lent source at n = let e : n ≡ at + n - at = omega arith in ap (λ (m : ℕ). take m (drop at source)) e

-- ---- values and tokens: the prefix, and what is behind it

abbrev pub value_rest : List ℕ → ℕ → ℕ → ℕ → ℕ → List ℕ
value_rest source at prefix high low = cond (eqb prefix 0) [] (cond (eqb prefix 1) (bytes_of big 8 (2 ^ 32 * high + low)) (body source (at + 1) 32))

pub value_front : (source : List ℕ) (at prefix high low : ℕ) → value_bytes (value_of source at prefix high low) ≡ prefix ∷ value_rest source at prefix high low
unfolding value_bytes value_of
value_front source at prefix high low =
    by_cases (eqb prefix 0) (λ t. rw t (ap (λ (p : ℕ). p ∷ []) (sym (eqb-true prefix 0 t))))
    (λ t. by_cases (eqb prefix 1) (λ u. rw (t, u) (ap (λ (p : ℕ). p ∷ bytes_of big 8 (2 ^ 32 * high + low)) (sym (eqb-true prefix 1 u)))) (λ u. rw (t, u)))

pub value_null : (source : List ℕ) (at prefix high low : ℕ) → prefix ≡ 0 → value_rest source at prefix high low ≡ []
value_null source at prefix high low e = rw (eq-eqb prefix 0 e)

pub value_explicit : (source : List ℕ) (at prefix high low : ℕ) → prefix ≡ 1 → value_rest source at prefix high low ≡ bytes_of big 8 (2 ^ 32 * high + low)
value_explicit source at prefix high low e = rw (eq-eqb prefix 1 e, ne_eqb prefix 0 (λ z. absurd (omega arith)))

pub value_part_lem : (source : List ℕ) (at prefix high low : ℕ) → (prefix ≡ 0 → ⊥) → (prefix ≡ 1 → ⊥) → value_rest source at prefix high low ≡ body source (at + 1) 32
value_part_lem source at prefix high low d e = rw (ne_eqb prefix 0 d, ne_eqb prefix 1 e)

abbrev pub token_rest : List ℕ → ℕ → ℕ → List ℕ
token_rest source at prefix = cond (eqb prefix 0) [] (body source (at + 1) 32)

pub token_front : (source : List ℕ) (at prefix : ℕ) → token_bytes (token_of source at prefix) ≡ prefix ∷ token_rest source at prefix
unfolding token_bytes token_of
token_front source at prefix = by_cases (eqb prefix 0) (λ t. rw t (ap (λ (p : ℕ). p ∷ []) (sym (eqb-true prefix 0 t)))) (λ t. rw t)

pub token_null : (source : List ℕ) (at prefix : ℕ) → prefix ≡ 0 → token_rest source at prefix ≡ []
token_null source at prefix e = rw (eq-eqb prefix 0 e)

pub token_part_lem : (source : List ℕ) (at prefix : ℕ) → (prefix ≡ 0 → ⊥) → token_rest source at prefix ≡ body source (at + 1) 32
token_part_lem source at prefix d = rw (ne_eqb prefix 0 d)

-- ---- inputs

pub issuance_none : (source r : List ℕ) → r ! 2 < 2 → issuance_bytes (issuance_in source r) ≡ []
unfolding issuance_bytes
issuance_none source r h = rw (lt-leb 2 (r ! 2) h)

abbrev pub issuance_parts : List ℕ → List ℕ → ℕ → List ℕ
issuance_parts source r w =
    body source (r ! 6) 32
    ++ (body source (r ! 6 + 32) 32 ++ (value_bytes (value_of source (r ! 6 + 64) (r ! 7) (r ! 8) (r ! 9)) ++ value_bytes (value_of source (r ! 6 + 64 + w) (r ! 10) (r ! 11) (r ! 12))))

pub issuance_some : (source r : List ℕ) (w : ℕ) → 2 ≤ r ! 2 → w ≡ value_width (r ! 7) → issuance_bytes (issuance_in source r) ≡ issuance_parts source r w
unfolding issuance_bytes
issuance_some source r w h e = rw (le-leb 2 (r ! 2) h) (ap (λ (v : ℕ). issuance_parts source r v) (sym e))

raw_vout_lem : (vout flags : ℕ) → flags ≤ 3 → confused vout flags ≡ false → bit_or vout (flags * 2 ^ 30 % 2 ^ 32) ≡ raw_vout vout flags
unfolding confused
raw_vout_lem vout flags small told =
    let e : flags * 2 ^ 30 % 2 ^ 32 ≡ flags * 2 ^ 30 = omega arith in
    by_cases (eqb flags 0)
    (λ t. let z : flags ≡ 0 = eqb-true flags 0 t in let y : flags * 2 ^ 30 % 2 ^ 32 ≡ 0 = omega arith in ap (bit_or vout) y ∙ or_zero_r vout ∙ omega arith)
    (λ t.
    let low : vout < 2 ^ 30 =
    by_cases (leb 1073741824 vout) (λ u. by_cases (eqb vout 0xffff_ffff) (λ v. absurd (clash (rw (t, u, v) at told))) (λ v. absurd (clash (rw (t, u, v) at told)))) (λ u. omega (arith, leb-false 1073741824 vout u))
    in
    ap (bit_or vout) e ∙ or_shifted_r flags 30 vout low ∙ omega arith)

pub input_parts : (source r : List ℕ) → r ! 2 ≤ 3 → confused (r ! 1) (r ! 2) ≡ false
    → input_bytes (input_of source r) ≡ body source (r ! 0) 32 ++ (bytes_of little 4 (bit_or (r ! 1) (r ! 2 * 2 ^ 30 % 2 ^ 32)) ++ (body_bytes (body source (r ! 3) (r ! 4)) ++ (bytes_of little 4 (r ! 5) ++ issuance_bytes (issuance_in source r))))
unfolding input_bytes input_of
input_parts source r small told =
    ap
    (λ (raw : ℕ). body source (r ! 0) 32 ++ (bytes_of little 4 raw ++ (body_bytes (body source (r ! 3) (r ! 4)) ++ (bytes_of little 4 (r ! 5) ++ issuance_bytes (issuance_in source r)))))
    (sym (raw_vout_lem (r ! 1) (r ! 2) small told))
