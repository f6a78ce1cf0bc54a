-- Each fault behind a sound beginning is given, by the whole reading: with its number and place, and with the byte that settles it.
use Prim.Native.Nat.{ℕ, ◌+◌, ◌-◌, ◌<◌, ◌≤◌}
use mathlib.Core.Path.{◌≡◌, refl, sym, ◌∙◌, ap, ap₂, subst}
use mathlib.Core.Bool.{Bool, true, false, cond, ◌||◌}
use mathlib.Core.List.{List, [], ◌∷◌, ◌++◌, append_assoc}
use native.Mathlib.Omega.{arith}
use lib.Dec.{leb, eqb}
use lib.ListN.{length, take, length-append}
use lib.Seq.{length-take-le}
use Rattle.layout.specs.Number.{little, bytes_of}
use Rattle.layout.specs.Layout.{Layout, Answer, refused, refuse, enter, opaque, Reading, run}
use Rattle.layout.specs.Transaction.{Head, limit, announced, within, compact_at, count_at, body_at, transaction}
use Rattle.layout.specs.Outcome.{Sizes, room_of, partial}
use Rattle.layout.specs.Contents.{Contents, contents_bytes, compact_bytes, Every}
use Rattle.layout.specs.Fields.{Formed}
use Rattle.layout.specs.Sites.{What, counts, lengths, values, assets, nonces, issuances, Site, sites_of, compact, listed_at, Fault, not_shortest, too_many, not_listed, null_issuance, Among}
use Rattle.layout.proofs.Number.{length_bytes}
use Rattle.layout.proofs.Compact.{least_fits}
use Rattle.layout.proofs.Outpoint.{true_not_false}
use Rattle.layout.proofs.Reading.{told}
use Rattle.layout.proofs.Codes.{Stand, Comes}
use Rattle.layout.proofs.Given.{not_shortest_lem, too_many_lem, value_not_listed, token_not_listed, null_issuance_lem}
use Rattle.layout.proofs.Whole.{reached}

neither : (a b : Bool) → (a || b) ≡ false → (a ≡ false) × (b ≡ false)
neither true b e = absurd (true_not_false e)
neither false b e = (refl, e)

-- none of four
none_of : (a b c d : Bool) → (a || b || c || d) ≡ false → (a ≡ false) × (b ≡ false) × (c ≡ false) × (d ≡ false)
none_of a b c d e =
    let u = neither (a || b || c) d e in
    let v = neither (a || b) c u.0 in
    let w = neither a b v.0 in
    (w.0, w.1, v.1, u.1)

-- a count or a length stands there
pub compact_stands : (what : What) (at : ℕ) (l : Layout Head) → compact what ≡ true → Stand what at l → (k : ℕ → ℕ → Layout Head) × (l ≡ compact_at at k)
unfolding count_at body_at
compact_stands (counts left) at l c s = ((λ n at'. cond (leb n left) (s.0 n at') (refuse 4 at)), s.1)
compact_stands lengths at l c s = ((λ n at'. within at (at' + n) (enter (s.1 at' n) (opaque s.0 n (s.2 n (at' + n))))), s.3)
compact_stands values at l c s = absurd (true_not_false (sym c))
compact_stands assets at l c s = absurd (true_not_false (sym c))
compact_stands nonces at l c s = absurd (true_not_false (sym c))
compact_stands issuances at l c s = absurd (true_not_false (sym c))

-- refused, with so many bytes
abbrev Given : Layout Head → List ℕ → ℕ → ℕ → Type 0
Given l bytes number place = (ys : List ℕ) → ((run l (bytes ++ ys)).answer ≡ refused number place) × ((run l (bytes ++ ys)).taken ≡ length bytes)

unlisted : (what : What) (at : ℕ) (l : Layout Head) → Stand what at l → (p : ℕ) → p < 256 → listed_at what p ≡ false → at + 1 ≤ limit → Given l (p ∷ []) 5 at
unlisted (counts left) at l s p byte off room ys = absurd (true_not_false off)
unlisted lengths at l s p byte off room ys = absurd (true_not_false off)
unlisted issuances at l s p byte off room ys = absurd (true_not_false off)
unlisted values at l s p byte off room ys =
    let n = none_of (eqb p 0) (eqb p 1) (eqb p 8) (eqb p 9) off in
    let g = ap (λ (m : Layout Head). run m (p ∷ ys)) s.3 ∙ value_not_listed at p s.0 s.1 s.2 ys byte n.0 n.1 (ap₂ ◌||◌ n.2 n.3) room in
    (ap (λ (r : Reading Head). r.answer) g, ap (λ (r : Reading Head). r.taken) g)
unlisted assets at l s p byte off room ys =
    let n = none_of (eqb p 0) (eqb p 1) (eqb p 10) (eqb p 11) off in
    let g = ap (λ (m : Layout Head). run m (p ∷ ys)) s.3 ∙ token_not_listed at p s.0 _ s.1 s.2 ys byte n.0 (ap₂ ◌||◌ (ap₂ ◌||◌ n.1 n.2) n.3) room in
    (ap (λ (r : Reading Head). r.answer) g, ap (λ (r : Reading Head). r.taken) g)
unlisted nonces at l s p byte off room ys =
    let n = none_of (eqb p 0) (eqb p 1) (eqb p 2) (eqb p 3) off in
    let g = ap (λ (m : Layout Head). run m (p ∷ ys)) s.3 ∙ token_not_listed at p s.0 _ s.1 s.2 ys byte n.0 (ap₂ ◌||◌ (ap₂ ◌||◌ n.1 n.2) n.3) room in
    (ap (λ (r : Reading Head). r.answer) g, ap (λ (r : Reading Head). r.taken) g)

-- the part that stands at a site refuses its faults
given_at : (what : What) (at : ℕ) (l : Layout Head) → Stand what at l → (number : ℕ) (fault : List ℕ) → Fault what number fault → at + length fault ≤ limit → Given l fault number at
given_at what at l s number fault (not_shortest c e f) room =
    let k = compact_stands what at l c s in
    let w = announced f.first in
    let bs = bytes_of little w f.n in
    let long = length_bytes little w f.n in
    let longer = ap (λ (b : List ℕ). length b) f.same in
    subst (λ (m : ℕ). Given l fault m at) (sym e) (subst (λ (b : List ℕ). Given l b 3 at) (sym f.same)
    (λ ys.
    let g = ap (λ (m : Layout Head). run m (f.first ∷ (bs ++ ys))) k.1 ∙ not_shortest_lem at f.first f.n k.0 ys f.byte f.above f.less (least_fits f.first f.n f.less) (omega arith) in
    (ap (λ (r : Reading Head). r.answer) g, ap (λ (r : Reading Head). r.taken) g ∙ omega arith)))
given_at what at l s number fault (too_many left c e f) room =
    let k = subst (λ (v : What). Stand v at l) c s in
    let longer = ap (λ (b : List ℕ). length b) f.same in
    subst (λ (m : ℕ). Given l fault m at) (sym e) (subst (λ (b : List ℕ). Given l b 4 at) (sym f.same)
    (λ ys.
    let g = ap (λ (m : Layout Head). run m (compact_bytes f.n ++ ys)) k.1 ∙ too_many_lem at left f.n k.0 ys f.small f.over (omega arith) in
    (ap (λ (r : Reading Head). r.answer) g, ap (λ (r : Reading Head). r.taken) g)))
given_at what at l s number fault (not_listed e f) room =
    let longer = ap (λ (b : List ℕ). length b) f.same in
    subst (λ (m : ℕ). Given l fault m at) (sym e) (subst (λ (b : List ℕ). Given l b 5 at) (sym f.same) (unlisted what at l s f.prefix f.byte f.unlisted (omega arith)))
given_at what at l s number fault (null_issuance c e f) room =
    let k = subst (λ (v : What). Stand v at l) c s in
    let nonce = f.nonce in
    let entropy = f.entropy in
    let bytes = nonce ++ (entropy ++ (0 ∷ 0 ∷ [])) in
    let long : length bytes ≡ 66 = omega (arith, length-append nonce (entropy ++ (0 ∷ 0 ∷ [])), length-append entropy (0 ∷ 0 ∷ []), f.nonce_long.long, f.entropy_long.long) in
    let longer = ap (λ (b : List ℕ). length b) f.same in
    subst (λ (m : ℕ). Given l fault m at) (sym e) (subst (λ (b : List ℕ). Given l b 6 at) (sym f.same)
    (λ ys.
    let spelled : bytes ++ ys ≡ nonce ++ (entropy ++ (0 ∷ 0 ∷ ys)) = append_assoc nonce (entropy ++ (0 ∷ 0 ∷ [])) ys ∙ ap (λ (b : List ℕ). nonce ++ b) (append_assoc entropy (0 ∷ 0 ∷ []) ys) in
    let same = ap₂ (λ (m : Layout Head) (b : List ℕ). run m b) k.2 spelled in
    let q = null_issuance_lem k.0 at k.1 nonce entropy ys f.nonce_long f.entropy_long (omega arith) in
    (ap (λ (r : Reading Head). r.answer) same ∙ q.0, ap (λ (r : Reading Head). r.taken) same ∙ q.1 ∙ sym long)))

-- Whatever follows, these bytes are refused with this number and place, and taken.
abbrev pub Refuses : Sizes → List ℕ → List ℕ → ℕ → ℕ → Type 0
Refuses z front bytes number place = (ys : List ℕ) → let o = partial z (front ++ (bytes ++ ys)) in ◌≡◌ {A = Answer Head × ℕ} (o.answer, o.taken) (refused number place, length front + length bytes)

-- one of those for which all hold
pub every_among : (P : Site → Type 0) (s : Site) (ss : List Site) → Every P ss → Among s ss → P s
every_among P s ss g a = middle a.before (subst (Every P) a.same g)
  where
    middle : (before : List Site) → Every P (before ++ (s ∷ a.after)) → P s
    middle [] h = h.0
    middle (t ∷ ts) h = middle ts h.1

-- Of every formed transaction: at each of its counts, lengths, prefixes and issuances, behind what stands before it, each fault that ends within the limit is refused as 01 says.
pub faults_given : (z : Sizes) (x : Contents) → Formed (room_of z) x → (s : Site) → Among s (sites_of (room_of z) 0 x) → (number : ℕ) (fault : List ℕ) → Fault s.what number fault → s.at + length fault ≤ limit → Refuses z (take s.at (contents_bytes x)) fault number s.at
faults_given z x g s a number fault f room ys =
    let l = transaction (room_of z) in
    let w = every_among (Comes l (contents_bytes x) 0) s (sites_of (room_of z) 0 x) (reached (room_of z) x g) a in
    let given = given_at s.what s.at w.next w.stands number fault f room ys in
    let all : s.at ≡ s.at - 0 = omega arith in
    let ends : s.at - 0 + (run w.next (fault ++ ys)).taken ≡ length (take s.at (contents_bytes x)) + length fault = omega (arith, given.1, length-take-le s.at (contents_bytes x) (omega (arith, w.upto))) in
    ap (λ (n : ℕ). told (run l (take n (contents_bytes x) ++ (fault ++ ys)))) all
    ∙ ap told (w.goes (omega arith) (fault ++ ys))
    ∙ λ j. (given.0 j, ends j)
