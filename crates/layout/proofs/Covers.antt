-- Every list of bytes goes along a formed transaction: through it, up to somewhere inside it, or up to a fault at one of its sites.
use Prim.Native.Nat.{ℕ, zero, suc, ◌+◌, ◌-◌, ◌*◌, ◌^◌, ◌<◌, ◌≤◌}
use mathlib.Core.Path.{◌≡◌, refl, sym, ◌∙◌, ap, ap₂, subst}
use mathlib.Core.Bool.{Bool, true, false, ◌&&◌, ◌||◌}
use mathlib.Core.List.{List, [], ◌∷◌, ◌++◌, append_assoc, append-nil}
use mathlib.Core.Option.{none, some}
use native.Mathlib.Omega.{arith}
use lib.Dec.{leb, eqb}
use lib.ListN.{length, take, drop, get_or, length-append, take-append-drop}
use lib.Seq.{get_or-append-add, length-take-le}
use borrow.Author.Tests.{leb-true, leb-false, eqb-true, eqb-false}
use Rattle.layout.specs.Number.{Order, little, big, value, bytes_of, Bytes}
use Rattle.layout.specs.Transaction.{Room, announced, least, vout, flags, asset_prefix, nonce_prefix}
use Rattle.layout.specs.Contents.{Value, null, explicit, commitment, absent, present, InputWitness, compact_bytes, flat, body_bytes, list_bytes, value_bytes, token_bytes, issuance_bytes, input_bytes, output_bytes, input_witness_bytes, output_witness_bytes, flag_of, witnesses_bytes, contents_bytes, Every, Fixed, ValueAllowed, TokenAllowed, is_null, IssuanceAllowed, Flagged}
use Rattle.layout.specs.Records.{items_of, sum, item_count}
use Rattle.layout.specs.Fields.{Short, InputFormed, OutputFormed, InputWitnessFormed, OutputWitnessFormed, WitnessesFormed, MaybeFormed, Formed}
use Rattle.layout.specs.Sites.{What, counts, lengths, values, assets, nonces, issuances, Site, site, sites_each, body_sites, list_sites, issuance_sites, input_sites, output_sites, input_witness_sites, input_witnesses_sites, output_witness_sites, witnesses_sites, sites_of, compact, listed_at, NotShortest, Fault, not_shortest, too_many, not_listed, null_issuance, Among}
use Rattle.layout.proofs.Number.{joined, value_append, value_one, length_bytes, bytes_bytes, bytes_take, value_bound, bytes_value}
use Rattle.layout.proofs.Reading.{by_cases}
use Rattle.layout.proofs.Outpoint.{true_not_false, raw_again, raw_apart, flags_three}
use Rattle.layout.proofs.Compact.{one_byte, compact_form, short_form, announced_fits}
use Rattle.layout.proofs.Codes.{bytes_behind, every_as}
use Rattle.layout.proofs.Parts.{Body}

-- ---- a list of bytes along a part

-- a fault at one of its sites: up to it the part's own bytes, then the fault's, of which at least one is there, and all of a null issuance
pub record Faulty (at : ℕ) (xs bytes : List ℕ) (sites : List Site) : Type 0 where
  pub there : Site
  pub among : Among there sites
  pub front : List ℕ
  pub back : List ℕ
  pub parted : bytes ≡ front ++ back
  pub place : there.at ≡ at + length front
  pub reached : length front < length xs
  pub number : ℕ
  pub fault : List ℕ
  pub rest : List ℕ
  pub behind : List ℕ
  pub wrong : Fault there.what number fault
  pub same : xs ++ rest ≡ front ++ (fault ++ behind)
  pub ended : number ≡ 6 → rest ≡ []

-- through it, inside it, or with a fault in it
pub data Covered {X : Type 0} (Good : X → Type 0) (bytes : X → List ℕ) (sites : ℕ → X → List Site) (at : ℕ) (xs : List ℕ) : Type 0 where
  whole : (x : X) → Good x → (rest : List ℕ) → xs ≡ bytes x ++ rest → Covered Good bytes sites at xs
  inside : (x : X) → Good x → (rest : List ℕ) → xs ++ rest ≡ bytes x → Covered Good bytes sites at xs
  faulty : (x : X) → Good x → Faulty at xs (bytes x) (sites at x) → Covered Good bytes sites at xs

-- The sample is something to go on with, behind what stops inside or has a fault.
pub record Covers {X : Type 0} (Good : X → Type 0) (bytes : X → List ℕ) (sites : ℕ → X → List Site) : Type 0 where
  pub covers : (at : ℕ) (xs : List ℕ) → Bytes xs → Covered Good bytes sites at xs
  pub sample : X
  pub good : Good sample

-- ---- putting parts together

-- a fault in the first of two parts, and in the second
fault_left : {at : ℕ} {xs b : List ℕ} {ss : List Site} (c : List ℕ) (ts : List Site) → Faulty at xs b ss → Faulty at xs (b ++ c) (ss ++ ts)
fault_left {ss = ss} c ts w =
    let a = w.among in
    let among : Among w.there (ss ++ ts) = record { before = a.before; after = a.after ++ ts; same = ap (λ (l : List Site). l ++ ts) a.same ∙ append_assoc a.before (w.there ∷ a.after) ts } in
    let parted = ap (λ (l : List ℕ). l ++ c) w.parted ∙ append_assoc w.front w.back c in
    record { there = w.there; among = among; front = w.front; back = w.back ++ c; parted = parted; place = w.place; reached = w.reached; number = w.number; fault = w.fault; rest = w.rest; behind = w.behind; wrong = w.wrong; same = w.same; ended = w.ended }

fault_right : {at : ℕ} {xs rest c : List ℕ} {ts : List Site} (b : List ℕ) (ss : List Site) → xs ≡ b ++ rest → Faulty (at + length b) rest c ts → Faulty at xs (b ++ c) (ss ++ ts)
fault_right {rest = rest} {ts = ts} b ss e w =
    let a = w.among in
    let among : Among w.there (ss ++ ts) = record { before = ss ++ a.before; after = a.after; same = ap (λ (l : List Site). ss ++ l) a.same ∙ sym (append_assoc ss a.before (w.there ∷ a.after)) } in
    let parted = ap (λ (l : List ℕ). b ++ l) w.parted ∙ sym (append_assoc b w.front w.back) in
    let same = ap (λ (l : List ℕ). l ++ w.rest) e ∙ append_assoc b rest w.rest ∙ ap (λ (l : List ℕ). b ++ l) w.same ∙ sym (append_assoc b w.front (w.fault ++ w.behind)) in
    let long = length-append b w.front in
    record { there = w.there; among = among; front = b ++ w.front; back = w.back; parted = parted; place = omega (arith, w.place); reached = omega (arith, w.reached, ap (λ (l : List ℕ). length l) e, length-append b rest); number = w.number; fault = w.fault; rest = w.rest; behind = w.behind; wrong = w.wrong; same = same; ended = w.ended }

-- a part as other contents with the same bytes and sites
module _ {X Y : Type 0} {Good : X → Type 0} {bytes : X → List ℕ} {sites : ℕ → X → List Site} {Good' : Y → Type 0} {bytes' : Y → List ℕ} {sites' : ℕ → Y → List Site} (to : X → Y) (goods : (x : X) → Good x → Good' (to x)) (spells : (x : X) → Good x → bytes' (to x) ≡ bytes x) (places : (at : ℕ) (x : X) → Good x → sites' at (to x) ≡ sites at x) where
  as_covered : {at : ℕ} {xs : List ℕ} → Covered Good bytes sites at xs → Covered Good' bytes' sites' at xs
  as_covered (whole x g rest e) = whole (to x) (goods x g) rest (e ∙ ap (λ (l : List ℕ). l ++ rest) (sym (spells x g)))
  as_covered (inside x g rest e) = inside (to x) (goods x g) rest (e ∙ sym (spells x g))
  as_covered {at} {xs} (faulty x g w) = faulty (to x) (goods x g) (subst (λ (l : List ℕ). Faulty at xs l (sites' at (to x))) (sym (spells x g)) (subst (Faulty at xs (bytes x)) (sym (places at x g)) w))

  as_other : Covers Good bytes sites → Covers Good' bytes' sites'
  as_other p = record { covers = λ at xs h. as_covered (p.covers at xs h); sample = to p.sample; good = goods p.sample p.good }

-- one part, and then another that may depend on it
module _ {X Y : Type 0} (GoodP : X → Type 0) (bytes_p : X → List ℕ) (sites_p : ℕ → X → List Site) (GoodQ : X → Y → Type 0) (bytes_q : X → Y → List ℕ) (sites_q : X → ℕ → Y → List Site) where
  abbrev Both : ℕ → List ℕ → Type 0
  Both = Covered (λ (z : X × Y). GoodP z.0 × GoodQ z.0 z.1) (λ z. bytes_p z.0 ++ bytes_q z.0 z.1) (λ at z. sites_p at z.0 ++ sites_q z.0 (at + length (bytes_p z.0)) z.1)

  along : {at : ℕ} {xs rest : List ℕ} (x : X) → GoodP x → xs ≡ bytes_p x ++ rest → Covered (GoodQ x) (bytes_q x) (sites_q x) (at + length (bytes_p x)) rest → Both at xs
  along x g e (whole y k more d) = whole (x, y) (g, k) more (e ∙ ap (λ (l : List ℕ). bytes_p x ++ l) d ∙ sym (append_assoc (bytes_p x) (bytes_q x y) more))
  along {at} {xs} {rest} x g e (inside y k more d) =
      inside (x, y) (g, k) more (ap (λ (l : List ℕ). l ++ more) e ∙ append_assoc (bytes_p x) rest more ∙ ap (λ (l : List ℕ). bytes_p x ++ l) d)
  along {at} x g e (faulty y k w) = faulty (x, y) (g, k) (fault_right (bytes_p x) (sites_p at x) e w)

module _ {X Y : Type 0} {GoodP : X → Type 0} {bytes_p : X → List ℕ} {sites_p : ℕ → X → List Site} where
  -- behind the first as told, maybe along the second; what stops in the first goes on with a sample
  onward : {at : ℕ} {xs : List ℕ} (GoodQ : X → Y → Type 0) (bytes_q : X → Y → List ℕ) (sites_q : X → ℕ → Y → List Site)
      → Covered GoodP bytes_p sites_p at xs
      → ((x : X) → GoodP x → (y : Y) × GoodQ x y)
      → ((x : X) → GoodP x → (rest : List ℕ) → xs ≡ bytes_p x ++ rest → (Covered (GoodQ x) (bytes_q x) (sites_q x) (at + length (bytes_p x)) rest → Both GoodP bytes_p sites_p GoodQ bytes_q sites_q at xs) → Both GoodP bytes_p sites_p GoodQ bytes_q sites_q at xs)
      → Both GoodP bytes_p sites_p GoodQ bytes_q sites_q at xs
  onward GoodQ bytes_q sites_q (whole x g rest e) any on = on x g rest e (along GoodP bytes_p sites_p GoodQ bytes_q sites_q x g e)
  onward {at} {xs} GoodQ bytes_q sites_q (inside x g rest e) any on =
      let more = bytes_q x (any x g).0 in
      inside (x, (any x g).0) (g, (any x g).1) (rest ++ more) (sym (append_assoc xs rest more) ∙ ap (λ (l : List ℕ). l ++ more) e)
  onward {at} GoodQ bytes_q sites_q (faulty x g w) any on =
      let y = (any x g).0 in
      faulty (x, y) (g, (any x g).1) (fault_left (bytes_q x y) (sites_q x (at + length (bytes_p x)) y) w)

  module _ {GoodQ : X → Y → Type 0} {bytes_q : X → Y → List ℕ} {sites_q : X → ℕ → Y → List Site} where
    then_covered : {at : ℕ} {xs : List ℕ} → Bytes xs → Covered GoodP bytes_p sites_p at xs → ((x : X) → GoodP x → Covers (GoodQ x) (bytes_q x) (sites_q x)) → Both GoodP bytes_p sites_p GoodQ bytes_q sites_q at xs
    then_covered {at} h c q =
        onward GoodQ bytes_q sites_q c (λ x g. ((q x g).sample, (q x g).good))
        (λ x g rest e on. on ((q x g).covers (at + length (bytes_p x)) rest (bytes_behind (bytes_p x) rest (subst Bytes e h))))

    then : Covers GoodP bytes_p sites_p → ((x : X) → GoodP x → Covers (GoodQ x) (bytes_q x) (sites_q x)) → Covers (λ (z : X × Y). GoodP z.0 × GoodQ z.0 z.1) (λ z. bytes_p z.0 ++ bytes_q z.0 z.1) (λ at z. sites_p at z.0 ++ sites_q z.0 (at + length (bytes_p z.0)) z.1)
    then p q =
        let c = q p.sample p.good in
        record { covers = λ at xs h. then_covered h (p.covers at xs h) q; sample = (p.sample, c.sample); good = (p.good, c.good) }

-- no bytes at all
nothing : {X : Type 0} {Good : X → Type 0} {bytes : X → List ℕ} {sites : ℕ → X → List Site} (x : X) → Good x → bytes x ≡ [] → Covers Good bytes sites
nothing x g e = record { covers = λ at xs h. whole x g xs (ap (λ (l : List ℕ). l ++ xs) (sym e)); sample = x; good = g }

-- ---- so many bytes

bytes_both : (xs ys : List ℕ) → Bytes xs → Bytes ys → Bytes (xs ++ ys)
bytes_both [] ys h k i = k i
bytes_both (x ∷ xs) ys h k zero = h zero
bytes_both (x ∷ xs) ys h k (suc i) = bytes_both xs ys (λ j. h (suc j)) k i

-- filled up with zeros
abbrev filled : ℕ → List ℕ → List ℕ
filled w xs = xs ++ bytes_of little (w - length xs) 0

filled_fixed : (w : ℕ) (xs : List ℕ) → Bytes xs → length xs ≤ w → Fixed w (filled w xs)
filled_fixed w xs h few =
    let zeros = bytes_of little (w - length xs) 0 in
    record { long = omega (arith, length-append xs zeros, length_bytes little (w - length xs) 0); bytes = bytes_both xs zeros h (bytes_bytes little (w - length xs) 0) }

-- No fault can be in them, whatever sites are said to be there.
fixed_covers : {sites : ℕ → List ℕ → List Site} (w : ℕ) → Covers (Fixed w) (λ bs. bs) sites
fixed_covers w =
    record {
      covers = λ at xs h.
          by_cases (leb w (length xs))
          (λ e. whole (take w xs) (record { long = length-take-le w xs (leb-true w (length xs) e); bytes = bytes_take w xs h }) (drop w xs) (sym (take-append-drop w xs)))
          (λ e. inside (filled w xs) (filled_fixed w xs h (omega (arith, leb-false w (length xs) e))) (bytes_of little (w - length xs) 0) refl);
      sample = filled w [];
      good = filled_fixed w [] (λ i. omega arith) (omega arith);
    }

number_covers : (o : Order) (w : ℕ) → Covers (λ v. v < 256 ^ w) (bytes_of o w) (λ at v. [])
number_covers o w =
    as_other (value o)
    (λ bs g. subst (λ (n : ℕ). value o bs < 256 ^ n) g.long (value_bound o bs g.bytes))
    (λ bs g. bytes_value o w bs g.bytes g.long)
    (λ at bs g. refl)
    (fixed_covers {sites = λ at bs. []} w)

-- ---- counts and lengths

-- a fault at the part's own start, of which the first byte is there
at_once_lem : {X : Type 0} {Good : X → Type 0} {bytes : X → List ℕ} {sites : ℕ → X → List Site} {at : ℕ} {xs : List ℕ} (x : X) → Good x → (what : What) (after : List Site) → sites at x ≡ site at what ∷ after → (number : ℕ) (fault rest behind : List ℕ) → 0 < length xs → Fault what number fault → xs ++ rest ≡ fault ++ behind → (number ≡ 6 → rest ≡ []) → Covered Good bytes sites at xs
at_once_lem {bytes = bytes} {sites = sites} {at = at} x g what after e number fault rest behind begins wrong same ended =
    let among : Among (site at what) (sites at x) = record { before = []; after = after; same = e } in
    faulty x g (record { there = site at what; among = among; front = []; back = bytes x; parted = refl; place = omega arith; reached = begins; number = number; fault = fault; rest = rest; behind = behind; wrong = wrong; same = same; ended = ended })

top_least : (f : ℕ) → least (announced f) ≤ 256 ^ (announced f - 1) * 255
top_least f = by_cases (eqb f 253) (λ e. rw e (omega arith)) (λ e. by_cases (eqb f 254) (λ e'. rw (e, e') (omega arith)) (λ e'. rw (e, e') (omega arith)))

-- with a last byte of 255 they are worth enough
top : (f : ℕ) (zs : List ℕ) → length zs ≡ announced f - 1 → least (announced f) ≤ value little (zs ++ (255 ∷ []))
unfolding joined
top f zs e =
    omega (arith, top_least f, value_append little zs (255 ∷ []), ap (λ (n : ℕ). 256 ^ length zs * n) (value_one little 255), ap (λ (n : ℕ). 256 ^ n * 255) e)

-- what is announced and worth enough is in shortest form
spelled : (f : ℕ) (bs : List ℕ) → 252 < f → f < 256 → Fixed (announced f) bs → least (announced f) ≤ value little bs → (value little bs < 2 ^ 64) × (compact_bytes (value little bs) ≡ f ∷ bs)
spelled f bs above byte g enough =
    let small : value little bs < 256 ^ announced f = subst (λ (k : ℕ). value little bs < 256 ^ k) g.long (value_bound little bs g.bytes) in
    (announced_fits f (value little bs) small, compact_form f (value little bs) above byte enough small ∙ ap (λ (l : List ℕ). f ∷ l) (bytes_value little (announced f) bs g.bytes g.long))

-- In shortest form any number is there, or could still be; which of them are good is judged.
module _ (what : What) (is : compact what ≡ true) (Good : ℕ → Type 0) (zero_good : Good 0) (test : ℕ → Bool) (passes : (n : ℕ) → n < 2 ^ 64 → test n ≡ true → Good n) (fails : (n : ℕ) → n < 2 ^ 64 → test n ≡ false → Fault what 4 (compact_bytes n)) where
  abbrev Compact : ℕ → List ℕ → Type 0
  Compact = Covered Good compact_bytes (λ at n. site at what ∷ [])

  -- n is there, or will be when more bytes come
  told : {at : ℕ} (f : ℕ) (ys : List ℕ) (n : ℕ) → n < 2 ^ 64 → (more rest : List ℕ) → (f ∷ ys) ++ more ≡ compact_bytes n ++ rest → (Good n → Compact at (f ∷ ys)) → Compact at (f ∷ ys)
  told f ys n h more rest e good =
      by_cases (test n) (λ t. good (passes n h t)) (λ t. at_once_lem 0 zero_good what [] refl 4 (compact_bytes n) more rest (omega arith) (fails n h t) e (λ q. absurd (omega arith)))

  shown : {at : ℕ} (f : ℕ) (ys : List ℕ) (n : ℕ) → n < 2 ^ 64 → (rest : List ℕ) → f ∷ ys ≡ compact_bytes n ++ rest → Compact at (f ∷ ys)
  shown f ys n h rest e = told f ys n h [] rest (append-nil (f ∷ ys) ∙ e) (λ g. whole n g rest e)

  -- behind a first byte above 252: as many as it announces, or not yet
  further : {at : ℕ} (f : ℕ) (ys : List ℕ) → 252 < f → f < 256 → Bytes ys → Compact at (f ∷ ys)
  further f ys above byte h =
      let w = announced f in
      by_cases (leb w (length ys))
      (λ e.
      let bs = take w ys in
      let more = drop w ys in
      let long : length bs ≡ w = length-take-le w ys (leb-true w (length ys) e) in
      let all : Bytes bs = bytes_take w ys h in
      let same : f ∷ ys ≡ f ∷ bs ++ more = ap (λ (l : List ℕ). f ∷ l) (sym (take-append-drop w ys)) in
      by_cases (leb (least w) (value little bs))
      (λ t.
      let c = spelled f bs above byte (record { long = long; bytes = all }) (leb-true (least w) (value little bs) t) in
      shown f ys (value little bs) c.0 more (same ∙ ap (λ (l : List ℕ). l ++ more) (sym c.1)))
      (λ t.
      let wrong : NotShortest (f ∷ bs) = record { first = f; n = value little bs; byte = byte; above = above; less = leb-false (least w) (value little bs) t; same = ap (λ (l : List ℕ). f ∷ l) (sym (bytes_value little w bs all long)) } in
      at_once_lem 0 zero_good what [] refl 3 (f ∷ bs) [] more (omega arith) (not_shortest is refl wrong) (append-nil (f ∷ ys) ∙ same) (λ q. absurd (omega arith))))
      (λ e.
      let few = leb-false w (length ys) e in
      let zs = filled (w - 1) ys in
      let zeros = bytes_of little (w - 1 - length ys) 0 in
      let last : List ℕ = 255 ∷ [] in
      let full = filled_fixed (w - 1) ys h (omega arith) in
      let long : length (zs ++ last) ≡ w = omega (arith, full.long, length-append zs last) in
      let all : Bytes (zs ++ last) = bytes_both zs last full.bytes (subst Bytes (one_byte 255 (omega arith)) (bytes_bytes little 1 255)) in
      let c = spelled f (zs ++ last) above byte (record { long = long; bytes = all }) (top f zs full.long) in
      let n = value little (zs ++ last) in
      let same : (f ∷ ys) ++ (zeros ++ last) ≡ compact_bytes n = ap (λ (l : List ℕ). f ∷ l) (sym (append_assoc ys zeros last)) ∙ sym c.1 in
      told f ys n c.0 (zeros ++ last) [] (same ∙ sym (append-nil (compact_bytes n))) (λ g. inside n g (zeros ++ last) same))

  compact_covers : Covers Good compact_bytes (λ at n. site at what ∷ [])
  compact_covers = record { covers = goes; sample = 0; good = zero_good }
    where
      goes : (at : ℕ) (xs : List ℕ) → Bytes xs → Compact at xs
      goes at [] h = inside 0 zero_good (compact_bytes 0) refl
      goes at (f ∷ ys) h =
          by_cases (leb f 252)
          (λ e. let few = leb-true f 252 e in shown f ys f (omega arith) ys (ap (λ (l : List ℕ). l ++ ys) (sym (short_form f few))))
          (λ e. further f ys (leb-false f 252 e) (h 0) (λ i. h (suc i)))

-- a length can't be too much
length_covers : Covers (λ n. n < 2 ^ 64) compact_bytes (λ at n. site at lengths ∷ [])
length_covers = compact_covers lengths refl (λ n. n < 2 ^ 64) (omega arith) (λ n. true) (λ n h t. h) (λ n h t. absurd (true_not_false t))

-- a count can: it is at most the records left
count_covers : (left : ℕ) → Covers (λ n. (n < 2 ^ 64) × (n ≤ left)) compact_bytes (λ at n. site at (counts left) ∷ [])
count_covers left =
    compact_covers (counts left) refl (λ n. (n < 2 ^ 64) × (n ≤ left)) (omega arith, omega arith) (λ n. leb n left)
    (λ n h t. (h, leb-true n left t))
    (λ n h t. too_many left refl refl (record { n = n; small = h; over = leb-false n left t; same = refl }))

-- A body: its length, then so many bytes.
body_covers : Covers Body body_bytes body_sites
unfolding body_bytes
body_covers =
    as_other (λ z. z.1)
    (λ z g. (g.1.bytes, subst (λ (n : ℕ). n < 2 ^ 64) (sym g.1.long) g.0))
    (λ z g. ap (λ (n : ℕ). compact_bytes n ++ z.1) g.1.long)
    (λ at z g. refl)
    (then length_covers (λ n g. fixed_covers {sites = λ at bs. []} n))

-- ---- prefixes and what stands behind them

-- a prefix at a site, and then a part without sites
prefixed : {Y : Type 0} {Good : Y → Type 0} {bytes : Y → List ℕ} (what : What) (p : ℕ) → Covers Good bytes (λ at y. []) → (at : ℕ) (ys : List ℕ) → Bytes (p ∷ ys) → Covered (λ (z : Unit {0} × Y). Unit {0} × Good z.1) (λ z. p ∷ bytes z.1) (λ at z. site at what ∷ []) at (p ∷ ys)
prefixed what p part at ys h =
    let first : Covered (λ (u : Unit {0}). Unit {0}) (λ u. p ∷ []) (λ at u. site at what ∷ []) at (p ∷ ys) = whole tt tt ys refl in
    then_covered h first (λ u g. part)

-- a prefix that isn't listed
unlisted : {X : Type 0} {Good : X → Type 0} {bytes : X → List ℕ} {at : ℕ} (x : X) → Good x → (what : What) (p : ℕ) (ys : List ℕ) → p < 256 → listed_at what p ≡ false → Covered Good bytes (λ at x. site at what ∷ []) at (p ∷ ys)
unlisted x g what p ys byte e =
    at_once_lem x g what [] refl 5 (p ∷ []) [] ys (omega arith) (not_listed refl (record { prefix = p; byte = byte; unlisted = e; same = refl })) (append-nil (p ∷ ys)) (λ q. absurd (omega arith))

-- Asset or nonce.
token_covers : (what : What) (listed : ℕ → Bool) → ((p : ℕ) → eqb p 0 ≡ false → listed p ≡ false → listed_at what p ≡ false) → Covers (TokenAllowed listed) token_bytes (λ at x. site at what ∷ [])
unfolding token_bytes
token_covers what listed others = record { covers = goes; sample = absent; good = tt }
  where
    goes : (at : ℕ) (xs : List ℕ) → Bytes xs → Covered (TokenAllowed listed) token_bytes (λ at x. site at what ∷ []) at xs
    goes at [] h = inside absent tt (0 ∷ []) refl
    goes at (p ∷ ys) h =
        by_cases (eqb p 0)
        (λ e. whole absent tt ys (ap (λ (n : ℕ). n ∷ ys) (eqb-true p 0 e)))
        (λ e. by_cases (listed p)
        (λ t. as_covered (λ z. present p z.1) (λ z g. (t, g.1)) (λ z g. refl) (λ at z g. refl) (prefixed what p (fixed_covers 32) at ys h))
        (λ t. unlisted absent tt what p ys (h 0) (others p e t)))

abbrev value_sites : ℕ → Value → List Site
value_sites at x = site at values ∷ []

-- keys behind an amount: not both null
abbrev Keys : Value → Value → Type 0
Keys amount x = ValueAllowed x × ((is_null amount && is_null x) ≡ false)

-- Value: null, or along one that isn't. So an issuance whose amount is null can go on with keys that aren't.
null_or : {C : Type 0} (at : ℕ) (xs : List ℕ) → Bytes xs → ((rest : List ℕ) → xs ≡ 0 ∷ rest → C) → (Covered (Keys null) value_bytes value_sites at xs → C) → C
unfolding value_bytes
null_or at [] h nul other = other (inside (explicit 0) (omega arith, refl) (1 ∷ bytes_of big 8 0) refl)
null_or at (p ∷ ys) h nul other =
    by_cases (eqb p 0)
    (λ e. nul ys (ap (λ (n : ℕ). n ∷ ys) (eqb-true p 0 e)))
    (λ e. by_cases (eqb p 1)
    (λ t. other (as_covered (λ z. explicit z.1) (λ z g. (omega (arith, g.1), refl)) (λ z g. ap (λ (n : ℕ). n ∷ bytes_of big 8 z.1) (sym (eqb-true p 1 t))) (λ at z g. refl) (prefixed values p (number_covers big 8) at ys h)))
    (λ t. by_cases (eqb p 8 || eqb p 9)
    (λ u. other (as_covered (λ z. commitment p z.1) (λ z g. ((u, g.1), refl)) (λ z g. refl) (λ at z g. refl) (prefixed values p (fixed_covers 32) at ys h)))
    (λ u. other (unlisted (explicit 0) (omega arith, refl) values p ys (h 0) (rw (e, t, u) refl)))))

value_covers : Covers ValueAllowed value_bytes value_sites
unfolding value_bytes
value_covers =
    record { covers = λ at xs h. null_or at xs h (λ rest e. whole null tt rest e) (λ c. as_covered (λ x. x) (λ x g. g.0) (λ x g. refl) (λ at x g. refl) c); sample = null; good = tt }

-- ---- issuance

null_bytes : (v : Value) → is_null v ≡ true → value_bytes v ≡ 0 ∷ []
unfolding value_bytes
null_bytes null e = refl
null_bytes (explicit v) e = absurd (true_not_false (sym e))
null_bytes (commitment p part) e = absurd (true_not_false (sym e))

not_both : (a b : Bool) → b ≡ false → (a && b) ≡ false
not_both true b e = e
not_both false b e = refl

-- Blinding nonce, entropy, amount; then keys, null only if the amount isn't. Its site is where the blinding nonce starts.
issuance_covers : Covers IssuanceAllowed (λ x. issuance_bytes (some x)) (λ at x. issuance_sites at (some x))
unfolding issuance_bytes
issuance_covers =
    let front = then (fixed_covers {sites = λ at bs. site at issuances ∷ []} 32) (λ _ _. then (fixed_covers {sites = λ at bs. []} 32) (λ _ _. value_covers)) in
    let other : (amount : Value) → Keys amount (explicit 0) = λ amount. (omega arith, not_both (is_null amount) false refl) in
    as_other (λ z. record { blinding_nonce = z.0.0; entropy = z.0.1.0; amount = z.0.1.1; keys = z.1 })
    (λ z g. record { blinding_nonce = g.0.0; entropy = g.0.1.0; amount = g.0.1.1; keys = g.1.0; not_null = g.1.1 })
    (λ z g.
    let a = value_bytes z.0.1.1 in
    sym (append_assoc z.0.0 (z.0.1.0 ++ a) (value_bytes z.1) ∙ ap (λ (l : List ℕ). z.0.0 ++ l) (append_assoc z.0.1.0 a (value_bytes z.1))))
    (λ at z g.
    let n = z.0.0 in
    let e = z.0.1.0 in
    let a = value_bytes z.0.1.1 in
    let e₁ : at + 64 ≡ at + length n + length e = omega (arith, g.0.0.long, g.0.1.0.long) in
    let e₂ : at + 64 + length a ≡ at + length (n ++ (e ++ a)) = omega (arith, e₁, length-append n (e ++ a), length-append e a) in
    λ j. site at issuances ∷ site (e₁ j) values ∷ site (e₂ j) values ∷ [])
    (record {
      covers = λ at xs h.
          onward (λ x. Keys x.1.1) (λ x. value_bytes) (λ x. value_sites) (front.covers at xs h) (λ x g. (explicit 0, other x.1.1))
          (λ x g rest e on.
          let n = x.0 in
          let m = x.1.0 in
          let b = n ++ (m ++ value_bytes x.1.1) in
          let one : List ℕ = 0 ∷ [] in
          let two : List ℕ = 0 ∷ 0 ∷ [] in
          let k = bytes_behind b rest (subst Bytes e h) in
          by_cases (is_null x.1.1)
          (λ t. null_or (at + length b) rest k
          (λ more d.
          let same : xs ≡ (n ++ (m ++ two)) ++ more =
          e ∙ ap₂ (λ (a l : List ℕ). (n ++ (m ++ a)) ++ l) (null_bytes x.1.1 t) d
          ∙ append_assoc n (m ++ one) (0 ∷ more)
          ∙ ap (λ (l : List ℕ). n ++ l) (append_assoc m one (0 ∷ more) ∙ sym (append_assoc m two more))
          ∙ sym (append_assoc n (m ++ two) more) in
          let begins : 0 < length xs = omega (arith, ap (λ (l : List ℕ). length l) e, length-append b rest, ap (λ (l : List ℕ). length l) d) in
          at_once_lem (x, explicit 0) (g, other x.1.1) issuances _ refl 6 (n ++ (m ++ two)) [] more begins (null_issuance refl refl (record { nonce = n; entropy = m; nonce_long = g.0; entropy_long = g.1.0; same = refl })) (append-nil xs ∙ same) (λ q. refl))
          (λ c. on (as_covered (λ v. v) (λ v d. (d.0, not_both (is_null x.1.1) (is_null v) d.1)) (λ v d. refl) (λ at v d. refl) c)))
          (λ t. on (as_covered (λ v. v) (λ v d. (d, rw t refl)) (λ v d. refl) (λ at v d. refl) (value_covers.covers (at + length b) rest k))));
      sample = (front.sample, explicit 0);
      good = (front.good, other front.sample.1.1);
    })

-- ---- so many of one kind; each hands on what later ones need of it

module _ {X S : Type 0} (Good : S → X → Type 0) (bytes : X → List ℕ) (sites : S → ℕ → X → List Site) (next : S → X → S) (Goods : S → List X → Type 0) (places : S → ℕ → List X → List Site)
    (no_goods : (s : S) → Goods s []) (more_goods : (s : S) (x : X) (xs : List X) → Good s x → Goods (next s x) xs → Goods s (x ∷ xs)) (more_places : (s : S) (at : ℕ) (x : X) (xs : List X) → places s at (x ∷ xs) ≡ sites s at x ++ places (next s x) (at + length (bytes x)) xs) (one : (s : S) → Covers (Good s) bytes (sites s)) where
  each_covers : (n : ℕ) (s : S) → Covers (λ xs. (length xs ≡ n) × Goods s xs) (flat bytes) (places s)
  unfolding flat
  each_covers zero s = nothing [] (refl, no_goods s) refl
  each_covers (suc n) s =
      as_other (λ z. z.0 ∷ z.1)
      (λ z g. (ap suc g.1.0, more_goods s z.0 z.1 g.0 g.1.1))
      (λ z g. refl)
      (λ at z g. more_places s at z.0 z.1)
      (then (one s) (λ x g. each_covers n (next s x)))

module _ {X : Type 0} {Good : X → Type 0} {bytes : X → List ℕ} {sites : ℕ → X → List Site} where
  -- of which later ones need nothing
  all_covers : Covers Good bytes sites → (n : ℕ) → Covers (λ xs. (length xs ≡ n) × Every Good xs) (flat bytes) (sites_each bytes sites)
  unfolding sites_each
  all_covers p n = each_covers {S = Unit {0}} (λ s. Good) bytes (λ s. sites) (λ s x. s) (λ s. Every Good) (λ s. sites_each bytes sites) (λ s. tt) (λ s x xs g gs. (g, gs)) (λ s at x xs. refl) (λ s. p) n tt

  -- A count, then so many.
  list_covers : (left : ℕ) → Covers Good bytes sites → Covers (λ xs. (Short xs × Every Good xs) × (length xs ≤ left)) (list_bytes bytes) (list_sites left bytes sites)
  unfolding list_bytes
  list_covers left p =
      as_other (λ z. z.1)
      (λ z g. let e = g.1.0 in ((omega (arith, g.0.0), g.1.1), omega (arith, g.0.1)))
      (λ z g. ap (λ (n : ℕ). compact_bytes n ++ flat bytes z.1) g.1.0)
      (λ at z g. ap (λ (n : ℕ). site at (counts left) ∷ sites_each bytes sites (at + length (compact_bytes n)) z.1) g.1.0)
      (then (count_covers left) (λ n g. all_covers p n))

-- ---- input

flagged_covers : (f : ℕ) → f ≤ 3 → Covers (Flagged f) issuance_bytes issuance_sites
unfolding issuance_bytes
flagged_covers f three =
    by_cases (leb 2 f)
    (λ e. as_other some (λ x g. (leb-true 2 f e, three, g)) (λ x g. refl) (λ at x g. refl) issuance_covers)
    (λ e. nothing none (omega (arith, leb-false 2 f e)) refl)

-- Any 4 bytes are a raw vout.
input_covers : Covers InputFormed input_bytes input_sites
unfolding input_bytes
input_covers =
    as_other (λ z. record { txid = z.0; vout = vout z.1.0; flags = flags z.1.0; script = z.1.1.0; sequence = z.1.1.1.0; issuance = z.1.1.1.1 })
    (λ z g. record { allowed = record { txid = g.0; outpoint = raw_apart z.1.0 g.1.0; script = g.1.1.0.0; sequence = g.1.1.1.0; issuance = g.1.1.1.1 }; script = g.1.1.0.1 })
    (λ z g. ap (λ (r : ℕ). z.0 ++ (bytes_of little 4 r ++ (body_bytes z.1.1.0 ++ (bytes_of little 4 z.1.1.1.0 ++ issuance_bytes z.1.1.1.1)))) (raw_again z.1.0 g.1.0))
    (λ at z g.
    let b = length (body_bytes z.1.1.0) in
    let l₁ = g.0.long in
    let l₂ = length_bytes little 4 z.1.0 in
    let l₃ = length_bytes little 4 z.1.1.1.0 in
    let e₁ : at + 36 ≡ at + length z.0 + length (bytes_of little 4 z.1.0) = omega arith in
    let e₂ : at + 36 + b + 4 ≡ at + length z.0 + length (bytes_of little 4 z.1.0) + b + length (bytes_of little 4 z.1.1.1.0) = omega arith in
    λ j. body_sites (e₁ j) z.1.1.0 ++ issuance_sites (e₂ j) z.1.1.1.1)
    (then (fixed_covers {sites = λ at bs. []} 32) λ _ _.
    then (number_covers little 4) λ raw _.
    then body_covers λ _ _.
    then (number_covers little 4) λ _ _.
    flagged_covers (flags raw) (flags_three raw))

-- ---- output

output_covers : Covers OutputFormed output_bytes output_sites
unfolding output_bytes
output_covers =
    as_other (λ z. record { asset = z.0; value = z.1.0; nonce = z.1.1.0; script = z.1.1.1 })
    (λ z g. record { allowed = record { asset = g.0; value = g.1.0; nonce = g.1.1.0; script = g.1.1.1.0 }; script = g.1.1.1.1 })
    (λ z g. refl) (λ at z g. refl)
    (then (token_covers assets asset_prefix (λ p e t. rw e t)) λ _ _.
    then value_covers λ _ _.
    then (token_covers nonces nonce_prefix (λ p e t. rw e t)) λ _ _.
    body_covers)

-- ---- witnesses

-- the items fit in what earlier ones left
record Stacks (room first : ℕ) (x : InputWitness) : Type 0 where
  pub formed : InputWitnessFormed x
  pub script : length x.script_items ≤ room - first
  pub pegin : length x.pegin_items ≤ room - (first + length x.script_items)

input_witness_covers : (room first : ℕ) → Covers (Stacks room first) input_witness_bytes (input_witness_sites room first)
unfolding input_witness_bytes
input_witness_covers room first =
    as_other (λ z. record { amount_proof = z.0; keys_proof = z.1.0; script_items = z.1.1.0; pegin_items = z.1.1.1 })
    (λ z g.
    let script = g.1.1.0.0 in
    let pegin = g.1.1.1.0 in
    let all : (xs : List (List ℕ)) → Every Body xs → Every Bytes xs = every_as Body Bytes (λ bs b. b.0) in
    let short : (xs : List (List ℕ)) → Every Body xs → Every Short xs = every_as Body Short (λ bs b. b.1) in
    record {
      formed = record {
        allowed = record { amount_proof = g.0.0; keys_proof = g.1.0.0; script_items = all z.1.1.0 script.1; pegin_items = all z.1.1.1 pegin.1 };
        amount_proof = g.0.1;
        keys_proof = g.1.0.1;
        script_count = script.0;
        script_items = short z.1.1.0 script.1;
        pegin_count = pegin.0;
        pegin_items = short z.1.1.1 pegin.1;
      };
      script = g.1.1.0.1;
      pegin = g.1.1.1.1;
    })
    (λ z g. refl) (λ at z g. refl)
    (then body_covers λ _ _.
    then body_covers λ _ _.
    then (list_covers (room - first) body_covers) λ script _.
    list_covers (room - (first + length script)) body_covers)

output_witness_covers : Covers OutputWitnessFormed output_witness_bytes output_witness_sites
unfolding output_witness_bytes
output_witness_covers =
    as_other (λ z. record { surjection_proof = z.0; range_proof = z.1 }) (λ z g. record { allowed = record { surjection_proof = g.0.0; range_proof = g.1.0 }; surjection_proof = g.0.1; range_proof = g.1.1 }) (λ z g. refl) (λ at z g. refl)
    (then body_covers λ _ _. body_covers)

-- The items of all stacks together fit the room.
abbrev Stacked : ℕ → ℕ → List InputWitness → Type 0
Stacked room first xs = Every InputWitnessFormed xs × (first ≤ room → first + sum items_of xs ≤ room)

input_witnesses_covers : (room n first : ℕ) → Covers (λ xs. (length xs ≡ n) × Stacked room first xs) (flat input_witness_bytes) (input_witnesses_sites room first)
unfolding input_witnesses_sites sum
input_witnesses_covers room =
    each_covers (Stacks room) input_witness_bytes (input_witness_sites room) (λ first x. first + length x.script_items + length x.pegin_items) (Stacked room) (input_witnesses_sites room)
    (λ first. (tt, λ h. omega arith))
    (λ first x xs g gs. ((g.formed, gs.0), λ h. let on = gs.1 (omega (arith, g.script, g.pegin)) in omega arith))
    (λ first at x xs. refl)
    (input_witness_covers room)

witnesses_covers : (room ins outs : ℕ) → Covers (λ x. WitnessesFormed ins outs x × (sum items_of x.inputs ≤ room)) (λ x. witnesses_bytes (some x)) (λ at x. witnesses_sites room at (some x))
unfolding witnesses_bytes
witnesses_covers room ins outs =
    as_other (λ z. record { inputs = z.0; outputs = z.1 })
    (λ z g. (record { inputs_match = g.0.0; outputs_match = g.1.0; inputs = g.0.1.0; outputs = g.1.1 }, let fit = g.0.1.1 (omega arith) in omega arith))
    (λ z g. refl) (λ at z g. refl)
    (then (input_witnesses_covers room ins 0) λ _ _. all_covers output_witness_covers outs)

-- Only with flag 1.
maybe_covers : (room f ins outs : ℕ) → f ≤ 1 → Covers (λ x. (flag_of x ≡ f) × MaybeFormed ins outs x × (item_count x ≤ room)) witnesses_bytes (witnesses_sites room)
unfolding witnesses_bytes
maybe_covers room f ins outs h =
    by_cases (eqb f 0)
    (λ e. nothing none (sym (eqb-true f 0 e), tt, omega arith) refl)
    (λ e. as_other some (λ x g. (omega (arith, eqb-false f 0 e), g.0, g.1)) (λ x g. refl) (λ at x g. refl) (witnesses_covers room ins outs))

-- ---- the whole

-- a flag, 0 or 1, or not there yet
flag_covered : (at : ℕ) (ys : List ℕ) → (0 < length ys → get_or ys 0 0 ≤ 1) → Covered (λ f. f ≤ 1) (λ f. f ∷ []) (λ at f. []) at ys
flag_covered at [] h = inside 0 (omega arith) (0 ∷ []) refl
flag_covered at (f ∷ ys) h = whole f (h (omega arith)) ys refl

-- version and flag
head_covered : (at : ℕ) (xs : List ℕ) → Bytes xs → (5 ≤ length xs → get_or xs 4 0 ≤ 1) → Covered (λ (z : ℕ × ℕ). (z.0 < 256 ^ 4) × (z.1 ≤ 1)) (λ z. bytes_of little 4 z.0 ++ (z.1 ∷ [])) (λ at z. []) at xs
head_covered at xs h flag =
    onward (λ v f. f ≤ 1) (λ v f. f ∷ []) (λ v at f. []) ((number_covers little 4).covers at xs h) (λ v g. (0, omega arith))
    (λ v g rest e on.
    let b = bytes_of little 4 v in
    let long = length_bytes little 4 v in
    let there : get_or xs 4 0 ≡ get_or rest 0 0 = ap₂ (λ (l : List ℕ) (n : ℕ). get_or l n 0) e (omega arith) ∙ get_or-append-add b rest 0 0 in
    on (flag_covered (at + length b) rest (λ begins. subst (λ (n : ℕ). n ≤ 1) there (flag (omega (arith, ap (λ (l : List ℕ). length l) e, length-append b rest))))))

-- The flag is judged elsewhere: here it is 0 or 1, or not there yet.
pub covered : (room : Room) (xs : List ℕ) → Bytes xs → (5 ≤ length xs → get_or xs 4 0 ≤ 1) → Covered (Formed room) contents_bytes (sites_of room) 0 xs
unfolding contents_bytes
covered room xs h flag =
    as_covered (λ z. record { version = z.0.0; inputs = z.1.0; outputs = z.1.1.0; locktime = z.1.1.1.0; witnesses = z.1.1.1.1 })
    (λ z g.
    let w = g.1.1.1.1 in
    record { version = g.0.0; input_count = g.1.0.0.0; inputs = g.1.0.0.1; output_count = g.1.1.0.0.0; outputs = g.1.1.0.0.1; locktime = g.1.1.1.0; witnesses = w.1; fits = record { inputs = g.1.0.1; outputs = g.1.1.0.1; items = w.2 } })
    (λ z g.
    let more = list_bytes input_bytes z.1.0 ++ (list_bytes output_bytes z.1.1.0 ++ (bytes_of little 4 z.1.1.1.0 ++ witnesses_bytes z.1.1.1.1)) in
    ap (λ (f : ℕ). bytes_of little 4 z.0.0 ++ (f ∷ more)) g.1.1.1.1.0 ∙ sym (append_assoc (bytes_of little 4 z.0.0) (z.0.1 ∷ []) more))
    (λ at z g.
    let b = bytes_of little 4 z.0.0 ++ (z.0.1 ∷ []) in
    let ins = z.1.0 in
    let outs = z.1.1.0 in
    let l₁ = length_bytes little 4 z.0.0 in
    let l₂ = length_bytes little 4 z.1.1.1.0 in
    let e₁ : at + 5 ≡ at + length b = omega (arith, length-append (bytes_of little 4 z.0.0) (z.0.1 ∷ [])) in
    let at₃ : ℕ → ℕ = λ at. at + length (list_bytes input_bytes ins) + length (list_bytes output_bytes outs) in
    let e₂ : at₃ (at + 5) + 4 ≡ at₃ (at + length b) + length (bytes_of little 4 z.1.1.1.0) = omega arith in
    λ j. list_sites room.inputs input_bytes input_sites (e₁ j) ins ++ (list_sites room.outputs output_bytes output_sites (e₁ j + length (list_bytes input_bytes ins)) outs ++ witnesses_sites room.items (e₂ j) z.1.1.1.1))
    (then_covered h (head_covered 0 xs h flag) λ z g.
    then (list_covers room.inputs input_covers) λ ins _.
    then (list_covers room.outputs output_covers) λ outs _.
    then (number_covers little 4) λ _ _.
    maybe_covers room.items z.1 (length ins) (length outs) g.1)
