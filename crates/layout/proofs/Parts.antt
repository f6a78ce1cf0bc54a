-- Every part of 01's layout codes its contents.
use Prim.Native.Nat.{ℕ, suc, ◌+◌, ◌-◌, ◌/◌, ◌%◌, ◌^◌, ◌<◌, ◌≤◌}
use mathlib.Core.Path.{◌≡◌, refl, sym, ◌∙◌, ap, ap₂, subst}
use mathlib.Core.Bool.{Bool, true, false, cond, ◌&&◌, ◌||◌}
use mathlib.Core.List.{List, [], ◌∷◌, ◌++◌, append_assoc}
use mathlib.Core.Option.{Option, none, some}
use native.Mathlib.Omega.{arith}
use lib.Dec.{leb, eqb, lit<}
use lib.ListN.{length, take, drop, length-append, take-append-drop}
use lib.Seq.{length-take-le, append_snoc}
use borrow.Author.Tests.{leb-true, leb-false, le-leb, lt-leb, eqb-true}
use Rattle.layout.specs.Number.{little, big, bytes_of, Bytes}
use Rattle.layout.specs.Layout.{Layout, opaque, enter, refuse, Reading, reading, behind, noted, Entry, input, output, item, Hidden, txid, blinding_nonce, entropy, asset_part, nonce_part, commitment_part, script_body, proof_body, item_body, run}
use Rattle.layout.specs.Transaction.{Head, limit, entry, within, further_at, number_at, opaque_at, announced, least, compact_at, count_at, body_at, value_at, prefixed_at, flag_bit, vout, flags, asset_prefix, nonce_prefix, Seen, seen, issuance_at, input_at, output_at, item_at, stack_at, input_witness_at, output_witness_at}
use Rattle.layout.specs.Contents.{Value, null, explicit, commitment, Token, absent, present, Issuance, Input, Output, InputWitness, OutputWitness, compact_bytes, flat, body_bytes, list_bytes, value_bytes, token_bytes, issuance_bytes, raw_vout, input_bytes, output_bytes, input_witness_bytes, output_witness_bytes, Every, Fixed, ValueAllowed, TokenAllowed, is_null, IssuanceAllowed, Flagged}
use Rattle.layout.specs.Fields.{Short, InputFormed, OutputFormed, InputWitnessFormed, OutputWitnessFormed, Field, field, fixed, compact_fields, body_fields, value_fields, token_fields, list_fields, issuance_fields, input_fields, output_fields, input_witness_fields, output_witness_fields, limited}
use Rattle.layout.specs.Sites.{counts, lengths, values, assets, nonces, issuances, Site, site, body_sites, list_sites, issuance_sites, input_sites, output_sites, input_witness_sites, output_witness_sites}
use Rattle.layout.specs.Records.{value_prefix, token_prefix}
use Rattle.layout.proofs.Number.{length_bytes, bytes_take}
use Rattle.layout.proofs.Reading.{by_cases}
use Rattle.layout.proofs.Trace.{Event, shown, enters, entering, looked, passed, trace, goes_as, goes_both}
use Rattle.layout.proofs.Outpoint.{true_not_false, raw_small, raw_vout_lem, raw_flags, raw_again, raw_apart, flags_three, issuing}
use Rattle.layout.proofs.Compact.{one_byte, compact_form, short_form, announced_fits, forms, least_above, compact_some}
use Rattle.layout.proofs.Codes.{every_as, Along, within_traced, Part, after, Finishes, Began, Codes, Comes, standing, then, noting, passing, failing, seen_as, began_as, handing, log_all, events_all, list_codes, if_true, if_false, empty_codes, refuse_codes, settled, limited_append, within_run, within_back, within_judged, field_run_lem, field_traced, field_judged, field_back, number_codes, opaque_codes, bytes_behind}

-- ---- counts and lengths

-- the first byte, and what it makes of the rest
abbrev Furthered : ℕ → (ℕ → ℕ → Layout Head) → ℕ → ℕ → Layout Head
Furthered at k first at' = cond (leb first 252) (k first at') (further_at at at' little (announced first) λ n at''. cond (leb (least (announced first)) n) (k n at'') (refuse 3 at))

first_codes : Codes (λ at k. number_at at little 1 k) (λ v. v < 256 ^ 1) (bytes_of little 1) (λ at v. []) (λ at v. looked (bytes_of little 1 v)) (λ at v. fixed at 1) (λ at v. []) (λ v. v)
first_codes = number_codes (λ at. at) little 1

further_codes : (start f : ℕ) → Codes (λ at k. further_at start at little (announced f) λ n at'. cond (leb (least (announced f)) n) (k n at') (refuse 3 start)) (λ n. (n < 256 ^ announced f) × (leb (least (announced f)) n ≡ true)) (bytes_of little (announced f)) (λ at n. []) (λ at n. looked (bytes_of little (announced f) n)) (λ at n. field start at (at + announced f) ∷ []) (λ at n. []) (λ n. n)
further_codes start f = passing (λ n. leb (least (announced f)) n) 3 (λ at. start) (number_codes (λ at. start) little (announced f))

short_forth : (n : ℕ) → n ≤ 252 → (at : ℕ) (k : ℕ → ℕ → Layout Head) (ys : List ℕ) → at + 1 ≤ limit → run (compact_at at k) ((n ∷ []) ++ ys) ≡ after 1 [] (run (k n (at + 1)) ys)
unfolding compact_at
short_forth n h at k ys e =
    let b = one_byte n (omega arith) in
    ap (λ (l : List ℕ). run (compact_at at k) (l ++ ys)) (sym b)
    ∙ first_codes.forth n (omega arith) at (Furthered at k) ys (omega (arith, ap (λ (l : List ℕ). length l) b))
    ∙ ap (λ (l : List ℕ). after (length l) [] (run (Furthered at k n (at + length l)) ys)) b
    ∙ ap (λ (t : Bool). after 1 [] (run (cond t (k n (at + 1)) (further_at at (at + 1) little (announced n) λ m at''. cond (leb (least (announced n)) m) (k m at'') (refuse 3 at))) ys)) (le-leb n 252 h)

long_forth : (f n : ℕ) → 252 < f → f < 256 → least (announced f) ≤ n → n < 256 ^ announced f → (at : ℕ) (k : ℕ → ℕ → Layout Head) (ys : List ℕ) → at + suc (announced f) ≤ limit → run (compact_at at k) ((f ∷ bytes_of little (announced f) n) ++ ys) ≡ after (suc (announced f)) [] (run (k n (at + suc (announced f))) ys)
unfolding compact_at
long_forth f n above byte at_least small at k ys e =
    let b = one_byte f byte in
    let w = announced f in
    let bs = bytes_of little w n in
    let long : length bs ≡ w = length_bytes little w n in
    let ends : at + 1 + w ≡ at + suc w = omega arith in
    ap (λ (l : List ℕ). run (compact_at at k) (l ++ (bs ++ ys))) (sym b)
    ∙ first_codes.forth f (omega arith) at (Furthered at k) (bs ++ ys) (omega (arith, ap (λ (l : List ℕ). length l) b))
    ∙ ap (λ (l : List ℕ). after (length l) [] (run (Furthered at k f (at + length l)) (bs ++ ys))) b
    ∙ ap (λ (t : Bool). after 1 [] (run (cond t (k f (at + 1)) (further_at at (at + 1) little w λ m at''. cond (leb (least w) m) (k m at'') (refuse 3 at))) (bs ++ ys))) (lt-leb f 252 above)
    ∙ ap (after 1 []) ((further_codes at f).forth n (small, le-leb (least w) n at_least) (at + 1) k ys (omega arith))
    ∙ ap₂ (λ (m p : ℕ). after 1 [] (after m [] (run (k n p) ys))) long (ap (λ (m : ℕ). at + 1 + m) long ∙ ends)
    ∙ (let r = run (k n (at + suc w)) ys in ap (λ (m : ℕ). reading r.answer m r.log) (omega arith))

Forth : ℕ → (ℕ → ℕ → Layout Head) → List ℕ → ℕ → List ℕ → Type 0
Forth at k ys n bs = at + length bs ≤ limit → run (compact_at at k) (bs ++ ys) ≡ after (length bs) [] (run (k n (at + length bs)) ys)

compact_forth : (n : ℕ) → n < 2 ^ 64 → (at : ℕ) (k : ℕ → ℕ → Layout Head) (ys : List ℕ) → Forth at k ys n (compact_bytes n)
unfolding Forth
compact_forth n g at k ys =
    forms (Forth at k ys n) n g (λ h. short_forth n h at k ys)
    (λ f above byte at_least small.
    subst (λ (m : ℕ). at + suc m ≤ limit → run (compact_at at k) ((f ∷ bytes_of little (announced f) n) ++ ys) ≡ after (suc m) [] (run (k n (at + suc m)) ys)) (sym (length_bytes little (announced f) n)) (long_forth f n above byte at_least small at k ys))

-- the same of the trace
Traced : ℕ → (ℕ → ℕ → Layout Head) → List ℕ → ℕ → List ℕ → Type 0
Traced at k ys n bs = Along at bs (trace (compact_at at k) (bs ++ ys)) (looked bs) (trace (k n (at + length bs)) ys)

first_traced : (at f : ℕ) (k : ℕ → ℕ → Layout Head) (ys : List ℕ) → f < 256 → (t : Bool) → leb f 252 ≡ t → Along at (f ∷ []) (trace (compact_at at k) (f ∷ ys)) (looked (f ∷ [])) (trace (cond t (k f (at + 1)) (further_at at (at + 1) little (announced f) λ n at''. cond (leb (least (announced f)) n) (k n at'') (refuse 3 at))) ys)
unfolding compact_at
first_traced at f k ys byte t e =
    goes_as refl refl (ap (λ (t : Bool). trace (cond t (k f (at + 1)) (further_at at (at + 1) little (announced f) λ n at''. cond (leb (least (announced f)) n) (k n at'') (refuse 3 at))) ys) e)
    (subst (λ (l : List ℕ). Along at l (trace (number_at at little 1 (Furthered at k)) (l ++ ys)) (looked l) (trace (Furthered at k f (at + length l)) ys)) (one_byte f byte)
    (first_codes.traced f (omega arith) at (Furthered at k) ys))

short_traced : (n : ℕ) → n ≤ 252 → (at : ℕ) (k : ℕ → ℕ → Layout Head) (ys : List ℕ) → Traced at k ys n (n ∷ [])
unfolding Traced
short_traced n h at k ys = first_traced at n k ys (omega arith) true (le-leb n 252 h)

long_traced : (f n : ℕ) → 252 < f → f < 256 → least (announced f) ≤ n → n < 256 ^ announced f → (at : ℕ) (k : ℕ → ℕ → Layout Head) (ys : List ℕ) → Traced at k ys n (f ∷ bytes_of little (announced f) n)
unfolding Traced
long_traced f n above byte at_least small at k ys =
    let w = announced f in
    let bs = bytes_of little w n in
    let ends : at + 1 + length bs ≡ at + suc (length bs) = omega arith in
    goes_as refl refl (ap (λ (p : ℕ). trace (k n p) ys) ends)
    (goes_both _ (looked (f ∷ [])) _ (looked bs) _ (λ h. omega arith) (λ h. omega arith)
    (first_traced at f k (bs ++ ys) byte false (lt-leb f 252 above))
    ((further_codes at f).traced n (small, le-leb (least w) n at_least) (at + 1) k ys))

-- and where it would end past the limit
Judged : ℕ → (ℕ → ℕ → Layout Head) → List ℕ → ℕ → List ℕ → Type 0
Judged at k ys n bs = settled at (run (compact_at at k) (bs ++ ys)) ≡ limited (field at at (at + 1) ∷ cond (leb n 252) [] (field at (at + 1) (at + length bs) ∷ [])) (settled (at + length bs) (run (k n (at + length bs)) ys))

short_judged : (n : ℕ) → n ≤ 252 → (at : ℕ) (k : ℕ → ℕ → Layout Head) (ys : List ℕ) → Judged at k ys n (n ∷ [])
unfolding Judged compact_at
short_judged n h at k ys =
    let b = one_byte n (omega arith) in
    let t = le-leb n 252 h in
    ap (λ (l : List ℕ). settled at (run (compact_at at k) (l ++ ys))) (sym b)
    ∙ first_codes.judged n (omega arith) at (Furthered at k) ys
    ∙ ap (λ (l : List ℕ). limited (fixed at 1) (settled (at + length l) (run (Furthered at k n (at + length l)) ys))) b
    ∙ ap (λ (t : Bool). limited (fixed at 1) (settled (at + 1) (run (cond t (k n (at + 1)) (further_at at (at + 1) little (announced n) λ m at''. cond (leb (least (announced n)) m) (k m at'') (refuse 3 at))) ys))) t
    ∙ ap (λ (t : Bool). limited (field at at (at + 1) ∷ cond t [] (field at (at + 1) (at + 1) ∷ [])) (settled (at + 1) (run (k n (at + 1)) ys))) (sym t)

long_judged : (f n : ℕ) → 252 < f → f < 256 → least (announced f) ≤ n → n < 256 ^ announced f → (at : ℕ) (k : ℕ → ℕ → Layout Head) (ys : List ℕ) → Judged at k ys n (f ∷ bytes_of little (announced f) n)
unfolding Judged compact_at limited
long_judged f n above byte at_least small at k ys =
    let b = one_byte f byte in
    let w = announced f in
    let bs = bytes_of little w n in
    let long : length bs ≡ w = length_bytes little w n in
    let e : at + 1 + length bs ≡ at + length (f ∷ bs) = omega arith in
    let not_short : leb n 252 ≡ false = lt-leb n 252 (omega (arith, least_above w)) in
    ap (λ (l : List ℕ). settled at (run (compact_at at k) (l ++ (bs ++ ys)))) (sym b)
    ∙ first_codes.judged f (omega arith) at (Furthered at k) (bs ++ ys)
    ∙ ap (λ (l : List ℕ). limited (fixed at 1) (settled (at + length l) (run (Furthered at k f (at + length l)) (bs ++ ys)))) b
    ∙ ap (λ (t : Bool). limited (fixed at 1) (settled (at + 1) (run (cond t (k f (at + 1)) (further_at at (at + 1) little w λ m at''. cond (leb (least w) m) (k m at'') (refuse 3 at))) (bs ++ ys)))) (lt-leb f 252 above)
    ∙ ap (limited (fixed at 1)) ((further_codes at f).judged n (small, le-leb (least w) n at_least) (at + 1) k ys)
    ∙ ap (λ (m : ℕ). limited (fixed at 1) (limited (field at (at + 1) (at + 1 + m) ∷ []) (settled (at + 1 + length bs) (run (k n (at + 1 + length bs)) ys)))) (sym long)
    ∙ ap (λ (m : ℕ). limited (fixed at 1) (limited (field at (at + 1) m ∷ []) (settled m (run (k n m) ys)))) e
    ∙ ap (λ (t : Bool). limited (field at at (at + 1) ∷ cond t [] (field at (at + 1) (at + length (f ∷ bs)) ∷ [])) (settled (at + length (f ∷ bs)) (run (k n (at + length (f ∷ bs))) ys))) (sym not_short)

pub compact_codes : Codes (λ at k. compact_at at k) (λ n. n < 2 ^ 64) compact_bytes (λ at n. []) (λ at n. looked (compact_bytes n)) compact_fields (λ at n. []) (λ n. n)
unfolding compact_at Forth Traced Judged
compact_codes =
    record {
      forth = λ n g at k ys h. compact_forth n g at k ys h;
      back = λ at k xs a bs h f.
          let u = first_codes.back at (Furthered at k) xs a bs h f in
          let first = u.held in
          let b = one_byte first u.good in
          let rest_bytes = bytes_behind (bytes_of little 1 first) u.rest (subst Bytes u.same bs) in
          let far : Layout Head = further_at at (at + 1) little (announced first) λ m at''. cond (leb (least (announced first)) m) (k m at'') (refuse 3 at) in
          let goes : Finishes (cond (leb first 252) (k first (at + 1)) far) u.rest a = subst (λ (l : List ℕ). Finishes (Furthered at k first (at + length l)) u.rest a) b u.goes in
          let start : xs ≡ first ∷ u.rest = u.same ∙ ap (λ (l : List ℕ). l ++ u.rest) b in
          by_cases (leb first 252)
          (λ e.
          let form : compact_bytes first ≡ first ∷ [] = short_form first (leb-true first 252 e) in
          record {
            held = first;
            rest = u.rest;
            good = omega (arith, u.good);
            same = start ∙ ap (λ (l : List ℕ). l ++ u.rest) (sym form);
            ends = subst (λ (l : List ℕ). at + length l ≤ limit) (b ∙ sym form) u.ends;
            goes = subst (λ (l : List ℕ). Finishes (k first (at + length l)) u.rest a) (sym form) (subst (λ (t : Bool). Finishes (cond t (k first (at + 1)) far) u.rest a) e goes);
          })
          (λ e.
          let in_limit : at + 1 ≤ limit = subst (λ (l : List ℕ). at + length l ≤ limit) b u.ends in
          let v = (further_codes at first).back (at + 1) k u.rest a rest_bytes in_limit (subst (λ (t : Bool). Finishes (cond t (k first (at + 1)) far) u.rest a) e goes) in
          let n = v.held in
          let w = announced first in
          let at_least : least w ≤ n = leb-true (least w) n v.good.1 in
          let form : compact_bytes n ≡ first ∷ bytes_of little w n = compact_form first n (leb-false first 252 e) u.good at_least v.good.0 in
          let long : at + 1 + length (bytes_of little w n) ≡ at + length (first ∷ bytes_of little w n) = omega arith in
          record {
            held = n;
            rest = v.rest;
            good = announced_fits first n v.good.0;
            same = start ∙ ap (λ (l : List ℕ). first ∷ l) v.same ∙ ap (λ (l : List ℕ). l ++ v.rest) (sym form);
            ends = subst (λ (l : List ℕ). at + length l ≤ limit) (sym form) (subst (λ (m : ℕ). m ≤ limit) long v.ends);
            goes = subst (λ (l : List ℕ). Finishes (k n (at + length l)) v.rest a) (sym form) (subst (λ (m : ℕ). Finishes (k n m) v.rest a) long v.goes);
          });
      traced = λ n g at k ys. forms (Traced at k ys n) n g (λ h. short_traced n h at k ys) (λ f above byte at_least small. long_traced f n above byte at_least small at k ys);
      judged = λ n g at k ys. forms (Judged at k ys n) n g (λ h. short_judged n h at k ys) (λ f above byte at_least small. long_judged f n above byte at_least small at k ys);
      reach = λ n g at k. tt;
    }

-- Count: not above the records left.
pub count_codes : (left : ℕ) → Codes (λ at k. count_at at left k) (λ n. (n < 2 ^ 64) × (leb n left ≡ true)) compact_bytes (λ at n. []) (λ at n. looked (compact_bytes n)) compact_fields (λ at n. site at (counts left) ∷ []) (λ n. n)
unfolding count_at
count_codes left = standing (counts left) (λ at k. (k, refl)) (passing (λ n. leb n left) 4 (λ at. at) compact_codes)

-- ---- bodies

abbrev pub body_log : (ℕ → ℕ → Entry) → ℕ → List ℕ → List Entry
body_log note at xs = note (at + length (compact_bytes (length xs))) (length xs) ∷ []

-- its length is looked at, and entered; its bytes never are
abbrev pub body_events : (ℕ → ℕ → Entry) → ℕ → List ℕ → List Event
body_events note at xs = looked (compact_bytes (length xs)) ++ (enters (note (at + length (compact_bytes (length xs))) (length xs)) ∷ passed xs)

-- bytes, and 8 bytes can tell how many
abbrev pub Body : List ℕ → Type 0
Body xs = Bytes xs × Short xs

pub body_codes : (h : Hidden) (note : ℕ → ℕ → Entry) → Codes (λ at k. body_at at h note k) Body body_bytes (body_log note) (body_events note) body_fields body_sites (λ xs. length xs)
unfolding body_at body_bytes run trace
body_codes hid note =
    standing lengths (λ at k. (hid, note, k, refl)) (record {
      forth = λ xs g at k ys h.
          let n = length xs in
          let c = compact_bytes n in
          let both : length (c ++ xs) ≡ length c + n = length-append c xs in
          let go : ℕ → ℕ → Layout Head = λ n at'. within at (at' + n) (enter (note at' n) (opaque hid n (k n (at' + n)))) in
          let e : at + length c + n ≡ at + length (c ++ xs) = omega arith in
          ap (run (compact_at at go)) (append_assoc c xs ys)
          ∙ compact_codes.forth n g.1 at go (xs ++ ys) (omega arith)
          ∙ ap (λ (l : Layout Head). after (length c) [] (run l (xs ++ ys))) (within_run at (at + length c + n) (enter (note (at + length c) n) (opaque hid n (k n (at + length c + n)))) (omega arith))
          ∙ ap (λ (r : Reading Head). after (length c) [] (noted (note (at + length c) n) r)) (field_run_lem n (λ _. k n (at + length c + n)) xs ys refl)
          ∙ ap (λ (m : ℕ). after (length c) [] (noted (note (at + length c) n) (behind n (run (k n m) ys)))) e
          ∙ (let r = run (k n (at + length (c ++ xs))) ys in ap (λ (m : ℕ). reading r.answer m (note (at + length c) n ∷ r.log)) (omega arith));
      back = λ at k xs a bs h f.
          let go : ℕ → ℕ → Layout Head = λ n at'. within at (at' + n) (enter (note at' n) (opaque hid n (k n (at' + n)))) in
          let u = compact_codes.back at go xs a bs h f in
          let n = u.held in
          let c = compact_bytes n in
          let rest_bytes = bytes_behind c u.rest (subst Bytes u.same bs) in
          let at' = at + length c in
          let in_limit = within_back at (at' + n) (enter (note at' n) (opaque hid n (k n (at' + n)))) u.rest a u.goes in
          let there = field_back n u.rest (run (k n (at' + n)) (drop n u.rest)) a in_limit.1 in
          let x = take n u.rest in
          let long : n ≡ length x = sym (length-take-le n u.rest there.0) in
          let c_same : c ≡ compact_bytes (length x) = ap compact_bytes long in
          let e : at' + n ≡ at + length (compact_bytes (length x) ++ x) = omega (arith, length-append (compact_bytes (length x)) x, ap (λ (l : List ℕ). length l) c_same) in
          record {
            held = x;
            rest = drop n u.rest;
            good = (bytes_take n u.rest rest_bytes, omega (arith, u.good, long));
            same = u.same ∙ ap₂ (λ (b r : List ℕ). b ++ r) c_same (sym (take-append-drop n u.rest)) ∙ sym (append_assoc (compact_bytes (length x)) x (drop n u.rest));
            ends = subst (λ (m : ℕ). m ≤ limit) e in_limit.0;
            goes = subst (λ (m : ℕ). Finishes (k (length x) m) (drop n u.rest) a) e (subst (λ (m : ℕ). Finishes (k m (at' + n)) (drop n u.rest) a) long there.1);
          };
      traced = λ xs g at k ys.
          let n = length xs in
          let c = compact_bytes n in
          let both : length (c ++ xs) ≡ length c + n = length-append c xs in
          let go : ℕ → ℕ → Layout Head = λ n at'. within at (at' + n) (enter (note at' n) (opaque hid n (k n (at' + n)))) in
          let at' = at + length c in
          let e : at' + n ≡ at + length (c ++ xs) = omega arith in
          goes_as (ap (trace (compact_at at go)) (append_assoc c xs ys)) refl (ap (λ (m : ℕ). trace (k n m) ys) e)
          (goes_both _ (looked c) _ (enters (note at' n) ∷ passed xs) _ (λ h. omega arith) (λ h. omega arith)
          (compact_codes.traced n g.1 at go (xs ++ ys))
          (within_traced at (at' + n) (enter (note at' n) (opaque hid n (k n (at' + n)))) (xs ++ ys) (enters (note at' n) ∷ passed xs) (trace (k n (at' + n)) ys)
          (λ h. ap (λ (t : List Event). enters (note at' n) ∷ t) (field_traced true n (λ _. k n (at' + n)) xs ys refl))));
      judged = λ xs g at k ys.
          let n = length xs in
          let c = compact_bytes n in
          let both : length (c ++ xs) ≡ length c + n = length-append c xs in
          let go : ℕ → ℕ → Layout Head = λ n at'. within at (at' + n) (enter (note at' n) (opaque hid n (k n (at' + n)))) in
          let at' = at + length c in
          let e : at' + n ≡ at + length (c ++ xs) = omega arith in
          ap (λ (l : List ℕ). settled at (run (compact_at at go) l)) (append_assoc c xs ys)
          ∙ compact_codes.judged n g.1 at go (xs ++ ys)
          ∙ ap (limited (compact_fields at n)) (within_judged at at' (at' + n) (enter (note at' n) (opaque hid n (k n (at' + n)))) (xs ++ ys) _ (λ h. field_judged at' n (λ _. k n (at' + n)) xs ys refl))
          ∙ sym (limited_append (compact_fields at n) (field at at' (at' + n) ∷ []) (settled (at' + n) (run (k n (at' + n)) ys)))
          ∙ ap (λ (m : ℕ). limited (body_fields at xs) (settled m (run (k n m) ys))) e;
      reach = λ xs g at k. tt;
    })

-- ---- prefixes and what stands behind them

prefix_codes : (note : ℕ → ℕ → Entry) → Codes (λ at k. number_at at little 1 λ p at'. enter (note p at) (k p at')) (λ p. p < 256 ^ 1) (bytes_of little 1) (λ at p. note p at ∷ []) (λ at p. entering (looked (bytes_of little 1 p)) (note p at)) (λ at p. fixed at 1) (λ at p. []) (λ p. p)
prefix_codes note = noting (λ at p. note p at) first_codes

-- what is listed is none of what isn't
pub listed_other : (listed : ℕ → Bool) (p n : ℕ) → listed p ≡ true → listed n ≡ false → eqb p n ≡ false
listed_other listed p n e no_n =
    by_cases (eqb p n)
    (λ t. absurd (true_not_false (sym e ∙ ap listed (eqb-true p n t) ∙ no_n)))
    (λ f. f)

abbrev pub commitment_prefix : ℕ → Bool
commitment_prefix p = eqb p 8 || eqb p 9

-- what stands behind a value's prefix
abbrev tail_bytes : Value → List ℕ
tail_bytes null = []
tail_bytes (explicit v) = bytes_of big 8 v
tail_bytes (commitment p part) = part

abbrev amount_log : (ℕ → ℕ → Entry) → Value → List Entry
amount_log amount null = []
amount_log amount (explicit v) = amount (v / 2 ^ 32) (v % 2 ^ 32) ∷ []
amount_log amount (commitment p part) = []

abbrev amount_events : (ℕ → ℕ → Entry) → Value → List Event
amount_events amount null = []
amount_events amount (explicit v) = entering (looked (bytes_of big 8 v)) (amount (v / 2 ^ 32) (v % 2 ^ 32))
amount_events amount (commitment p part) = passed part

abbrev tail_fields : ℕ → Value → List Field
tail_fields at null = []
tail_fields at (explicit v) = fixed at 8
tail_fields at (commitment p part) = fixed at 32

abbrev value_tail : (ℕ → ℕ → Entry) → ℕ → ℕ → Part ℕ
value_tail amount place p at k =
    cond (eqb p 0) (k p at)
    (cond (eqb p 1) (number_at at big 8 λ v at'. enter (amount (v / 2 ^ 32) (v % 2 ^ 32)) (k p at'))
    (cond (commitment_prefix p) (opaque_at at commitment_part 32 (k p)) (refuse 5 place)))

module _ (amount : ℕ → ℕ → Entry) (place p : ℕ) where
  abbrev explicit_tail : Part ℕ
  explicit_tail at k = number_at at big 8 λ v at'. enter (amount (v / 2 ^ 32) (v % 2 ^ 32)) (k p at')

  abbrev part_tail : Part ℕ
  part_tail at k = opaque_at at commitment_part 32 (k p)

  abbrev last_tail : Part ℕ
  last_tail at k = cond (commitment_prefix p) (part_tail at k) (refuse 5 place)

  null_tail : eqb p 0 ≡ true → Codes (value_tail amount place p) (λ (x : Unit {0}). Unit {0}) (λ x. []) (λ at x. []) (λ at x. []) (λ at x. []) (λ at x. []) (λ x. p)
  null_tail e = if_true (eqb p 0) (λ at k. k p at) (λ at k. cond (eqb p 1) (explicit_tail at k) (last_tail at k)) e (empty_codes p)

  other_tail : {X : Type 0} {Good : X → Type 0} {bytes : X → List ℕ} {log : ℕ → X → List Entry} {events : ℕ → X → List Event} {fields : ℕ → X → List Field} {sites : ℕ → X → List Site} {out : X → ℕ} → eqb p 0 ≡ false → Codes (λ at k. cond (eqb p 1) (explicit_tail at k) (last_tail at k)) Good bytes log events fields sites out → Codes (value_tail amount place p) Good bytes log events fields sites out
  other_tail e c = if_false (eqb p 0) (λ at k. k p at) (λ at k. cond (eqb p 1) (explicit_tail at k) (last_tail at k)) e c

  explicit_tail_lem : eqb p 0 ≡ false → eqb p 1 ≡ true → Codes (value_tail amount place p) (λ v. v < 256 ^ 8) (bytes_of big 8) (λ at v. amount (v / 2 ^ 32) (v % 2 ^ 32) ∷ []) (λ at v. entering (looked (bytes_of big 8 v)) (amount (v / 2 ^ 32) (v % 2 ^ 32))) (λ at v. fixed at 8) (λ at v. []) (λ x. p)
  explicit_tail_lem e₀ e₁ = other_tail e₀ (if_true (eqb p 1) explicit_tail last_tail e₁ (handing (λ s. p) (noting (λ at v. amount (v / 2 ^ 32) (v % 2 ^ 32)) (number_codes (λ at. at) big 8))))

  part_tail_lem : eqb p 0 ≡ false → eqb p 1 ≡ false → commitment_prefix p ≡ true → Codes (value_tail amount place p) (Fixed 32) (λ b. b) (λ at b. []) (λ at b. passed b) (λ at b. fixed at 32) (λ at b. []) (λ b. p)
  part_tail_lem e₀ e₁ e₂ = other_tail e₀ (if_false (eqb p 1) explicit_tail last_tail e₁ (if_true (commitment_prefix p) part_tail (λ at k. refuse 5 place) e₂ (handing (λ s. p) (opaque_codes commitment_part 32))))

  no_tail : eqb p 0 ≡ false → eqb p 1 ≡ false → commitment_prefix p ≡ false → Codes (value_tail amount place p) (λ (x : Unit {0}). ⊥) (λ x. []) (λ at x. []) (λ at x. []) (λ at x. []) (λ at x. []) (λ x. p)
  no_tail e₀ e₁ e₂ = other_tail e₀ (if_false (eqb p 1) explicit_tail last_tail e₁ (if_false (commitment_prefix p) part_tail (λ at k. refuse 5 place) e₂ (refuse_codes 5 place (λ x g. g))))

  -- a value of this prefix
  abbrev Behind : Value → Type 0
  Behind v = (value_prefix v ≡ p) × ValueAllowed v

  tail_back : (at : ℕ) (k : ℕ → ℕ → Layout Head) (xs : List ℕ) (a : Head) → Bytes xs → at ≤ limit → Finishes (value_tail amount place p at k) xs a → Began Behind tail_bytes (λ v. p) at k xs a
  tail_back at k xs a bs h f =
      by_cases (eqb p 0)
      (λ e. began_as ((null_tail e).back at k xs a bs h f) null (sym (eqb-true p 0 e), tt) refl refl)
      (λ e₀. by_cases (eqb p 1)
      (λ e. let u = (explicit_tail_lem e₀ e).back at k xs a bs h f in began_as u (explicit u.held) (sym (eqb-true p 1 e), u.good) refl refl)
      (λ e₁. by_cases (commitment_prefix p)
      (λ e. let u = (part_tail_lem e₀ e₁ e).back at k xs a bs h f in began_as u (commitment p u.held) (refl, (e, u.good)) refl refl)
      (λ e. absurd ((no_tail e₀ e₁ e).back at k xs a bs h f).good)))

tail_forth : (amount : ℕ → ℕ → Entry) (place : ℕ) (v : Value) → ValueAllowed v → (at : ℕ) (k : ℕ → ℕ → Layout Head) (ys : List ℕ) → at + length (tail_bytes v) ≤ limit → run (value_tail amount place (value_prefix v) at k) (tail_bytes v ++ ys) ≡ after (length (tail_bytes v)) (amount_log amount v) (run (k (value_prefix v) (at + length (tail_bytes v))) ys)
tail_forth amount place null g = (null_tail amount place 0 refl).forth tt tt
tail_forth amount place (explicit v) g = (explicit_tail_lem amount place 1 refl refl).forth v g
tail_forth amount place (commitment p part) g = (part_tail_lem amount place p (listed_other commitment_prefix p 0 g.0 refl) (listed_other commitment_prefix p 1 g.0 refl) g.0).forth part g.1

tail_traced : (amount : ℕ → ℕ → Entry) (place : ℕ) (v : Value) → ValueAllowed v → (at : ℕ) (k : ℕ → ℕ → Layout Head) (ys : List ℕ) → Along at (tail_bytes v) (trace (value_tail amount place (value_prefix v) at k) (tail_bytes v ++ ys)) (amount_events amount v) (trace (k (value_prefix v) (at + length (tail_bytes v))) ys)
tail_traced amount place null g = (null_tail amount place 0 refl).traced tt tt
tail_traced amount place (explicit v) g = (explicit_tail_lem amount place 1 refl refl).traced v g
tail_traced amount place (commitment p part) g = (part_tail_lem amount place p (listed_other commitment_prefix p 0 g.0 refl) (listed_other commitment_prefix p 1 g.0 refl) g.0).traced part g.1

tail_judged : (amount : ℕ → ℕ → Entry) (place : ℕ) (v : Value) → ValueAllowed v → (at : ℕ) (k : ℕ → ℕ → Layout Head) (ys : List ℕ) → settled at (run (value_tail amount place (value_prefix v) at k) (tail_bytes v ++ ys)) ≡ limited (tail_fields at v) (settled (at + length (tail_bytes v)) (run (k (value_prefix v) (at + length (tail_bytes v))) ys))
tail_judged amount place null g = (null_tail amount place 0 refl).judged tt tt
tail_judged amount place (explicit v) g = (explicit_tail_lem amount place 1 refl refl).judged v g
tail_judged amount place (commitment p part) g = (part_tail_lem amount place p (listed_other commitment_prefix p 0 g.0 refl) (listed_other commitment_prefix p 1 g.0 refl) g.0).judged part g.1

tail_codes : (amount : ℕ → ℕ → Entry) (place p : ℕ) → Codes (value_tail amount place p) (Behind amount place p) tail_bytes (λ at v. amount_log amount v) (λ at v. amount_events amount v) tail_fields (λ at v. []) (λ v. p)
tail_codes amount place p =
    record {
      forth = λ v g at k ys h. subst (λ (q : ℕ). run (value_tail amount place q at k) (tail_bytes v ++ ys) ≡ after (length (tail_bytes v)) (amount_log amount v) (run (k q (at + length (tail_bytes v))) ys)) g.0 (tail_forth amount place v g.1 at k ys h);
      back = tail_back amount place p;
      traced = λ v g at k ys. subst (λ (q : ℕ). Along at (tail_bytes v) (trace (value_tail amount place q at k) (tail_bytes v ++ ys)) (amount_events amount v) (trace (k q (at + length (tail_bytes v))) ys)) g.0 (tail_traced amount place v g.1 at k ys);
      judged = λ v g at k ys. subst (λ (q : ℕ). settled at (run (value_tail amount place q at k) (tail_bytes v ++ ys)) ≡ limited (tail_fields at v) (settled (at + length (tail_bytes v)) (run (k q (at + length (tail_bytes v))) ys))) g.0 (tail_judged amount place v g.1 at k ys);
      reach = λ v g at k. tt;
    }

abbrev pub value_log : (ℕ → ℕ → Entry) → (ℕ → ℕ → Entry) → ℕ → Value → List Entry
value_log note amount at v = note (value_prefix v) at ∷ amount_log amount v

abbrev pub value_events : (ℕ → ℕ → Entry) → (ℕ → ℕ → Entry) → ℕ → Value → List Event
value_events note amount at v = shown (value_prefix v) ∷ enters (note (value_prefix v) at) ∷ amount_events amount v

pub prefix_small : (v : Value) → ValueAllowed v → value_prefix v < 256
prefix_small null g = omega arith
prefix_small (explicit v) g = omega arith
prefix_small (commitment p part) g = by_cases (eqb p 8) (λ e. omega (arith, eqb-true p 8 e)) (λ e. by_cases (eqb p 9) (λ e'. omega (arith, eqb-true p 9 e')) (λ e'. absurd (listed_none e e' g.0)))
  where
    listed_none : eqb p 8 ≡ false → eqb p 9 ≡ false → commitment_prefix p ≡ true → ⊥
    listed_none e e' t = let z : ◌≡◌ {A = ℕ} 0 1 = ap (λ (b : Bool). cond b 0 1) (sym t ∙ ap₂ ◌||◌ e e') in omega arith

value_spelled : (v : Value) → ValueAllowed v → value_bytes v ≡ bytes_of little 1 (value_prefix v) ++ tail_bytes v
unfolding value_bytes bytes_of
value_spelled null g = refl
value_spelled (explicit v) g = refl
value_spelled (commitment p part) g = ap (λ (l : List ℕ). l ++ part) (sym (one_byte p (prefix_small (commitment p part) g)))

value_fields_lem : (at : ℕ) (v : Value) → value_fields at v ≡ fixed at 1 ++ tail_fields (at + length (bytes_of little 1 (value_prefix v))) v
value_fields_lem at null = refl
value_fields_lem at (explicit v) = ap (λ (n : ℕ). fixed at 1 ++ fixed (at + n) 8) (sym (length_bytes little 1 1))
value_fields_lem at (commitment p part) = ap (λ (n : ℕ). fixed at 1 ++ fixed (at + n) 32) (sym (length_bytes little 1 p))

pub value_codes : (note amount : ℕ → ℕ → Entry) → Codes (λ at k. value_at at note amount k) ValueAllowed value_bytes (value_log note amount) (value_events note amount) value_fields (λ at v. site at values ∷ []) value_prefix
unfolding value_at
value_codes note amount =
    standing values (λ at k. (note, amount, k, refl))
    (seen_as (λ v. (value_prefix v, v))
    (λ v g. (prefix_small v g, (refl, g)))
    value_spelled
    (λ at v g. refl)
    (λ at v g. ap (λ (l : List ℕ). looked l ++ (enters (note (value_prefix v) at) ∷ amount_events amount v)) (sym (one_byte (value_prefix v) (prefix_small v g))) ∙ sym (append_snoc (looked (bytes_of little 1 (value_prefix v))) (enters (note (value_prefix v) at)) (amount_events amount v)))
    (λ at v g. value_fields_lem at v)
    (λ at v g. refl)
    (λ v g. refl)
    (λ x g. (x.1, g.1.1, ap (λ (p : ℕ). (p, x.1)) g.1.0))
    (then {Q = λ at p. value_tail amount at p} (prefix_codes note) (λ at p g. tail_codes amount at p)))

-- Asset or nonce: what it lists are bytes, and 0 is none of them.
pub record Listing (listed : ℕ → Bool) : Type 0 where
  pub byte : (p : ℕ) → listed p ≡ true → p < 256
  pub zeroth : listed 0 ≡ false

one_of : (a b c : ℕ) → a < 256 → b < 256 → c < 256 → (p : ℕ) → (eqb p a || eqb p b || eqb p c) ≡ true → p < 256
one_of a b c ha hb hc p t =
    by_cases (eqb p a) (λ e. omega (arith, eqb-true p a e))
    (λ e. by_cases (eqb p b) (λ e'. omega (arith, eqb-true p b e'))
    (λ e'. by_cases (eqb p c) (λ e''. omega (arith, eqb-true p c e''))
    (λ e''. let z : ◌≡◌ {A = ℕ} 0 1 = ap (λ (b : Bool). cond b 0 1) (sym t ∙ ap₂ ◌||◌ (ap₂ ◌||◌ e e') e'') in absurd (omega arith))))

pub asset_listing : Listing asset_prefix
asset_listing = record { byte = one_of 1 10 11 (lit< tt) (lit< tt) (lit< tt); zeroth = refl }

pub nonce_listing : Listing nonce_prefix
nonce_listing = record { byte = one_of 1 2 3 (lit< tt) (lit< tt) (lit< tt); zeroth = refl }

abbrev token_tail_bytes : Token → List ℕ
token_tail_bytes absent = []
token_tail_bytes (present p part) = part

abbrev token_tail_fields : ℕ → Token → List Field
token_tail_fields at absent = []
token_tail_fields at (present p part) = fixed at 32

token_fields_lem : (at : ℕ) (t : Token) → token_fields at t ≡ fixed at 1 ++ token_tail_fields (at + length (bytes_of little 1 (token_prefix t))) t
token_fields_lem at absent = refl
token_fields_lem at (present p part) = ap (λ (n : ℕ). fixed at 1 ++ fixed (at + n) 32) (sym (length_bytes little 1 p))

abbrev pub token_events : (ℕ → ℕ → Entry) → ℕ → Token → List Event
token_events note at t = shown (token_prefix t) ∷ enters (note (token_prefix t) at) ∷ passed (token_tail_bytes t)

module _ (hid : Hidden) (listed : ℕ → Bool) (place p : ℕ) where
  abbrev token_part : Part (Unit {0})
  token_part at k = opaque_at at hid 32 (k tt)

  abbrev token_rest : Part (Unit {0})
  token_rest at k = cond (listed p) (token_part at k) (refuse 5 place)

  abbrev token_tail : Part (Unit {0})
  token_tail at k = cond (eqb p 0) (k tt at) (token_rest at k)

  absent_tail : eqb p 0 ≡ true → Codes token_tail (λ (x : Unit {0}). Unit {0}) (λ x. []) (λ at x. []) (λ at x. []) (λ at x. []) (λ at x. []) (λ x. tt)
  absent_tail e = if_true (eqb p 0) (λ at k. k tt at) token_rest e (empty_codes tt)

  present_tail : eqb p 0 ≡ false → listed p ≡ true → Codes token_tail (Fixed 32) (λ b. b) (λ at b. []) (λ at b. passed b) (λ at b. fixed at 32) (λ at b. []) (λ b. tt)
  present_tail e₀ e = if_false (eqb p 0) (λ at k. k tt at) token_rest e₀ (if_true (listed p) token_part (λ at k. refuse 5 place) e (opaque_codes hid 32))

  unlisted_tail : eqb p 0 ≡ false → listed p ≡ false → Codes token_tail (λ (x : Unit {0}). ⊥) (λ x. []) (λ at x. []) (λ at x. []) (λ at x. []) (λ at x. []) (λ x. tt)
  unlisted_tail e₀ e = if_false (eqb p 0) (λ at k. k tt at) token_rest e₀ (if_false (listed p) token_part (λ at k. refuse 5 place) e (refuse_codes 5 place (λ x g. g)))

  abbrev TokenBehind : Token → Type 0
  TokenBehind t = (token_prefix t ≡ p) × TokenAllowed listed t

  token_back : (at : ℕ) (k : Unit {0} → ℕ → Layout Head) (xs : List ℕ) (a : Head) → Bytes xs → at ≤ limit → Finishes (token_tail at k) xs a → Began TokenBehind token_tail_bytes (λ t. tt) at k xs a
  token_back at k xs a bs h f =
      by_cases (eqb p 0)
      (λ e. began_as ((absent_tail e).back at k xs a bs h f) absent (sym (eqb-true p 0 e), tt) refl refl)
      (λ e₀. by_cases (listed p)
      (λ e. let u = (present_tail e₀ e).back at k xs a bs h f in began_as u (present p u.held) (refl, (e, u.good)) refl refl)
      (λ e. absurd ((unlisted_tail e₀ e).back at k xs a bs h f).good))

module _ (hid : Hidden) (listed : ℕ → Bool) (l : Listing listed) where
  token_forth : (place : ℕ) (t : Token) → TokenAllowed listed t → (at : ℕ) (k : Unit {0} → ℕ → Layout Head) (ys : List ℕ) → at + length (token_tail_bytes t) ≤ limit → run (token_tail hid listed place (token_prefix t) at k) (token_tail_bytes t ++ ys) ≡ after (length (token_tail_bytes t)) [] (run (k tt (at + length (token_tail_bytes t))) ys)
  token_forth place absent g = (absent_tail hid listed place 0 refl).forth tt tt
  token_forth place (present p part) g = (present_tail hid listed place p (listed_other listed p 0 g.0 l.zeroth) g.0).forth part g.1

  token_traced : (place : ℕ) (t : Token) → TokenAllowed listed t → (at : ℕ) (k : Unit {0} → ℕ → Layout Head) (ys : List ℕ) → Along at (token_tail_bytes t) (trace (token_tail hid listed place (token_prefix t) at k) (token_tail_bytes t ++ ys)) (passed (token_tail_bytes t)) (trace (k tt (at + length (token_tail_bytes t))) ys)
  token_traced place absent g = (absent_tail hid listed place 0 refl).traced tt tt
  token_traced place (present p part) g = (present_tail hid listed place p (listed_other listed p 0 g.0 l.zeroth) g.0).traced part g.1

  token_judged : (place : ℕ) (t : Token) → TokenAllowed listed t → (at : ℕ) (k : Unit {0} → ℕ → Layout Head) (ys : List ℕ) → settled at (run (token_tail hid listed place (token_prefix t) at k) (token_tail_bytes t ++ ys)) ≡ limited (token_tail_fields at t) (settled (at + length (token_tail_bytes t)) (run (k tt (at + length (token_tail_bytes t))) ys))
  token_judged place absent g = (absent_tail hid listed place 0 refl).judged tt tt
  token_judged place (present p part) g = (present_tail hid listed place p (listed_other listed p 0 g.0 l.zeroth) g.0).judged part g.1

  token_tail_lem : (place p : ℕ) → Codes (token_tail hid listed place p) (TokenBehind hid listed place p) token_tail_bytes (λ at t. []) (λ at t. passed (token_tail_bytes t)) token_tail_fields (λ at t. []) (λ t. tt)
  token_tail_lem place p =
      record {
        forth = λ t g at k ys h. subst (λ (q : ℕ). run (token_tail hid listed place q at k) (token_tail_bytes t ++ ys) ≡ after (length (token_tail_bytes t)) [] (run (k tt (at + length (token_tail_bytes t))) ys)) g.0 (token_forth place t g.1 at k ys h);
        back = token_back hid listed place p;
        traced = λ t g at k ys. subst (λ (q : ℕ). Along at (token_tail_bytes t) (trace (token_tail hid listed place q at k) (token_tail_bytes t ++ ys)) (passed (token_tail_bytes t)) (trace (k tt (at + length (token_tail_bytes t))) ys)) g.0 (token_traced place t g.1 at k ys);
        judged = λ t g at k ys. subst (λ (q : ℕ). settled at (run (token_tail hid listed place q at k) (token_tail_bytes t ++ ys)) ≡ limited (token_tail_fields at t) (settled (at + length (token_tail_bytes t)) (run (k tt (at + length (token_tail_bytes t))) ys))) g.0 (token_judged place t g.1 at k ys);
        reach = λ t g at k. tt;
      }

  token_small : (t : Token) → TokenAllowed listed t → token_prefix t < 256
  token_small absent g = omega arith
  token_small (present p part) g = l.byte p g.0

  token_spelled : (t : Token) → TokenAllowed listed t → token_bytes t ≡ bytes_of little 1 (token_prefix t) ++ token_tail_bytes t
  unfolding token_bytes bytes_of
  token_spelled absent g = refl
  token_spelled (present p part) g = ap (λ (b : List ℕ). b ++ part) (sym (one_byte p (l.byte p g.0)))

  pub token_codes : (note : ℕ → ℕ → Entry) → Codes (λ at (k : Unit {0} → ℕ → Layout Head). prefixed_at at hid listed note (k tt)) (TokenAllowed listed) token_bytes (λ at t. note (token_prefix t) at ∷ []) (token_events note) token_fields (λ at t. []) (λ t. tt)
  unfolding prefixed_at
  token_codes note =
      seen_as (λ t. (token_prefix t, t))
      (λ t g. (token_small t g, (refl, g)))
      token_spelled
      (λ at t g. refl)
      (λ at t g. ap (λ (l : List ℕ). looked l ++ (enters (note (token_prefix t) at) ∷ passed (token_tail_bytes t))) (sym (one_byte (token_prefix t) (token_small t g))) ∙ sym (append_snoc (looked (bytes_of little 1 (token_prefix t))) (enters (note (token_prefix t) at)) (passed (token_tail_bytes t))))
      (λ at t g. token_fields_lem at t)
      (λ at t g. refl)
      (λ t g. refl)
      (λ x g. (x.1, g.1.1, ap (λ (p : ℕ). (p, x.1)) g.1.0))
      (then {Q = λ at p. token_tail hid listed at p} (prefix_codes note) (λ at p g. token_tail_lem at p))

-- ---- issuance and input

pub null_prefix : (v : Value) → ValueAllowed v → eqb (value_prefix v) 0 ≡ is_null v
null_prefix null g = refl
null_prefix (explicit v) g = refl
null_prefix (commitment p part) g = listed_other commitment_prefix p 0 g.0 refl

module _ (i : ℕ) where
  abbrev pub amount_note : ℕ → ℕ → Entry
  amount_note p at = entry input i 7 (p ∷ [])

  abbrev pub amount_halves : ℕ → ℕ → Entry
  amount_halves h l = entry input i 8 (h ∷ l ∷ [])

  abbrev pub keys_note : ℕ → ℕ → Entry
  keys_note p at = entry input i 10 (p ∷ [])

  abbrev pub keys_halves : ℕ → ℕ → Entry
  keys_halves h l = entry input i 11 (h ∷ l ∷ [])

  abbrev pub issuance_log : ℕ → Issuance → List Entry
  issuance_log at x = entry input i 6 (at ∷ []) ∷ (value_log amount_note amount_halves 0 x.amount ++ value_log keys_note keys_halves 0 x.keys)

  abbrev pub issuance_events : ℕ → Issuance → List Event
  issuance_events at x =
      entering (passed x.blinding_nonce) (entry input i 6 (at ∷ []))
      ++ (passed x.entropy ++ (value_events amount_note amount_halves 0 x.amount ++ value_events keys_note keys_halves 0 x.keys))

  issuance_codes : Codes (λ at (k : Unit {0} → ℕ → Layout Head). issuance_at i at (k tt)) IssuanceAllowed (λ x. issuance_bytes (some x)) issuance_log issuance_events (λ at x. issuance_fields at (some x)) (λ at x. issuance_sites at (some x)) (λ x. tt)
  unfolding issuance_at issuance_bytes
  issuance_codes =
      standing issuances (λ at k. (i, k tt, refl))
      (seen_as (λ x. (x.blinding_nonce, (x.entropy, (x.amount, x.keys))))
      (λ x g. (g.blinding_nonce, (g.entropy, (g.amount, (g.keys, ap₂ ◌&&◌ (null_prefix x.amount g.amount) (null_prefix x.keys g.keys) ∙ g.not_null)))))
      (λ x g. refl)
      (λ at x g. refl)
      (λ at x g. refl)
      (λ at x g.
      let e₁ : at + 32 ≡ at + length x.blinding_nonce = omega (arith, g.blinding_nonce.long) in
      let e₂ : at + 64 ≡ at + length x.blinding_nonce + length x.entropy = omega (arith, g.blinding_nonce.long, g.entropy.long) in
      λ j. fixed at 32 ++ (fixed (e₁ j) 32 ++ (value_fields (e₂ j) x.amount ++ value_fields (e₂ j + length (value_bytes x.amount)) x.keys)))
      (λ at x g.
      let e : at + 64 ≡ at + length x.blinding_nonce + length x.entropy = omega (arith, g.blinding_nonce.long, g.entropy.long) in
      λ j. site (e j) values ∷ site (e j + length (value_bytes x.amount)) values ∷ [])
      (λ x g. refl)
      (λ x g. (
        record { blinding_nonce = x.0; entropy = x.1.0; amount = x.1.1.0; keys = x.1.1.1 },
        record {
          blinding_nonce = g.0;
          entropy = g.1.0;
          amount = g.1.1.0;
          keys = g.1.1.1.0;
          not_null = sym (ap₂ ◌&&◌ (null_prefix x.1.1.0 g.1.1.0) (null_prefix x.1.1.1 g.1.1.1.0)) ∙ g.1.1.1.1;
        },
        refl,
      ))
      (then {Q = λ at s at₁ k. opaque_at at₁ entropy 32 λ at₂. value_at at₂ amount_note amount_halves λ amount at₃. value_at at₃ keys_note keys_halves λ keys at₄. cond (eqb amount 0 && eqb keys 0) (refuse 6 at) (k tt at₄)}
      (noting (λ at s. entry input i 6 (at ∷ [])) (opaque_codes blinding_nonce 32)) λ at _ _.
      then {Q = λ _ s at₂ k. value_at at₂ amount_note amount_halves λ amount at₃. value_at at₃ keys_note keys_halves λ keys at₄. cond (eqb amount 0 && eqb keys 0) (refuse 6 at) (k tt at₄)}
      (opaque_codes entropy 32) λ _ _ _.
      then {Q = λ _ amount at₃ k. value_at at₃ keys_note keys_halves λ keys at₄. cond (eqb amount 0 && eqb keys 0) (refuse 6 at) (k tt at₄)}
      (value_codes amount_note amount_halves) λ _ x _.
      handing (λ s. tt) (failing (λ keys. eqb (value_prefix x) 0 && eqb keys 0) 6 at (value_codes keys_note keys_halves))))

  abbrev pub issued_log : ℕ → Option Issuance → List Entry
  issued_log at none = []
  issued_log at (some x) = issuance_log at x

  abbrev pub issued_events : ℕ → Option Issuance → List Event
  issued_events at none = []
  issued_events at (some x) = issuance_events at x

  module _ (raw : ℕ) where
    abbrev issued : Part (Unit {0})
    issued at k = cond (eqb (flag_bit 31 raw) 1) (issuance_at i at (k tt)) (k tt at)

    with_flag : eqb (flag_bit 31 raw) 1 ≡ true → Codes issued IssuanceAllowed (λ x. issuance_bytes (some x)) issuance_log issuance_events (λ at x. issuance_fields at (some x)) (λ at x. issuance_sites at (some x)) (λ x. tt)
    with_flag e = if_true (eqb (flag_bit 31 raw) 1) (λ at k. issuance_at i at (k tt)) (λ at k. k tt at) e issuance_codes

    without_flag : eqb (flag_bit 31 raw) 1 ≡ false → Codes issued (λ (x : Unit {0}). Unit {0}) (λ x. []) (λ at x. []) (λ at x. []) (λ at x. []) (λ at x. []) (λ x. tt)
    without_flag e = if_false (eqb (flag_bit 31 raw) 1) (λ at k. issuance_at i at (k tt)) (λ at k. k tt at) e (empty_codes tt)

    issued_forth : (o : Option Issuance) → Flagged (flags raw) o → (at : ℕ) (k : Unit {0} → ℕ → Layout Head) (ys : List ℕ) → at + length (issuance_bytes o) ≤ limit → run (issued at k) (issuance_bytes o ++ ys) ≡ after (length (issuance_bytes o)) (issued_log at o) (run (k tt (at + length (issuance_bytes o))) ys)
    unfolding issuance_bytes
    issued_forth none g = (without_flag (issuing raw ∙ lt-leb 2 (flags raw) (omega arith))).forth tt tt
    issued_forth (some x) g = (with_flag (issuing raw ∙ le-leb 2 (flags raw) g.0)).forth x g.2

    issued_traced : (o : Option Issuance) → Flagged (flags raw) o → (at : ℕ) (k : Unit {0} → ℕ → Layout Head) (ys : List ℕ) → Along at (issuance_bytes o) (trace (issued at k) (issuance_bytes o ++ ys)) (issued_events at o) (trace (k tt (at + length (issuance_bytes o))) ys)
    unfolding issuance_bytes
    issued_traced none g = (without_flag (issuing raw ∙ lt-leb 2 (flags raw) (omega arith))).traced tt tt
    issued_traced (some x) g = (with_flag (issuing raw ∙ le-leb 2 (flags raw) g.0)).traced x g.2

    issued_judged : (o : Option Issuance) → Flagged (flags raw) o → (at : ℕ) (k : Unit {0} → ℕ → Layout Head) (ys : List ℕ) → settled at (run (issued at k) (issuance_bytes o ++ ys)) ≡ limited (issuance_fields at o) (settled (at + length (issuance_bytes o)) (run (k tt (at + length (issuance_bytes o))) ys))
    unfolding issuance_bytes
    issued_judged none g = (without_flag (issuing raw ∙ lt-leb 2 (flags raw) (omega arith))).judged tt tt
    issued_judged (some x) g = (with_flag (issuing raw ∙ le-leb 2 (flags raw) g.0)).judged x g.2

    issued_reach : (o : Option Issuance) → Flagged (flags raw) o → (at : ℕ) (k : Unit {0} → ℕ → Layout Head) → Every (Comes (issued at k) (issuance_bytes o) at) (issuance_sites at o)
    unfolding issuance_bytes
    issued_reach none g = λ at k. tt
    issued_reach (some x) g = (with_flag (issuing raw ∙ le-leb 2 (flags raw) g.0)).reach x g.2

    issued_codes : Codes issued (Flagged (flags raw)) issuance_bytes issued_log issued_events issuance_fields issuance_sites (λ o. tt)
    unfolding issuance_bytes
    issued_codes =
        record {
          forth = issued_forth;
          traced = issued_traced;
          judged = issued_judged;
          reach = issued_reach;
          back = λ at k xs a bs h f.
              by_cases (eqb (flag_bit 31 raw) 1)
              (λ e. let u = (with_flag e).back at k xs a bs h f in began_as u (some u.held) (leb-true 2 (flags raw) (sym (issuing raw) ∙ e), flags_three raw, u.good) refl refl)
              (λ e. let below = leb-false 2 (flags raw) (sym (issuing raw) ∙ e) in began_as ((without_flag e).back at k xs a bs h f) none (omega arith) refl refl);
        }

  abbrev pub script_note : ℕ → ℕ → Entry
  script_note p n = entry input i 3 (p ∷ n ∷ [])

  abbrev pub input_log : ℕ → Input → List Entry
  input_log at x =
      entry input i 0 (at ∷ []) ∷
      entry input i 1 (x.vout ∷ x.flags ∷ []) ∷
      (body_log script_note (at + 36) x.script ++ (entry input i 5 (x.sequence ∷ []) ∷ issued_log (at + 36 + length (body_bytes x.script) + 4) x.issuance))

  abbrev pub input_events : ℕ → Input → List Event
  input_events at x =
      entering (passed x.txid) (entry input i 0 (at ∷ []))
      ++ (entering (looked (bytes_of little 4 (raw_vout x.vout x.flags))) (entry input i 1 (x.vout ∷ x.flags ∷ []))
      ++ (body_events script_note (at + 36) x.script
      ++ (entering (looked (bytes_of little 4 x.sequence)) (entry input i 5 (x.sequence ∷ []))
      ++ issued_events (at + 36 + length (body_bytes x.script) + 4) x.issuance)))

  pub flagged_three : (f : ℕ) (o : Option Issuance) → Flagged f o → f ≤ 3
  flagged_three f none g = omega arith
  flagged_three f (some x) g = g.1

  pub input_codes : Codes (λ at (k : Unit {0} → ℕ → Layout Head). input_at i at (k tt)) InputFormed input_bytes input_log input_events input_fields input_sites (λ x. tt)
  unfolding input_at input_bytes
  input_codes =
      seen_as (λ x. (x.txid, (raw_vout x.vout x.flags, (x.script, (x.sequence, x.issuance)))))
      (λ x g.
      let three = flagged_three x.flags x.issuance g.allowed.issuance in
      (g.allowed.txid, (raw_small x.vout x.flags g.allowed.outpoint three, ((g.allowed.script, g.script), (g.allowed.sequence, subst (λ (f : ℕ). Flagged f x.issuance) (sym (raw_flags x.vout x.flags g.allowed.outpoint three)) g.allowed.issuance)))))
      (λ x g. refl)
      (λ at x g.
      let three = flagged_three x.flags x.issuance g.allowed.issuance in
      let v = sym (raw_vout_lem x.vout x.flags g.allowed.outpoint three) in
      let f = sym (raw_flags x.vout x.flags g.allowed.outpoint three) in
      let raw = raw_vout x.vout x.flags in
      let l₁ = g.allowed.txid.long in
      let l₂ = length_bytes little 4 raw in
      let l₃ = length_bytes little 4 x.sequence in
      let e₁ : at + 36 ≡ at + length x.txid + length (bytes_of little 4 raw) = omega arith in
      let e₂ : at + 36 + length (body_bytes x.script) + 4 ≡ at + length x.txid + length (bytes_of little 4 raw) + length (body_bytes x.script) + length (bytes_of little 4 x.sequence) = omega arith in
      λ j.
      entry input i 0 (at ∷ []) ∷
      entry input i 1 (v j ∷ f j ∷ []) ∷
      (body_log script_note (e₁ j) x.script ++ (entry input i 5 (x.sequence ∷ []) ∷ issued_log (e₂ j) x.issuance)))
      (λ at x g.
      let three = flagged_three x.flags x.issuance g.allowed.issuance in
      let v = sym (raw_vout_lem x.vout x.flags g.allowed.outpoint three) in
      let f = sym (raw_flags x.vout x.flags g.allowed.outpoint three) in
      let raw = raw_vout x.vout x.flags in
      let l₁ = g.allowed.txid.long in
      let l₂ = length_bytes little 4 raw in
      let l₃ = length_bytes little 4 x.sequence in
      let e₁ : at + 36 ≡ at + length x.txid + length (bytes_of little 4 raw) = omega arith in
      let e₂ : at + 36 + length (body_bytes x.script) + 4 ≡ at + length x.txid + length (bytes_of little 4 raw) + length (body_bytes x.script) + length (bytes_of little 4 x.sequence) = omega arith in
      λ j.
      entering (passed x.txid) (entry input i 0 (at ∷ []))
      ++ (entering (looked (bytes_of little 4 raw)) (entry input i 1 (v j ∷ f j ∷ []))
      ++ (body_events script_note (e₁ j) x.script
      ++ (entering (looked (bytes_of little 4 x.sequence)) (entry input i 5 (x.sequence ∷ []))
      ++ issued_events (e₂ j) x.issuance))))
      (λ at x g.
      let raw = raw_vout x.vout x.flags in
      let l₁ = g.allowed.txid.long in
      let l₂ = length_bytes little 4 raw in
      let l₃ = length_bytes little 4 x.sequence in
      let e₀ : at + 32 ≡ at + length x.txid = omega arith in
      let e₁ : at + 36 ≡ at + length x.txid + length (bytes_of little 4 raw) = omega arith in
      let e₂ : at + 36 + length (body_bytes x.script) + 4 ≡ at + length x.txid + length (bytes_of little 4 raw) + length (body_bytes x.script) + length (bytes_of little 4 x.sequence) = omega arith in
      λ j. fixed at 32 ++ (fixed (e₀ j) 4 ++ (body_fields (e₁ j) x.script ++ (fixed (e₁ j + length (body_bytes x.script)) 4 ++ issuance_fields (e₂ j) x.issuance))))
      (λ at x g.
      let raw = raw_vout x.vout x.flags in
      let l₁ = g.allowed.txid.long in
      let l₂ = length_bytes little 4 raw in
      let l₃ = length_bytes little 4 x.sequence in
      let e₁ : at + 36 ≡ at + length x.txid + length (bytes_of little 4 raw) = omega arith in
      let e₂ : at + 36 + length (body_bytes x.script) + 4 ≡ at + length x.txid + length (bytes_of little 4 raw) + length (body_bytes x.script) + length (bytes_of little 4 x.sequence) = omega arith in
      λ j. body_sites (e₁ j) x.script ++ issuance_sites (e₂ j) x.issuance)
      (λ x g. refl)
      (λ x g.
      let raw = x.1.0 in
      let again = raw_again raw g.1.0 in (
        record { txid = x.0; vout = vout raw; flags = flags raw; script = x.1.1.0; sequence = x.1.1.1.0; issuance = x.1.1.1.1 },
        record { allowed = record { txid = g.0; outpoint = raw_apart raw g.1.0; script = g.1.1.0.0; sequence = g.1.1.1.0; issuance = g.1.1.1.1 }; script = g.1.1.0.1 },
        ap (λ (r : ℕ). (x.0, (r, (x.1.1.0, (x.1.1.1.0, x.1.1.1.1))))) again,
      ))
      (then {Q = λ _ s at₁ k. number_at at₁ little 4 λ raw at₂. enter (entry input i 1 (vout raw ∷ flags raw ∷ [])) (body_at at₂ script_body script_note λ _ at₃. number_at at₃ little 4 λ sequence at₄. enter (entry input i 5 (sequence ∷ [])) (issued raw at₄ k))}
      (noting (λ at s. entry input i 0 (at ∷ [])) (opaque_codes txid 32)) λ _ _ _.
      then {Q = λ _ raw at₂ k. body_at at₂ script_body script_note λ _ at₃. number_at at₃ little 4 λ sequence at₄. enter (entry input i 5 (sequence ∷ [])) (issued raw at₄ k)}
      (noting (λ at raw. entry input i 1 (vout raw ∷ flags raw ∷ [])) (number_codes (λ at. at) little 4)) λ _ raw _.
      then {Q = λ _ s at₃ k. number_at at₃ little 4 λ sequence at₄. enter (entry input i 5 (sequence ∷ [])) (issued raw at₄ k)}
      (body_codes script_body script_note) λ _ _ _.
      then {Q = λ _ s at₄ k. issued raw at₄ k}
      (noting (λ at sequence. entry input i 5 (sequence ∷ [])) (number_codes (λ at. at) little 4)) λ _ _ _.
      issued_codes raw)

-- ---- output

module _ (i : ℕ) where
  abbrev pub out_note : ℕ → ℕ → ℕ → Entry
  out_note c p n = entry output i c (p ∷ n ∷ [])

  abbrev pub output_log : ℕ → Output → List Entry
  output_log at x =
      let at₁ = at + length (token_bytes x.asset) in
      let at₂ = at₁ + length (value_bytes x.value) in
      let at₃ = at₂ + length (token_bytes x.nonce) in
      out_note 0 (token_prefix x.asset) at ∷ (value_log (out_note 2) (out_note 4) at₁ x.value ++ (out_note 6 (token_prefix x.nonce) at₂ ∷ body_log (out_note 8) at₃ x.script))

  abbrev pub output_events : ℕ → Output → List Event
  output_events at x =
      let at₁ = at + length (token_bytes x.asset) in
      let at₂ = at₁ + length (value_bytes x.value) in
      let at₃ = at₂ + length (token_bytes x.nonce) in
      token_events (out_note 0) at x.asset ++ (value_events (out_note 2) (out_note 4) at₁ x.value ++ (token_events (out_note 6) at₂ x.nonce ++ body_events (out_note 8) at₃ x.script))

  pub output_codes : Codes (λ at (k : Unit {0} → ℕ → Layout Head). output_at i at (k tt)) OutputFormed output_bytes output_log output_events output_fields output_sites (λ x. tt)
  unfolding output_at output_bytes
  output_codes =
      seen_as (λ x. (x.asset, (x.value, (x.nonce, x.script))))
      (λ x g. let a = g.allowed in (a.asset, (a.value, (a.nonce, (a.script, g.script)))))
      (λ x g. refl)
      (λ at x g. refl)
      (λ at x g. refl)
      (λ at x g. refl)
      (λ at x g. refl)
      (λ x g. refl)
      (λ x g. (record { asset = x.0; value = x.1.0; nonce = x.1.1.0; script = x.1.1.1 }, record { allowed = record { asset = g.0; value = g.1.0; nonce = g.1.1.0; script = g.1.1.1.0 }; script = g.1.1.1.1 }, refl))
      (then {Q = λ _ s at₁ k. value_at at₁ (out_note 2) (out_note 4) λ _ at₂. prefixed_at at₂ nonce_part nonce_prefix (out_note 6) λ at₃. body_at at₃ script_body (out_note 8) λ _. k tt}
      (standing assets (λ at k. (asset_part, out_note 0, k tt, refl)) (token_codes asset_part asset_prefix asset_listing (out_note 0))) λ _ _ _.
      then {Q = λ _ s at₂ k. prefixed_at at₂ nonce_part nonce_prefix (out_note 6) λ at₃. body_at at₃ script_body (out_note 8) λ _. k tt}
      (value_codes (out_note 2) (out_note 4)) λ _ _ _.
      then {Q = λ _ s at₃ k. body_at at₃ script_body (out_note 8) λ _. k tt}
      (standing nonces (λ at k. (nonce_part, out_note 6, k tt, refl)) (token_codes nonce_part nonce_prefix nonce_listing (out_note 6))) λ _ _ _.
      handing (λ n. tt) (body_codes script_body (out_note 8)))

-- ---- witnesses

abbrev pub item_note : ℕ → ℕ → ℕ → Entry
item_note j p n = entry item j 0 (p ∷ n ∷ [])

abbrev pub item_log : ℕ → ℕ → List ℕ → List Entry
item_log j = body_log (item_note j)

abbrev pub item_events : ℕ → ℕ → List ℕ → List Event
item_events j = body_events (item_note j)

item_codes : (j : ℕ) → Codes (λ at (k : Unit {0} → ℕ → Layout Head). item_at j at (k tt)) Body body_bytes (item_log j) (item_events j) body_fields body_sites (λ x. tt)
unfolding item_at
item_codes j = handing (λ n. tt) (body_codes item_body (item_note j))

-- items from a number on; the first one starts at a position
abbrev pub items_log : ℕ → ℕ → List (List ℕ) → List Entry
items_log = log_all item_at Body body_bytes item_log

abbrev pub items_events : ℕ → ℕ → List (List ℕ) → List Event
items_events = events_all body_bytes item_events

abbrev pub stack_log : (ℕ → Entry) → ℕ → ℕ → List (List ℕ) → List Entry
stack_log note first at xs = note (length xs) ∷ items_log first (at + length (compact_bytes (length xs))) xs

abbrev pub stack_events : (ℕ → Entry) → ℕ → ℕ → List (List ℕ) → List Event
stack_events note first at xs = entering (looked (compact_bytes (length xs))) (note (length xs)) ++ items_events first (at + length (compact_bytes (length xs))) xs

abbrev StackGood : ℕ → ℕ → List (List ℕ) → Type 0
StackGood room first xs = ((length xs < 2 ^ 64) × (leb (length xs) (room - first) ≡ true)) × Every Body xs

stack_codes : (room first : ℕ) (note : ℕ → Entry) → Codes (λ at k. stack_at room first at note k) (StackGood room first) (list_bytes body_bytes) (stack_log note first) (stack_events note first) (list_fields body_bytes body_fields) (list_sites (room - first) body_bytes body_sites) (λ xs. length xs)
unfolding stack_at
stack_codes room first note = list_codes item_at Body body_bytes item_log item_events body_fields body_sites first (noting (λ at n. note n) (count_codes (room - first))) item_codes

pub body_some : (xs : List ℕ) → 1 ≤ length (body_bytes xs)
unfolding body_bytes
body_some xs = omega (arith, length-append (compact_bytes (length xs)) xs, compact_some (length xs))

pub flat_some : {X : Type 0} (f : X → List ℕ) → ((x : X) → 1 ≤ length (f x)) → (xs : List X) → length xs ≤ length (flat f xs)
unfolding flat
flat_some f some_byte [] = omega arith
flat_some f some_byte (x ∷ xs) = omega (arith, some_byte x, flat_some f some_byte xs, length-append (f x) (flat f xs))

pub list_some : {X : Type 0} (f : X → List ℕ) → ((x : X) → 1 ≤ length (f x)) → (xs : List X) → length xs ≤ length (list_bytes f xs)
unfolding list_bytes
list_some f some_byte xs = omega (arith, flat_some f some_byte xs, length-append (compact_bytes (length xs)) (flat f xs))

bodies : (xs : List (List ℕ)) → Every Bytes xs → Every Short xs → Every Body xs
bodies [] p q = tt
bodies (x ∷ xs) p q = ((p.0, q.0), bodies xs p.1 q.1)

-- the items fit in what is left
pub record Stacks (room : ℕ) (s : Seen) (x : InputWitness) : Type 0 where
  pub formed : InputWitnessFormed x
  pub script : leb (length x.script_items) (room - s.items) ≡ true
  pub pegin : leb (length x.pegin_items) (room - (s.items + length x.script_items)) ≡ true

abbrev pub witness_seen : Seen → InputWitness → Seen
witness_seen s x =
    seen (s.items + length x.script_items + length x.pegin_items) (s.empty && eqb (length x.amount_proof) 0 && eqb (length x.keys_proof) 0 && eqb (length x.script_items) 0 && eqb (length x.pegin_items) 0)

module _ (i : ℕ) where
  abbrev pub in_note : ℕ → ℕ → ℕ → Entry
  in_note c p n = entry input i c (p ∷ n ∷ [])

  abbrev pub pegin_note : ℕ → Entry
  pegin_note n = entry input i 19 (n ∷ [])

  abbrev pub input_witness_log : ℕ → ℕ → InputWitness → List Entry
  input_witness_log first at x =
      let at₁ = at + length (body_bytes x.amount_proof) in
      let at₂ = at₁ + length (body_bytes x.keys_proof) in
      let at₃ = at₂ + length (list_bytes body_bytes x.script_items) in
      body_log (in_note 13) at x.amount_proof ++ (body_log (in_note 15) at₁ x.keys_proof ++ (stack_log (in_note 17 first) first at₂ x.script_items ++ stack_log pegin_note (first + length x.script_items) at₃ x.pegin_items))

  abbrev pub input_witness_events : ℕ → ℕ → InputWitness → List Event
  input_witness_events first at x =
      let at₁ = at + length (body_bytes x.amount_proof) in
      let at₂ = at₁ + length (body_bytes x.keys_proof) in
      let at₃ = at₂ + length (list_bytes body_bytes x.script_items) in
      body_events (in_note 13) at x.amount_proof ++ (body_events (in_note 15) at₁ x.keys_proof ++ (stack_events (in_note 17 first) first at₂ x.script_items ++ stack_events pegin_note (first + length x.script_items) at₃ x.pegin_items))

module _ (room i : ℕ) (s : Seen) where
  pub input_witness_codes : Codes (λ at k. input_witness_at room i s at k) (Stacks room s) input_witness_bytes (input_witness_log i s.items) (input_witness_events i s.items) input_witness_fields (input_witness_sites room s.items) (witness_seen s)
  unfolding input_witness_at input_witness_bytes
  input_witness_codes =
      seen_as (λ x. (x.amount_proof, (x.keys_proof, (x.script_items, x.pegin_items))))
      (λ x g.
      let f = g.formed in
      let a = f.allowed in (
        (a.amount_proof, f.amount_proof),
        ((a.keys_proof, f.keys_proof), (((f.script_count, g.script), bodies x.script_items a.script_items f.script_items), ((f.pegin_count, g.pegin), bodies x.pegin_items a.pegin_items f.pegin_items))),
      ))
      (λ x g. refl)
      (λ at x g. refl)
      (λ at x g. refl)
      (λ at x g. refl)
      (λ at x g. refl)
      (λ x g. refl)
      (λ x g. (
        record { amount_proof = x.0; keys_proof = x.1.0; script_items = x.1.1.0; pegin_items = x.1.1.1 },
        record {
          formed = record {
            allowed = record { amount_proof = g.0.0; keys_proof = g.1.0.0; script_items = every_as Body Bytes (λ b g. g.0) x.1.1.0 g.1.1.0.1; pegin_items = every_as Body Bytes (λ b g. g.0) x.1.1.1 g.1.1.1.1 };
            amount_proof = g.0.1;
            keys_proof = g.1.0.1;
            script_count = g.1.1.0.0.0;
            script_items = every_as Body Short (λ b g. g.1) x.1.1.0 g.1.1.0.1;
            pegin_count = g.1.1.1.0.0;
            pegin_items = every_as Body Short (λ b g. g.1) x.1.1.1 g.1.1.1.1;
          };
          script = g.1.1.0.0.1;
          pegin = g.1.1.1.0.1;
        },
        refl,
      ))
      (then {Q = λ _ amount at₁ k. body_at at₁ proof_body (in_note i 15) λ keys at₂. stack_at room s.items at₂ (in_note i 17 s.items) λ script at₃. stack_at room (s.items + script) at₃ (pegin_note i) λ pegin. k (seen (s.items + script + pegin) (s.empty && eqb amount 0 && eqb keys 0 && eqb script 0 && eqb pegin 0))}
      (body_codes proof_body (in_note i 13)) λ _ amount _.
      then {Q = λ _ keys at₂ k. stack_at room s.items at₂ (in_note i 17 s.items) λ script at₃. stack_at room (s.items + script) at₃ (pegin_note i) λ pegin. k (seen (s.items + script + pegin) (s.empty && eqb (length amount) 0 && eqb keys 0 && eqb script 0 && eqb pegin 0))}
      (body_codes proof_body (in_note i 15)) λ _ keys _.
      then {Q = λ _ script at₃ k. stack_at room (s.items + script) at₃ (pegin_note i) λ pegin. k (seen (s.items + script + pegin) (s.empty && eqb (length amount) 0 && eqb (length keys) 0 && eqb script 0 && eqb pegin 0))}
      (stack_codes room s.items (in_note i 17 s.items)) λ _ script _.
      handing (λ pegin. seen (s.items + length script + pegin) (s.empty && eqb (length amount) 0 && eqb (length keys) 0 && eqb (length script) 0 && eqb pegin 0))
      (stack_codes room (s.items + length script) (pegin_note i)))

abbrev pub output_seen : Seen → OutputWitness → Seen
output_seen s x = seen s.items (s.empty && eqb (length x.surjection_proof) 0 && eqb (length x.range_proof) 0)

module _ (i : ℕ) where
  abbrev pub output_witness_log : ℕ → OutputWitness → List Entry
  output_witness_log at x = body_log (out_note i 10) at x.surjection_proof ++ body_log (out_note i 12) (at + length (body_bytes x.surjection_proof)) x.range_proof

  abbrev pub output_witness_events : ℕ → OutputWitness → List Event
  output_witness_events at x = body_events (out_note i 10) at x.surjection_proof ++ body_events (out_note i 12) (at + length (body_bytes x.surjection_proof)) x.range_proof

  pub output_witness_codes : (s : Seen) → Codes (λ at k. output_witness_at i s at k) OutputWitnessFormed output_witness_bytes output_witness_log output_witness_events output_witness_fields output_witness_sites (output_seen s)
  unfolding output_witness_at output_witness_bytes
  output_witness_codes s =
      seen_as (λ x. (x.surjection_proof, x.range_proof))
      (λ x g. ((g.allowed.surjection_proof, g.surjection_proof), (g.allowed.range_proof, g.range_proof)))
      (λ x g. refl)
      (λ at x g. refl)
      (λ at x g. refl)
      (λ at x g. refl)
      (λ at x g. refl)
      (λ x g. refl)
      (λ x g. (record { surjection_proof = x.0; range_proof = x.1 }, record { allowed = record { surjection_proof = g.0.0; range_proof = g.1.0 }; surjection_proof = g.0.1; range_proof = g.1.1 }, refl))
      (then {Q = λ _ surjection at₁ k. body_at at₁ proof_body (out_note i 12) λ range. k (seen s.items (s.empty && eqb surjection 0 && eqb range 0))}
      (body_codes proof_body (out_note i 10)) λ _ surjection _.
      handing (λ range. seen s.items (s.empty && eqb (length surjection) 0 && eqb range 0)) (body_codes proof_body (out_note i 12)))
