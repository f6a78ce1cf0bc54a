-- A part of the layout and the contents that it codes, both ways at once, and the ways of putting parts together.
--     forth   reading the bytes of good contents, and anything behind them, goes on behind them with the part's entries
--     back    where a reading finishes, it began with the bytes of some good contents, and goes on behind them
--     traced  reading the bytes of good contents, of whatever length, does this in order, and goes on behind them; or stops, where they end past the limit
--     judged  of whatever length, its first field that would end past the limit is refused; if there is none, it goes on
use Prim.Native.Nat.{ℕ, zero, suc, ◌+◌, ◌-◌, ◌^◌, ◌<◌, ◌≤◌}
use mathlib.Core.Path.{◌≡◌, refl, sym, ◌∙◌, ap, ap₂, subst}
use mathlib.Core.Bool.{Bool, true, false, cond}
use mathlib.Core.List.{List, [], ◌∷◌, ◌++◌, append_assoc}
use native.Mathlib.Nat.{add_assoc, add-zero, zero-add}
use native.Mathlib.Omega.{arith}
use lib.Dec.{leb}
use lib.ListN.{length, take, drop, length-append, take-append-drop}
use lib.Seq.{take_at, drop_at, length-take-le, get_or-append-add, take-append-le, take-append-add}
use borrow.Author.Tests.{leb-true, leb-false, le-leb}
use Rattle.layout.specs.Number.{Order, value, bytes_of, Bytes}
use Rattle.layout.specs.Layout.{Layout, number, opaque, enter, refuse, Answer, finished, refused, Reading, reading, behind, Entry, Hidden, run}
use Rattle.layout.specs.Transaction.{Head, limit, within, further_at, opaque_at, count_at, body_at, value_at, prefixed_at, issuance_at, asset_prefix, nonce_prefix, each, alone}
use Rattle.layout.specs.Contents.{Fixed, Every, flat, compact_bytes, list_bytes}
use Rattle.layout.specs.Fields.{Field, field, fixed, fields_each, limited}
use Rattle.layout.specs.Sites.{What, counts, lengths, values, assets, nonces, issuances, Site, site, sites_each}
use Rattle.layout.proofs.Number.{bytes_take, value_bytes_lem, bytes_value, length_bytes, value_small}
use Rattle.layout.proofs.Trace.{Event, enters, entering, looked, passed, trace, met, field_trace, trace_there, Goes, on, stops, goes_as, goes_past, goes_both}
use Rattle.layout.proofs.Reading.{by_cases, field_run, field_there, field_case, finished_not_more, refused_not_finished}

pub bytes_behind : (xs ys : List ℕ) → Bytes (xs ++ ys) → Bytes ys
bytes_behind xs ys h i = rw (sym (get_or-append-add xs ys i 0)) (h (length xs + i))

-- A part stands at a position and hands on a result and the position behind it.
abbrev pub Part : Type 0 → Type 0
Part S = ℕ → (S → ℕ → Layout Head) → Layout Head

-- so many bytes and some entries, and then a reading that goes on
abbrev pub after : ℕ → List Entry → Reading Head → Reading Head
after n es r = reading r.answer (n + r.taken) (es ++ r.log)

-- an answer, and the position up to which bytes are taken
abbrev pub settled : ℕ → Reading Head → Answer Head × ℕ
settled at r = (r.answer, at + r.taken)

pub limited_append : (fs gs : List Field) (z : Answer Head × ℕ) → limited (fs ++ gs) z ≡ limited fs (limited gs z)
unfolding limited
limited_append [] gs z = refl
limited_append (f ∷ fs) gs z = ap (λ (y : Answer Head × ℕ). cond (leb f.end limit) y (refused 2 f.place, f.start)) (limited_append fs gs z)

-- the part that stands at a site
abbrev pub Stand : What → ℕ → Layout Head → Type 0
Stand (counts left) at l = (k : ℕ → ℕ → Layout Head) × (l ≡ count_at at left k)
Stand lengths at l = (h : Hidden) × (note : ℕ → ℕ → Entry) × (k : ℕ → ℕ → Layout Head) × (l ≡ body_at at h note k)
Stand values at l = (note : ℕ → ℕ → Entry) × (amount : ℕ → ℕ → Entry) × (k : ℕ → ℕ → Layout Head) × (l ≡ value_at at note amount k)
Stand assets at l = (h : Hidden) × (note : ℕ → ℕ → Entry) × (k : ℕ → Layout Head) × (l ≡ prefixed_at at h asset_prefix note k)
Stand nonces at l = (h : Hidden) × (note : ℕ → ℕ → Entry) × (k : ℕ → Layout Head) × (l ≡ prefixed_at at h nonce_prefix note k)
Stand issuances at l = (i : ℕ) × (k : ℕ → Layout Head) × (l ≡ issuance_at i at k)

-- a reading comes to a site behind the bytes before it, whatever follows, and its part stands there
pub record Comes (l : Layout Head) (bs : List ℕ) (at : ℕ) (s : Site) : Type 0 where
  pub from : at ≤ s.at
  pub upto : s.at ≤ at + length bs
  pub next : Layout Head
  pub stands : Stand s.what s.at next
  pub entered : List Entry
  pub goes : s.at ≤ limit → (rest : List ℕ) → run l (take (s.at - at) bs ++ rest) ≡ after (s.at - at) entered (run next rest)

every_both : {X : Type 0} (P : X → Type 0) (xs ys : List X) → Every P xs → Every P ys → Every P (xs ++ ys)
every_both P [] ys a b = b
every_both P (x ∷ xs) ys a b = (a.0, every_both P xs ys a.1 b)

pub every_as : {X : Type 0} (P Q : X → Type 0) → ((x : X) → P x → Q x) → (xs : List X) → Every P xs → Every Q xs
every_as P Q f [] a = tt
every_as P Q f (x ∷ xs) a = (f x a.0, every_as P Q f xs a.1)

abbrev pub Finishes : Layout Head → List ℕ → Head → Type 0
Finishes l xs a = (run l xs).answer ≡ finished a

-- the bytes began with those of good contents, and the reading of what follows finishes
pub record Began {X S : Type 0} (Good : X → Type 0) (bytes : X → List ℕ) (out : X → S) (at : ℕ) (k : S → ℕ → Layout Head) (xs : List ℕ) (a : Head) : Type 0 where
  pub held : X
  pub rest : List ℕ
  pub good : Good held
  pub same : xs ≡ bytes held ++ rest
  pub ends : at + length (bytes held) ≤ limit
  pub goes : Finishes (k (out held) (at + length (bytes held))) rest a

-- what is done along some bytes; it may stop where they end past the limit
abbrev pub Along : ℕ → List ℕ → List Event → List Event → List Event → Type 0
Along at bs t es u = Goes (limit < at + length bs) t es u

pub record Codes {X S : Type 0} (part : Part S) (Good : X → Type 0) (bytes : X → List ℕ) (log : ℕ → X → List Entry) (events : ℕ → X → List Event) (fields : ℕ → X → List Field) (sites : ℕ → X → List Site) (out : X → S) : Type 0 where
  pub forth : (x : X) → Good x → (at : ℕ) (k : S → ℕ → Layout Head) (ys : List ℕ) → at + length (bytes x) ≤ limit → run (part at k) (bytes x ++ ys) ≡ after (length (bytes x)) (log at x) (run (k (out x) (at + length (bytes x))) ys)
  pub back : (at : ℕ) (k : S → ℕ → Layout Head) (xs : List ℕ) (a : Head) → Bytes xs → at ≤ limit → Finishes (part at k) xs a → Began Good bytes out at k xs a
  pub traced : (x : X) → Good x → (at : ℕ) (k : S → ℕ → Layout Head) (ys : List ℕ) → Along at (bytes x) (trace (part at k) (bytes x ++ ys)) (events at x) (trace (k (out x) (at + length (bytes x))) ys)
  pub judged : (x : X) → Good x → (at : ℕ) (k : S → ℕ → Layout Head) (ys : List ℕ) → settled at (run (part at k) (bytes x ++ ys)) ≡ limited (fields at x) (settled (at + length (bytes x)) (run (k (out x) (at + length (bytes x))) ys))
  pub reach : (x : X) → Good x → (at : ℕ) (k : S → ℕ → Layout Head) → Every (Comes (part at k) (bytes x) at) (sites at x)

-- what was held, as other contents
pub began_as : {X Y S : Type 0} {Good : X → Type 0} {bytes : X → List ℕ} {out : X → S} {Good' : Y → Type 0} {bytes' : Y → List ℕ} {out' : Y → S} {at : ℕ} {k : S → ℕ → Layout Head} {xs : List ℕ} {a : Head} (u : Began Good bytes out at k xs a) (y : Y) → Good' y → bytes' y ≡ bytes u.held → out' y ≡ out u.held → Began Good' bytes' out' at k xs a
began_as {S = S} {out = out} {bytes' = bytes'} {at = at} {k = k} {a = a} u y g e o =
    record {
      held = y;
      rest = u.rest;
      good = g;
      same = u.same ∙ ap (λ (l : List ℕ). l ++ u.rest) (sym e);
      ends = subst (λ (l : List ℕ). at + length l ≤ limit) (sym e) u.ends;
      goes = subst (λ (s : S). Finishes (k s (at + length (bytes' y))) u.rest a) (sym o) (subst (λ (l : List ℕ). Finishes (k (out u.held) (at + length l)) u.rest a) (sym e) u.goes);
    }

-- ---- putting parts together

-- one part, and then another that may depend on it
module _ {X Y S T : Type 0} {P : Part S} {GoodP : X → Type 0} {bytes_p : X → List ℕ} {log_p : ℕ → X → List Entry} {events_p : ℕ → X → List Event} {fields_p : ℕ → X → List Field} {sites_p : ℕ → X → List Site} {out_p : X → S}
    {Q : ℕ → S → Part T} {GoodQ : X → Y → Type 0} {bytes_q : X → Y → List ℕ} {log_q : ℕ → X → ℕ → Y → List Entry} {events_q : ℕ → X → ℕ → Y → List Event} {fields_q : ℕ → X → ℕ → Y → List Field} {sites_q : ℕ → X → ℕ → Y → List Site} {out_q : X → Y → T} where
  pub then : Codes P GoodP bytes_p log_p events_p fields_p sites_p out_p → ((at : ℕ) (x : X) → GoodP x → Codes (Q at (out_p x)) (GoodQ x) (bytes_q x) (log_q at x) (events_q at x) (fields_q at x) (sites_q at x) (out_q x)) → Codes (λ at k. P at (λ s at'. Q at s at' k)) (λ (z : X × Y). GoodP z.0 × GoodQ z.0 z.1) (λ z. bytes_p z.0 ++ bytes_q z.0 z.1) (λ at z. log_p at z.0 ++ log_q at z.0 (at + length (bytes_p z.0)) z.1) (λ at z. events_p at z.0 ++ events_q at z.0 (at + length (bytes_p z.0)) z.1) (λ at z. fields_p at z.0 ++ fields_q at z.0 (at + length (bytes_p z.0)) z.1) (λ at z. sites_p at z.0 ++ sites_q at z.0 (at + length (bytes_p z.0)) z.1) (λ z. out_q z.0 z.1)
  then p q =
      record {
        forth = λ z g at k ys h.
            let x = z.0 in
            let y = z.1 in
            let b = bytes_p x in
            let c = bytes_q x y in
            let both : length (b ++ c) ≡ length b + length c = length-append b c in
            let k' : S → ℕ → Layout Head = λ s at'. Q at s at' k in
            let e : at + length b + length c ≡ at + length (b ++ c) = omega arith in
            ap (run (P at k')) (append_assoc b c ys)
            ∙ p.forth x g.0 at k' (c ++ ys) (omega arith)
            ∙ ap (after (length b) (log_p at x)) ((q at x g.0).forth y g.1 (at + length b) k ys (omega arith))
            ∙ ap (λ (n : ℕ). after (length b) (log_p at x) (after (length c) (log_q at x (at + length b) y) (run (k (out_q x y) n) ys))) e
            ∙ (let r = run (k (out_q x y) (at + length (b ++ c))) ys in
            ap₂ (λ (n : ℕ) (es : List Entry). reading r.answer n es) (omega arith) (sym (append_assoc (log_p at x) (log_q at x (at + length b) y) r.log)));
        back = λ at k xs a bs h f.
            let u = p.back at (λ s at'. Q at s at' k) xs a bs h f in
            let rest_bytes = bytes_behind (bytes_p u.held) u.rest (subst Bytes u.same bs) in
            let v = (q at u.held u.good).back (at + length (bytes_p u.held)) k u.rest a rest_bytes u.ends u.goes in
            let b = bytes_p u.held in
            let c = bytes_q u.held v.held in
            let e : at + length b + length c ≡ at + length (b ++ c) = omega (arith, length-append b c) in
            record {
              held = (u.held, v.held);
              rest = v.rest;
              good = (u.good, v.good);
              same = u.same ∙ ap (λ (l : List ℕ). b ++ l) v.same ∙ sym (append_assoc b c v.rest);
              ends = subst (λ (n : ℕ). n ≤ limit) e v.ends;
              goes = subst (λ (n : ℕ). Finishes (k (out_q u.held v.held) n) v.rest a) e v.goes;
            };
        traced = λ z g at k ys.
            let x = z.0 in
            let y = z.1 in
            let b = bytes_p x in
            let c = bytes_q x y in
            let both : length (b ++ c) ≡ length b + length c = length-append b c in
            let k' : S → ℕ → Layout Head = λ s at'. Q at s at' k in
            let e : at + length b + length c ≡ at + length (b ++ c) = omega arith in
            goes_as (ap (trace (P at k')) (append_assoc b c ys)) refl (ap (λ (n : ℕ). trace (k (out_q x y) n) ys) e)
            (goes_both _ (events_p at x) _ (events_q at x (at + length b) y) _ (λ h. omega arith) (λ h. omega arith)
            (p.traced x g.0 at k' (c ++ ys))
            ((q at x g.0).traced y g.1 (at + length b) k ys));
        judged = λ z g at k ys.
            let x = z.0 in
            let y = z.1 in
            let b = bytes_p x in
            let c = bytes_q x y in
            let both : length (b ++ c) ≡ length b + length c = length-append b c in
            let k' : S → ℕ → Layout Head = λ s at'. Q at s at' k in
            let e : at + length b + length c ≡ at + length (b ++ c) = omega arith in
            ap (λ (l : List ℕ). settled at (run (P at k') l)) (append_assoc b c ys)
            ∙ p.judged x g.0 at k' (c ++ ys)
            ∙ ap (limited (fields_p at x)) ((q at x g.0).judged y g.1 (at + length b) k ys)
            ∙ ap (λ (n : ℕ). limited (fields_p at x) (limited (fields_q at x (at + length b) y) (settled n (run (k (out_q x y) n) ys)))) e
            ∙ sym (limited_append (fields_p at x) (fields_q at x (at + length b) y) (settled (at + length (b ++ c)) (run (k (out_q x y) (at + length (b ++ c))) ys)));
        reach = λ z g at k.
            let x = z.0 in
            let y = z.1 in
            let b = bytes_p x in
            let c = bytes_q x y in
            let both : length (b ++ c) ≡ length b + length c = length-append b c in
            let k' : S → ℕ → Layout Head = λ s at'. Q at s at' k in
            every_both (Comes (P at k') (b ++ c) at) (sites_p at x) (sites_q at x (at + length b) y)
            (every_as (Comes (P at k') b at) (Comes (P at k') (b ++ c) at) (λ s w.
            record {
              from = w.from;
              upto = omega (arith, w.upto);
              next = w.next;
              stands = w.stands;
              entered = w.entered;
              goes = λ h rest. ap (λ (l : List ℕ). run (P at k') (l ++ rest)) (take-append-le (s.at - at) b c (omega (arith, w.upto, w.from))) ∙ w.goes h rest;
            }) (sites_p at x) (p.reach x g.0 at k'))
            (every_as (Comes (Q at (out_p x) (at + length b) k) c (at + length b)) (Comes (P at k') (b ++ c) at) (λ s w.
            record {
              from = omega (arith, w.from);
              upto = omega (arith, w.upto);
              next = w.next;
              stands = w.stands;
              entered = log_p at x ++ w.entered;
              goes = λ h rest.
                  let d = s.at - (at + length b) in
                  let e : s.at - at ≡ length b + d = omega (arith, w.from) in
                  let r = run w.next rest in
                  ap (λ (n : ℕ). run (P at k') (take n (b ++ c) ++ rest)) e
                  ∙ ap (λ (l : List ℕ). run (P at k') (l ++ rest)) (take-append-add b c d)
                  ∙ ap (run (P at k')) (append_assoc b (take d c) rest)
                  ∙ p.forth x g.0 at k' (take d c ++ rest) (omega (arith, w.from))
                  ∙ ap (after (length b) (log_p at x)) (w.goes h rest)
                  ∙ ap₂ (λ (n : ℕ) (es : List Entry). reading r.answer n es) (omega arith) (sym (append_assoc (log_p at x) w.entered r.log));
            }) (sites_q at x (at + length b) y) ((q at x g.0).reach y g.1 (at + length b) k));
      }

-- a part whose entry follows it, and one whose result is tested
module _ {X S : Type 0} {P : Part S} {Good : X → Type 0} {bytes : X → List ℕ} {log : ℕ → X → List Entry} {events : ℕ → X → List Event} {fields : ℕ → X → List Field} {sites : ℕ → X → List Site} {out : X → S} where
  pub noting : (e : ℕ → S → Entry) → Codes P Good bytes log events fields sites out → Codes (λ at k. P at (λ s at'. enter (e at s) (k s at'))) Good bytes (λ at x. log at x ++ (e at (out x) ∷ [])) (λ at x. entering (events at x) (e at (out x))) fields sites out
  unfolding run trace
  noting e p =
      record {
        forth = λ x g at k ys h.
            let r = run (k (out x) (at + length (bytes x))) ys in
            p.forth x g at (λ s at'. enter (e at s) (k s at')) ys h ∙ ap (reading r.answer (length (bytes x) + r.taken)) (sym (append_assoc (log at x) (e at (out x) ∷ []) r.log));
        back = λ at k xs a bs h f.
            let u = p.back at (λ s at'. enter (e at s) (k s at')) xs a bs h f in
            record { held = u.held; rest = u.rest; good = u.good; same = u.same; ends = u.ends; goes = u.goes };
        traced = λ x g at k ys. goes_both {past' = ⊥} _ (events at x) _ (enters (e at (out x)) ∷ []) _ (λ h. h) (λ h. absurd h) (p.traced x g at (λ s at'. enter (e at s) (k s at')) ys) (on refl);
        judged = λ x g at k ys. p.judged x g at (λ s at'. enter (e at s) (k s at')) ys;
        reach = λ x g at k. p.reach x g at (λ s at'. enter (e at s) (k s at'));
      }

  pub passing : (t : S → Bool) (n : ℕ) (place : ℕ → ℕ) → Codes P Good bytes log events fields sites out → Codes (λ at k. P at (λ s at'. cond (t s) (k s at') (refuse n (place at)))) (λ x. Good x × (t (out x) ≡ true)) bytes log events fields sites out
  unfolding run
  passing t n place p =
      record {
        forth = λ x g at k ys h.
            p.forth x g.0 at (λ s at'. cond (t s) (k s at') (refuse n (place at))) ys h
            ∙ ap (λ (b : Bool). after (length (bytes x)) (log at x) (run (cond b (k (out x) (at + length (bytes x))) (refuse n (place at))) ys)) g.1;
        back = λ at k xs a bs h f.
            let u = p.back at (λ s at'. cond (t s) (k s at') (refuse n (place at))) xs a bs h f in
            let go : Layout Head = k (out u.held) (at + length (bytes u.held)) in
            by_cases (t (out u.held))
            (λ e. record { held = u.held; rest = u.rest; good = (u.good, e); same = u.same; ends = u.ends; goes = subst (λ (b : Bool). Finishes (cond b go (refuse n (place at))) u.rest a) e u.goes })
            (λ e. absurd (refused_not_finished (subst (λ (b : Bool). Finishes (cond b go (refuse n (place at))) u.rest a) e u.goes)));
        traced = λ x g at k ys.
            goes_as refl refl (ap (λ (b : Bool). trace (cond b (k (out x) (at + length (bytes x))) (refuse n (place at))) ys) g.1)
            (p.traced x g.0 at (λ s at'. cond (t s) (k s at') (refuse n (place at))) ys);
        judged = λ x g at k ys.
            p.judged x g.0 at (λ s at'. cond (t s) (k s at') (refuse n (place at))) ys
            ∙ ap (λ (b : Bool). limited (fields at x) (settled (at + length (bytes x)) (run (cond b (k (out x) (at + length (bytes x))) (refuse n (place at))) ys))) g.1;
        reach = λ x g at k. p.reach x g.0 at (λ s at'. cond (t s) (k s at') (refuse n (place at)));
      }

  pub failing : (t : S → Bool) (n place : ℕ) → Codes P Good bytes log events fields sites out → Codes (λ at k. P at (λ s at'. cond (t s) (refuse n place) (k s at'))) (λ x. Good x × (t (out x) ≡ false)) bytes log events fields sites out
  unfolding run
  failing t n place p =
      record {
        forth = λ x g at k ys h.
            p.forth x g.0 at (λ s at'. cond (t s) (refuse n place) (k s at')) ys h
            ∙ ap (λ (b : Bool). after (length (bytes x)) (log at x) (run (cond b (refuse n place) (k (out x) (at + length (bytes x)))) ys)) g.1;
        back = λ at k xs a bs h f.
            let u = p.back at (λ s at'. cond (t s) (refuse n place) (k s at')) xs a bs h f in
            let go : Layout Head = k (out u.held) (at + length (bytes u.held)) in
            by_cases (t (out u.held))
            (λ e. absurd (refused_not_finished (subst (λ (b : Bool). Finishes (cond b (refuse n place) go) u.rest a) e u.goes)))
            (λ e. record { held = u.held; rest = u.rest; good = (u.good, e); same = u.same; ends = u.ends; goes = subst (λ (b : Bool). Finishes (cond b (refuse n place) go) u.rest a) e u.goes });
        traced = λ x g at k ys.
            goes_as refl refl (ap (λ (b : Bool). trace (cond b (refuse n place) (k (out x) (at + length (bytes x)))) ys) g.1)
            (p.traced x g.0 at (λ s at'. cond (t s) (refuse n place) (k s at')) ys);
        judged = λ x g at k ys.
            p.judged x g.0 at (λ s at'. cond (t s) (refuse n place) (k s at')) ys
            ∙ ap (λ (b : Bool). limited (fields at x) (settled (at + length (bytes x)) (run (cond b (refuse n place) (k (out x) (at + length (bytes x)))) ys))) g.1;
        reach = λ x g at k. p.reach x g.0 at (λ s at'. cond (t s) (refuse n place) (k s at'));
      }

  -- the same part as a coding of other contents
  module _ {Y : Type 0} {Good' : Y → Type 0} {bytes' : Y → List ℕ} {log' : ℕ → Y → List Entry} {events' : ℕ → Y → List Event} {fields' : ℕ → Y → List Field} {sites' : ℕ → Y → List Site} {out' : Y → S} where
    pub seen_as :
        (to : Y → X)
        → ((y : Y) → Good' y → Good (to y))
        → ((y : Y) → Good' y → bytes' y ≡ bytes (to y))
        → ((at : ℕ) (y : Y) → Good' y → log' at y ≡ log at (to y))
        → ((at : ℕ) (y : Y) → Good' y → events' at y ≡ events at (to y))
        → ((at : ℕ) (y : Y) → Good' y → fields' at y ≡ fields at (to y))
        → ((at : ℕ) (y : Y) → Good' y → sites' at y ≡ sites at (to y))
        → ((y : Y) → Good' y → out' y ≡ out (to y))
        → ((x : X) → Good x → (y : Y) × Good' y × (to y ≡ x))
        → Codes P Good bytes log events fields sites out
        → Codes P Good' bytes' log' events' fields' sites' out'
    seen_as to goods spells logs tells parts places hands finds p =
        record {
          forth = λ y g at k ys h.
              let e = spells y g in
              let x = to y in
              ap (λ (l : List ℕ). run (P at k) (l ++ ys)) e
              ∙ p.forth x (goods y g) at k ys (subst (λ (l : List ℕ). at + length l ≤ limit) e h)
              ∙ ap (λ (l : List ℕ). after (length l) (log at x) (run (k (out x) (at + length l)) ys)) (sym e)
              ∙ ap₂ (λ (es : List Entry) (s : S). after (length (bytes' y)) es (run (k s (at + length (bytes' y))) ys)) (sym (logs at y g)) (sym (hands y g));
          back = λ at k xs a bs h f.
              let u = p.back at k xs a bs h f in
              let v = finds u.held u.good in
              began_as u v.0 v.1 (spells v.0 v.1 ∙ ap bytes v.2) (hands v.0 v.1 ∙ ap out v.2);
          traced = λ y g at k ys.
              let e = spells y g in
              let x = to y in
              goes_as (ap (λ (l : List ℕ). trace (P at k) (l ++ ys)) e) (tells at y g) (ap₂ (λ (l : List ℕ) (s : S). trace (k s (at + length l)) ys) (sym e) (sym (hands y g)))
              (goes_past (subst (λ (l : List ℕ). limit < at + length l) (sym e)) (p.traced x (goods y g) at k ys));
          judged = λ y g at k ys.
              let e = spells y g in
              let x = to y in
              ap (λ (l : List ℕ). settled at (run (P at k) (l ++ ys))) e
              ∙ p.judged x (goods y g) at k ys
              ∙ ap (λ (l : List ℕ). limited (fields at x) (settled (at + length l) (run (k (out x) (at + length l)) ys))) (sym e)
              ∙ ap₂ (λ (fs : List Field) (s : S). limited fs (settled (at + length (bytes' y)) (run (k s (at + length (bytes' y))) ys))) (sym (parts at y g)) (sym (hands y g));
          reach = λ y g at k.
              let e = spells y g in
              subst (λ (l : List ℕ). Every (Comes (P at k) l at) (sites' at y)) (sym e)
              (subst (λ (ss : List Site). Every (Comes (P at k) (bytes (to y)) at) ss) (sym (places at y g)) (p.reach (to y) (goods y g) at k));
        }

-- a part's result as another
pub handing : {X S T : Type 0} {P : Part S} {Good : X → Type 0} {bytes : X → List ℕ} {log : ℕ → X → List Entry} {events : ℕ → X → List Event} {fields : ℕ → X → List Field} {sites : ℕ → X → List Site} {out : X → S} (f : S → T) → Codes P Good bytes log events fields sites out → Codes (λ at (k : T → ℕ → Layout Head). P at (λ s. k (f s))) Good bytes log events fields sites (λ x. f (out x))
handing f p =
    record {
      forth = λ x g at k ys h. p.forth x g at (λ s. k (f s)) ys h;
      back = λ at k xs a bs h e.
          let u = p.back at (λ s. k (f s)) xs a bs h e in
          record { held = u.held; rest = u.rest; good = u.good; same = u.same; ends = u.ends; goes = u.goes };
      traced = λ x g at k ys. p.traced x g at (λ s. k (f s)) ys;
      judged = λ x g at k ys. p.judged x g at (λ s. k (f s)) ys;
      reach = λ x g at k. p.reach x g at (λ s. k (f s));
    }

-- a part that is a site itself
pub standing : {X S : Type 0} {P : Part S} {Good : X → Type 0} {bytes : X → List ℕ} {log : ℕ → X → List Entry} {events : ℕ → X → List Event} {fields : ℕ → X → List Field} {sites : ℕ → X → List Site} {out : X → S} (what : What) → ((at : ℕ) (k : S → ℕ → Layout Head) → Stand what at (P at k)) → Codes P Good bytes log events fields sites out → Codes P Good bytes log events fields (λ at x. site at what ∷ sites at x) out
standing {P = P} {bytes = bytes} what is p =
    record {
      forth = p.forth;
      back = p.back;
      traced = p.traced;
      judged = p.judged;
      reach = λ x g at k. (
        record { from = omega arith; upto = omega arith; next = P at k; stands = is at k; entered = []; goes = λ h rest. let e : at - at ≡ 0 = omega arith in let r = run (P at k) rest in ap (λ (n : ℕ). run (P at k) (take n (bytes x) ++ rest)) e ∙ ap (λ (n : ℕ). reading r.answer n r.log) (omega arith) },
        p.reach x g at k,
      );
    }

-- the branch that a test takes
module _ {X S : Type 0} {Good : X → Type 0} {bytes : X → List ℕ} {log : ℕ → X → List Entry} {events : ℕ → X → List Event} {fields : ℕ → X → List Field} {sites : ℕ → X → List Site} {out : X → S} (t : Bool) (P Q : Part S) where
  pub if_true : t ≡ true → Codes P Good bytes log events fields sites out → Codes (λ at k. cond t (P at k) (Q at k)) Good bytes log events fields sites out
  if_true e p = subst (λ (b : Bool). Codes (λ at k. cond b (P at k) (Q at k)) Good bytes log events fields sites out) (sym e) p

  pub if_false : t ≡ false → Codes Q Good bytes log events fields sites out → Codes (λ at k. cond t (P at k) (Q at k)) Good bytes log events fields sites out
  if_false e q = subst (λ (b : Bool). Codes (λ at k. cond b (P at k) (Q at k)) Good bytes log events fields sites out) (sym e) q

-- no bytes
pub empty_codes : {S : Type 0} (s : S) → Codes (λ at k. k s at) (λ (x : Unit {0}). Unit {0}) (λ x. []) (λ at x. []) (λ at x. []) (λ at x. []) (λ at x. []) (λ x. s)
unfolding limited
empty_codes s =
    record {
      forth = λ x g at k ys h.
          ap (λ (n : ℕ). run (k s n) ys) (sym (add-zero at)) ∙ (let r = run (k s (at + 0)) ys in ap (λ (n : ℕ). reading r.answer n r.log) (sym (zero-add r.taken)));
      back = λ at k xs a bs h f. record { held = tt; rest = xs; good = tt; same = refl; ends = omega arith; goes = subst (λ (n : ℕ). Finishes (k s n) xs a) (sym (add-zero at)) f };
      traced = λ x g at k ys. on (ap (λ (n : ℕ). trace (k s n) ys) (sym (add-zero at)));
      judged = λ x g at k ys. ap (λ (n : ℕ). settled n (run (k s n) ys)) (sym (add-zero at));
      reach = λ x g at k. tt;
    }

-- no contents at all
pub refuse_codes : {X S : Type 0} {Good : X → Type 0} {bytes : X → List ℕ} {log : ℕ → X → List Entry} {events : ℕ → X → List Event} {fields : ℕ → X → List Field} {sites : ℕ → X → List Site} {out : X → S} (n place : ℕ) → ((x : X) → Good x → ⊥) → Codes (λ at k. refuse n place) Good bytes log events fields sites out
unfolding run
refuse_codes n place never = record { forth = λ x g. absurd (never x g); back = λ at k xs a bs h f. absurd (refused_not_finished f); traced = λ x g. absurd (never x g); judged = λ x g. absurd (never x g); reach = λ x g. absurd (never x g) }

-- ---- so many of one kind; each hands on what later ones need of it

module _ {X S : Type 0} (part : ℕ → S → Part S) (Good : S → X → Type 0) (bytes : X → List ℕ) (log : ℕ → S → ℕ → X → List Entry) (next : S → X → S) where
  abbrev pub GoodEach : S → List X → Type 0
  GoodEach s [] = Unit {0}
  GoodEach s (x ∷ xs) = Good s x × GoodEach (next s x) xs

  abbrev pub log_each : ℕ → S → ℕ → List X → List Entry
  log_each i s at [] = []
  log_each i s at (x ∷ xs) = log i s at x ++ log_each (suc i) (next s x) (at + length (bytes x)) xs

  abbrev pub next_each : S → List X → S
  next_each s [] = s
  next_each s (x ∷ xs) = next_each (next s x) xs

module _ {X S : Type 0} (bytes : X → List ℕ) (events : ℕ → S → ℕ → X → List Event) (next : S → X → S) where
  abbrev pub events_each : ℕ → S → ℕ → List X → List Event
  events_each i s at [] = []
  events_each i s at (x ∷ xs) = events i s at x ++ events_each (suc i) (next s x) (at + length (bytes x)) xs

module _ {X S : Type 0} (bytes : X → List ℕ) (sites : S → ℕ → X → List Site) (next : S → X → S) where
  abbrev pub sites_all : S → ℕ → List X → List Site
  sites_all s at [] = []
  sites_all s at (x ∷ xs) = sites s at x ++ sites_all (next s x) (at + length (bytes x)) xs

module _ {X S : Type 0} (part : ℕ → S → Part S) (Good : S → X → Type 0) (bytes : X → List ℕ) (log : ℕ → S → ℕ → X → List Entry) (events : ℕ → S → ℕ → X → List Event) (fields : ℕ → X → List Field) (sites : S → ℕ → X → List Site) (next : S → X → S) where
  abbrev Goods : S → List X → Type 0
  Goods = GoodEach part Good bytes log next

  abbrev logs : ℕ → S → ℕ → List X → List Entry
  logs = log_each part Good bytes log next

  abbrev tells : ℕ → S → ℕ → List X → List Event
  tells = events_each bytes events next

  abbrev nexts : S → List X → S
  nexts = next_each part Good bytes log next

  abbrev Eaches : ℕ → ℕ → S → Type 0
  Eaches n i s = Codes (λ at k. each part n i s at k) (λ xs. (length xs ≡ n) × Goods s xs) (flat bytes) (logs i s) (tells i s) (fields_each bytes fields) (sites_all bytes sites next s) (nexts s)

  no_each : (i : ℕ) (s : S) → Eaches 0 i s
  unfolding each flat fields_each
  no_each i s = seen_as {Y = List X} (λ xs. tt) (λ xs g. tt) none_bytes none_log none_events none_fields none_sites none_next (λ x g. ([], (refl, tt), refl)) (empty_codes s)
    where
      none_bytes : (xs : List X) → (length xs ≡ 0) × Goods s xs → flat bytes xs ≡ []
      none_bytes [] g = refl
      none_bytes (x ∷ xs) g = absurd (omega (arith, g.0))

      none_log : (at : ℕ) (xs : List X) → (length xs ≡ 0) × Goods s xs → logs i s at xs ≡ []
      none_log at [] g = refl
      none_log at (x ∷ xs) g = absurd (omega (arith, g.0))

      none_events : (at : ℕ) (xs : List X) → (length xs ≡ 0) × Goods s xs → tells i s at xs ≡ []
      none_events at [] g = refl
      none_events at (x ∷ xs) g = absurd (omega (arith, g.0))

      none_fields : (at : ℕ) (xs : List X) → (length xs ≡ 0) × Goods s xs → fields_each bytes fields at xs ≡ []
      none_fields at [] g = refl
      none_fields at (x ∷ xs) g = absurd (omega (arith, g.0))

      none_sites : (at : ℕ) (xs : List X) → (length xs ≡ 0) × Goods s xs → sites_all bytes sites next s at xs ≡ []
      none_sites at [] g = refl
      none_sites at (x ∷ xs) g = absurd (omega (arith, g.0))

      none_next : (xs : List X) → (length xs ≡ 0) × Goods s xs → nexts s xs ≡ s
      none_next [] g = refl
      none_next (x ∷ xs) g = absurd (omega (arith, g.0))

  -- one, and then n more
  ahead : (n i : ℕ) (s : S) → Codes (part i s) (Good s) bytes (log i s) (events i s) fields (sites s) (next s) → ((x : X) → Eaches n (suc i) (next s x)) → Codes (λ at k. each part (suc n) i s at k) (λ (z : X × List X). Good s z.0 × ((length z.1 ≡ n) × Goods (next s z.0) z.1)) (λ z. bytes z.0 ++ flat bytes z.1) (λ at z. log i s at z.0 ++ logs (suc i) (next s z.0) (at + length (bytes z.0)) z.1) (λ at z. events i s at z.0 ++ tells (suc i) (next s z.0) (at + length (bytes z.0)) z.1) (λ at z. fields at z.0 ++ fields_each bytes fields (at + length (bytes z.0)) z.1) (λ at z. sites s at z.0 ++ sites_all bytes sites next (next s z.0) (at + length (bytes z.0)) z.1) (λ z. nexts (next s z.0) z.1)
  unfolding each
  ahead n i s p q = then {Q = λ at s' at' k. each part n (suc i) s' at' k} p (λ at x g. q x)

  one_more : (n i : ℕ) (s : S) → Codes (part i s) (Good s) bytes (log i s) (events i s) fields (sites s) (next s) → ((x : X) → Eaches n (suc i) (next s x)) → Eaches (suc n) i s
  unfolding flat fields_each
  one_more n i s p q =
      record {
        forth = forth_one;
        back = λ at k xs a bs h f.
            let u = (ahead n i s p q).back at k xs a bs h f in
            record { held = u.held.0 ∷ u.held.1; rest = u.rest; good = (ap suc u.good.1.0, (u.good.0, u.good.1.1)); same = u.same; ends = u.ends; goes = u.goes };
        traced = traced_one;
        judged = judged_one;
        reach = reach_one;
      }
    where
      reach_one : (xs : List X) → (length xs ≡ suc n) × Goods s xs → (at : ℕ) (k : S → ℕ → Layout Head) → Every (Comes (each part (suc n) i s at k) (flat bytes xs) at) (sites_all bytes sites next s at xs)
      reach_one [] g = absurd (omega (arith, g.0))
      reach_one (x ∷ xs) g = (ahead n i s p q).reach (x, xs) (g.1.0, (omega (arith, g.0), g.1.1))

      judged_one : (xs : List X) → (length xs ≡ suc n) × Goods s xs → (at : ℕ) (k : S → ℕ → Layout Head) (ys : List ℕ) → settled at (run (each part (suc n) i s at k) (flat bytes xs ++ ys)) ≡ limited (fields_each bytes fields at xs) (settled (at + length (flat bytes xs)) (run (k (nexts s xs) (at + length (flat bytes xs))) ys))
      judged_one [] g = absurd (omega (arith, g.0))
      judged_one (x ∷ xs) g = (ahead n i s p q).judged (x, xs) (g.1.0, (omega (arith, g.0), g.1.1))

      traced_one : (xs : List X) → (length xs ≡ suc n) × Goods s xs → (at : ℕ) (k : S → ℕ → Layout Head) (ys : List ℕ) → Along at (flat bytes xs) (trace (each part (suc n) i s at k) (flat bytes xs ++ ys)) (tells i s at xs) (trace (k (nexts s xs) (at + length (flat bytes xs))) ys)
      traced_one [] g = absurd (omega (arith, g.0))
      traced_one (x ∷ xs) g = (ahead n i s p q).traced (x, xs) (g.1.0, (omega (arith, g.0), g.1.1))

      forth_one : (xs : List X) → (length xs ≡ suc n) × Goods s xs → (at : ℕ) (k : S → ℕ → Layout Head) (ys : List ℕ) → at + length (flat bytes xs) ≤ limit → run (each part (suc n) i s at k) (flat bytes xs ++ ys) ≡ after (length (flat bytes xs)) (logs i s at xs) (run (k (nexts s xs) (at + length (flat bytes xs))) ys)
      forth_one [] g = absurd (omega (arith, g.0))
      forth_one (x ∷ xs) g = (ahead n i s p q).forth (x, xs) (g.1.0, (omega (arith, g.0), g.1.1))

  pub each_codes : ((i : ℕ) (s : S) → Codes (part i s) (Good s) bytes (log i s) (events i s) fields (sites s) (next s)) → (n i : ℕ) (s : S) → Codes (λ at k. each part n i s at k) (λ xs. (length xs ≡ n) × GoodEach part Good bytes log next s xs) (flat bytes) (log_each part Good bytes log next i s) (events_each bytes events next i s) (fields_each bytes fields) (sites_all bytes sites next s) (next_each part Good bytes log next s)
  each_codes p zero i s = no_each i s
  each_codes p (suc n) i s = one_more n i s (p i s) (λ x. each_codes p n (suc i) (next s x))

-- of which later ones need nothing
module _ {X : Type 0} (part : ℕ → ℕ → (ℕ → Layout Head) → Layout Head) (Good : X → Type 0) (bytes : X → List ℕ) (log : ℕ → ℕ → X → List Entry) where
  abbrev pub log_all : ℕ → ℕ → List X → List Entry
  log_all i at [] = []
  log_all i at (x ∷ xs) = log i at x ++ log_all (suc i) (at + length (bytes x)) xs

module _ {X : Type 0} (bytes : X → List ℕ) (events : ℕ → ℕ → X → List Event) where
  abbrev pub events_all : ℕ → ℕ → List X → List Event
  events_all i at [] = []
  events_all i at (x ∷ xs) = events i at x ++ events_all (suc i) (at + length (bytes x)) xs

module _ {X : Type 0} (part : ℕ → ℕ → (ℕ → Layout Head) → Layout Head) (Good : X → Type 0) (bytes : X → List ℕ) (log : ℕ → ℕ → X → List Entry) (events : ℕ → ℕ → X → List Event) (fields : ℕ → X → List Field) (sites : ℕ → X → List Site) where
  sites_all_lem : (at : ℕ) (xs : List X) → sites_each bytes sites at xs ≡ sites_all {S = Unit {0}} bytes (λ s. sites) (λ s x. s) tt at xs
  unfolding sites_each
  sites_all_lem at [] = refl
  sites_all_lem at (x ∷ xs) = ap (λ (ss : List Site). sites at x ++ ss) (sites_all_lem (at + length (bytes x)) xs)

  abbrev GoodOnes : List X → Type 0
  GoodOnes xs = GoodEach {S = Unit {0}} (λ i s at k. part i at (k s)) (λ s. Good) bytes (λ i s. log i) (λ s x. s) tt xs

  every_one : (xs : List X) → Every Good xs → GoodOnes xs
  every_one [] g = tt
  every_one (x ∷ xs) g = (g.0, every_one xs g.1)

  one_every : (xs : List X) → GoodOnes xs → Every Good xs
  one_every [] g = tt
  one_every (x ∷ xs) g = (g.0, one_every xs g.1)

  log_all_lem : (i at : ℕ) (xs : List X) → log_all part Good bytes log i at xs ≡ log_each {S = Unit {0}} (λ i s at k. part i at (k s)) (λ s. Good) bytes (λ i s. log i) (λ s x. s) i tt at xs
  log_all_lem i at [] = refl
  log_all_lem i at (x ∷ xs) = ap (λ (es : List Entry). log i at x ++ es) (log_all_lem (suc i) (at + length (bytes x)) xs)

  events_all_lem : (i at : ℕ) (xs : List X) → events_all bytes events i at xs ≡ events_each {S = Unit {0}} bytes (λ i s. events i) (λ s x. s) i tt at xs
  events_all_lem i at [] = refl
  events_all_lem i at (x ∷ xs) = ap (λ (es : List Event). events i at x ++ es) (events_all_lem (suc i) (at + length (bytes x)) xs)

  pub all_codes : ((i : ℕ) → Codes (λ at (k : Unit {0} → ℕ → Layout Head). part i at (k tt)) Good bytes (log i) (events i) fields sites (λ x. tt)) → (n i : ℕ) → Codes (λ at (k : Unit {0} → ℕ → Layout Head). each (alone part) n i tt at k) (λ xs. (length xs ≡ n) × Every Good xs) (flat bytes) (log_all part Good bytes log i) (events_all bytes events i) (fields_each bytes fields) (sites_each bytes sites) (λ xs. tt)
  all_codes p n i =
      seen_as (λ xs. xs)
      (λ xs g. (g.0, every_one xs g.1))
      (λ xs g. refl)
      (λ at xs g. log_all_lem i at xs)
      (λ at xs g. events_all_lem i at xs)
      (λ at xs g. refl)
      (λ at xs g. sites_all_lem at xs)
      (λ xs g. refl)
      (λ xs g. (xs, (g.0, one_every xs g.1), refl))
      (each_codes {S = Unit {0}} (λ i s at k. part i at (k s)) (λ s. Good) bytes (λ i s. log i) (λ i s. events i) fields (λ s. sites) (λ s x. s) (λ i s. p i) n i tt)

-- A count, then so many.
pub list_codes : {X : Type 0} {P : Part ℕ} {GoodCount : ℕ → Type 0} {log_count : ℕ → ℕ → List Entry} {events_count : ℕ → ℕ → List Event} {fields_count : ℕ → ℕ → List Field} {sites_count : ℕ → ℕ → List Site} (part : ℕ → ℕ → (ℕ → Layout Head) → Layout Head) (Good : X → Type 0) (bytes : X → List ℕ) (log : ℕ → ℕ → X → List Entry) (events : ℕ → ℕ → X → List Event) (fields : ℕ → X → List Field) (sites : ℕ → X → List Site) (first : ℕ) → Codes P GoodCount compact_bytes log_count events_count fields_count sites_count (λ n. n) → ((i : ℕ) → Codes (λ at (k : Unit {0} → ℕ → Layout Head). part i at (k tt)) Good bytes (log i) (events i) fields sites (λ x. tt)) → Codes (λ at (k : ℕ → ℕ → Layout Head). P at (λ n at'. each (alone part) n first tt at' (λ s. k n))) (λ xs. GoodCount (length xs) × Every Good xs) (list_bytes bytes) (λ at xs. log_count at (length xs) ++ log_all part Good bytes log first (at + length (compact_bytes (length xs))) xs) (λ at xs. events_count at (length xs) ++ events_all bytes events first (at + length (compact_bytes (length xs))) xs) (λ at xs. fields_count at (length xs) ++ fields_each bytes fields (at + length (compact_bytes (length xs))) xs) (λ at xs. sites_count at (length xs) ++ sites_each bytes sites (at + length (compact_bytes (length xs))) xs) (λ xs. length xs)
unfolding list_bytes
list_codes {GoodCount = GoodCount} part Good bytes log events fields sites first c p =
    seen_as (λ xs. (length xs, xs))
    (λ xs g. (g.0, (refl, g.1)))
    (λ xs g. refl)
    (λ at xs g. refl)
    (λ at xs g. refl)
    (λ at xs g. refl)
    (λ at xs g. refl)
    (λ xs g. refl)
    (λ x g. (x.1, (subst GoodCount (sym g.1.0) g.0, g.1.1), ap (λ (n : ℕ). (n, x.1)) g.1.0))
    (then {Q = λ at n at' k. each (alone part) n first tt at' (λ s. k n)} c (λ at n g. handing (λ s. n) (all_codes part Good bytes log events fields sites p n first)))

-- ---- fields

pub within_run : (place end : ℕ) (l : Layout Head) → end ≤ limit → within place end l ≡ l
unfolding within
within_run place end l h = rw (le-leb end limit h)

pub within_back : (place end : ℕ) (l : Layout Head) (xs : List ℕ) (a : Head) → Finishes (within place end l) xs a → (end ≤ limit) × Finishes l xs a
unfolding within run
within_back place end l xs a f =
    by_cases (leb end limit)
    (λ e. (leb-true end limit e, subst (λ (b : Bool). Finishes (cond b l (refuse 2 place)) xs a) e f))
    (λ e. absurd (refused_not_finished (subst (λ (b : Bool). Finishes (cond b l (refuse 2 place)) xs a) e f)))

pub within_judged : (place at end : ℕ) (l : Layout Head) (xs : List ℕ) (z : Answer Head × ℕ) → (end ≤ limit → settled at (run l xs) ≡ z) → settled at (run (within place end l) xs) ≡ limited (field place at end ∷ []) z
unfolding within run limited
within_judged place at end l xs z goes =
    by_cases (leb end limit)
    (λ e. rw e (goes (leb-true end limit e)))
    (λ e. rw e (ap (λ (n : ℕ). (refused 2 place, n)) (add-zero at)))

pub within_traced : (place end : ℕ) (l : Layout Head) (xs : List ℕ) (es u : List Event) → (end ≤ limit → trace l xs ≡ es ++ u) → Goes (limit < end) (trace (within place end l) xs) es u
unfolding within trace
within_traced place end l xs es u goes =
    by_cases (leb end limit)
    (λ e. on (rw e (goes (leb-true end limit e))))
    (λ e. stops (leb-false end limit e) es (rw e refl))

-- the first w bytes, and what follows
pub field_run_lem : (w : ℕ) (f : List ℕ → Layout Head) (bs ys : List ℕ) → length bs ≡ w → field_run w (bs ++ ys) (run (f (take w (bs ++ ys))) (drop w (bs ++ ys))) ≡ behind w (run (f bs) ys)
field_run_lem w f bs ys e =
    field_there w (bs ++ ys) _ (omega (arith, length-append bs ys))
    ∙ ap₂ (λ (b c : List ℕ). behind w (run (f b) c)) (take_at bs ys w e) (drop_at bs ys w e)

pub field_judged : (at w : ℕ) (f : List ℕ → Layout Head) (bs ys : List ℕ) → length bs ≡ w → settled at (field_run w (bs ++ ys) (run (f (take w (bs ++ ys))) (drop w (bs ++ ys)))) ≡ settled (at + w) (run (f bs) ys)
field_judged at w f bs ys e =
    let r = run (f bs) ys in
    ap (settled at) (field_run_lem w f bs ys e) ∙ ap (λ (n : ℕ). (r.answer, n)) (sym (add_assoc at w r.taken))

pub field_back : (w : ℕ) (xs : List ℕ) (r : Reading Head) (a : Head) → (field_run w xs r).answer ≡ finished a → (w ≤ length xs) × (r.answer ≡ finished a)
field_back w xs r a = field_case (λ (s : Reading Head). s.answer ≡ finished a → (w ≤ length xs) × (r.answer ≡ finished a)) w xs r (λ h e. (h, e)) (λ h e. absurd (finished_not_more (sym e)))

pub field_traced : (hid : Bool) (w : ℕ) (f : List ℕ → Layout Head) (bs ys : List ℕ) → length bs ≡ w → field_trace hid w (bs ++ ys) (trace (f (take w (bs ++ ys))) (drop w (bs ++ ys))) ≡ met hid bs ++ trace (f bs) ys
field_traced hid w f bs ys e =
    trace_there hid w (bs ++ ys) _ (omega (arith, length-append bs ys))
    ∙ ap₂ (λ (b c : List ℕ). met hid b ++ trace (f b) c) (take_at bs ys w e) (drop_at bs ys w e)

pub number_codes : (start : ℕ → ℕ) (o : Order) (w : ℕ) → Codes (λ at k. further_at (start at) at o w k) (λ v. v < 256 ^ w) (bytes_of o w) (λ at v. []) (λ at v. looked (bytes_of o w v)) (λ at v. field (start at) at (at + w) ∷ []) (λ at v. []) (λ v. v)
unfolding further_at run trace
number_codes start o w =
    record {
      forth = λ v g at k ys h.
          let long = length_bytes o w v in
          ap (λ (l : Layout Head). run l (bytes_of o w v ++ ys)) (within_run (start at) (at + w) (number o w (λ v. k v (at + w))) (omega arith))
          ∙ field_run_lem w (λ bs. k (value o bs) (at + w)) (bytes_of o w v) ys long
          ∙ ap₂ (λ (u n : ℕ). behind n (run (k u (at + n)) ys)) (value_bytes_lem o w v g) (sym long);
      back = λ at k xs a bs h f.
          let in_limit = within_back (start at) (at + w) (number o w (λ v. k v (at + w))) xs a f in
          let there = field_back w xs (run (k (value o (take w xs)) (at + w)) (drop w xs)) a in_limit.1 in
          let long : length (take w xs) ≡ w = length-take-le w xs there.0 in
          let v = value o (take w xs) in
          let same : bytes_of o w v ≡ take w xs = bytes_value o w (take w xs) (bytes_take w xs bs) long in
          record {
            held = v;
            rest = drop w xs;
            good = value_small o w xs bs;
            same = sym (take-append-drop w xs) ∙ ap (λ (l : List ℕ). l ++ drop w xs) (sym same);
            ends = omega (arith, length_bytes o w v);
            goes = subst (λ (n : ℕ). Finishes (k v (at + n)) (drop w xs) a) (sym (length_bytes o w v)) there.1;
          };
      traced = λ v g at k ys.
          let long = length_bytes o w v in
          goes_as refl refl (ap (λ (n : ℕ). trace (k v (at + n)) ys) (sym long))
          (goes_past (λ h. omega arith)
          (within_traced (start at) (at + w) (number o w (λ v. k v (at + w))) (bytes_of o w v ++ ys) (looked (bytes_of o w v)) (trace (k v (at + w)) ys)
          (λ h. field_traced false w (λ bs. k (value o bs) (at + w)) (bytes_of o w v) ys long ∙ ap (λ (u : ℕ). looked (bytes_of o w v) ++ trace (k u (at + w)) ys) (value_bytes_lem o w v g))));
      judged = λ v g at k ys.
          let long = length_bytes o w v in
          within_judged (start at) at (at + w) (number o w (λ v. k v (at + w))) (bytes_of o w v ++ ys) _
          (λ h. field_judged at w (λ bs. k (value o bs) (at + w)) (bytes_of o w v) ys long ∙ ap₂ (λ (u n : ℕ). settled (at + n) (run (k u (at + n)) ys)) (value_bytes_lem o w v g) (sym long));
      reach = λ v g at k. tt;
    }

pub opaque_codes : (h : Hidden) (w : ℕ) → Codes (λ at (k : Unit {0} → ℕ → Layout Head). opaque_at at h w (k tt)) (Fixed w) (λ bs. bs) (λ at bs. []) (λ at bs. passed bs) (λ at bs. fixed at w) (λ at bs. []) (λ bs. tt)
unfolding opaque_at run trace
opaque_codes hid w =
    record {
      forth = λ bs g at k ys h.
          ap (λ (l : Layout Head). run l (bs ++ ys)) (within_run at (at + w) (opaque hid w (k tt (at + w))) (omega (arith, g.long)))
          ∙ field_run_lem w (λ _. k tt (at + w)) bs ys g.long
          ∙ ap (λ (n : ℕ). behind n (run (k tt (at + n)) ys)) (sym g.long);
      back = λ at k xs a bs h f.
          let in_limit = within_back at (at + w) (opaque hid w (k tt (at + w))) xs a f in
          let there = field_back w xs (run (k tt (at + w)) (drop w xs)) a in_limit.1 in
          let long : length (take w xs) ≡ w = length-take-le w xs there.0 in
          record {
            held = take w xs;
            rest = drop w xs;
            good = record { long = long; bytes = bytes_take w xs bs };
            same = sym (take-append-drop w xs);
            ends = omega (arith, in_limit.0);
            goes = subst (λ (n : ℕ). Finishes (k tt (at + n)) (drop w xs) a) (sym long) there.1;
          };
      traced = λ bs g at k ys.
          goes_as refl refl (ap (λ (n : ℕ). trace (k tt (at + n)) ys) (sym g.long))
          (goes_past (λ h. omega (arith, g.long))
          (within_traced at (at + w) (opaque hid w (k tt (at + w))) (bs ++ ys) (passed bs) (trace (k tt (at + w)) ys) (λ h. field_traced true w (λ _. k tt (at + w)) bs ys g.long)));
      judged = λ bs g at k ys.
          within_judged at at (at + w) (opaque hid w (k tt (at + w))) (bs ++ ys) _
          (λ h. field_judged at w (λ _. k tt (at + w)) bs ys g.long ∙ ap (λ (n : ℕ). settled (at + n) (run (k tt (at + n)) ys)) (sym g.long));
      reach = λ bs g at k. tt;
    }
