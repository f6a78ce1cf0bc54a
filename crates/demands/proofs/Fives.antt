-- Why the page has a fourth record. Over any reader that meets demands 1 to 3 stands one that tells every strict refusal as 5 at 0. It meets
-- demands 1 to 3 too: they say which strict readings are accepted, and not by which number others are refused. It doesn't read as document
-- 01 says.
use Prim.Native.Nat.{ℕ}
use mathlib.Core.Path.{◌≡◌, refl, sym, ◌∙◌, ap, subst}
use mathlib.Core.List.{List, [], ◌∷◌}
use native.Mathlib.Omega.{arith}
use lib.ListN.{length, take}
use Rattle.layout.specs.Layout.{Answer, finished, more, refused, Reading}
use Rattle.layout.specs.Transaction.{Head}
use Rattle.layout.specs.Outcome as outcome
use Rattle.layout.specs.Outcome.{Tables, Sizes, Outcome, zeros, head_shown, room_of, strict}
use Rattle.layout.specs.Contents.{contents_bytes}
use Rattle.layout.specs.Records.{head_of}
use Rattle.layout.specs.Writing.{wrote}
use Rattle.demands.specs.Demands.{Call, Reader, Writer, sizes, Piece, Ask, piece, done, Way, fed, at_once_lem, strictly, offered, Ended, started, next, calls, read, Numbered, Placed, Behind, Sized, Same, Demand1, Demand2, Demand3, AsPaper}
use Rattle.demands.proofs.Calls.{nothing_read}
use Rattle.demands.proofs.Ours as ours
use Rattle.demands.specs.Ours.{reader, writer}

abbrev five : Answer Head → Answer Head
five (finished h) = finished h
five more = more
five (refused n p) = refused 5 0

abbrev fived : Outcome → Outcome
fived o = record { answer = five o.answer; taken = o.taken; tables = o.tables }

abbrev pub fives : {S : Type 0} → Reader S → Reader S
fives r = record { fresh = r.fresh; push = r.push; end = r.end; once = r.once; strict = λ t xs. fived (r.strict t xs) }

five_finished : (a : Answer Head) (h : Head) → five a ≡ finished h → a ≡ finished h
five_finished (finished g) h e = e
five_finished more h e = e
five_finished (refused n p) h e = absurd (let z : ◌≡◌ {A = ℕ} 0 1 = cc in omega arith)

five_more : (a : Answer Head) → five a ≡ more → a ≡ more
five_more (finished g) e = e
five_more more e = refl
five_more (refused n p) e = absurd (let z : ◌≡◌ {A = ℕ} 0 1 = cc in omega arith)

five_refused : (a : Answer Head) (n p : ℕ) → five a ≡ refused n p → (m : ℕ) × (q : ℕ) × (a ≡ refused m q)
five_refused (finished g) n p e = absurd (let z : ◌≡◌ {A = ℕ} 0 1 = cc in omega arith)
five_refused more n p e = absurd (let z : ◌≡◌ {A = ℕ} 0 1 = cc in omega arith)
five_refused (refused m q) n p e = (m, q, refl)

five_numbered : (n : ℕ) (a : Answer Head) → Numbered 9 n a → Numbered 9 n (five a)
five_numbered n (finished h) k = k
five_numbered n more k = k
five_numbered n (refused m p) k = (omega arith, omega arith, omega arith)

module _ {S : Type 0} (r : Reader S) where
  calls_same : (qs : List Ask) (c : Call S) → calls (fives r) c qs ≡ calls r c qs
  unfolding calls
  calls_same [] c = refl
  calls_same (piece b ∷ qs) c = calls_same qs (next r c (piece b))
  calls_same (done ∷ qs) c = calls_same qs (next r c done)

  fed_same : (t : Tables) (qs : List Ask) → read (fives r) t (fed qs) ≡ read r t (fed qs)
  fed_same t qs = ap (λ (c : Call S). c.outcome) (calls_same qs (started r t))

  ended_same : (t : Tables) (v : Way) → Ended v → read (fives r) t v ≡ read r t v
  ended_same t (fed qs) e = fed_same t qs
  ended_same t (at_once_lem b) e = refl
  ended_same t (strictly b) e = absurd e

  fived_same : (o : Outcome) (h : Head) → o.answer ≡ finished h → fived o ≡ o
  fived_same o h e = let same : five o.answer ≡ o.answer = ap five e ∙ sym e in λ j. record { answer = same j; taken = o.taken; tables = o.tables }

  -- a finished reading is the same
  finished_same : (t : Tables) (v : Way) (h : Head) → (read r t v).answer ≡ finished h → read (fives r) t v ≡ read r t v
  finished_same t (fed qs) h e = fed_same t qs
  finished_same t (at_once_lem b) h e = refl
  finished_same t (strictly b) h e = fived_same (r.strict t b.bytes) h e

  same_finished : (t : Tables) (v : Way) (h : Head) → (read (fives r) t v).answer ≡ finished h → (read r t v).answer ≡ finished h
  same_finished t (fed qs) h e = sym (ap (λ (o : Outcome). o.answer) (fed_same t qs)) ∙ e
  same_finished t (at_once_lem b) h e = e
  same_finished t (strictly b) h e = five_finished (r.strict t b.bytes).answer h e

  module _ (w : Writer) (d : Demand1 r w) where
    five_placed : (t : Tables) (v : Way) → Placed v (read (fives r) t v)
    five_placed t (fed qs) = subst (λ (o : Outcome). Placed (fed qs) o) (sym (fed_same t qs)) (d.placed t (fed qs))
    five_placed t (at_once_lem b) = record { numbered = (d.placed t (at_once_lem b)).numbered; taken = (d.placed t (at_once_lem b)).taken }
    five_placed t (strictly b) = let o = r.strict t b.bytes in let k = d.placed t (strictly b) in record { numbered = five_numbered o.taken o.answer k.numbered; taken = k.taken }

    five_afresh : (t t' : Tables) (v : Way) → sizes t ≡ sizes t' → read (fives r) t v ≡ read (fives r) t' v
    five_afresh t t' (fed qs) e = fed_same t qs ∙ d.afresh t t' (fed qs) e ∙ sym (fed_same t' qs)
    five_afresh t t' (at_once_lem b) e = d.afresh t t' (at_once_lem b) e
    five_afresh t t' (strictly b) e = ap fived (d.afresh t t' (strictly b) e)

    five_zero : (t : Tables) (v : Way) (n p : ℕ) → (read (fives r) t v).answer ≡ refused n p → (read (fives r) t v).tables ≡ zeros (sizes t)
    five_zero t (fed qs) n p e = ap (λ (o : Outcome). o.tables) (fed_same t qs) ∙ d.refused_reading t (fed qs) n p (sym (ap (λ (o : Outcome). o.answer) (fed_same t qs)) ∙ e)
    five_zero t (at_once_lem b) n p e = d.refused_reading t (at_once_lem b) n p e
    five_zero t (strictly b) n p e = let m = five_refused (r.strict t b.bytes).answer n p e in d.refused_reading t (strictly b) m.0 m.1 m.2

    pub fives_demand_1 : Demand1 (fives r) w
    fives_demand_1 =
        record {
          numbered = d.numbered;
          nine = d.nine;
          placed = five_placed;
          ended = d.ended;
          ended_once = λ t b. ((d.ended_once t b).0, λ e. (d.ended_once t b).1 (five_more (r.strict t b.bytes).answer e));
          entire = d.entire;
          empty = d.empty;
          wanting = d.wanting;
          one = d.one;
          final = d.final;
          apart = d.apart;
          afresh = five_afresh;
          afresh_start = d.afresh_start;
          kept = d.kept;
          within = d.within;
          finished_room = d.finished_room;
          fresh_zero = d.fresh_zero;
          refused_call = d.refused_call;
          refused_reading = five_zero;
          finished_behind = λ t v h e. let f = same_finished t v h e in subst (λ (o : Outcome). Behind h o.tables) (sym (finished_same t v h f)) (d.finished_behind t v h f);
          misused = d.misused;
          ten = λ t qs. subst (λ (c : Call S). Sized r (sizes t) c.state) (sym (calls_same qs (started r t))) (d.ten t qs);
          ten_any = d.ten_any;
          eleven_alone = d.eleven_alone;
          eleven_fresh = d.eleven_fresh;
          eleven_next = d.eleven_next;
          unwritten_output = d.unwritten_output;
        }

  pub fives_demand_2 : (w : Writer) → Demand2 r w → Demand2 (fives r) w
  fives_demand_2 w d =
      record {
        accepted = λ t v. (
          λ a. (d.accepted t v).0 (a.0, same_finished t v a.0 a.1),
          λ b. let a = (d.accepted t v).1 b in (a.0, ap (λ (o : Outcome). o.answer) (finished_same t v a.0 a.1) ∙ a.1),
        );
        told = λ t v x b. let o = d.told t v x b in finished_same t v (head_of x) (ap (λ (p : Outcome). p.answer) o) ∙ o;
        back = λ t v x b out room.
            subst (λ (o : Outcome). let y = w.write (head_shown o.answer) o.tables (offered v) out in (y.answer ≡ wrote (length (contents_bytes x))) × (take (length (contents_bytes x)) y.output ≡ contents_bytes x))
            (sym (finished_same t v (head_of x) (ap (λ (p : Outcome). p.answer) (d.told t v x b)))) (d.back t v x b out room);
        again = λ h t source out n lent e u v room c.
            let s = d.again h t source out n lent e u v room c in
            subst (λ (o : Outcome). Same h t source n (offered v) o) (sym (finished_same u v _ s.answer)) s;
      }

  pub fives_demand_3 : Demand3 r → Demand3 (fives r)
  fives_demand_3 d =
      record {
        both = λ t t' v v' p. ended_same t v p.finish ∙ d.both t t' v v' p ∙ sym (ended_same t' v' p.finish');
        namely = λ t t' v v' p. ended_same t v p.finish ∙ d.namely t t' v v' p;
      }

  -- no byte at all
  none : Piece
  none = record { bytes = []; below = λ i. omega arith }

  -- no byte at all, read strictly: 1 at 0
  none_strict : (z : Sizes) → (strict z []).answer ≡ refused 1 0
  none_strict z = ap (λ (y : Reading Head). outcome.follow (outcome.finish y.answer y.taken) y.taken 0) (nothing_read (room_of z))

  not_one : (a : Answer Head) → five a ≡ refused 1 0 → ⊥
  not_one (finished h) e = let z : ◌≡◌ {A = ℕ} 0 1 = cc in omega arith
  not_one more e = let z : ◌≡◌ {A = ℕ} 0 1 = cc in omega arith
  not_one (refused n p) e = let z : ◌≡◌ {A = ℕ} 5 1 = cc in omega arith

  pub fives_not_paper : (w : Writer) → Tables → AsPaper (fives r) w → ⊥
  unfolding none
  fives_not_paper w t p = not_one (r.strict t []).answer (ap (λ (o : Outcome). o.answer) (p.reads t (strictly none)) ∙ none_strict (sizes t))

-- over ours, then: demands 1 to 3, and not document 01
pub five_at_zero : Demand1 (fives reader) writer × Demand2 (fives reader) writer × Demand3 (fives reader) × (AsPaper (fives reader) writer → ⊥)
five_at_zero = (
  fives_demand_1 reader writer ours.demand_1,
  fives_demand_2 reader writer ours.demand_2,
  fives_demand_3 reader ours.demand_3,
  fives_not_paper reader writer (record { inputs = []; outputs = []; items = [] }),
)
