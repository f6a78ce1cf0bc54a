-- Each number that writing gives, and its place, exactly when 01's table says it, in the order of judging (specs/Unwritten).
--     unwritten_exactly   of the length asked for alone: 10, 7, 13, 12, 6, 8 and 2, and no other number
--     answer_alike        writing answers every number but 14 just as the length does
--     fourteen_exactly    14
--     held_exactly        10 is given unless every count is held by its table
--     fee_exactly         the fee question, of a record
--     fee_shown           and of the output that it shows
use Prim.Native.Nat.{ℕ, ◌/◌, ◌<◌, ◌≤◌}
use mathlib.Core.Path.{◌≡◌, refl, sym, ◌∙◌, ap, subst}
use mathlib.Core.Logic.{◌↔◌, ◌≢◌, ⊎_elim}
use mathlib.Core.Bool.{Bool, true, not, ◌&&◌}
use mathlib.Core.List.{List}
use native.Mathlib.Omega.{arith}
use lib.Dec.{leb, eqb}
use lib.ListN.{length}
use borrow.Author.Tests.{leb-true, leb-false, le-leb, lt-leb, eqb-true, eqb-false, eq-eqb, ne_eqb, not-false}
use Rattle.layout.specs.Transaction.{Head, limit}
use Rattle.layout.specs.Layout.{input, output, item}
use Rattle.layout.specs.Outcome.{Tables, width}
use Rattle.layout.specs.Contents.{Output, all}
use Rattle.layout.specs.Records.{sum}
use Rattle.layout.specs.Writing.{input_records, output_records, item_records, held, Fault, passes, fault, ◌also◌, unless, ◌!◌, input_fault, input_faults, rule_faults, output_rule, item_rule, record_items, empty_input, empty_output, table_faults, written_bytes, faults, verdict, wrote, unwritten, written_length, writing, is_fee}
use Rattle.layout.specs.Shows.{OutputShown}
use Rattle.layout.specs.Unwritten as refusal
use Rattle.layout.specs.Unwritten.{OutputKept, ItemKept, EmptyInput, EmptyOutput, InputFine, InputFault, breaks, unclear, null_issuance, items_in, input_at, output_at, item_at, Counts, Headed, InputsFine, OutputsFine, ItemsFine, AllFine, AllEmpty, WriteRefusal, too_many, flag_above, not_added, all_empty, too_long}
use Rattle.layout.proofs.Outpoint.{true_not_false}
use Rattle.layout.proofs.Judging.{and_true, unless_true}
use Rattle.layout.proofs.RoundTrips.{passes_of}
use Rattle.layout.proofs.Faults.{also_assoc, verdict_fault, also_fault, unless_fault, first_of, none_of, first_of_lem, items_in_lem, inputs_are, rules_hold, rule_broken, all_hold}
use Rattle.layout.proofs.Unwritten.{is_false, output_iff, item_iff, empty_input_iff, empty_output_iff, input_passes, input_faults_lem}

pub held_exactly : (h : Head) (t : Tables) → (held h t ≡ true) ↔ Counts h t
held_exactly h t = (
  λ e.
      let a = and_true (leb h.inputs (length t.inputs / width input) && leb h.outputs (length t.outputs / width output)) (leb h.items (length t.items / width item)) e in
      let b = and_true (leb h.inputs (length t.inputs / width input)) (leb h.outputs (length t.outputs / width output)) a.0 in
      let l₁ = leb-true h.inputs (length t.inputs / 20) b.0 in
      let l₂ = leb-true h.outputs (length t.outputs / 14) b.1 in
      let l₃ = leb-true h.items (length t.items / 2) a.1 in
      record { inputs = omega arith; outputs = omega arith; items = omega arith },
  λ e.
      let l₁ = le-leb h.inputs (length t.inputs / 20) (omega (arith, e.inputs)) in
      let l₂ = le-leb h.outputs (length t.outputs / 14) (omega (arith, e.outputs)) in
      let l₃ = le-leb h.items (length t.items / 2) (omega (arith, e.items)) in
      λ j. l₁ j && l₂ j && l₃ j,
)

module _ (h : Head) (t : Tables) (source : List ℕ) where
  abbrev there : ℕ
  there = length source

  abbrev long : ℕ
  long = length (written_bytes h t source)

  -- ---- the chain, part by part: where it passes

  abbrev ten : Fault
  ten = unless (held h t) 10 0

  abbrev seven : Fault
  seven = unless (leb h.flag 1) 7 4

  abbrev ins : Fault
  ins = input_faults h.flag there 0 0 (input_records h t)

  abbrev outs : Fault
  outs = rule_faults (output_rule h.flag there) 0 (output_records h t)

  abbrev its : Fault
  its = rule_faults (item_rule h.flag there) 0 (item_records h t)

  abbrev added : Fault
  added = unless (eqb (sum record_items (input_records h t)) h.items) 13 h.inputs

  abbrev witnessless : Bool
  witnessless = eqb h.flag 1 && all empty_input (input_records h t) && all empty_output (output_records h t)

  abbrev eight : Fault
  eight = unless (not witnessless) 8 4

  abbrev two : Fault
  two = unless (leb long limit) 2 0

  chain : faults h t source ≡ (ten also seven also ins also outs also its also added also eight also two)
  unfolding faults table_faults
  chain = simp also_assoc

  pass : (b : Bool) (n p : ℕ) → b ≡ true → unless b n p ≡ passes
  pass b n p e = ap (λ (x : Bool). unless x n p) e

  ten_passes : (ten ≡ passes) ↔ Counts h t
  ten_passes = let c = held_exactly h t in (λ e. c.0 (unless_true (held h t) 10 0 e), λ k. pass (held h t) 10 0 (c.1 k))

  seven_passes : (seven ≡ passes) ↔ (h.flag ≤ 1)
  seven_passes = (λ e. leb-true h.flag 1 (unless_true (leb h.flag 1) 7 4 e), λ k. pass (leb h.flag 1) 7 4 (le-leb h.flag 1 k))

  abbrev one_input : ℕ → Fault
  one_input i = input_fault h.flag there (items_in i t.inputs) i (input_at t i)

  ins_are : ins ≡ first_of one_input h.inputs
  ins_are = inputs_are h.flag there h.inputs t.inputs

  fine : (i : ℕ) → (one_input i ≡ passes) ↔ InputFine h.flag there (items_in i t.inputs) (input_at t i)
  fine i = input_passes h.flag there (items_in i t.inputs) i (input_at t i)

  ins_pass : (ins ≡ passes) ↔ InputsFine h t source h.inputs
  ins_pass = let f = none_of one_input h.inputs in (λ e i l. (fine i).0 (f.0 (sym ins_are ∙ e) i l), λ g. ins_are ∙ f.1 (λ i l. (fine i).1 (g i l)))

  outs_pass : (outs ≡ passes) ↔ OutputsFine h t source h.outputs
  outs_pass = rules_hold (output_rule h.flag there) (OutputKept h.flag there) (output_iff h.flag there) 14 h.outputs t.outputs

  its_pass : (its ≡ passes) ↔ ItemsFine h t source h.items
  its_pass = rules_hold (item_rule h.flag there) (ItemKept h.flag there) (item_iff h.flag there) 2 h.items t.items

  sums : sum record_items (input_records h t) ≡ items_in h.inputs t.inputs
  sums = items_in_lem h.inputs t.inputs

  added_passes : (added ≡ passes) ↔ (items_in h.inputs t.inputs ≡ h.items)
  added_passes =
      let n = sum record_items (input_records h t) in
      (λ e. sym sums ∙ eqb-true n h.items (unless_true (eqb n h.items) 13 h.inputs e), λ k. pass (eqb n h.items) 13 h.inputs (eq-eqb n h.items (sums ∙ k)))

  empties : (witnessless ≡ true) ↔ AllEmpty h t
  empties =
      let i = all_hold empty_input EmptyInput empty_input_iff 20 h.inputs t.inputs in
      let o = all_hold empty_output EmptyOutput empty_output_iff 14 h.outputs t.outputs in (
        λ e.
            let a = and_true (eqb h.flag 1 && all empty_input (input_records h t)) (all empty_output (output_records h t)) e in
            let b = and_true (eqb h.flag 1) (all empty_input (input_records h t)) a.0 in
            record { flag = eqb-true h.flag 1 b.0; inputs = i.0 b.1; outputs = o.0 a.1 },
        λ k. let f = eq-eqb h.flag 1 k.flag in (λ j. f j && i.1 k.inputs j && o.1 k.outputs j),
      )

  eight_passes : (eight ≡ passes) ↔ (AllEmpty h t → ⊥)
  eight_passes = (
    λ e k. true_not_false (sym (unless_true (not witnessless) 8 4 e) ∙ ap not (empties.1 k)),
    λ k. pass (not witnessless) 8 4 (ap not (is_false witnessless (λ e. k (empties.0 e)))),
  )

  -- where it doesn't

  ins_broken : (n p : ℕ) → (ins ≡ fault n p) ↔ ((p < h.inputs) × InputsFine h t source p × InputFault h.flag there (items_in p t.inputs) (input_at t p) n)
  ins_broken n p =
      let f = first_of_lem one_input h.inputs n p in (
        λ e.
            let q = f.0 (sym ins_are ∙ e) in
            let i = q.0 in
            let (place, k) = (input_faults_lem h.flag there (items_in i t.inputs) i (input_at t i) n p).0 q.1.here in
            subst (λ (m : ℕ). (m < h.inputs) × InputsFine h t source m × InputFault h.flag there (items_in m t.inputs) (input_at t m) n) place (q.1.one, λ k l. (fine k).0 (q.1.earlier k l), k),
        λ e. ins_are ∙ f.1 (p, record { one = e.0; earlier = λ k l. (fine k).1 (e.1 k l); here = (input_faults_lem h.flag there (items_in p t.inputs) p (input_at t p) n p).1 (refl, e.2) }),
      )

  outs_broken : (n p : ℕ) → (outs ≡ fault n p) ↔ ((n ≡ 13) × (p < h.outputs) × OutputsFine h t source p × (OutputKept h.flag there (output_at t p) → ⊥))
  outs_broken n p = rule_broken (output_rule h.flag there) (OutputKept h.flag there) (output_iff h.flag there) 14 h.outputs t.outputs n p

  its_broken : (n p : ℕ) → (its ≡ fault n p) ↔ ((n ≡ 13) × (p < h.items) × ItemsFine h t source p × (ItemKept h.flag there (item_at t p) → ⊥))
  its_broken n p = rule_broken (item_rule h.flag there) (ItemKept h.flag there) (item_iff h.flag there) 2 h.items t.items n p

  -- ---- from the chain to 01's table

  module _ (n p : ℕ) where
    abbrev Refusal : Type 0
    Refusal = WriteRefusal h t source n p

    at_two : AllFine h t source → (AllEmpty h t → ⊥) → two ≡ fault n p → Refusal
    at_two a b e = let (l, m, q) = (unless_fault (leb long limit) 2 0 n p).0 e in too_long m q a b (leb-false long limit l)

    at_eight : AllFine h t source → (eight also two) ≡ fault n p → Refusal
    at_eight a e =
        ⊎_elim
        (λ f. let (b, m, q) = (unless_fault (not witnessless) 8 4 n p).0 f in all_empty m q a (empties.0 (not-false witnessless b)))
        (λ f. at_two a (eight_passes.0 f.0) f.1)
        (also_fault eight two n p e)

    at_added : Headed h t → InputsFine h t source h.inputs → OutputsFine h t source h.outputs → ItemsFine h t source h.items → (added also eight also two) ≡ fault n p → Refusal
    at_added a b c d e =
        ⊎_elim
        (λ f.
        let s = sum record_items (input_records h t) in
        let (l, m, q) = (unless_fault (eqb s h.items) 13 h.inputs n p).0 f in
        not_added m q a b c d (λ z. eqb-false s h.items l (sums ∙ z)))
        (λ f. at_eight (record { heads = a; inputs = b; outputs = c; items = d; sum = added_passes.0 f.0 }) f.1)
        (also_fault added (eight also two) n p e)

    at_items_lem : Headed h t → InputsFine h t source h.inputs → OutputsFine h t source h.outputs → (its also added also eight also two) ≡ fault n p → Refusal
    at_items_lem a b c e =
        ⊎_elim
        (λ f. let (m, l, d, k) = (its_broken n p).0 f in refusal.item m a b c l d k)
        (λ f. at_added a b c (its_pass.0 f.0) f.1)
        (also_fault its (added also eight also two) n p e)

    at_outputs : Headed h t → InputsFine h t source h.inputs → (outs also its also added also eight also two) ≡ fault n p → Refusal
    at_outputs a b e =
        ⊎_elim
        (λ f. let (m, l, c, k) = (outs_broken n p).0 f in refusal.output m a b l c k)
        (λ f. at_items_lem a b (outs_pass.0 f.0) f.1)
        (also_fault outs (its also added also eight also two) n p e)

    at_inputs : Headed h t → (ins also outs also its also added also eight also two) ≡ fault n p → Refusal
    at_inputs a e =
        ⊎_elim
        (λ f. let (l, b, k) = (ins_broken n p).0 f in refusal.input a l b k)
        (λ f. at_outputs a (ins_pass.0 f.0) f.1)
        (also_fault ins (outs also its also added also eight also two) n p e)

    at_seven : Counts h t → (seven also ins also outs also its also added also eight also two) ≡ fault n p → Refusal
    at_seven a e =
        ⊎_elim
        (λ f. let (l, m, q) = (unless_fault (leb h.flag 1) 7 4 n p).0 f in flag_above m q a (leb-false h.flag 1 l))
        (λ f. at_inputs (record { counts = a; flag = seven_passes.0 f.0 }) f.1)
        (also_fault seven (ins also outs also its also added also eight also two) n p e)

    to_table : faults h t source ≡ fault n p → Refusal
    to_table e =
        ⊎_elim
        (λ f. let (l, m, q) = (unless_fault (held h t) 10 0 n p).0 f in too_many m q (λ k. true_not_false (sym ((held_exactly h t).1 k) ∙ l)))
        (λ f. at_seven (ten_passes.0 f.0) f.1)
        (also_fault ten (seven also ins also outs also its also added also eight also two) n p (sym chain ∙ e))

    -- ---- and back

    after_heads : Headed h t → (g : Fault) → (ten also seven also g) ≡ g
    after_heads a g = λ j. ten_passes.1 a.counts j also seven_passes.1 a.flag j also g

    after_all : AllFine h t source → (g : Fault) → (ten also seven also ins also outs also its also added also g) ≡ g
    after_all a g = after_heads a.heads (ins also outs also its also added also g) ∙ (λ j. ins_pass.1 a.inputs j also outs_pass.1 a.outputs j also its_pass.1 a.items j also added_passes.1 a.sum j also g)

    of_table : Refusal → faults h t source ≡ fault n p
    of_table (too_many m q k) =
        let f = (unless_fault (held h t) 10 0 n p).1 (is_false (held h t) (λ e. k ((held_exactly h t).0 e)), m, q) in
        chain ∙ (λ j. f j also seven also ins also outs also its also added also eight also two)
    of_table (flag_above m q a l) =
        let f = (unless_fault (leb h.flag 1) 7 4 n p).1 (lt-leb h.flag 1 l, m, q) in
        chain ∙ (λ j. ten_passes.1 a j also f j also ins also outs also its also added also eight also two)
    of_table (refusal.input a l b k) = chain ∙ after_heads a (ins also outs also its also added also eight also two) ∙ (λ j. (ins_broken n p).1 (l, b, k) j also outs also its also added also eight also two)
    of_table (refusal.output m a b l c k) = chain ∙ after_heads a (ins also outs also its also added also eight also two) ∙ (λ j. ins_pass.1 b j also (outs_broken n p).1 (m, l, c, k) j also its also added also eight also two)
    of_table (refusal.item m a b c l d k) = chain ∙ after_heads a (ins also outs also its also added also eight also two) ∙ (λ j. ins_pass.1 b j also outs_pass.1 c j also (its_broken n p).1 (m, l, d, k) j also added also eight also two)
    of_table (not_added m q a b c d k) =
        let s = sum record_items (input_records h t) in
        let f = (unless_fault (eqb s h.items) 13 h.inputs n p).1 (ne_eqb s h.items (λ e. k (sym sums ∙ e)), m, q) in
        chain ∙ after_heads a (ins also outs also its also added also eight also two) ∙ (λ j. ins_pass.1 b j also outs_pass.1 c j also its_pass.1 d j also f j also eight also two)
    of_table (all_empty m q a k) = let f = (unless_fault (not witnessless) 8 4 n p).1 (ap not (empties.1 k), m, q) in chain ∙ after_all a (eight also two) ∙ (λ j. f j also two)
    of_table (too_long m q a k l) = let f = (unless_fault (leb long limit) 2 0 n p).1 (lt-leb long limit l, m, q) in chain ∙ after_all a (eight also two) ∙ (λ j. eight_passes.1 k j also f j)

    -- ---- the answers

    pub unwritten_exactly : (written_length h t source ≡ unwritten n p) ↔ WriteRefusal h t source n p
    unfolding written_length
    unwritten_exactly = let v = verdict_fault (faults h t source) long n p in (λ e. to_table (v.0 e), λ r. v.1 (of_table r))

    -- Writing answers every number but 14 just as the length does.
    pub answer_alike : (out : List ℕ) → n ≢ 14 → ((writing h t source out).answer ≡ unwritten n p) ↔ (written_length h t source ≡ unwritten n p)
    unfolding writing written_length
    answer_alike out other =
        let room = unless (leb long (length out)) 14 0 in
        let v = verdict_fault (faults h t source also room) long n p in
        let l = verdict_fault (faults h t source) long n p in (
          λ e. l.1 (⊎_elim (λ f. f) (λ f. absurd (other ((unless_fault (leb long (length out)) 14 0 n p).0 f.1).1)) (also_fault (faults h t source) room n p (v.0 e))),
          λ e. v.1 (ap (λ (f : Fault). f also room) (l.0 e)),
        )

    -- no other number
    below : Refusal → n < 14
    below (too_many m q k) = omega arith
    below (flag_above m q a l) = omega arith
    below (refusal.input a l b (breaks m k)) = omega arith
    below (refusal.input a l b (unclear m k u)) = omega arith
    below (refusal.input a l b (null_issuance m k u z)) = omega arith
    below (refusal.output m a b l c k) = omega arith
    below (refusal.item m a b c l d k) = omega arith
    below (not_added m q a b c d k) = omega arith
    below (all_empty m q a k) = omega arith
    below (too_long m q a k l) = omega arith

  -- 14: the output is shorter than the length that is answered alone.
  pub fourteen_exactly : (out : List ℕ) → ((writing h t source out).answer ≡ unwritten 14 0) ↔ ((n : ℕ) × (written_length h t source ≡ wrote n) × (length out < n))
  unfolding writing written_length
  fourteen_exactly out =
      let room = leb long (length out) in
      let v = verdict_fault (faults h t source also unless room 14 0) long 14 0 in (
        λ e.
            ⊎_elim
            (λ f. absurd (omega (arith, below 14 0 (to_table 14 0 f))))
            (λ f. (long, ap (λ (g : Fault). verdict g long) f.0, leb-false long (length out) ((unless_fault room 14 0 14 0).0 f.1).0))
            (also_fault (faults h t source) (unless room 14 0) 14 0 (v.0 e)),
        λ e.
            let q = passes_of (faults h t source) long e.0 e.1 in
            let b = lt-leb long (length out) (omega (arith, q.1, e.2)) in
            v.1 (λ j. q.0 j also unless (b j) 14 0),
      )

  -- 2 is the one number behind the tables' own.
  pub two_after : (written_length h t source ≡ unwritten 2 0) ↔ ((table_faults h t there ≡ passes) × (limit < long))
  unfolding table_faults faults written_length
  two_after = (
    λ e. last ((unwritten_exactly 2 0).0 e),
    λ e. let b = lt-leb long limit e.1 in (λ j. verdict (e.0 j also unless (b j) 2 0) long),
  )
    where
      last : WriteRefusal h t source 2 0 → (table_faults h t there ≡ passes) × (limit < long)
      last (too_many m q k) = absurd (omega arith)
      last (flag_above m q a l) = absurd (omega arith)
      last (refusal.input a l b (breaks m k)) = absurd (omega arith)
      last (refusal.input a l b (unclear m k u)) = absurd (omega arith)
      last (refusal.input a l b (null_issuance m k u z)) = absurd (omega arith)
      last (refusal.output m a b l c k) = absurd (omega arith)
      last (refusal.item m a b c l d k) = absurd (omega arith)
      last (not_added m q a b c d k) = absurd (omega arith)
      last (all_empty m q a k) = absurd (omega arith)
      last (too_long m q a k l) = (after_all 2 0 a eight ∙ eight_passes.1 k, l)

-- ---- the fee question

pub fee_exactly : (r : List ℕ) → (is_fee r ≡ true) ↔ (r ! 9 ≡ 0)
fee_exactly r = (eqb-true (r ! 9) 0, eq-eqb (r ! 9) 0)

-- An output is a fee exactly if its script has length 0.
pub fee_shown : (source r : List ℕ) (x : Output) → OutputShown source r x → (is_fee r ≡ true) ↔ (length x.script ≡ 0)
fee_shown source r x s = (λ e. sym s.script_length ∙ eqb-true (r ! 9) 0 e, λ e. eq-eqb (r ! 9) 0 (s.script_length ∙ e))
