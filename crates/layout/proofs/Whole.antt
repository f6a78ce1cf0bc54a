-- The whole transaction: the layout codes what 01 allows and the tables have room for.
use Prim.Native.Nat.{ℕ, suc, ◌+◌, ◌-◌, ◌<◌, ◌≤◌}
use mathlib.Core.Path.{◌≡◌, refl, sym, ◌∙◌, ap, ap₂, subst}
use mathlib.Core.Bool.{Bool, true, false, cond, ◌&&◌}
use mathlib.Core.List.{List, [], ◌∷◌, ◌++◌, append-nil}
use mathlib.Core.Option.{Option, none, some}
use native.Mathlib.Nat.{add-zero, zero-add}
use native.Mathlib.Omega.{arith}
use lib.Dec.{eqb}
use lib.ListN.{length, length-append}
use borrow.Author.Tests.{leb-true, le-leb, eqb-true, eq-eqb, ne_eqb}
use Rattle.layout.specs.Number.{little, bytes_of, Bytes}
use Rattle.layout.specs.Layout.{Layout, refuse, accept, finished, refused, Reading, reading, Entry, run}
use Rattle.layout.specs.Transaction.{Head, Room, limit, number_at, count_at, each, alone, Seen, seen, input_at, output_at, input_witness_at, output_witness_at, transaction}
use Rattle.layout.specs.Contents.{Token, absent, present, value_bytes, issuance_bytes, raw_vout, Input, Output, InputWitness, OutputWitness, Witnesses, Contents, compact_bytes, flat, body_bytes, list_bytes, token_bytes, input_bytes, output_bytes, input_witness_bytes, output_witness_bytes, flag_of, witnesses_bytes, contents_bytes, Every, input_empty, output_empty, all}
use Rattle.layout.specs.Fields.{InputFormed, OutputFormed, InputWitnessFormed, OutputWitnessFormed, WitnessesFormed, MaybeFormed, Formed, fixed, list_fields, input_fields, output_fields, input_witness_fields, output_witness_fields, witnesses_fields, fields_of, limited}
use Rattle.layout.specs.Beginnings.{witnesses_empty, verdict, ending}
use Rattle.layout.specs.Sites.{Site, sites_each, list_sites, input_sites, output_sites, input_witness_sites, input_witnesses_sites, output_witness_sites, witnesses_sites, sites_of}
use Rattle.layout.specs.Records.{items_of, sum, item_count}
use Rattle.layout.proofs.Number.{length_bytes}
use Rattle.layout.proofs.Reading.{by_cases, told, refused_not_finished}
use Rattle.layout.proofs.Trace.{Event, shown, looked, trace, goes_as, goes_whole}
use Rattle.layout.proofs.Codes.{Along, Part, after, settled, Comes, sites_all, Finishes, Codes, then, seen_as, began_as, handing, if_true, if_false, empty_codes, refuse_codes, GoodEach, log_each, events_each, next_each, each_codes, log_all, events_all, list_codes, number_codes}
use Rattle.layout.proofs.Compact.{one_byte}
use Rattle.layout.proofs.Parts.{count_codes, input_log, input_events, input_codes, output_log, output_events, output_codes, Stacks, witness_seen, input_witness_log, input_witness_events, input_witness_codes, output_seen, output_witness_log, output_witness_events, output_witness_codes}

-- ---- what later witnesses need of earlier ones

and_all : (a b c d e f : Bool) → (((((a && b) && c) && d) && e) && f) ≡ (a && ((((b && c) && d) && e) && f))
and_all true b c d e f = refl
and_all false b c d e f = refl

and_two : (a b c d : Bool) → (((a && b) && c) && d) ≡ (a && ((b && c) && d))
and_two true b c d = refl
and_two false b c d = refl

and_true : (a : Bool) → (a && true) ≡ a
and_true true = refl
and_true false = refl

module _ (room : ℕ) where
  abbrev InputsGood : Seen → List InputWitness → Type 0
  InputsGood = GoodEach (input_witness_at room) (Stacks room) input_witness_bytes (λ i s. input_witness_log i s.items) witness_seen

  abbrev pub inputs_seen : Seen → List InputWitness → Seen
  inputs_seen = next_each (input_witness_at room) (Stacks room) input_witness_bytes (λ i s. input_witness_log i s.items) witness_seen

  abbrev pub input_witnesses_log : ℕ → ℕ → ℕ → List InputWitness → List Entry
  input_witnesses_log i first at [] = []
  input_witnesses_log i first at (x ∷ xs) = input_witness_log i first at x ++ input_witnesses_log (suc i) (first + length x.script_items + length x.pegin_items) (at + length (input_witness_bytes x)) xs

  inputs_log_lem : (i : ℕ) (s : Seen) (at : ℕ) (xs : List InputWitness) → input_witnesses_log i s.items at xs ≡ log_each (input_witness_at room) (Stacks room) input_witness_bytes (λ i s. input_witness_log i s.items) witness_seen i s at xs
  inputs_log_lem i s at [] = refl
  inputs_log_lem i s at (x ∷ xs) = ap (λ (es : List Entry). input_witness_log i s.items at x ++ es) (inputs_log_lem (suc i) (witness_seen s x) (at + length (input_witness_bytes x)) xs)

  abbrev pub input_witnesses_events : ℕ → ℕ → ℕ → List InputWitness → List Event
  input_witnesses_events i first at [] = []
  input_witnesses_events i first at (x ∷ xs) = input_witness_events i first at x ++ input_witnesses_events (suc i) (first + length x.script_items + length x.pegin_items) (at + length (input_witness_bytes x)) xs

  inputs_events_lem : (i : ℕ) (s : Seen) (at : ℕ) (xs : List InputWitness) → input_witnesses_events i s.items at xs ≡ events_each input_witness_bytes (λ i s. input_witness_events i s.items) witness_seen i s at xs
  inputs_events_lem i s at [] = refl
  inputs_events_lem i s at (x ∷ xs) = ap (λ (es : List Event). input_witness_events i s.items at x ++ es) (inputs_events_lem (suc i) (witness_seen s x) (at + length (input_witness_bytes x)) xs)

  inputs_sites : (s : Seen) (at : ℕ) (xs : List InputWitness) → input_witnesses_sites room s.items at xs ≡ sites_all input_witness_bytes (λ s. input_witness_sites room s.items) witness_seen s at xs
  unfolding input_witnesses_sites
  inputs_sites s at [] = refl
  inputs_sites s at (x ∷ xs) = ap (λ (ss : List Site). input_witness_sites room s.items at x ++ ss) (inputs_sites (witness_seen s x) (at + length (input_witness_bytes x)) xs)

  inputs_seen_lem : (n : ℕ) (b : Bool) (xs : List InputWitness) → inputs_seen (seen n b) xs ≡ seen (n + sum items_of xs) (b && all input_empty xs)
  unfolding sum all
  inputs_seen_lem n b [] = ap₂ seen (sym (add-zero n)) (sym (and_true b))
  inputs_seen_lem n b (x ∷ xs) =
      inputs_seen_lem (witness_seen (seen n b) x).items (witness_seen (seen n b) x).empty xs
      ∙ ap₂ seen (omega arith) (and_all b (eqb (length x.amount_proof) 0) (eqb (length x.keys_proof) 0) (eqb (length x.script_items) 0) (eqb (length x.pegin_items) 0) (all input_empty xs))

  -- the items of all fit in the room exactly if each stack fits in what is left
  pub stacks_fit : (s : Seen) (xs : List InputWitness) → s.items + sum items_of xs ≤ room → Every InputWitnessFormed xs → InputsGood s xs
  unfolding sum
  stacks_fit s [] h g = tt
  stacks_fit s (x ∷ xs) h g = (
    record { formed = g.0; script = le-leb (length x.script_items) (room - s.items) (omega arith); pegin = le-leb (length x.pegin_items) (room - (s.items + length x.script_items)) (omega arith) },
    stacks_fit (witness_seen s x) xs (omega arith) g.1,
  )

  fit_stacks : (s : Seen) (xs : List InputWitness) → s.items ≤ room → InputsGood s xs → (s.items + sum items_of xs ≤ room) × Every InputWitnessFormed xs
  unfolding sum
  fit_stacks s [] h g = (omega arith, tt)
  fit_stacks s (x ∷ xs) h g =
      let a = leb-true (length x.script_items) (room - s.items) g.0.script in
      let b = leb-true (length x.pegin_items) (room - (s.items + length x.script_items)) g.0.pegin in
      let r = fit_stacks (witness_seen s x) xs (omega arith) g.1 in
      (omega (arith, r.0), (g.0.formed, r.1))

abbrev OutputsGood : Seen → List OutputWitness → Type 0
OutputsGood = GoodEach output_witness_at (λ s. OutputWitnessFormed) output_witness_bytes (λ i s. output_witness_log i) output_seen

abbrev pub outputs_seen : Seen → List OutputWitness → Seen
outputs_seen = next_each output_witness_at (λ s. OutputWitnessFormed) output_witness_bytes (λ i s. output_witness_log i) output_seen

abbrev pub output_witnesses_log : ℕ → ℕ → List OutputWitness → List Entry
output_witnesses_log i at [] = []
output_witnesses_log i at (x ∷ xs) = output_witness_log i at x ++ output_witnesses_log (suc i) (at + length (output_witness_bytes x)) xs

outputs_log_lem : (i : ℕ) (s : Seen) (at : ℕ) (xs : List OutputWitness) → output_witnesses_log i at xs ≡ log_each output_witness_at (λ s. OutputWitnessFormed) output_witness_bytes (λ i s. output_witness_log i) output_seen i s at xs
outputs_log_lem i s at [] = refl
outputs_log_lem i s at (x ∷ xs) = ap (λ (es : List Entry). output_witness_log i at x ++ es) (outputs_log_lem (suc i) (output_seen s x) (at + length (output_witness_bytes x)) xs)

abbrev pub output_witnesses_events : ℕ → ℕ → List OutputWitness → List Event
output_witnesses_events = events_all output_witness_bytes output_witness_events

outputs_events_lem : (i : ℕ) (s : Seen) (at : ℕ) (xs : List OutputWitness) → output_witnesses_events i at xs ≡ events_each output_witness_bytes (λ i s. output_witness_events i) output_seen i s at xs
outputs_events_lem i s at [] = refl
outputs_events_lem i s at (x ∷ xs) = ap (λ (es : List Event). output_witness_events i at x ++ es) (outputs_events_lem (suc i) (output_seen s x) (at + length (output_witness_bytes x)) xs)

outputs_sites : (s : Seen) (at : ℕ) (xs : List OutputWitness) → sites_each output_witness_bytes output_witness_sites at xs ≡ sites_all output_witness_bytes (λ s. output_witness_sites) output_seen s at xs
unfolding sites_each
outputs_sites s at [] = refl
outputs_sites s at (x ∷ xs) = ap (λ (ss : List Site). output_witness_sites at x ++ ss) (outputs_sites (output_seen s x) (at + length (output_witness_bytes x)) xs)

outputs_seen_lem : (n : ℕ) (b : Bool) (xs : List OutputWitness) → outputs_seen (seen n b) xs ≡ seen n (b && all output_empty xs)
unfolding all
outputs_seen_lem n b [] = ap (seen n) (sym (and_true b))
outputs_seen_lem n b (x ∷ xs) = outputs_seen_lem n (output_seen (seen n b) x).empty xs ∙ ap (seen n) (and_two b (eqb (length x.surjection_proof) 0) (eqb (length x.range_proof) 0) (all output_empty xs))

pub outputs_good : (s : Seen) (xs : List OutputWitness) → Every OutputWitnessFormed xs → OutputsGood s xs
outputs_good s [] g = tt
outputs_good s (x ∷ xs) g = (g.0, outputs_good (output_seen s x) xs g.1)

good_outputs : (s : Seen) (xs : List OutputWitness) → OutputsGood s xs → Every OutputWitnessFormed xs
good_outputs s [] g = tt
good_outputs s (x ∷ xs) g = (g.0, good_outputs (output_seen s x) xs g.1)

-- ---- the witnesses

module _ (room ins outs : ℕ) where
  abbrev witnessed : Part Seen
  witnessed at k =
      each (input_witness_at room) ins 0 (seen 0 true) at λ s₁ at₁.
      each output_witness_at outs 0 s₁ at₁ k

  pub last_seen : (ws : List InputWitness) (vs : List OutputWitness) → outputs_seen (inputs_seen room (seen 0 true) ws) vs ≡ seen (sum items_of ws) (all input_empty ws && all output_empty vs)
  last_seen ws vs =
      ap (λ (s : Seen). outputs_seen s vs) (inputs_seen_lem room 0 true ws)
      ∙ outputs_seen_lem (0 + sum items_of ws) (all input_empty ws) vs
      ∙ ap (λ (n : ℕ). seen n (all input_empty ws && all output_empty vs)) (zero-add (sum items_of ws))

  pub record Witnessed (x : Witnesses) : Type 0 where
    pub formed : WitnessesFormed ins outs x
    pub room_for : sum items_of x.inputs ≤ room

  abbrev pub witnesses_log : ℕ → Witnesses → List Entry
  witnesses_log at x = input_witnesses_log room 0 0 at x.inputs ++ output_witnesses_log 0 (at + length (flat input_witness_bytes x.inputs)) x.outputs

  abbrev pub witnesses_events : ℕ → Witnesses → List Event
  witnesses_events at x = input_witnesses_events room 0 0 at x.inputs ++ output_witnesses_events 0 (at + length (flat input_witness_bytes x.inputs)) x.outputs

  witnessed_codes : Codes witnessed Witnessed (λ x. flat input_witness_bytes x.inputs ++ flat output_witness_bytes x.outputs) witnesses_log witnesses_events (λ at x. witnesses_fields at (some x)) (λ at x. witnesses_sites room at (some x)) (λ x. seen (sum items_of x.inputs) (witnesses_empty (some x)))
  witnessed_codes =
      seen_as (λ x. (x.inputs, x.outputs))
      (λ x g. (
        (g.formed.inputs_match, stacks_fit room (seen 0 true) x.inputs (omega (arith, g.room_for)) g.formed.inputs),
        (g.formed.outputs_match, outputs_good (inputs_seen room (seen 0 true) x.inputs) x.outputs g.formed.outputs),
      ))
      (λ x g. refl)
      (λ at x g. ap₂ (λ (es fs : List Entry). es ++ fs) (inputs_log_lem room 0 (seen 0 true) at x.inputs) (outputs_log_lem 0 (inputs_seen room (seen 0 true) x.inputs) (at + length (flat input_witness_bytes x.inputs)) x.outputs))
      (λ at x g. ap₂ (λ (es fs : List Event). es ++ fs) (inputs_events_lem room 0 (seen 0 true) at x.inputs) (outputs_events_lem 0 (inputs_seen room (seen 0 true) x.inputs) (at + length (flat input_witness_bytes x.inputs)) x.outputs))
      (λ at x g. refl)
      (λ at x g. ap₂ (λ (ss ts : List Site). ss ++ ts) (inputs_sites room (seen 0 true) at x.inputs) (outputs_sites (inputs_seen room (seen 0 true) x.inputs) (at + length (flat input_witness_bytes x.inputs)) x.outputs))
      (λ x g. sym (last_seen x.inputs x.outputs))
      (λ x g.
      let fit = fit_stacks room (seen 0 true) x.0 (omega arith) g.0.1 in (
        record { inputs = x.0; outputs = x.1 },
        record {
          formed = record { inputs_match = g.0.0; outputs_match = g.1.0; inputs = fit.1; outputs = good_outputs (inputs_seen room (seen 0 true) x.0) x.1 g.1.1 };
          room_for = omega (arith, fit.0);
        },
        refl,
      ))
      (then {Q = λ _ s₁ at₁ k. each output_witness_at outs 0 s₁ at₁ k}
      (each_codes (input_witness_at room) (Stacks room) input_witness_bytes (λ i s. input_witness_log i s.items) (λ i s. input_witness_events i s.items) input_witness_fields (λ s. input_witness_sites room s.items) witness_seen (input_witness_codes room) ins 0 (seen 0 true)) λ _ ws _.
      each_codes output_witness_at (λ s. OutputWitnessFormed) output_witness_bytes (λ i s. output_witness_log i) (λ i s. output_witness_events i) output_witness_fields (λ s. output_witness_sites) output_seen output_witness_codes outs 0 (inputs_seen room (seen 0 true) ws))

  -- With flag 1: the witnesses. 7: a flag above 1.
  module _ (flag : ℕ) where
    abbrev tail_at : Part Seen
    tail_at at k = cond (eqb flag 0) (k (seen 0 false) at) (cond (eqb flag 1) (witnessed at k) (refuse 7 4))

    abbrev otherwise : Part Seen
    otherwise at k = cond (eqb flag 1) (witnessed at k) (refuse 7 4)

    abbrev TailGood : Option Witnesses → Type 0
    TailGood o = (flag_of o ≡ flag) × MaybeFormed ins outs o × (item_count o ≤ room)

    plain : eqb flag 0 ≡ true → Codes tail_at (λ (x : Unit {0}). Unit {0}) (λ x. []) (λ at x. []) (λ at x. []) (λ at x. []) (λ at x. []) (λ x. seen 0 false)
    plain e = if_true (eqb flag 0) (λ at k. k (seen 0 false) at) otherwise e (empty_codes (seen 0 false))

    flagged : eqb flag 0 ≡ false → eqb flag 1 ≡ true → Codes tail_at Witnessed (λ x. flat input_witness_bytes x.inputs ++ flat output_witness_bytes x.outputs) witnesses_log witnesses_events (λ at x. witnesses_fields at (some x)) (λ at x. witnesses_sites room at (some x)) (λ x. seen (sum items_of x.inputs) (witnesses_empty (some x)))
    flagged e₀ e₁ = if_false (eqb flag 0) (λ at k. k (seen 0 false) at) otherwise e₀ (if_true (eqb flag 1) witnessed (λ at k. refuse 7 4) e₁ witnessed_codes)

    unflagged : eqb flag 0 ≡ false → eqb flag 1 ≡ false → Codes tail_at (λ (x : Unit {0}). ⊥) (λ x. []) (λ at x. []) (λ at x. []) (λ at x. []) (λ at x. []) (λ x. seen 0 false)
    unflagged e₀ e₁ = if_false (eqb flag 0) (λ at k. k (seen 0 false) at) otherwise e₀ (if_false (eqb flag 1) witnessed (λ at k. refuse 7 4) e₁ (refuse_codes 7 4 (λ x g. g)))

    abbrev tail_seen : Option Witnesses → Seen
    tail_seen o = seen (item_count o) (witnesses_empty o)

    abbrev pub tail_log : ℕ → Option Witnesses → List Entry
    tail_log at none = []
    tail_log at (some x) = witnesses_log at x

    tail_forth : (o : Option Witnesses) → TailGood o → (at : ℕ) (k : Seen → ℕ → Layout Head) (ys : List ℕ) → at + length (witnesses_bytes o) ≤ limit → run (tail_at at k) (witnesses_bytes o ++ ys) ≡ after (length (witnesses_bytes o)) (tail_log at o) (run (k (tail_seen o) (at + length (witnesses_bytes o))) ys)
    unfolding witnesses_bytes
    tail_forth none g = (plain (eq-eqb flag 0 (sym g.0))).forth tt tt
    tail_forth (some x) g = (flagged (ne_eqb flag 0 (λ e. omega (arith, g.0))) (eq-eqb flag 1 (sym g.0))).forth x (record { formed = g.1; room_for = g.2 })

    abbrev pub tail_events : ℕ → Option Witnesses → List Event
    tail_events at none = []
    tail_events at (some x) = witnesses_events at x

    tail_traced : (o : Option Witnesses) → TailGood o → (at : ℕ) (k : Seen → ℕ → Layout Head) (ys : List ℕ) → Along at (witnesses_bytes o) (trace (tail_at at k) (witnesses_bytes o ++ ys)) (tail_events at o) (trace (k (tail_seen o) (at + length (witnesses_bytes o))) ys)
    unfolding witnesses_bytes
    tail_traced none g = (plain (eq-eqb flag 0 (sym g.0))).traced tt tt
    tail_traced (some x) g = (flagged (ne_eqb flag 0 (λ e. omega (arith, g.0))) (eq-eqb flag 1 (sym g.0))).traced x (record { formed = g.1; room_for = g.2 })

    tail_judged : (o : Option Witnesses) → TailGood o → (at : ℕ) (k : Seen → ℕ → Layout Head) (ys : List ℕ) → settled at (run (tail_at at k) (witnesses_bytes o ++ ys)) ≡ limited (witnesses_fields at o) (settled (at + length (witnesses_bytes o)) (run (k (tail_seen o) (at + length (witnesses_bytes o))) ys))
    unfolding witnesses_bytes
    tail_judged none g = (plain (eq-eqb flag 0 (sym g.0))).judged tt tt
    tail_judged (some x) g = (flagged (ne_eqb flag 0 (λ e. omega (arith, g.0))) (eq-eqb flag 1 (sym g.0))).judged x (record { formed = g.1; room_for = g.2 })

    tail_reach : (o : Option Witnesses) → TailGood o → (at : ℕ) (k : Seen → ℕ → Layout Head) → Every (Comes (tail_at at k) (witnesses_bytes o) at) (witnesses_sites room at o)
    unfolding witnesses_bytes
    tail_reach none g = λ at k. tt
    tail_reach (some x) g = (flagged (ne_eqb flag 0 (λ e. omega (arith, g.0))) (eq-eqb flag 1 (sym g.0))).reach x (record { formed = g.1; room_for = g.2 })

    tail_codes : Codes tail_at TailGood witnesses_bytes tail_log tail_events witnesses_fields (witnesses_sites room) tail_seen
    unfolding witnesses_bytes
    tail_codes =
        record {
          forth = tail_forth;
          traced = tail_traced;
          judged = tail_judged;
          reach = tail_reach;
          back = λ at k xs a bs h f.
              by_cases (eqb flag 0)
              (λ e. began_as ((plain e).back at k xs a bs h f) none (sym (eqb-true flag 0 e), tt, omega arith) refl refl)
              (λ e₀. by_cases (eqb flag 1)
              (λ e. let u = (flagged e₀ e).back at k xs a bs h f in began_as u (some u.held) (sym (eqb-true flag 1 e), u.good.formed, u.good.room_for) refl refl)
              (λ e. absurd ((unflagged e₀ e).back at k xs a bs h f).good));
        }

-- ---- the transaction

-- `transaction`, with what follows it left open
-- It hands on whether all witnesses are empty, and the head by the bytes.
abbrev whole_at : Room → Part (Bool × (ℕ → Head))
whole_at room at k =
    number_at at little 4 λ version at₁.
    number_at at₁ little 1 λ flag at₂.
    count_at at₂ room.inputs λ ins at₃.
    each (alone input_at) ins 0 tt at₃ λ _ at₄.
    count_at at₄ room.outputs λ outs at₅.
    each (alone output_at) outs 0 tt at₅ λ _ at₆.
    number_at at₆ little 4 λ locktime at₇.
    tail_at room.items ins outs flag at₇ λ s. k (s.empty, λ bytes. record { version = version; flag = flag; inputs = ins; outputs = outs; items = s.items; locktime = locktime; bytes = bytes })

-- 8: all witnesses empty
abbrev judge : Bool × (ℕ → Head) → ℕ → Layout Head
judge e at = cond e.0 (refuse 8 4) (accept (e.1 at))

whole_transaction : (room : Room) → transaction room ≡ whole_at room 0 judge
unfolding transaction
whole_transaction room = refl

pub input_some : (x : Input) → 1 ≤ length (input_bytes x)
unfolding input_bytes
input_some x =
    let raw = bytes_of little 4 (raw_vout x.vout x.flags) in
    let rest = body_bytes x.script ++ (bytes_of little 4 x.sequence ++ issuance_bytes x.issuance) in
    omega (arith, length-append x.txid (raw ++ rest), length-append raw rest, length_bytes little 4 (raw_vout x.vout x.flags))

token_some : (t : Token) → 1 ≤ length (token_bytes t)
unfolding token_bytes
token_some absent = omega arith
token_some (present p part) = omega arith

pub output_some : (x : Output) → 1 ≤ length (output_bytes x)
unfolding output_bytes
output_some x = omega (arith, token_some x.asset, length-append (token_bytes x.asset) (value_bytes x.value ++ (token_bytes x.nonce ++ body_bytes x.script)))

abbrev pub inputs_log : ℕ → ℕ → List Input → List Entry
inputs_log = log_all input_at InputFormed input_bytes input_log

abbrev pub outputs_log : ℕ → ℕ → List Output → List Entry
outputs_log = log_all output_at OutputFormed output_bytes output_log

abbrev pub inputs_events : ℕ → ℕ → List Input → List Event
inputs_events = events_all input_bytes input_events

abbrev pub outputs_events : ℕ → ℕ → List Output → List Event
outputs_events = events_all output_bytes output_events

pub flag_small : (o : Option Witnesses) → flag_of o < 256
flag_small none = omega arith
flag_small (some x) = omega arith

module _ (room : Room) where
  abbrev pub whole_log : ℕ → Contents → List Entry
  whole_log at x =
      let at₁ = at + 5 in
      let at₂ = at₁ + length (list_bytes input_bytes x.inputs) in
      let at₃ = at₂ + length (list_bytes output_bytes x.outputs) + 4 in
      inputs_log 0 (at₁ + length (compact_bytes (length x.inputs))) x.inputs
      ++ (outputs_log 0 (at₂ + length (compact_bytes (length x.outputs))) x.outputs
      ++ tail_log room.items (length x.inputs) (length x.outputs) (flag_of x.witnesses) at₃ x.witnesses)

  abbrev pub whole_events : ℕ → Contents → List Event
  whole_events at x =
      let at₁ = at + 5 in
      let at₂ = at₁ + length (list_bytes input_bytes x.inputs) in
      let at₃ = at₂ + length (list_bytes output_bytes x.outputs) + 4 in
      looked (bytes_of little 4 x.version) ++ (shown (flag_of x.witnesses) ∷
      ((looked (compact_bytes (length x.inputs)) ++ inputs_events 0 (at₁ + length (compact_bytes (length x.inputs))) x.inputs)
      ++ ((looked (compact_bytes (length x.outputs)) ++ outputs_events 0 (at₂ + length (compact_bytes (length x.outputs))) x.outputs)
      ++ (looked (bytes_of little 4 x.locktime) ++ tail_events room.items (length x.inputs) (length x.outputs) (flag_of x.witnesses) at₃ x.witnesses))))

  abbrev head_by : Contents → ℕ → Head
  head_by x bytes = record { version = x.version; flag = flag_of x.witnesses; inputs = length x.inputs; outputs = length x.outputs; items = item_count x.witnesses; locktime = x.locktime; bytes = bytes }

  whole_codes : Codes (whole_at room) (Formed room) contents_bytes whole_log whole_events fields_of (sites_of room) (λ x. (witnesses_empty x.witnesses, head_by x))
  unfolding contents_bytes
  whole_codes =
      seen_as (λ x. (x.version, (flag_of x.witnesses, (x.inputs, (x.outputs, (x.locktime, x.witnesses))))))
      (λ x g. (
        g.version,
        (
          flag_small x.witnesses,
          (
            ((g.input_count, le-leb (length x.inputs) room.inputs g.fits.inputs), g.inputs),
            (((g.output_count, le-leb (length x.outputs) room.outputs g.fits.outputs), g.outputs), (g.locktime, (refl, g.witnesses, g.fits.items))),
          ),
        ),
      ))
      (λ x g. ap (λ (l : List ℕ). bytes_of little 4 x.version ++ (l ++ (list_bytes input_bytes x.inputs ++ (list_bytes output_bytes x.outputs ++ (bytes_of little 4 x.locktime ++ witnesses_bytes x.witnesses))))) (sym (one_byte (flag_of x.witnesses) (flag_small x.witnesses))))
      (λ at x g.
      let l₁ = length_bytes little 4 x.version in
      let l₂ = length_bytes little 1 (flag_of x.witnesses) in
      let l₃ = length_bytes little 4 x.locktime in
      let a = at + length (bytes_of little 4 x.version) + length (bytes_of little 1 (flag_of x.witnesses)) in
      let e₁ : at + 5 ≡ a = omega arith in
      let b = length (list_bytes input_bytes x.inputs) in
      let c = length (list_bytes output_bytes x.outputs) in
      let e₃ : at + 5 + b + c + 4 ≡ a + b + c + length (bytes_of little 4 x.locktime) = omega arith in
      λ j.
      inputs_log 0 (e₁ j + length (compact_bytes (length x.inputs))) x.inputs
      ++ (outputs_log 0 (e₁ j + b + length (compact_bytes (length x.outputs))) x.outputs
      ++ tail_log room.items (length x.inputs) (length x.outputs) (flag_of x.witnesses) (e₃ j) x.witnesses))
      (λ at x g.
      let l₁ = length_bytes little 4 x.version in
      let l₂ = length_bytes little 1 (flag_of x.witnesses) in
      let l₃ = length_bytes little 4 x.locktime in
      let a = at + length (bytes_of little 4 x.version) + length (bytes_of little 1 (flag_of x.witnesses)) in
      let e₁ : at + 5 ≡ a = omega arith in
      let b = length (list_bytes input_bytes x.inputs) in
      let c = length (list_bytes output_bytes x.outputs) in
      let e₃ : at + 5 + b + c + 4 ≡ a + b + c + length (bytes_of little 4 x.locktime) = omega arith in
      let e₀ = sym (one_byte (flag_of x.witnesses) (flag_small x.witnesses)) in
      λ j.
      looked (bytes_of little 4 x.version) ++ (looked (e₀ j)
      ++ ((looked (compact_bytes (length x.inputs)) ++ inputs_events 0 (e₁ j + length (compact_bytes (length x.inputs))) x.inputs)
      ++ ((looked (compact_bytes (length x.outputs)) ++ outputs_events 0 (e₁ j + b + length (compact_bytes (length x.outputs))) x.outputs)
      ++ (looked (bytes_of little 4 x.locktime) ++ tail_events room.items (length x.inputs) (length x.outputs) (flag_of x.witnesses) (e₃ j) x.witnesses)))))
      (λ at x g.
      let l₁ = length_bytes little 4 x.version in
      let l₂ = length_bytes little 1 (flag_of x.witnesses) in
      let l₃ = length_bytes little 4 x.locktime in
      let a = at + length (bytes_of little 4 x.version) + length (bytes_of little 1 (flag_of x.witnesses)) in
      let e₀ : at + 4 ≡ at + length (bytes_of little 4 x.version) = omega arith in
      let e₁ : at + 5 ≡ a = omega arith in
      let b = length (list_bytes input_bytes x.inputs) in
      let c = length (list_bytes output_bytes x.outputs) in
      let e₃ : at + 5 + b + c + 4 ≡ a + b + c + length (bytes_of little 4 x.locktime) = omega arith in
      λ j.
      fixed at 4 ++ (fixed (e₀ j) 1
      ++ (list_fields input_bytes input_fields (e₁ j) x.inputs
      ++ (list_fields output_bytes output_fields (e₁ j + b) x.outputs
      ++ (fixed (e₁ j + b + c) 4 ++ witnesses_fields (e₃ j) x.witnesses)))))
      (λ at x g.
      let l₁ = length_bytes little 4 x.version in
      let l₂ = length_bytes little 1 (flag_of x.witnesses) in
      let l₃ = length_bytes little 4 x.locktime in
      let a = at + length (bytes_of little 4 x.version) + length (bytes_of little 1 (flag_of x.witnesses)) in
      let e₁ : at + 5 ≡ a = omega arith in
      let b = length (list_bytes input_bytes x.inputs) in
      let c = length (list_bytes output_bytes x.outputs) in
      let e₃ : at + 5 + b + c + 4 ≡ a + b + c + length (bytes_of little 4 x.locktime) = omega arith in
      λ j. list_sites room.inputs input_bytes input_sites (e₁ j) x.inputs ++ (list_sites room.outputs output_bytes output_sites (e₁ j + b) x.outputs ++ witnesses_sites room.items (e₃ j) x.witnesses))
      (λ x g. refl)
      (λ x g.
      let rest = x.1.1.1.1 in
      let h = g.1.1.1.1 in (
        record { version = x.0; inputs = x.1.1.0; outputs = x.1.1.1.0; locktime = rest.0; witnesses = rest.1 },
        record {
          version = g.0;
          input_count = g.1.1.0.0.0;
          inputs = g.1.1.0.1;
          output_count = g.1.1.1.0.0.0;
          outputs = g.1.1.1.0.1;
          locktime = h.0;
          witnesses = h.1.1;
          fits = record { inputs = leb-true (length x.1.1.0) room.inputs g.1.1.0.0.1; outputs = leb-true (length x.1.1.1.0) room.outputs g.1.1.1.0.0.1; items = h.1.2 };
        },
        ap (λ (f : ℕ). (x.0, (f, x.1.1))) h.1.0,
      ))
      (then {Q = λ _ version at₁ k. number_at at₁ little 1 λ flag at₂. count_at at₂ room.inputs λ ins at₃. each (alone input_at) ins 0 tt at₃ λ _ at₄. count_at at₄ room.outputs λ outs at₅. each (alone output_at) outs 0 tt at₅ λ _ at₆. number_at at₆ little 4 λ locktime at₇. tail_at room.items ins outs flag at₇ λ s. k (s.empty, λ bytes. record { version = version; flag = flag; inputs = ins; outputs = outs; items = s.items; locktime = locktime; bytes = bytes })}
      (number_codes (λ at. at) little 4) λ _ version _.
      then {Q = λ _ flag at₂ k. count_at at₂ room.inputs λ ins at₃. each (alone input_at) ins 0 tt at₃ λ _ at₄. count_at at₄ room.outputs λ outs at₅. each (alone output_at) outs 0 tt at₅ λ _ at₆. number_at at₆ little 4 λ locktime at₇. tail_at room.items ins outs flag at₇ λ s. k (s.empty, λ bytes. record { version = version; flag = flag; inputs = ins; outputs = outs; items = s.items; locktime = locktime; bytes = bytes })}
      (number_codes (λ at. at) little 1) λ _ flag _.
      then {Q = λ _ ins at₄ k. count_at at₄ room.outputs λ outs at₅. each (alone output_at) outs 0 tt at₅ λ _ at₆. number_at at₆ little 4 λ locktime at₇. tail_at room.items ins outs flag at₇ λ s. k (s.empty, λ bytes. record { version = version; flag = flag; inputs = ins; outputs = outs; items = s.items; locktime = locktime; bytes = bytes })}
      (list_codes input_at InputFormed input_bytes input_log input_events input_fields input_sites 0 (count_codes room.inputs) input_codes) λ _ ins _.
      then {Q = λ _ outs at₆ k. number_at at₆ little 4 λ locktime at₇. tail_at room.items (length ins) outs flag at₇ λ s. k (s.empty, λ bytes. record { version = version; flag = flag; inputs = length ins; outputs = outs; items = s.items; locktime = locktime; bytes = bytes })}
      (list_codes output_at OutputFormed output_bytes output_log output_events output_fields output_sites 0 (count_codes room.outputs) output_codes) λ _ outs _.
      then {Q = λ _ locktime at₇ k. tail_at room.items (length ins) (length outs) flag at₇ λ s. k (s.empty, λ bytes. record { version = version; flag = flag; inputs = length ins; outputs = length outs; items = s.items; locktime = locktime; bytes = bytes })}
      (number_codes (λ at. at) little 4) λ _ locktime _.
      handing (λ s. (s.empty, λ bytes. record { version = version; flag = flag; inputs = length ins; outputs = length outs; items = s.items; locktime = locktime; bytes = bytes })) (tail_codes room.items (length ins) (length outs) flag))

-- ---- what it comes to

judge_run : (b : Bool) (h : Head) (ys : List ℕ) → run (cond b (refuse 8 4) (accept h)) ys ≡ reading (cond b (refused 8 4) (finished h)) 0 []
unfolding run
judge_run true h ys = refl
judge_run false h ys = refl

judge_trace : (b : Bool) (h : Head) (ys : List ℕ) → trace (cond b (refuse 8 4) (accept h)) ys ≡ []
unfolding trace
judge_trace true h ys = refl
judge_trace false h ys = refl

-- the bytes of what is formed, and anything behind them, are read as it
pub reads : (room : Room) (x : Contents) → Formed room x → length (contents_bytes x) ≤ limit → (ys : List ℕ) → run (transaction room) (contents_bytes x ++ ys) ≡ reading (verdict x) (length (contents_bytes x)) (whole_log room 0 x)
reads room x g h ys =
    let n = length (contents_bytes x) in
    ap (λ (l : Layout Head). run l (contents_bytes x ++ ys)) (whole_transaction room)
    ∙ (whole_codes room).forth x g 0 judge ys (omega arith)
    ∙ ap (after n (whole_log room 0 x)) (judge_run (witnesses_empty x.witnesses) (head_by room x (0 + n)) ys)
    ∙ λ j. reading (cond (witnesses_empty x.witnesses) (refused 8 4) (finished (head_by room x (zero-add n j)))) (add-zero n j) (append-nil (whole_log room 0 x) j)

-- and met in this order; of whatever length, up to where it stops
pub goes : (room : Room) (x : Contents) → Formed room x → (ys : List ℕ) → Along 0 (contents_bytes x) (trace (transaction room) (contents_bytes x ++ ys)) (whole_events room 0 x) []
goes room x g ys =
    goes_as (ap (λ (l : Layout Head). trace l (contents_bytes x ++ ys)) (whole_transaction room)) refl (judge_trace (witnesses_empty x.witnesses) (head_by room x (0 + length (contents_bytes x))) ys)
    ((whole_codes room).traced x g 0 judge ys)

pub traced : (room : Room) (x : Contents) → Formed room x → length (contents_bytes x) ≤ limit → (ys : List ℕ) → trace (transaction room) (contents_bytes x ++ ys) ≡ whole_events room 0 x
traced room x g h ys = goes_whole _ (whole_events room 0 x) (λ past. omega arith) (goes room x g ys)

-- of whatever length, the first of its fields that would end past 4,000,000 is refused, with the last byte before it, whatever follows; if there is none, it is read
pub judged : (room : Room) (x : Contents) → Formed room x → (ys : List ℕ) → told (run (transaction room) (contents_bytes x ++ ys)) ≡ ending x
judged room x g ys =
    let n = length (contents_bytes x) in
    ap (λ (l : Layout Head). told (run l (contents_bytes x ++ ys))) (whole_transaction room)
    ∙ (let r = run (whole_at room 0 judge) (contents_bytes x ++ ys) in ap (λ (m : ℕ). (r.answer, m)) (sym (zero-add r.taken)))
    ∙ (whole_codes room).judged x g 0 judge ys
    ∙ ap (λ (r : Reading Head). limited (fields_of 0 x) (settled (0 + n) r)) (judge_run (witnesses_empty x.witnesses) (head_by room x (0 + n)) ys)
    ∙ λ j. limited (fields_of 0 x) (cond (witnesses_empty x.witnesses) (refused 8 4) (finished (head_by room x (zero-add n j))), (add-zero (0 + n) ∙ zero-add n) j)

-- and comes to each of its sites behind the bytes before it
pub reached : (room : Room) (x : Contents) → Formed room x → Every (Comes (transaction room) (contents_bytes x) 0) (sites_of room 0 x)
reached room x g = subst (λ (l : Layout Head). Every (Comes l (contents_bytes x) 0) (sites_of room 0 x)) (sym (whole_transaction room)) ((whole_codes room).reach x g 0 judge)

-- what a finished reading began with
pub record Found (room : Room) (xs : List ℕ) : Type 0 where
  pub contents : Contents
  pub rest : List ℕ
  pub formed : Formed room contents
  pub not_empty : witnesses_empty contents.witnesses ≡ false
  pub within : length (contents_bytes contents) ≤ limit
  pub same : xs ≡ contents_bytes contents ++ rest

judge_back : (b : Bool) (h : Head) (ys : List ℕ) (a : Head) → Finishes (cond b (refuse 8 4) (accept h)) ys a → b ≡ false
unfolding run
judge_back true h ys a f = absurd (refused_not_finished f)
judge_back false h ys a f = refl

pub found : (room : Room) (xs : List ℕ) (h : Head) → Bytes xs → (run (transaction room) xs).answer ≡ finished h → Found room xs
found room xs h bs e =
    let u = (whole_codes room).back 0 judge xs h bs (omega arith) (ap (λ (l : Layout Head). (run l xs).answer) (sym (whole_transaction room)) ∙ e) in
    record {
      contents = u.held;
      rest = u.rest;
      formed = u.good;
      not_empty = judge_back (witnesses_empty u.held.witnesses) (head_by room u.held (0 + length (contents_bytes u.held))) u.rest h u.goes;
      within = omega (arith, u.ends);
      same = u.same;
    }
