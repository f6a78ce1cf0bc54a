-- What is allowed, and what is formed: allowed but for its length and for witnesses that are all empty.
use Prim.Native.Nat.{ℕ, ◌^◌, ◌<◌, ◌≤◌}
use mathlib.Core.Path.{◌≡◌, refl}
use mathlib.Core.Bool.{false}
use mathlib.Core.List.{List, [], ◌∷◌, ◌++◌}
use mathlib.Core.Option.{Option, none, some}
use native.Mathlib.Omega.{arith}
use lib.ListN.{length, length-append}
use Rattle.layout.specs.Number.{little, bytes_of, Bytes}
use Rattle.layout.specs.Transaction.{Room, limit}
use Rattle.layout.specs.Contents.{Input, Output, InputWitness, OutputWitness, Witnesses, Contents, compact_bytes, flat, body_bytes, list_bytes, value_bytes, token_bytes, issuance_bytes, raw_vout, input_bytes, output_bytes, input_witness_bytes, output_witness_bytes, flag_of, witnesses_bytes, contents_bytes, Every, InputAllowed, OutputAllowed, InputWitnessAllowed, OutputWitnessAllowed, MaybeAllowed, Allowed}
use Rattle.layout.specs.Records.{Fits}
use Rattle.layout.specs.Fields.{Short, InputFormed, OutputFormed, InputWitnessFormed, OutputWitnessFormed, MaybeFormed, Formed}
use Rattle.layout.specs.Beginnings.{witnesses_empty}
use Rattle.layout.proofs.Codes.{every_as}
use Rattle.layout.proofs.Parts.{list_some, body_some}
use Rattle.layout.proofs.Whole.{input_some, output_some}

-- ---- in fewer than 2^64 bytes every count and length is below 2^64

body_short : (xs : List ℕ) → length (body_bytes xs) < 2 ^ 64 → Short xs
unfolding body_bytes
body_short xs h = omega (arith, length-append (compact_bytes (length xs)) xs)

module _ {X : Type 0} (P Q : X → Type 0) (bytes : X → List ℕ) (formed : (x : X) → P x → length (bytes x) < 2 ^ 64 → Q x) where
  each_formed : (xs : List X) → Every P xs → length (flat bytes xs) < 2 ^ 64 → Every Q xs
  unfolding flat
  each_formed [] g h = tt
  each_formed (x ∷ xs) g h = let e = length-append (bytes x) (flat bytes xs) in (formed x g.0 (omega arith), each_formed xs g.1 (omega arith))

  list_formed : (xs : List X) → Every P xs → length (list_bytes bytes xs) < 2 ^ 64 → Every Q xs
  unfolding list_bytes
  list_formed xs g h = each_formed xs g (omega (arith, length-append (compact_bytes (length xs)) (flat bytes xs)))

input_formed : (x : Input) → InputAllowed x → length (input_bytes x) < 2 ^ 64 → InputFormed x
unfolding input_bytes
input_formed x g h =
    let b = body_bytes x.script in
    let c = bytes_of little 4 x.sequence ++ issuance_bytes x.issuance in
    let raw = bytes_of little 4 (raw_vout x.vout x.flags) in
    record { allowed = g; script = body_short x.script (omega (arith, length-append x.txid (raw ++ (b ++ c)), length-append raw (b ++ c), length-append b c)) }

output_formed : (x : Output) → OutputAllowed x → length (output_bytes x) < 2 ^ 64 → OutputFormed x
unfolding output_bytes
output_formed x g h =
    let a = token_bytes x.asset in
    let v = value_bytes x.value in
    let n = token_bytes x.nonce in
    let b = body_bytes x.script in
    record { allowed = g; script = body_short x.script (omega (arith, length-append a (v ++ (n ++ b)), length-append v (n ++ b), length-append n b)) }

input_witness_formed : (x : InputWitness) → InputWitnessAllowed x → length (input_witness_bytes x) < 2 ^ 64 → InputWitnessFormed x
unfolding input_witness_bytes
input_witness_formed x g h =
    let a = body_bytes x.amount_proof in
    let k = body_bytes x.keys_proof in
    let s = list_bytes body_bytes x.script_items in
    let p = list_bytes body_bytes x.pegin_items in
    let e₁ = length-append a (k ++ (s ++ p)) in
    let e₂ = length-append k (s ++ p) in
    let e₃ = length-append s p in
    let few = list_some body_bytes body_some x.script_items in
    let few' = list_some body_bytes body_some x.pegin_items in
    record {
      allowed = g;
      amount_proof = body_short x.amount_proof (omega arith);
      keys_proof = body_short x.keys_proof (omega arith);
      script_count = omega arith;
      script_items = list_formed Bytes Short body_bytes (λ b _. body_short b) x.script_items g.script_items (omega arith);
      pegin_count = omega arith;
      pegin_items = list_formed Bytes Short body_bytes (λ b _. body_short b) x.pegin_items g.pegin_items (omega arith);
    }

output_witness_formed : (x : OutputWitness) → OutputWitnessAllowed x → length (output_witness_bytes x) < 2 ^ 64 → OutputWitnessFormed x
unfolding output_witness_bytes
output_witness_formed x g h =
    let e = length-append (body_bytes x.surjection_proof) (body_bytes x.range_proof) in
    record { allowed = g; surjection_proof = body_short x.surjection_proof (omega arith); range_proof = body_short x.range_proof (omega arith) }

witnesses_formed : (ins outs : ℕ) (o : Option Witnesses) → MaybeAllowed ins outs o → length (witnesses_bytes o) < 2 ^ 64 → MaybeFormed ins outs o
unfolding witnesses_bytes
witnesses_formed ins outs none g h = tt
witnesses_formed ins outs (some x) g h =
    let e = length-append (flat input_witness_bytes x.inputs) (flat output_witness_bytes x.outputs) in
    record {
      inputs_match = g.inputs;
      outputs_match = g.outputs;
      inputs = each_formed InputWitnessAllowed InputWitnessFormed input_witness_bytes input_witness_formed x.inputs g.inputs_allowed (omega arith);
      outputs = each_formed OutputWitnessAllowed OutputWitnessFormed output_witness_bytes output_witness_formed x.outputs g.outputs_allowed (omega arith);
    }

pub formed_in : (room : Room) (x : Contents) → Allowed x → Fits room x → Formed room x
unfolding contents_bytes
formed_in room x a f =
    let v = bytes_of little 4 x.version in
    let i = list_bytes input_bytes x.inputs in
    let o = list_bytes output_bytes x.outputs in
    let l = bytes_of little 4 x.locktime in
    let w = witnesses_bytes x.witnesses in
    let e₁ = length-append v (flag_of x.witnesses ∷ (i ++ (o ++ (l ++ w)))) in
    let e₂ = length-append i (o ++ (l ++ w)) in
    let e₃ = length-append o (l ++ w) in
    let e₄ = length-append l w in
    let h = a.within in
    let few = list_some input_bytes input_some x.inputs in
    let few' = list_some output_bytes output_some x.outputs in
    record {
      version = a.version;
      input_count = omega arith;
      inputs = list_formed InputAllowed InputFormed input_bytes input_formed x.inputs a.inputs (omega arith);
      output_count = omega arith;
      outputs = list_formed OutputAllowed OutputFormed output_bytes output_formed x.outputs a.outputs (omega arith);
      locktime = a.locktime;
      witnesses = witnesses_formed (length x.inputs) (length x.outputs) x.witnesses a.witnesses (omega arith);
      fits = f;
    }

-- ---- and where not all witnesses are empty, and it is within the limit, it is allowed

pub filled : (ins outs : ℕ) (o : Option Witnesses) → MaybeAllowed ins outs o → witnesses_empty o ≡ false
filled ins outs none g = refl
filled ins outs (some x) g = g.not_empty

witnesses_allowed : (ins outs : ℕ) (o : Option Witnesses) → MaybeFormed ins outs o → witnesses_empty o ≡ false → MaybeAllowed ins outs o
witnesses_allowed ins outs none g e = tt
witnesses_allowed ins outs (some x) g e =
    record {
      inputs = g.inputs_match;
      outputs = g.outputs_match;
      inputs_allowed = every_as InputWitnessFormed InputWitnessAllowed (λ w f. f.allowed) x.inputs g.inputs;
      outputs_allowed = every_as OutputWitnessFormed OutputWitnessAllowed (λ w f. f.allowed) x.outputs g.outputs;
      not_empty = e;
    }

pub allowed_in : (room : Room) (x : Contents) → Formed room x → witnesses_empty x.witnesses ≡ false → length (contents_bytes x) ≤ limit → Allowed x
allowed_in room x g e h =
    record {
      version = g.version;
      inputs = every_as InputFormed InputAllowed (λ y f. f.allowed) x.inputs g.inputs;
      outputs = every_as OutputFormed OutputAllowed (λ y f. f.allowed) x.outputs g.outputs;
      locktime = g.locktime;
      witnesses = witnesses_allowed (length x.inputs) (length x.outputs) x.witnesses g.witnesses e;
      within = h;
    }

-- ---- a witness for each input and each output, whichever it is

abbrev pub Matches : ℕ → ℕ → Option Witnesses → Type 0
Matches ins outs none = Unit {0}
Matches ins outs (some x) = (length x.inputs ≡ ins) × (length x.outputs ≡ outs)

pub allowed_matches : (ins outs : ℕ) (o : Option Witnesses) → MaybeAllowed ins outs o → Matches ins outs o
allowed_matches ins outs none g = tt
allowed_matches ins outs (some x) g = (g.inputs, g.outputs)

pub formed_matches : (ins outs : ℕ) (o : Option Witnesses) → MaybeFormed ins outs o → Matches ins outs o
formed_matches ins outs none g = tt
formed_matches ins outs (some x) g = (g.inputs_match, g.outputs_match)
