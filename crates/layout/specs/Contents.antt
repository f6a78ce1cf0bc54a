-- A transaction as what it holds: bodies as bytes, and no position. Its bytes, and what the layout allows.
use Rattle.std.specs.Prelude.{ℕ, ◌+◌, ◌*◌, ◌^◌, ◌<◌, ◌≤◌, ◌≡◌, Bool, true, false, cond, not, ◌&&◌, ◌||◌, List, [], ◌∷◌, ◌++◌, leb, eqb, length}
use Rattle.std.proofs.Math.Option.{Option, none, some}
use Rattle.layout.specs.Number.{little, big, bytes_of, Bytes}
use Rattle.layout.specs.Transaction.{limit, asset_prefix, nonce_prefix}

-- Value: null; explicit; or a commitment, its prefix and 32 bytes.
pub data Value : Type 0 where
  null : Value
  explicit : ℕ → Value
  commitment : ℕ → List ℕ → Value

-- Asset or nonce: null, or a prefix and 32 bytes.
pub data Token : Type 0 where
  absent : Token
  present : ℕ → List ℕ → Token

pub record Issuance : Type 0 where
  pub blinding_nonce : List ℕ
  pub entropy : List ℕ
  pub amount : Value
  pub keys : Value

pub record Input : Type 0 where
  pub txid : List ℕ
  pub vout : ℕ
  pub flags : ℕ
  pub script : List ℕ
  pub sequence : ℕ
  pub issuance : Option Issuance

pub record Output : Type 0 where
  pub asset : Token
  pub value : Value
  pub nonce : Token
  pub script : List ℕ

pub record InputWitness : Type 0 where
  pub amount_proof : List ℕ
  pub keys_proof : List ℕ
  pub script_items : List (List ℕ)
  pub pegin_items : List (List ℕ)

pub record OutputWitness : Type 0 where
  pub surjection_proof : List ℕ
  pub range_proof : List ℕ

pub record Witnesses : Type 0 where
  pub inputs : List InputWitness
  pub outputs : List OutputWitness

-- With witnesses the flag is 1, without 0.
pub record Contents : Type 0 where
  pub version : ℕ
  pub inputs : List Input
  pub outputs : List Output
  pub locktime : ℕ
  pub witnesses : Option Witnesses

-- ---- bytes

-- Count or length, in its shortest form.
unfoldable pub compact_bytes : ℕ → List ℕ
compact_bytes n =
    cond (leb n 252) (n ∷ [])
    (cond (leb n 65535) (253 ∷ bytes_of little 2 n)
    (cond (leb n 4294967295) (254 ∷ bytes_of little 4 n) (255 ∷ bytes_of little 8 n)))

unfoldable pub flat : {X : Type 0} → (X → List ℕ) → List X → List ℕ
flat f [] = []
flat f (x ∷ xs) = f x ++ flat f xs

-- Length, body.
unfoldable pub body_bytes : List ℕ → List ℕ
body_bytes xs = compact_bytes (length xs) ++ xs

-- Count, then so many.
unfoldable pub list_bytes : {X : Type 0} → (X → List ℕ) → List X → List ℕ
list_bytes f xs = compact_bytes (length xs) ++ flat f xs

unfoldable pub value_bytes : Value → List ℕ
value_bytes null = 0 ∷ []
value_bytes (explicit v) = 1 ∷ bytes_of big 8 v
value_bytes (commitment prefix part) = prefix ∷ part

unfoldable pub token_bytes : Token → List ℕ
token_bytes absent = 0 ∷ []
token_bytes (present prefix part) = prefix ∷ part

unfoldable pub issuance_bytes : Option Issuance → List ℕ
issuance_bytes none = []
issuance_bytes (some x) = x.blinding_nonce ++ (x.entropy ++ (value_bytes x.amount ++ value_bytes x.keys))

-- The flags stand in bits 30 and 31 of the raw vout: 1 pegin, 2 issuance.
abbrev pub raw_vout : ℕ → ℕ → ℕ
raw_vout vout flags = vout + 2 ^ 30 * flags

unfoldable pub input_bytes : Input → List ℕ
input_bytes x =
    x.txid ++ (bytes_of little 4 (raw_vout x.vout x.flags) ++ (body_bytes x.script ++ (bytes_of little 4 x.sequence ++ issuance_bytes x.issuance)))

unfoldable pub output_bytes : Output → List ℕ
output_bytes x = token_bytes x.asset ++ (value_bytes x.value ++ (token_bytes x.nonce ++ body_bytes x.script))

unfoldable pub input_witness_bytes : InputWitness → List ℕ
input_witness_bytes x = body_bytes x.amount_proof ++ (body_bytes x.keys_proof ++ (list_bytes body_bytes x.script_items ++ list_bytes body_bytes x.pegin_items))

unfoldable pub output_witness_bytes : OutputWitness → List ℕ
output_witness_bytes x = body_bytes x.surjection_proof ++ body_bytes x.range_proof

abbrev pub flag_of : Option Witnesses → ℕ
flag_of none = 0
flag_of (some x) = 1

unfoldable pub witnesses_bytes : Option Witnesses → List ℕ
witnesses_bytes none = []
witnesses_bytes (some x) = flat input_witness_bytes x.inputs ++ flat output_witness_bytes x.outputs

unfoldable pub contents_bytes : Contents → List ℕ
contents_bytes x =
    bytes_of little 4 x.version ++ (flag_of x.witnesses ∷ (list_bytes input_bytes x.inputs ++ (list_bytes output_bytes x.outputs ++ (bytes_of little 4 x.locktime ++ witnesses_bytes x.witnesses))))

-- ---- what the layout allows

abbrev pub Every : {X : Type 0} → (X → Type 0) → List X → Type 0
Every P [] = Unit {0}
Every P (x ∷ xs) = P x × Every P xs

-- so many bytes
pub record Fixed (n : ℕ) (xs : List ℕ) : Type 0 where
  pub long : length xs ≡ n
  pub bytes : Bytes xs

abbrev pub ValueAllowed : Value → Type 0
ValueAllowed null = Unit {0}
ValueAllowed (explicit v) = v < 2 ^ 64
ValueAllowed (commitment prefix part) = ((eqb prefix 8 || eqb prefix 9) ≡ true) × Fixed 32 part

abbrev pub TokenAllowed : (ℕ → Bool) → Token → Type 0
TokenAllowed listed absent = Unit {0}
TokenAllowed listed (present prefix part) = (listed prefix ≡ true) × Fixed 32 part

abbrev pub is_null : Value → Bool
is_null null = true
is_null (explicit v) = false
is_null (commitment prefix part) = false

-- An issuance is null exactly if both values are.
pub record IssuanceAllowed (x : Issuance) : Type 0 where
  pub blinding_nonce : Fixed 32 x.blinding_nonce
  pub entropy : Fixed 32 x.entropy
  pub amount : ValueAllowed x.amount
  pub keys : ValueAllowed x.keys
  pub not_null : (is_null x.amount && is_null x.keys) ≡ false

-- The outpoint can't be told apart: vout at or above 1,073,741,824 except 0xffffffff; 0xffffffff with a flag; 1,073,741,823 with both.
unfoldable pub confused : ℕ → ℕ → Bool
confused vout flags =
    (leb 1073741824 vout && not (eqb vout 0xffff_ffff)) || (eqb vout 0xffff_ffff && not (eqb flags 0)) || (eqb vout 1073741823 && eqb flags 3)

-- Issuance, only with its flag: 2, or 3 with pegin.
abbrev pub Flagged : ℕ → Option Issuance → Type 0
Flagged flags none = flags ≤ 1
Flagged flags (some x) = (2 ≤ flags) × (flags ≤ 3) × IssuanceAllowed x

pub record InputAllowed (x : Input) : Type 0 where
  pub txid : Fixed 32 x.txid
  pub outpoint : confused x.vout x.flags ≡ false
  pub script : Bytes x.script
  pub sequence : x.sequence < 2 ^ 32
  pub issuance : Flagged x.flags x.issuance

pub record OutputAllowed (x : Output) : Type 0 where
  pub asset : TokenAllowed asset_prefix x.asset
  pub value : ValueAllowed x.value
  pub nonce : TokenAllowed nonce_prefix x.nonce
  pub script : Bytes x.script

pub record InputWitnessAllowed (x : InputWitness) : Type 0 where
  pub amount_proof : Bytes x.amount_proof
  pub keys_proof : Bytes x.keys_proof
  pub script_items : Every Bytes x.script_items
  pub pegin_items : Every Bytes x.pegin_items

pub record OutputWitnessAllowed (x : OutputWitness) : Type 0 where
  pub surjection_proof : Bytes x.surjection_proof
  pub range_proof : Bytes x.range_proof

-- A witness is empty if its proofs have length 0 and its stacks have no items.
abbrev pub input_empty : InputWitness → Bool
input_empty x = eqb (length x.amount_proof) 0 && eqb (length x.keys_proof) 0 && eqb (length x.script_items) 0 && eqb (length x.pegin_items) 0

abbrev pub output_empty : OutputWitness → Bool
output_empty x = eqb (length x.surjection_proof) 0 && eqb (length x.range_proof) 0

unfoldable pub all : {X : Type 0} → (X → Bool) → List X → Bool
all p [] = true
all p (x ∷ xs) = p x && all p xs

pub record WitnessesAllowed (ins outs : ℕ) (x : Witnesses) : Type 0 where
  pub inputs : length x.inputs ≡ ins
  pub outputs : length x.outputs ≡ outs
  pub inputs_allowed : Every InputWitnessAllowed x.inputs
  pub outputs_allowed : Every OutputWitnessAllowed x.outputs
  pub not_empty : (all input_empty x.inputs && all output_empty x.outputs) ≡ false

abbrev pub MaybeAllowed : ℕ → ℕ → Option Witnesses → Type 0
MaybeAllowed ins outs none = Unit {0}
MaybeAllowed ins outs (some x) = WitnessesAllowed ins outs x

-- What document 01's layout and size limit allow.
pub record Allowed (x : Contents) : Type 0 where
  pub version : x.version < 2 ^ 32
  pub inputs : Every InputAllowed x.inputs
  pub outputs : Every OutputAllowed x.outputs
  pub locktime : x.locktime < 2 ^ 32
  pub witnesses : MaybeAllowed (length x.inputs) (length x.outputs) x.witnesses
  pub within : length (contents_bytes x) ≤ limit
