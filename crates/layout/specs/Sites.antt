-- Where a transaction's counts, lengths, prefixes and issuances start: the sites of refusals 3 to 6; and the bytes of each fault there.
use Rattle.std.specs.Prelude.{ℕ, ◌+◌, ◌-◌, ◌^◌, ◌<◌, ◌≡◌, Bool, true, false, List, [], ◌∷◌, ◌++◌, length}
use Rattle.std.proofs.Math.Option.{Option, none, some}
use Rattle.layout.specs.Number.{little, bytes_of}
use Rattle.layout.specs.Transaction.{Room, announced, least}
use Rattle.layout.specs.Refusals.{listed_value, listed_asset, listed_nonce}
use Rattle.layout.specs.Contents.{Issuance, Input, Output, InputWitness, OutputWitness, Witnesses, Contents, compact_bytes, flat, body_bytes, list_bytes, value_bytes, token_bytes, input_bytes, output_bytes, input_witness_bytes, output_witness_bytes, Fixed}

-- A count, and the records left in its table; a length; a value, an asset and a nonce; an issuance.
pub data What : Type 0 where
  counts : ℕ → What
  lengths : What
  values : What
  assets : What
  nonces : What
  issuances : What

pub record Site : Type 0 where
  pub at : ℕ
  pub what : What

abbrev pub site : ℕ → What → Site
site at what = record { at = at; what = what }

unfoldable pub sites_each : {X : Type 0} → (X → List ℕ) → (ℕ → X → List Site) → ℕ → List X → List Site
sites_each bytes sites at [] = []
sites_each bytes sites at (x ∷ xs) = sites at x ++ sites_each bytes sites (at + length (bytes x)) xs

abbrev pub body_sites : ℕ → List ℕ → List Site
body_sites at xs = site at lengths ∷ []

-- Count, then so many.
abbrev pub list_sites : {X : Type 0} → ℕ → (X → List ℕ) → (ℕ → X → List Site) → ℕ → List X → List Site
list_sites left bytes sites at xs = (site at (counts left) ∷ []) ++ sites_each bytes sites (at + length (compact_bytes (length xs))) xs

abbrev pub issuance_sites : ℕ → Option Issuance → List Site
issuance_sites at none = []
issuance_sites at (some x) = site at issuances ∷ site (at + 64) values ∷ site (at + 64 + length (value_bytes x.amount)) values ∷ []

abbrev pub input_sites : ℕ → Input → List Site
input_sites at x = body_sites (at + 36) x.script ++ issuance_sites (at + 36 + length (body_bytes x.script) + 4) x.issuance

abbrev pub output_sites : ℕ → Output → List Site
output_sites at x =
    let at₁ = at + length (token_bytes x.asset) in
    let at₂ = at₁ + length (value_bytes x.value) in
    let at₃ = at₂ + length (token_bytes x.nonce) in
    site at assets ∷ site at₁ values ∷ site at₂ nonces ∷ body_sites at₃ x.script

-- The items of earlier stacks are in the table already.
abbrev pub input_witness_sites : ℕ → ℕ → ℕ → InputWitness → List Site
input_witness_sites room first at x =
    let at₁ = at + length (body_bytes x.amount_proof) in
    let at₂ = at₁ + length (body_bytes x.keys_proof) in
    let at₃ = at₂ + length (list_bytes body_bytes x.script_items) in
    body_sites at x.amount_proof
    ++ (body_sites at₁ x.keys_proof
    ++ (list_sites (room - first) body_bytes body_sites at₂ x.script_items
    ++ list_sites (room - (first + length x.script_items)) body_bytes body_sites at₃ x.pegin_items))

unfoldable pub input_witnesses_sites : ℕ → ℕ → ℕ → List InputWitness → List Site
input_witnesses_sites room first at [] = []
input_witnesses_sites room first at (x ∷ xs) = input_witness_sites room first at x ++ input_witnesses_sites room (first + length x.script_items + length x.pegin_items) (at + length (input_witness_bytes x)) xs

abbrev pub output_witness_sites : ℕ → OutputWitness → List Site
output_witness_sites at x = body_sites at x.surjection_proof ++ body_sites (at + length (body_bytes x.surjection_proof)) x.range_proof

abbrev pub witnesses_sites : ℕ → ℕ → Option Witnesses → List Site
witnesses_sites room at none = []
witnesses_sites room at (some x) = input_witnesses_sites room 0 at x.inputs ++ sites_each output_witness_bytes output_witness_sites (at + length (flat input_witness_bytes x.inputs)) x.outputs

abbrev pub sites_of : Room → ℕ → Contents → List Site
sites_of room at x =
    let at₁ = at + 5 in
    let at₂ = at₁ + length (list_bytes input_bytes x.inputs) in
    let at₃ = at₂ + length (list_bytes output_bytes x.outputs) in
    list_sites room.inputs input_bytes input_sites at₁ x.inputs ++ (list_sites room.outputs output_bytes output_sites at₂ x.outputs ++ witnesses_sites room.items (at₃ + 4) x.witnesses)

-- ---- a fault's bytes at a site, and its number

-- 3: count or length not in shortest form
pub record NotShortest (bytes : List ℕ) : Type 0 where
  pub first : ℕ
  pub n : ℕ
  pub byte : first < 256
  pub above : 252 < first
  pub less : n < least (announced first)
  pub same : bytes ≡ first ∷ bytes_of little (announced first) n

-- 4: count exceeds the records left in its table
pub record TooMany (left : ℕ) (bytes : List ℕ) : Type 0 where
  pub n : ℕ
  pub small : n < 2 ^ 64
  pub over : left < n
  pub same : bytes ≡ compact_bytes n

-- 5: prefix not listed
pub record NotListed (listed : ℕ → Bool) (bytes : List ℕ) : Type 0 where
  pub prefix : ℕ
  pub byte : prefix < 256
  pub unlisted : listed prefix ≡ false
  pub same : bytes ≡ prefix ∷ []

-- 6: blinding nonce, entropy, two null values
pub record NullIssuance (bytes : List ℕ) : Type 0 where
  pub nonce : List ℕ
  pub entropy : List ℕ
  pub nonce_long : Fixed 32 nonce
  pub entropy_long : Fixed 32 entropy
  pub same : bytes ≡ nonce ++ (entropy ++ (0 ∷ 0 ∷ []))

-- Is it a count or a length?
abbrev pub compact : What → Bool
compact (counts left) = true
compact lengths = true
compact values = false
compact assets = false
compact nonces = false
compact issuances = false

-- The prefixes that are listed. Where none stands, none is missing in the list.
abbrev pub listed_at : What → ℕ → Bool
listed_at (counts left) p = true
listed_at lengths p = true
listed_at values p = listed_value p
listed_at assets p = listed_asset p
listed_at nonces p = listed_nonce p
listed_at issuances p = true

pub data Fault (what : What) (number : ℕ) (bytes : List ℕ) : Type 0 where
  not_shortest : compact what ≡ true → number ≡ 3 → NotShortest bytes → Fault what number bytes
  too_many : (left : ℕ) → what ≡ counts left → number ≡ 4 → TooMany left bytes → Fault what number bytes
  not_listed : number ≡ 5 → NotListed (listed_at what) bytes → Fault what number bytes
  null_issuance : what ≡ issuances → number ≡ 6 → NullIssuance bytes → Fault what number bytes

-- one of some sites
pub record Among (s : Site) (ss : List Site) : Type 0 where
  pub before : List Site
  pub after : List Site
  pub same : ss ≡ before ++ (s ∷ after)
