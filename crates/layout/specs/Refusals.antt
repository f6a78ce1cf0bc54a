-- 01's table "Numbers at the gate", for the numbers that a reading gives by itself, 2 to 8: what the bytes taken show where one is given, and
-- its place. (1 and 9 are the finish's and the strict form's: Outcome. 10 and 11 are a call's.)
use Rattle.std.specs.Prelude.{ℕ, ◌+◌, ◌-◌, ◌<◌, ◌≤◌, ◌≡◌, Bool, true, false, ◌&&◌, ◌||◌, List, [], ◌∷◌, ◌++◌, eqb, length, get_or}
use Rattle.layout.specs.Number.{little, value}
use Rattle.layout.specs.Transaction.{Room, limit, announced, least}
use Rattle.layout.specs.Contents.{compact_bytes}

-- The bytes taken end with this part, and it starts at the place.
pub record Ends (place : ℕ) (taken part : List ℕ) : Type 0 where
  pub front : List ℕ
  pub long : length front ≡ place
  pub same : taken ≡ front ++ part

-- The records left in a count's table: the input count stands at 5; items of earlier stacks are in the table already.
pub data Left (room : Room) (place left : ℕ) : Type 0 where
  inputs : place ≡ 5 → left ≡ room.inputs → Left room place left
  outputs : left ≡ room.outputs → Left room place left
  items : (earlier : ℕ) → left ≡ room.items - earlier → Left room place left

-- The widths of fixed fields, and the prefixes listed for a value, an asset and a nonce.
abbrev pub fixed_width : ℕ → Bool
fixed_width w = eqb w 1 || eqb w 4 || eqb w 8 || eqb w 32

abbrev pub listed_value : ℕ → Bool
listed_value p = eqb p 0 || eqb p 1 || eqb p 8 || eqb p 9

abbrev pub listed_asset : ℕ → Bool
listed_asset p = eqb p 0 || eqb p 1 || eqb p 10 || eqb p 11

abbrev pub listed_nonce : ℕ → Bool
listed_nonce p = eqb p 0 || eqb p 1 || eqb p 2 || eqb p 3

--     2   a fixed field, the further bytes of a count or length, or a body would end past 4,000,000; given with the last byte before it
--     3   count or length not in shortest form; given with its last byte
--     4   count exceeds the records left in its table
--     5   prefix not listed
--     6   issuance flag, null issuance: blinding nonce, entropy and two null values stand at the place
--     7   witness flag above 1        8   flag 1, all witnesses empty: at 4, and behind the locktime at the earliest
pub data Refusal (room : Room) (number place : ℕ) (taken : List ℕ) : Type 0 where
  fixed_past : (w : ℕ) → number ≡ 2 → place ≡ length taken → fixed_width w ≡ true → limit < length taken + w → Refusal room number place taken
  further_past : (first : ℕ) → number ≡ 2 → Ends place taken (first ∷ []) → 252 < first → limit < length taken + announced first → Refusal room number place taken
  body_past : (n : ℕ) → number ≡ 2 → Ends place taken (compact_bytes n) → limit < length taken + n → Refusal room number place taken
  not_shortest : (first : ℕ) (further : List ℕ) → number ≡ 3 → Ends place taken (first ∷ further) → 252 < first → length further ≡ announced first → value little further < least (announced first) → Refusal room number place taken
  too_many : (n left : ℕ) → number ≡ 4 → Ends place taken (compact_bytes n) → Left room place left → left < n → Refusal room number place taken
  not_listed : (prefix : ℕ) → number ≡ 5 → Ends place taken (prefix ∷ []) → (listed_value prefix && listed_asset prefix && listed_nonce prefix) ≡ false → Refusal room number place taken
  null_issuance : (hidden : List ℕ) → number ≡ 6 → length hidden ≡ 64 → Ends place taken (hidden ++ (0 ∷ 0 ∷ [])) → Refusal room number place taken
  flag_above : number ≡ 7 → place ≡ 4 → 1 < get_or taken 4 0 → 11 ≤ length taken → Refusal room number place taken
  all_empty : number ≡ 8 → place ≡ 4 → get_or taken 4 0 ≡ 1 → 11 ≤ length taken → Refusal room number place taken
