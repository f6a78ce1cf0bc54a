-- Document 01's layout of a transaction. Each part of it starts at a position and hands on the position behind it.
use Rattle.std.specs.Prelude.{ℕ, zero, suc, ◌+◌, ◌-◌, ◌*◌, ◌/◌, ◌%◌, ◌^◌, Bool, true, cond, ◌&&◌, ◌||◌, List, [], ◌∷◌, leb, eqb}
use Rattle.layout.specs.Number.{Order, little, big}
use Rattle.layout.specs.Layout.{Layout, number, opaque, enter, refuse, accept, Entry, Table, input, output, item, Hidden, txid, blinding_nonce, entropy, asset_part, nonce_part, commitment_part, script_body, proof_body, item_body}

-- Beside the tables: version, flag, three counts, locktime and length in bytes.
pub record Head : Type 0 where
  pub version : ℕ
  pub flag : ℕ
  pub inputs : ℕ
  pub outputs : ℕ
  pub items : ℕ
  pub locktime : ℕ
  pub bytes : ℕ

-- How many whole records the tables hold.
pub record Room : Type 0 where
  pub inputs : ℕ
  pub outputs : ℕ
  pub items : ℕ

abbrev pub limit : ℕ
limit = 4000000

-- `f ▸ x` is `f x`: what stands behind it may run over lines.
infixr 5 ◌▸◌
abbrev pub ◌▸◌ : {A B : Type 0} → (A → B) → A → B
f ▸ x = f x

abbrev pub entry : Table → ℕ → ℕ → List ℕ → Entry
entry t i c ns = record { table = t; row = i; column = c; numbers = ns }

-- 253, 254, 255 announce 2, 4, 8 bytes.
abbrev pub announced : ℕ → ℕ
announced first = cond (eqb first 253) 2 (cond (eqb first 254) 4 8)

-- The shortest form is required: so many bytes hold at least 253, 65,536 and 4,294,967,296.
abbrev pub least : ℕ → ℕ
least bytes = cond (eqb bytes 2) 253 (cond (eqb bytes 4) 65536 4294967296)

module _ {A : Type 0} where
  -- 2: a fixed field or body would end past 4,000,000. Given with the last byte before it.
  unfoldable pub within : ℕ → ℕ → Layout A → Layout A
  within place end l = cond (leb end limit) l (refuse 2 place)

  -- further bytes of a field that has its place at its own start
  unfoldable pub further_at : ℕ → ℕ → Order → ℕ → (ℕ → ℕ → Layout A) → Layout A
  further_at start at o w k = within start (at + w) ▸ number o w λ v. k v (at + w)

  abbrev pub number_at : ℕ → Order → ℕ → (ℕ → ℕ → Layout A) → Layout A
  number_at at o w k = further_at at at o w k

  unfoldable pub opaque_at : ℕ → Hidden → ℕ → (ℕ → Layout A) → Layout A
  opaque_at at h w k = within at (at + w) ▸ opaque h w ▸ k (at + w)

  -- Count or length: first byte 0 to 252 is itself; others announce further bytes. 3: not in shortest form.
  unfoldable pub compact_at : ℕ → (ℕ → ℕ → Layout A) → Layout A
  compact_at at k =
      number_at at little 1 λ first at'.
      cond (leb first 252) (k first at') ▸
      further_at at at' little (announced first) λ n at''.
      cond (leb (least (announced first)) n) (k n at'') ▸
      refuse 3 at

  -- 4: count exceeds the records left in its table.
  unfoldable pub count_at : ℕ → ℕ → (ℕ → ℕ → Layout A) → Layout A
  count_at at left k =
      compact_at at λ n at'.
      cond (leb n left) (k n at') (refuse 4 at)

  -- Length, body. Position and length enter with the length's last byte.
  unfoldable pub body_at : ℕ → Hidden → (ℕ → ℕ → Entry) → (ℕ → ℕ → Layout A) → Layout A
  body_at at h note k =
      compact_at at λ n at'.
      within at (at' + n) ▸
      enter (note at' n) ▸
      opaque h n ▸
      k n (at' + n)

  -- Value: prefix 0 null; 1 and a big-endian u64; 8 or 9 and 32 bytes. 5: prefix not listed.
  unfoldable pub value_at : ℕ → (ℕ → ℕ → Entry) → (ℕ → ℕ → Entry) → (ℕ → ℕ → Layout A) → Layout A
  value_at at note amount k =
      number_at at little 1 λ prefix at'.
      enter (note prefix at) ▸
      cond (eqb prefix 0) (k prefix at') ▸
      cond (eqb prefix 1)
      (number_at at' big 8 λ v at''.
      enter (amount (v / 2 ^ 32) (v % 2 ^ 32)) ▸
      k prefix at'') ▸
      cond (eqb prefix 8 || eqb prefix 9) (opaque_at at' commitment_part 32 (k prefix)) ▸
      refuse 5 at

  -- Asset: prefix 0 null; 1, 10 or 11 and 32 bytes. Nonce: prefix 0 null; 1, 2 or 3 and 32 bytes.
  unfoldable pub prefixed_at : ℕ → Hidden → (ℕ → Bool) → (ℕ → ℕ → Entry) → (ℕ → Layout A) → Layout A
  prefixed_at at body listed note k =
      number_at at little 1 λ prefix at'.
      enter (note prefix at) ▸
      cond (eqb prefix 0) (k at') ▸
      cond (listed prefix) (opaque_at at' body 32 k) ▸
      refuse 5 at

  -- So many records, numbered on from i. Each hands on what later ones need of it.
  unfoldable pub each : {S : Type 0} → (ℕ → S → ℕ → (S → ℕ → Layout A) → Layout A) → ℕ → ℕ → S → ℕ → (S → ℕ → Layout A) → Layout A
  each part zero i s at k = k s at
  each part (suc n) i s at k = part i s at λ s' at'. each part n (suc i) s' at' k

  -- a record of which later ones need nothing
  abbrev pub alone : (ℕ → ℕ → (ℕ → Layout A) → Layout A) → ℕ → Unit {0} → ℕ → (Unit {0} → ℕ → Layout A) → Layout A
  alone part i s at k = part i at (k s)

-- Raw vout 0xffffffff stays so, with no flag. Otherwise bit 30 is the pegin flag, bit 31 the issuance flag, both cleared in vout.
unfoldable pub all_ones : ℕ → Bool
all_ones raw = eqb raw 0xffff_ffff

unfoldable pub flag_bit : ℕ → ℕ → ℕ
flag_bit n raw = cond (all_ones raw) 0 (raw / 2 ^ n % 2)

unfoldable pub vout : ℕ → ℕ
vout raw = cond (all_ones raw) raw (raw % 2 ^ 30)

unfoldable pub flags : ℕ → ℕ
flags raw = flag_bit 30 raw + 2 * flag_bit 31 raw

abbrev pub asset_prefix : ℕ → Bool
asset_prefix p = eqb p 1 || eqb p 10 || eqb p 11

abbrev pub nonce_prefix : ℕ → Bool
nonce_prefix p = eqb p 1 || eqb p 2 || eqb p 3

-- What later witnesses need of earlier ones: the items so far, and whether all were empty: proofs of length 0, stacks without items.
pub record Seen : Type 0 where
  pub items : ℕ
  pub empty : Bool

abbrev pub seen : ℕ → Bool → Seen
seen n b = record { items = n; empty = b }

module _ {A : Type 0} where
  -- Issuance: blinding nonce, entropy, amount, inflation keys. 6: null, that is, both values are null.
  unfoldable pub issuance_at : ℕ → ℕ → (ℕ → Layout A) → Layout A
  issuance_at i at k =
      opaque_at at blinding_nonce 32 λ at₁.
      enter (entry input i 6 (at ∷ [])) ▸
      opaque_at at₁ entropy 32 λ at₂.
      value_at at₂ (λ p _. entry input i 7 (p ∷ [])) (λ high low. entry input i 8 (high ∷ low ∷ [])) λ amount at₃.
      value_at at₃ (λ p _. entry input i 10 (p ∷ [])) (λ high low. entry input i 11 (high ∷ low ∷ [])) λ keys at₄.
      cond (eqb amount 0 && eqb keys 0) (refuse 6 at) (k at₄)

  -- Input: txid, vout, script, sequence; issuance, only with its flag.
  unfoldable pub input_at : ℕ → ℕ → (ℕ → Layout A) → Layout A
  input_at i at k =
      opaque_at at txid 32 λ at₁.
      enter (entry input i 0 (at ∷ [])) ▸
      number_at at₁ little 4 λ raw at₂.
      enter (entry input i 1 (vout raw ∷ flags raw ∷ [])) ▸
      body_at at₂ script_body (λ p n. entry input i 3 (p ∷ n ∷ [])) λ _ at₃.
      number_at at₃ little 4 λ sequence at₄.
      enter (entry input i 5 (sequence ∷ [])) ▸
      cond (eqb (flag_bit 31 raw) 1) (issuance_at i at₄ k) (k at₄)

  -- Output: asset, value, nonce, script.
  unfoldable pub output_at : ℕ → ℕ → (ℕ → Layout A) → Layout A
  output_at i at k =
      prefixed_at at asset_part asset_prefix (λ p at. entry output i 0 (p ∷ at ∷ [])) λ at₁.
      value_at at₁ (λ p at. entry output i 2 (p ∷ at ∷ [])) (λ high low. entry output i 4 (high ∷ low ∷ [])) λ _ at₂.
      prefixed_at at₂ nonce_part nonce_prefix (λ p at. entry output i 6 (p ∷ at ∷ [])) λ at₃.
      body_at at₃ script_body (λ p n. entry output i 8 (p ∷ n ∷ [])) λ _. k

  -- Stack: a count, then items of length, body. The items are numbered on through all stacks.
  unfoldable pub item_at : ℕ → ℕ → (ℕ → Layout A) → Layout A
  item_at j at k = body_at at item_body (λ p n. entry item j 0 (p ∷ n ∷ [])) λ _. k

  unfoldable pub stack_at : ℕ → ℕ → ℕ → (ℕ → Entry) → (ℕ → ℕ → Layout A) → Layout A
  stack_at room first at note k =
      count_at at (room - first) λ n at₁.
      enter (note n) ▸
      each (alone item_at) n first tt at₁ λ _. k n

  -- Input witness: amount proof, keys proof, script stack, pegin stack. The first item's index enters with the script count.
  unfoldable pub input_witness_at : ℕ → ℕ → Seen → ℕ → (Seen → ℕ → Layout A) → Layout A
  input_witness_at room i s at k =
      body_at at proof_body (λ p n. entry input i 13 (p ∷ n ∷ [])) λ amount at₁.
      body_at at₁ proof_body (λ p n. entry input i 15 (p ∷ n ∷ [])) λ keys at₂.
      stack_at room s.items at₂ (λ n. entry input i 17 (s.items ∷ n ∷ [])) λ script at₃.
      stack_at room (s.items + script) at₃ (λ n. entry input i 19 (n ∷ [])) λ pegin at₄.
      k (seen (s.items + script + pegin) (s.empty && eqb amount 0 && eqb keys 0 && eqb script 0 && eqb pegin 0)) at₄

  -- Output witness: surjection proof, range proof.
  unfoldable pub output_witness_at : ℕ → Seen → ℕ → (Seen → ℕ → Layout A) → Layout A
  output_witness_at i s at k =
      body_at at proof_body (λ p n. entry output i 10 (p ∷ n ∷ [])) λ surjection at₁.
      body_at at₁ proof_body (λ p n. entry output i 12 (p ∷ n ∷ [])) λ range at₂.
      k (seen s.items (s.empty && eqb surjection 0 && eqb range 0)) at₂

-- Transaction: version, witness flag, count and inputs, count and outputs, locktime. With flag 1: each input's witness, then each
-- output's. The flag byte is judged after the locktime. 7: witness flag above 1. 8: flag 1, all witnesses empty.
unfoldable pub transaction : Room → Layout Head
transaction room =
    number_at 0 little 4 λ version at₁.
    number_at at₁ little 1 λ flag at₂.
    count_at at₂ room.inputs λ ins at₃.
    each (alone input_at) ins 0 tt at₃ λ _ at₄.
    count_at at₄ room.outputs λ outs at₅.
    each (alone output_at) outs 0 tt at₅ λ _ at₆.
    number_at at₆ little 4 λ locktime at₇.
    let head : ℕ → ℕ → Head = λ n at. record { version = version; flag = flag; inputs = ins; outputs = outs; items = n; locktime = locktime; bytes = at } in
    cond (eqb flag 0) (accept (head 0 at₇)) ▸
    cond (eqb flag 1)
    (each (input_witness_at room.items) ins 0 (seen 0 true) at₇ λ s₁ at₈.
    each output_witness_at outs 0 s₁ at₈ λ s₂ at₉.
    cond s₂.empty (refuse 8 4) (accept (head s₂.items at₉))) ▸
    refuse 7 4
