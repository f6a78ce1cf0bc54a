-- What a layout is, and its reading: over the whole list of bytes, front to back, with no state, stage or piece.
use Rattle.std.specs.Prelude.{ℕ, ◌+◌, ◌-◌, Bool, true, false, cond, List, [], ◌∷◌, leb, ltb, length, take, drop}
use Rattle.layout.specs.Number.{Order, value}

-- Numbers that go into a table, from a column of a record on. Records and columns count from 0.
pub data Table : Type 0 where
  input : Table
  output : Table
  item : Table

pub record Entry : Type 0 where
  pub table : Table
  pub row : ℕ
  pub column : ℕ
  pub numbers : List ℕ

-- The bytes that are never looked at, by the names of 01's "Bearing bytes": labels for the reader, nothing depends on them.
pub data Hidden : Type 0 where
  txid : Hidden
  blinding_nonce : Hidden
  entropy : Hidden
  asset_part : Hidden
  nonce_part : Hidden
  commitment_part : Hidden
  script_body : Hidden
  proof_body : Hidden
  item_body : Hidden

-- A layout ends with a result of type A: the head numbers, where it is a transaction's.
--     number     a field of so many bytes; what follows may use its value
--     opaque     so many bytes that are never looked at
--     enter      numbers go into a table
--     refuse     a refusal's number and place
--     accept     the end
pub data Layout (A : Type 0) : Type 0 where
  number : Order → ℕ → (ℕ → Layout A) → Layout A
  opaque : Hidden → ℕ → Layout A → Layout A
  enter : Entry → Layout A → Layout A
  refuse : ℕ → ℕ → Layout A
  accept : A → Layout A

pub data Answer (A : Type 0) : Type 0 where
  finished : A → Answer A
  more : Answer A
  refused : ℕ → ℕ → Answer A

-- A reading's answer, the bytes it took, and what it entered, first to last.
pub record Reading (A : Type 0) : Type 0 where
  pub answer : Answer A
  pub taken : ℕ
  pub log : List Entry

module _ {A : Type 0} where
  abbrev pub reading : Answer A → ℕ → List Entry → Reading A
  reading a n es = record { answer = a; taken = n; log = es }

  -- the reading that goes on behind n bytes, and behind an entry
  abbrev pub behind : ℕ → Reading A → Reading A
  behind n r = reading r.answer (n + r.taken) r.log

  abbrev pub noted : Entry → Reading A → Reading A
  noted e r = reading r.answer r.taken (e ∷ r.log)

  -- A field is read once all its bytes are there; until then all bytes are taken and more is wanted.
  unfoldable pub run : Layout A → List ℕ → Reading A
  run (number o w k) xs =
      elim (leb w (length xs)) [
        | true ↦ behind w (run (k (value o (take w xs))) (drop w xs))
        | false ↦ reading more (length xs) []
      ]
  run (opaque h w l) xs =
      elim (leb w (length xs)) [
        | true ↦ behind w (run l (drop w xs))
        | false ↦ reading more (length xs) []
      ]
  run (enter e l) xs = noted e (run l xs)
  run (refuse n p) xs = reading (refused n p) 0 []
  run (accept a) xs = reading (finished a) 0 []

  -- Does byte i, one that was taken, stand in a part that is never looked at?
  unfoldable pub hides : Layout A → List ℕ → ℕ → Bool
  hides (number o w k) xs i = cond (ltb i w) false (hides (k (value o (take w xs))) (drop w xs) (i - w))
  hides (opaque h w l) xs i = cond (ltb i w) true (hides l (drop w xs) (i - w))
  hides (enter e l) xs i = hides l xs i
  hides (refuse n p) xs i = false
  hides (accept a) xs i = false
