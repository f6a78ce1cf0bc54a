-- The bytes of the whole field, its prefix included; 0 where the prefix is not listed.
use Rattle.std.specs.Prelude.{ℕ, ◌+◌, Bool, cond, ◌||◌, eqb, Option, None, Some}
use Rattle.layout.specs.Transaction.{asset_prefix, nonce_prefix}

-- Value: prefix 0 null; 1 and a big-endian u64; 8 or 9 and 32 bytes.
abbrev pub value_width : ℕ → ℕ
value_width prefix = cond (eqb prefix 0) 1 (cond (eqb prefix 1) 9 (cond (eqb prefix 8 || eqb prefix 9) 33 0))

-- Asset, nonce: prefix 0 null; a listed one and 32 bytes.
abbrev pub prefixed_width : (ℕ → Bool) → ℕ → ℕ
prefixed_width listed prefix = cond (eqb prefix 0) 1 (cond (listed prefix) 33 0)

-- Asset: prefix 0 null; 1, 10 or 11 and 32 bytes.
abbrev pub asset_width : ℕ → ℕ
asset_width = prefixed_width asset_prefix

-- Nonce: prefix 0 null; 1, 2 or 3 and 32 bytes.
abbrev pub nonce_width : ℕ → ℕ
nonce_width = prefixed_width nonce_prefix

-- Such a width in code: 0, which no field has, is none.
abbrev pub listed : ℕ → Option ℕ
listed width = cond (eqb width 0) None (Some width)

-- A field by what tells it from the others: the bytes behind prefix 1, and the two prefixes of a commitment of 32 bytes.
abbrev pub by_prefix : ℕ → ℕ → ℕ → ℕ → ℕ
by_prefix explicit first second prefix = cond (eqb prefix 0) 1 (cond (eqb prefix 1) (1 + explicit) (cond (eqb prefix first || eqb prefix second) 33 0))
