-- What the caller sees of any bytes, from what transactions hold. Of more than 4,000,000 bytes it is what is seen of the first 4,000,000; and those, or fewer, are one of these:
--     starts     first bytes of a transaction, or all of them and anything behind: of one that 01 would allow if it had no size limit and no refusal 8, and for which the tables have room
--     faulty     the bytes of such a transaction up to one of its counts, lengths, prefixes or issuances, and there a fault, or the first bytes of a fault (6: all)
--     flag_above  with a flag above 1: as with flag 0, but 7 where that would finish
use Rattle.std.specs.Prelude.{ℕ, ◌+◌, ◌<◌, ◌≡◌, Bool, false, cond, ◌&&◌, List, [], ◌∷◌, ◌++◌, leb, length, take, drop}
use Rattle.std.proofs.Math.Option.{Option, none, some}
use Rattle.layout.specs.Layout.{Answer, finished, more, refused}
use Rattle.layout.specs.Transaction.{Head, limit}
use Rattle.layout.specs.Outcome.{Sizes, Outcome, room_of, zeros, shown}
use Rattle.layout.specs.Contents.{Witnesses, Contents, contents_bytes, input_empty, output_empty, all}
use Rattle.layout.specs.Records.{head_of, tables_of}
use Rattle.layout.specs.Fields.{Formed, fields_of, limited}
use Rattle.layout.specs.Sites.{Site, sites_of, Fault, Among}
use Rattle.layout.specs.Moments.{tables_by}

-- ---- the first bytes of a transaction

-- 8: flag 1, all witnesses empty.
abbrev pub witnesses_empty : Option Witnesses → Bool
witnesses_empty none = false
witnesses_empty (some x) = all input_empty x.inputs && all output_empty x.outputs

abbrev pub verdict : Contents → Answer Head
verdict x = cond (witnesses_empty x.witnesses) (refused 8 4) (finished (head_of x))

-- Its answer, and the bytes taken with it: 2 at the first field that would end past 4,000,000; if there is none, the verdict with the last byte.
abbrev pub ending : Contents → Answer Head × ℕ
ending x = limited (fields_of 0 x) (verdict x, length (contents_bytes x))

abbrev pub end_of : Sizes → Contents → Outcome
end_of z x = record { answer = (ending x).0; taken = (ending x).1; tables = shown (ending x).0 (tables_of z x) (zeros z) }

-- Until then more is wanted, every byte is taken, and the numbers whose moment has come stand in the tables.
abbrev pub outcome_by : ℕ → Sizes → Contents → Outcome
outcome_by k z x = cond (leb (ending x).1 k) (end_of z x) (record { answer = more; taken = k; tables = tables_by k z x })

-- The bytes are the first of its own, and of anything behind it: `rest` is what they still lack of those.
pub record Starts (z : Sizes) (xs : List ℕ) (x : Contents) : Type 0 where
  pub formed : Formed (room_of z) x
  pub rest : List ℕ
  pub behind : List ℕ
  pub same : xs ++ rest ≡ contents_bytes x ++ behind

-- ---- and then a fault

-- Its number, with its last byte. Where it would end past 4,000,000 it is a count's or length's further bytes (one byte, or the 66 of 6, are there in 4,000,000): 2, with the first.
abbrev pub fault_ending : ℕ → ℕ → List ℕ → Answer Head × ℕ
fault_ending at number fault = cond (leb (at + length fault) limit) (refused number at, at + length fault) (refused 2 at, at + 1)

-- Until then more is wanted, and nothing enters behind the place: what the transaction holds there doesn't matter.
abbrev pub fault_by : ℕ → Sizes → Contents → ℕ → ℕ → List ℕ → Outcome
fault_by k z x at number fault =
    let v = fault_ending at number fault in
    cond (leb v.1 k) (record { answer = v.0; taken = v.1; tables = zeros z }) (record { answer = more; taken = k; tables = tables_by at z x })

-- A fault at one of its sites. Of a count or length in part nothing enters, so it may be one that could still turn out right. Within the 66 bytes of 6 numbers enter, and until the last of them
-- they are the first bytes of an issuance with a value: so 6 is told whole.
pub record FaultIn (z : Sizes) (xs : List ℕ) (x : Contents) : Type 0 where
  pub there : Site
  pub first : Starts z (take there.at xs) x
  pub among : Among there (sites_of (room_of z) 0 x)
  pub near : there.at < length xs
  pub number : ℕ
  pub fault : List ℕ
  pub rest : List ℕ
  pub behind : List ℕ
  pub wrong : Fault there.what number fault
  pub same : drop there.at xs ++ rest ≡ fault ++ behind
  pub whole : number ≡ 6 → rest ≡ []

-- ---- with a flag above 1

-- 7: with the locktime's last byte, where it would be finished with flag 0.
abbrev pub seven : Answer Head → Answer Head
seven (finished h) = refused 7 4
seven more = more
seven (refused n p) = refused n p

abbrev pub seven_of : Sizes → Outcome → Outcome
seven_of z o = record { answer = seven o.answer; taken = o.taken; tables = shown (seven o.answer) o.tables (zeros z) }

-- ---- all bytes

-- The flag is 0 or 1, or not there yet.
pub data Plain (z : Sizes) (xs : List ℕ) (o : Outcome) : Type 0 where
  starts : (x : Contents) → Starts z xs x → o ≡ outcome_by (length xs) z x → Plain z xs o
  faulty : (x : Contents) (f : FaultIn z xs x) → o ≡ fault_by (length xs) z x f.there.at f.number f.fault → Plain z xs o

pub data Known (z : Sizes) (xs : List ℕ) (o : Outcome) : Type 0 where
  plain : Plain z xs o → Known z xs o
  flag_above : (a b c d flag : ℕ) (ys : List ℕ) → xs ≡ a ∷ b ∷ c ∷ d ∷ flag ∷ ys → 1 < flag → (p : Outcome) → Plain z (a ∷ b ∷ c ∷ d ∷ 0 ∷ ys) p → o ≡ seven_of z p → Known z xs o

-- What is told of any bytes.
abbrev pub Told : Sizes → List ℕ → Outcome → Type 0
Told z xs o = Known z (take limit xs) o
