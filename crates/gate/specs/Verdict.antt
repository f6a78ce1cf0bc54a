-- What the gate promises: the line of the strict form's answer.
use Rattle.std.specs.Prelude.{ℕ, ◌≡◌, Bool, true, false, cond, List, ◌++◌}
use Rattle.std.proofs.Math.Option.{Option, none, some}
use Rattle.layout.specs.Number.{Bytes}
use Rattle.layout.specs.Layout as layout
use Rattle.layout.specs.Transaction as transaction
use Rattle.layout.specs.Outcome as outcome
use Rattle.gate.specs.declared.Line.{Line}
use Rattle.gate.specs.declared.Seen.{Seen}
use Rattle.gate.specs.declared.Seen.TheVariants.{Ended, Settled}
use Rattle.arrayvec.specs.ArrayVec.{ArrayVec}
use Rattle.gate.specs.Text.{line_bytes}

abbrev pub line : ℕ → ℕ → ℕ → ℕ → ℕ → Line
line n p i o k = record { number = n; place = p; inputs = i; outputs = o; items = k }

-- 01's number, place and the three counts that show. The strict form never wants more, so what stands for its number is of no account.
abbrev pub numbered : Option ℕ → ℕ
numbered none = 0
numbered (some n) = n

abbrev pub line_of : layout.Answer transaction.Head → Line
line_of a =
    line (numbered (outcome.number_of a)) (outcome.place_of a) (outcome.head_shown a).inputs (outcome.head_shown a).outputs (outcome.head_shown a).items

-- what `verdict` makes of an answer, the bytes taken, and whether bytes follow
abbrev pub verdict_of : layout.Answer transaction.Head → ℕ → Bool → Line
verdict_of (layout.finished h) taken follows = cond follows (line 9 taken 0 0 0) (line 0 0 h.inputs h.outputs h.items)
verdict_of layout.more taken follows = line 1 taken 0 0 0
verdict_of (layout.refused n p) taken follows = line n p 0 0 0

abbrev pub is_refused : layout.Answer transaction.Head → Bool
is_refused (layout.finished h) = false
is_refused layout.more = false
is_refused (layout.refused n p) = true

-- The input ended: the line is the strict form's of the bytes that were read. No contract can say which bytes a read brings.
pub record EndedAt (z : outcome.Sizes) (l : Line) : Type 0 where
  pub read : List ℕ
  pub bytes : Bytes read
  pub told : l ≡ line_of (outcome.strict z read).answer

-- It was settled before: the line is the strict form's of those bytes, whatever follows them.
pub record SettledAt (z : outcome.Sizes) (l : Line) : Type 0 where
  pub read : List ℕ
  pub bytes : Bytes read
  pub told : (ys : List ℕ) → l ≡ line_of (outcome.strict z (read ++ ys)).answer

abbrev pub Judged : outcome.Sizes → Seen Line → Type 0
Judged z (Ended l) = EndedAt z l
Judged z (Settled l) = SettledAt z l

-- The bytes that are printed are the line of the strict form's answer: to the bytes read,
pub record EndedIn (z : outcome.Sizes) (text : List ℕ) : Type 0 where
  pub read : List ℕ
  pub bytes : Bytes read
  pub told : text ≡ line_bytes (line_of (outcome.strict z read).answer)

-- or to these, whatever follows them.
pub record SettledIn (z : outcome.Sizes) (text : List ℕ) : Type 0 where
  pub read : List ℕ
  pub bytes : Bytes read
  pub told : (ys : List ℕ) → text ≡ line_bytes (line_of (outcome.strict z (read ++ ys)).answer)

abbrev pub Spoken : outcome.Sizes → Seen (ArrayVec ℕ) → Type 0
Spoken z (Ended t) = EndedIn z t.items
Spoken z (Settled t) = SettledIn z t.items

-- What the one write may be handed: the line of the strict form's answer to some bytes, for tables of some sizes.
pub record Printed (bytes : List ℕ) : Type 0 where
  pub sizes : outcome.Sizes
  pub read : List ℕ
  pub are : Bytes read
  pub told : bytes ≡ line_bytes (line_of (outcome.strict sizes read).answer)
