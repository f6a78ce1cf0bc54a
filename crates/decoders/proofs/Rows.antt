-- What the range test's rows say, by the stage as a number: one definition for all of them, with tests on the stage that compute at each.
use Prim.Native.Nat.{ℕ, ◌+◌, ◌*◌}
use mathlib.Core.Bool.{Bool, cond, ◌&&◌, ◌||◌}
use mathlib.Core.List.{List, [], ◌∷◌}
use lib.Dec.{leb, eqb}
use lib.ListN.{get_or}
use Rattle.layout.specs.Transaction.{◌▸◌}
use Rattle.decoders.specs.Stages.{FLAG, INPUT_COUNT, SEQUENCE, INFLATION_KEYS, OUTPUT_COUNT, VALUE, NONCE, OUTPUT_SCRIPT, LOCKTIME, SCRIPT_ITEM, PEGIN_ITEM}
use Rattle.decoders.specs.Machine.{OPAQUE, State}
use Rattle.decoders.specs.Range.{size}
use Rattle.decoders.specs.declared.row.Kind.{Kind}
use Rattle.decoders.specs.declared.row.Kind.TheVariants.{Number, Byte, Hidden, Count, Body, Amount, Token}

-- what each stage reads
abbrev pub kinds : List Kind
kinds =
    Number ∷ Byte ∷ Count
    ∷ Hidden ∷ Number ∷ Body ∷ Number ∷ Hidden ∷ Hidden ∷ Amount ∷ Amount ∷ Count
    ∷ Token ∷ Amount ∷ Token ∷ Body ∷ Number
    ∷ Body ∷ Body ∷ Count ∷ Body ∷ Count ∷ Body ∷ Body ∷ Body ∷ []

abbrev pub kind_at : ℕ → Kind
kind_at stage = get_or kinds stage Number

-- the least number of bytes of single fields before it: the head's, and those of its own record
abbrev pub befores : List ℕ
befores = 0 ∷ 4 ∷ 5 ∷ 5 ∷ 37 ∷ 41 ∷ 42 ∷ 46 ∷ 78 ∷ 110 ∷ 119 ∷ 5 ∷ 5 ∷ 6 ∷ 7 ∷ 8 ∷ 5 ∷ 9 ∷ 10 ∷ 11 ∷ 11 ∷ 12 ∷ 12 ∷ 9 ∷ 10 ∷ []

-- n behind a stage, and 0 up to it; n up to it, and 0 behind
abbrev pub behind : ℕ → ℕ → ℕ → ℕ
behind last n stage = cond (leb stage last) 0 n

abbrev pub upto : ℕ → ℕ → ℕ → ℕ
upto last n stage = cond (leb stage last) n 0

-- 1 from a stage to another, else 0
abbrev pub within : ℕ → ℕ → ℕ → ℕ
within from to stage = cond (leb from stage && leb stage to) 1 0

-- records that were read whole: none up to a stage; as many as the present one's index tells, up to another; then all of them
abbrev pub whole : ℕ → ℕ → ℕ → ℕ → ℕ → ℕ
whole last to index all stage = cond (leb stage last) 0 ▸ cond (leb stage to) index ▸ all

-- an item's stage
abbrev pub stacked : ℕ → Bool
stacked stage = eqb stage SCRIPT_ITEM || eqb stage PEGIN_ITEM

abbrev pub inputs_read : ℕ → State → ℕ
inputs_read stage s = whole INPUT_COUNT OUTPUT_COUNT s.spot.index s.counts.inputs stage

abbrev pub outputs_read : ℕ → State → ℕ
outputs_read stage s = whole OUTPUT_COUNT LOCKTIME s.spot.index s.counts.outputs stage

abbrev pub input_witnesses_read : ℕ → State → ℕ
input_witnesses_read stage s = whole LOCKTIME PEGIN_ITEM s.spot.index s.counts.inputs stage

abbrev pub output_witnesses_read : ℕ → State → ℕ
output_witnesses_read stage s = behind PEGIN_ITEM s.spot.index stage

-- the least number of bytes before the field that is open, whatever its form: an input has at least 41, an output 4, an input's witness 4, an
-- output's 2. An item has at least 1: those are added where this is used.
abbrev pub before : ℕ → State → ℕ
before stage s =
    get_or befores stage 0
    + behind INPUT_COUNT (size s.counts.inputs) stage
    + behind OUTPUT_COUNT (size s.counts.outputs) stage
    + cond (stacked stage) (size s.spot.left) 0
    + 41 * inputs_read stage s
    + 4 * outputs_read stage s
    + 4 * input_witnesses_read stage s
    + 2 * output_witnesses_read stage s

-- how many more there can be where nothing of free length was read: assets, values and nonces have 1 to 33
abbrev pub slack : ℕ → ℕ
slack stage = cond (eqb stage VALUE) 32 ▸ cond (eqb stage NONCE) 64 ▸ cond (eqb stage OUTPUT_SCRIPT) 96 ▸ 0

-- how many scripts were read, of any length
abbrev pub scripts : ℕ → State → ℕ
scripts stage s = inputs_read stage s + outputs_read stage s + within SEQUENCE INFLATION_KEYS stage

-- the greatest value of `empty`: none but an item or a proof's body shows that the witnesses are not empty
abbrev pub dark_at : ℕ → ℕ → ℕ
dark_at stage form = cond (eqb form OPAQUE) 0 ▸ cond (stacked stage) 0 ▸ behind LOCKTIME 1 stage

abbrev pub greatest_flag : ℕ → ℕ
greatest_flag stage = cond (leb stage FLAG) 0 ▸ cond (leb stage LOCKTIME) 255 ▸ 1

-- how many records there are of the kind that is read, and whether the stage lies behind the last
abbrev pub total : ℕ → State → ℕ
total stage s =
    cond (leb stage INPUT_COUNT) 0 ▸
    cond (leb stage OUTPUT_COUNT) s.counts.inputs ▸
    cond (leb stage LOCKTIME) s.counts.outputs ▸
    cond (leb stage PEGIN_ITEM) s.counts.inputs ▸
    s.counts.outputs

abbrev pub between : ℕ → Bool
between stage = leb stage INPUT_COUNT || eqb stage OUTPUT_COUNT || eqb stage LOCKTIME
