-- The reader's state machine, as pure functions on its state. It says what every state does, forged ones too; proofs/ tie it to
-- document 01's reading. `settle` is what happens when a field's last byte is taken; its bytes are counted in `taken` already.
use Rattle.std.specs.Prelude.{ℕ, ◌+◌, ◌-◌, ◌*◌, ◌/◌, ◌%◌, ◌^◌, ◌≤◌, min, cond, ◌||◌, List, [], ◌∷◌, leb, ltb, eqb, set, Option, Some, None}
use Rattle.layout.specs.Layout.{Answer, refused, more}
use Rattle.layout.specs.Outcome.{Tables}
use Rattle.layout.specs.Transaction.{Head, limit, announced, least, vout, flags, flag_bit, ◌▸◌}
use Rattle.confidential.specs.Width.{value_width, asset_width, nonce_width}
use Rattle.decoders.specs.declared.Field.{Field}
use Rattle.decoders.specs.declared.Sizes.{Sizes}
use Rattle.decoders.specs.declared.Counts.{Counts}
use Rattle.decoders.specs.declared.Spot.{Spot}
use Rattle.decoders.specs.declared.Table.{Table}
use Rattle.decoders.specs.declared.Table.TheVariants.{Input, Output, Item}
use Rattle.decoders.specs.declared.Entered.{Entered}
use Rattle.decoders.specs.declared.Settled.{Settled}
use Rattle.decoders.specs.declared.TransactionDecoder.{TransactionDecoder}
use Rattle.decoders.specs.Stages.{VERSION, FLAG, INPUT_COUNT, TXID, VOUT, INPUT_SCRIPT, SEQUENCE, BLINDING_NONCE, ENTROPY, ISSUANCE_AMOUNT, INFLATION_KEYS, OUTPUT_COUNT, ASSET, VALUE, NONCE, OUTPUT_SCRIPT, LOCKTIME, AMOUNT_PROOF, KEYS_PROOF, SCRIPT_COUNT, SCRIPT_ITEM, PEGIN_COUNT, PEGIN_ITEM, SURJECTION_PROOF, RANGE_PROOF, FINISHED, REFUSED}

-- ---- a field's forms: a count's or length's further bytes and its first byte, bytes that are never looked at, numbers

abbrev pub FURTHER : ℕ
FURTHER = 0

abbrev pub FIRST : ℕ
FIRST = 1

abbrev pub OPAQUE : ℕ
OPAQUE = 2

abbrev pub LITTLE : ℕ
LITTLE = 3

abbrev pub BIG : ℕ
BIG = 4

-- ---- the state's parts

abbrev pub State : Type 0
State = TransactionDecoder

abbrev pub field : ℕ → ℕ → ℕ → ℕ → ℕ → Field
field stage form width have value = record { stage = stage; form = form; width = width; have = have; value = value }

abbrev pub with_field : Field → State → State
with_field f s = record { field = f; taken = s.taken; sizes = s.sizes; counts = s.counts; spot = s.spot }

abbrev pub with_counts : Counts → State → State
with_counts c s = record { field = s.field; taken = s.taken; sizes = s.sizes; counts = c; spot = s.spot }

abbrev pub with_spot : Spot → State → State
with_spot p s = record { field = s.field; taken = s.taken; sizes = s.sizes; counts = s.counts; spot = p }

-- a setter for each number that outlasts a field
abbrev pub set_version : ℕ → State → State
set_version n s = with_counts (record { version = n; flag = s.counts.flag; inputs = s.counts.inputs; outputs = s.counts.outputs; items = s.counts.items; locktime = s.counts.locktime }) s

abbrev pub set_flag : ℕ → State → State
set_flag n s = with_counts (record { version = s.counts.version; flag = n; inputs = s.counts.inputs; outputs = s.counts.outputs; items = s.counts.items; locktime = s.counts.locktime }) s

abbrev pub set_inputs : ℕ → State → State
set_inputs n s = with_counts (record { version = s.counts.version; flag = s.counts.flag; inputs = n; outputs = s.counts.outputs; items = s.counts.items; locktime = s.counts.locktime }) s

abbrev pub set_outputs : ℕ → State → State
set_outputs n s = with_counts (record { version = s.counts.version; flag = s.counts.flag; inputs = s.counts.inputs; outputs = n; items = s.counts.items; locktime = s.counts.locktime }) s

abbrev pub set_items : ℕ → State → State
set_items n s = with_counts (record { version = s.counts.version; flag = s.counts.flag; inputs = s.counts.inputs; outputs = s.counts.outputs; items = n; locktime = s.counts.locktime }) s

abbrev pub set_locktime : ℕ → State → State
set_locktime n s = with_counts (record { version = s.counts.version; flag = s.counts.flag; inputs = s.counts.inputs; outputs = s.counts.outputs; items = s.counts.items; locktime = n }) s

abbrev pub set_index : ℕ → State → State
set_index n s = with_spot (record { index = n; left = s.spot.left; issuance = s.spot.issuance; null = s.spot.null; empty = s.spot.empty }) s

abbrev pub set_left : ℕ → State → State
set_left n s = with_spot (record { index = s.spot.index; left = n; issuance = s.spot.issuance; null = s.spot.null; empty = s.spot.empty }) s

abbrev pub set_issuance : ℕ → State → State
set_issuance n s = with_spot (record { index = s.spot.index; left = s.spot.left; issuance = n; null = s.spot.null; empty = s.spot.empty }) s

abbrev pub set_null : ℕ → State → State
set_null n s = with_spot (record { index = s.spot.index; left = s.spot.left; issuance = s.spot.issuance; null = n; empty = s.spot.empty }) s

abbrev pub set_empty : ℕ → State → State
set_empty n s = with_spot (record { index = s.spot.index; left = s.spot.left; issuance = s.spot.issuance; null = s.spot.null; empty = n }) s

-- how many records the tables hold, as document 01 counts them
abbrev pub input_room : State → ℕ
input_room s = s.sizes.inputs / 20

abbrev pub output_room : State → ℕ
output_room s = s.sizes.outputs / 14

abbrev pub item_room : State → ℕ
item_room s = min (s.sizes.items / 2) 4294967295

-- ---- ended states, and opening the next field

-- Stage 26: a refusal; `value` is its number and `have` its place, all else but the sizes and the bytes taken is 0.
abbrev pub refuse : ℕ → ℕ → State → State
refuse n place s =
    record {
      field = field REFUSED 0 0 place n;
      taken = s.taken;
      sizes = s.sizes;
      counts = record { version = 0; flag = 0; inputs = 0; outputs = 0; items = 0; locktime = 0 };
      spot = record { index = 0; left = 0; issuance = 0; null = 0; empty = 0 };
    }

-- Stage 25: finished; all but the head numbers is 0.
abbrev pub finished : State → State
finished s = with_field (field FINISHED 0 0 0 0) (with_spot (record { index = 0; left = 0; issuance = 0; null = 0; empty = 0 }) s)

-- A field is opened behind the bytes taken, or refused by number 2.
unfoldable pub opened : ℕ → ℕ → ℕ → ℕ → State → State
opened place stage form width s = cond (leb (s.taken + width) limit) (with_field (field stage form width 0 0) s) (refuse 2 place s)

abbrev pub number : ℕ → ℕ → State → State
number stage width s = opened s.taken stage LITTLE width s

abbrev pub compact : ℕ → State → State
compact stage s = opened s.taken stage FIRST 1 s

abbrev pub opaque : ℕ → State → State
opaque stage s = opened s.taken stage OPAQUE 32 s

-- ---- what follows a record, an item, a body

unfoldable pub next_input : State → State
next_input s = cond (ltb s.spot.index s.counts.inputs) (opaque TXID s) (compact OUTPUT_COUNT s)

unfoldable pub next_output : State → State
next_output s = cond (ltb s.spot.index s.counts.outputs) (number ASSET 1 s) (number LOCKTIME 4 s)

unfoldable pub witnesses_end : State → State
witnesses_end s = cond (eqb s.spot.empty 1) (refuse 8 4 s) (finished s)

unfoldable pub next_output_witness : State → State
next_output_witness s = cond (ltb s.spot.index s.counts.outputs) (compact SURJECTION_PROOF s) (witnesses_end s)

unfoldable pub next_input_witness : State → State
next_input_witness s = cond (ltb s.spot.index s.counts.inputs) (compact AMOUNT_PROOF s) (next_output_witness (set_index 0 s))

abbrev pub further : State → State
further s = set_index (s.spot.index + 1) s

-- behind an input nothing is kept of its issuance
abbrev pub further_input : State → State
further_input s = set_issuance 0 (set_null 0 (further s))

unfoldable pub next_script_item : State → State
next_script_item s = cond (ltb 0 s.spot.left) (compact SCRIPT_ITEM s) (compact PEGIN_COUNT s)

unfoldable pub next_pegin_item : State → State
next_pegin_item s = cond (ltb 0 s.spot.left) (compact PEGIN_ITEM s) (next_input_witness (further s))

abbrev pub item_ends : State → State
item_ends s = set_items (s.counts.items + 1) (set_left (s.spot.left - 1) s)

-- by the body's stage
unfoldable pub body_ends : ℕ → State → State
body_ends stage s =
    cond (eqb stage INPUT_SCRIPT) (number SEQUENCE 4 s) ▸
    cond (eqb stage OUTPUT_SCRIPT) (next_output (further s)) ▸
    cond (eqb stage AMOUNT_PROOF) (compact KEYS_PROOF s) ▸
    cond (eqb stage KEYS_PROOF) (compact SCRIPT_COUNT s) ▸
    cond (eqb stage SCRIPT_ITEM) (next_script_item (item_ends s)) ▸
    cond (eqb stage PEGIN_ITEM) (next_pegin_item (item_ends s)) ▸
    cond (eqb stage SURJECTION_PROOF) (compact RANGE_PROOF s) ▸
    next_output_witness (further s)

-- ---- what enters the tables

abbrev pub entered : Table → ℕ → ℕ → Option ℕ → Entered
entered table at number next = record { table = table; at = at; number = number; next = next }

abbrev pub settled : State → Entered → Settled
settled s e = record { decoder = s; entered = Some e }

abbrev pub quiet : State → Settled
quiet s = record { decoder = s; entered = None }

-- one number, or two neighbours, of the present input, output or item record
abbrev pub input1 : ℕ → ℕ → State → Entered
input1 column n s = entered Input (20 * s.spot.index + column) n None

abbrev pub input2 : ℕ → ℕ → ℕ → State → Entered
input2 column n m s = entered Input (20 * s.spot.index + column) n (Some m)

abbrev pub output2 : ℕ → ℕ → ℕ → State → Entered
output2 column n m s = entered Output (14 * s.spot.index + column) n (Some m)

abbrev pub item2 : ℕ → ℕ → State → Entered
item2 n m s = entered Item (2 * s.counts.items) n (Some m)

-- ---- counts and lengths

unfoldable pub emptied : ℕ → State → State
emptied n s = cond (eqb n 0) s (set_empty 0 s)

-- a body's position and length, by its stage
unfoldable pub body_entered : ℕ → ℕ → State → Entered
body_entered stage n s =
    cond (eqb stage INPUT_SCRIPT) (input2 3 s.taken n s) ▸
    cond (eqb stage OUTPUT_SCRIPT) (output2 8 s.taken n s) ▸
    cond (eqb stage AMOUNT_PROOF) (input2 13 s.taken n s) ▸
    cond (eqb stage KEYS_PROOF) (input2 15 s.taken n s) ▸
    cond (eqb stage SCRIPT_ITEM || eqb stage PEGIN_ITEM) (item2 s.taken n s) ▸
    cond (eqb stage SURJECTION_PROOF) (output2 10 s.taken n s) ▸
    output2 12 s.taken n s

-- a proof's length bears on whether the witnesses are empty
unfoldable pub body_seen : ℕ → ℕ → State → State
body_seen stage n s = cond (eqb stage AMOUNT_PROOF || eqb stage KEYS_PROOF || eqb stage SURJECTION_PROOF || eqb stage RANGE_PROOF) (emptied n s) s

unfoldable pub body_opened : ℕ → ℕ → State → State
body_opened stage n s = cond (eqb n 0) (body_ends stage s) (with_field (field stage OPAQUE n 0 0) s)

unfoldable pub length_settled : ℕ → ℕ → ℕ → State → Settled
length_settled stage start n s =
    cond (leb (s.taken + n) limit)
    (settled (body_opened stage n (body_seen stage n s)) (body_entered stage n s))
    (quiet (refuse 2 start s))

unfoldable pub inputs_counted : ℕ → ℕ → State → Settled
inputs_counted start n s = quiet (cond (leb n (input_room s)) (next_input (set_index 0 (set_inputs n s))) (refuse 4 start s))

unfoldable pub outputs_counted : ℕ → ℕ → State → Settled
outputs_counted start n s = quiet (cond (leb n (output_room s)) (next_output (set_index 0 (set_outputs n s))) (refuse 4 start s))

-- the first item's index enters with the script count
unfoldable pub script_counted : ℕ → ℕ → State → Settled
script_counted start n s =
    cond (leb n (item_room s - s.counts.items))
    (settled (next_script_item (emptied n (set_left n s))) (input2 17 s.counts.items n s))
    (quiet (refuse 4 start s))

unfoldable pub pegin_counted : ℕ → ℕ → State → Settled
pegin_counted start n s =
    cond (leb n (item_room s - s.counts.items))
    (settled (next_pegin_item (emptied n (set_left n s))) (input1 19 n s))
    (quiet (refuse 4 start s))

-- by the count's or length's stage, with its start and value
unfoldable pub compact_settled : ℕ → ℕ → ℕ → State → Settled
compact_settled stage start n s =
    cond (eqb stage INPUT_COUNT) (inputs_counted start n s) ▸
    cond (eqb stage OUTPUT_COUNT) (outputs_counted start n s) ▸
    cond (eqb stage SCRIPT_COUNT) (script_counted start n s) ▸
    cond (eqb stage PEGIN_COUNT) (pegin_counted start n s) ▸
    length_settled stage start n s

unfoldable pub first_settled : State → Settled
first_settled s =
    cond (leb s.field.value 252)
    (compact_settled s.field.stage (s.taken - 1) s.field.value s)
    (quiet (opened (s.taken - 1) s.field.stage FURTHER (announced s.field.value) s))

unfoldable pub further_settled : State → Settled
further_settled s =
    cond (leb (least s.field.width) s.field.value)
    (compact_settled s.field.stage (s.taken - s.field.width - 1) s.field.value s)
    (quiet (refuse 3 (s.taken - s.field.width - 1) s))

-- ---- values, assets and nonces: the prefix, and what it announces

unfoldable pub value_part : State → State
value_part s =
    cond (eqb (value_width s.field.value) 9) (opened s.taken s.field.stage BIG 8 s) ▸
    cond (eqb (value_width s.field.value) 33) (opaque s.field.stage s) ▸
    refuse 5 (s.taken - 1) s

unfoldable pub asset_part : State → State
asset_part s = cond (eqb (asset_width s.field.value) 33) (opaque s.field.stage s) (refuse 5 (s.taken - 1) s)

unfoldable pub nonce_part : State → State
nonce_part s = cond (eqb (nonce_width s.field.value) 33) (opaque s.field.stage s) (refuse 5 (s.taken - 1) s)

-- the same of any of the three, by the width of the whole field: only a value's is ever 9
unfoldable pub part : ℕ → State → State
part width s =
    cond (eqb width 9) (opened s.taken s.field.stage BIG 8 s) ▸
    cond (eqb width 33) (opaque s.field.stage s) ▸
    refuse 5 (s.taken - 1) s

-- behind a null one stands the next field's first byte
unfoldable pub part_next : ℕ → ℕ → ℕ → State → State
part_next width stage form s = cond (eqb s.field.value 0) (opened s.taken stage form 1 s) (part width s)

-- an issuance's amount: whether it is null is kept for the keys
unfoldable pub amount_next : State → State
amount_next s = cond (eqb s.field.value 0) (number INFLATION_KEYS 1 (set_null 1 s)) (value_part (set_null 0 s))

-- 6 is placed at the issuance's start, 66 bytes before the end of a null one
unfoldable pub null_keys_next : State → State
null_keys_next s = cond (eqb s.spot.null 1) (refuse 6 (s.taken - 66) s) (next_input (further_input s))

unfoldable pub keys_next : State → State
keys_next s = cond (eqb s.field.value 0) (null_keys_next s) (value_part s)

unfoldable pub asset_next : State → State
asset_next s = cond (eqb s.field.value 0) (number VALUE 1 s) (asset_part s)

unfoldable pub value_next : State → State
value_next s = cond (eqb s.field.value 0) (number NONCE 1 s) (value_part s)

unfoldable pub nonce_next : State → State
nonce_next s = cond (eqb s.field.value 0) (compact OUTPUT_SCRIPT s) (nonce_part s)

abbrev pub high : State → ℕ
high s = s.field.value / 2 ^ 32

abbrev pub low : State → ℕ
low s = s.field.value % 2 ^ 32

-- ---- by form and stage

unfoldable pub sequence_next : State → State
sequence_next s = cond (eqb s.spot.issuance 1) (opaque BLINDING_NONCE s) (next_input (further_input s))

unfoldable pub locktime_next : State → State
locktime_next s =
    cond (eqb s.counts.flag 0) (finished s) ▸
    cond (eqb s.counts.flag 1) (next_input_witness (set_empty 1 (set_index 0 s))) ▸
    refuse 7 4 s

abbrev pub version_settled : State → Settled
version_settled s = quiet (number FLAG 1 (set_version s.field.value s))

abbrev pub flag_settled : State → Settled
flag_settled s = quiet (compact INPUT_COUNT (set_flag s.field.value s))

abbrev pub vout_settled : State → Settled
vout_settled s = settled (compact INPUT_SCRIPT (set_issuance (flag_bit 31 s.field.value) s)) (input2 1 (vout s.field.value) (flags s.field.value) s)

abbrev pub sequence_settled : State → Settled
sequence_settled s = settled (sequence_next s) (input1 5 s.field.value s)

abbrev pub amount_settled : State → Settled
amount_settled s = settled (amount_next s) (input1 7 s.field.value s)

abbrev pub keys_settled : State → Settled
keys_settled s = settled (keys_next s) (input1 10 s.field.value s)

abbrev pub asset_settled : State → Settled
asset_settled s = settled (asset_next s) (output2 0 s.field.value (s.taken - 1) s)

abbrev pub value_settled : State → Settled
value_settled s = settled (value_next s) (output2 2 s.field.value (s.taken - 1) s)

abbrev pub nonce_settled : State → Settled
nonce_settled s = settled (nonce_next s) (output2 6 s.field.value (s.taken - 1) s)

abbrev pub locktime_settled : State → Settled
locktime_settled s = quiet (locktime_next (set_locktime s.field.value s))

unfoldable pub little_settled : ℕ → State → Settled
little_settled stage s =
    cond (eqb stage VERSION) (version_settled s) ▸
    cond (eqb stage FLAG) (flag_settled s) ▸
    cond (eqb stage VOUT) (vout_settled s) ▸
    cond (eqb stage SEQUENCE) (sequence_settled s) ▸
    cond (eqb stage ISSUANCE_AMOUNT) (amount_settled s) ▸
    cond (eqb stage INFLATION_KEYS) (keys_settled s) ▸
    cond (eqb stage ASSET) (asset_settled s) ▸
    cond (eqb stage VALUE) (value_settled s) ▸
    cond (eqb stage NONCE) (nonce_settled s) ▸
    locktime_settled s

unfoldable pub big_settled : ℕ → State → Settled
big_settled stage s =
    cond (eqb stage ISSUANCE_AMOUNT) (settled (number INFLATION_KEYS 1 s) (input2 8 (high s) (low s) s)) ▸
    cond (eqb stage INFLATION_KEYS) (settled (next_input (further_input s)) (input2 11 (high s) (low s) s)) ▸
    settled (number NONCE 1 s) (output2 4 (high s) (low s) s)

unfoldable pub opaque_settled : ℕ → State → Settled
opaque_settled stage s =
    cond (eqb stage TXID) (settled (number VOUT 4 s) (input1 0 (s.taken - 32) s)) ▸
    cond (eqb stage BLINDING_NONCE) (settled (opaque ENTROPY s) (input1 6 (s.taken - 32) s)) ▸
    cond (eqb stage ENTROPY) (quiet (number ISSUANCE_AMOUNT 1 s)) ▸
    cond (eqb stage ISSUANCE_AMOUNT) (quiet (number INFLATION_KEYS 1 s)) ▸
    cond (eqb stage INFLATION_KEYS) (quiet (next_input (further_input s))) ▸
    cond (eqb stage ASSET) (quiet (number VALUE 1 s)) ▸
    cond (eqb stage VALUE) (quiet (number NONCE 1 s)) ▸
    cond (eqb stage NONCE) (quiet (compact OUTPUT_SCRIPT s)) ▸
    quiet (body_ends stage s)

unfoldable pub settle_by : ℕ → State → Settled
settle_by form s =
    cond (eqb form FURTHER) (further_settled s) ▸
    cond (eqb form FIRST) (first_settled s) ▸
    cond (eqb form OPAQUE) (opaque_settled s.field.stage s) ▸
    cond (eqb form LITTLE) (little_settled s.field.stage s) ▸
    big_settled s.field.stage s

abbrev pub settle : State → Settled
settle s = settle_by s.field.form s

-- ---- feeding: one byte after another

-- what a byte makes of the value so far: little-endian, big-endian, or never looked at
unfoldable pub worth : ℕ → ℕ → ℕ → ℕ → ℕ
worth form value have b = cond (eqb form OPAQUE) value ▸ cond (eqb form BIG) (value * 256 + b) ▸ value + b * 256 ^ have

-- and what several bytes make of it
unfoldable pub worths : ℕ → ℕ → ℕ → List ℕ → ℕ
worths form value have [] = value
worths form value have (b ∷ bs) = worths form (worth form value have b) (have + 1) bs

abbrev pub gather : State → ℕ → State
gather s b =
    record {
      field = field s.field.stage s.field.form s.field.width (s.field.have + 1) (worth s.field.form s.field.value s.field.have b);
      taken = s.taken + 1;
      sizes = s.sizes;
      counts = s.counts;
      spot = s.spot;
    }

-- k bytes more, that make the value v
abbrev pub gathered : ℕ → ℕ → State → State
gathered k v s =
    record {
      field = field s.field.stage s.field.form s.field.width (s.field.have + k) v;
      taken = s.taken + k;
      sizes = s.sizes;
      counts = s.counts;
      spot = s.spot;
    }

abbrev pub next_stored : Option ℕ → ℕ → List ℕ → List ℕ
next_stored None at xs = xs
next_stored (Some n) at xs = set xs at n

abbrev pub stored : Entered → List ℕ → List ℕ
stored e xs = next_stored e.next (e.at + 1) (set xs e.at e.number)

abbrev pub enter_by : Table → Entered → Tables → Tables
enter_by Input e t = record { inputs = stored e t.inputs; outputs = t.outputs; items = t.items }
enter_by Output e t = record { inputs = t.inputs; outputs = stored e t.outputs; items = t.items }
enter_by Item e t = record { inputs = t.inputs; outputs = t.outputs; items = stored e t.items }

abbrev pub enter : Option Entered → Tables → Tables
enter None t = t
enter (Some e) t = enter_by e.table e t

-- a state with the tables it fills
pub record Machine : Type 0 where
  pub state : State
  pub tables : Tables

abbrev pub machine : State → Tables → Machine
machine s t = record { state = s; tables = t }

unfoldable pub entering : Settled → Tables → Machine
entering r t = machine r.decoder (enter r.entered t)

-- an ended state stays as it is; a field whose last byte this is settles
unfoldable pub step : Machine → ℕ → Machine
step m b =
    cond (leb FINISHED m.state.field.stage) m ▸
    cond (eqb (m.state.field.have + 1) m.state.field.width) (entering (settle (gather m.state b)) m.tables) ▸
    machine (gather m.state b) m.tables

unfoldable pub fed : Machine → List ℕ → Machine
fed m [] = m
fed m (b ∷ bs) = fed (step m b) bs

-- what a state answers
abbrev pub head_of : State → Head
head_of s =
    record {
      version = s.counts.version;
      flag = s.counts.flag;
      inputs = s.counts.inputs;
      outputs = s.counts.outputs;
      items = s.counts.items;
      locktime = s.counts.locktime;
      bytes = s.taken;
    }

unfoldable pub answer_of : State → Answer Head
answer_of s = cond (eqb s.field.stage FINISHED) (Answer.finished (head_of s)) ▸ cond (eqb s.field.stage REFUSED) (refused s.field.value s.field.have) ▸ more

-- the fresh start
abbrev pub fresh : Sizes → State
fresh z =
    record {
      field = field VERSION LITTLE 4 0 0;
      taken = 0;
      sizes = z;
      counts = record { version = 0; flag = 0; inputs = 0; outputs = 0; items = 0; locktime = 0 };
      spot = record { index = 0; left = 0; issuance = 0; null = 0; empty = 0 };
    }

-- ---- what the code needs so that no sum wraps: every state within its range has it
pub record Counted (s : State) : Type 0 where
  pub taken : s.taken ≤ limit
  pub index : s.spot.index ≤ limit

pub record Safe (s : State) : Type 0 where
  pub taken : s.taken ≤ limit
  pub index : s.spot.index ≤ limit
  pub items : s.counts.items ≤ 4294967295
