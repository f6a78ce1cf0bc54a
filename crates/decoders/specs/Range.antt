-- The range test of refusal 11: for each stage the least and greatest value of each number of the state, from constants and its other
-- numbers. docs/STATE.md has it as tables, src/range.rt as code: the same rows, one a stage.
use Rattle.std.specs.Prelude.{ℕ, ◌+◌, ◌-◌, ◌*◌, ◌^◌, Bool, true, false, cond, ◌&&◌, ◌||◌, List, [], ◌∷◌, leb, ltb, eqb, get_or}
use Rattle.layout.specs.Transaction.{limit, ◌▸◌}
use Rattle.decoders.specs.Stages.{VERSION, FLAG, INPUT_COUNT, TXID, VOUT, INPUT_SCRIPT, SEQUENCE, BLINDING_NONCE, ENTROPY, ISSUANCE_AMOUNT, INFLATION_KEYS, OUTPUT_COUNT, ASSET, VALUE, NONCE, OUTPUT_SCRIPT, LOCKTIME, AMOUNT_PROOF, KEYS_PROOF, SCRIPT_COUNT, SCRIPT_ITEM, PEGIN_COUNT, PEGIN_ITEM, SURJECTION_PROOF, RANGE_PROOF, FINISHED, REFUSED}
use Rattle.decoders.specs.declared.Counts.{Counts}
use Rattle.decoders.specs.declared.Spot.{Spot}
use Rattle.decoders.specs.declared.row.Kind.{Kind}
use Rattle.decoders.specs.declared.row.Kind.TheVariants.{Number, Byte, Hidden, Count, Body, Amount, Token}
use Rattle.decoders.specs.Machine.{FURTHER, FIRST, OPAQUE, LITTLE, State, input_room, output_room, item_room}

-- the bytes of a count or length
unfoldable pub size : ℕ → ℕ
size n = cond (leb n 252) 1 ▸ cond (leb n 65535) 3 ▸ cond (leb n 4294967295) 5 ▸ 9

-- by what a stage reads, the least and the greatest form; by both, the least and the greatest width
abbrev pub least_forms : Kind → ℕ
least_forms Number = 3
least_forms Byte = 3
least_forms Hidden = 2
least_forms Count = 0
least_forms Body = 0
least_forms Amount = 2
least_forms Token = 2

abbrev pub greatest_forms : Kind → ℕ
greatest_forms Number = 3
greatest_forms Byte = 3
greatest_forms Hidden = 2
greatest_forms Count = 1
greatest_forms Body = 2
greatest_forms Amount = 4
greatest_forms Token = 3

abbrev pub is_number : Kind → Bool
is_number Number = true
is_number _ = false

abbrev pub is_hidden : Kind → Bool
is_hidden Hidden = true
is_hidden _ = false

abbrev pub is_body : Kind → Bool
is_body Body = true
is_body _ = false

unfoldable pub least_width : Kind → ℕ → ℕ
least_width kind form =
    cond (eqb form FURTHER) 2 ▸
    cond (eqb form FIRST) 1 ▸
    cond (eqb form OPAQUE) (cond (is_body kind) 1 32) ▸
    cond (eqb form LITTLE) (cond (is_number kind) 4 1) ▸
    8

unfoldable pub greatest_width : Kind → ℕ → ℕ
greatest_width kind form =
    cond (eqb form FURTHER) 8 ▸
    cond (eqb form FIRST) 1 ▸
    cond (eqb form OPAQUE) (cond (is_body kind) limit 32) ▸
    cond (eqb form LITTLE) (cond (is_number kind) 4 1) ▸
    8

-- the bytes of the field itself that were read before its present part: a count's or length's first byte, a prefix, a body's length
unfoldable pub own_bytes : Kind → ℕ → ℕ → ℕ
own_bytes kind form width = cond (eqb form FIRST || eqb form LITTLE || is_hidden kind) 0 ▸ cond (eqb form OPAQUE && is_body kind) (size width) ▸ 1

-- a field's form and width are of what the stage reads. Further bytes are 2, 4 or 8.
abbrev pub shape_fits : Kind → State → Bool
shape_fits kind s =
    leb (least_forms kind) s.field.form
    && leb s.field.form (greatest_forms kind)
    && leb (least_width kind s.field.form) s.field.width
    && leb s.field.width (greatest_width kind s.field.form)
    && cond (eqb s.field.form FURTHER) (eqb s.field.width 2 || eqb s.field.width 4 || eqb s.field.width 8) true

-- the field that is open: some of its bytes, not all, are there
unfoldable pub field_range : Kind → State → Bool
field_range kind s =
    shape_fits kind s
    && ltb s.field.have s.field.width
    && cond (eqb s.field.form OPAQUE) (eqb s.field.value 0) (ltb s.field.value (256 ^ s.field.have))

-- ---- where the field lies: `taken - have` bytes stand before the part of it that is open

abbrev pub own : Kind → State → ℕ
own kind s = own_bytes kind s.field.form s.field.width

-- behind so many bytes of other fields at least, and within the limit
abbrev pub lies : Kind → ℕ → State → Bool
lies kind least s =
    leb s.field.have s.taken
    && leb (least + own kind s) (s.taken - s.field.have)
    && leb (s.taken - s.field.have) (limit - s.field.width)

-- and, where nothing of free length was read, behind no more but for the slack
unfoldable pub exact : Kind → ℕ → ℕ → ℕ → State → Bool
exact kind least slack free s = lies kind least s && leb (s.taken - s.field.have) (least + own kind s + slack + limit * free)

-- an input has at least 41 bytes; an amount that is null has 8 less than any other
unfoldable pub among_inputs : Kind → ℕ → ℕ → State → Bool
among_inputs kind before scripts s = exact kind (before - 8 * s.spot.null + size s.counts.inputs + 41 * s.spot.index) 0 (s.spot.index + scripts) s

-- an output has at least 4; assets, values and nonces have 1 to 33 each: what those of the present output can have more is the slack
unfoldable pub among_outputs : Kind → ℕ → ℕ → State → Bool
among_outputs kind before slack s =
    exact kind (before + (size s.counts.inputs + size s.counts.outputs) + 41 * s.counts.inputs + 4 * s.spot.index) slack (s.counts.inputs + s.spot.index) s

-- what all inputs and outputs have with their counts
abbrev pub body : State → ℕ
body s = size s.counts.inputs + size s.counts.outputs + 41 * s.counts.inputs + 4 * s.counts.outputs

-- the greatest value of `empty` with a field of this form: a proof's body shows that the witnesses are not empty
abbrev pub dark : ℕ → ℕ
dark form = cond (eqb form OPAQUE) 0 1

-- an item has at least 1 byte, and shows that the witnesses are not empty; so does a byte of a proof. Items are of stacks that were read; and
-- `empty` is 1 where nothing was read that could show it.
unfoldable pub among_witnesses : Kind → ℕ → ℕ → ℕ → State → Bool
among_witnesses kind least stacks seen s =
    leb s.field.have s.taken
    && leb (least + own kind s + s.counts.items) (s.taken - s.field.have)
    && leb (s.taken - s.field.have) (limit - s.field.width)
    && leb (least + own kind s + (dark s.field.form - s.spot.empty)) (s.taken - s.field.have)
    && leb (s.counts.items + limit * s.spot.empty) limit
    && leb s.counts.items (limit * stacks)
    && leb s.spot.empty (dark s.field.form)
    && leb (dark s.field.form) (s.spot.empty + seen)

-- none of the head's numbers is kept; no record is read, and nothing that later fields need is kept
abbrev pub uncounted : Counts → Bool
uncounted c = eqb c.version 0 && eqb c.flag 0 && eqb c.inputs 0 && eqb c.outputs 0 && eqb c.items 0 && eqb c.locktime 0

abbrev pub at_rest : Spot → Bool
at_rest p = eqb p.index 0 && eqb p.left 0 && eqb p.issuance 0 && eqb p.null 0 && eqb p.empty 0

-- ---- the rows: by the bytes before the field in its own record and in the head, and what else differs

-- stages 0 to 2: nothing of free length was read, so the bytes taken are known
unfoldable pub in_opening : Kind → ℕ → ℕ → ℕ → State → Bool
in_opening kind before version flag s =
    field_range kind s
    && exact kind before 0 0 s
    && leb s.counts.version version
    && leb s.counts.flag flag
    && eqb s.counts.inputs 0
    && eqb s.counts.outputs 0
    && eqb s.counts.items 0
    && eqb s.counts.locktime 0
    && at_rest s.spot

-- stages 3 to 16: there are no witnesses yet
unfoldable pub unwitnessed : State → Bool
unwitnessed s =
    leb s.counts.version 4294967295
    && leb s.counts.flag 255
    && leb s.counts.inputs (input_room s)
    && eqb s.counts.items 0
    && eqb s.counts.locktime 0
    && leb s.spot.index limit
    && eqb s.spot.left 0
    && eqb s.spot.empty 0

-- stages 3 to 10: a field of an input
unfoldable pub input_numbers : Kind → ℕ → ℕ → ℕ → State → Bool
input_numbers kind least greatest null s =
    field_range kind s
    && unwitnessed s
    && eqb s.counts.outputs 0
    && ltb s.spot.index s.counts.inputs
    && leb least s.spot.issuance
    && leb s.spot.issuance greatest
    && leb s.spot.null null

-- by the least and greatest `issuance`, the greatest `null`, and 1 behind the input's script
unfoldable pub in_input : Kind → ℕ → ℕ → ℕ → ℕ → ℕ → State → Bool
in_input kind before least greatest null scripts s = input_numbers kind least greatest null s && among_inputs kind before scripts s

-- stage 11: the inputs' last is read
unfoldable pub inputs_numbers : Kind → State → Bool
inputs_numbers kind s =
    field_range kind s
    && unwitnessed s
    && eqb s.counts.outputs 0
    && eqb s.spot.index s.counts.inputs
    && eqb s.spot.issuance 0
    && eqb s.spot.null 0

unfoldable pub behind_inputs : Kind → ℕ → State → Bool
behind_inputs kind before s = inputs_numbers kind s && among_inputs kind before 0 s

-- stages 12 to 15: a field of an output
unfoldable pub output_numbers : Kind → State → Bool
output_numbers kind s =
    field_range kind s
    && unwitnessed s
    && leb s.counts.inputs limit
    && leb s.counts.outputs (output_room s)
    && ltb s.spot.index s.counts.outputs
    && eqb s.spot.issuance 0
    && eqb s.spot.null 0

unfoldable pub in_output : Kind → ℕ → ℕ → State → Bool
in_output kind before slack s = output_numbers kind s && among_outputs kind before slack s

-- stage 16: the outputs' last is read
unfoldable pub outputs_numbers : Kind → State → Bool
outputs_numbers kind s =
    field_range kind s
    && unwitnessed s
    && leb s.counts.inputs limit
    && leb s.counts.outputs (output_room s)
    && eqb s.spot.index s.counts.outputs
    && eqb s.spot.issuance 0
    && eqb s.spot.null 0

unfoldable pub behind_outputs : Kind → ℕ → State → Bool
behind_outputs kind before s = outputs_numbers kind s && among_outputs kind before 0 s

-- stages 17 to 24: the witnesses
unfoldable pub witness_numbers : Kind → State → Bool
witness_numbers kind s =
    field_range kind s
    && leb s.counts.version 4294967295
    && eqb s.counts.flag 1
    && leb s.counts.inputs (input_room s)
    && leb s.counts.inputs limit
    && leb s.counts.outputs (output_room s)
    && leb s.counts.outputs limit
    && leb s.counts.items (item_room s)
    && leb s.counts.locktime 4294967295
    && eqb s.spot.issuance 0
    && eqb s.spot.null 0
    && leb s.spot.empty 1

-- stages 17 to 19, and 21: a field of an input's witness, which has at least 4 bytes. `stacks` is 1 behind its first stack, `seen` behind its first field.
unfoldable pub input_witness_numbers : Kind → State → Bool
input_witness_numbers kind s = witness_numbers kind s && ltb s.spot.index s.counts.inputs && eqb s.spot.left 0

unfoldable pub in_input_witness : Kind → ℕ → ℕ → ℕ → State → Bool
in_input_witness kind before stacks seen s =
    input_witness_numbers kind s && among_witnesses kind (before + body s + 4 * s.spot.index) (s.spot.index + stacks) (s.spot.index + seen) s

-- stages 20 and 22: an item
unfoldable pub stack_numbers : Kind → State → Bool
stack_numbers kind s =
    witness_numbers kind s
    && ltb s.spot.index s.counts.inputs
    && leb 1 s.spot.left
    && leb s.spot.left (item_room s - s.counts.items)
    && eqb s.spot.empty 0

unfoldable pub in_stack : Kind → ℕ → State → Bool
in_stack kind before s = stack_numbers kind s && lies kind (before + body s + size s.spot.left + 4 * s.spot.index + s.counts.items) s

-- stages 23 and 24: a field of an output's witness, which has at least 2 bytes. `seen` is 1 behind its first field.
unfoldable pub output_witness_numbers : Kind → State → Bool
output_witness_numbers kind s = witness_numbers kind s && ltb s.spot.index s.counts.outputs && eqb s.spot.left 0

unfoldable pub in_output_witness : Kind → ℕ → ℕ → State → Bool
in_output_witness kind before seen s =
    output_witness_numbers kind s
    && among_witnesses kind (before + body s + 4 * s.counts.inputs + 2 * s.spot.index) s.counts.inputs (s.counts.inputs + s.spot.index + seen) s

-- ---- stage 25: finished

unfoldable pub ended_range : State → Bool
ended_range s =
    eqb s.field.form 0
    && eqb s.field.width 0
    && eqb s.field.have 0
    && eqb s.field.value 0
    && leb s.taken limit
    && leb s.counts.version 4294967295
    && leb s.counts.flag 1
    && leb s.counts.inputs (input_room s)
    && leb s.counts.inputs limit
    && leb s.counts.outputs (output_room s)
    && leb s.counts.outputs limit
    && leb s.counts.items limit
    && leb s.counts.locktime 4294967295
    && at_rest s.spot

-- the least number of bytes, with no witnesses; with flag 1 there are witnesses, and not all are empty; with flag 0 there are no items
abbrev pub plain : ℕ → ℕ → ℕ
plain inputs outputs = 9 + size inputs + size outputs + 41 * inputs + 4 * outputs

unfoldable pub whole_fits : ℕ → ℕ → ℕ → ℕ → ℕ → Bool
whole_fits flag inputs outputs items taken =
    leb (plain inputs outputs) taken
    && leb taken (plain inputs outputs + limit * (inputs + outputs))
    && cond (eqb flag 1)
    (leb (plain inputs outputs + 4 * inputs + 2 * outputs + items) taken
    && leb (plain inputs outputs + 4 * inputs + 2 * outputs + 1) taken
    && leb items (limit * inputs)
    && leb 1 (inputs + outputs))
    (eqb items 0)

unfoldable pub whole_range : State → Bool
whole_range s = leb s.counts.items (item_room s) && whole_fits s.counts.flag s.counts.inputs s.counts.outputs s.counts.items s.taken

-- ---- stage 26: refused, `value` the number and `have` the place

-- by number, from 0: how far the place lies before the bytes taken at least and at most; the least and the greatest place
abbrev pub nears : List ℕ
nears = 0 ∷ 0 ∷ 0 ∷ 3 ∷ 1 ∷ 1 ∷ 66 ∷ 7 ∷ 7 ∷ []

abbrev pub fars : List ℕ
fars = 0 ∷ 0 ∷ 9 ∷ 9 ∷ 9 ∷ 1 ∷ 66 ∷ limit ∷ limit ∷ []

abbrev pub least_places : List ℕ
least_places = 0 ∷ 0 ∷ 10 ∷ 5 ∷ 5 ∷ 7 ∷ 47 ∷ 4 ∷ 4 ∷ []

abbrev pub greatest_places : List ℕ
greatest_places = 0 ∷ 3999999 ∷ limit ∷ limit ∷ limit ∷ limit ∷ limit ∷ 4 ∷ 4 ∷ []

unfoldable pub refused_range : State → Bool
refused_range s =
    leb s.taken limit
    && eqb s.field.form 0
    && eqb s.field.width 0
    && leb s.field.have s.taken
    && leb 1 s.field.value
    && leb s.field.value 8
    && uncounted s.counts
    && at_rest s.spot

unfoldable pub placed_fits : ℕ → ℕ → ℕ → Bool
placed_fits number place taken =
    leb (place + get_or nears number 0) taken
    && leb taken (place + get_or fars number 0)
    && leb (get_or least_places number 0) place
    && leb place (get_or greatest_places number 0)

-- ---- one row a stage

abbrev pub row_of : ℕ → State → Bool
row_of stage s =
    cond (eqb stage VERSION) (in_opening Number 0 0 0 s) ▸
    cond (eqb stage FLAG) (in_opening Byte 4 4294967295 0 s) ▸
    cond (eqb stage INPUT_COUNT) (in_opening Count 5 4294967295 255 s) ▸
    cond (eqb stage TXID) (in_input Hidden 5 0 0 0 0 s) ▸
    cond (eqb stage VOUT) (in_input Number 37 0 0 0 0 s) ▸
    cond (eqb stage INPUT_SCRIPT) (in_input Body 41 0 1 0 0 s) ▸
    cond (eqb stage SEQUENCE) (in_input Number 42 0 1 0 1 s) ▸
    cond (eqb stage BLINDING_NONCE) (in_input Hidden 46 1 1 0 1 s) ▸
    cond (eqb stage ENTROPY) (in_input Hidden 78 1 1 0 1 s) ▸
    cond (eqb stage ISSUANCE_AMOUNT) (in_input Amount 110 1 1 0 1 s) ▸
    cond (eqb stage INFLATION_KEYS) (in_input Amount 119 1 1 1 1 s) ▸
    cond (eqb stage OUTPUT_COUNT) (behind_inputs Count 5 s) ▸
    cond (eqb stage ASSET) (in_output Token 5 0 s) ▸
    cond (eqb stage VALUE) (in_output Amount 6 32 s) ▸
    cond (eqb stage NONCE) (in_output Token 7 64 s) ▸
    cond (eqb stage OUTPUT_SCRIPT) (in_output Body 8 96 s) ▸
    cond (eqb stage LOCKTIME) (behind_outputs Number 5 s) ▸
    cond (eqb stage AMOUNT_PROOF) (in_input_witness Body 9 0 0 s) ▸
    cond (eqb stage KEYS_PROOF) (in_input_witness Body 10 0 1 s) ▸
    cond (eqb stage SCRIPT_COUNT) (in_input_witness Count 11 0 1 s) ▸
    cond (eqb stage SCRIPT_ITEM) (in_stack Body 11 s) ▸
    cond (eqb stage PEGIN_COUNT) (in_input_witness Count 12 1 1 s) ▸
    cond (eqb stage PEGIN_ITEM) (in_stack Body 12 s) ▸
    cond (eqb stage SURJECTION_PROOF) (in_output_witness Body 9 0 s) ▸
    cond (eqb stage RANGE_PROOF) (in_output_witness Body 10 1 s) ▸
    cond (eqb stage FINISHED) (ended_range s && whole_range s) ▸
    cond (eqb stage REFUSED) (refused_range s && placed_fits s.field.value s.field.have s.taken) ▸
    false

unfoldable pub in_range : State → Bool
in_range s = row_of s.field.stage s
