-- Document 01's loads, proved of the definitions by computing them. Every number told on a right side was worked out from document 01.
--     loads           its "Loads to try" that are marked (P), one list under one claim
--     load_96 ..      its other loads that can be computed here, with every number of every table
--     all_prefixes    which of the 256 prefixes are listed, for each kind
--     every_feature   one transaction with all that a transaction can have, laid out byte by byte
--     bearing_bytes   which bytes of that one are bearing, and bearing_cut of cut ones
--     edges, limits   loads that pin one rule each: what is refused first, what a table holds so far, where the limits lie
--     locktime_ends, locktime_limit   the locktime at the limit, of whole transactions of 4,000,000 bytes
--     behind_long_lem     positions behind a script of 65,536 bytes; no_sooner, witness_limit, vout_limit: the limit behind an input's script
use Prim.Native.Nat.{ℕ, zero, suc, ◌+◌, ◌-◌, ◌*◌, ◌^◌}
use Prim.Native.Char.{code}
use Prim.Native.String.{String, [] as nothing, ◌∷◌ as ◌then◌}
use mathlib.Core.Path.{◌≡◌, refl, ◌∙◌, ap}
use mathlib.Core.Bool.{Bool, true, false, not, cond}
use mathlib.Core.List.{List, [], ◌∷◌, ◌++◌, map}
use lib.Dec.{ltb, eqb}
use lib.ListN.{length, replicate, drop, get_or}
use Rattle.layout.specs.Number.{little, value}
use Rattle.layout.specs.Layout.{Layout, number, opaque, enter, refuse, Answer, finished, more, refused, accept, input, output, script_body, asset_part, run, Reading, reading, behind, hides}
use Rattle.layout.specs.Transaction.{Head, transaction, entry, asset_prefix, seen, all_ones, flag_bit, vout, flags}
use Rattle.layout.specs.Transaction.{within, further_at, number_at, opaque_at, compact_at, count_at, body_at, value_at, prefixed_at, each}
use Rattle.layout.specs.Transaction.{issuance_at, input_at, output_at, item_at, stack_at, input_witness_at, output_witness_at}
use Rattle.layout.specs.Outcome.{Sizes, Tables, Outcome, zeros, laid, outcome, reading_of, partial, at_once, strict, bears, room_of}
use Rattle.layout.proofs.Reading.{rest, chain, cut}
use Rattle.layout.proofs.Codes.{field_run_lem}

-- ---- Bytes, as document 01 writes them

-- Two hexadecimal digits make a byte; spaces are for the eye. Character 32 is the space, 48 to 57 are 0 to 9, 97 to 102 are a to f.
unfoldable digits : String → List ℕ
digits nothing = []
digits (c then s) =
    let rest = digits s in
    cond (eqb (code c) 32) rest ((code c - cond (ltb (code c) 58) 48 87) ∷ rest)

unfoldable paired : List ℕ → List ℕ
paired [] = []
paired (a ∷ []) = []
paired (a ∷ b ∷ ds) = (16 * a + b) ∷ paired ds

unfoldable pub hex : String → List ℕ
unfolding digits paired
hex s = paired (digits s)

hex_reads : hex "00 09 0a 0f 10 99 a0ff" ≡ 0 ∷ 9 ∷ 10 ∷ 15 ∷ 16 ∷ 153 ∷ 160 ∷ 255 ∷ []
unfolding hex
hex_reads = refl

-- so many bytes that a reading never looks at: any would do
unfoldable pub hidden : ℕ → List ℕ
hidden n = replicate n 0xee

-- so many inputs of 41 bytes, all 0: txid, vout, script length, sequence
inputs0 : ℕ → List ℕ
inputs0 n = replicate (41 * n) 0

-- ---- What is done with the bytes, and what that gives

-- A transaction's outcome; its answer and bytes taken alone, where tables are too large to compute; the same of a piece of the layout,
-- read by itself; a raw vout's vout and flags.
data Given : Type 0 where
  whole : Outcome → Given
  answers : Answer Head → ℕ → Given
  piece : Answer ℕ → ℕ → Given
  split : ℕ → ℕ → Given

record Load : Type 0 where
  found : Given
  told : Given

infix 70 ◌gives◌
abbrev ◌gives◌ : Given → Given → Load
found gives told = record { found = found; told = told }

abbrev AsTold : List Load → Type 0
AsTold ls = map (λ l. l.found) ls ≡ map (λ l. l.told) ls

-- How many numbers the tables hold. `one` is room for one record each.
abbrev pub sizes : ℕ → ℕ → ℕ → Sizes
sizes i o n = record { inputs = i; outputs = o; items = n }

abbrev one : Sizes
one = sizes 20 14 2

-- Read at once; at once and strictly; fed, and not finished.
abbrev once_in : Sizes → List ℕ → Given
once_in z xs = whole (at_once z xs)

abbrev strict_in : Sizes → List ℕ → Given
strict_in z xs = whole (strict z xs)

abbrev fed_in : Sizes → List ℕ → Given
fed_in z xs = whole (partial z xs)

abbrev once : List ℕ → Given
once = once_in one

abbrev strictly : List ℕ → Given
strictly = strict_in one

abbrev fed : List ℕ → Given
fed = fed_in one

abbrev answer_in : Sizes → List ℕ → Given
answer_in z xs = let r = reading_of z xs in answers r.answer r.taken

-- a piece of the layout, read by itself
abbrev alone : Layout ℕ → List ℕ → Given
alone l xs = let r = run l xs in piece r.answer r.taken

-- a count or length that starts at a position
abbrev length_at : ℕ → String → Given
length_at at s = alone (compact_at at λ n _. accept n) (hex s)

abbrev raw : ℕ → Given
raw n = split (vout n) (flags n)

-- Version, flag, three counts, locktime, length in bytes.
abbrev pub head : ℕ → ℕ → ℕ → ℕ → ℕ → ℕ → ℕ → Head
head v f i o n l b = record { version = v; flag = f; inputs = i; outputs = o; items = n; locktime = l; bytes = b }

abbrev pub tables : List ℕ → List ℕ → List ℕ → Tables
tables i o n = record { inputs = i; outputs = o; items = n }

-- numbers, and then 0 up to so many
abbrev up_to : ℕ → List ℕ → List ℕ
up_to n xs = xs ++ replicate (n - length xs) 0

-- Finished: the length in bytes is the bytes taken. More wanted: bytes taken. Refused: number, place, bytes taken, and all tables 0.
abbrev accepts : Head → Tables → Given
accepts h t = whole (record { answer = finished h; taken = h.bytes; tables = t })

abbrev wants : ℕ → Tables → Given
wants n t = whole (record { answer = more; taken = n; tables = t })

abbrev refuses_in : Sizes → ℕ → ℕ → ℕ → Given
refuses_in z n p taken = whole (record { answer = refused n p; taken = taken; tables = zeros z })

abbrev refuses : ℕ → ℕ → ℕ → Given
refuses = refuses_in one

-- The same of a piece: its number and the bytes taken; bytes taken; number, place, bytes taken.
abbrev worth : ℕ → ℕ → Given
worth n taken = piece (finished n) taken

abbrev waits : ℕ → Given
waits taken = piece more taken

abbrev stops : ℕ → ℕ → ℕ → Given
stops n p taken = piece (refused n p) taken

-- Where this is unfolded, readings compute.
unfoldable pub computes : Unit {0}
unfolding hex hidden inputs0 value run laid
    within further_at opaque_at compact_at count_at body_at value_at prefixed_at each all_ones flag_bit vout flags
    issuance_at input_at output_at item_at stack_at input_witness_at output_witness_at transaction
computes = tt

-- ---- 01's loads that are marked (P)

loads : AsTold (
    once (hex "02000000 00 00 00 00000000") gives accepts (head 2 0 0 0 0 0 11) (zeros one) ∷
    -- with flag 01, with flag 02, the first 10 bytes, one byte more
    once (hex "02000000 01 00 00 00000000") gives refuses 8 4 11 ∷
    once (hex "02000000 02 00 00 00000000") gives refuses 7 4 11 ∷
    once (hex "02000000 00 00 00 000000") gives refuses 1 10 10 ∷
    strictly (hex "02000000 00 00 00 00000000 00") gives refuses 9 11 11 ∷
    -- lengths
    length_at 0 "fc" gives worth 252 1 ∷
    length_at 0 "fdfd00" gives worth 253 3 ∷
    length_at 0 "fdfc00" gives stops 3 0 3 ∷
    length_at 0 "fe00000100" gives worth 65536 5 ∷
    length_at 0 "feffff0000" gives stops 3 0 5 ∷
    -- raw vouts: no flag; issuance only
    raw 0xffffffff gives split 0xffffffff 0 ∷
    raw 0xbfffffff gives split 0x3fffffff 2 ∷
    [])
unfolding computes
loads = refl

-- ---- every prefix: which of a byte's 256 values are listed, behind some bytes of an output or an issuance

goes : Answer ℕ → Bool
goes (finished n) = true
goes more = true
goes (refused n p) = false

listed : Layout ℕ → List ℕ → ℕ → ℕ → List ℕ
listed l front zero p = []
listed l front (suc n) p = let rest = listed l front n (suc p) in cond (goes (run l (front ++ (p ∷ []))).answer) (p ∷ rest) rest

abbrev prefixes : Layout ℕ → List ℕ → List ℕ
prefixes l front = listed l front 256 0

all_prefixes : (
    -- an output's asset, value, nonce
    prefixes (output_at 0 0 accept) [] ∷
    prefixes (output_at 0 0 accept) (hex "00") ∷
    prefixes (output_at 0 0 accept) (hex "00 00") ∷
    -- an issuance's amount, and its keys behind an explicit amount and behind a null one, where null is 6
    prefixes (issuance_at 0 0 accept) (hidden 64) ∷
    prefixes (issuance_at 0 0 accept) (hidden 64 ++ hex "01 0000000000000000") ∷
    prefixes (issuance_at 0 0 accept) (hidden 64 ++ hex "00") ∷
    []) ≡
    (0 ∷ 1 ∷ 10 ∷ 11 ∷ []) ∷
    (0 ∷ 1 ∷ 8 ∷ 9 ∷ []) ∷
    (0 ∷ 1 ∷ 2 ∷ 3 ∷ []) ∷
    (0 ∷ 1 ∷ 8 ∷ 9 ∷ []) ∷
    (0 ∷ 1 ∷ 8 ∷ 9 ∷ []) ∷
    (1 ∷ 8 ∷ 9 ∷ []) ∷
    []
unfolding computes goes listed
all_prefixes = refl

-- ---- 01's other loads that can be computed here. Read strictly, where accepted: so no byte is left.

-- One input (txid, vout 0, empty script, sequence 0xfffffffe), one output (asset prefix 1, explicit 400, null nonce, empty script).
abbrev pub one_and_one : String → String → List ℕ
one_and_one flag behind =
    hex "02000000" ++ hex flag ++
    hex "01" ++ hidden 32 ++ hex "00000000 00 feffffff" ++
    hex "01" ++ hex "01" ++ hidden 32 ++ hex "01 0000000000000190 00 00" ++
    hex "00000000" ++ hex behind

load_96 :
    strictly (one_and_one "00" "")
    ≡ accepts (head 2 0 1 1 0 0 96) (tables
    (6 ∷ 0 ∷ 0 ∷ 43 ∷ 0 ∷ 4294967294 ∷ replicate 14 0)
    (1 ∷ 48 ∷ 1 ∷ 81 ∷ 0 ∷ 400 ∷ 0 ∷ 90 ∷ 92 ∷ 0 ∷ 0 ∷ 0 ∷ 0 ∷ 0 ∷ [])
    (0 ∷ 0 ∷ []))
unfolding computes
load_96 = refl

-- The same with flag 1 and seven bytes more:
--      96  00   amount proof's length: position 97, length 0
--      97  00   keys proof's length: position 98, length 0
--      98  01   script count: first item's index 0, script items 1
--      99  00   item's length: position 100, length 0
--     100  00   pegin count: pegin items 0
--     101  00   surjection proof's length: position 102, length 0
--     102  00   range proof's length: position 103, length 0
load_103 :
    strictly (one_and_one "01" "00000100000000")
    ≡ accepts (head 2 1 1 1 1 0 103) (tables
    (6 ∷ 0 ∷ 0 ∷ 43 ∷ 0 ∷ 4294967294 ∷ 0 ∷ 0 ∷ 0 ∷ 0 ∷ 0 ∷ 0 ∷ 0 ∷ 97 ∷ 0 ∷ 98 ∷ 0 ∷ 0 ∷ 1 ∷ 0 ∷ [])
    (1 ∷ 48 ∷ 1 ∷ 81 ∷ 0 ∷ 400 ∷ 0 ∷ 90 ∷ 92 ∷ 0 ∷ 102 ∷ 0 ∷ 103 ∷ 0 ∷ [])
    (100 ∷ 0 ∷ []))
unfolding computes
load_103 = refl

-- Null issuance: nonce at 47, entropy at 79, amount's prefix at 111, keys' prefix at 112, which settles it.
null_issuance_lem : once (hex "02000000 00 01" ++ hidden 32 ++ hex "00000080 00 feffffff" ++ hidden 32 ++ hidden 32 ++ hex "00 00") ≡ refuses 6 47 113
unfolding computes
null_issuance_lem = refl

-- 256 inputs in 256 records: the inputs start at 8, the last one at 8 + 255 × 41 = 10463, with its script at 10463 + 37; the inputs end at
-- 8 + 256 × 41 = 10504, and a count and the locktime follow. An input's numbers are entered in four goes, so the last 4 of 1024
-- are the last record's: row 255, from the column on.
inputs_256 :
    let r = reading_of (sizes 5120 0 0) (hex "02000000 00 fd0001" ++ inputs0 256 ++ hex "00 00000000") in
    reading r.answer r.taken (drop 1020 r.log)
    ≡ reading (finished (head 2 0 256 0 0 0 10509)) 10509 (
    entry input 255 0 (10463 ∷ []) ∷
    entry input 255 1 (0 ∷ 0 ∷ []) ∷
    entry input 255 3 (10500 ∷ 0 ∷ []) ∷
    entry input 255 5 (0 ∷ []) ∷
    [])
unfolding computes
inputs_256 = refl

inputs_257 : once_in (sizes 5120 0 0) (hex "02000000 00 fd0101" ++ inputs0 257 ++ hex "00 00000000") ≡ refuses_in (sizes 5120 0 0) 4 5 8
unfolding computes
inputs_257 = refl

-- ---- Every feature at once

-- Position, bytes (ee: never looked at), field, and what enters the head or the record. Worked out by hand from document 01.
unfoldable pub everything : List ℕ
everything =
    --   0  04030201          version                     head: version 0x01020304 = 16909060
    --   4  01                flag                        head: flag 1
    --   5  03                count                       head: inputs 3
    hex "04030201 01 03" ++
    -- input 0: pegin and issuance; explicit amount, committed keys
    --   6  ee × 32           txid                        txid position 6
    --  38  050000c0          raw vout 0xc0000005         vout 5; flags 3
    --  42  03                script length               script position 43, length 3
    --  43  ee × 3            script
    --  46  fdffffff          sequence                    sequence 0xfffffffd = 4294967293
    --  50  ee × 32           blinding nonce              issuance position 50
    --  82  ee × 32           entropy
    -- 114  01                amount prefix               amount prefix 1
    -- 115  0000010203040506  amount, big-endian          amount high 0x102 = 258, low 0x03040506 = 50595078
    -- 123  08                keys prefix                 keys prefix 8; high 0, low 0
    -- 124  ee × 32           keys commitment
    hidden 32 ++ hex "050000c0 03" ++ hidden 3 ++ hex "fdffffff" ++ hidden 32 ++ hidden 32 ++ hex "01 0000010203040506 08" ++ hidden 32 ++
    -- input 1: raw vout 0xffffffff stays so, with no flag and no issuance; empty script
    -- 156  ee × 32           txid                        txid position 156
    -- 188  ffffffff          raw vout                    vout 4294967295; flags 0
    -- 192  00                script length               script position 193, length 0
    -- 193  01000000          sequence                    sequence 1
    hidden 32 ++ hex "ffffffff 00 01000000" ++
    -- input 2: issuance only; null amount, explicit keys
    -- 197  ee × 32           txid                        txid position 197
    -- 229  ffffffbf          raw vout 0xbfffffff         vout 0x3fffffff = 1073741823; flags 2
    -- 233  02                script length               script position 234, length 2
    -- 234  ee × 2            script
    -- 236  feffffff          sequence                    sequence 0xfffffffe = 4294967294
    -- 240  ee × 32           blinding nonce              issuance position 240
    -- 272  ee × 32           entropy
    -- 304  00                amount prefix               amount prefix 0; high 0, low 0
    -- 305  01                keys prefix                 keys prefix 1
    -- 306  8000000000000001  keys, big-endian            keys high 0x80000000 = 2147483648, low 1
    hidden 32 ++ hex "ffffffbf 02" ++ hidden 2 ++ hex "feffffff" ++ hidden 32 ++ hidden 32 ++ hex "00 01 8000000000000001" ++
    -- 314  04                count                       head: outputs 4
    hex "04" ++
    -- output 0
    -- 315  01                asset prefix                asset prefix 1, its position 315
    -- 316  ee × 32           asset
    -- 348  01                value prefix                value prefix 1, its position 348
    -- 349  0000000100000002  value, big-endian           high 1, low 2
    -- 357  00                nonce prefix                nonce prefix 0, its position 357
    -- 358  00                script length               script position 359, length 0
    hex "01" ++ hidden 32 ++ hex "01 0000000100000002 00 00" ++
    -- output 1
    -- 359  0a                asset prefix                asset prefix 10, its position 359
    -- 360  ee × 32           asset commitment
    -- 392  08                value prefix                value prefix 8, its position 392; high 0, low 0
    -- 393  ee × 32           value commitment
    -- 425  02                nonce prefix                nonce prefix 2, its position 425
    -- 426  ee × 32           nonce
    -- 458  04                script length               script position 459, length 4
    -- 459  ee × 4            script
    hex "0a" ++ hidden 32 ++ hex "08" ++ hidden 32 ++ hex "02" ++ hidden 32 ++ hex "04" ++ hidden 4 ++
    -- output 2
    -- 463  0b                asset prefix                asset prefix 11, its position 463
    -- 464  ee × 32           asset commitment
    -- 496  09                value prefix                value prefix 9, its position 496; high 0, low 0
    -- 497  ee × 32           value commitment
    -- 529  03                nonce prefix                nonce prefix 3, its position 529
    -- 530  ee × 32           nonce
    -- 562  01                script length               script position 563, length 1
    -- 563  ee                script
    hex "0b" ++ hidden 32 ++ hex "09" ++ hidden 32 ++ hex "03" ++ hidden 32 ++ hex "01" ++ hidden 1 ++
    -- output 3
    -- 564  00                asset prefix                asset prefix 0, its position 564
    -- 565  00                value prefix                value prefix 0, its position 565; high 0, low 0
    -- 566  01                nonce prefix                nonce prefix 1, its position 566
    -- 567  ee × 32           nonce
    -- 599  fdfd00            script length 253           script position 602, length 253
    -- 602  ee × 253          script
    hex "00 00 01" ++ hidden 32 ++ hex "fdfd00" ++ hidden 253 ++
    -- 855  0d0c0b0a          locktime                    head: locktime 0x0a0b0c0d = 168496141
    hex "0d0c0b0a" ++
    -- input 0's witness
    -- 859  02                amount proof length         amount proof position 860, length 2
    -- 860  ee × 2            amount proof
    -- 862  01                keys proof length           keys proof position 863, length 1
    -- 863  ee                keys proof
    -- 864  02                script count                first item's index 0; script items 2
    -- 865  03                item length                 item 0: position 866, length 3
    -- 866  ee × 3            item
    -- 869  00                item length                 item 1: position 870, length 0
    -- 870  01                pegin count                 pegin items 1
    -- 871  05                item length                 item 2: position 872, length 5
    -- 872  ee × 5            item
    hex "02" ++ hidden 2 ++ hex "01" ++ hidden 1 ++ hex "02 03" ++ hidden 3 ++ hex "00 01 05" ++ hidden 5 ++
    -- input 1's witness
    -- 877  00                amount proof length         amount proof position 878, length 0
    -- 878  00                keys proof length           keys proof position 879, length 0
    -- 879  00                script count                first item's index 3; script items 0
    -- 880  00                pegin count                 pegin items 0
    hex "00 00 00 00" ++
    -- input 2's witness
    -- 881  00                amount proof length         amount proof position 882, length 0
    -- 882  02                keys proof length           keys proof position 883, length 2
    -- 883  ee × 2            keys proof
    -- 885  01                script count                first item's index 3; script items 1
    -- 886  01                item length                 item 3: position 887, length 1
    -- 887  ee                item
    -- 888  00                pegin count                 pegin items 0; head: items 4
    hex "00 02" ++ hidden 2 ++ hex "01 01" ++ hidden 1 ++ hex "00" ++
    -- output 0's witness
    -- 889  00                surjection proof length     surjection proof position 890, length 0
    -- 890  00                range proof length          range proof position 891, length 0
    hex "00 00" ++
    -- output 1's witness
    -- 891  03                surjection proof length     surjection proof position 892, length 3
    -- 892  ee × 3            surjection proof
    -- 895  02                range proof length          range proof position 896, length 2
    -- 896  ee × 2            range proof
    hex "03" ++ hidden 3 ++ hex "02" ++ hidden 2 ++
    -- output 2's witness
    -- 898  01                surjection proof length     surjection proof position 899, length 1
    -- 899  ee                surjection proof
    -- 900  00                range proof length          range proof position 901, length 0
    hex "01" ++ hidden 1 ++ hex "00" ++
    -- output 3's witness
    -- 901  00                surjection proof length     surjection proof position 902, length 0
    -- 902  04                range proof length          range proof position 903, length 4
    -- 903  ee × 4            range proof
    hex "00 04" ++ hidden 4
    -- 907  the end           head: length in bytes 907

every_feature :
    strict_in (sizes 60 56 8) everything
    ≡ accepts (head 16909060 1 3 4 4 168496141 907) (tables
    -- txid; vout, flags; script; sequence; issuance; amount prefix, high, low; keys prefix, high, low; amount proof; keys proof;
    -- first item's index, script items, pegin items
    (6 ∷ 5 ∷ 3 ∷ 43 ∷ 3 ∷ 4294967293 ∷ 50 ∷ 1 ∷ 258 ∷ 50595078 ∷ 8 ∷ 0 ∷ 0 ∷ 860 ∷ 2 ∷ 863 ∷ 1 ∷ 0 ∷ 2 ∷ 1 ∷
    156 ∷ 4294967295 ∷ 0 ∷ 193 ∷ 0 ∷ 1 ∷ 0 ∷ 0 ∷ 0 ∷ 0 ∷ 0 ∷ 0 ∷ 0 ∷ 878 ∷ 0 ∷ 879 ∷ 0 ∷ 3 ∷ 0 ∷ 0 ∷
    197 ∷ 1073741823 ∷ 2 ∷ 234 ∷ 2 ∷ 4294967294 ∷ 240 ∷ 0 ∷ 0 ∷ 0 ∷ 1 ∷ 2147483648 ∷ 1 ∷ 882 ∷ 0 ∷ 883 ∷ 2 ∷ 3 ∷ 1 ∷ 0 ∷ [])
    -- asset prefix, its position; value prefix, its position, high, low; nonce prefix, its position; script; surjection proof; range proof
    (1 ∷ 315 ∷ 1 ∷ 348 ∷ 1 ∷ 2 ∷ 0 ∷ 357 ∷ 359 ∷ 0 ∷ 890 ∷ 0 ∷ 891 ∷ 0 ∷
    10 ∷ 359 ∷ 8 ∷ 392 ∷ 0 ∷ 0 ∷ 2 ∷ 425 ∷ 459 ∷ 4 ∷ 892 ∷ 3 ∷ 896 ∷ 2 ∷
    11 ∷ 463 ∷ 9 ∷ 496 ∷ 0 ∷ 0 ∷ 3 ∷ 529 ∷ 563 ∷ 1 ∷ 899 ∷ 1 ∷ 901 ∷ 0 ∷
    0 ∷ 564 ∷ 0 ∷ 565 ∷ 0 ∷ 0 ∷ 1 ∷ 566 ∷ 602 ∷ 253 ∷ 902 ∷ 0 ∷ 903 ∷ 4 ∷ [])
    -- items
    (866 ∷ 3 ∷ 870 ∷ 0 ∷ 872 ∷ 5 ∷ 887 ∷ 1 ∷ []))
unfolding computes everything
every_feature = refl

-- Bearing are all of its bytes but those written ee: asked at the first and the last byte of each such part and at their neighbours.
seams : List ℕ
seams =
    5 ∷ 6 ∷ 37 ∷ 38 ∷ 42 ∷ 43 ∷ 45 ∷ 46 ∷ 49 ∷ 50 ∷ 113 ∷ 114 ∷ 123 ∷ 124 ∷ 155 ∷ 156 ∷ 187 ∷ 188 ∷ 196 ∷ 197 ∷ 228 ∷ 229 ∷ 233 ∷ 234 ∷ 235 ∷ 236 ∷
    239 ∷ 240 ∷ 303 ∷ 304 ∷ 315 ∷ 316 ∷ 347 ∷ 348 ∷ 359 ∷ 360 ∷ 391 ∷ 392 ∷ 393 ∷ 424 ∷ 425 ∷ 426 ∷ 457 ∷ 458 ∷ 459 ∷ 462 ∷ 463 ∷ 464 ∷ 495 ∷ 496 ∷
    497 ∷ 528 ∷ 529 ∷ 530 ∷ 561 ∷ 562 ∷ 563 ∷ 564 ∷ 566 ∷ 567 ∷ 598 ∷ 599 ∷ 601 ∷ 602 ∷ 854 ∷ 855 ∷ 859 ∷ 860 ∷ 861 ∷ 862 ∷ 863 ∷ 864 ∷ 865 ∷ 866 ∷
    868 ∷ 869 ∷ 871 ∷ 872 ∷ 876 ∷ 877 ∷ 882 ∷ 883 ∷ 884 ∷ 885 ∷ 886 ∷ 887 ∷ 888 ∷ 891 ∷ 892 ∷ 894 ∷ 895 ∷ 896 ∷ 897 ∷ 898 ∷ 899 ∷ 900 ∷ 902 ∷ 903 ∷
    906 ∷ []

bearing_bytes :
    let xs = everything in
    map (λ i. bears (transaction (room_of (sizes 60 56 8))) xs i) seams ≡ map (λ i. not (eqb (get_or xs i 0) 0xee)) seams
unfolding computes everything seams hides
bearing_bytes = refl

-- Asked at single bytes: bytes of a cut txid aren't bearing, those of a cut vout are, and bytes that aren't taken aren't.
bearing_cut :
    map (bears (transaction (room_of one)) (hex "02000000 00 01" ++ hidden 10)) (5 ∷ 6 ∷ 15 ∷ 16 ∷ [])
    ++ map (bears (transaction (room_of one)) (hex "02000000 00 01" ++ hidden 32 ++ hex "0000")) (37 ∷ 38 ∷ 39 ∷ 40 ∷ [])
    ++ map (bears (transaction (room_of one)) (hex "02000000 02 00 00 00000000 00")) (4 ∷ 10 ∷ 11 ∷ [])
    ≡ true ∷ false ∷ false ∷ false ∷ false ∷ true ∷ true ∷ false ∷ true ∷ true ∷ false ∷ []
unfolding computes hides
bearing_cut = refl

-- ---- Edges: each pins the rule that stands above it

-- One input, from its vout at 38 on: script length at 42.
abbrev spending : String → List ℕ
spending s = hex "02000000 00 01" ++ hidden 32 ++ hex s

-- One input whose issuance starts at 47: blinding nonce at 47, entropy at 79, amount at 111.
abbrev issuing : List ℕ → List ℕ
issuing xs = spending "00000080 00 feffffff" ++ xs

-- One input and one output, all 0, with flag 1: the witnesses start at 56.
abbrev witnessing : String → List ℕ
witnessing s = hex "02000000 01 01" ++ inputs0 1 ++ hex "01 00 00 00 00 00000000" ++ hex s

-- What that gives with 63 bytes: items, the input's last 7 numbers, the output's last 4, the item table.
abbrev witnessed : ℕ → List ℕ → List ℕ → List ℕ → Given
witnessed n i o t =
    accepts (head 2 1 1 1 n 0 63) (tables
    ((6 ∷ 0 ∷ 0 ∷ 43 ∷ 0 ∷ 0 ∷ 0 ∷ 0 ∷ 0 ∷ 0 ∷ 0 ∷ 0 ∷ 0 ∷ []) ++ i)
    ((0 ∷ 48 ∷ 0 ∷ 49 ∷ 0 ∷ 0 ∷ 0 ∷ 50 ∷ 52 ∷ 0 ∷ []) ++ o)
    t)

-- Two inputs, all 0, no output, flag 1: inputs at 6 and 47, the witnesses start at 93. The first has one item, which fills the table.
abbrev two_inputs : String → List ℕ
two_inputs s = hex "02000000 01 02" ++ inputs0 2 ++ hex "00 00000000" ++ hex "00 00 01 00 00" ++ hex s

-- its tables: in the second record stand the numbers from the amount proof on
abbrev two_records : List ℕ → Tables
two_records ns = tables
    ((6 ∷ 0 ∷ 0 ∷ 43 ∷ 0 ∷ 0 ∷ 0 ∷ 0 ∷ 0 ∷ 0 ∷ 0 ∷ 0 ∷ 0 ∷ 94 ∷ 0 ∷ 95 ∷ 0 ∷ 0 ∷ 1 ∷ 0 ∷
    47 ∷ 0 ∷ 0 ∷ 84 ∷ 0 ∷ 0 ∷ 0 ∷ 0 ∷ 0 ∷ 0 ∷ 0 ∷ 0 ∷ 0 ∷ []) ++ up_to 7 ns)
    (up_to 14 [])
    (97 ∷ 0 ∷ [])

-- a record and 19 numbers; no record of 14, and 13 numbers; no record of 2, and 1 number
abbrev surplus : Sizes
surplus = sizes 39 13 1

abbrev surplus_so_far : List ℕ → Tables
surplus_so_far ns = tables (up_to 39 ns) (up_to 13 []) (up_to 1 [])

abbrev input_so_far : List ℕ → Tables
input_so_far ns = tables (up_to 20 ns) (up_to 14 []) (up_to 2 [])

abbrev issuing_so_far : List ℕ → Tables
issuing_so_far ns = input_so_far ((6 ∷ 0 ∷ 2 ∷ 43 ∷ 0 ∷ 4294967294 ∷ []) ++ ns)

abbrev output_so_far : List ℕ → Tables
output_so_far ns = tables (up_to 20 []) (up_to 14 ns) (up_to 2 [])

edges : AsTold (
    -- nothing yet: more is wanted, and at finish 1 at 0
    fed [] gives wants 0 (zeros one) ∷
    once [] gives refuses 1 0 0 ∷
    -- the flag is judged with the locktime's last byte: till then 1, and a fault before it goes first
    once (hex "02000000 02 00 00 000000") gives refuses 1 10 10 ∷
    once (hex "02000000 02 00 01 02") gives refuses 5 7 8 ∷
    once (hex "02000000 ff 00 00 00000000") gives refuses 7 4 11 ∷
    -- 7 and 8 take no byte behind the locktime, and 9 is added to an accepted reading only
    strictly (hex "02000000 02 00 00 00000000 00") gives refuses 7 4 11 ∷
    strictly (hex "02000000 01 00 00 00000000 00") gives refuses 8 4 11 ∷
    -- without the strict form, bytes that follow are left
    once (hex "02000000 00 00 00 00000000 00") gives accepts (head 2 0 0 0 0 0 11) (zeros one) ∷
    -- 9 sets the tables to 0 too: the 96-byte load and one byte more
    strictly (one_and_one "00" "00") gives refuses 9 96 96 ∷
    -- a count: 3 goes before 4, and both wait for its last byte
    once (hex "02000000 00 fdfc00") gives refuses 3 5 8 ∷
    once (hex "02000000 00 fdfd00") gives refuses 4 5 8 ∷
    fed (hex "02000000 00 fdfc") gives wants 7 (zeros one) ∷
    -- a length: 3 goes before the body's 2; huge lengths: the sum doesn't wrap at 2^64 (51 + 2^64 - 51) nor at 2^32 (47 + 2^32 - 47)
    once (spending "00000000 ffffffffff00000000") gives refuses 3 42 51 ∷
    once (spending "00000000 ffffffffffffffffff") gives refuses 2 42 51 ∷
    once (spending "00000000 ffcdffffffffffffff") gives refuses 2 42 51 ∷
    once (spending "00000000 fed1ffffff") gives refuses 2 42 47 ∷
    -- a script that ends at 3,999,997, so that the sequence can't fit: while its body is wanted, its position and length stand in the table all the same
    fed (spending "00000000 fece083d00") gives wants 47 (tables (up_to 20 (6 ∷ 0 ∷ 0 ∷ 47 ∷ 3999950 ∷ [])) (replicate 14 0) (replicate 2 0)) ∷
    -- shortest form, one below and at 253, 65,536 and 2^32
    length_at 0 "fdfc00" gives stops 3 0 3 ∷
    length_at 0 "fdfd00" gives worth 253 3 ∷
    length_at 0 "fdffff" gives worth 65535 3 ∷
    length_at 0 "feffff0000" gives stops 3 0 5 ∷
    length_at 0 "fe00000100" gives worth 65536 5 ∷
    length_at 0 "feffffffff" gives worth 4294967295 5 ∷
    length_at 0 "ffffffffff00000000" gives stops 3 0 9 ∷
    length_at 0 "ff0000000001000000" gives worth 4294967296 9 ∷
    length_at 0 "ffffffffffffffffff" gives worth 18446744073709551615 9 ∷
    length_at 0 "ff00000000010000" gives waits 8 ∷
    -- prefixes that aren't listed: asset at 7, value at 8, nonce at 9; an issuance's amount at 111, keys at 112
    once (hex "02000000 00 00 01 02") gives refuses 5 7 8 ∷
    once (hex "02000000 00 00 01 09") gives refuses 5 7 8 ∷
    once (hex "02000000 00 00 01 0c") gives refuses 5 7 8 ∷
    once (hex "02000000 00 00 01 00 02") gives refuses 5 8 9 ∷
    once (hex "02000000 00 00 01 00 07") gives refuses 5 8 9 ∷
    once (hex "02000000 00 00 01 00 0a") gives refuses 5 8 9 ∷
    once (hex "02000000 00 00 01 00 00 04") gives refuses 5 9 10 ∷
    once (hex "02000000 00 00 01 00 00 0a") gives refuses 5 9 10 ∷
    once (issuing (hidden 64 ++ hex "03")) gives refuses 5 111 112 ∷
    once (issuing (hidden 64 ++ hex "00 03")) gives refuses 5 112 113 ∷
    -- raw vouts: each flag alone, and the 30 bits that stay
    raw 0x3fffffff gives split 0x3fffffff 0 ∷
    raw 0x40000000 gives split 0 1 ∷
    raw 0x80000000 gives split 0 2 ∷
    raw 0xc0000000 gives split 0 3 ∷
    raw 0xfffffffe gives split 0x3ffffffe 3 ∷
    -- the pegin flag alone brings no issuance
    once (spending "01000040 00 00000000 00 00000000") gives accepts (head 2 0 1 0 0 0 52) (input_so_far (6 ∷ 1 ∷ 1 ∷ 43 ∷ [])) ∷
    -- a table holds whole records: 20, 39 and 40 numbers are 1, 1 and 2; surplus numbers stay 0
    fed (hex "02000000 00 01") gives wants 6 (zeros one) ∷
    once (hex "02000000 00 02") gives refuses 4 5 6 ∷
    once_in (sizes 19 14 2) (hex "02000000 00 01") gives refuses_in (sizes 19 14 2) 4 5 6 ∷
    once_in (sizes 39 14 2) (hex "02000000 00 02") gives refuses_in (sizes 39 14 2) 4 5 6 ∷
    fed_in (sizes 40 14 2) (hex "02000000 00 02") gives wants 6 (zeros (sizes 40 14 2)) ∷
    once_in surplus (spending "00000000 00 00000000 00 00000000") gives accepts (head 2 0 1 0 0 0 52) (surplus_so_far (6 ∷ 0 ∷ 0 ∷ 43 ∷ [])) ∷
    fed (hex "02000000 00 00 01") gives wants 7 (zeros one) ∷
    once (hex "02000000 00 00 02") gives refuses 4 6 7 ∷
    once_in (sizes 20 27 2) (hex "02000000 00 00 02") gives refuses_in (sizes 20 27 2) 4 6 7 ∷
    once_in (sizes 0 0 0) (hex "02000000 00 00 00 00000000") gives accepts (head 2 0 0 0 0 0 11) (tables [] [] []) ∷
    -- a count that fits its table is accepted, though so many inputs can't fit 4,000,000 bytes
    answer_in (sizes 4000000 0 0) (hex "02000000 00 fe400d0300") gives answers more 10 ∷
    -- a stack count is a u32: the item table counts as at most 4,294,967,295 records (01 is silent)
    answer_in (sizes 20 14 (2 ^ 34)) (witnessing "00 00 feffffffff") gives answers more 63 ∷
    answer_in (sizes 20 14 (2 ^ 34)) (witnessing "00 00 ff0000000001000000") gives answers (refused 4 58) 67 ∷
    -- items: one record for both stacks of all inputs
    once (witnessing "00 00 02") gives refuses 4 58 59 ∷
    once (witnessing "00 00 00 02") gives refuses 4 59 60 ∷
    once (witnessing "00 00 01 00 01") gives refuses 4 60 61 ∷
    once_in (sizes 40 14 2) (two_inputs "00 00 01") gives refuses_in (sizes 40 14 2) 4 100 101 ∷
    once_in (sizes 20 14 3) (witnessing "00 00 02") gives refuses_in (sizes 20 14 3) 4 58 59 ∷
    -- witnesses are empty only together: any one proof, or any one item, even of length 0, is enough
    once (witnessing "00 00 00 00  00 00") gives refuses 8 4 62 ∷
    once (witnessing "01 ee 00 00 00  00 00") gives witnessed 0 (57 ∷ 1 ∷ 59 ∷ 0 ∷ 0 ∷ 0 ∷ 0 ∷ []) (62 ∷ 0 ∷ 63 ∷ 0 ∷ []) (0 ∷ 0 ∷ []) ∷
    once (witnessing "00 01 ee 00 00  00 00") gives witnessed 0 (57 ∷ 0 ∷ 58 ∷ 1 ∷ 0 ∷ 0 ∷ 0 ∷ []) (62 ∷ 0 ∷ 63 ∷ 0 ∷ []) (0 ∷ 0 ∷ []) ∷
    once (witnessing "00 00 01 00 00  00 00") gives witnessed 1 (57 ∷ 0 ∷ 58 ∷ 0 ∷ 0 ∷ 1 ∷ 0 ∷ []) (62 ∷ 0 ∷ 63 ∷ 0 ∷ []) (60 ∷ 0 ∷ []) ∷
    once (witnessing "00 00 00 01 00  00 00") gives witnessed 1 (57 ∷ 0 ∷ 58 ∷ 0 ∷ 0 ∷ 0 ∷ 1 ∷ []) (62 ∷ 0 ∷ 63 ∷ 0 ∷ []) (61 ∷ 0 ∷ []) ∷
    once (witnessing "00 00 00 00  01 ee 00") gives witnessed 0 (57 ∷ 0 ∷ 58 ∷ 0 ∷ 0 ∷ 0 ∷ 0 ∷ []) (61 ∷ 1 ∷ 63 ∷ 0 ∷ []) (0 ∷ 0 ∷ []) ∷
    once (witnessing "00 00 00 00  00 01 ee") gives witnessed 0 (57 ∷ 0 ∷ 58 ∷ 0 ∷ 0 ∷ 0 ∷ 0 ∷ []) (61 ∷ 0 ∷ 62 ∷ 1 ∷ []) (0 ∷ 0 ∷ []) ∷
    -- amounts are big-endian
    fed (hex "02000000 00 00 01 00 01 0102030405060708") gives wants 17 (output_so_far (0 ∷ 7 ∷ 1 ∷ 8 ∷ 0x01020304 ∷ 0x05060708 ∷ [])) ∷
    -- a prefix is entered by itself, an explicit amount's halves both with its eighth byte; 1 at finish sets them to 0
    fed (hex "02000000 00 00 01 00 01 00000001000001") gives wants 16 (output_so_far (0 ∷ 7 ∷ 1 ∷ 8 ∷ [])) ∷
    once (hex "02000000 00 00 01 00 01 00000001000001") gives refuses 1 16 16 ∷
    fed (hex "02000000 00 00 01 00 01 0000000100000102") gives wants 17 (output_so_far (0 ∷ 7 ∷ 1 ∷ 8 ∷ 1 ∷ 258 ∷ [])) ∷
    -- numbers enter with their field's last byte: txid; vout and flags; of a script both with the length; sequence
    fed (hex "02000000 00 01" ++ hidden 31) gives wants 37 (input_so_far []) ∷
    fed (spending "070000") gives wants 41 (input_so_far (6 ∷ [])) ∷
    fed (spending "07000080") gives wants 42 (input_so_far (6 ∷ 7 ∷ 2 ∷ [])) ∷
    fed (spending "07000080 05") gives wants 43 (input_so_far (6 ∷ 7 ∷ 2 ∷ 43 ∷ 5 ∷ [])) ∷
    fed (spending "07000080 fdfd") gives wants 44 (input_so_far (6 ∷ 7 ∷ 2 ∷ [])) ∷
    fed (issuing []) gives wants 47 (issuing_so_far []) ∷
    -- the issuance position enters with the blinding nonce; its values as an output's
    fed (issuing (hidden 31)) gives wants 78 (issuing_so_far []) ∷
    fed (issuing (hidden 32)) gives wants 79 (issuing_so_far (47 ∷ [])) ∷
    fed (issuing (hidden 64 ++ hex "01 00000001000001")) gives wants 119 (issuing_so_far (47 ∷ 1 ∷ [])) ∷
    fed (issuing (hidden 64 ++ hex "01 0000000100000102 09")) gives wants 121 (issuing_so_far (47 ∷ 1 ∷ 1 ∷ 258 ∷ 9 ∷ [])) ∷
    fed (issuing (hidden 64 ++ hex "09" ++ hidden 32 ++ hex "00")) gives wants 145 (issuing_so_far (47 ∷ 9 ∷ [])) ∷
    -- the first item's index is the sum of earlier items, also of an input without items; it enters with the script count
    fed_in (sizes 40 14 2) (two_inputs "00 00") gives wants 100 (two_records (99 ∷ 0 ∷ 100 ∷ 0 ∷ [])) ∷
    fed_in (sizes 40 14 2) (two_inputs "00 00 00") gives wants 101 (two_records (99 ∷ 0 ∷ 100 ∷ 0 ∷ 1 ∷ 0 ∷ [])) ∷
    once_in (sizes 40 14 2) (two_inputs "00 00 00 00") gives accepts (head 2 1 2 0 1 0 102) (two_records (99 ∷ 0 ∷ 100 ∷ 0 ∷ 1 ∷ 0 ∷ 0 ∷ [])) ∷
    [])
unfolding computes
edges = refl

-- ---- The limit of 4,000,000 bytes. So many bytes can't be computed here, so pieces start near it.

-- A number of 4 bytes; a body, which gives its length; a value, which gives its prefix; others give the position behind them.
abbrev field_at : ℕ → List ℕ → Given
field_at at xs = alone (number_at at little 4 λ n _. accept n) xs

abbrev script_at : ℕ → List ℕ → Given
script_at at xs = alone (body_at at script_body (λ p n. entry input 0 3 (p ∷ n ∷ [])) λ n _. accept n) xs

abbrev amount_at : ℕ → List ℕ → Given
amount_at at xs = alone (value_at at (λ p _. entry input 0 7 (p ∷ [])) (λ high low. entry input 0 8 (high ∷ low ∷ [])) λ p _. accept p) xs

abbrev asset_at : ℕ → List ℕ → Given
asset_at at xs = alone (prefixed_at at asset_part asset_prefix (λ p q. entry output 0 0 (p ∷ q ∷ [])) λ end. accept end) xs

abbrev one_input_at : ℕ → List ℕ → Given
one_input_at at xs = alone (input_at 0 at accept) xs

abbrev one_output_at : ℕ → List ℕ → Given
one_output_at at xs = alone (output_at 0 at accept) xs

-- the witness of an input, and of an output
abbrev spent_at : ℕ → List ℕ → Given
spent_at at xs = alone (input_witness_at 0 0 (seen 0 true) at λ _ end. accept end) xs

abbrev paid_at : ℕ → List ℕ → Given
paid_at at xs = alone (output_witness_at 0 (seen 0 true) at λ _ end. accept end) xs

-- a script stack with so many item records left
abbrev items_at : ℕ → ℕ → List ℕ → Given
items_at left at xs = alone (stack_at left 0 at (λ n. entry input 0 17 (0 ∷ n ∷ [])) λ _ end. accept end) xs

-- an issuance, and behind it a field of 1 byte
abbrev issuance_then_at : ℕ → List ℕ → Given
issuance_then_at at xs = alone (issuance_at 0 at λ end. number_at end little 1 λ n _. accept n) xs

limits : AsTold (
    -- a field that ends at 4,000,000 passes; one past it, 2 at its start, before any byte of it
    field_at 3999996 (hex "07000000") gives worth 7 4 ∷
    field_at 3999997 (hex "07000000") gives stops 2 3999997 0 ∷
    field_at 3999997 [] gives stops 2 3999997 0 ∷
    -- a body's place is its length's start; 3 goes before the body's 2
    script_at 3999990 (hex "09" ++ hidden 9) gives worth 9 10 ∷
    script_at 3999990 (hex "0a" ++ hidden 10) gives stops 2 3999990 1 ∷
    script_at 3999999 (hex "00") gives worth 0 1 ∷
    script_at 3999999 (hex "01") gives stops 2 3999999 1 ∷
    script_at 3999997 (hex "fdfd00") gives stops 2 3999997 3 ∷
    script_at 3999997 (hex "fdfc00") gives stops 3 3999997 3 ∷
    -- a count's first byte is a field, then its further bytes, which are placed at the count's start and go before 3
    length_at 3999999 "fc" gives worth 252 1 ∷
    length_at 4000000 "fc" gives stops 2 4000000 0 ∷
    length_at 3999997 "fdfd00" gives worth 253 3 ∷
    length_at 3999998 "fdfc00" gives stops 2 3999998 1 ∷
    length_at 3999995 "fe00000100" gives worth 65536 5 ∷
    length_at 3999996 "fe00000000" gives stops 2 3999996 1 ∷
    length_at 3999991 "ff0000000001000000" gives worth 4294967296 9 ∷
    length_at 3999992 "ff0000000000000000" gives stops 2 3999992 1 ∷
    -- a prefix is a field of its own, so what follows it has its own place; 5 goes before that
    amount_at 3999991 (hex "01 0000000000000007") gives worth 1 9 ∷
    amount_at 3999992 (hex "01 0000000000000007") gives stops 2 3999993 1 ∷
    amount_at 3999967 (hex "08" ++ hidden 32) gives worth 8 33 ∷
    amount_at 3999968 (hex "09" ++ hidden 32) gives stops 2 3999969 1 ∷
    amount_at 3999999 (hex "00") gives worth 0 1 ∷
    amount_at 3999999 (hex "02") gives stops 5 3999999 1 ∷
    amount_at 4000000 (hex "02") gives stops 2 4000000 0 ∷
    asset_at 3999967 (hex "0b" ++ hidden 32) gives worth 4000000 33 ∷
    asset_at 3999968 (hex "0b" ++ hidden 32) gives stops 2 3999969 1 ∷
    asset_at 3999999 (hex "02") gives stops 5 3999999 1 ∷
    -- an input's fields have their own places: txid, vout, sequence
    one_input_at 3999959 (inputs0 1) gives worth 4000000 41 ∷
    one_input_at 3999960 (inputs0 1) gives stops 2 3999997 37 ∷
    one_input_at 3999966 (inputs0 1) gives stops 2 3999998 32 ∷
    one_input_at 3999969 (inputs0 1) gives stops 2 3999969 0 ∷
    -- and so have an output's, and a witness's
    one_output_at 3999996 (hex "00 00 00 00") gives worth 4000000 4 ∷
    one_output_at 3999997 (hex "00 00 00 00") gives stops 2 4000000 3 ∷
    one_output_at 3999998 (hex "00 00 00 00") gives stops 2 4000000 2 ∷
    one_output_at 3999965 (hex "00 00 03" ++ hidden 32 ++ hex "00") gives stops 2 4000000 35 ∷
    one_output_at 3999966 (hex "00 00 03" ++ hidden 32 ++ hex "00") gives stops 2 3999969 3 ∷
    spent_at 3999996 (hex "00 00 00 00") gives worth 4000000 4 ∷
    spent_at 3999997 (hex "00 00 00 00") gives stops 2 4000000 3 ∷
    spent_at 3999998 (hex "00 02 00 00") gives stops 2 3999999 2 ∷
    paid_at 3999998 (hex "00 00") gives worth 4000000 2 ∷
    paid_at 3999999 (hex "00 00") gives stops 2 4000000 1 ∷
    -- 4 goes before 2 of what follows the count
    items_at 0 3999999 (hex "00") gives worth 4000000 1 ∷
    items_at 0 3999999 (hex "01") gives stops 4 3999999 1 ∷
    items_at 1 3999999 (hex "01") gives stops 2 4000000 1 ∷
    -- blinding nonce and entropy have their own places; 6 goes before 2 of what follows; an explicit 0 isn't null
    issuance_then_at 3999969 (hidden 64) gives stops 2 3999969 0 ∷
    issuance_then_at 3999968 (hidden 64) gives stops 2 4000000 32 ∷
    issuance_then_at 3999934 (hidden 64 ++ hex "00 00") gives stops 6 3999934 66 ∷
    issuance_then_at 3999926 (hidden 64 ++ hex "01 0000000000000000 00") gives stops 2 4000000 74 ∷
    issuance_then_at 3999925 (hidden 64 ++ hex "01 0000000000000000 00 07") gives worth 7 75 ∷
    [])
unfolding computes
limits = refl

-- The locktime stands behind the outputs: one output, and so long a script, whatever its bytes. The output's three prefixes are at 7 to 9,
-- the script's length at 10, the script at 15; the locktime at 3,999,996 ends at the limit, at 3,999,997 it would end past it.
abbrev to_script : String → List ℕ
to_script long = hex "02000000 00 00 01 00 00 00" ++ hex long

scripted : (w : ℕ) (l : Layout Head) (script ys : List ℕ) → length script ≡ w → run (opaque script_body w l) (script ++ ys) ≡ behind w (run l ys)
unfolding run
scripted w l script ys e = field_run_lem w (λ _. l) script ys e

locktime_ends : (script : List ℕ) → length script ≡ 3999981 → answer_in one (to_script "feed083d00" ++ (script ++ hex "07000000")) ≡ answers (finished (head 2 0 0 1 0 7 4000000)) 4000000
unfolding computes rest
locktime_ends script e =
    ap (λ (r : Reading Head). answers r.answer r.taken)
    (cut (transaction (room_of one)) (to_script "feed083d00") (script ++ hex "07000000")
    ∙ ap (chain (reading_of one (to_script "feed083d00"))) (scripted 3999981 (number little 4 λ n. accept (head 2 0 0 1 0 n 4000000)) script (hex "07000000") e))

locktime_limit : (script ys : List ℕ) → length script ≡ 3999982 → answer_in one (to_script "feee083d00" ++ (script ++ ys)) ≡ answers (refused 2 3999997) 3999997
unfolding computes rest
locktime_limit script ys e =
    ap (λ (r : Reading Head). answers r.answer r.taken)
    (cut (transaction (room_of one)) (to_script "feee083d00") (script ++ ys)
    ∙ ap (chain (reading_of one (to_script "feee083d00"))) (scripted 3999982 (refuse 2 3999997) script ys e))

-- Behind a script of 65,536 bytes, whatever they are: positions of null prefixes, empty bodies and an empty item go on counting from the
-- transaction's first byte. The script stands at 47, the sequence at 65,583, the output at 65,588, the witnesses at 65,596.
abbrev to_long : List ℕ
to_long = hex "02000000 01 01" ++ hidden 32 ++ hex "00000000 fe00000100"

abbrev behind_long : List ℕ
behind_long = hex "ffffffff 01 00 00 00 00 00000000 00 00 01 00 00 00 00"

abbrev past_body : Layout Head → Layout Head
past_body (opaque h w l) = l
past_body (number o w k) = refuse 0 0
past_body (enter e l) = refuse 0 0
past_body (refuse n p) = refuse n p
past_body (accept h) = refuse 0 0

behind_long_lem : (script : List ℕ) → length script ≡ 65536 → partial one (to_long ++ (script ++ behind_long)) ≡ record { answer = finished (head 2 1 1 1 1 0 65603); taken = 65603; tables = record { inputs = 6 ∷ 0 ∷ 0 ∷ 47 ∷ 65536 ∷ 4294967295 ∷ 0 ∷ 0 ∷ 0 ∷ 0 ∷ 0 ∷ 0 ∷ 0 ∷ 65597 ∷ 0 ∷ 65598 ∷ 0 ∷ 0 ∷ 1 ∷ 0 ∷ []; outputs = 0 ∷ 65588 ∷ 0 ∷ 65589 ∷ 0 ∷ 0 ∷ 0 ∷ 65590 ∷ 65592 ∷ 0 ∷ 65602 ∷ 0 ∷ 65603 ∷ 0 ∷ []; items = 65600 ∷ 0 ∷ [] } }
unfolding computes rest
behind_long_lem script e =
    ap (outcome one)
    (cut (transaction (room_of one)) to_long (script ++ behind_long)
    ∙ ap (chain (reading_of one to_long)) (scripted 65536 (past_body (rest (transaction (room_of one)) to_long)) script behind_long e))

-- The limit behind an input's script, whatever its bytes: with no outputs, the locktime is refused at its own start, 3,999,997, and not sooner, at
-- the count before it; and where it ends at 4,000,000 the first witness is refused, at its length's start.
abbrev to_input : String → String → List ℕ
to_input flag long = hex "02000000" ++ hex flag ++ hex "01" ++ hidden 32 ++ hex "00000000 fe" ++ hex long

no_sooner : (script : List ℕ) → length script ≡ 3999945 → answer_in one (to_input "00" "c9083d00" ++ (script ++ hex "ffffffff 00")) ≡ answers (refused 2 3999997) 3999997
unfolding computes rest
no_sooner script e =
    ap (λ (r : Reading Head). answers r.answer r.taken)
    (cut (transaction (room_of one)) (to_input "00" "c9083d00") (script ++ hex "ffffffff 00")
    ∙ ap (chain (reading_of one (to_input "00" "c9083d00"))) (scripted 3999945 (past_body (rest (transaction (room_of one)) (to_input "00" "c9083d00"))) script (hex "ffffffff 00") e))

witness_limit : (script : List ℕ) → length script ≡ 3999944 → answer_in one (to_input "01" "c8083d00" ++ (script ++ hex "ffffffff 00 00000000")) ≡ answers (refused 2 4000000) 4000000
unfolding computes rest
witness_limit script e =
    ap (λ (r : Reading Head). answers r.answer r.taken)
    (cut (transaction (room_of one)) (to_input "01" "c8083d00") (script ++ hex "ffffffff 00 00000000")
    ∙ ap (chain (reading_of one (to_input "01" "c8083d00"))) (scripted 3999944 (past_body (rest (transaction (room_of one)) (to_input "01" "c8083d00"))) script (hex "ffffffff 00 00000000") e))

-- A second input whose vout stands at 3,999,993: refused at its sequence's start, and not sooner, at its vout.
abbrev to_first : List ℕ
to_first = hex "02000000 00 02" ++ hidden 32 ++ hex "00000000 fea6083d00"

abbrev to_sequence : List ℕ
to_sequence = hex "ffffffff" ++ hidden 32 ++ hex "00000000 00"

vout_limit : (script : List ℕ) → length script ≡ 3999910 → answer_in (sizes 40 14 2) (to_first ++ (script ++ to_sequence)) ≡ answers (refused 2 3999998) 3999998
unfolding computes rest
vout_limit script e =
    ap (λ (r : Reading Head). answers r.answer r.taken)
    (cut (transaction (room_of (sizes 40 14 2))) to_first (script ++ to_sequence)
    ∙ ap (chain (reading_of (sizes 40 14 2) to_first)) (scripted 3999910 (past_body (rest (transaction (room_of (sizes 40 14 2))) to_first)) script to_sequence e))
