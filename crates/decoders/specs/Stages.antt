-- What is read now, as the state's `field.stage` tells it, in the layout's order; then the two ends.
use Rattle.std.specs.Prelude.{ℕ}

abbrev pub VERSION : ℕ
VERSION = 0

abbrev pub FLAG : ℕ
FLAG = 1

abbrev pub INPUT_COUNT : ℕ
INPUT_COUNT = 2

abbrev pub TXID : ℕ
TXID = 3

abbrev pub VOUT : ℕ
VOUT = 4

abbrev pub INPUT_SCRIPT : ℕ
INPUT_SCRIPT = 5

abbrev pub SEQUENCE : ℕ
SEQUENCE = 6

abbrev pub BLINDING_NONCE : ℕ
BLINDING_NONCE = 7

abbrev pub ENTROPY : ℕ
ENTROPY = 8

abbrev pub ISSUANCE_AMOUNT : ℕ
ISSUANCE_AMOUNT = 9

abbrev pub INFLATION_KEYS : ℕ
INFLATION_KEYS = 10

abbrev pub OUTPUT_COUNT : ℕ
OUTPUT_COUNT = 11

abbrev pub ASSET : ℕ
ASSET = 12

abbrev pub VALUE : ℕ
VALUE = 13

abbrev pub NONCE : ℕ
NONCE = 14

abbrev pub OUTPUT_SCRIPT : ℕ
OUTPUT_SCRIPT = 15

abbrev pub LOCKTIME : ℕ
LOCKTIME = 16

abbrev pub AMOUNT_PROOF : ℕ
AMOUNT_PROOF = 17

abbrev pub KEYS_PROOF : ℕ
KEYS_PROOF = 18

abbrev pub SCRIPT_COUNT : ℕ
SCRIPT_COUNT = 19

abbrev pub SCRIPT_ITEM : ℕ
SCRIPT_ITEM = 20

abbrev pub PEGIN_COUNT : ℕ
PEGIN_COUNT = 21

abbrev pub PEGIN_ITEM : ℕ
PEGIN_ITEM = 22

abbrev pub SURJECTION_PROOF : ℕ
SURJECTION_PROOF = 23

abbrev pub RANGE_PROOF : ℕ
RANGE_PROOF = 24

abbrev pub FINISHED : ℕ
FINISHED = 25

abbrev pub REFUSED : ℕ
REFUSED = 26
