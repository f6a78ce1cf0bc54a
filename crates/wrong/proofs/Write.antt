-- write, written_length, is_fee: wrong writers. What one leaves is said as the promise says it: 01's verdict of its answer, and the output.
use Prim.Native.Nat.{ℕ, ◌+◌, ◌%◌, ◌^◌, suc}
use mathlib.Core.Path.{◌≡◌, refl, sym, ◌∙◌, ap}
use mathlib.Core.Bool.{Bool, true, false, cond, not}
use mathlib.Core.List.{List, [], ◌∷◌, ◌++◌, map}
use lib.Dec.{leb, eqb}
use lib.ListN.{length, replicate, get_or, take, drop, set}
use Rattle.layout.specs.Number.{bytes_of, value}
use Rattle.layout.specs.Transaction.{Head}
use Rattle.layout.specs.Outcome.{Tables}
use Rattle.layout.specs.Contents.{compact_bytes, flat, body_bytes, list_bytes, value_bytes, token_bytes, issuance_bytes, input_bytes, output_bytes, input_witness_bytes, output_witness_bytes, witnesses_bytes, contents_bytes, confused, all}
use Rattle.layout.specs.Records.{sum}
use Rattle.layout.specs.Writing.{records, body, value_of, token_of, input_of, output_of, item_of, input_witness_of, output_witness_of, contents_of, value_rule, zeros₇, issuance_rule, input_witness_rule, input_rule, token_rule, output_witness_rule, output_rule, item_rule, input_fault, input_faults, rule_faults, table_faults, faults, over, written_bytes, Verdict, wrote, unwritten, verdict_number, verdict_length, Written, written_length, writing, is_fee}
use Rattle.wrong.proofs.Loads.{apart}

-- Where this is unfolded, writing computes.
unfoldable pub writes : Unit {0}
unfolding value bytes_of compact_bytes flat body_bytes list_bytes value_bytes token_bytes issuance_bytes input_bytes output_bytes input_witness_bytes output_witness_bytes
    witnesses_bytes contents_bytes confused all sum records body value_of token_of input_of output_of item_of input_witness_of output_witness_of contents_of
    value_rule zeros₇ issuance_rule input_witness_rule input_rule token_rule output_witness_rule output_rule item_rule input_fault input_faults rule_faults
    table_faults faults over written_length writing
writes = tt

-- One input: its txid at 0, pegin flag, vout 5, script and sequence empty. Written it has 52 bytes; the raw vout 0x40000005 stands at 38.
abbrev tables : List ℕ → Tables
tables i = record { inputs = i; outputs = []; items = [] }

abbrev head : ℕ → Head
head flag = record { version = 2; flag = flag; inputs = 1; outputs = 0; items = 0; locktime = 0; bytes = 0 }

abbrev pub pegin : Tables
pegin = tables (0 ∷ 5 ∷ 1 ∷ replicate 17 0)

-- flags 4: 13 at 0
abbrev pub bad : Tables
bad = tables (0 ∷ 5 ∷ 4 ∷ replicate 17 0)

abbrev pub source : List ℕ
source = replicate 32 0xee

abbrev pub marked : ℕ → List ℕ
marked n = replicate n 7

abbrev Program : Type 0
Program = Head → Tables → List ℕ → List ℕ → Written

abbrev promised : Program
promised h t s o = writing h t s o

abbrev leaves : Verdict → List ℕ → Written
leaves v o = record { answer = v; output = o }

abbrev Wrong : Program → Tables → ℕ → Type 0
Wrong p t n = p (head 0) t source (marked n) ≡ promised (head 0) t source (marked n) → ⊥

abbrev number : Written → ℕ
number o = verdict_number o.answer

abbrev long : Written → ℕ
long o = verdict_length o.answer

abbrev byte : ℕ → Written → ℕ
byte i o = get_or o.output i 0

-- ---- write

-- does nothing, and says that it wrote nothing
abbrev idle : Program
idle h t s o = leaves (wrote 0) o

pub idle_wrong : Wrong idle pegin 60
unfolding writes
idle_wrong = apart long 0 52 refl refl refl

-- says the right length and writes nothing
abbrev silent : Program
silent h t s o = leaves (promised h t s o).answer o

pub silent_wrong : Wrong silent pegin 60
unfolding writes
silent_wrong = apart (byte 0) 7 2 refl refl refl

-- refuses all, by any number and place
abbrev refusing : ℕ → ℕ → Program
refusing n p h t s o = leaves (unwritten (suc n) p) o

pub refusing_wrong : (n p : ℕ) → Wrong (refusing n p) pegin 60
unfolding writes
refusing_wrong n p = apart long 0 52 refl refl refl

-- accepts all
abbrev accepting : Program
accepting h t s o = let bytes = written_bytes h t s in leaves (wrote (length bytes)) (over bytes o)

pub accepting_wrong : Wrong accepting bad 60
unfolding writes
accepting_wrong = apart number 0 13 refl refl refl

-- writes before it judges: the refused write has touched the output
abbrev hasty : Program
hasty h t s o = leaves (promised h t s o).answer (over (written_bytes h t s) o)

pub hasty_wrong : Wrong hasty bad 60
unfolding writes
hasty_wrong = apart (byte 0) 2 7 refl refl refl

-- and where the output is too short
pub hasty_short_wrong : Wrong hasty pegin 51
unfolding writes
hasty_short_wrong = apart (byte 0) 2 7 refl refl refl

-- wants a byte more than needed
abbrev roomy : Program
roomy h t s o = cond (leb (suc (length (written_bytes h t s))) (length o)) (promised h t s o) (leaves (unwritten 14 0) o)

pub roomy_wrong : Wrong roomy pegin 52
unfolding writes
roomy_wrong = apart number 14 0 refl refl refl

-- sets what stands behind to 0
abbrev wiping : Program
wiping h t s o = let w = promised h t s o in leaves w.answer (take 52 w.output ++ map (λ b. 0) (drop 52 w.output))

pub wiping_wrong : Wrong wiping pegin 60
unfolding writes
wiping_wrong = apart (byte 52) 0 7 refl refl refl

-- the flags aren't put back: a pegin becomes an ordinary spend
abbrev flagless : Program
flagless h t s o = let w = promised h t s o in leaves w.answer (set w.output 41 0)

pub flagless_wrong : Wrong flagless pegin 60
unfolding writes
flagless_wrong = apart (byte 41) 0 0x40 refl refl refl

-- vout big-endian
abbrev turned : Program
turned h t s o = let w = promised h t s o in leaves w.answer (set (set w.output 38 0x40) 41 5)

pub turned_wrong : Wrong turned pegin 60
unfolding writes
turned_wrong = apart (byte 38) 0x40 5 refl refl refl

-- tells the output's length
abbrev filled : Program
filled h t s o = let w = promised h t s o in leaves (wrote (length o)) w.output

pub filled_wrong : Wrong filled pegin 60
unfolding writes
filled_wrong = apart long 60 52 refl refl refl

-- answers always the same: it fails at the accepted tables or at the refused ones
abbrev same : Verdict → Program
same a h t s o = leaves a (promised h t s o).output

same_accepted : (a : Verdict) → same a (head 0) pegin source (marked 60) ≡ promised (head 0) pegin source (marked 60) → verdict_number a ≡ 0
unfolding writes
same_accepted a e = ap number e

same_refused : (a : Verdict) → same a (head 0) bad source (marked 60) ≡ promised (head 0) bad source (marked 60) → verdict_number a ≡ 13
unfolding writes
same_refused a e = ap number e

pub same_wrong : (a : Verdict) → same a (head 0) pegin source (marked 60) ≡ promised (head 0) pegin source (marked 60) → same a (head 0) bad source (marked 60) ≡ promised (head 0) bad source (marked 60) → ⊥
same_wrong a e e' = apart (λ (n : ℕ). n) 0 13 refl refl refl (sym (same_accepted a e) ∙ same_refused a e')

-- ---- written_length

abbrev WrongLength : (Head → Tables → List ℕ → Verdict) → Head → Tables → List ℕ → Type 0
WrongLength p h t s = p h t s ≡ written_length h t s → ⊥

-- no length at all, and any one length for all
pub constant_wrong : (n : ℕ) → WrongLength (λ h t s. wrote n) (head 0) bad source
unfolding writes
constant_wrong n = apart verdict_number 0 13 refl refl refl

pub refusing_length_wrong : (n p : ℕ) → WrongLength (λ h t s. unwritten n p) (head 0) pegin source
unfolding writes
refusing_length_wrong n p = apart verdict_length 0 52 refl refl refl

-- the head's length in bytes
pub head_length_wrong : WrongLength (λ h t s. wrote h.bytes) (head 0) pegin source
unfolding writes
head_length_wrong = apart verdict_length 0 52 refl refl refl

-- one field of a record behind the count is judged: the second record is bad
abbrev twice : Tables
twice = tables ((0 ∷ 5 ∷ 1 ∷ replicate 17 0) ++ (0 ∷ 5 ∷ 4 ∷ replicate 17 0))

pub behind_wrong : WrongLength (λ h t s. unwritten 13 1) (head 0) twice source
unfolding writes
behind_wrong = apart verdict_number 13 0 refl refl refl

-- sums are taken by 32 bits: script items 2^32 - 1 and a pegin item add up to 0 = the next first index, and pass to another fault
abbrev wrapping : Tables
wrapping = tables (set (set (replicate 40 0) 18 4294967295) 19 1)

abbrev two : Head
two = record { version = 2; flag = 1; inputs = 2; outputs = 0; items = 0; locktime = 0; bytes = 0 }

pub wrapping_wrong : WrongLength (λ h t s. unwritten 8 4) two wrapping source
unfolding writes
wrapping_wrong = apart verdict_number 8 13 refl refl refl

-- 14 for a length that is asked for alone
pub fourteen_wrong : WrongLength (λ h t s. unwritten 14 0) (head 0) pegin source
unfolding writes
fourteen_wrong = apart verdict_number 14 0 refl refl refl

-- ---- is_fee

abbrev WrongFee : (List ℕ → Bool) → List ℕ → Type 0
WrongFee p r = p r ≡ is_fee r → ⊥

abbrev as_number : Bool → ℕ
as_number b = cond b 1 0

pub all_fees_wrong : WrongFee (λ r. true) (replicate 14 1)
all_fees_wrong = apart as_number 1 0 refl refl refl

pub no_fees_wrong : WrongFee (λ r. false) (replicate 14 0)
no_fees_wrong = apart as_number 0 1 refl refl refl

-- asks for the position, or for an empty nonce
pub position_wrong : WrongFee (λ r. eqb (get_or r 8 0) 0) (set (replicate 14 0) 8 92)
position_wrong = apart as_number 0 1 refl refl refl

pub nonce_wrong : WrongFee (λ r. eqb (get_or r 6 0) 0) (set (replicate 14 0) 9 3)
nonce_wrong = apart as_number 1 0 refl refl refl
