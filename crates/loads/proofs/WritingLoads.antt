-- Writing, computed. Every number told on a right side was worked out from document 01.
--     everything_back, load_96_back   accepted loads written back, with the output's tail
--     everything_sites                where a fault can stand in it
--     refusals                        each number that writing gives, by each of its causes, and what is judged first
--     scattered                       every body from where its own number says
--     verdicts                        01's number, place and length of each answer
--     fees                            the fee question
--     not_read                        what the writer does not read: positions of null fields, records behind the counts, the head's length
use Prim.Native.Nat.{ℕ, zero, suc}
use mathlib.Core.Path.{◌≡◌, refl}
use mathlib.Core.Bool.{true, false}
use mathlib.Core.List.{List, [], ◌∷◌, ◌++◌, map}
use lib.ListN.{replicate, set}
use Rattle.layout.specs.Number.{bytes_of}
use Rattle.layout.specs.Outcome.{partial, room_of}
use Rattle.layout.specs.Sites.{counts, lengths, values, assets, nonces, issuances, site, sites_each, input_witnesses_sites, sites_of}
use Rattle.layout.specs.Contents.{compact_bytes, flat, body_bytes, list_bytes, value_bytes, token_bytes, issuance_bytes, input_bytes, output_bytes, input_witness_bytes, output_witness_bytes, witnesses_bytes, contents_bytes, confused, all}
use Rattle.layout.specs.Records.{sum, placed, placed_witnesses, witnesses_items, beside, tables_of}
use Rattle.layout.specs.Writing.{records, body, value_of, token_of, input_of, output_of, item_of, input_witness_of, output_witness_of, contents_of, value_rule, zeros₇, issuance_rule, input_witness_rule, input_rule, token_rule, output_witness_rule, output_rule, item_rule, input_fault, input_faults, rule_faults, table_faults, faults, Verdict, wrote, unwritten, over, written_length, writing, is_fee, verdict_number, verdict_place, verdict_length}
use Rattle.loads.proofs.Loads.{computes, everything, hidden, one_and_one, sizes, head, tables}

-- Where this is unfolded, writing computes.
writes : Unit {0}
unfolding computes bytes_of compact_bytes flat body_bytes list_bytes value_bytes token_bytes issuance_bytes input_bytes output_bytes input_witness_bytes output_witness_bytes
    witnesses_bytes contents_bytes confused all sum placed placed_witnesses witnesses_items beside records body value_of token_of input_of output_of item_of
    input_witness_of output_witness_of contents_of value_rule zeros₇ issuance_rule input_witness_rule input_rule token_rule output_witness_rule output_rule
    item_rule input_fault input_faults rule_faults table_faults faults over written_length writing
writes = tt

everything_back :
    let t = (partial (sizes 60 56 8) everything).tables in
    writing (head 16909060 1 3 4 4 168496141 0) t everything (replicate 908 7) ≡ record { answer = wrote 907; output = everything ++ (7 ∷ []) }
unfolding writes everything
everything_back = refl

-- Where a fault can stand in it, in tables for 3 inputs, 4 outputs and 4 items: each count with the records left, each length, prefix and issuance.
everything_sites :
    let z = sizes 60 56 8 in
    sites_of (room_of z) 0 (contents_of (head 16909060 1 3 4 4 168496141 0) (partial z everything).tables everything) ≡
    site 5 (counts 3) ∷ site 42 lengths ∷ site 50 issuances ∷ site 114 values ∷ site 123 values ∷ site 192 lengths ∷ site 233 lengths ∷ site 240 issuances ∷ site 304 values ∷ site 305 values ∷
    site 314 (counts 4) ∷ site 315 assets ∷ site 348 values ∷ site 357 nonces ∷ site 358 lengths ∷ site 359 assets ∷ site 392 values ∷ site 425 nonces ∷ site 458 lengths ∷
    site 463 assets ∷ site 496 values ∷ site 529 nonces ∷ site 562 lengths ∷ site 564 assets ∷ site 565 values ∷ site 566 nonces ∷ site 599 lengths ∷
    site 859 lengths ∷ site 862 lengths ∷ site 864 (counts 4) ∷ site 865 lengths ∷ site 869 lengths ∷ site 870 (counts 2) ∷ site 871 lengths ∷
    site 877 lengths ∷ site 878 lengths ∷ site 879 (counts 1) ∷ site 880 (counts 1) ∷ site 881 lengths ∷ site 882 lengths ∷ site 885 (counts 1) ∷ site 886 lengths ∷ site 888 (counts 0) ∷
    site 889 lengths ∷ site 890 lengths ∷ site 891 lengths ∷ site 895 lengths ∷ site 898 lengths ∷ site 900 lengths ∷ site 901 lengths ∷ site 902 lengths ∷ []
unfolding writes everything sites_each input_witnesses_sites
everything_sites = refl

load_96_back :
    let t = (partial (sizes 25 14 2) (one_and_one "00" "")).tables in
    writing (head 2 0 1 1 0 0 0) t (one_and_one "00" "") (replicate 96 7) ≡ record { answer = wrote 96; output = one_and_one "00" "" }
unfolding writes
load_96_back = refl

load_96_tables :
    let t = (partial (sizes 25 14 2) (one_and_one "00" "")).tables in
    tables_of (sizes 25 14 2) (contents_of (head 2 0 1 1 0 0 0) t (one_and_one "00" "")) ≡ t
unfolding writes
load_96_tables = refl

-- ---- refusals

-- The records of 01's 96-byte load: one input and one output. Its source: 96 bytes, of which the writer looks at none to judge.
abbrev in96 : List ℕ
in96 = 6 ∷ 0 ∷ 0 ∷ 43 ∷ 0 ∷ 4294967294 ∷ 0 ∷ 0 ∷ 0 ∷ 0 ∷ 0 ∷ 0 ∷ 0 ∷ 0 ∷ 0 ∷ 0 ∷ 0 ∷ 0 ∷ 0 ∷ 0 ∷ []

abbrev out96 : List ℕ
out96 = 1 ∷ 48 ∷ 1 ∷ 81 ∷ 0 ∷ 400 ∷ 0 ∷ 90 ∷ 92 ∷ 0 ∷ 0 ∷ 0 ∷ 0 ∷ 0 ∷ []

-- The 103-byte load's: the same with a witness that has one item.
abbrev in103 : List ℕ
in103 = 6 ∷ 0 ∷ 0 ∷ 43 ∷ 0 ∷ 4294967294 ∷ 0 ∷ 0 ∷ 0 ∷ 0 ∷ 0 ∷ 0 ∷ 0 ∷ 97 ∷ 0 ∷ 98 ∷ 0 ∷ 0 ∷ 1 ∷ 0 ∷ []

abbrev out103 : List ℕ
out103 = 1 ∷ 48 ∷ 1 ∷ 81 ∷ 0 ∷ 400 ∷ 0 ∷ 90 ∷ 92 ∷ 0 ∷ 102 ∷ 0 ∷ 103 ∷ 0 ∷ []

-- An issuance on the input at 43, over a source of 177 bytes: explicit amount 1 (9 bytes), keys of prefix 8 (33 bytes); 43 + 64 + 42 = 149.
abbrev issuing : ℕ → List ℕ
issuing flags = 6 ∷ 0 ∷ flags ∷ 42 ∷ 0 ∷ 1 ∷ 43 ∷ 1 ∷ 0 ∷ 1 ∷ 8 ∷ 0 ∷ 0 ∷ 0 ∷ 0 ∷ 0 ∷ 0 ∷ 0 ∷ 0 ∷ 0 ∷ []

-- flag 0, one input and one output, no item
abbrev plainly : List ℕ → List ℕ → ℕ → Verdict
plainly i o n = written_length (head 2 0 1 1 0 0 0) (tables i o []) (hidden n)

abbrev input' : ℕ → ℕ → Verdict
input' c v = plainly (set in96 c v) out96 96

abbrev output' : ℕ → ℕ → Verdict
output' c v = plainly in96 (set out96 c v) 96

abbrev issued : ℕ → ℕ → Verdict
issued c v = plainly (set (issuing 2) c v) out96 177

-- flag 1, one of each
abbrev flagged : List ℕ → List ℕ → List ℕ → Verdict
flagged i o n = written_length (head 2 1 1 1 1 0 0) (tables i o n) (hidden 103)

abbrev witness' : ℕ → ℕ → Verdict
witness' c v = flagged (set in103 c v) out103 (100 ∷ 0 ∷ [])

-- the same with a second record that shows its faults at 1
abbrev second_input : List ℕ → Verdict
second_input i = written_length (head 2 0 2 1 0 0 0) (tables (in96 ++ i) out96 []) (hidden 177)

abbrev second_output : List ℕ → Verdict
second_output o = written_length (head 2 0 1 2 0 0 0) (tables in96 (out96 ++ o) []) (hidden 96)

abbrev second_flagged : List ℕ → Verdict
second_flagged o = written_length (head 2 1 1 2 1 0 0) (tables in103 (out103 ++ o) (100 ∷ 0 ∷ [])) (hidden 103)

-- only heads and sizes
abbrev headed : Verdict
headed = written_length (head 2 2 1 0 0 0 0) (tables [] [] []) []

record Case : Type 0 where
  found : Verdict
  told : Verdict

infix 70 ◌gives◌
abbrev ◌gives◌ : Verdict → Verdict → Case
found gives told = record { found = found; told = told }

abbrev AsTold : List Case → Type 0
AsTold cs = map (λ c. c.found) cs ≡ map (λ c. c.told) cs

refusals : AsTold (
    -- as they are
    plainly in96 out96 96 gives wrote 96 ∷
    flagged in103 out103 (100 ∷ 0 ∷ []) gives wrote 103 ∷
    plainly (issuing 2) out96 177 gives wrote 202 ∷
    plainly (issuing 3) out96 177 gives wrote 202 ∷
    -- two inputs that show the same bytes
    written_length (head 2 0 2 0 0 0 0) (tables (replicate 40 0) [] []) (hidden 32) gives wrote 93 ∷
    -- 10: each count, and before 7
    written_length (head 2 0 1 0 0 0 0) (tables (replicate 19 0) [] []) [] gives unwritten 10 0 ∷
    written_length (head 2 0 0 1 0 0 0) (tables [] (replicate 13 0) []) [] gives unwritten 10 0 ∷
    written_length (head 2 0 0 0 1 0 0) (tables [] [] (0 ∷ [])) [] gives unwritten 10 0 ∷
    headed gives unwritten 10 0 ∷
    -- 7, before the records; a flag isn't cut to a byte
    written_length (head 2 2 1 0 0 0 0) (tables (replicate 20 0) [] []) [] gives unwritten 7 4 ∷
    written_length (head 2 256 0 0 0 0 0) (tables [] [] []) [] gives unwritten 7 4 ∷
    -- 13: the txid, the script and the output's parts pass the source by one
    plainly in96 out96 91 gives unwritten 13 0 ∷
    input' 0 64 gives wrote 96 ∷
    input' 0 65 gives unwritten 13 0 ∷
    input' 3 96 gives wrote 96 ∷
    input' 3 97 gives unwritten 13 0 ∷
    input' 4 54 gives unwritten 13 0 ∷
    output' 1 63 gives wrote 96 ∷
    output' 1 64 gives unwritten 13 0 ∷
    output' 8 96 gives wrote 96 ∷
    output' 8 97 gives unwritten 13 0 ∷
    -- 13: flags and prefixes not listed
    input' 2 4 gives unwritten 13 0 ∷
    output' 0 2 gives unwritten 13 0 ∷
    output' 2 2 gives unwritten 13 0 ∷
    output' 2 7 gives unwritten 13 0 ∷
    output' 6 4 gives unwritten 13 0 ∷
    -- 13: a number that is not 0 where the rules say 0
    input' 6 1 gives unwritten 13 0 ∷
    input' 9 1 gives unwritten 13 0 ∷
    input' 12 1 gives unwritten 13 0 ∷
    input' 13 1 gives unwritten 13 0 ∷
    input' 19 1 gives unwritten 13 0 ∷
    output' 10 1 gives unwritten 13 0 ∷
    output' 13 1 gives unwritten 13 0 ∷
    output' 2 0 gives unwritten 13 0 ∷
    plainly in96 (set (set out96 2 8) 5 0) 114 gives wrote 120 ∷
    plainly in96 (set (set out96 2 8) 5 0) 113 gives unwritten 13 0 ∷
    output' 2 8 gives unwritten 13 0 ∷
    -- 13: an issuance that passes the source by one; its values
    plainly (issuing 2) out96 149 gives wrote 202 ∷
    plainly (issuing 2) out96 148 gives unwritten 13 0 ∷
    -- the whole field, though only high and low are used: explicit amount and null keys end at 43 + 64 + 9 + 1 = 117
    plainly (set (issuing 2) 10 0) out96 117 gives wrote 170 ∷
    plainly (set (issuing 2) 10 0) out96 116 gives unwritten 13 0 ∷
    issued 7 2 gives unwritten 13 0 ∷
    issued 11 1 gives unwritten 13 0 ∷
    -- 13: halves of an amount whose prefix is 8 or 0, and the same without them: 202 + 24 and 202 - 8
    issued 7 8 gives unwritten 13 0 ∷
    plainly (set (set (set (issuing 2) 7 8) 9 0) 8 1) out96 177 gives unwritten 13 0 ∷
    plainly (set (set (issuing 2) 7 8) 9 0) out96 177 gives wrote 226 ∷
    issued 7 0 gives unwritten 13 0 ∷
    plainly (set (set (issuing 2) 7 0) 9 0) out96 177 gives wrote 194 ∷
    -- 13 at 1: the second input's keys of a prefix not listed; listed, 96 + 41 + 64 + 9 + 33
    second_input (set (issuing 2) 10 9) gives wrote 243 ∷
    second_input (set (issuing 2) 10 2) gives unwritten 13 1 ∷
    second_input (set (issuing 2) 10 7) gives unwritten 13 1 ∷
    second_input (set (issuing 2) 10 10) gives unwritten 13 1 ∷
    second_input (set (set (issuing 2) 7 8) 8 1) gives unwritten 13 1 ∷
    -- 13 at 1: the second output's nonce passes the source by one; within, 96 + 33 + 9 + 33 + 1
    second_output (set (set out96 6 2) 7 63) gives wrote 172 ∷
    second_output (set (set out96 6 2) 7 64) gives unwritten 13 1 ∷
    -- 13: the first item's index; proofs and items past the source
    witness' 17 1 gives unwritten 13 0 ∷
    witness' 13 103 gives wrote 103 ∷
    witness' 13 104 gives unwritten 13 0 ∷
    witness' 15 104 gives unwritten 13 0 ∷
    flagged in103 (set out103 12 104) (100 ∷ 0 ∷ []) gives unwritten 13 0 ∷
    -- 13 at 1: the second output's surjection proof passes the source by one; within, 103 + 44 + 2, and 1 for a byte of it
    second_flagged (set out103 10 103) gives wrote 149 ∷
    second_flagged (set out103 10 104) gives unwritten 13 1 ∷
    second_flagged (set (set out103 10 102) 11 1) gives wrote 150 ∷
    second_flagged (set (set out103 10 102) 11 2) gives unwritten 13 1 ∷
    flagged in103 out103 (104 ∷ 0 ∷ []) gives unwritten 13 0 ∷
    flagged in103 out103 (100 ∷ 4 ∷ []) gives unwritten 13 0 ∷
    -- 13 at the number of inputs: the items don't add up
    witness' 18 2 gives unwritten 13 1 ∷
    written_length (head 2 1 0 0 1 0 0) (tables [] [] (0 ∷ 0 ∷ [])) [] gives unwritten 13 0 ∷
    -- with flag 0: an item that isn't 0, 0 stands at its number; one that is, at the number of inputs
    written_length (head 2 0 2 0 1 0 0) (tables (replicate 40 0) [] (0 ∷ 1 ∷ [])) (hidden 32) gives unwritten 13 0 ∷
    written_length (head 2 0 2 0 1 0 0) (tables (replicate 40 0) [] (1 ∷ 0 ∷ [])) (hidden 32) gives unwritten 13 0 ∷
    written_length (head 2 0 2 0 1 0 0) (tables (replicate 40 0) [] (0 ∷ 0 ∷ [])) (hidden 32) gives unwritten 13 2 ∷
    -- sums that pass 2^32: no first index equals them
    written_length (head 2 1 2 0 0 0 0) (tables (set (set (replicate 40 0) 18 4294967295) 19 1) [] []) (hidden 32) gives unwritten 13 1 ∷
    written_length (head 2 1 2 0 0 0 0) (tables (set (set (set (replicate 40 0) 18 4294967295) 19 1) 37 4294967295) [] []) (hidden 32) gives unwritten 13 1 ∷
    -- 12: its three cases, and their neighbours
    input' 1 1073741823 gives wrote 96 ∷
    input' 1 1073741824 gives unwritten 12 0 ∷
    input' 1 4294967294 gives unwritten 12 0 ∷
    input' 1 4294967295 gives wrote 96 ∷
    plainly (set (set in96 1 4294967295) 2 1) out96 96 gives unwritten 12 0 ∷
    plainly (set (set in96 1 1073741823) 2 1) out96 96 gives wrote 96 ∷
    plainly (set (issuing 2) 1 1073741823) out96 177 gives wrote 202 ∷
    plainly (set (issuing 3) 1 1073741823) out96 177 gives unwritten 12 0 ∷
    plainly (set (issuing 2) 1 4294967295) out96 177 gives unwritten 12 0 ∷
    -- 6: an issuance without values; 13 before 12 before 6
    plainly (set (set (set (issuing 2) 7 0) 9 0) 10 0) out96 177 gives unwritten 6 0 ∷
    plainly (set (set (set (set (issuing 2) 7 0) 9 0) 10 0) 1 1073741824) out96 177 gives unwritten 12 0 ∷
    plainly (set (set (set (set (set (issuing 2) 7 0) 9 0) 10 0) 1 1073741824) 13 1) out96 177 gives unwritten 13 0 ∷
    plainly (set (set (set (set (issuing 2) 7 0) 9 0) 10 0) 1 4294967295) out96 177 gives unwritten 12 0 ∷
    plainly (set (set in96 0 65) 1 1073741824) out96 96 gives unwritten 13 0 ∷
    plainly (set (set (set (issuing 2) 7 0) 9 0) 10 0) out96 108 gives unwritten 13 0 ∷
    -- 12 and 6 at 1: the second input's
    written_length (head 2 0 2 0 0 0 0) (tables (set (replicate 40 0) 21 1073741824) [] []) (hidden 32) gives unwritten 12 1 ∷
    second_input (set (set (set (issuing 2) 7 0) 9 0) 10 0) gives unwritten 6 1 ∷
    -- record after record: the first one's 12 before the second one's 13
    written_length (head 2 0 2 0 0 0 0) (tables (set (set (replicate 40 0) 1 1073741824) 22 4) [] []) (hidden 32) gives unwritten 12 0 ∷
    written_length (head 2 0 2 0 0 0 0) (tables (set (replicate 40 0) 22 4) [] []) (hidden 32) gives unwritten 13 1 ∷
    -- inputs before outputs before items before their sum
    plainly (set in96 1 1073741824) (set out96 0 2) 96 gives unwritten 12 0 ∷
    written_length (head 2 0 0 2 1 0 0) (tables [] (set (replicate 28 0) 14 2) (9 ∷ 9 ∷ [])) [] gives unwritten 13 1 ∷
    written_length (head 2 1 0 0 2 0 0) (tables [] [] (0 ∷ 0 ∷ 9 ∷ 9 ∷ [])) [] gives unwritten 13 1 ∷
    -- the first of several, inputs, outputs and items alike
    written_length (head 2 0 0 2 0 0 0) (tables [] (set (set (replicate 28 0) 0 2) 14 2) []) [] gives unwritten 13 0 ∷
    written_length (head 2 1 0 0 2 0 0) (tables [] [] (9 ∷ 9 ∷ 9 ∷ 9 ∷ [])) [] gives unwritten 13 0 ∷
    written_length (head 2 0 2 1 0 0 0) (tables (set (replicate 40 0) 2 4) (set (replicate 14 0) 0 2) []) (hidden 32) gives unwritten 13 0 ∷
    -- a record's number isn't cut to a byte
    written_length (head 2 0 0 257 0 0 0) (tables [] (replicate 3584 0 ++ (2 ∷ replicate 13 0)) []) [] gives unwritten 13 256 ∷
    output' 12 1 gives unwritten 13 0 ∷
    -- 8, behind every 13
    written_length (head 2 1 1 0 0 0 0) (tables (replicate 20 0) [] []) (hidden 32) gives unwritten 8 4 ∷
    written_length (head 2 1 1 0 1 0 0) (tables (replicate 20 0) [] (0 ∷ 0 ∷ [])) (hidden 32) gives unwritten 13 1 ∷
    written_length (head 2 1 0 0 0 0 0) (tables [] [] []) [] gives unwritten 8 4 ∷
    [])
unfolding writes
refusals = refl

-- 14, and the output as it was; 8 and 13 before it
short_output :
    writing (head 2 0 1 1 0 0 0) (tables in96 out96 []) (hidden 96) (replicate 95 7) ≡ record { answer = unwritten 14 0; output = replicate 95 7 }
unfolding writes
short_output = refl

refused_output :
    writing (head 2 0 1 1 0 0 0) (tables (set in96 2 4) out96 []) (hidden 96) (replicate 100 7) ≡ record { answer = unwritten 13 0; output = replicate 100 7 }
unfolding writes
refused_output = refl

-- ---- not read

-- Any position of a null nonce and of an explicit value, any head length, a bad record behind the count: the same bytes.
not_read :
    writing (head 2 0 1 1 0 0 4294967295) (tables (in96 ++ replicate 20 9) (set (set out96 3 4294967295) 7 4294967295 ++ replicate 14 9) (9 ∷ 9 ∷ [])) (hidden 96) (replicate 97 7)
    ≡ writing (head 2 0 1 1 0 0 0) (tables in96 out96 []) (hidden 96) (replicate 97 7)
unfolding writes
not_read = refl

-- A null asset's position.
not_read_asset : plainly in96 (set (set out96 0 0) 1 4294967295) 96 ≡ wrote 64
unfolding writes
not_read_asset = refl

-- Every body from where its own number says: the source's bytes are 0, 1, 2, .. and no two bodies stand as they are written. The
-- bytes were put together from 01's layout by hand.
abbrev counting : ℕ → ℕ → List ℕ
counting zero b = []
counting (suc n) b = b ∷ counting n (suc b)

scattered :
    writing (head 16909060 1 1 1 2 168496141 0) (tables
    (1 ∷ 5 ∷ 3 ∷ 40 ∷ 3 ∷ 4294967293 ∷ 60 ∷ 8 ∷ 0 ∷ 0 ∷ 9 ∷ 0 ∷ 0 ∷ 33 ∷ 2 ∷ 35 ∷ 1 ∷ 0 ∷ 1 ∷ 1 ∷ [])
    (10 ∷ 200 ∷ 9 ∷ 5 ∷ 0 ∷ 0 ∷ 3 ∷ 100 ∷ 20 ∷ 4 ∷ 80 ∷ 1 ∷ 90 ∷ 2 ∷ [])
    (70 ∷ 2 ∷ 10 ∷ 1 ∷ [])) (counting 250 0) (replicate 306 7)
    ≡ record {
      answer = wrote 306;
      output =
          4 ∷ 3 ∷ 2 ∷ 1 ∷ 1 ∷ 1 ∷ 1 ∷ 2 ∷ 3 ∷ 4 ∷ 5 ∷ 6 ∷ 7 ∷ 8 ∷ 9 ∷ 10 ∷ 11 ∷ 12 ∷ 13 ∷ 14 ∷ 15 ∷ 16 ∷ 17 ∷ 18 ∷ 19 ∷ 20 ∷ 21 ∷ 22 ∷
          23 ∷ 24 ∷ 25 ∷ 26 ∷ 27 ∷ 28 ∷ 29 ∷ 30 ∷ 31 ∷ 32 ∷ 5 ∷ 0 ∷ 0 ∷ 192 ∷ 3 ∷ 40 ∷ 41 ∷ 42 ∷ 253 ∷ 255 ∷ 255 ∷ 255 ∷ 60 ∷ 61 ∷ 62 ∷
          63 ∷ 64 ∷ 65 ∷ 66 ∷ 67 ∷ 68 ∷ 69 ∷ 70 ∷ 71 ∷ 72 ∷ 73 ∷ 74 ∷ 75 ∷ 76 ∷ 77 ∷ 78 ∷ 79 ∷ 80 ∷ 81 ∷ 82 ∷ 83 ∷ 84 ∷ 85 ∷ 86 ∷ 87 ∷
          88 ∷ 89 ∷ 90 ∷ 91 ∷ 92 ∷ 93 ∷ 94 ∷ 95 ∷ 96 ∷ 97 ∷ 98 ∷ 99 ∷ 100 ∷ 101 ∷ 102 ∷ 103 ∷ 104 ∷ 105 ∷ 106 ∷ 107 ∷ 108 ∷ 109 ∷ 110 ∷
          111 ∷ 112 ∷ 113 ∷ 114 ∷ 115 ∷ 116 ∷ 117 ∷ 118 ∷ 119 ∷ 120 ∷ 121 ∷ 122 ∷ 123 ∷ 8 ∷ 125 ∷ 126 ∷ 127 ∷ 128 ∷ 129 ∷ 130 ∷ 131 ∷
          132 ∷ 133 ∷ 134 ∷ 135 ∷ 136 ∷ 137 ∷ 138 ∷ 139 ∷ 140 ∷ 141 ∷ 142 ∷ 143 ∷ 144 ∷ 145 ∷ 146 ∷ 147 ∷ 148 ∷ 149 ∷ 150 ∷ 151 ∷ 152 ∷
          153 ∷ 154 ∷ 155 ∷ 156 ∷ 9 ∷ 158 ∷ 159 ∷ 160 ∷ 161 ∷ 162 ∷ 163 ∷ 164 ∷ 165 ∷ 166 ∷ 167 ∷ 168 ∷ 169 ∷ 170 ∷ 171 ∷ 172 ∷ 173 ∷
          174 ∷ 175 ∷ 176 ∷ 177 ∷ 178 ∷ 179 ∷ 180 ∷ 181 ∷ 182 ∷ 183 ∷ 184 ∷ 185 ∷ 186 ∷ 187 ∷ 188 ∷ 189 ∷ 1 ∷ 10 ∷ 201 ∷ 202 ∷ 203 ∷
          204 ∷ 205 ∷ 206 ∷ 207 ∷ 208 ∷ 209 ∷ 210 ∷ 211 ∷ 212 ∷ 213 ∷ 214 ∷ 215 ∷ 216 ∷ 217 ∷ 218 ∷ 219 ∷ 220 ∷ 221 ∷ 222 ∷ 223 ∷ 224 ∷
          225 ∷ 226 ∷ 227 ∷ 228 ∷ 229 ∷ 230 ∷ 231 ∷ 232 ∷ 9 ∷ 6 ∷ 7 ∷ 8 ∷ 9 ∷ 10 ∷ 11 ∷ 12 ∷ 13 ∷ 14 ∷ 15 ∷ 16 ∷ 17 ∷ 18 ∷ 19 ∷ 20 ∷ 21
          ∷ 22 ∷ 23 ∷ 24 ∷ 25 ∷ 26 ∷ 27 ∷ 28 ∷ 29 ∷ 30 ∷ 31 ∷ 32 ∷ 33 ∷ 34 ∷ 35 ∷ 36 ∷ 37 ∷ 3 ∷ 101 ∷ 102 ∷ 103 ∷ 104 ∷ 105 ∷ 106 ∷ 107
          ∷ 108 ∷ 109 ∷ 110 ∷ 111 ∷ 112 ∷ 113 ∷ 114 ∷ 115 ∷ 116 ∷ 117 ∷ 118 ∷ 119 ∷ 120 ∷ 121 ∷ 122 ∷ 123 ∷ 124 ∷ 125 ∷ 126 ∷ 127 ∷ 128
          ∷ 129 ∷ 130 ∷ 131 ∷ 132 ∷ 4 ∷ 20 ∷ 21 ∷ 22 ∷ 23 ∷ 13 ∷ 12 ∷ 11 ∷ 10 ∷ 2 ∷ 33 ∷ 34 ∷ 1 ∷ 35 ∷ 1 ∷ 2 ∷ 70 ∷ 71 ∷ 1 ∷ 1 ∷ 10 ∷ 1
          ∷ 80 ∷ 2 ∷ 90 ∷ 91 ∷ [];
    }
unfolding writes
scattered = refl

-- ---- 01's number, place and length of each answer

verdicts : map verdict_number (wrote 5 ∷ unwritten 13 2 ∷ []) ++ (map verdict_place (wrote 5 ∷ unwritten 13 2 ∷ []) ++ map verdict_length (wrote 5 ∷ unwritten 13 2 ∷ [])) ≡ 0 ∷ 13 ∷ 0 ∷ 2 ∷ 5 ∷ 0 ∷ []
verdicts = refl

-- ---- the fee question

fees : map is_fee (out96 ∷ set out96 9 1 ∷ set out96 9 256 ∷ set out96 8 0 ∷ replicate 14 4294967295 ∷ replicate 14 0 ∷ []) ≡ true ∷ false ∷ false ∷ true ∷ false ∷ true ∷ []
fees = refl
