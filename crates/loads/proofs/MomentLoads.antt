-- When each number enters, on the transaction with every feature: each entry of all its records with the bytes taken by then, worked out by
-- hand from document 01. Wherever it is asked, the tables show what is entered by then and nothing else.
use Prim.Native.Nat.{ℕ}
use mathlib.Core.Path.{◌≡◌, refl, ap}
use mathlib.Core.List.{List, [], ◌∷◌, map}
use lib.ListN.{take}
use Rattle.layout.specs.Layout.{more, reading, input, output, item}
use Rattle.layout.specs.Transaction.{entry}
use Rattle.layout.specs.Outcome.{Sizes, Outcome, zeros, laid, outcome, reading_of, partial}
use Rattle.layout.proofs.Timed.{Timed, timed, entered, by}
use Rattle.loads.proofs.Loads.{sizes, computes, everything}

-- bytes taken; table, record, column; numbers
abbrev entries : List Timed
entries =
    -- input 0: txid; vout, flags; script; sequence; issuance, with the blinding nonce; amount's prefix, halves; keys' prefix
    timed 38 (entry input 0 0 (6 ∷ [])) ∷
    timed 42 (entry input 0 1 (5 ∷ 3 ∷ [])) ∷
    timed 43 (entry input 0 3 (43 ∷ 3 ∷ [])) ∷
    timed 50 (entry input 0 5 (4294967293 ∷ [])) ∷
    timed 82 (entry input 0 6 (50 ∷ [])) ∷
    timed 115 (entry input 0 7 (1 ∷ [])) ∷
    timed 123 (entry input 0 8 (258 ∷ 50595078 ∷ [])) ∷
    timed 124 (entry input 0 10 (8 ∷ [])) ∷
    -- input 1: no issuance
    timed 188 (entry input 1 0 (156 ∷ [])) ∷
    timed 192 (entry input 1 1 (4294967295 ∷ 0 ∷ [])) ∷
    timed 193 (entry input 1 3 (193 ∷ 0 ∷ [])) ∷
    timed 197 (entry input 1 5 (1 ∷ [])) ∷
    -- input 2: keys' halves
    timed 229 (entry input 2 0 (197 ∷ [])) ∷
    timed 233 (entry input 2 1 (1073741823 ∷ 2 ∷ [])) ∷
    timed 234 (entry input 2 3 (234 ∷ 2 ∷ [])) ∷
    timed 240 (entry input 2 5 (4294967294 ∷ [])) ∷
    timed 272 (entry input 2 6 (240 ∷ [])) ∷
    timed 305 (entry input 2 7 (0 ∷ [])) ∷
    timed 306 (entry input 2 10 (1 ∷ [])) ∷
    timed 314 (entry input 2 11 (2147483648 ∷ 1 ∷ [])) ∷
    -- output 0: asset's prefix, before its 32 bytes; value's prefix, halves; null nonce; script
    timed 316 (entry output 0 0 (1 ∷ 315 ∷ [])) ∷
    timed 349 (entry output 0 2 (1 ∷ 348 ∷ [])) ∷
    timed 357 (entry output 0 4 (1 ∷ 2 ∷ [])) ∷
    timed 358 (entry output 0 6 (0 ∷ 357 ∷ [])) ∷
    timed 359 (entry output 0 8 (359 ∷ 0 ∷ [])) ∷
    -- outputs 1 to 3: value's and nonce's prefixes before their 32 bytes; a script whose length has 3 bytes
    timed 360 (entry output 1 0 (10 ∷ 359 ∷ [])) ∷
    timed 393 (entry output 1 2 (8 ∷ 392 ∷ [])) ∷
    timed 426 (entry output 1 6 (2 ∷ 425 ∷ [])) ∷
    timed 459 (entry output 1 8 (459 ∷ 4 ∷ [])) ∷
    timed 464 (entry output 2 0 (11 ∷ 463 ∷ [])) ∷
    timed 497 (entry output 2 2 (9 ∷ 496 ∷ [])) ∷
    timed 530 (entry output 2 6 (3 ∷ 529 ∷ [])) ∷
    timed 563 (entry output 2 8 (563 ∷ 1 ∷ [])) ∷
    timed 565 (entry output 3 0 (0 ∷ 564 ∷ [])) ∷
    timed 566 (entry output 3 2 (0 ∷ 565 ∷ [])) ∷
    timed 567 (entry output 3 6 (1 ∷ 566 ∷ [])) ∷
    timed 602 (entry output 3 8 (602 ∷ 253 ∷ [])) ∷
    -- input 0's witness: amount proof; keys proof; first item's index with the script count, items pending; two items; pegin count, item
    -- pending; its item
    timed 860 (entry input 0 13 (860 ∷ 2 ∷ [])) ∷
    timed 863 (entry input 0 15 (863 ∷ 1 ∷ [])) ∷
    timed 865 (entry input 0 17 (0 ∷ 2 ∷ [])) ∷
    timed 866 (entry item 0 0 (866 ∷ 3 ∷ [])) ∷
    timed 870 (entry item 1 0 (870 ∷ 0 ∷ [])) ∷
    timed 871 (entry input 0 19 (1 ∷ [])) ∷
    timed 872 (entry item 2 0 (872 ∷ 5 ∷ [])) ∷
    -- input 1's witness: empty; input 2's: one script item
    timed 878 (entry input 1 13 (878 ∷ 0 ∷ [])) ∷
    timed 879 (entry input 1 15 (879 ∷ 0 ∷ [])) ∷
    timed 880 (entry input 1 17 (3 ∷ 0 ∷ [])) ∷
    timed 881 (entry input 1 19 (0 ∷ [])) ∷
    timed 882 (entry input 2 13 (882 ∷ 0 ∷ [])) ∷
    timed 883 (entry input 2 15 (883 ∷ 2 ∷ [])) ∷
    timed 886 (entry input 2 17 (3 ∷ 1 ∷ [])) ∷
    timed 887 (entry item 3 0 (887 ∷ 1 ∷ [])) ∷
    timed 889 (entry input 2 19 (0 ∷ [])) ∷
    -- the outputs' witnesses: surjection proof; range proof
    timed 890 (entry output 0 10 (890 ∷ 0 ∷ [])) ∷
    timed 891 (entry output 0 12 (891 ∷ 0 ∷ [])) ∷
    timed 892 (entry output 1 10 (892 ∷ 3 ∷ [])) ∷
    timed 896 (entry output 1 12 (896 ∷ 2 ∷ [])) ∷
    timed 899 (entry output 2 10 (899 ∷ 1 ∷ [])) ∷
    timed 901 (entry output 2 12 (901 ∷ 0 ∷ [])) ∷
    timed 902 (entry output 3 10 (902 ∷ 0 ∷ [])) ∷
    timed 903 (entry output 3 12 (903 ∷ 4 ∷ [])) ∷
    []

-- One byte before its moment and at it, for every column of each kind of record, where its number isn't 0.
abbrev asked : List ℕ
asked =
    -- txid; vout, flags; script; sequence; issuance; amount's prefix, halves; keys' prefix, and the halves of input 2
    37 ∷ 38 ∷ 41 ∷ 42 ∷ 43 ∷ 49 ∷ 50 ∷ 81 ∷ 82 ∷ 114 ∷ 115 ∷ 122 ∷ 123 ∷ 124 ∷ 313 ∷ 314 ∷
    -- asset's prefix; value's prefix, halves; nonce's prefix; script, and one whose length has 3 bytes
    315 ∷ 316 ∷ 348 ∷ 349 ∷ 356 ∷ 357 ∷ 425 ∷ 426 ∷ 458 ∷ 459 ∷ 601 ∷ 602 ∷
    -- amount proof; keys proof; script count, items pending; item; pegin count, item pending; first item's index of input 2; surjection
    -- proof; range proof
    859 ∷ 860 ∷ 862 ∷ 863 ∷ 864 ∷ 865 ∷ 866 ∷ 870 ∷ 871 ∷ 885 ∷ 886 ∷ 891 ∷ 892 ∷ 895 ∷ 896 ∷ []

abbrev room : Sizes
room = sizes 60 56 8

computed : map (λ k. reading_of room (take k everything)) asked ≡ map (λ k. reading more k (entered (by k) entries)) asked
unfolding computes everything entered
computed = refl

-- more is wanted, all bytes are taken
abbrev told : ℕ → Outcome
told k = record { answer = more; taken = k; tables = laid (entered (by k) entries) (zeros room) }

moments : map (λ k. partial room (take k everything)) asked ≡ map told asked
moments = ap (map (outcome room)) computed
