-- Any 20 numbers are a state and any state is 20 numbers, so a forged array is a forged state, and the range test judges it.
--     unpacked_packed, packed_unpacked   a state and its 20 numbers
--     head_kept, head_numbers_lem            a head and its 7 numbers
--     state_order, head_order            which number stands where: docs/STATE.md's order, and 01's for the head
--     fed_refused, fed_finished          number, place and bytes taken of a feeding or finishing
--     read_refused, read_finished        the same of reading at once
--     write_refused, write_done          number, place and length of a write
--     more_alone, more_alone_end         255 is given exactly where more is wanted
--     misuse_array, misuse_array_end     10 and 11: the 20 numbers and the tables are as they were
use Prim.Native.Nat.{ℕ, zero, suc, ◌≤◌}
use mathlib.Core.Path.{◌≡◌, refl, sym, ◌∙◌, ap}
use mathlib.Core.List.{List, [], ◌∷◌}
use native.Mathlib.Omega.{arith}
use lib.ListN.{length, get_or, replicate}
use Rattle.layout.specs.Number.{Bytes}
use Rattle.layout.specs.Transaction.{Head}
use Rattle.layout.specs.Layout as layout
use Rattle.layout.specs.Outcome as outcome
use Rattle.layout.specs.Outcome.{Tables, no_head}
use Rattle.layout.specs.Writing.{◌!◌, wrote, unwritten}
use Rattle.decoders.specs.Machine.{State}
use Rattle.decoders.specs.Feeding.{pushed, ended, out}
use Rattle.decoders.proofs.Answers.{push_numbered, end_numbered}
use Rattle.decoders.proofs.Theorems.{misuse_answer, misuse_answer_end}
use Rattle.takzulit.specs.Numbers.{packed_state, unpacked_state, head_list, head_of, numbered, shown, kept, kept_of, shown_of, verdict_numbers, feeding, finishing}

-- a list as its elements
abbrev listed : (ℕ → ℕ) → ℕ → List ℕ
listed f zero = []
listed f (suc n) = f zero ∷ listed (λ i. f (suc i)) n

listed_all : (xs : List ℕ) → listed (λ i. get_or xs i 0) (length xs) ≡ xs
listed_all [] = refl
listed_all (x ∷ xs) = ap (λ ys. x ∷ ys) (listed_all xs)

listed_long : (xs : List ℕ) (n : ℕ) → length xs ≡ n → listed (λ i. get_or xs i 0) n ≡ xs
listed_long xs n e = ap (listed (λ i. get_or xs i 0)) (sym e) ∙ listed_all xs

pub unpacked_packed : (s : State) → unpacked_state (packed_state s) ≡ s
unpacked_packed s = refl

pub packed_unpacked : (xs : List ℕ) → length xs ≡ 20 → packed_state (unpacked_state xs) ≡ xs
packed_unpacked xs e = listed_long xs 20 e

pub head_kept : (h : Head) → head_of (head_list h) ≡ h
head_kept h = refl

pub head_numbers_lem : (xs : List ℕ) → length xs ≡ 7 → head_list (head_of xs) ≡ xs
head_numbers_lem xs e = listed_long xs 7 e

-- ---- the order that include/takzulit.h tells

pub head_order : (version flag inputs outputs items locktime bytes : ℕ) → head_list (record { version = version; flag = flag; inputs = inputs; outputs = outputs; items = items; locktime = locktime; bytes = bytes }) ≡ version ∷ flag ∷ inputs ∷ outputs ∷ items ∷ locktime ∷ bytes ∷ []
head_order version flag inputs outputs items locktime bytes = refl

pub state_order :
    (stage form wide have value taken : ℕ) (size_inputs size_outputs size_items : ℕ) (version flag inputs outputs items locktime : ℕ) (index left issuance null empty : ℕ)
    → packed_state (record {
      field = record { stage = stage; form = form; width = wide; have = have; value = value };
      taken = taken;
      sizes = record { inputs = size_inputs; outputs = size_outputs; items = size_items };
      counts = record { version = version; flag = flag; inputs = inputs; outputs = outputs; items = items; locktime = locktime };
      spot = record { index = index; left = left; issuance = issuance; null = null; empty = empty };
    }) ≡ stage ∷ form ∷ wide ∷ have ∷ value ∷ taken ∷ size_inputs ∷ size_outputs ∷ size_items ∷ version ∷ flag ∷ inputs ∷ outputs ∷ items ∷ locktime ∷ index ∷ left ∷ issuance ∷ null ∷ empty ∷ []
state_order stage form wide have value taken size_inputs size_outputs size_items version flag inputs outputs items locktime index left issuance null empty = refl

-- TAKZULIT_NUMBER is 0, TAKZULIT_PLACE 1, TAKZULIT_TAKEN 2; a head shows where the reading is finished, and is 0 otherwise.
pub fed_refused : (s : State) (taken n p : ℕ) (t : Tables) → kept_of (out s taken (layout.refused n p) t) ≡ kept (packed_state s) (shown (n ∷ p ∷ taken ∷ []) (replicate 7 0) t)
fed_refused s taken n p t = refl

pub fed_more : (s : State) (taken : ℕ) (t : Tables) → kept_of (out s taken layout.more t) ≡ kept (packed_state s) (shown (255 ∷ 0 ∷ taken ∷ []) (replicate 7 0) t)
fed_more s taken t = refl

pub fed_finished : (s : State) (taken : ℕ) (h : Head) (t : Tables) → kept_of (out s taken (layout.finished h) t) ≡ kept (packed_state s) (shown (0 ∷ 0 ∷ taken ∷ []) (h.version ∷ h.flag ∷ h.inputs ∷ h.outputs ∷ h.items ∷ h.locktime ∷ h.bytes ∷ []) t)
fed_finished s taken h t = refl

pub read_refused : (n p taken : ℕ) (t : Tables) → shown_of (record { answer = layout.refused n p; taken = taken; tables = t }) ≡ shown (n ∷ p ∷ taken ∷ []) (replicate 7 0) t
read_refused n p taken t = refl

pub read_finished : (h : Head) (taken : ℕ) (t : Tables) → shown_of (record { answer = layout.finished h; taken = taken; tables = t }) ≡ shown (0 ∷ 0 ∷ taken ∷ []) (head_list h) t
read_finished h taken t = refl

-- TAKZULIT_LENGTH is 2.
pub write_refused : (n p : ℕ) → verdict_numbers (unwritten n p) ≡ n ∷ p ∷ 0 ∷ []
write_refused n p = refl

pub write_done : (n : ℕ) → verdict_numbers (wrote n) ≡ 0 ∷ 0 ∷ n ∷ []
write_done n = refl

-- ---- 255

more_by_answer : (a : layout.Answer Head) → ((n p : ℕ) → a ≡ layout.refused n p → n ≤ 11) → numbered (outcome.number_of a) ≡ 255 → a ≡ layout.more
more_by_answer (layout.finished h) f e = absurd (omega (arith, e))
more_by_answer layout.more f e = refl
more_by_answer (layout.refused n p) f e = absurd (omega (arith, e, f n p refl))

pub more_alone : (s : List ℕ) (t : Tables) (xs : List ℕ) → Bytes xs → (feeding s t xs).shown.answer ! 0 ≡ 255 → (pushed (unpacked_state s) t xs).answer ≡ layout.more
more_alone s t xs q =
    more_by_answer (pushed (unpacked_state s) t xs).answer (λ n p e. (push_numbered (unpacked_state s) t xs q n p e).most)

pub more_alone_end : (s : List ℕ) (t : Tables) → (finishing s t).shown.answer ! 0 ≡ 255 → (ended (unpacked_state s) t).answer ≡ layout.more
more_alone_end s t = more_by_answer (ended (unpacked_state s) t).answer (λ n p e. (end_numbered (unpacked_state s) t n p e).most)

-- ---- 10 and 11

pub misuse_array : (s : List ℕ) (t : Tables) (xs : List ℕ) (n p : ℕ) → length s ≡ 20 → Bytes xs → (pushed (unpacked_state s) t xs).answer ≡ layout.refused n p → 10 ≤ n → feeding s t xs ≡ kept s (shown (n ∷ 0 ∷ 0 ∷ []) (head_list no_head) t)
misuse_array s t xs n p l q e big =
    ap kept_of (misuse_answer (unpacked_state s) t xs n p q e (omega arith)) ∙ ap (λ (z : List ℕ). kept z (shown (n ∷ 0 ∷ 0 ∷ []) (head_list no_head) t)) (packed_unpacked s l)

pub misuse_array_end : (s : List ℕ) (t : Tables) (n p : ℕ) → length s ≡ 20 → (ended (unpacked_state s) t).answer ≡ layout.refused n p → 10 ≤ n → finishing s t ≡ kept s (shown (n ∷ 0 ∷ 0 ∷ []) (head_list no_head) t)
misuse_array_end s t n p l e big =
    ap kept_of (misuse_answer_end (unpacked_state s) t n p e (omega arith)) ∙ ap (λ (z : List ℕ). kept z (shown (n ∷ 0 ∷ 0 ∷ []) (head_list no_head) t)) (packed_unpacked s l)
