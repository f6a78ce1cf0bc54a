-- What each exported function leaves, from the promises of what it calls.
use Prim.Native.Nat.{ℕ}
use mathlib.Core.Path.{◌≡◌, refl, ◌∙◌, ap, ap₂}
use mathlib.Core.List.{List}
use mathlib.Core.Option.{some}
use Rattle.layout.specs.Transaction.{Head}
use Rattle.layout.specs.Outcome.{Tables, Outcome}
use Rattle.layout.specs.Writing as writing
use Rattle.layout.specs.Writing.{Verdict, wrote, unwritten}
use Rattle.decoders.specs.declared.Answer.{Answer}
use Rattle.decoders.specs.declared.Answer.TheVariants.{Finished, More, Refused}
use Rattle.decoders.specs.declared.Fed.{Fed}
use Rattle.decoders.specs.declared.Read.{Read}
use Rattle.decoders.specs.Machine.{State, Machine, machine}
use Rattle.decoders.specs.Feeding.{begun, Out, out_of, pushed, ended, whole_of, told, told_number, told_place, told_head}
use Rattle.std.proofs.Common.{Result, Ok, Err}
use Rattle.encode.specs.declared.refusal.Refusal.{Refusal}
use Rattle.encoders.specs.Answers as writer
use Rattle.takzulit.specs.Numbers.{packed_state, unpacked_state, head_list, head_of, answer_numbers, started, starting, Shown, shown, shown_of, Kept, kept, kept_of, feeding, finishing, verdict_numbers, length_asked, Wrote, writes}
use Rattle.takzulit.specs.Numbers as numbers

pub starts : (xs : List ℕ) (d : State) (u t : Tables) → xs ≡ packed_state d → machine d u ≡ begun t → started xs u ≡ starting t
starts xs d u t e f = ap₂ started (e ∙ ap (λ (m : Machine). packed_state m.state) f) (ap (λ (m : Machine). m.tables) f)

-- the numbers of an answer, as the enum has it
abbrev pub answered : Answer → ℕ → List ℕ
answered a n = answer_numbers (told_number a) (told_place a) n

-- and they are document 01's
shown_alike : (a : Answer) (n : ℕ) (t : Tables) → shown (answered a n) (head_list (told_head a)) t ≡ shown_of (record { answer = told a; taken = n; tables = t })
shown_alike (Finished h) n t = refl
shown_alike More n t = refl
shown_alike (Refused r) n t = refl

pub keeps : (xs a h : List ℕ) (r : Fed) (u : Tables) (o : Out) → out_of r u ≡ o → xs ≡ packed_state r.decoder → h ≡ head_list (told_head r.answer) → a ≡ answered r.answer r.taken → kept xs (shown a h u) ≡ kept_of o
keeps xs a h r u o e f g k = (λ i. kept (f i) (shown (k i) (g i) u)) ∙ ap (kept (packed_state r.decoder)) (shown_alike r.answer r.taken u) ∙ ap kept_of e

pub feeds : (s xs a h : List ℕ) (d : State) (r : Fed) (u t : Tables) (p : List ℕ) → d ≡ unpacked_state s → out_of r u ≡ pushed d t p → xs ≡ packed_state r.decoder → h ≡ head_list (told_head r.answer) → a ≡ answered r.answer r.taken → kept xs (shown a h u) ≡ feeding s t p
feeds s xs a h d r u t p w e = keeps xs a h r u (pushed (unpacked_state s) t p) (e ∙ ap (λ (x : State). pushed x t p) w)

pub finishes : (s xs a h : List ℕ) (d : State) (r : Fed) (u t : Tables) → d ≡ unpacked_state s → out_of r u ≡ ended d t → xs ≡ packed_state r.decoder → h ≡ head_list (told_head r.answer) → a ≡ answered r.answer r.taken → kept xs (shown a h u) ≡ finishing s t
finishes s xs a h d r u t w e = keeps xs a h r u (ended (unpacked_state s) t) (e ∙ ap (λ (x : State). ended x t) w)

pub shows : (a h : List ℕ) (r : Read) (u : Tables) (o : Outcome) → whole_of r u ≡ o → h ≡ head_list (told_head r.answer) → a ≡ answered r.answer r.taken → shown a h u ≡ shown_of o
shows a h r u o e g k = (λ i. shown (k i) (g i) u) ∙ shown_alike r.answer r.taken u ∙ ap shown_of e

-- ---- writing

abbrev pub written_as : Result ℕ Refusal → List ℕ
written_as w = answer_numbers (some (writer.told_number w)) (writer.told_place w) (writer.told_length w)

pub verdict_alike : (w : Result ℕ Refusal) → written_as w ≡ verdict_numbers (writer.told w)
verdict_alike (Ok n) = refl
verdict_alike (Err e) = refl

pub asks : (a hs : List ℕ) (h : Head) (w : Result ℕ Refusal) (t : Tables) (source : List ℕ) → h ≡ head_of hs → writer.told w ≡ writing.written_length h t source → a ≡ written_as w → a ≡ length_asked hs t source
asks a hs h w t source f e k =
    k ∙ verdict_alike w ∙ ap verdict_numbers (e ∙ ap (λ (x : Head). writing.written_length x t source) f)

pub wrote_out : (a hs : List ℕ) (h : Head) (w : Result ℕ Refusal) (t : Tables) (source out was : List ℕ) → h ≡ head_of hs → writer.out_of w out ≡ writing.writing h t source was → a ≡ written_as w → numbers.wrote a out ≡ writes hs t source was
wrote_out a hs h w t source out was f e k =
    (λ i. numbers.wrote ((k ∙ verdict_alike w) i) out)
    ∙ ap (λ (x : writing.Written). numbers.wrote (verdict_numbers x.answer) x.output) (e ∙ ap (λ (x : Head). writing.writing x t source was) f)
