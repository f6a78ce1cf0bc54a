-- What reading strictly, and writing back over the same bytes, makes of them.
use Prim.Native.Nat.{ℕ}
use mathlib.Core.Path.{◌≡◌, refl, sym, ◌∙◌, ap, ap₂, subst}
use mathlib.Core.Bool.{Bool, cond}
use mathlib.Core.List.{List, [], append-nil}
use Rattle.std.proofs.Common.{Result, Ok, Err}
use native.Mathlib.Omega.{arith}
use lib.Dec.{eqb}
use lib.ListN.{length, take}
use lib.Seq.{take-length}
use borrow.Author.Tests.{eqb-true, eq-eqb}
use Rattle.layout.specs.Number.{Bytes}
use Rattle.layout.specs.Layout as layout
use Rattle.layout.specs.Transaction as transaction
use Rattle.layout.specs.Transaction.{limit}
use Rattle.layout.specs.Outcome as outcome
use Rattle.layout.specs.Outcome.{Tables, Sizes, partial, strict}
use Rattle.layout.specs.Contents.{contents_bytes}
use Rattle.layout.specs.Writing.{Verdict, wrote, unwritten, over, writing, written_length, written_bytes, faults, table_faults, passes, unless}
use Rattle.layout.specs.Writing as writing_specs
use Rattle.layout.proofs.Reading.{by_cases}
use Rattle.layout.proofs.RoundTrips.{Begins, accepted, whole_accepted, whole_exactly, never_refused, taken_written}
use Rattle.encode.specs.declared.refusal.Refusal.{Refusal}
use Rattle.encode.specs.declared.refusal.RefusalKind.TheVariants.{EndsEarly}
use Rattle.encode.specs.Refusal.{number_of}
use Rattle.decoders.specs.declared.Head.{Head}
use Rattle.decoders.specs.declared.Answer.TheVariants as answer
use Rattle.decoders.specs.declared.Read.{Read}
use Rattle.decoders.specs.Feeding.{told, layout_sizes, whole_of, read_strict}
use Rattle.encoders.specs.Answers.{head_numbers}
use Rattle.encoders.specs.Sinks.{handed}
use Rattle.encoders.proofs.Writes.{handed_all}
use Rattle.write_back.specs.declared.Outcome.{Outcome}
use Rattle.write_back.specs.declared.Outcome.TheVariants.{Same, Different, Refused}
use Rattle.write_back.specs.Beside.{along, Goes}
use Rattle.write_back.specs.Back.{told_of, Gives, Rewritten, Refuses, Says, Back}
use Rattle.write_back.proofs.Walking.{along_whole, along_meant}

-- ---- what is said

pub differs_unsaid : {n : ℕ} {P : Type 0} (m : ℕ) → Different n ≡ Same m → P
differs_unsaid m e = absurd (let z : ◌≡◌ {A = ℕ} 0 1 = cc in omega arith)

pub refused_unsaid : {x : Refusal} {P : Type 0} (m : ℕ) → Refused x ≡ Same m → P
refused_unsaid m e = absurd (let z : ◌≡◌ {A = ℕ} 0 1 = cc in omega arith)

-- ---- a strict reading that finished, written back

strict_gives : (z : Sizes) (xs : List ℕ) → Bytes xs → (h : transaction.Head) → (strict z xs).answer ≡ layout.finished h → Gives h (strict z xs).tables xs (length xs) × ((strict z xs).taken ≡ length xs)
unfolding written_length
strict_gives z xs bs h f =
    let i = (whole_exactly z xs bs).0 (h, f) in
    let x = i.0 in
    let b : Begins z xs x = record { allowed = i.1.allowed; fits = i.1.fits; rest = []; same = i.1.same ∙ sym (append-nil (contents_bytes x)) } in
    let same : strict z xs ≡ partial z xs = whole_accepted z xs x i.1 ∙ sym (accepted z xs x b) in
    let long : length (contents_bytes x) ≡ length xs = sym (ap (λ (l : List ℕ). length l) i.1.same) in
    let taken : (partial z xs).taken ≡ length xs = ap (λ (o : outcome.Outcome). o.taken) (accepted z xs x b) ∙ long in
    let fin : (partial z xs).answer ≡ layout.finished h = sym (ap (λ (o : outcome.Outcome). o.answer) same) ∙ f in
    let bytes : written_bytes h (partial z xs).tables xs ≡ xs = taken_written z xs h bs fin ∙ ap (λ (n : ℕ). take n xs) taken ∙ take-length xs in
    let gives : Gives h (partial z xs).tables xs (length xs) =
    record {
      passes = ap₂ (λ (g : writing_specs.Fault) (n : ℕ). writing_specs.verdict g n) (never_refused z xs h bs fin) (ap (λ (l : List ℕ). length l) bytes);
      same = bytes;
    } in
    (subst (λ (o : outcome.Outcome). Gives h o.tables xs (length xs)) (sym same) gives, ap (λ (o : outcome.Outcome). o.taken) same ∙ taken)

-- ---- what `written` returns

pub written_told :
    (h : transaction.Head) (t : Tables) (xs : List ℕ) {n : ℕ} {k : Result ℕ ℕ} {w : Outcome} → wrote n ≡ written_length h t xs
    → Goes xs (handed (written_length h t xs) (written_bytes h t xs)) (Ok 0) k → w ≡ told_of k n (length xs) → Rewritten h t xs w
written_told h t xs {n} {k} {w} p a e =
    let v = sym p in
    let goes : k ≡ along xs (written_bytes h t xs) (Ok 0) = a.goes ∙ ap (λ (l : List ℕ). along xs l (Ok 0)) (handed_all h t xs p) in
    record {
      says = λ m g.
          let number : n ≡ m = ap (λ (x : Verdict). elim x [ wrote j ↦ j | unwritten i j ↦ 0 ]) (sym v ∙ g.passes) in
          e
          ∙ ap (λ (x : Result ℕ ℕ). told_of x n (length xs)) (goes ∙ along_whole xs (written_bytes h t xs) g.same)
          ∙ ap (λ (b : Bool). cond b (Same n) (Different (length xs))) (eq-eqb (length xs) (length xs) refl)
          ∙ ap Same number;
      means = λ m s. meant k goes v m (sym e ∙ s);
    }
  where
    same_number : (n m : ℕ) → Same n ≡ Same m → n ≡ m
    same_number n m e = cc

    meant : (k : Result ℕ ℕ) → k ≡ along xs (written_bytes h t xs) (Ok 0) → written_length h t xs ≡ wrote n → (m : ℕ) → told_of k n (length xs) ≡ Same m → Gives h t xs m
    meant (Ok at) goes v m s =
        by_cases (eqb at (length xs))
        (λ y. record {
          passes = v ∙ ap wrote (same_number n m (sym (ap (λ (b : Bool). cond b (Same n) (Different at)) y) ∙ s));
          same = along_meant xs (written_bytes h t xs) at goes (eqb-true at (length xs) y);
        })
        (λ y. differs_unsaid m (sym (ap (λ (b : Bool). cond b (Same n) (Different at)) y) ∙ s))
    meant (Err at) goes v m s = differs_unsaid m s

-- ---- what `read` returns

pub read_finished :
    (t t' : Tables) (xs : List ℕ) (r : Read) (h : Head) (w : Outcome) → Bytes xs → whole_of r t' ≡ read_strict t xs → r.answer ≡ answer.Finished h
    → Rewritten (head_numbers h) t' xs w → Back (layout_sizes t) xs t' w
read_finished t t' xs r h w bs p e b =
    let z = layout_sizes t in
    let f : (strict z xs).answer ≡ layout.finished (head_numbers h) = sym (ap (λ (o : outcome.Outcome). o.answer) p) ∙ ap told e in
    let tables : t' ≡ (strict z xs).tables = ap (λ (o : outcome.Outcome). o.tables) p in
    let back = strict_gives z xs bs (head_numbers h) f in
    let same : w ≡ Same (strict z xs).taken =
    b.says (length xs) (subst (λ (u : Tables). Gives (head_numbers h) u xs (length xs)) (sym tables) back.0) ∙ ap Same (sym back.1)
    in
    record {
      says = subst (λ (a : layout.Answer transaction.Head). Says a (strict z xs).taken w) (sym f) same;
      means = λ n g. record { head = head_numbers h; finished = f; gives = b.means n g };
    }

pub read_more :
    (t t' : Tables) (xs : List ℕ) (r : Read) (x : Refusal) → whole_of r t' ≡ read_strict t xs → r.answer ≡ answer.More → x.kind ≡ EndsEarly → x.place ≡ r.taken
    → Back (layout_sizes t) xs t' (Refused x)
read_more t t' xs r x p e k n =
    let z = layout_sizes t in
    let f : (strict z xs).answer ≡ layout.more = sym (ap (λ (o : outcome.Outcome). o.answer) p) ∙ ap told e in
    let one : Refuses 1 (strict z xs).taken (Refused x) =
    record { refusal = x; said = refl; number = ap number_of k; place = n ∙ ap (λ (o : outcome.Outcome). o.taken) p }
    in
    record {
      says = subst (λ (a : layout.Answer transaction.Head). Says a (strict z xs).taken (Refused x)) (sym f) one;
      means = λ m q. refused_unsaid m q;
    }

pub read_refused : (t t' : Tables) (xs : List ℕ) (r : Read) (x : Refusal) → whole_of r t' ≡ read_strict t xs → r.answer ≡ answer.Refused x → Back (layout_sizes t) xs t' (Refused x)
read_refused t t' xs r x p e =
    let z = layout_sizes t in
    let f : (strict z xs).answer ≡ layout.refused (number_of x.kind) x.place = sym (ap (λ (o : outcome.Outcome). o.answer) p) ∙ ap told e in
    let says : Refuses (number_of x.kind) x.place (Refused x) = record { refusal = x; said = refl; number = refl; place = refl } in
    record {
      says = subst (λ (a : layout.Answer transaction.Head). Says a (strict z xs).taken (Refused x)) (sym f) says;
      means = λ m g. refused_unsaid m g;
    }
