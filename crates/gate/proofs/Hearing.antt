-- What was read from the input so far, and what the reader holds of it; where the reading stops, the line is the strict form's.
use Prim.Native.Nat.{ℕ, zero, suc, ◌+◌, ◌-◌, ◌<◌, ◌≤◌}
use mathlib.Core.Path.{◌≡◌, refl, sym, ◌∙◌, ap, ap₂, subst}
use mathlib.Core.Bool.{Bool, true, false, cond}
use mathlib.Core.List.{List, [], ◌∷◌, ◌++◌}
use native.Mathlib.Nat.{zero-add}
use native.Mathlib.Omega.{arith}
use lib.ListN.{length, take, length-append}
use borrow.Author.Tests.{lt-ltb, le-ltb}
use Rattle.layout.specs.Number.{Bytes}
use Rattle.layout.specs.Layout as layout
use Rattle.layout.specs.Transaction.{Head, transaction}
use Rattle.layout.specs.Outcome as outcome
use Rattle.layout.specs.Outcome.{Tables, partial, at_once, strict, reading_of}
use Rattle.layout.proofs.Reading as of_reading
use Rattle.layout.proofs.Theorems as of_layout
use Rattle.decoders.specs.declared.Fed.{Fed}
use Rattle.decoders.specs.Machine.{State, Machine, machine, fresh}
use Rattle.decoders.specs.Feeding.{cleared, layout_sizes, begun, told, Out, out_of, pushed, ended}
use Rattle.decoders.proofs.Feeds.{Lengths}
use Rattle.decoders.proofs.Fresh.{after, reads, cleared_lengths, zero_lengths}
use Rattle.decoders.proofs.Theorems.{feeding, join, feeding_held, call_reads, finish_reads}
use Rattle.gate.specs.declared.Line.{Line}
use Rattle.gate.specs.Verdict.{line_of, verdict_of, is_refused, EndedAt, SettledAt}

-- the bytes read so far were all taken, and state and tables are those of a reading of them
pub record Heard (t : Tables) (s : State) (u : Tables) : Type 0 where
  pub read : List ℕ
  pub bytes : Bytes read
  pub state : s ≡ (after t read bytes).state
  pub tables : u ≡ (partial (layout_sizes t) read).tables
  pub taken : (partial (layout_sizes t) read).taken ≡ length read

-- ---- the fresh start

pub begun_lengths : (t u : Tables) → u ≡ cleared t → Lengths t u
begun_lengths t u e = subst (λ (x : Tables). Lengths t x) (sym e) (zero_lengths t)

pub sizes_alike : (t u : Tables) → Lengths t u → layout_sizes u ≡ layout_sizes t
sizes_alike t u l = λ i. record { inputs = l.inputs i; outputs = l.outputs i; items = l.items i }

pub fresh_alike : (t u : Tables) → Lengths t u → begun u ≡ begun t
fresh_alike t u l = ap₂ (λ (z : _) (x : Tables). machine (fresh z) x) (λ i. record { inputs = l.inputs i; outputs = l.outputs i; items = l.items i }) (cleared_lengths t u l)

pub fresh_sizes : (t u : Tables) (d : State) → machine d u ≡ begun t → layout_sizes u ≡ layout_sizes t
fresh_sizes t u d e = sizes_alike t u (begun_lengths t u (ap (λ (m : Machine). m.tables) e))

pub no_bytes : Bytes []
no_bytes i = omega arith

unfoldable pub fresh_heard : (t u : Tables) (d : State) → machine d u ≡ begun t → Heard u d u
unfolding feeding join
fresh_heard t u d e =
    let again : machine d u ≡ begun u = e ∙ sym (fresh_alike t u (begun_lengths t u (ap (λ (m : Machine). m.tables) e))) in
    let held = feeding_held u [] no_bytes in
    record {
      read = [];
      bytes = no_bytes;
      state = ap (λ (m : Machine). m.state) again ∙ held.0;
      tables = ap (λ (m : Machine). m.tables) again ∙ held.1;
      taken = omega (arith, of_reading.taken_there (transaction (outcome.room_of (layout_sizes u))) []);
    }

-- ---- one more piece

pub bytes_append : (xs ys : List ℕ) → Bytes xs → Bytes ys → Bytes (xs ++ ys)
bytes_append [] ys p q i = q i
bytes_append (x ∷ xs) ys p q zero = p zero
bytes_append (x ∷ xs) ys p q (suc i) = bytes_append xs ys (λ j. p (suc j)) q i

-- what is known of a call on what was heard
pub record Told (t : Tables) (xs : List ℕ) (q : Bytes xs) (n : ℕ) (o : Out) : Type 0 where
  pub decoder : o.state ≡ (after t xs q).state
  pub taken : o.taken ≡ (partial (layout_sizes t) xs).taken - n
  pub answer : o.answer ≡ (partial (layout_sizes t) xs).answer
  pub tables : o.tables ≡ (partial (layout_sizes t) xs).tables

pub called : (t u : Tables) (s : State) (p : List ℕ) (o : Out) (h : Heard t s u) (q : Bytes (h.read ++ p)) → o ≡ pushed s u p → Told t (h.read ++ p) q (partial (layout_sizes t) h.read).taken o
called t u s p o h q e =
    let w : o ≡ _ = e ∙ ap₂ (λ (x : State) (y : Tables). pushed x y p) h.state h.tables ∙ call_reads t h.read h.bytes p q in
    record {
      decoder = ap (λ (x : Out). x.state) w;
      taken = ap (λ (x : Out). x.taken) w;
      answer = ap (λ (x : Out). x.answer) w;
      tables = ap (λ (x : Out). x.tables) w;
    }

pub state_taken : (t : Tables) (xs : List ℕ) (q : Bytes xs) → (after t xs q).state.taken ≡ (partial (layout_sizes t) xs).taken
state_taken t xs q = (reads t xs q).taken ∙ zero-add (reading_of (layout_sizes t) xs).taken

pub most : (z : outcome.Sizes) (xs : List ℕ) → (partial z xs).taken ≤ length xs
most z xs = of_reading.taken_there (transaction (outcome.room_of z)) xs

-- ---- the line of an answer

pub line_follows : (a : layout.Answer Head) (n there : ℕ) → n < there → (a ≡ layout.more → ⊥) → verdict_of a n true ≡ line_of (outcome.follow (outcome.finish a n) n there)
line_follows (layout.finished h) n there l m = rw (lt-ltb n there l)
line_follows layout.more n there l m = absurd (m refl)
line_follows (layout.refused k p) n there l m = refl

pub refused_not : (b : Bool) → b ≡ false → b ≡ true → ⊥
refused_not b f t = let z : ◌≡◌ {A = ℕ} 0 1 = ap (λ (x : Bool). cond x 1 0) (sym f ∙ t) in omega (arith, z)

pub line_refused : (a : layout.Answer Head) (n there : ℕ) (b : Bool) → is_refused a ≡ true → verdict_of a n b ≡ line_of (outcome.follow (outcome.finish a n) n there)
line_refused (layout.finished h) n there b e = absurd (refused_not false refl e)
line_refused layout.more n there b e = absurd (refused_not false refl e)
line_refused (layout.refused k p) n there b e = refl

pub line_ends : (a : layout.Answer Head) (n : ℕ) → verdict_of (outcome.finish a n) n false ≡ line_of (outcome.follow (outcome.finish a n) n n)
line_ends (layout.finished h) n = rw (le-ltb n n (omega arith))
line_ends layout.more n = refl
line_ends (layout.refused k p) n = refl

pub refused_more : (a : layout.Answer Head) → is_refused a ≡ true → a ≡ layout.more → ⊥
refused_more a e m = refused_not false refl (sym (ap is_refused m) ∙ e)

-- the strict form's answer, whatever follows a reading that doesn't want more
pub strict_stable : (z : outcome.Sizes) (xs ys : List ℕ) → ((partial z xs).answer ≡ layout.more → ⊥) → (strict z (xs ++ ys)).answer ≡ outcome.follow (outcome.finish (partial z xs).answer (partial z xs).taken) (partial z xs).taken (length (xs ++ ys))
strict_stable z xs ys m =
    ap (λ (r : layout.Reading Head). outcome.follow (outcome.finish r.answer r.taken) r.taken (length (xs ++ ys))) (of_layout.stable z xs ys m)

-- ---- a piece

module _ (t u : Tables) (s : State) (p : List ℕ) (q : Bytes p) (o : Out) (h : Heard t s u) (e : o ≡ pushed s u p) where
  abbrev pub all : List ℕ
  all = h.read ++ p

  pub all_bytes : Bytes all
  all_bytes = bytes_append h.read p h.bytes q

  pub tells : Told t all all_bytes (partial (layout_sizes t) h.read).taken o
  tells = called t u s p o h all_bytes e

  pub all_length : length all ≡ length h.read + length p
  all_length = length-append h.read p

  pub decoder_taken : o.state.taken ≡ (partial (layout_sizes t) all).taken
  decoder_taken = ap (λ (x : State). x.taken) tells.decoder ∙ state_taken t all all_bytes

  -- taken entire: it is heard
  unfoldable pub heard_on : 1 ≤ length p → length p ≤ o.taken → Heard t o.state o.tables
  heard_on some entire =
      record {
        read = all;
        bytes = all_bytes;
        state = tells.decoder;
        tables = tells.tables;
        taken = omega (arith, most (layout_sizes t) all, all_length, tells.taken, h.taken);
      }

  -- and less is left of the 4,000,001 bytes that a reading can't take
  pub heard_less : 1 ≤ length p → length p ≤ o.taken → 4000001 - o.state.taken < 4000001 - s.taken
  heard_less some entire =
      omega (arith, tells.taken, decoder_taken, ap (λ (x : State). x.taken) h.state ∙ state_taken t h.read h.bytes, of_layout.taken_limit (layout_sizes t) all all_bytes)

  -- not taken entire: bytes follow a reading that ended
  unfoldable pub settled_follows : o.taken < length p → SettledAt (layout_sizes t) (verdict_of o.answer o.state.taken true)
  settled_follows short =
      record {
        read = all;
        bytes = all_bytes;
        told = λ ys.
            ap₂ (λ (a : layout.Answer Head) (n : ℕ). verdict_of a n true) tells.answer decoder_taken
            ∙ line_follows (partial (layout_sizes t) all).answer (partial (layout_sizes t) all).taken (length (all ++ ys)) (omega (arith, less, length-append all ys)) not_more
            ∙ sym (ap line_of (strict_stable (layout_sizes t) all ys not_more));
      }
    where
      less : (partial (layout_sizes t) all).taken < length all
      less = omega (arith, tells.taken, h.taken, all_length)

      not_more : (partial (layout_sizes t) all).answer ≡ layout.more → ⊥
      not_more m = omega (arith, less, of_layout.takes_all (layout_sizes t) all m)

  -- a refusal
  unfoldable pub settled_refused : is_refused o.answer ≡ true → SettledAt (layout_sizes t) (verdict_of o.answer o.state.taken false)
  settled_refused w =
      record {
        read = all;
        bytes = all_bytes;
        told = λ ys.
            ap₂ (λ (a : layout.Answer Head) (n : ℕ). verdict_of a n false) tells.answer decoder_taken
            ∙ line_refused (partial (layout_sizes t) all).answer (partial (layout_sizes t) all).taken (length (all ++ ys)) false is_refused_lem
            ∙ sym (ap line_of (strict_stable (layout_sizes t) all ys (refused_more (partial (layout_sizes t) all).answer is_refused_lem)));
      }
    where
      is_refused_lem : is_refused (partial (layout_sizes t) all).answer ≡ true
      is_refused_lem = sym (ap is_refused tells.answer) ∙ w

-- ---- the input's end

unfoldable pub heard_ends : (t u : Tables) (s : State) (o : Out) (h : Heard t s u) → o ≡ ended s u → EndedAt (layout_sizes t) (verdict_of o.answer s.taken false)
heard_ends t u s o h e =
    let a = (partial (layout_sizes t) h.read).answer in
    let n = (partial (layout_sizes t) h.read).taken in
    let w : o ≡ _ = e ∙ ap₂ ended h.state h.tables ∙ finish_reads t h.read h.bytes in
    record {
      read = h.read;
      bytes = h.bytes;
      told =
          ap₂ (λ (x : layout.Answer Head) (k : ℕ). verdict_of x k false) (ap (λ (x : Out). x.answer) w) (ap (λ (x : State). x.taken) h.state ∙ state_taken t h.read h.bytes)
          ∙ line_ends a n
          ∙ ap (λ (k : ℕ). line_of (outcome.follow (outcome.finish a n) n k)) h.taken;
    }

-- ---- as `listen` has it: t₀ are the tables after the fresh start on t, and l is what `verdict` gave

pub bytes_take : (n : ℕ) (xs : List ℕ) → Bytes xs → Bytes (take n xs)
bytes_take zero xs q i = omega arith
bytes_take (suc n) [] q i = omega arith
bytes_take (suc n) (x ∷ xs) q zero = q zero
bytes_take (suc n) (x ∷ xs) q (suc i) = bytes_take n xs (λ j. q (suc j)) i

pub line_ended : (t t₀ u v : Tables) (d s : State) (r : Fed) (l : Line) → machine d t₀ ≡ begun t → Heard t₀ s u → out_of r v ≡ ended s u → l ≡ verdict_of (told r.answer) s.taken false → EndedAt (layout_sizes t) l
line_ended t t₀ u v d s r l f h e w =
    subst (λ (z : outcome.Sizes). EndedAt z l) (fresh_sizes t t₀ d f) (subst (λ (x : Line). EndedAt (layout_sizes t₀) x) (sym w) (heard_ends t₀ u s (out_of r v) h e))

module _ (t t₀ u v : Tables) (d s : State) (n : ℕ) (xs : List ℕ) (q : Bytes xs) (r : Fed) (f : machine d t₀ ≡ begun t) (h : Heard t₀ s u) (e : out_of r v ≡ pushed s u (take n xs)) (c : n ≡ length (take n xs)) where
  pub line_follows_read : (l : Line) → r.taken < n → l ≡ verdict_of (told r.answer) r.decoder.taken true → SettledAt (layout_sizes t) l
  line_follows_read l short w =
      subst (λ (z : outcome.Sizes). SettledAt z l) (fresh_sizes t t₀ d f)
      (subst (λ (x : Line). SettledAt (layout_sizes t₀) x) (sym w) (settled_follows t₀ u s (take n xs) (bytes_take n xs q) (out_of r v) h e (omega (arith, c))))

  pub line_refused_read : (l : Line) → is_refused (told r.answer) ≡ true → l ≡ verdict_of (told r.answer) r.decoder.taken false → SettledAt (layout_sizes t) l
  line_refused_read l k w =
      subst (λ (z : outcome.Sizes). SettledAt z l) (fresh_sizes t t₀ d f)
      (subst (λ (x : Line). SettledAt (layout_sizes t₀) x) (sym w) (settled_refused t₀ u s (take n xs) (bytes_take n xs q) (out_of r v) h e k))

  pub read_on : (n ≡ 0 → ⊥) → n ≤ r.taken → Heard t₀ r.decoder v
  read_on some entire = heard_on t₀ u s (take n xs) (bytes_take n xs q) (out_of r v) h e (omega (arith, c)) (omega (arith, c))

  pub read_less : (n ≡ 0 → ⊥) → n ≤ r.taken → 4000001 - r.decoder.taken < 4000001 - s.taken
  read_less some entire = heard_less t₀ u s (take n xs) (bytes_take n xs q) (out_of r v) h e (omega (arith, c)) (omega (arith, c))
