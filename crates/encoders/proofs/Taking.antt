-- Laws of what a sink took, whatever it makes of a byte: one part behind the other, the same bytes in other words, a loop.
use Rattle.std.proofs.Common.{ℕ, ◌+◌, ◌≤◌, ◌<◌, ◌≡◌, refl, sym, ◌∙◌, ap, subst, List, [], ◌∷◌, ◌++◌, length, take, get_or, append_assoc, append-nil, arith}
use lib.Seq.{take_all}
use Rattle.std.proofs.lemmas.List.{take_more}
use Rattle.layout.specs.Contents.{flat}
use Rattle.encoders.specs.Sinks.{along, Took}

along_append : {S : Type 0} (step : S → ℕ → S) (xs ys : List ℕ) (s : S) → along step (xs ++ ys) s ≡ along step ys (along step xs s)
unfolding along
along_append step [] ys s = refl
along_append step (x ∷ xs) ys s = along_append step xs ys (step s x)

module _ {S : Type 0} {step : S → ℕ → S} where
  -- in two calls
  pub both : {xs ys : List ℕ} {s t u : S} → Took step xs s t → Took step ys t u → Took step (xs ++ ys) s u
  both {xs} {ys} {s} p q = record { took = q.took ∙ ap (along step ys) p.took ∙ sym (along_append step xs ys s) }

  -- the same bytes in other words
  pub as_bytes : {xs ys : List ℕ} {s t : S} → ys ≡ xs → Took step xs s t → Took step ys s t
  as_bytes {xs} {ys} {s} {t} e p = subst (λ (l : List ℕ). Took step l s t) (sym e) p

  pub none : {s : S} → Took step [] s s
  unfolding along
  none = record { took = refl }

pub one : {S : Type 0} (step : S → ℕ → S) (b : ℕ) (s : S) → Took step (b ∷ []) s (step s b)
unfolding along
one step b s = record { took = refl }

-- ---- a loop: of each thing its bytes, i things so far

pub flat_append : {X : Type 0} (f : X → List ℕ) (xs ys : List X) → flat f (xs ++ ys) ≡ flat f xs ++ flat f ys
unfolding flat
flat_append f [] ys = refl
flat_append f (x ∷ xs) ys = ap (λ (l : List ℕ). f x ++ l) (flat_append f xs ys) ∙ sym (append_assoc (f x) (flat f xs) (flat f ys))

flat_more : {X : Type 0} (f : X → List ℕ) (xs : List X) (i : ℕ) (x : X) → i < length xs → flat f (take (i + 1) xs) ≡ flat f (take i xs) ++ f (get_or xs i x)
unfolding flat
flat_more f xs i x h = ap (flat f) (take_more xs i x h) ∙ flat_append f (take i xs) (get_or xs i x ∷ []) ∙ ap (λ (l : List ℕ). flat f (take i xs) ++ l) (append-nil (f (get_or xs i x)))

pub record Turn {S X : Type 0} (step : S → ℕ → S) (f : X → List ℕ) (xs : List X) (i : ℕ) (s t : S) : Type 0 where
  pub at : i ≤ length xs
  pub took : Took step (flat f (take i xs)) s t

module _ {S X : Type 0} {step : S → ℕ → S} {f : X → List ℕ} {xs : List X} where
  pub turn_start : {s : S} → Turn step f xs 0 s s
  unfolding flat
  turn_start = record { at = omega arith; took = none }

  pub turn_next : {i : ℕ} {s t u : S} (x : X) → i < length xs → Turn step f xs i s t → Took step (f (get_or xs i x)) t u → Turn step f xs (i + 1) s u
  turn_next {i} x h w p = record { at = omega arith; took = as_bytes (flat_more f xs i x h) (both w.took p) }

  pub turn_end : {i : ℕ} {s t : S} → length xs ≤ i → Turn step f xs i s t → Took step (flat f xs) s t
  turn_end {i} h w = as_bytes (ap (flat f) (sym (take_all i xs h))) w.took

-- bytes as a loop over them hands them on
pub each_byte : (bytes : List ℕ) → flat (λ b. b ∷ []) bytes ≡ bytes
unfolding flat
each_byte [] = refl
each_byte (b ∷ bytes) = ap (λ (l : List ℕ). b ∷ l) (each_byte bytes)
