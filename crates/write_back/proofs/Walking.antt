-- Laws of walking along the source.
use Rattle.std.proofs.Common.{ℕ, suc, ◌+◌, ◌-◌, ◌≤◌, ◌<◌, ◌≡◌, refl, sym, ◌∙◌, ap, ap₂, true, false, ◌&&◌, List, [], ◌∷◌, length, take, drop, get_or, Result, Ok, Err, add-one, arith}
use lib.Dec.{ltb, eqb}
use lib.Seq.{drop-cons, take-length}
use borrow.Author.Tests.{lt-ltb, le-ltb, ltb-true, eq-eqb, ne_eqb, eqb-true}
use Rattle.layout.proofs.Judging.{and_true}
use Rattle.layout.proofs.Reading.{by_cases}
use Rattle.encoders.specs.Sinks as sinks
use Rattle.encoders.specs.Sinks.{Took}
use Rattle.write_back.specs.declared.beside.Beside.{Beside}
use Rattle.write_back.specs.Beside.{step, along, Goes}
use Rattle.write_back.specs.Held.{held}

-- ---- what the sink took is a walk

held_along : (bytes : List ℕ) (s : Beside) → sinks.along held bytes s ≡ record s { reached = along s.source.now bytes s.reached }
unfolding sinks.along along
held_along [] s = refl
held_along (b ∷ bytes) s = held_along bytes (held s b)

pub walked : {bytes : List ℕ} {s t : Beside} → Took held bytes s t → Goes s.source.now bytes s.reached t.reached
walked {bytes} {s} p = record { goes = ap (λ (t : Beside). t.reached) (p.took ∙ held_along bytes s) }

-- ---- one byte

stepped : (s : List ℕ) (b k : ℕ) → (ltb k (length s) && eqb (get_or s k 0) b) ≡ true → step s b (Ok k) ≡ Ok (k + 1)
unfolding step
stepped s b k e = rw e

stopped : (s : List ℕ) (b k : ℕ) → (ltb k (length s) && eqb (get_or s k 0) b) ≡ false → step s b (Ok k) ≡ Err k
unfolding step
stopped s b k e = rw e

reaches : (b : ℕ) (s : Beside) (r : Result ℕ ℕ) → r ≡ step s.source.now b s.reached → Took held (b ∷ []) s (record s { reached = r })
unfolding sinks.along
reaches b s r e = record { took = ap (λ (r : Result ℕ ℕ). record s { reached = r }) e }

module _ (b : ℕ) (s : Beside) where
  pub byte_ended : (k : ℕ) → s.reached ≡ Err k → Took held (b ∷ []) s s
  unfolding step
  byte_ended k e = reaches b s s.reached (e ∙ sym (ap (step s.source.now b) e))

  pub byte_same : (k : ℕ) → s.reached ≡ Ok k → k < length s.source.now → get_or s.source.now k 0 ≡ b → Took held (b ∷ []) s (record s { reached = Ok (k + 1) })
  byte_same k e p q = reaches b s (Ok (k + 1)) (sym (ap (step s.source.now b) e ∙ stepped s.source.now b k (rw (lt-ltb k (length s.source.now) p, eq-eqb (get_or s.source.now k 0) b q))))

  pub byte_past : (k : ℕ) → s.reached ≡ Ok k → length s.source.now ≤ k → Took held (b ∷ []) s (record s { reached = Err k })
  byte_past k e p = reaches b s (Err k) (sym (ap (step s.source.now b) e ∙ stopped s.source.now b k (rw (le-ltb k (length s.source.now) p))))

  pub byte_other : (k : ℕ) → s.reached ≡ Ok k → k < length s.source.now → (get_or s.source.now k 0 ≡ b → ⊥) → Took held (b ∷ []) s (record s { reached = Err k })
  byte_other k e p q = reaches b s (Err k) (sym (ap (step s.source.now b) e ∙ stopped s.source.now b k (rw (lt-ltb k (length s.source.now) p, ne_eqb (get_or s.source.now k 0) b q))))

-- ---- where the walk ends

-- along the source's own bytes from k on
along_own : (s bs : List ℕ) (k : ℕ) → take (length bs) (drop k s) ≡ bs → k + length bs ≤ length s → along s bs (Ok k) ≡ Ok (k + length bs)
unfolding along
along_own s [] k e h = ap (λ (n : ℕ). Ok n) (omega arith)
along_own s (b ∷ bs) k e h =
    let here : k < length s = omega arith in
    let cons : drop k s ≡ get_or s k 0 ∷ drop (suc k) s = drop-cons s k 0 here in
    let both : get_or s k 0 ∷ take (length bs) (drop (suc k) s) ≡ b ∷ bs = sym (ap (take (suc (length bs))) cons) ∙ e in
    let first : get_or s k 0 ≡ b = cc in
    let others : take (length bs) (drop (suc k) s) ≡ bs = cc in
    let test : (ltb k (length s) && eqb (get_or s k 0) b) ≡ true = rw (lt-ltb k (length s) here, eq-eqb (get_or s k 0) b first) in
    ap (along s bs) (stepped s b k test ∙ ap (λ (n : ℕ). Ok n) (add-one k)) ∙ along_own s bs (suc k) others (omega arith) ∙ ap (λ (n : ℕ). Ok n) (omega arith)

-- a part, held beside the source in one piece
pub part_same :
    (bytes : List ℕ) (s : Beside) (k end : ℕ) → s.reached ≡ Ok k → end ≡ k + length bytes → end ≤ length s.source.now → take (end - k) (drop k s.source.now) ≡ bytes
    → Took held bytes s (record s { reached = Ok end })
part_same bytes s k end e ends room same =
    let long : end - k ≡ length bytes = omega arith in
    let own : along s.source.now bytes s.reached ≡ Ok (k + length bytes) =
    ap (along s.source.now bytes) e ∙ along_own s.source.now bytes k (ap (λ (n : ℕ). take n (drop k s.source.now)) (sym long) ∙ same) (omega arith)
    in
    record { took = ap (λ (r : Result ℕ ℕ). record s { reached = r }) (ap (λ (n : ℕ). Ok n) ends ∙ sym own) ∙ sym (held_along bytes s) }

-- The written bytes are the source: the walk ends at its end, and all was the same.
pub along_whole : (s bs : List ℕ) → bs ≡ s → along s bs (Ok 0) ≡ Ok (length s)
along_whole s bs e =
    let long : length bs ≡ length s = ap length e in
    along_own s bs 0 (ap (λ (n : ℕ). take n s) long ∙ take-length s ∙ sym e) (omega arith) ∙ ap (λ (n : ℕ). Ok n) (omega arith)

-- And the other way round: where a walk ends well, the bytes were those of the source.
along_stuck : (s bs : List ℕ) (k : ℕ) → along s bs (Err k) ≡ Err k
unfolding along step
along_stuck s [] k = refl
along_stuck s (b ∷ bs) k = along_stuck s bs k

pub record Met (s bs : List ℕ) (k end : ℕ) : Type 0 where
  pub at : end ≡ k + length bs
  pub same : take (length bs) (drop k s) ≡ bs

along_met : (s bs : List ℕ) (k at : ℕ) → along s bs (Ok k) ≡ Ok at → Met s bs k at
unfolding along
along_met s [] k at e = let z : k ≡ at = cc in record { at = omega arith; same = refl }
along_met s (b ∷ bs) k at e =
    by_cases (ltb k (length s) && eqb (get_or s k 0) b)
    (λ t.
    let m = along_met s bs (k + 1) at (sym (ap (along s bs) (stepped s b k t)) ∙ e) in
    let here : k < length s = ltb-true k (length s) (and_true (ltb k (length s)) (eqb (get_or s k 0) b) t).0 in
    let is : get_or s k 0 ≡ b = eqb-true (get_or s k 0) b (and_true (ltb k (length s)) (eqb (get_or s k 0) b) t).1 in
    record {
      at = omega (arith, m.at);
      same = ap (take (suc (length bs))) (drop-cons s k 0 here) ∙ ap₂ (λ (y : ℕ) (l : List ℕ). y ∷ l) is (ap (λ (n : ℕ). take (length bs) (drop n s)) (sym (add-one k)) ∙ m.same);
    })
    (λ t. absurd (let z : Err k ≡ Ok at = sym (along_stuck s bs k) ∙ sym (ap (along s bs) (stopped s b k t)) ∙ e in let y : ◌≡◌ {A = ℕ} 0 1 = cc in omega arith))

pub along_meant : (s bs : List ℕ) (at : ℕ) → Ok at ≡ along s bs (Ok 0) → at ≡ length s → bs ≡ s
along_meant s bs at e q =
    let m = along_met s bs 0 at (sym e) in
    let long : length bs ≡ length s = omega (arith, m.at) in
    sym m.same ∙ ap (λ (n : ℕ). take n s) long ∙ take-length s
