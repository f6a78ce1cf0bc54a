-- Records of a table: what holds of each, and their bytes.
use Rattle.std.proofs.Common.{ℕ, zero, suc, ◌+◌, ◌<◌, ◌≤◌, ◌≡◌, refl, sym, ◌∙◌, ap, ap₂, subst, List, [], ◌∷◌, ◌++◌, map, length, take, drop, get_or, arith}
use lib.ListN.{length-map, length-drop}
use lib.Seq.{length-take-le}
use Rattle.std.proofs.lemmas.List.{take-map, drop-map}
use Rattle.layout.specs.Contents.{Every, flat, compact_bytes, list_bytes}

-- ---- what holds of each

pub every_map : {X : Type 0} {P Q : X → Type 0} → ((x : X) → P x → Q x) → (xs : List X) → Every P xs → Every Q xs
every_map f [] e = tt
every_map f (x ∷ xs) e = (f x e.0, every_map f xs e.1)

-- the same list in other words
pub every_of : {X : Type 0} (P : X → Type 0) {xs ys : List X} → xs ≡ ys → Every P ys → Every P xs
every_of P e h = subst (Every P) (sym e) h

-- what holds of each holds of the i-th
pub every_at : {X : Type 0} (P : X → Type 0) (xs : List X) (i : ℕ) (x : X) → i < length xs → Every P xs → P (get_or xs i x)
every_at P [] i x h e = absurd (omega arith)
every_at P (y ∷ xs) zero x h e = e.0
every_at P (y ∷ xs) (suc i) x h e = every_at P xs i x (omega arith) e.1

-- ---- their bytes

pub flat_map : {X Y : Type 0} (f : X → List ℕ) (g : Y → X) (rs : List Y) → flat f (map g rs) ≡ flat (λ r. f (g r)) rs
unfolding flat
flat_map f g [] = refl
flat_map f g (r ∷ rs) = ap (λ (l : List ℕ). f (g r) ++ l) (flat_map f g rs)

pub list_bytes_lem : {X Y : Type 0} (f : X → List ℕ) (g : Y → X) (n : ℕ) (rs : List Y) → length rs ≡ n → list_bytes f (map g rs) ≡ compact_bytes n ++ flat (λ r. f (g r)) rs
unfolding list_bytes
list_bytes_lem f g n rs e = ap₂ (λ (m : ℕ) (l : List ℕ). compact_bytes m ++ l) (length-map rs g ∙ e) (flat_map f g rs)

-- a stack, from the first on, as the code lends it
pub stack_bytes : {X Y : Type 0} (f : X → List ℕ) (g : Y → X) (first n k : ℕ) (rs : List Y) → k ≡ n → first + n ≤ length rs
    → list_bytes f (take n (drop first (map g rs))) ≡ compact_bytes n ++ flat (λ r. f (g r)) (take k (drop first rs))
stack_bytes f g first n k rs e held =
    ap (list_bytes f) (ap (take n) (drop-map g first rs) ∙ take-map g n (drop first rs) ∙ ap (λ (m : ℕ). map g (take m (drop first rs))) (sym e))
    ∙ list_bytes_lem f g n (take k (drop first rs)) (length-take-le k (drop first rs) (omega (arith, length-drop first rs)) ∙ e)
