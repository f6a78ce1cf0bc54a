-- Counts, lengths and widths: wrong answers of the small functions.
use Prim.Native.Nat.{ℕ, ◌+◌}
use mathlib.Core.Path.{◌≡◌, refl, sym, ◌∙◌}
use mathlib.Core.Bool.{Bool, cond}
use mathlib.Core.List.{List}
use lib.Dec.{leb, eqb}
use lib.ListN.{get_or}
use Rattle.layout.specs.Layout.{Answer, finished, more, refused}
use Rattle.layout.specs.Transaction.{announced, least}
use Rattle.encode.specs.Count.{counted}
use Rattle.confidential.specs.Width.{value_width, asset_width, nonce_width}
use Rattle.loads.proofs.Loads.{hex}
use Rattle.wrong.proofs.Loads.{computes, apart}

-- a refusal's number, or 100 and the value
abbrev number : Answer ℕ → ℕ
number (finished n) = 100 + n
number more = 0
number (refused n p) = n

abbrev case : Answer ℕ → ℕ
case (finished n) = 0
case more = 2
case (refused n p) = 1

-- programs give 01's own answers: a refusal may have any number, not only a kind's
abbrev Wrong : (List ℕ → Answer ℕ) → List ℕ → Type 0
Wrong p xs = p xs ≡ counted xs → ⊥

-- the first byte is always the value: no length above 252 would be read
abbrev first_byte : List ℕ → Answer ℕ
first_byte xs = finished (get_or xs 0 0)

pub first_byte_wrong : Wrong first_byte (hex "fe00000100")
unfolding computes
first_byte_wrong = apart number 354 65636 refl refl refl

-- refuses all, by any number and place
abbrev refusing : ℕ → ℕ → List ℕ → Answer ℕ
refusing n p xs = refused n p

pub refusing_wrong : (n p : ℕ) → Wrong (refusing n p) (hex "fc")
unfolding computes
refusing_wrong n p = apart case 1 0 refl refl refl

-- any form passes: one count would have two writings
abbrev any_form : List ℕ → Answer ℕ
any_form xs = cond (eqb (number (counted xs)) 3) (finished 252) (counted xs)

pub any_form_wrong : Wrong any_form (hex "fdfc00")
unfolding computes
any_form_wrong = apart number 352 3 refl refl refl

-- a cut count is 0: a cut transaction would be misread
abbrev cut_is_none : List ℕ → Answer ℕ
cut_is_none xs = cond (eqb (number (counted xs)) 1) (finished 0) (counted xs)

pub cut_is_none_wrong : Wrong cut_is_none (hex "fdfd")
unfolding computes
cut_is_none_wrong = apart number 100 1 refl refl refl

-- always the same width, whatever it is: null and explicit differ
pub value_same_wrong : (w : ℕ) → w ≡ value_width 0 → w ≡ value_width 1 → ⊥
value_same_wrong w e e' = apart (λ (n : ℕ). n) 1 9 refl refl refl (sym e ∙ e')

pub asset_same_wrong : (w : ℕ) → w ≡ asset_width 0 → w ≡ asset_width 1 → ⊥
asset_same_wrong w e e' = apart (λ (n : ℕ). n) 1 33 refl refl refl (sym e ∙ e')

pub nonce_same_wrong : (w : ℕ) → w ≡ nonce_width 0 → w ≡ nonce_width 1 → ⊥
nonce_same_wrong w e e' = apart (λ (n : ℕ). n) 1 33 refl refl refl (sym e ∙ e')

-- a value's width for all: an asset's prefix 1 would be an amount
pub asset_as_value_wrong : value_width 1 ≡ asset_width 1 → ⊥
asset_as_value_wrong = apart (λ (n : ℕ). n) 9 33 refl refl refl

-- any prefix is taken: a value's 2, an asset's 2, a nonce's 4
abbrev any_prefix : ℕ → ℕ
any_prefix p = cond (eqb p 0) 1 33

pub value_any_wrong : any_prefix 2 ≡ value_width 2 → ⊥
value_any_wrong = apart (λ (n : ℕ). n) 33 0 refl refl refl

pub asset_any_wrong : any_prefix 2 ≡ asset_width 2 → ⊥
asset_any_wrong = apart (λ (n : ℕ). n) 33 0 refl refl refl

pub nonce_any_wrong : any_prefix 4 ≡ nonce_width 4 → ⊥
nonce_any_wrong = apart (λ (n : ℕ). n) 33 0 refl refl refl

-- always the same announcement; and a test of the shortest form that always passes, or never
pub announced_same_wrong : (n : ℕ) → n ≡ announced 253 → n ≡ announced 254 → ⊥
announced_same_wrong n e e' = apart (λ (k : ℕ). k) 2 4 refl refl refl (sym e ∙ e')

abbrev bit : Bool → ℕ
bit b = cond b 1 0

pub shortest_same_wrong : (b : Bool) → b ≡ leb (least 2) 252 → b ≡ leb (least 2) 253 → ⊥
shortest_same_wrong b e e' = apart bit 0 1 refl refl refl (sym e ∙ e')
