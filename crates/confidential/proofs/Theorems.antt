-- Any two results that a promise allows are equal. `Post` is the promise itself, as the check reads it off the function's clauses; it
-- speaks of the lifetimes, the arguments, the result, and the arguments at exit, and here of the kind of field: of any, and of each of the three.
use Rattle.std.specs.Prelude.{◌≡◌, ℕ, Option, None, Some, refl}
use Rattle.std.proofs.Common.{zero, suc, sym, subst, ◌∙◌, ap, ◌↔◌}
use borrow.Author.Tests.{ne_eqb}
use Rattle.confidential.specs.Width.{value_width, asset_width, nonce_width, listed}
use Rattle.confidential.specs.contracts.value.Value as value
use Rattle.confidential.specs.contracts.value.ValueConfidential.TheImpl as value_impl
use Rattle.confidential.specs.contracts.asset.Asset as asset
use Rattle.confidential.specs.contracts.asset.AssetConfidential.TheImpl as asset_impl
use Rattle.confidential.specs.contracts.nonce.Nonce as nonce
use Rattle.confidential.specs.contracts.nonce.NonceConfidential.TheImpl as nonce_impl
use Rattle.confidential.proofs.width.Reads as width

pub one_outcome_width : (K : _) (laws : _) (ghosts : _) (dict : _) (κ : _) (args : _) (r r' : Option ℕ) (exit exit' : _) → width.Post K laws ghosts dict κ args r exit → width.Post K laws ghosts dict κ args r' exit' → r ≡ r'
one_outcome_width K laws ghosts dict κ args r r' exit exit' p q = p ∙ sym q

pub one_outcome_value : (laws : _) (dict : _) (κ : _) (args : _) (r r' : Option ℕ) (exit exit' : _) → width.Post value.the_row laws value_impl.ghosts dict κ args r exit → width.Post value.the_row laws value_impl.ghosts dict κ args r' exit' → r ≡ r'
one_outcome_value laws = one_outcome_width value.the_row laws value_impl.ghosts

pub one_outcome_asset : (laws : _) (dict : _) (κ : _) (args : _) (r r' : Option ℕ) (exit exit' : _) → width.Post asset.the_row laws asset_impl.ghosts dict κ args r exit → width.Post asset.the_row laws asset_impl.ghosts dict κ args r' exit' → r ≡ r'
one_outcome_asset laws = one_outcome_width asset.the_row laws asset_impl.ghosts

pub one_outcome_nonce : (laws : _) (dict : _) (κ : _) (args : _) (r r' : Option ℕ) (exit exit' : _) → width.Post nonce.the_row laws nonce_impl.ghosts dict κ args r exit → width.Post nonce.the_row laws nonce_impl.ghosts dict κ args r' exit' → r ≡ r'
one_outcome_nonce laws = one_outcome_width nonce.the_row laws nonce_impl.ghosts

-- With 0 for none, the result is the layout's width of the kind of field.
abbrev or_0 : Option ℕ → ℕ
or_0 None = 0
or_0 (Some n) = n

listed_back : (w : ℕ) → or_0 (listed w) ≡ w
listed_back zero = refl
listed_back (suc w) = simp (ne_eqb (suc w) 0 (λ e. cc))

pub width_or_0 : (K : _) (laws : _) (ghosts : _) (dict : _) (κ : _) (args : _) (r : Option ℕ) (exit : _) → width.Post K laws ghosts dict κ args r exit → or_0 r ≡ ghosts.width args.0
width_or_0 K laws ghosts dict κ args r exit p = ap or_0 p ∙ listed_back _

-- of each of the three
pub value_width_or_0 : (laws : _) (dict : _) (κ : _) (args : _) (r : Option ℕ) (exit : _) → width.Post value.the_row laws value_impl.ghosts dict κ args r exit → or_0 r ≡ value_width args.0
value_width_or_0 laws = width_or_0 value.the_row laws value_impl.ghosts

pub asset_width_or_0 : (laws : _) (dict : _) (κ : _) (args : _) (r : Option ℕ) (exit : _) → width.Post asset.the_row laws asset_impl.ghosts dict κ args r exit → or_0 r ≡ asset_width args.0
asset_width_or_0 laws = width_or_0 asset.the_row laws asset_impl.ghosts

pub nonce_width_or_0 : (laws : _) (dict : _) (κ : _) (args : _) (r : Option ℕ) (exit : _) → width.Post nonce.the_row laws nonce_impl.ghosts dict κ args r exit → or_0 r ≡ nonce_width args.0
nonce_width_or_0 laws = width_or_0 nonce.the_row laws nonce_impl.ghosts

-- None is told exactly where the prefix is not listed: there the layout's width is 0.
shown : (w : ℕ) → listed (suc w) ≡ Some (suc w)
shown w = simp (ne_eqb (suc w) 0 (λ e. cc))

listed_none : (w : ℕ) → (listed w ≡ None) ↔ (w ≡ 0)
listed_none zero = ((λ e. refl), (λ e. refl))
listed_none (suc w) = ((λ e. (let s = shown w in cc)), (λ e. cc))

pub none_unlisted : (K : _) (laws : _) (ghosts : _) (dict : _) (κ : _) (args : _) (r : Option ℕ) (exit : _) → width.Post K laws ghosts dict κ args r exit → (r ≡ None) ↔ (ghosts.width args.0 ≡ 0)
none_unlisted K laws ghosts dict κ args r exit p = subst (λ (x : Option ℕ). (x ≡ None) ↔ (ghosts.width args.0 ≡ 0)) (sym p) (listed_none (ghosts.width args.0))
