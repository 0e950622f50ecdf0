-- The magnitude of a whole number. Assumes nothing.
use mathlib.Core.Path.{◌≡◌, refl, sym, ◌∙◌, ap}
use mathlib.Core.Logic.{◌⊎◌, inl, inr}
use mathlib.Core.List.{[], ◌∷◌}
use Prim.Native.Nat.{zero, suc, ◌*◌, ◌≤◌}
use native.Mathlib.Omega.{arith}
use lib.Dec.{leb→le}
use lib.IntN.{ℤ, pos, negsuc, neg_ℤ, nat_abs, ◌*ℤ◌}
use Rattle.whole.proofs.Quote.{quote}
use Rattle.whole.proofs.Order.{◌≤ᶻ◌, ◌<ᶻ◌, NonNegative, natural, gap≤, gap<}
use Rattle.whole.proofs.Linear.{◌⊞◌, ◌⊠◌, ◌⋆≡◌, linear≤, linear⊥, le_or_lt, antisymmetric, le_negated}

abbrev pub absolute : ℤ → ℤ
absolute z = pos (nat_abs z)

absolute_negated : (z : ℤ) → absolute (neg_ℤ z) ≡ absolute z
absolute_negated (pos zero) = refl
absolute_negated (pos (suc n)) = refl
absolute_negated (negsuc n) = refl

pub absolute_of_nonnegative : {z : ℤ} → NonNegative z → absolute z ≡ z
absolute_of_nonnegative {z = pos n} h = refl
absolute_of_nonnegative {z = negsuc n} h = absurd h.le

pub absolute_of_nonpositive : {z : ℤ} → z ≤ᶻ pos zero → absolute z ≡ neg_ℤ z
absolute_of_nonpositive {z} h = sym (absolute_negated z) ∙ absolute_of_nonnegative (le_negated h)

pub absolute_zero : {z : ℤ} → absolute z ≤ᶻ pos zero → z ≡ pos zero
absolute_zero {z = pos n} h = antisymmetric h (natural n)
absolute_zero {z = negsuc n} h = absurd (never (leb→le (suc n) zero h.le))
  where
    never : suc n ≤ zero → ⊥
    never k = omega arith

pub absolute_product : (a b : ℤ) → absolute (a *ℤ b) ≡ absolute a *ℤ absolute b
absolute_product (pos a) (pos b) = refl
absolute_product (pos a) (negsuc b) = absolute_negated (pos (a * suc b))
absolute_product (negsuc a) (pos b) = absolute_negated (pos (suc a * b))
absolute_product (negsuc a) (negsuc b) = refl

-- what divides 1 is 1 or -1
pub absolute_of_unit : (a b : ℤ) → a *ℤ b ≡ pos 1 → absolute b ≡ pos 1
absolute_of_unit a b e = antisymmetric (at_most (le_or_lt (absolute a) (pos 0))) (at_least (le_or_lt (pos 1) (absolute b)))
  where
    product : absolute a *ℤ absolute b ≡ pos 1
    product = sym (absolute_product a b) ∙ ap absolute e

    at_most : (absolute a ≤ᶻ pos 0) ⊎ (pos 0 <ᶻ absolute a) → absolute b ≤ᶻ pos 1
    at_most (inl h) = linear⊥ (absolute a ∷ absolute b ∷ []) (gap≤ h ⊠ natural (nat_abs b) ⊞ pos 1 ⋆≡ sym product) (search quote depth 20) tt
    at_most (inr h) = linear≤ (absolute a ∷ absolute b ∷ []) (gap< h ⊠ natural (nat_abs b) ⊞ pos 1 ⋆≡ product) (search quote depth 20) tt

    at_least : (pos 1 ≤ᶻ absolute b) ⊎ (absolute b <ᶻ pos 1) → pos 1 ≤ᶻ absolute b
    at_least (inl h) = h
    at_least (inr h) = linear⊥ (absolute a ∷ absolute b ∷ []) (natural (nat_abs a) ⊠ gap< h ⊞ pos 1 ⋆≡ sym product) (search quote depth 20) tt
