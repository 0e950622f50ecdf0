-- Sums, products and negations of differences. Assumes nothing.
use mathlib.Core.Path.{◌≡◌}
use mathlib.Core.List.{[], ◌∷◌}
use lib.IntN.{ℤ, neg_ℤ, ◌+ℤ◌, ◌*ℤ◌, ◌-ℤ◌}
use Rattle.whole.proofs.Quote.{ring, quote}

pub sum : (x y z w : ℤ) → (x -ℤ y) +ℤ (z -ℤ w) ≡ (x +ℤ z) -ℤ (y +ℤ w)
sum x y z w = ring (x ∷ y ∷ z ∷ w ∷ []) (search quote depth 20) tt

pub product : (x y z w : ℤ) → (x -ℤ y) *ℤ (z -ℤ w) ≡ (x *ℤ z +ℤ y *ℤ w) -ℤ (x *ℤ w +ℤ y *ℤ z)
product x y z w = ring (x ∷ y ∷ z ∷ w ∷ []) (search quote depth 20) tt

pub negation : (x y : ℤ) → neg_ℤ (x -ℤ y) ≡ y -ℤ x
negation x y = ring (x ∷ y ∷ []) (search quote depth 20) tt
