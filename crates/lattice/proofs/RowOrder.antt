-- Row order is a strict order, and of two points that differ one comes before the other. Assumes nothing.
use mathlib.Core.Path.{◌≡◌, sym, ◌∙◌, subst}
use mathlib.Core.Logic.{◌⊎◌, inl, inr}
use mathlib.Core.List.{List, [], ◌∷◌}
use lib.IntN.{ℤ, pos, ◌-ℤ◌}
use Rattle.whole.proofs.Whole.{quote, ◌<ᶻ◌, gap<, ◌⊞◌, linear<, linear⊥, Sign, below, nought, above, sign, difference_zero}
use Rattle.lattice.specs.Point.{Point, Pairs, Before, row, column}
use Rattle.lattice.proofs.Lists.{either, Chain, chain_pairs}
use Rattle.lattice.proofs.HalfPlane.{point_equal}

pub before_irreflexive : (a : Point) → Before a a → ⊥
before_irreflexive a (row h) = linear⊥ (a.y ∷ []) (gap< h) (search quote depth 20) tt
before_irreflexive a (column e h) = linear⊥ (a.x ∷ []) (gap< h) (search quote depth 20) tt

pub before_transitive : (a b c : Point) → Before a b → Before b c → Before a c
before_transitive a b c (row h) (row g) =
    row (linear< (a.y ∷ b.y ∷ c.y ∷ []) (gap< h ⊞ gap< g) (search quote depth 20) tt)
before_transitive a b c (row h) (column f g) = row (subst (λ z. a.y <ᶻ z) f h)
before_transitive a b c (column e h) (row g) = row (subst (λ z. z <ᶻ c.y) (sym e) g)
before_transitive a b c (column e h) (column f g) =
    column (e ∙ f) (linear< (a.x ∷ b.x ∷ c.x ∷ []) (gap< h ⊞ gap< g) (search quote depth 20) tt)

pub before_asymmetric : (a b : Point) → Before a b → Before b a → ⊥
before_asymmetric a b h g = before_irreflexive a (before_transitive a b a h g)

pub before_total : (a b : Point) → Before a b ⊎ ((a ≡ b) ⊎ Before b a)
before_total a b = by_row (sign (a.y -ℤ b.y))
  where
    less : (u v : ℤ) → u -ℤ v <ᶻ pos 0 → u <ᶻ v
    less u v h = linear< (u ∷ v ∷ []) (gap< h) (search quote depth 20) tt

    more : (u v : ℤ) → pos 0 <ᶻ u -ℤ v → v <ᶻ u
    more u v h = linear< (u ∷ v ∷ []) (gap< h) (search quote depth 20) tt

    by_column : a.y ≡ b.y → Sign (a.x -ℤ b.x) → Before a b ⊎ ((a ≡ b) ⊎ Before b a)
    by_column e (below h) = inl (column e (less a.x b.x h))
    by_column e (nought f) = inr (inl (point_equal (difference_zero f) e))
    by_column e (above h) = inr (inr (column (sym e) (more a.x b.x h)))

    by_row : Sign (a.y -ℤ b.y) → Before a b ⊎ ((a ≡ b) ⊎ Before b a)
    by_row (below h) = inl (row (less a.y b.y h))
    by_row (nought e) = by_column (difference_zero e) (sign (a.x -ℤ b.x))
    by_row (above h) = inr (inr (row (more a.y b.y h)))

-- ---- a point that is not before another
pub before_not_before : (p m q : Point) → Before p m → (Before q m → ⊥) → Before p q
before_not_before p m q h n =
    either (before_total q m)
    (λ g. absurd (n g))
    (λ r. either r (λ e. subst (Before p) (sym e) h) (λ g. before_transitive p m q h g))

pub not_before_before : (p m q : Point) → Before m p → (Before m q → ⊥) → Before q p
not_before_before p m q h n =
    either (before_total m q)
    (λ g. absurd (n g))
    (λ r. either r (λ e. subst (λ z. Before z p) e h) (λ g. before_transitive q m p g h))

-- neighbours in row order: so is any pair
pub row_order_by_neighbours : (l : List Point) → Chain Before l → Pairs Before l
row_order_by_neighbours l h = chain_pairs Before l (λ a b c i j k. before_transitive a b c) h
