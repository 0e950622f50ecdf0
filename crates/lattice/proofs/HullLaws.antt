-- The laws of the hull: it holds S, it grows with S, and each of its points is in the hull of a few points of S. Assumes nothing.
use mathlib.Core.Path.{refl}
use mathlib.Core.Logic.{inl, inr}
use mathlib.Core.List.{List, [], ◌∷◌}
use Rattle.lattice.specs.Point.{Point, All}
use Rattle.lattice.specs.Hull.{InHull, member, segment, triangle, Of}

-- S is in its hull
pub in_its_hull : (S : Point → Type 0) (p : Point) → S p → InHull S p
in_its_hull S p m = member m

-- a larger S has a larger hull
pub hull_larger : (S U : Point → Type 0) → ((q : Point) → S q → U q) → (p : Point) → InHull S p → InHull U p
hull_larger S U f p (member m) = member (f p m)
hull_larger S U f p (segment a b u v i) = segment a b (f a u) (f b v) i
hull_larger S U f p (triangle a b c u v w i) = triangle a b c (f a u) (f b v) (f c w) i

-- each point of the hull is in the hull of finitely many points of S
pub hull_of_few : (S : Point → Type 0) (p : Point) → InHull S p → (l : List Point) × All S l × InHull (Of l) p
hull_of_few S p (member m) = (p ∷ [], (m, tt), member (inl refl))
hull_of_few S p (segment a b u v i) = (a ∷ b ∷ [], (u, (v, tt)), segment a b (inl refl) (inr (inl refl)) i)
hull_of_few S p (triangle a b c u v w i) =
    (a ∷ b ∷ c ∷ [], (u, (v, (w, tt))), triangle a b c (inl refl) (inr (inl refl)) (inr (inr (inl refl))) i)
