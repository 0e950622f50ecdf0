-- The two figures of a set of points (document 01, "Figures"). Assumes nothing.
use Rattle.std.specs.Prelude.{◌≡◌, List, [], ◌∷◌, ℕ, zero, suc, ◌≤◌, ◌<◌, length, ℤ, pos, ◌+ℤ◌, Float}
use Rattle.lattice.specs.Point.{Point, InRange, most, points, All, Lists}
use Rattle.lattice.specs.Hull.{InHull, Of, CornerList}
use Rattle.figures.specs.declared.Centroid.{Centroid}
use Rattle.figures.specs.Quotient.{rounded}

-- a point's x has number 0 and its y number 1, as in a list x, y, x, y, ..
abbrev pub coordinate : ℕ → Point → ℤ
coordinate zero p = p.x
coordinate (suc k) p = p.y

-- "the sum of the coordinates"
abbrev pub sum : (Point → ℤ) → List Point → ℤ
sum f [] = pos 0
sum f (p ∷ s) = f p +ℤ sum f s

-- "The centroid is one value of two doubles, x and y: the sum of the coordinates divided by the number of points."
abbrev pub centroid_of : List Point → Centroid
centroid_of s = record { x = rounded (sum (coordinate 0) s) (length s); y = rounded (sum (coordinate 1) s) (length s) }

-- "Solidity is the number of points divided by the number of lattice points in the hull."
pub record Solidity (s : List Point) (d : Float) : Type 0 where
  pub lattice : List Point
  pub listed : Lists (InHull (Of s)) lattice
  pub quotient : d ≡ rounded (pos (length s)) (length lattice)

-- ---- what the code asks before it sums and divides
-- some points in range, not too many: their sums fit
pub record Summable (list : List ℤ) : Type 0 where
  pub some : 0 < length (points list)
  pub few : length (points list) ≤ most
  pub range : All InRange (points list)

-- the corners of s, in range
pub record Outlines (s : List Point) (corners : List ℤ) : Type 0 where
  pub range : All InRange (points corners)
  pub corner : CornerList s (points corners)
