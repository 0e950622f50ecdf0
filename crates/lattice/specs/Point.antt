-- Points, lists of numbers read as points, the range, row order (document 01, "Lattice, order and hull").
-- Assumes nothing.
use Rattle.lattice.specs.declared.Point.{Point as Pair}
use Rattle.std.specs.Prelude.{◌≡◌, ◌⊎◌, List, [], ◌∷◌, ℕ, get_or, ℤ, pos, negsuc, ◌≤ℤ◌, ◌<ℤ◌}

-- "A point is a pair of signed 32-bit whole numbers, x then y"
abbrev pub Point : Type 0
Point = Pair

abbrev pub origin : Point
origin = record { x = pos 0; y = pos 0 }

-- ", each from -8,192 to 8,191."
abbrev pub least : ℤ
least = negsuc 8191

abbrev pub greatest : ℤ
greatest = pos 8191

pub record InRange (p : Point) : Type 0 where
  pub x_from : least ≤ℤ p.x
  pub x_to : p.x ≤ℤ greatest
  pub y_from : least ≤ℤ p.y
  pub y_to : p.y ≤ℤ greatest

-- "At most 4,096 points or corners go in."
abbrev pub most : ℕ
most = 4096

-- "A list holds x, y, x, y and so on." "an odd last number is never used"
abbrev pub points : List ℤ → List Point
points [] = []
points (a ∷ []) = []
points (a ∷ b ∷ rest) = record { x = a; y = b } ∷ points rest

-- the point at a place; "Places count from 0, and points are counted"
abbrev pub point : List Point → ℕ → Point
point l i = get_or l i origin

-- p is a point of the list
abbrev pub In : Point → List Point → Type 0
In p [] = ⊥
In p (a ∷ l) = (p ≡ a) ⊎ In p l

-- what holds of each point of a list, of any two in list order, of any three in list order
abbrev pub All : (Point → Type 0) → List Point → Type 0
All P [] = Unit {0}
All P (a ∷ l) = P a × All P l

abbrev pub Pairs : (Point → Point → Type 0) → List Point → Type 0
Pairs R [] = Unit {0}
Pairs R (a ∷ l) = All (R a) l × Pairs R l

abbrev pub Triples : (Point → Point → Point → Type 0) → List Point → Type 0
Triples R [] = Unit {0}
Triples R (a ∷ l) = Pairs (R a) l × Triples R l

-- "Row order: smaller y first; in one row, smaller x first."
pub data Before (a b : Point) : Type 0 where
  row : a.y <ℤ b.y → Before a b
  column : a.y ≡ b.y → a.x <ℤ b.x → Before a b

-- the list holds the points with P, each of them once and no others, in row order
pub record Lists (P : Point → Type 0) (l : List Point) : Type 0 where
  pub every : (p : Point) → P p → In p l
  pub only : (p : Point) → In p l → P p
  pub order : Pairs Before l
