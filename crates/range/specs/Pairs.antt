-- The points of a list of numbers as pairs of numbers, and back. Assumes nothing.
use Rattle.std.specs.Prelude.{List, [], ◌∷◌, map, get_or, ℤ, pos}
use Rattle.lattice.specs.Point.{Point, points}

-- a point as its two numbers
abbrev pub pair_of : Point → List ℤ
pair_of p = p.x ∷ p.y ∷ []

-- the points of the list, each as a pair
abbrev pub pairs_of : List ℤ → List (List ℤ)
pairs_of list = map pair_of (points list)

-- a pair as a point
abbrev pub point_of : List ℤ → Point
point_of pair = record { x = get_or pair 0 (pos 0); y = get_or pair 1 (pos 0) }

-- the pairs, each as a point
abbrev pub points_of : List (List ℤ) → List Point
points_of pairs = map point_of pairs
