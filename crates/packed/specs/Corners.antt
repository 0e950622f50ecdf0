-- A corner list of packed points, and one of numbers; its hull. Assumes nothing.
use Rattle.std.specs.Prelude.{◌≡◌, List, map, ℕ, ◌<◌, length, get_or, ℤ}
use Rattle.lattice.specs.Point.{Point, InRange, points, All, Lists}
use Rattle.lattice.specs.Hull.{InHull, Of, CornerList}
use Rattle.packed.specs.Packed.{cells, packed, unpacked}

-- p is in the hull of packed corners
abbrev pub HullOf : List ℕ → Point → Type 0
HullOf corners = InHull (Of (map unpacked corners))

-- a corner list of packed points
pub record Cornered (corners : List ℕ) : Type 0 where
  pub below : (i : ℕ) → i < length corners → get_or corners i 0 < cells
  pub listed : CornerList (map unpacked corners) (map unpacked corners)

-- the packed points of a list of numbers
abbrev pub keys_of : List ℤ → List ℕ
keys_of list = map packed (points list)

-- the numbers of a corner list, all in range
pub record Outline (corners : List ℤ) : Type 0 where
  pub range : All InRange (points corners)
  pub listed : CornerList (points corners) (points corners)

-- as many points have P
abbrev pub CountOf : (Point → Type 0) → ℕ → Type 0
CountOf P r = (l : List Point) × Lists P l × (r ≡ length l)
