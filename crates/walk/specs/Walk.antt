-- The lattice points of a hull that a list in row order lacks: the first of them, all of them. Report lacks the points of the
-- grain, Rebuild the missing points. Assumes nothing.
use Rattle.std.specs.Prelude.{◌≡◌, ◌⊎◌, Option, Some, None, List, [], ℕ, ◌+◌, ◌*◌, ◌-◌, ◌≤◌, ◌<◌, length, ℤ}
use Rattle.lattice.specs.Point.{Point, points, point, In, All, Pairs, Before, Lists}
use Rattle.lattice.specs.Hull.{InHull, Of, Kept}
use Rattle.lattice.specs.Room.{holding}
use Rattle.packed.specs.Packed.{side, cells, moved, unpacked}
use Rattle.packed.specs.Corners.{Outline}
use Rattle.stretch.specs.Stretch.{cell, Within}
use Rattle.stretch.specs.declared.Stretch.{Stretch}

-- a corner list, and points of its hull in row order
pub record Walked (corners list : List ℤ) : Type 0 where
  pub outline : Outline corners
  pub order : Pairs Before (points list)
  pub inside : All (InHull (Of (points corners))) (points list)

-- the lattice points of the hull that the list lacks
abbrev pub Lacking : List ℤ → List ℤ → Point → Type 0
Lacking corners list = Kept (points corners) (points list)

-- the least packed point that has P; `cells` if none has it
pub record FirstOf (P : Point → Type 0) (r : ℕ) : Type 0 where
  pub upto : r ≤ cells
  pub here : r < cells → P (unpacked r)
  pub earlier : (k : ℕ) → k < r → P (unpacked k) → ⊥

-- that point, if there is one
abbrev pub FirstIn : (Point → Type 0) → Option ℕ → Type 0
FirstIn P None = FirstOf P cells
FirstIn P (Some k) = (k < cells) × FirstOf P k

-- a room with place for all points that have P; such a room with them at its front, and how many they are
abbrev pub Takes : (Point → Type 0) → List ℤ → Type 0
Takes P room = (l : List Point) × Lists P l × (2 * length l ≤ length room)

abbrev pub Puts : (Point → Type 0) → List ℤ → ℕ → List ℤ → Type 0
Puts P room r room' = (l : List Point) × Lists P l × (r ≡ length l) × (room' ≡ holding l room)

-- ---- one row
-- the column of a point of a list, moved to start at 0
abbrev pub column_at : List ℤ → ℕ → ℕ
column_at list i = moved (point (points list) i).x

-- the points of row y, in row order, and a stretch that has them all
pub record RowPoints (row : List ℤ) (s : Stretch) (y : ℕ) : Type 0 where
  pub rising : s.from ≤ s.to
  pub few : s.to ≤ side
  pub here : (i : ℕ) → i < length (points row) → point (points row) i ≡ cell (column_at row i) y
  pub within : (i : ℕ) → i < length (points row) → Within s (column_at row i)
  pub rises : (i j : ℕ) → i < j → j < length (points row) → column_at row i < column_at row j

-- the point at a place of a list is in row y
abbrev pub InRow : List ℤ → ℤ → ℕ → Type 0
InRow list y i = (i < length (points list)) × ((point (points list) i).y ≡ y)

-- r is a place of a row's list, not before i, and its point as many columns behind that at i as places
pub record Neighbour (row : List ℤ) (i r : ℕ) : Type 0 where
  pub from : i ≤ r
  pub upto : r < length (points row)
  pub behind : column_at row i + (r - i) ≡ column_at row r

-- r is the first column of the stretch; or one behind the last, where a row of so many points has one in each
abbrev pub FirstColumn : Stretch → ℕ → ℕ → Type 0
FirstColumn s count r = (r ≡ s.from) ⊎ ((count ≡ s.to - s.from) × (r ≡ s.to))

-- p is in row y and in the stretch, and no point of the row
pub record Gap (row : List ℤ) (s : Stretch) (y : ℕ) (p : Point) : Type 0 where
  pub column : ℕ
  pub within : Within s column
  pub here : p ≡ cell column y
  pub lacks : In p (points row) → ⊥

-- p is in row y and in the stretch
abbrev pub Across : Stretch → ℕ → Point → Type 0
Across = Gap []
