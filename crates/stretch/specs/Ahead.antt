-- The rows of a hull one after the other: what `Rows` yields. Assumes nothing.
use Rattle.std.specs.Prelude.{◌≡◌, Option, Some, None, List, ℕ, ◌+◌, ◌-◌, ◌≤◌, ◌<◌, ℤ}
use Rattle.std.specs.Iterator.{Count, at_most}
use Rattle.lattice.specs.Point.{points}
use Rattle.packed.specs.Packed.{side}
use Rattle.stretch.specs.Stretch.{StretchOf, last_row}
use Rattle.stretch.specs.declared.Stretch.{Stretch}

-- the rows that are still ahead: those of a hull from row y on, of whose corners the last in row order stands at place `peak`
pub record Ahead : Type 0 where
  pub corners : List ℤ
  pub peak : ℕ
  pub y : ℕ

-- how many they are
abbrev pub rows_left : Ahead → Count
rows_left a = at_most (last_row a.corners a.peak + 1 - a.y)

-- the next of them, row y, and its columns in the hull
pub record IsNext (a : Ahead) (y : ℕ) (s : Stretch) (b : Ahead) : Type 0 where
  pub is : a.y ≡ y
  pub upto : y ≤ last_row a.corners a.peak
  pub few : y < side
  pub stretch : StretchOf (points a.corners) y s
  pub after : b ≡ record { corners = a.corners; peak = a.peak; y = y + 1 }

-- what a call yields: the next, or none behind the last
abbrev pub NextRow : Ahead → Option (ℕ × Stretch) → Ahead → Type 0
NextRow a None b = (last_row a.corners a.peak < a.y) × (b ≡ a)
NextRow a (Some (y, s)) b = IsNext a y s b
