-- A hull's corners as `Corners` has them: a list of numbers, and the place of the last in row order. Assumes nothing.
use Rattle.std.specs.Prelude.{ℕ, ◌<◌, length, get_or}
use Rattle.lattice.specs.Point.{InRange, points, point}
use Rattle.packed.specs.Corners.{keys_of}
use Rattle.stretch.specs.Stretch.{HasRow, Way, FirstRises, OnSide, Crosses, first_row, last_row}
use Rattle.stretch.specs.declared.Side.{Side}
use Rattle.stretch.specs.declared.Edge.{Edge}
use Rattle.stretch.specs.declared.Crossing.{Crossing}
use Rattle.stretch.specs.declared.Corners.{Corners}

-- there is a corner at a place, in range; and it packed
abbrev pub Stands : Corners → ℕ → Type 0
Stands c i = (i < length (points c.list.now)) × InRange (point (points c.list.now) i)

abbrev pub key : Corners → ℕ → ℕ
key c i = get_or (keys_of c.list.now) i 0

-- the first row and the last; that row y is one of the hull's
abbrev pub lowest : Corners → ℕ
lowest c = first_row c.list.now

abbrev pub highest : Corners → ℕ
highest c = last_row c.list.now c.peak

abbrev pub Spans : Corners → ℕ → Type 0
Spans c y = HasRow c.list.now c.peak y

-- the way from the corner at place `low` up to that at `high` crosses row y; an edge rises from the first row
abbrev pub Joins : Corners → ℕ → ℕ → ℕ → Type 0
Joins c low high y = Way c.list.now low high y

abbrev pub RisesFirst : Corners → ℕ → Type 0
RisesFirst c i = FirstRises (keys_of c.list.now) c.peak i

-- an edge is that of a side in row y; both edges are those of the sides
abbrev pub AtSide : Side → Corners → ℕ → Edge → Type 0
AtSide s c y e = OnSide s (keys_of c.list.now) c.peak y e

abbrev pub CrossedBy : Corners → ℕ → Crossing → Type 0
CrossedBy c y k = Crosses (keys_of c.list.now) c.peak y k
