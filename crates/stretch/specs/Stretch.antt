-- The points of a row that lie in a hull: one stretch of columns. Assumes nothing.
use Rattle.std.specs.Prelude.{◌≡◌, ◌⊎◌, ◌↔◌, List, map, ℕ, suc, ◌+◌, ◌-◌, ◌*◌, ◌/◌, ◌%◌, ◌^◌, ◌≤◌, ◌<◌, length, get_or, ℤ}
use Rattle.lattice.specs.Point.{Point, InRange, points, All}
use Rattle.lattice.specs.Hull.{InHull, Of, CornerList}
use Rattle.packed.specs.Packed.{side, cells, placed, unpacked}
use Rattle.packed.specs.Corners.{keys_of}
use Rattle.stretch.specs.declared.Stretch.{Stretch}
use Rattle.stretch.specs.declared.Side.{Side}
use Rattle.stretch.specs.declared.Side.TheVariants.{Left, Right}
use Rattle.stretch.specs.declared.Edge.{Edge}
use Rattle.stretch.specs.declared.Crossing.{Crossing}

-- the lattice point in a column and a row, both moved to start at 0
abbrev pub cell : ℕ → ℕ → Point
cell x y = record { x = placed x; y = placed y }

-- x is a column of the stretch
pub record Within (s : Stretch) (x : ℕ) : Type 0 where
  pub from : s.from ≤ x
  pub to : x < s.to

-- s has the columns from `begin` on and below `end`, and no others
pub record Bounded (begin end : ℕ) (s : Stretch) : Type 0 where
  pub in_order : s.from ≤ s.to
  pub ends : s.to ≡ end
  pub exactly : (x : ℕ) → Within s x ↔ ((begin ≤ x) × (x < end))

-- the way from a up to b crosses row y
pub record Slope (a b y : ℕ) : Type 0 where
  pub a_below : a < cells
  pub b_below : b < cells
  pub low : a / side ≤ y
  pub high : y ≤ b / side
  pub steep : a / side < b / side

-- it goes so between two corners that are numbers in range, by their places
pub record Way (corners : List ℤ) (low high y : ℕ) : Type 0 where
  pub range : All InRange (points corners)
  pub low_inside : low < length (keys_of corners)
  pub high_inside : high < length (keys_of corners)
  pub slope : Slope (get_or (keys_of corners) low 0) (get_or (keys_of corners) high 0) y

-- the stretch has exactly the columns in which row y has a point of the hull of c
pub record StretchOf (c : List Point) (y : ℕ) (s : Stretch) : Type 0 where
  pub rising : s.from ≤ s.to
  pub few : s.to ≤ side
  pub inside : (x : ℕ) → Within s x → InHull (Of c) (cell x y)
  pub all : (x : ℕ) → x < side → InHull (Of c) (cell x y) → Within s x

-- ---- row after row
-- the place of the last corner in row order
pub record Peak (corners : List ℕ) (peak : ℕ) : Type 0 where
  pub inside : peak < length corners
  pub greatest : (i : ℕ) → i < length corners → get_or corners i 0 ≤ get_or corners peak 0

-- corners as packed points, the place of the last, and a row between the first and the last
pub record Peaked (corners : List ℕ) (peak y : ℕ) : Type 0 where
  pub below : (i : ℕ) → i < length corners → get_or corners i 0 < cells
  pub listed : CornerList (map unpacked corners) (map unpacked corners)
  pub peaks : Peak corners peak
  pub from_row : get_or corners 0 0 / side ≤ y
  pub to_row : y ≤ get_or corners peak 0 / side

-- corners as numbers, in range, as packed points
pub record HasRow (corners : List ℤ) (peak y : ℕ) : Type 0 where
  pub range : All InRange (points corners)
  pub peaked : Peaked (keys_of corners) peak y

-- the rows of the first corner and of the last
abbrev pub first_row : List ℤ → ℕ
first_row corners = get_or (keys_of corners) 0 0 / side

abbrev pub last_row : List ℤ → ℕ → ℕ
last_row corners peak = get_or (keys_of corners) peak 0 / side

-- the corners are not all in one row
abbrev pub Tall : List ℕ → ℕ → Type 0
Tall corners peak = get_or corners 0 0 / side < get_or corners peak 0 / side

-- end is the corner after that at place i; after the last comes the first
abbrev pub After : List ℕ → ℕ → ℕ → Type 0
After corners i end = ((suc i < length corners) × (end ≡ get_or corners (suc i) 0)) ⊎ ((suc i ≡ length corners) × (end ≡ get_or corners 0 0))

-- the edge from place i on rises from row y or below to row y or above; and falls so, to the corner `end`
pub record Rises (corners : List ℕ) (y i : ℕ) : Type 0 where
  pub inside : suc i < length corners
  pub low : get_or corners i 0 / side ≤ y
  pub high : y ≤ get_or corners (suc i) 0 / side
  pub steep : get_or corners i 0 / side < get_or corners (suc i) 0 / side

pub record Falls (corners : List ℕ) (y i end : ℕ) : Type 0 where
  pub inside : i < length corners
  pub after : After corners i end
  pub high : y ≤ get_or corners i 0 / side
  pub low : end / side ≤ y
  pub steep : end / side < get_or corners i 0 / side

-- where to begin to look for them: no later than the edge that is looked for, and not at the last, which falls to the first corner
pub record RisesFrom (corners : List ℕ) (peak y i : ℕ) : Type 0 where
  pub before : i < peak
  pub low : get_or corners i 0 / side < y

pub record FallsFrom (corners : List ℕ) (peak y i : ℕ) : Type 0 where
  pub behind : peak ≤ i
  pub inside : suc i < length corners
  pub low : get_or corners (i + 1) 0 / side < y

-- the corner above that at place i: on the right the next one, on the left the one before; and that there is such a place
abbrev pub above : Side → ℕ → ℕ
above Left i = i - 1
above Right i = i + 1

abbrev pub CanRise : Side → ℕ → Type 0
CanRise Left i = 0 < i
CanRise Right i = i + 1 < 2 ^ 64

-- the edge that rises from the first row
pub record FirstRises (corners : List ℕ) (peak i : ℕ) : Type 0 where
  pub before : i < peak
  pub rises : Rises corners (get_or corners 0 0 / side) i

-- ---- an edge followed from row to row
-- the parts of a column, and of them what the left side is moved by
abbrev pub unit : ℕ
unit = 4294967296

abbrev pub moved : ℕ
moved = 4294950912

abbrev pub move_of : Side → ℕ
move_of Left = moved
move_of Right = 0

-- how many parts further an edge from a up to b is in each row, SIDE columns added, rounded up; and where it is in row y
abbrev pub slope_of : ℕ → ℕ → ℕ
slope_of a b = (b % side + side * (b / side - a / side) - a % side) * unit / (b / side - a / side) + 1

abbrev pub position_of : ℕ → ℕ → ℕ → ℕ → ℕ
position_of a b y move = a % side * unit + move + slope_of a b * (y - a / side)

-- the column of a position
abbrev pub column_of : Edge → ℕ
column_of e = e.position / unit % side

-- e is the edge from a up to b in row y, moved
pub record Climbs (a b y move : ℕ) (e : Edge) : Type 0 where
  pub last : e.last ≡ b / side
  pub position : e.position ≡ position_of a b y move
  pub slope : e.slope ≡ slope_of a b

-- e is at a corner of a hull that has no other row
pub record Only (corner : ℕ) (e : Edge) : Type 0 where
  pub last : e.last ≡ corner / side
  pub column : column_of e ≡ corner % side

-- the edge that rises across row y, and the one that falls
pub record Rising (corners : List ℕ) (peak y : ℕ) (e : Edge) : Type 0 where
  pub place : ℕ
  pub top : e.top ≡ place + 1
  pub before : place < peak
  pub rises : Rises corners y place
  pub climbs : Climbs (get_or corners place 0) (get_or corners (place + 1) 0) y 0 e

pub record Falling (corners : List ℕ) (peak y : ℕ) (e : Edge) : Type 0 where
  pub end : ℕ
  pub behind : peak ≤ e.top
  pub falls : Falls corners y e.top end
  pub climbs : Climbs end (get_or corners e.top 0) y moved e

-- the sides of the hull in row y
pub record OnRight (corners : List ℕ) (peak y : ℕ) (e : Edge) : Type 0 where
  pub tall : Tall corners peak → Rising corners peak y e
  pub only : (Tall corners peak → ⊥) → Only (get_or corners peak 0) e

pub record OnLeft (corners : List ℕ) (peak y : ℕ) (e : Edge) : Type 0 where
  pub tall : Tall corners peak → Falling corners peak y e
  pub only : (Tall corners peak → ⊥) → Only (get_or corners 0 0) e

abbrev pub OnSide : Side → List ℕ → ℕ → ℕ → Edge → Type 0
OnSide Left = OnLeft
OnSide Right = OnRight

pub record Crosses (corners : List ℕ) (peak y : ℕ) (c : Crossing) : Type 0 where
  pub left : OnLeft corners peak y c.left
  pub right : OnRight corners peak y c.right

-- the edge one row further; whether both cross the row after y as well
abbrev pub stepped : Edge → Edge
stepped e = record { top = e.top; last = e.last; position = e.position + e.slope; slope = e.slope }

abbrev pub GoesOn : Crossing → ℕ → Type 0
GoesOn c y = (y < c.left.last) × (y < c.right.last)

-- ---- the rows gone through
-- the rows from y on up to the last are still ahead, and the crossing is that of row y
pub record Following (corners : List ℤ) (peak last y : ℕ) (c : Crossing) : Type 0 where
  pub last_is : last ≡ last_row corners peak
  pub has_first : HasRow corners peak (first_row corners)
  pub from : first_row corners ≤ y
  pub here : y ≤ last_row corners peak → Crosses (keys_of corners) peak y c
