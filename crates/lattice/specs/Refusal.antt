-- Refusals: tables of numbers and places, read from the top; the rows for a list of points and those of Rebuild's own
-- (document 01, "Numbers for a declined call"). Assumes nothing.
use Rattle.std.specs.Prelude.{◌≡◌, ◌⊎◌, List, ℕ, suc, ◌<◌, ◌%◌, length, ℤ}
use Rattle.lattice.specs.Point.{Point, InRange, most, points, point, In, Before}
use Rattle.lattice.specs.Hull.{InHull, Of, CornerList}

-- P holds at place i and at no earlier one
pub record First (P : ℕ → Type 0) (i : ℕ) : Type 0 where
  pub here : P i
  pub earlier : (j : ℕ) → j < i → P j → ⊥

-- numbers, each with the places at which it is given, in the order in which they are looked at
infixr 5 ◌when◌else◌
pub data Table : Type 1 where
  accepted : Table
  ◌when◌else◌ : ℕ → (ℕ → Type 0) → Table → Table

-- the table gives number n and place i: those of the first row that applies, at the first place where it does;
-- "An accepted call has number 0 and place 0."
abbrev pub Gives : Table → ℕ → ℕ → Type 0
Gives accepted n i = (n ≡ 0) × (i ≡ 0)
Gives (k when P else later) n i = ((n ≡ k) × First P i) ⊎ (((j : ℕ) → P j → ⊥) × Gives later n i)

-- a fault of the call as a whole has place 0; one of a point, its place
abbrev pub Whole : Type 0 → ℕ → Type 0
Whole P i = (i ≡ 0) × P

abbrev pub AtPoint : (Point → Type 0) → List Point → ℕ → Type 0
AtPoint P l i = (i < length l) × P (point l i)

-- "a point equal to an earlier one"
abbrev pub Repeats : List Point → ℕ → Type 0
Repeats l i = (i < length l) × ((j : ℕ) × (j < i) × (point l i ≡ point l j))

-- "first that doesn't follow the one before"
abbrev pub Strays : List Point → ℕ → Type 0
Strays l i = (i < length l) × ((j : ℕ) × (i ≡ suc j) × (Before (point l j) (point l i) → ⊥))

-- "a list given has an odd length"
abbrev pub Odd : List ℤ → Type 0
Odd a = length a % 2 ≡ 1

-- "a coordinate out of range"
abbrev pub OutOfRange : Point → Type 0
OutOfRange p = InRange p → ⊥

-- rows 1 to 4, for a list of points
abbrev pub list_rows : List ℤ → Table → Table
list_rows a later =
    1 when Whole (Odd a)
    else 2 when Whole (most < length (points a))
    else 3 when AtPoint OutOfRange (points a)
    else 4 when Repeats (points a)
    else later

-- "a missing point is outside the corners' hull, or is a corner"
abbrev pub Misplaced : List Point → Point → Type 0
Misplaced c p = (InHull (Of c) p → ⊥) ⊎ In p c

-- rows 8 to 10, for corners c and missing points m; "corners are not a corner list as above": c is not the corner list of its own points
abbrev pub rebuild_rows : List Point → List Point → Table → Table
rebuild_rows c m later =
    8 when Whole (CornerList c c → ⊥)
    else 9 when Strays m
    else 10 when AtPoint (Misplaced c) m
    else later
