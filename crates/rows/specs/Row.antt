-- What Row ends and Row promise (document 01: "Row: the points of one row; and Row ends: where they begin and end."). Assumes nothing.
use Rattle.std.specs.Prelude.{◌≡◌, ◌⊎◌, List, ℕ, ◌*◌, ◌-◌, ◌≤◌, ◌<◌, length, take, drop, ℤ, ◌≤ℤ◌, ◌<ℤ◌}
use Rattle.lattice.specs.Point.{Point, InRange, most, points, point, All, Pairs, Before}
use Rattle.lattice.specs.Refusal.{Odd}
use Rattle.rows.specs.declared.Ends.{Ends}

-- "If the list has even length, at most 4,096 points, all in range and strictly in row order"
pub record Sound (list : List ℤ) : Type 0 where
  pub even : Odd list → ⊥
  pub few : length (points list) ≤ most
  pub range : All InRange (points list)
  pub order : Pairs Before (points list)

-- "the part of that list holding the points of row y; where the row is empty, the empty part at the place where they would stand":
-- the points before it stand in earlier rows, those in it in row y, those after it in later rows
pub record Holds (l : List Point) (y : ℤ) (begin end : ℕ) : Type 0 where
  pub rising : begin ≤ end
  pub inside : end ≤ length l
  pub before : (i : ℕ) → i < begin → (point l i).y <ℤ y
  pub within : (i : ℕ) → begin ≤ i → i < end → (point l i).y ≡ y
  pub after : (i : ℕ) → end ≤ i → i < length l → y <ℤ (point l i).y

-- "(for any other list 0 and 0)"
abbrev pub RowEndsPromise : List ℤ → ℤ → Ends → Type 0
RowEndsPromise list y ends =
    (Sound list × Holds (points list) y ends.begin ends.end)
    ⊎ ((Sound list → ⊥) × (ends.begin ≡ 0) × (ends.end ≡ 0))

-- "Row takes its ends from there, and is promised to hand back what stands between them."
abbrev pub RowPromise : List ℤ → ℤ → List ℤ → Type 0
RowPromise list y part =
    (ends : Ends) × RowEndsPromise list y ends × (part ≡ take (2 * ends.end - 2 * ends.begin) (drop (2 * ends.begin) list))

-- ---- how the two ends are found
-- r points from the start are in rows before y, and the next is not
pub record LeadsTo (l : List Point) (y : ℤ) (r : ℕ) : Type 0 where
  pub upto : r ≤ length l
  pub before : (i : ℕ) → i < r → (point l i).y <ℤ y
  pub stops : r < length l → y ≤ℤ (point l r).y

-- the points from begin to r are in row y, and the next is not
pub record RunsTo (l : List Point) (y : ℤ) (begin r : ℕ) : Type 0 where
  pub from : begin ≤ r
  pub upto : r ≤ length l
  pub within : (i : ℕ) → begin ≤ i → i < r → (point l i).y ≡ y
  pub stops : r < length l → (point l r).y ≡ y → ⊥
