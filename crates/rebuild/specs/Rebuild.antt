-- What Rebuild promises (document 01: "Rebuild: from corners and missing points to points."). Assumes nothing.
use Rattle.std.specs.Prelude.{◌≡◌, ◌⊎◌, List, ℕ, zero, suc, ◌<◌, length, ℤ}
use Rattle.lattice.specs.Point.{Point, most, points, Lists}
use Rattle.lattice.specs.Hull.{Kept}
use Rattle.lattice.specs.Refusal.{Table, accepted, ◌when◌else◌, Gives, Whole, AtPoint, Odd, OutOfRange, rebuild_rows}
use Rattle.lattice.specs.Room.{holding, TooSmall}
use Rattle.rebuild.specs.declared.Rebuilt.{Rebuilt}

-- "1 (either list), 2, 3 for corners, 3 for missing points"; 2 is "more than 4,096 points, or corners for Rebuild"
abbrev pub input_rows : List ℤ → List ℤ → Table → Table
input_rows corners missing later =
    1 when Whole (Odd corners ⊎ Odd missing)
    else 2 when Whole (most < length (points corners))
    else 3 when AtPoint OutOfRange (points corners)
    else 3 when AtPoint OutOfRange (points missing)
    else later

-- the number of points that result has P
abbrev pub Results : List Point → List Point → (ℕ → Type 0) → Type 0
Results c m P = (s : List Point) × Lists (Kept c m) s × P (length s)

-- "more than 4,096 points result"; "point list too small"
abbrev pub result_rows : List Point → List Point → List ℤ → Table → Table
result_rows c m room later =
    11 when Whole (Results c m (λ n. most < n))
    else 12 when Whole (Results c m (TooSmall room))
    else later

-- number 0: the room begins with the points of the corners' hull that are not missing; a declined call: count 0, and the room reads as before
abbrev pub RebuildResult : List Point → List Point → List ℤ → ℕ → ℕ → List ℤ → Type 0
RebuildResult c m room zero count after = (s : List Point) × Lists (Kept c m) s × (count ≡ length s) × (after ≡ holding s room)
RebuildResult c m room (suc number) count after = (count ≡ 0) × (after ≡ room)

-- what comes of corners c and missing points m by a table of refusals
pub record Outcome (t : Table) (c m : List Point) (room : List ℤ) (answer : Rebuilt) (after : List ℤ) : Type 0 where
  pub gives : Gives t answer.number answer.place
  pub result : RebuildResult c m room answer.number answer.points after

-- "8, 9, 10, 11, 12."
abbrev pub point_rows : List ℤ → List ℤ → List ℤ → Table
point_rows corners missing room =
    rebuild_rows (points corners) (points missing) (result_rows (points corners) (points missing) room accepted)

-- "Rebuild: 1 (either list), 2, 3 for corners, 3 for missing points, 8, 9, 10, 11, 12."
abbrev pub rebuild_table : List ℤ → List ℤ → List ℤ → Table
rebuild_table corners missing room = input_rows corners missing (point_rows corners missing room)

-- for every list and every room
abbrev pub RebuildPromise : List ℤ → List ℤ → List ℤ → Rebuilt → List ℤ → Type 0
RebuildPromise corners missing room = Outcome (rebuild_table corners missing room) (points corners) (points missing) room
