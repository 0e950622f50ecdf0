-- What is looked for among the missing points of Rebuild: the first that strays, the first that is misplaced. Assumes nothing.
use Rattle.std.specs.Prelude.{◌⊎◌, ◌≡◌, List, ℕ, ◌-◌, ◌/◌, ◌≤◌, ◌<◌, length, ℤ}
use Rattle.lattice.specs.Point.{Point, InRange, points, point, In, All}
use Rattle.lattice.specs.Refusal.{AtPoint, Strays, Misplaced}
use Rattle.packed.specs.Packed.{side, packed}
use Rattle.packed.specs.Corners.{Outline}
use Rattle.range.specs.First.{FirstBelow}
use Rattle.stretch.specs.Stretch.{StretchOf}
use Rattle.stretch.specs.declared.Stretch.{Stretch}

-- "first that doesn't follow the one before", "first such point"
abbrev pub FirstStray : List ℤ → ℕ → Type 0
FirstStray missing = FirstBelow (length (points missing)) (Strays (points missing))

abbrev pub MisplacedAt : List ℤ → List ℤ → ℕ → Type 0
MisplacedAt corners missing = AtPoint (Misplaced (points corners)) (points missing)

abbrev pub FirstMisplaced : List ℤ → List ℤ → ℕ → Type 0
FirstMisplaced corners missing = FirstBelow (length (points missing)) (MisplacedAt corners missing)

-- the first place from `begin` on at which P holds
pub record FirstFrom (begin : ℕ) (P : ℕ → Type 0) (r : ℕ) : Type 0 where
  pub from : begin ≤ r
  pub earlier : (j : ℕ) → begin ≤ j → j < r → P j → ⊥
  pub here : P r

-- no corner is a missing point
abbrev pub Apart : List ℤ → List ℤ → Type 0
Apart corners missing = (p : Point) → In p (points corners) → In p (points missing) → ⊥

-- the points from place `begin` to before `end` are in one row, whose columns in the hull are those of the stretch
pub record InOneRow (corners : List ℤ) (s : Stretch) (l : List Point) (begin end : ℕ) : Type 0 where
  pub outline : Outline corners
  pub range : All InRange l
  pub inside : end ≤ length l
  pub stretch : (j : ℕ) → begin ≤ j → j < end → StretchOf (points corners) (packed (point l j) / side) s
  pub same : (j : ℕ) → begin ≤ j → j < end → packed (point l j) / side ≡ packed (point l begin) / side

-- there are such points, and the first or the last of them is misplaced
pub record EndMisplaced (corners missing : List ℤ) (begin end : ℕ) : Type 0 where
  pub some : begin < end
  pub which : MisplacedAt corners missing begin ⊎ MisplacedAt corners missing (end - 1)
