-- What is looked at before a point is written. Assumes nothing.
use Rattle.std.specs.Prelude.{◌≡◌, List, ℕ, length, ℤ}
use Rattle.lattice.specs.Point.{InRange, points, All}
use Rattle.lattice.specs.Refusal.{Table, Gives}
use Rattle.walk.specs.Walk.{Walked, Lacking, Takes}
use Rattle.rebuild.specs.declared.Rebuilt.{Rebuilt}

-- lists that pass refusals 1 to 3
pub record Taken (corners missing : List ℤ) : Type 0 where
  pub corners_range : All InRange (points corners)
  pub missing_range : All InRange (points missing)

-- what some rows of the table give, where nothing is counted yet
pub record Looks (t : Table) (answer : Rebuilt) : Type 0 where
  pub gives : Gives t answer.number answer.place
  pub uncounted : answer.points ≡ 0

-- corners and missing points that are not declined, with place in the room for all points that result, and how many these are
pub record Ready (corners missing room : List ℤ) (count : ℕ) : Type 0 where
  pub walked : Walked corners missing
  pub takes : Takes (Lacking corners missing) room
  pub counted : count ≡ length takes.0

-- what some rows of the table give, and how many points result where they give no number
pub record Foreseen (t : Table) (corners missing room : List ℤ) (answer : Rebuilt) : Type 0 where
  pub gives : Gives t answer.number answer.place
  pub declined : (answer.number ≡ 0 → ⊥) → answer.points ≡ 0
  pub passed : answer.number ≡ 0 → Ready corners missing room answer.points
