-- The forms in which the three demands are stated of what a call answers and leaves in the lent lists. Assumes nothing.
use Rattle.std.specs.Prelude.{◌≡◌, ◌↔◌, List, ℕ, ◌*◌, ◌/◌, ◌≤◌, length, take, drop, ℤ}
use Rattle.lattice.specs.Point.{Point}
use Rattle.lattice.specs.Hull.{Convex}
use Rattle.lattice.specs.Grains.{first_of}
use Rattle.lattice.specs.Refusal.{Table, accepted, ◌when◌else◌, Gives}
use Rattle.lattice.specs.Room.{numbers}
use Rattle.report.specs.declared.Reported.{Reported}
use Rattle.report.specs.Report.{no, yes, ReportPromise}

-- no row of the table applies anywhere
abbrev pub NoneApplies : Table → Type 0
NoneApplies accepted = Unit {0}
NoneApplies (k when P else later) = ((j : ℕ) → P j → ⊥) × NoneApplies later

-- demand 1: number and place are those that the table gives, and it gives no others; the call is accepted exactly if no row applies, and then
-- with place 0; where it is declined, all is as before
pub record Ruled (t : Table) (number place : ℕ) (AsBefore : Type 0) : Type 0 where
  pub given : Gives t number place
  pub only : (n i : ℕ) → Gives t n i → (n ≡ number) × (i ≡ place)
  pub exactly : (number ≡ 0) ↔ NoneApplies t
  pub accepted_place : number ≡ 0 → place ≡ 0
  pub declined : (number ≡ 0 → ⊥) → AsBefore

-- demand 2: the room begins with the numbers of these points and nothing else is changed, and the count is theirs
pub record Begins (l : List Point) (count : ℕ) (room after : List ℤ) : Type 0 where
  pub counted : count ≡ length l
  pub front : take (2 * count) after ≡ numbers l
  pub rest : drop (2 * count) after ≡ drop (2 * count) room

-- yes or no, and the first missing point, of a grain with points s and missing list m
pub record Says (s m : List Point) (verdict : ℕ) (first : Point) : Type 0 where
  pub yes_exactly : (verdict ≡ yes) ↔ Convex s
  pub no_exactly : (verdict ≡ no) ↔ (Convex s → ⊥)
  pub first_is : first ≡ first_of m

-- demand 3: a full report of a list, that is an accepted call of Report, in whatever rooms
pub record FullReport (list : List ℤ) : Type 0 where
  pub ordered : List ℤ
  pub corners : List ℤ
  pub missing : List ℤ
  pub answer : Reported
  pub ordered' : List ℤ
  pub corners' : List ℤ
  pub missing' : List ℤ
  pub promise : ReportPromise list ordered corners missing answer ordered' corners' missing'
  pub full : answer.number ≡ 0

-- the numbers that stand in its rooms: the points in row order, the corners, the missing points
abbrev pub points_in : {list : List ℤ} → FullReport list → List ℤ
points_in r = take (2 * r.answer.points) r.ordered'

abbrev pub corners_in : {list : List ℤ} → FullReport list → List ℤ
corners_in r = take (2 * r.answer.corners) r.corners'

abbrev pub missing_in : {list : List ℤ} → FullReport list → List ℤ
missing_in r = take (2 * r.answer.missing) r.missing'

-- "any two outcomes allowed by it coincide"
abbrev pub Pinned : (Outcome : Type 0) → (Outcome → Type 0) → Type 0
Pinned Outcome Promise = (a b : Outcome) → Promise a → Promise b → a ≡ b

-- "given room": whole pairs for so many points
abbrev pub RoomFor : ℕ → List ℤ → Type 0
RoomFor n room = n ≤ length room / 2
