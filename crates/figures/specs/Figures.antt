-- What Figures promises (document 01: "Figures answers one of three things: a refusal with number and place; none, for the empty list; or
-- the doubles."). Assumes nothing.
use Rattle.std.specs.Prelude.{◌≡◌, List, [], ℕ, ℤ}
use Rattle.lattice.specs.Point.{Point, points}
use Rattle.lattice.specs.Refusal.{accepted, Gives}
use Rattle.hull.specs.Hull.{hull_rows, HullResult}
use Rattle.figures.specs.declared.Figured.{Figured}
use Rattle.figures.specs.declared.Figured.TheVariants.{Refused, None, Given}
use Rattle.figures.specs.Figure.{centroid_of, Solidity}

-- number and place of each case; "An accepted call has number 0 and place 0."
abbrev pub number_of : Figured → ℕ
number_of (Refused number place) = number
number_of None = 0
number_of (Given centroid solidity) = 0

abbrev pub place_of : Figured → ℕ
place_of (Refused number place) = place
place_of None = 0
place_of (Given centroid solidity) = 0

-- the values of each case, for the points of a list: a refusal has a number; none, for no points; the doubles, for all others
abbrev pub FiguresOf : List Point → Figured → Type 0
FiguresOf s (Refused number place) = number ≡ 0 → ⊥
FiguresOf s None = s ≡ []
FiguresOf s (Given centroid solidity) = (s ≡ [] → ⊥) × (centroid ≡ centroid_of s) × Solidity s solidity

-- refusals and rooms are Hull's, whose counts Figures does not show
pub record FiguresPromise (list ordered corners : List ℤ) (answer : Figured) (ordered' corners' : List ℤ) : Type 0 where
  pub gives : Gives (hull_rows list ordered corners accepted) (number_of answer) (place_of answer)
  pub points_count : ℕ
  pub corners_count : ℕ
  pub hull : HullResult list ordered corners (number_of answer) points_count corners_count ordered' corners'
  pub figures : FiguresOf (points list) answer
