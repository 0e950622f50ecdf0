-- What Hull promises (document 01: "Hull: Order, and the corners."). Assumes nothing.
use Rattle.std.specs.Prelude.{◌≡◌, List, ℕ, zero, suc, length, ℤ}
use Rattle.lattice.specs.Point.{Point, points, Lists}
use Rattle.lattice.specs.Hull.{Of, CornerList}
use Rattle.lattice.specs.Refusal.{Table, accepted, ◌when◌else◌, Gives, Whole}
use Rattle.lattice.specs.Room.{holding, TooSmall}
use Rattle.order.specs.Order.{order_rows}
use Rattle.hull.specs.declared.Hulled.{Hulled}

-- the room has fewer pairs than the grain has corners
pub record FewerThanCorners (s : List Point) (room : List ℤ) : Type 0 where
  pub corners : List Point
  pub listed : CornerList s corners
  pub small : TooSmall room (length corners)

-- 1 to 5 as for Order, then "corner list too small"
abbrev pub hull_rows : List ℤ → List ℤ → List ℤ → Table → Table
hull_rows list ordered corners later = order_rows list ordered (6 when Whole (FewerThanCorners (points list) corners) else later)

-- the rooms begin with the points in row order and with the corner list, and the counts are theirs
pub record Hulls (s : List Point) (ordered corners : List ℤ) (n count : ℕ) (ordered' corners' : List ℤ) : Type 0 where
  pub in_order : List Point
  pub order : Lists (Of s) in_order
  pub points : n ≡ length in_order
  pub ordered_room : ordered' ≡ holding in_order ordered
  pub corner_list : List Point
  pub corner : CornerList s corner_list
  pub corners_count : count ≡ length corner_list
  pub corner_room : corners' ≡ holding corner_list corners

-- a declined call: counts 0, and both rooms read as before
abbrev pub HullResult : List ℤ → List ℤ → List ℤ → ℕ → ℕ → ℕ → List ℤ → List ℤ → Type 0
HullResult list ordered corners zero n count ordered' corners' = Hulls (points list) ordered corners n count ordered' corners'
HullResult list ordered corners (suc number) n count ordered' corners' =
    (n ≡ 0) × (count ≡ 0) × (ordered' ≡ ordered) × (corners' ≡ corners)

pub record HullPromise (list ordered corners : List ℤ) (answer : Hulled) (ordered' corners' : List ℤ) : Type 0 where
  pub gives : Gives (hull_rows list ordered corners accepted) answer.number answer.place
  pub result : HullResult list ordered corners answer.number answer.points answer.corners ordered' corners'
