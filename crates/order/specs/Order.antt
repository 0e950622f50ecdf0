-- What Order promises (document 01: "Order: the points in row order."). Assumes nothing.
use Rattle.std.specs.Prelude.{◌≡◌, List, ℕ, zero, suc, length, ℤ}
use Rattle.lattice.specs.Point.{Point, points, Lists}
use Rattle.lattice.specs.Hull.{Of}
use Rattle.lattice.specs.Refusal.{Table, accepted, ◌when◌else◌, Gives, Whole, list_rows}
use Rattle.lattice.specs.Room.{holding, TooSmall}
use Rattle.order.specs.declared.Ordered.{Ordered}

-- 1 to 4 for the list, then "ordered list too small"
abbrev pub order_rows : List ℤ → List ℤ → Table → Table
order_rows list room later = list_rows list (5 when Whole (TooSmall room (length (points list))) else later)

-- number 0: the room begins with the points in row order; a declined call: count 0, and the room reads as before
abbrev pub OrderResult : List ℤ → List ℤ → ℕ → ℕ → List ℤ → Type 0
OrderResult list room zero count after =
    (o : List Point) × Lists (Of (points list)) o × (count ≡ length o) × (after ≡ holding o room)
OrderResult list room (suc number) count after = (count ≡ 0) × (after ≡ room)

pub record OrderPromise (list room : List ℤ) (answer : Ordered) (after : List ℤ) : Type 0 where
  pub gives : Gives (order_rows list room accepted) answer.number answer.place
  pub result : OrderResult list room answer.number answer.points after
