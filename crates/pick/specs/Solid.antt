-- What solidity divides where a pixel is a square, and what an upright rectangle is (document 02, wish 2). Assumes nothing; proofs/Solid.antt
-- proves that the quotient is at most 1, and 1 exactly if the pixels fill an upright rectangle.
use Rattle.std.specs.Prelude.{◌≡◌, ◌↔◌, List, ℤ, pos, ◌+ℤ◌, ◌*ℤ◌, ◌≤ℤ◌}
use Rattle.lattice.specs.Point.{Point, In}
use Rattle.pick.specs.Pick.{area}

-- the coordinates of a point
abbrev pub x_of : Point → ℤ
x_of p = p.x

abbrev pub y_of : Point → ℤ
y_of p = p.y

-- m is the least, the greatest value on a list, and a point has it: "the extreme points"
pub record Least (f : Point → ℤ) (s : List Point) (m : ℤ) : Type 0 where
  pub bound : (p : Point) → In p s → m ≤ℤ f p
  pub reached : (p : Point) × In p s × (f p ≡ m)

pub record Greatest (f : Point → ℤ) (s : List Point) (m : ℤ) : Type 0 where
  pub bound : (p : Point) → In p s → f p ≤ℤ m
  pub reached : (p : Point) × In p s × (f p ≡ m)

-- the columns and rows between which the points lie: right - left is the "width w", high - low the "height h between the extreme points"
pub record Box (s : List Point) (left right low high : ℤ) : Type 0 where
  pub leftmost : Least x_of s left
  pub rightmost : Greatest x_of s right
  pub lowest : Least y_of s low
  pub highest : Greatest y_of s high

-- "With A for twice the area of the corners' outline, width w and height h between the extreme points, it is 2n over A + 2w + 2h + 2":
-- twice "the area of the hull of all squares"
abbrev pub twice_squares : List Point → ℤ → ℤ → ℤ
twice_squares corners w h = area corners +ℤ pos 2 *ℤ w +ℤ pos 2 *ℤ h +ℤ pos 2

-- the points of "an upright rectangle", from a column to a column and from a row to a row
pub record Rectangle (left right low high : ℤ) (p : Point) : Type 0 where
  pub from_left : left ≤ℤ p.x
  pub to_right : p.x ≤ℤ right
  pub from_low : low ≤ℤ p.y
  pub to_high : p.y ≤ℤ high

-- "the pixels fill an upright rectangle"
pub record FillsRectangle (s : List Point) : Type 0 where
  pub left : ℤ
  pub right : ℤ
  pub low : ℤ
  pub high : ℤ
  pub filled : (p : Point) → In p s ↔ Rectangle left right low high p
