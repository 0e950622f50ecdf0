-- Turn, the hull, corners, missing points, convex (document 01, "Lattice, order and hull").
-- Assumes nothing.
use Rattle.std.specs.Prelude.{◌≡◌, ◌⊎◌, List, [], ◌∷◌, ℤ, pos, ◌-ℤ◌, ◌*ℤ◌, ◌≤ℤ◌, ◌<ℤ◌}
use Rattle.lattice.specs.Point.{Point, In, All, Pairs, Triples, Before, Lists}

-- "turn(a, b, c) = (bx - ax)(cy - ay) - (by - ay)(cx - ax)."
abbrev pub turn : Point → Point → Point → ℤ
turn a b c = (b.x -ℤ a.x) *ℤ (c.y -ℤ a.y) -ℤ (b.y -ℤ a.y) *ℤ (c.x -ℤ a.x)

-- w is between u and v, ends included
abbrev pub Between : ℤ → ℤ → ℤ → Type 0
Between u v w = ((u ≤ℤ w) × (w ≤ℤ v)) ⊎ ((v ≤ℤ w) × (w ≤ℤ u))

-- "p lies on the segment between two points of S (turn 0, and both coordinates between theirs)"
pub record OnSegment (a b p : Point) : Type 0 where
  pub straight : turn a b p ≡ pos 0
  pub x_between : Between a.x b.x p.x
  pub y_between : Between a.y b.y p.y

-- "turn(a, b, c) > 0 and turn(a, b, p), turn(b, c, p), turn(c, a, p) all at least 0"
pub record InTriangle (a b c p : Point) : Type 0 where
  pub turned : pos 0 <ℤ turn a b c
  pub left_ab : pos 0 ≤ℤ turn a b p
  pub left_bc : pos 0 ≤ℤ turn b c p
  pub left_ca : pos 0 ≤ℤ turn c a p

-- "A lattice point p is in the hull of S when p is in S; or p lies on the segment between two points of S; or there are a, b, c in S with .."
pub data InHull (S : Point → Type 0) (p : Point) : Type 0 where
  member : S p → InHull S p
  segment : (a b : Point) → S a → S b → OnSegment a b p → InHull S p
  triangle : (a b c : Point) → S a → S b → S c → InTriangle a b c p → InHull S p

-- the points of a list; "the rest of S"
abbrev pub Of : List Point → Point → Type 0
Of s q = In q s

abbrev pub Rest : List Point → Point → Point → Type 0
Rest s p q = In q s × (q ≡ p → ⊥)

-- "A corner is a point of S that is not in the hull of the rest of S."
pub record Corner (s : List Point) (p : Point) : Type 0 where
  pub held : In p s
  pub outside : InHull (Rest s p) p → ⊥

-- the first point of a list comes before all others in row order
abbrev pub StartsFirst : List Point → Type 0
StartsFirst [] = Unit {0}
StartsFirst (a ∷ l) = All (Before a) l

-- "The corner list holds every corner once. It starts with the corner that is first in row order. Two corners stand in row order. With three or
-- more, any three taken in list order have a turn above 0." (`start` says the second and the third sentence.)
pub record CornerList (s c : List Point) : Type 0 where
  pub every : (p : Point) → Corner s p → In p c
  pub only : (p : Point) → In p c → Corner s p
  pub once : Pairs (λ a b. a ≡ b → ⊥) c
  pub start : StartsFirst c
  pub three : Triples (λ a b d. pos 0 <ℤ turn a b d) c

-- "A missing point is in the hull of S and not in S."
pub record Missing (s : List Point) (p : Point) : Type 0 where
  pub within : InHull (Of s) p
  pub lacks : In p s → ⊥

-- "Missing points are listed in row order."
abbrev pub MissingList : List Point → List Point → Type 0
MissingList s m = Lists (Missing s) m

-- "S is convex (yes) exactly if it has no missing point."
abbrev pub Convex : List Point → Type 0
Convex s = (p : Point) → Missing s p → ⊥

-- the way back: the points of the hull of c that are not in m
pub record Kept (c m : List Point) (p : Point) : Type 0 where
  pub within : InHull (Of c) p
  pub kept : In p m → ⊥
