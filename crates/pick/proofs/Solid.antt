-- Twice the number of points is at most twice the area of the hull of their squares, and equal to it exactly if they fill an upright rectangle.
-- Assumes nothing.
use mathlib.Core.Path.{◌≡◌, refl, ap}
use mathlib.Core.Logic.{◌↔◌}
use mathlib.Core.List.{List, [], ◌∷◌}
use lib.Dec.{leb→le}
use lib.ListN.{length, drop_of_length-le}
use lib.IntN.{ℤ, pos, negsuc, ◌+ℤ◌, ◌*ℤ◌, ◌-ℤ◌}
use Rattle.whole.proofs.Whole.{quote, ◌≤ᶻ◌, natural, gap≤, ◌⊞◌, ◌⋆◌, ◌⋆≡◌, ◌∗≡◌, ◌∔◌, linear≤, linear≡, le_transitive, antisymmetric, le_of_doubles}
use Rattle.lattice.specs.Point.{Point, In, Pairs}
use Rattle.lattice.specs.Hull.{InHull, member, Of, CornerList, MissingList, Convex}
use Rattle.lattice.specs.Grains.{at}
use Rattle.lattice.proofs.Lists.{either}
use Rattle.lattice.proofs.Decide.{in?, yes_or_no}
use Rattle.lattice.proofs.Shape.{Shape}
use Rattle.lattice.proofs.Polygon.{polygon}
use Rattle.lattice.proofs.CornerLists.{corner_list_shape, hull_of_corners}
use Rattle.lattice.proofs.MissingLists.{missing_list_exists, convex_exactly}
use Rattle.pick.specs.Pick.{area, border, twice_count}
use Rattle.pick.specs.Solid.{Box, Rectangle, FillsRectangle, twice_squares}
use Rattle.pick.proofs.Pick.{one_formula, missing_length}
use Rattle.pick.proofs.Fan.{Edges}
use Rattle.pick.proofs.Extreme.{x_linear, y_linear, greatest_le, least_ge, hull_in_rectangle, box_same}
use Rattle.pick.proofs.Extent.{around_extent}
use Rattle.pick.proofs.UprightBorder.{Level, upright, border_le, border_level, level_border}
use Rattle.pick.proofs.Filled.{rectangle_in_hull, hull_level}

-- "Grain C is now a third, H is four sevenths."
pub c_is_a_third : pos 3 *ℤ (pos 2 *ℤ pos 2) ≡ twice_squares (at 0 0 ∷ at 1 4 ∷ []) (pos 1) (pos 4)
c_is_a_third = refl

pub h_is_four_sevenths : pos 7 *ℤ (pos 2 *ℤ pos 4) ≡ pos 4 *ℤ twice_squares (at 1 0 ∷ at 2 1 ∷ at 1 2 ∷ at 0 1 ∷ []) (pos 2) (pos 2)
h_is_four_sevenths = refl

-- ---- corners c and l
module _ (s : List Point) (c : Point) (l : List Point) (once : Pairs (λ a b. a ≡ b → ⊥) s) (corners : CornerList s (c ∷ l))
    {left right low high : ℤ} (box : Box s left right low high) where
  abbrev squares : ℤ
  squares = twice_squares (c ∷ l) (right -ℤ left) (high -ℤ low)

  shape : Shape (c ∷ l)
  shape = corner_list_shape s (c ∷ l) corners

  same : (p : Point) → InHull (Of s) p ↔ InHull (Of (c ∷ l)) p
  same = hull_of_corners s (c ∷ l) corners

  corner_box : Box (c ∷ l) left right low high
  corner_box = box_same c l same box

  extents : upright c l ≡ pos 2 *ℤ (right -ℤ left) +ℤ pos 2 *ℤ (high -ℤ low)
  extents =
      λ i. around_extent x_linear c l shape corner_box.leftmost corner_box.rightmost i
      +ℤ around_extent y_linear c l shape corner_box.lowest corner_box.highest i

  module _ (m : List Point) (missing : MissingList s m) where
    -- the squares' hull exceeds the points by the missing points, and by what the border is shorter than the rectangle's
    excess : squares ≡ pos 2 *ℤ pos (length s) +ℤ (pos 2 *ℤ pos (length m) +ℤ (upright c l -ℤ border (c ∷ l)))
    excess =
        linear≡
        (left ∷ right ∷ low ∷ high ∷ pos (length s) ∷ pos (length m) ∷ area (c ∷ l) ∷ border (c ∷ l) ∷ twice_count (c ∷ l) ∷ upright c l ∷ [])
        (negsuc 0 ∗≡ missing_length s (c ∷ l) m once corners missing ∔ negsuc 0 ∗≡ one_formula c l ∔ negsuc 0 ∗≡ extents)
        (search quote depth 20) tt

    abbrev numbers : List ℤ
    numbers = squares ∷ pos (length s) ∷ pos (length m) ∷ upright c l ∷ border (c ∷ l) ∷ []

    points_le : pos 2 *ℤ pos (length s) ≤ᶻ squares
    points_le =
        linear≤ numbers (gap≤ (border_le c l) ⊞ 2 ⋆ natural (length m) ⊞ negsuc 0 ⋆≡ excess) (search quote depth 20) tt

    equal_level : pos 2 *ℤ pos (length s) ≡ squares → Convex s × Edges Level c c l
    equal_level e = (
      (convex_exactly s m missing).1 (drop_of_length-le m {i = 0} (leb→le (length m) 0 none_missing.le)),
      border_level c l (antisymmetric (border_le c l)
          (linear≤ numbers (2 ⋆ natural (length m) ⊞ negsuc 0 ⋆≡ e ⊞ negsuc 0 ⋆≡ excess) (search quote depth 20) tt)),
    )
      where
        none_missing : pos (length m) ≤ᶻ pos 0
        none_missing =
            le_of_doubles (linear≤ numbers (gap≤ (border_le c l) ⊞ negsuc 0 ⋆≡ e ⊞ negsuc 0 ⋆≡ excess) (search quote depth 20) tt)

    level_equal : Convex s → Edges Level c c l → pos 2 *ℤ pos (length s) ≡ squares
    level_equal convex level =
        let none : pos (length m) ≡ pos 0 = ap (λ k. pos (length k)) ((convex_exactly s m missing).0 convex) in
        linear≡ numbers (negsuc 0 ∗≡ excess ∔ negsuc 1 ∗≡ none ∔ pos 1 ∗≡ level_border c l level) (search quote depth 20) tt

  level_filled : Convex s → Edges Level c c l → FillsRectangle s
  level_filled convex level = record {
    left = left;
    right = right;
    low = low;
    high = high;
    filled = λ p. (
      (λ i. hull_in_rectangle box p (member i)),
      (λ w. either (yes_or_no (in? p s)) (λ i. i)
          (λ n. absurd (convex p (record { within = (same p).1 (rectangle_in_hull c l shape corner_box level p w); lacks = n })))),
    );
  }

  filled_level : FillsRectangle s → Convex s × Edges Level c c l
  filled_level r = (
    (λ p k. k.lacks (holds p (hull_in_rectangle box p k.within))),
    hull_level c l shape corner_box (λ p w. (same p).0 (member (holds p w))),
  )
    where
      holds : (p : Point) → Rectangle left right low high p → In p s
      holds p w =
          (r.filled p).1 (record {
            from_left = le_transitive (least_ge box.leftmost (λ q i. ((r.filled q).0 i).from_left)) w.from_left;
            to_right = le_transitive w.to_right (greatest_le box.rightmost (λ q i. ((r.filled q).0 i).to_right));
            from_low = le_transitive (least_ge box.lowest (λ q i. ((r.filled q).0 i).from_low)) w.from_low;
            to_high = le_transitive w.to_high (greatest_le box.highest (λ q i. ((r.filled q).0 i).to_high));
          })

-- ---- the theorems
-- a list with extreme points has a corner
no_corner : (s : List Point) → CornerList s [] → {left right low high : ℤ} → Box s left right low high → ⊥
no_corner s corners box =
    let (p, i, e) = box.leftmost.reached in
    ((polygon [] (corner_list_shape s [] corners) p).0 ((hull_of_corners s [] corners p).0 (member i))).from.1

pub solid_le : (s c : List Point) {left right low high : ℤ} → Pairs (λ a b. a ≡ b → ⊥) s → CornerList s c → Box s left right low high
    → pos 2 *ℤ pos (length s) ≤ᶻ twice_squares c (right -ℤ left) (high -ℤ low)
solid_le s [] once corners box = absurd (no_corner s corners box)
solid_le s (c ∷ l) once corners box = let (m, missing) = missing_list_exists s in points_le s c l once corners box m missing

pub solid_exactly : (s c : List Point) {left right low high : ℤ} → Pairs (λ a b. a ≡ b → ⊥) s → CornerList s c → Box s left right low high
    → (pos 2 *ℤ pos (length s) ≡ twice_squares c (right -ℤ left) (high -ℤ low)) ↔ FillsRectangle s
solid_exactly s [] once corners box = absurd (no_corner s corners box)
solid_exactly s (c ∷ l) once corners box =
    let (m, missing) = missing_list_exists s in (
      (λ e. let (convex, level) = equal_level s c l once corners box m missing e in level_filled s c l once corners box convex level),
      (λ r. let (convex, level) = filled_level s c l once corners box r in level_equal s c l once corners box m missing convex level),
    )
