-- Every list of points has one corner list; it has the same hull, and depends only on which points the list holds. The corner lists are
-- the lists of the shape, each the corner list of itself. Assumes nothing.
use mathlib.Core.Path.{◌≡◌, subst}
use mathlib.Core.Logic.{◌↔◌}
use mathlib.Core.List.{List}
use Prim.Native.Nat.{◌≤◌}
use native.Mathlib.Omega.{arith}
use lib.ListN.{length}
use Rattle.lattice.specs.Point.{Point, Lists}
use Rattle.lattice.specs.Hull.{InHull, Of, Rest, Corner, CornerList}
use Rattle.lattice.proofs.HullLaws.{hull_larger}
use Rattle.lattice.proofs.Shape.{Shape, ShapeTest, shape_test}
use Rattle.lattice.proofs.Sandwich.{Spans, spans_itself, hull_of_spanned, corner_list_of_spanned}
use Rattle.lattice.proofs.SameMembers.{Same, shape_unique}
use Rattle.lattice.proofs.RowLists.{lists_fewer, row_order_exists, row_order_length}
use Rattle.lattice.proofs.ScanAll.{spans_exist}

-- every list of points has a corner list
pub corner_list_exists : (s : List Point) → (c : List Point) × CornerList s c
corner_list_exists s = let r = spans_exist s in (r.0, corner_list_of_spanned s r.0 r.1)

pub corner_list_shape : (s c : List Point) → CornerList s c → Shape c
corner_list_shape s c h = record { start = h.start; three = h.three }

-- and only one
pub corner_list_unique : (s c d : List Point) → CornerList s c → CornerList s d → c ≡ d
corner_list_unique s c d h g =
    shape_unique c d (corner_list_shape s c h) (corner_list_shape s d g)
    ((λ q i. g.every q (h.only q i)), (λ q i. h.every q (g.only q i)))

-- c is the corner list of s exactly if it has the shape and c ⊆ s ⊆ hull of c
pub corner_list_spans : (s c : List Point) → CornerList s c ↔ Spans s c
corner_list_spans s c = (
  (λ h. let r = spans_exist s in
      subst (Spans s) (corner_list_unique s r.0 c (corner_list_of_spanned s r.0 r.1) h) r.1),
  corner_list_of_spanned s c,
)

-- the corners have the hull of all points
pub hull_of_corners : (s c : List Point) → CornerList s c → (p : Point) → InHull (Of s) p ↔ InHull (Of c) p
hull_of_corners s c h = hull_of_spanned s c ((corner_list_spans s c).0 h)

-- there are no more corners than points
pub corners_fewer : (s o c : List Point) → Lists (Of s) o → CornerList s c → length c ≤ length o
corners_fewer s o c h g =
    let k = row_order_exists c in
    omega (
      arith,
      row_order_length c k.0 g.once k.1,
      lists_fewer (Of c) (Of s) (λ p i. (g.only p i).held) k.0 o k.1 h,
    )

-- ---- only the points held matter
pub corner_same : (s t : List Point) → Same s t → (p : Point) → Corner s p → Corner t p
corner_same s t e p h = record {
  held = e.0 p h.held;
  outside = λ i. h.outside (hull_larger (Rest t p) (Rest s p) (λ q m. (e.1 q m.0, m.1)) p i);
}

pub corner_list_same : (s t : List Point) → Same s t → (c : List Point) → CornerList s c → CornerList t c
corner_list_same s t e c h = record {
  every = λ p k. h.every p (corner_same t s (e.1, e.0) p k);
  only = λ p m. corner_same s t e p (h.only p m);
  once = h.once;
  start = h.start;
  three = h.three;
}

-- ---- the corner lists are the lists of the shape
-- a list has the shape exactly if it is the corner list of itself
pub shape_corner_list : (c : List Point) → Shape c ↔ CornerList c c
shape_corner_list c = (
  (λ h. corner_list_of_spanned c c (spans_itself c h)),
  corner_list_shape c c,
)

-- the linear test decides whether c is a corner list
pub corner_list_test : (c : List Point) → ShapeTest c ↔ CornerList c c
corner_list_test c = ((λ t. (shape_corner_list c).0 ((shape_test c).0 t)), (λ h. (shape_test c).1 ((shape_corner_list c).1 h)))

-- c is the corner list of itself exactly if it is that of some list
pub corner_list_of_some : (c : List Point) → CornerList c c ↔ ((s : List Point) × CornerList s c)
corner_list_of_some c = ((λ h. (c, h)), (λ h. (shape_corner_list c).0 (corner_list_shape h.0 c h.1)))
