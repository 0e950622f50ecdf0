-- Points of a segment are no corners: only the two ends of a row can be, and a list that is spanned by its row ends has their corner list.
-- Assumes nothing.
use mathlib.Core.Path.{◌≡◌, sym, ◌∙◌, subst}
use mathlib.Core.Logic.{inl}
use mathlib.Core.List.{List, [], ◌∷◌}
use lib.IntN.{pos, ◌-ℤ◌}
use Rattle.whole.proofs.Whole.{quote, ◌≤ᶻ◌, gap<, ◌⋆≡◌, ◌⊞◌, linear⊥, linear≡, ◌∗≡◌, ◌∔◌, le_of_equal, le_of_lt}
use Rattle.lattice.specs.Point.{Point, In, Before, row, column}
use Rattle.lattice.specs.Hull.{OnSegment, InHull, segment, Of, Corner, CornerList}
use Rattle.lattice.proofs.Turn.{coordinates}
use Rattle.lattice.proofs.RowOrder.{before_irreflexive}
use Rattle.lattice.proofs.Sandwich.{Spans, hull_of_spanned}
use Rattle.lattice.proofs.SameMembers.{Subset}
use Rattle.lattice.proofs.CornerLists.{corner_list_spans}

-- q is in the row of a and b, not left of a and not right of b
pub record InRow (a b q : Point) : Type 0 where
  pub same_left : a.y ≡ q.y
  pub same_right : q.y ≡ b.y
  pub after_left : a.x ≤ᶻ q.x
  pub before_right : q.x ≤ᶻ b.x

pub row_segment : (a b q : Point) → InRow a b q → OnSegment a b q
row_segment a b q h = record {
  straight = linear≡ (coordinates (a ∷ b ∷ q ∷ []))
      ((a.x -ℤ b.x) ∗≡ h.same_left ∔ (q.x -ℤ a.x) ∗≡ (h.same_left ∙ h.same_right)) (search quote depth 20) tt;
  x_between = inl (h.after_left, h.before_right);
  y_between = inl (le_of_equal h.same_left, le_of_equal h.same_right);
}

-- a point of s between two other points of s is no corner
pub segment_point_no_corner : (s : List Point) (a b q : Point) → In a s → In b s → (a ≡ q → ⊥) → (b ≡ q → ⊥) → OnSegment a b q
    → Corner s q → ⊥
segment_point_no_corner s a b q ia ib na nb h k = k.outside (segment a b (ia, na) (ib, nb) h)

-- a point of s with others of s on both sides in its row is no corner
pub inner_of_row_no_corner : (s : List Point) (a q b : Point) → In a s → In b s → a.y ≡ q.y → q.y ≡ b.y → Before a q → Before q b
    → Corner s q → ⊥
inner_of_row_no_corner s a q b ia ib e f h g =
    segment_point_no_corner s a b q ia ib
    (λ d. before_irreflexive q (subst (λ z. Before z q) d h))
    (λ d. before_irreflexive q (subst (Before q) d g))
    (row_segment a b q record { same_left = e; same_right = f; after_left = in_one_row a q e h; before_right = in_one_row q b f g })
  where
    in_one_row : (u v : Point) → u.y ≡ v.y → Before u v → u.x ≤ᶻ v.x
    in_one_row u v e (row h) = linear⊥ (u.y ∷ v.y ∷ []) (gap< h ⊞ pos 1 ⋆≡ sym e) (search quote depth 20) tt
    in_one_row u v e (column d h) = le_of_lt h

-- ---- what spans the row ends spans all
pub spans_larger : (e s c : List Point) → Subset e s → ((q : Point) → In q s → InHull (Of e) q) → Spans e c → Spans s c
spans_larger e s c f g h = record {
  shape = h.shape;
  inside = λ q m. f q (h.inside q m);
  cover = λ q m. (hull_of_spanned e c h q).0 (g q m);
}

-- e holds points of s, and each point of s is between two of them in one row: e has the corner list of s
pub corner_list_of_row_ends : (e s c : List Point) → Subset e s
    → ((q : Point) → In q s → (a : Point) × (b : Point) × In a e × In b e × InRow a b q) → CornerList e c → CornerList s c
corner_list_of_row_ends e s c f g h =
    (corner_list_spans s c).1
    (spans_larger e s c f (λ q m. let r = g q m in segment r.0 r.1 r.2 r.3 (row_segment r.0 r.1 q r.4))
    ((corner_list_spans e c).0 h))
