-- The points of a row as a part from the middle of a list in row order. Assumes nothing.
use mathlib.Core.Path.{◌≡◌, sym, ◌∙◌, ap, subst, subst₂}
use mathlib.Core.Logic.{◌⊎◌, inl, inr}
use mathlib.Core.List.{List, [], ◌∷◌}
use Prim.Native.Nat.{ℕ, ◌+◌, ◌-◌, ◌*◌, ◌/◌, ◌%◌, ◌≤◌, ◌<◌}
use native.Mathlib.Omega.{arith}
use lib.Dec.{eqb}
use lib.ListN.{length}
use lib.IntN.{ℤ, pos, ◌+ℤ◌}
use lib.Signed.{◌≤ℤ◌, ◌<ℤ◌}
use mir.Syntax.{w32}
use mir.Val.{SFits, of_z}
use Rattle.whole.proofs.Whole.{ring, quote, ◌≤ᶻ◌, gap≤, gap<, ◌⊞◌, ◌⋆≡◌, linear≤, linear<, linear⊥, le_or_lt, antisymmetric, le_of_lt, le_of_equal}
use Rattle.lattice.specs.Point.{Point, InRange, points, point, In, All, Pairs, Before, row, column}
use Rattle.lattice.specs.Hull.{InHull, Of}
use Rattle.lattice.proofs.Lists.{either}
use Rattle.lattice.proofs.HalfPlane.{point_equal}
use Rattle.lattice.proofs.Places.{lt_or_le, place_in, in_place, place_all, pairs_place}
use Rattle.lattice.proofs.Numbers.{points_at}
use Rattle.packed.specs.Packed.{Tells, side, moved, placed, unpacked}
use Rattle.packed.proofs.Border.{moved_small}
use Rattle.packed.proofs.Reading.{column_read}
use Rattle.packed.proofs.Tests.{tells_equal, tells_as}
use Rattle.packed.proofs.RowOrder.{placed_moved, order_placed, unpacked_in_range}
use Rattle.rows.specs.Row.{Holds, LeadsTo}
use Rattle.range.proofs.Parts.{part, part_length, part_at}
use Rattle.rows.proofs.RowLaws.{Running}
use Rattle.stretch.specs.Stretch.{cell, StretchOf}
use Rattle.stretch.specs.declared.Stretch.{Stretch}
use Rattle.walk.specs.Walk.{column_at, RowPoints}

-- ---- the end of a row
pub rows_rise : (a b : Point) → Before a b → a.y ≤ℤ b.y
rows_rise a b (row h) = le_of_lt h
rows_rise a b (column e h) = le_of_equal e

-- with a later point of row y all between are in it
pub running_on : (l : List Point) (y : ℤ) (begin i r : ℕ) → Pairs Before l → Running l y begin i → (point l i).y ≡ y
    → i ≤ r → r < length l → (point l r).y ≡ y → Running l y begin (r + 1)
running_on l y begin i r order h e u v f = record {
  from = omega (arith, h.from);
  upto = omega arith;
  within = λ j a b. either (lt_or_le j i) (λ k. h.within j a k) (λ k. antisymmetric
      (subst (λ z. (point l j).y ≤ℤ z) f (later j r (omega arith) v)) (subst (λ z. z ≤ℤ (point l j).y) e (later i j k (omega arith))));
}
  where
    later : (j k : ℕ) → j ≤ k → k < length l → (point l j).y ≤ℤ (point l k).y
    later j k a b =
        either (lt_or_le j k) (λ m. rows_rise (point l j) (point l k) (pairs_place Before l order j k m b))
        (λ m. let d : j ≡ k = omega arith in le_of_equal (ap (λ n. (point l n).y) d))

-- the packed point of a cell
pub at_cell : (x y : ℕ) → x < side → unpacked (side * y + x) ≡ cell x y
at_cell x y h =
    let e : (side * y + x) % side ≡ x = omega arith in
    let f : (side * y + x) / side ≡ y = omega arith in
    λ i. record { x = placed (e i); y = placed (f i) }

cell_in_range : (x y : ℕ) → x < side → y < side → InRange (cell x y)
cell_in_range x y u v = subst InRange (at_cell x y u) (unpacked_in_range (side * y + x) (omega arith))

-- ---- the points of a row are in range
pub row_in_range : (list : List ℤ) (s : Stretch) (y : ℕ) → RowPoints list s y → y < side → All InRange (points list)
row_in_range list s y h l = place_all InRange (points list) (λ i m. subst InRange (sym (h.here i m)) (cell_in_range (column_at list i) y (omega (arith, (h.within i m).to, h.few)) l))

-- ---- the point at a place is in a column, as the machine tests it
pub tells_held : (list : List ℤ) (i : ℕ) (x : ℤ) → i < length (points list) → SFits w32 (column_read list i) → SFits w32 x
    → Tells (eqb (of_z w32 (column_read list i)) (of_z w32 x)) ((i < length (points list)) × ((point (points list) i).x ≡ x))
tells_held list i x l f g =
    let e : (point (points list) i).x ≡ column_read list i = ap (λ p. p.x) (points_at list i l) in
    tells_as (eqb (of_z w32 (column_read list i)) (of_z w32 x)) {P = column_read list i ≡ x} {Q = (i < length (points list)) × ((point (points list) i).x ≡ x)}
    (λ h. (l, e ∙ h)) (λ h. sym e ∙ h.1) (tells_equal (column_read list i) x f g)

-- ---- rows one after the other
placed_next : (y : ℕ) → placed (y + 1) ≡ placed y +ℤ pos 1
placed_next y = ring (pos y ∷ []) (search quote depth 20) tt

-- before row y + 1 is before row y, or in it
pub row_next : (y : ℕ) (z : ℤ) → z <ℤ placed (y + 1) → (z <ℤ placed y) ⊎ (z ≡ placed y)
row_next y z h =
    let g : z ≤ᶻ placed y = linear≤ (z ∷ placed y ∷ []) (gap< (subst (λ w. z <ℤ w) (placed_next y) h)) (search quote depth 20) tt in
    either (le_or_lt (placed y) z) (λ k. inr (antisymmetric g k)) (λ k. inl k)

pub next_row : (y : ℕ) (z : ℤ) → z ≤ℤ placed y → z <ℤ placed (y + 1)
next_row y z h = subst (λ w. z <ℤ w) (sym (placed_next y)) (linear< (z ∷ placed y ∷ []) (gap≤ h) (search quote depth 20) tt)

pub from_next : (y : ℕ) (z : ℤ) → placed y <ℤ z → placed (y + 1) ≤ℤ z
from_next y z h = subst (λ w. w ≤ℤ z) (sym (placed_next y)) (linear≤ (z ∷ placed y ∷ []) (gap< h) (search quote depth 20) tt)

pub holds_leads : (l : List Point) (y begin end : ℕ) → Holds l (placed y) begin end → LeadsTo l (placed (y + 1)) end
holds_leads l y begin end h = record {
  upto = h.inside;
  before = λ i u. next_row y (point l i).y
      (either (lt_or_le i begin) (λ v. le_of_lt (h.before i v)) (λ v. le_of_equal (h.within i v u)));
  stops = λ u. from_next y (point l end).y (h.after end (omega arith) u);
}

-- ---- the part of a list that holds the points of a row
module _ (list : List ℤ) (begin end : ℕ) where
  module _ (y : ℤ) (h : Holds (points list) y begin end) where
    pub part_in : (p : Point) → In p (points (part list begin end)) → In p (points list) × (p.y ≡ y)
    part_in p m =
        let r = in_place (points (part list begin end)) p m in
        let l : r.0 < end - begin = omega (arith, r.1, part_length list begin end h.inside) in
        let e = r.2 ∙ part_at list begin end r.0 l in (
          subst (λ q. In q (points list)) (sym e) (place_in (points list) (begin + r.0) (omega (arith, l, h.inside))),
          ap (λ q. q.y) e ∙ h.within (begin + r.0) (omega arith) (omega (arith, l)),
        )

    pub in_part : (p : Point) → In p (points list) → p.y ≡ y → In p (points (part list begin end))
    in_part p m e =
        let r = in_place (points list) p m in
        let f : (point (points list) r.0).y ≡ y = ap (λ q. q.y) (sym r.2) ∙ e in
        let u : begin ≤ r.0 = either (lt_or_le r.0 begin) (λ k. absurd (never (h.before r.0 k) f)) (λ k. k) in
        let v : r.0 < end = either (lt_or_le r.0 end) (λ k. k) (λ k. absurd (never (h.after r.0 k r.1) (sym f))) in
        let d : begin + (r.0 - begin) ≡ r.0 = omega (arith, u) in
        subst (λ q. In q (points (part list begin end))) (part_at list begin end (r.0 - begin) (omega (arith, u, v)) ∙ ap (point (points list)) d ∙ sym r.2)
        (place_in (points (part list begin end)) (r.0 - begin) (omega (arith, u, v, part_length list begin end h.inside)))
      where
        never : {a b : ℤ} → a <ℤ b → a ≡ b → ⊥
        never {a} {b} k e = linear⊥ (a ∷ b ∷ []) (gap< k ⊞ pos 1 ⋆≡ sym e) (search quote depth 20) tt

-- a point of the range that is in row y stands in one of its cells
pub in_cell : (p : Point) (y : ℕ) → InRange p → p.y ≡ placed y → p ≡ cell (moved p.x) y
in_cell p y r e = point_equal (sym (placed_moved p.x r.x_from)) e

-- in one row the earlier point is in a smaller column
before_column : (p q : Point) → p.y ≡ q.y → Before p q → p.x <ℤ q.x
before_column p q e (row h) = linear⊥ (p.y ∷ q.y ∷ []) (gap< h ⊞ pos 1 ⋆≡ sym e) (search quote depth 20) tt
before_column p q e (column f h) = h

-- the points of a row, all in the stretch
pub row_points : (c : List Point) (list : List ℤ) (y begin end : ℕ) (s : Stretch) → Holds (points list) (placed y) begin end → StretchOf c y s
    → Pairs Before (points list) → ((p : Point) → In p (points list) → InHull (Of c) p) → ((p : Point) → In p (points list) → InRange p)
    → RowPoints (part list begin end) s y
row_points c list y begin end s h f order inside range = record {
  rising = f.rising;
  few = f.few;
  here = λ i l. in_cell (at i) y (range (at i) (held i l)) (in_row i l);
  within = λ i l. f.all (column_at (part list begin end) i) (moved_small (at i).x (range (at i) (held i l)).x_from (range (at i) (held i l)).x_to)
      (subst (InHull (Of c)) (in_cell (at i) y (range (at i) (held i l)) (in_row i l)) (inside (at i) (held i l)));
  rises = λ i j u v. order_placed (column_at (part list begin end) i) (column_at (part list begin end) j)
      (subst₂ ◌<ℤ◌ (sym (placed_moved (at i).x (range (at i) (held i (omega arith))).x_from)) (sym (placed_moved (at j).x (range (at j) (held j v)).x_from))
      (before_column (at i) (at j) (in_row i (omega arith) ∙ sym (in_row j v)) (later i j u v)));
}
  where
    at : ℕ → Point
    at i = point (points (part list begin end)) i

    member : (i : ℕ) → i < length (points (part list begin end)) → In (at i) (points list) × ((at i).y ≡ placed y)
    member i l = part_in list begin end (placed y) h (at i) (place_in (points (part list begin end)) i l)

    held : (i : ℕ) → i < length (points (part list begin end)) → In (at i) (points list)
    held i l = (member i l).0

    in_row : (i : ℕ) → i < length (points (part list begin end)) → (at i).y ≡ placed y
    in_row i l = (member i l).1

    later : (i j : ℕ) → i < j → j < length (points (part list begin end)) → Before (at i) (at j)
    later i j u v =
        let n = part_length list begin end h.inside in
        subst₂ Before (sym (part_at list begin end i (omega (arith, u, v, n)))) (sym (part_at list begin end j (omega (arith, v, n))))
        (pairs_place Before (points list) order (begin + i) (begin + j) (omega arith) (omega (arith, v, n, h.inside)))
