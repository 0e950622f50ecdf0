-- A row of a hull: where its cells lie, and when they are inside by the edges and the ends of the hull. Assumes nothing.
use mathlib.Core.Logic.{◌↔◌}
use mathlib.Core.Path.{subst}
use mathlib.Core.List.{List, map}
use Prim.Native.Nat.{ℕ, ◌+◌, ◌*◌, ◌≤◌, ◌<◌}
use native.Mathlib.Omega.{arith}
use lib.ListN.{get_or}
use Rattle.lattice.specs.Point.{Point, In, Before}
use Rattle.lattice.specs.Hull.{InHull, Of}
use Rattle.lattice.proofs.Lists.{either}
use Rattle.lattice.proofs.Places.{lt_or_le}
use Rattle.lattice.proofs.CornerLists.{corner_list_shape}
use Rattle.lattice.proofs.Polygon.{InsideEnds, polygon_by_ends}
use Rattle.packed.specs.Packed.{side, unpacked}
use Rattle.packed.specs.Corners.{Cornered}
use Rattle.packed.proofs.RowOrder.{unpacked_before}
use Rattle.packed.proofs.KeyLaws.{unpacked_in, in_unpacked}
use Rattle.stretch.specs.Stretch.{cell, Peaked}
use Rattle.stretch.proofs.Counting.{cell_before, before_cell, is_cell_before, is_before_cell}

-- they are a corner list
pub cornered_of : {corners : List ℕ} {peak y : ℕ} → Peaked corners peak y → Cornered corners
cornered_of h = record { below = h.below; listed = h.listed }

-- between the first corner and the last in row order
abbrev pub Between : List ℕ → ℕ → ℕ → ℕ → Type 0
Between corners last y x = (Before (cell x y) (unpacked (get_or corners 0 0)) → ⊥) × (Before (unpacked last) (cell x y) → ⊥)

module _ (corners : List ℕ) (peak y : ℕ) (h : Peaked corners peak y) where
  abbrev pub last_of : ℕ
  last_of = get_or corners peak 0

  pub row_small : y < side
  row_small = omega (arith, h.below peak h.peaks.inside, h.to_row)

  -- the last corner is a corner, and none comes after it
  last_in : In (unpacked last_of) (map unpacked corners)
  last_in = unpacked_in corners peak h.peaks.inside

  none_after : (q : Point) → In q (map unpacked corners) → Before (unpacked last_of) q → ⊥
  none_after q m b =
      let r = in_unpacked corners q m in
      let l = unpacked_before last_of (get_or corners r.0 0) (subst (Before (unpacked last_of)) r.2 b) in
      omega (arith, l, h.peaks.greatest r.0 r.1)

  pub in_hull : (p : Point) → InHull (Of (map unpacked corners)) p ↔ InsideEnds (map unpacked corners) (unpacked last_of) p
  in_hull = polygon_by_ends (map unpacked corners) (corner_list_shape (map unpacked corners) (map unpacked corners) h.listed) (unpacked last_of) last_in none_after

  -- in packed points
  pub cells_between : (x : ℕ) → x < side → get_or corners 0 0 ≤ side * y + x → side * y + x ≤ last_of → Between corners last_of y x
  cells_between x n u v = ((λ b. omega (arith, u, cell_before (get_or corners 0 0) x y n b)), (λ b. omega (arith, v, before_cell last_of x y n b)))

  pub between_cells : (x : ℕ) → x < side → Between corners last_of y x → (get_or corners 0 0 ≤ side * y + x) × (side * y + x ≤ last_of)
  between_cells x n b = (
    either (lt_or_le (side * y + x) (get_or corners 0 0)) (λ l. absurd (b.0 (is_cell_before (get_or corners 0 0) x y n l))) (λ l. l),
    either (lt_or_le last_of (side * y + x)) (λ l. absurd (b.1 (is_before_cell last_of x y n l))) (λ l. l),
  )
