-- A row is written gap by gap: each turn fills the gap before a point, and passes that point's neighbours. Assumes nothing.
use mathlib.Core.List.{List}
use native.Mathlib.Omega.{arith}
use mathlib.Core.Path.{◌≡◌}
use Prim.Native.Nat.{ℕ, ◌+◌, ◌*◌, ◌-◌, ◌/◌, ◌≤◌, ◌<◌}
use borrow.Rule.Slice.PartMut.{put_mid}
use lib.ListN.{length}
use lib.IntN.{ℤ}
use Rattle.lattice.specs.Point.{InRange, points, point}
use Rattle.lattice.proofs.Numbers.{points_length}
use Rattle.lattice.proofs.Places.{all_place}
use Rattle.packed.specs.Packed.{side}
use Rattle.stretch.specs.declared.Stretch.{Stretch}
use Rattle.walk.specs.Walk.{column_at, RowPoints, Gap, Across, Takes, Puts}
use Rattle.walk.proofs.Rows.{row_in_range}
use Rattle.walk.proofs.Lending.{rest}
use Rattle.walk.proofs.Gaps.{Gapping, gapping_none, gapping_used, gapping_ends}
use Rattle.walk.proofs.Filling.{no_gap, no_fall, gapping_neighbours, gapping_rest, gapping_fill}
use Rattle.walk.proofs.write_row.Goals as goal

pub returns-then-n-width : goal.returns-then-n-width
returns-then-n-width c = no_gap _ _ _ c.requires.0 (omega (arith, points_length c.args.row.now, c.if-n-width.true, c.width.ensures)) _

pub loop-i-init : goal.loop-i-init
loop-i-init c = record { written = gapping_none _ _ _ c.requires.0 _; fits = omega arith }

-- ---- the row's points are in range, and columns rise
module _ (row : List ℤ) (s : Stretch) (y : ℕ) (h : RowPoints row s y) (few : y < side) where
  in_range : (i : ℕ) → i < length row / 2 → (i < length (points row)) × InRange (point (points row) i)
  in_range i l =
      let u : i < length (points row) = omega (arith, points_length row, l) in
      (u, all_place InRange (points row) (row_in_range row s y h few) i u)

  module _ (room₀ : List ℤ) (t : Takes (Gap row s y) room₀) (x i used : ℕ) (room : List ℤ) (g : Gapping row s y x i used room₀ room) where
    -- a gap begins where all is written, ends in the stretch, and before its end the row has no point more
    module _ (l : i < length row / 2) (column : ℕ) (e : column ≡ column_at row i) where
      begins : x ≤ column
      begins = omega (arith, e, g.passed.after i (omega arith) (in_range i l).0)

      ends : column ≤ s.to
      ends = omega (arith, e, (h.within i (in_range i l).0).to)

      clear : (j : ℕ) → i ≤ j → j < length (points row) → column ≤ column_at row j
      clear j u v = omega (arith, e, no_fall row s y h i j u v)

      gap_fits : (x ≤ column) × (column ≤ side) × (y < side) × (2 * (column - x) ≤ length (rest room (2 * used)))
      gap_fits = (begins, omega (arith, ends, h.few), few, gapping_rest row s y h x i used room₀ room g t column begins ends clear)

      module _ (r : ℕ) (back : List ℤ) (p : Puts (Across (record { from = x; to = column }) y) (rest room (2 * used)) r back) where
        filled : Gapping row s y column i (used + r) room₀ (put_mid (2 * used) (length room - 2 * used) room back)
        filled = gapping_fill row s y h x i used room₀ room g t column begins ends clear r back p

        filled_fits : 2 * (used + r) ≤ length (put_mid (2 * used) (length room - 2 * used) room back)
        filled_fits = gapping_used row s y h column i (used + r) room₀ (put_mid (2 * used) (length room - 2 * used) room back) filled t

    -- behind the last point of the row
    module _ (l : length row / 2 ≤ i) where
      past : (j : ℕ) → i ≤ j → j < length (points row) → s.to ≤ column_at row j
      past j u v = absurd (omega (arith, u, v, l, points_length row))

      rest_fits : (x ≤ s.to) × (s.to ≤ side) × (y < side) × (2 * (s.to - x) ≤ length (rest room (2 * used)))
      rest_fits = (g.to, h.few, few, gapping_rest row s y h x i used room₀ room g t s.to g.to (omega arith) past)

      module _ (r : ℕ) (back : List ℤ) (p : Puts (Across (record { from = x; to = s.to }) y) (rest room (2 * used)) r back) where
        finished : Gapping row s y s.to i (used + r) room₀ (put_mid (2 * used) (length room - 2 * used) room back)
        finished = gapping_fill row s y h x i used room₀ room g t s.to g.to (omega arith) past r back p

        finished_fits : 2 * (used + r) ≤ length (put_mid (2 * used) (length room - 2 * used) room back)
        finished_fits = gapping_used row s y h s.to i (used + r) room₀ (put_mid (2 * used) (length room - 2 * used) room back) finished t

pub column_at-requires : goal.column_at-requires
column_at-requires c = in_range _ _ _ c.requires.0 c.requires.1 _ c.loop-i-test.true

pub fill-used-requires : goal.fill-used-requires
fill-used-requires c = gap_fits _ _ _ c.requires.0 c.requires.1 _ c.requires.2 _ _ _ _ c.loop-i.invariant.written c.loop-i-test.true _ c.column_at.ensures.0

pub overflow_add-used : goal.overflow_add-used
overflow_add-used c =
    let k = filled_fits _ _ _ c.requires.0 c.requires.1 _ c.requires.2 _ _ _ _ c.loop-i.invariant.written c.loop-i-test.true _ c.column_at.ensures.0 _ _ c.fill-used.ensures in
    omega (arith, k)

pub neighbour-last-requires : goal.neighbour-last-requires
neighbour-last-requires c = ((in_range _ _ _ c.requires.0 c.requires.1 _ c.loop-i-test.true).0, row_in_range _ _ _ c.requires.0 c.requires.1)

pub column_at-x-requires : goal.column_at-x-requires
column_at-x-requires c = let u = c.neighbour-last.ensures.upto in
    (u, all_place InRange (points c.args.row.now) (row_in_range _ _ _ c.requires.0 c.requires.1) _ u)

pub loop-i-preserved : goal.loop-i-preserved
loop-i-preserved c = record {
  written =
      gapping_neighbours _ _ _ c.requires.0 _ _ _ _ _
      (filled _ _ _ c.requires.0 c.requires.1 _ c.requires.2 _ _ _ _ c.loop-i.invariant.written c.loop-i-test.true _ c.column_at.ensures.0 _ _ c.fill-used.ensures)
      _ _ c.neighbour-last.ensures c.column_at.ensures.0 c.column_at-x.ensures.0;
  fits = filled_fits _ _ _ c.requires.0 c.requires.1 _ c.requires.2 _ _ _ _ c.loop-i.invariant.written c.loop-i-test.true _ c.column_at.ensures.0 _ _ c.fill-used.ensures;
}

pub fill-requires : goal.fill-requires
fill-requires c = rest_fits _ _ _ c.requires.0 c.requires.1 _ c.requires.2 _ _ _ _ c.loop-i.invariant.written c.loop-i-test.false

pub overflow_add-result : goal.overflow_add-result
overflow_add-result c =
    let k = finished_fits _ _ _ c.requires.0 c.requires.1 _ c.requires.2 _ _ _ _ c.loop-i.invariant.written c.loop-i-test.false _ _ c.fill.ensures in
    omega (arith, k)

pub returns : goal.returns
returns c =
    gapping_ends _ _ _ c.requires.0 _ _ _ _ _
    (finished _ _ _ c.requires.0 c.requires.1 _ c.requires.2 _ _ _ _ c.loop-i.invariant.written c.loop-i-test.false _ _ c.fill.ensures) (omega arith)
