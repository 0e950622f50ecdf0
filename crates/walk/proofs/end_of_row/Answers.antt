-- A point of row y leads to a later one of it, and all between them are in the row. Assumes nothing.
use mathlib.Core.Path.{◌≡◌, sym, ◌∙◌, ap}
use native.Mathlib.Omega.{arith}
use mathlib.Core.List.{List}
use lib.IntN.{ℤ}
use borrow.Author.Rules.{rules}
use Prim.Native.Nat.{ℕ, ◌<◌}
use lib.ListN.{length}
use mir.Syntax.{w32}
use mir.Val.{to_z, of_z}
use Rattle.lattice.specs.Point.{points, point}
use Rattle.lattice.proofs.Numbers.{points_length, points_at}
use Rattle.packed.proofs.Tests.{read_back}
use Rattle.packed.proofs.Reading.{row_at, read_row}
use Rattle.rows.proofs.RowLaws.{running_stops}
use Rattle.walk.proofs.Rows.{running_on}
use Rattle.walk.proofs.end_of_row.Goals as goal

points_row : (l : List ℤ) (i : ℕ) → i < length (points l) → (point (points l) i).y ≡ row_at l i
points_row l i u = ap (λ p. p.y) (points_at l i u)

pub later_in_row-i-requires : goal.later_in_row-i-requires
later_in_row-i-requires c = let l = c.args.list.now in
    let u : c.loop-i.i < length (points l) = omega (arith, points_length l, c.loop-i-test.true) in
    (u, sym (read_row l c.loop-i.i (search rules) u) ∙ ap (to_z w32) c.if-list-i.true)

pub loop-i-preserved : goal.loop-i-preserved
loop-i-preserved c = let r = c.later_in_row-i.ensures in
    let l = c.args.list.now in
    let u : c.loop-i.i < length (points l) = omega (arith, points_length l, c.loop-i-test.true) in
    running_on _ _ _ _ _ c.requires.0 c.loop-i.invariant (sym (read_row l c.loop-i.i (search rules) u) ∙ ap (to_z w32) c.if-list-i.true) r.0 r.1.0 r.1.1

pub returns-else-list-i : goal.returns-else-list-i
returns-else-list-i c = let l = c.args.list.now in
    rw (read_back c.args.y c.ranges.y) at
    (running_stops _ _ _ _ c.loop-i.invariant (λ u e. c.if-list-i.false (ap (of_z w32) (sym (points_row l c.loop-i.i u) ∙ e ∙ read_back c.args.y c.ranges.y))))

pub returns-after-loop-i : goal.returns-after-loop-i
returns-after-loop-i c =
    rw (read_back c.args.y c.ranges.y) at (running_stops _ _ _ _ c.loop-i.invariant (λ h. absurd (omega (arith, h, points_length c.args.list.now, c.loop-i-test.false))))
