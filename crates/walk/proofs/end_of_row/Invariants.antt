-- A turn passes the points up to a later one of the row. Assumes nothing.
use Rattle.std.proofs.Common.{◌-◌}
use Rattle.lattice.specs.Point.{points}
use Rattle.rows.proofs.RowLaws.{Running}
use Rattle.walk.proofs.end_of_row.Given as goal

abbrev pub invariant-loop-i : goal.invariant-loop-i
invariant-loop-i l = Running (points l.list) l.y l.begin l.i

abbrev pub decreases-loop-i : goal.decreases-loop-i
decreases-loop-i l = l.n - l.i
