-- The loop of `scan::row_end`: the points from `begin` to `end` are in one row. Assumes nothing.
use Rattle.scan.proofs.Rows.{Running}
use Rattle.scan.proofs.row_end.Given as goal

abbrev pub invariant-loop-end : goal.invariant-loop-end
invariant-loop-end l = Running l.keys l.begin l.end
