-- The loop of `scan::row_begin`: the points from `before` to `end` are in one row. Assumes nothing.
use Rattle.scan.proofs.Rows.{Running}
use Rattle.scan.proofs.row_begin.Given as goal

abbrev pub invariant-loop-before : goal.invariant-loop-before
invariant-loop-before l = Running l.keys l.before l.end
