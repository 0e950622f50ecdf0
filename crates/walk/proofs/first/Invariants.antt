-- A turn of the outer loop passes one row more, one of the inner loop one column more. Assumes nothing.
use Rattle.std.proofs.Common.{◌+◌, ◌-◌}
use Rattle.stretch.specs.Stretch.{last_row}
use Rattle.walk.proofs.Along.{Along}
use Rattle.walk.proofs.Loops.{Searched, Searching}
use Rattle.walk.proofs.first.Given as goal

abbrev pub invariant-loop-x : goal.invariant-loop-x
invariant-loop-x l = Searching l.row l.columns l.y l.x

abbrev pub invariant-rows : goal.invariant-rows
invariant-rows l = record {
  along : Along l.corners l.rows;
  searched : Searched l.corners l.list (last_row l.corners l.rows.peak) l.rows.y l.begin;
}

abbrev pub decreases-rows : goal.decreases-rows
decreases-rows l = last_row l.corners l.rows.peak + 1 - l.rows.y
