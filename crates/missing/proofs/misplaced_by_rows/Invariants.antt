-- A turn passes the missing points of one row more. Assumes nothing.
use Rattle.stretch.specs.Stretch.{last_row}
use Rattle.walk.proofs.Along.{Along}
use Rattle.missing.proofs.Misplacing.{Looking}
use Rattle.missing.proofs.misplaced_by_rows.Given as goal

abbrev pub invariant-loop-y : goal.invariant-loop-y
invariant-loop-y l = record {
  along : Along l.corners l.y-iterator;
  looking : Looking l.corners l.missing (last_row l.corners l.y-iterator.peak) l.y-iterator.y l.begin;
}
