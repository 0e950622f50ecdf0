-- A turn writes what one row more lacks. Assumes nothing.
use Rattle.std.proofs.Common.{◌*◌, ◌≤◌, length}
use Rattle.stretch.specs.Stretch.{last_row}
use Rattle.walk.proofs.Along.{Along}
use Rattle.walk.proofs.Loops.{Written}
use Rattle.walk.proofs.write.Given as goal

abbrev pub invariant-loop-y : goal.invariant-loop-y
invariant-loop-y l = record {
  along : Along l.corners l.y-iterator;
  written : Written l.corners l.list (last_row l.corners l.y-iterator.peak) l.y-iterator.y l.begin l.used l.initial.room l.room;
  fits : 2 * l.used ≤ length l.room;
}
