-- The loop of `scan::descend`: the rows so far are passed. Assumes nothing.
use Rattle.std.proofs.Common.{◌≡◌, length}
use Rattle.scan.proofs.Climbing.{Descending}
use Rattle.scan.proofs.descend.Given as goal

abbrev pub invariant-loop-end : goal.invariant-loop-end
invariant-loop-end l = record {
  same_points : l.way.points.ghost_name ≡ l.initial.way.points.ghost_name;
  long : length l.way.points.now ≡ length l.initial.way.points.now;
  base : l.way.base ≡ l.initial.way.base;
  descending : Descending l.keys l.initial.way.points.now l.initial.way.base l.way.points.now l.way.top l.end;
}

abbrev pub decreases-loop-end : goal.decreases-loop-end
decreases-loop-end l = l.end
