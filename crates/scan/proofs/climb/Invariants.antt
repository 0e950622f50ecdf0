-- The loop of `scan::climb`: the rows so far are passed. Assumes nothing.
use Rattle.std.proofs.Common.{◌≡◌, ◌-◌, length}
use Rattle.scan.proofs.Climbing.{Climbing}
use Rattle.scan.proofs.climb.Given as goal

abbrev pub invariant-loop-begin : goal.invariant-loop-begin
invariant-loop-begin l = record {
  same_points : l.way.points.ghost_name ≡ l.initial.way.points.ghost_name;
  long : length l.way.points.now ≡ length l.initial.way.points.now;
  base : l.way.base ≡ 0;
  climbing : Climbing l.keys l.way.points.now l.way.top l.begin;
}

abbrev pub decreases-loop-begin : goal.decreases-loop-begin
decreases-loop-begin l = length l.keys - l.begin
