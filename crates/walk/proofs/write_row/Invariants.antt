-- A turn fills one gap more and passes the neighbours behind it. Assumes nothing.
use Rattle.std.proofs.Common.{◌-◌, ◌*◌, ◌≤◌, length}
use Rattle.walk.proofs.Gaps.{Gapping}
use Rattle.walk.proofs.write_row.Given as goal

abbrev pub invariant-loop-i : goal.invariant-loop-i
invariant-loop-i l = record { written : Gapping l.row l.stretch l.y l.x l.i l.used l.initial.room l.room; fits : 2 * l.used ≤ length l.room }

abbrev pub decreases-loop-i : goal.decreases-loop-i
decreases-loop-i l = l.n - l.i
