-- A turn writes one column more. Assumes nothing.
use Rattle.std.proofs.Common.{◌+◌, []}
use Rattle.walk.proofs.Gaps.{Gapping}
use Rattle.walk.proofs.fill.Given as goal

abbrev pub invariant-loop-i : goal.invariant-loop-i
invariant-loop-i l = Gapping [] l.stretch l.y (l.stretch.from + l.i) 0 l.i l.initial.room l.room
