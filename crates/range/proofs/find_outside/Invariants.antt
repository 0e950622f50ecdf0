-- The loop of `range::find_outside`: what is left, from `low` to `high`, has the first fault. Assumes nothing.
use Rattle.std.proofs.Common.{◌-◌}
use Rattle.lattice.specs.Point.{InRange}
use Rattle.range.specs.Pairs.{points_of}
use Rattle.range.proofs.Halving.{Halving}
use Rattle.range.proofs.find_outside.Given as goal

abbrev pub invariant-loop-low : goal.invariant-loop-low
invariant-loop-low l = Halving InRange (points_of l.points) l.low l.high

abbrev pub decreases-loop-low : goal.decreases-loop-low
decreases-loop-low l = l.high - l.low
