-- The loop of `range::rising`: the points so far are in range and in row order, all below `least`. Assumes nothing.
use Rattle.lattice.specs.Point.{points}
use Rattle.range.proofs.InOrder.{Rising}
use Rattle.range.proofs.rising.Given as goal

abbrev pub invariant-loop-x : goal.invariant-loop-x
invariant-loop-x l = Rising (points l.list) l.least l.x-index
