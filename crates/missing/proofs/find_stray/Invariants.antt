-- The points before i are in row order, all below `least`. Assumes nothing.
use Rattle.lattice.specs.Point.{points}
use Rattle.range.proofs.InOrder.{Rising}
use Rattle.missing.proofs.find_stray.Given as goal

abbrev pub invariant-loop-i : goal.invariant-loop-i
invariant-loop-i l = Rising (points l.missing) l.least l.i
