-- The coordinates of the points before this one are summed. Assumes nothing.
use Rattle.lattice.specs.Point.{points}
use Rattle.figures.proofs.Summing.{Summed}
use Rattle.figures.proofs.sum.Given as goal

abbrev pub invariant-loop-pair : goal.invariant-loop-pair
invariant-loop-pair l = Summed l.coordinate (points l.list) l.pair-index l.total
