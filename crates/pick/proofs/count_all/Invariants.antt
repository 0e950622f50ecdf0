-- What the edges up to a corner have summed. Assumes nothing.
use Rattle.pick.proofs.Sums.{Summed}
use Rattle.pick.proofs.count_all.Given as goal

abbrev pub invariant-loop-i : goal.invariant-loop-i
invariant-loop-i g l = Summed (g.C.Corners.keys l.corners) l.edges l.i
