-- `pick::count_all` meets its contract: past the last corner, the edges tell the number of the hull's lattice points. Assumes nothing.
use Rattle.std.proofs.Common.{arith}
use Rattle.pick.proofs.Sums.{summed_half}
use Rattle.pick.proofs.count_all.Goals as goal

pub returns : goal.returns
returns g c = summed_half c.requires.1 (omega arith) c.loop-i.invariant (omega arith) _ c.count.ensures
