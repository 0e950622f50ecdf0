-- The points before place i each follow the one before. Assumes nothing.
use Rattle.lattice.specs.Point.{points}
use Rattle.packed.specs.Packed.{Tells}
use Rattle.missing.proofs.Straying.{Follow}
use Rattle.missing.proofs.all_follow.Given as goal

abbrev pub invariant-loop-i : goal.invariant-loop-i
invariant-loop-i l = Tells l.good (Follow (points l.missing) l.i)
