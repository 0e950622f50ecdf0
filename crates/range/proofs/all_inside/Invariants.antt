-- The loop of `range::all_inside`: whether the points so far are in range. Assumes nothing.
use Rattle.lattice.specs.Point.{InRange, point}
use Rattle.packed.specs.Packed.{Tells}
use Rattle.range.specs.Pairs.{points_of}
use Rattle.range.proofs.Passing.{Passed}
use Rattle.range.proofs.all_inside.Given as goal

abbrev pub invariant-loop-x : goal.invariant-loop-x
invariant-loop-x l = Tells l.good (Passed (λ j. InRange (point (points_of l.points) j)) l.x-index)
