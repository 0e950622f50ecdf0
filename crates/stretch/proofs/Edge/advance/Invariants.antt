-- The search for the edge that crosses the row after y: a turn goes one edge upwards. Assumes nothing.
use Prim.Native.Nat.{◌+◌}
use Rattle.packed.specs.Corners.{keys_of}
use Rattle.stretch.proofs.Upwards.{corners_left, Nears}
use Rattle.stretch.proofs.Edge.advance.Given as goal

abbrev pub invariant-loop-low : goal.invariant-loop-low
invariant-loop-low l = Nears l.side (keys_of l.corners.list.now) l.corners.peak (l.y + 1) l.low l.high

abbrev pub decreases-loop-low : goal.decreases-loop-low
decreases-loop-low l = corners_left l.side l.corners.peak l.high
