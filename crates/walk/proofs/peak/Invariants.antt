-- A turn halves the places that are left. Assumes nothing.
use Rattle.std.proofs.Common.{◌-◌}
use Rattle.packed.specs.Corners.{keys_of}
use Rattle.walk.proofs.Peaking.{Peaking}
use Rattle.walk.proofs.peak.Given as goal

abbrev pub invariant-loop-low : goal.invariant-loop-low
invariant-loop-low l = Peaking (keys_of l.corners) l.low l.high

abbrev pub decreases-loop-low : goal.decreases-loop-low
decreases-loop-low l = l.high - l.low
