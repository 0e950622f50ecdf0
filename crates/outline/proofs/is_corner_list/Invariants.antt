-- The corners before place i follow, and the last two of them are at hand. Assumes nothing.
use Rattle.outline.proofs.Shaping.{Shaping}
use Rattle.outline.proofs.is_corner_list.Given as goal

abbrev pub invariant-loop-i : goal.invariant-loop-i
invariant-loop-i l = Shaping l.corners l.first l.earlier l.before l.i
