-- The points of the keys before this one stand in the room. Assumes nothing.
use Rattle.order.proofs.Writing.{Writing}
use Rattle.order.proofs.write.Given as goal

abbrev pub invariant-loop-i : goal.invariant-loop-i
invariant-loop-i l = Writing l.keys l.fn.room l.room l.i
