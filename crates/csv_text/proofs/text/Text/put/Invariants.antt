-- The bytes up to here stand in the room.
use Rattle.std.proofs.Common.{take}
use Rattle.csv_text.specs.Written.{Whole}
use Rattle.csv_text.proofs.text.Text.put.Given as goal

abbrev pub invariant-loop-b : goal.invariant-loop-b
invariant-loop-b l = Whole l.fn.self (take l.b-index l.bytes) l.self
