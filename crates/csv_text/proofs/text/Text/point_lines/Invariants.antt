-- A turn of the loop puts the line of one point more.
use Rattle.std.proofs.Common.{take}
use Rattle.lattice.specs.Point.{points}
use Rattle.csv_text.specs.Text.{point_lines}
use Rattle.csv_text.specs.Written.{Whole}
use Rattle.csv_text.proofs.text.Text.point_lines.Given as goal

abbrev pub invariant-loop-x : goal.invariant-loop-x
invariant-loop-x l = Whole l.fn.self (point_lines l.kind (take l.x-index (points l.list))) l.self
