-- The loop of `rows::run`: the points from `begin` to `end` are in row y. Assumes nothing.
use Rattle.std.proofs.Common.{◌≡◌, ◌+◌}
use Rattle.lattice.specs.Point.{points}
use Rattle.rows.proofs.RowLaws.{Running}
use Rattle.rows.proofs.run.Given as goal

abbrev pub invariant-loop-v : goal.invariant-loop-v
invariant-loop-v l = (l.end ≡ l.begin + l.v-index) × Running (points l.list) l.y l.begin l.end
