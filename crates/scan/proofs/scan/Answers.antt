-- `scan::scan` meets its contract: one point is its own corner. Assumes nothing.
use Rattle.std.proofs.Common.{arith}
use Rattle.scan.proofs.Climbing.{cornered_one}
use Rattle.scan.proofs.scan.Goals as goal

pub returns-in-1 : goal.returns-in-1
returns-in-1 c = cornered_one _ c.args.stack.now c.in-1.is c.requires.0.below (omega (arith, c.requires.1, c.in-1.is))
