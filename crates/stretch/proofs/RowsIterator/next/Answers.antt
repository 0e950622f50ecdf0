-- The next row of a hull, and its columns between both sides. Assumes nothing.
use native.Mathlib.Omega.{arith}
use Rattle.stretch.proofs.Upwards.{next_is}
use Rattle.stretch.proofs.RowsIterator.next.Goals as goal

pub returns-clause-steps : goal.returns-clause-steps
returns-clause-steps c = next_is c.self.invariant (omega (arith, c.self.invariant.last_is, c.if-self.false)) _ c.self.view_is _ c.across.ensures
