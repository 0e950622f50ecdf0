-- `hull::hull` meets its contract: no grain has as many missing points as the range has points. Assumes nothing.
use Rattle.std.proofs.Common.{arith}
use Rattle.hull.proofs.Hulling.{without_limit}
use Rattle.hull.proofs.hull.Goals as goal

pub returns : goal.returns
returns c = without_limit _ _ _ _ _ _ _ (omega arith) c.within.ensures
