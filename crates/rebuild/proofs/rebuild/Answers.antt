-- `rebuild::rebuild` meets its contract: what was foreseen is written, or nothing is. Assumes nothing.
use Rattle.std.proofs.Common.{refl}
use Rattle.rebuild.proofs.Rebuilding.{rebuilt_written}
use Rattle.rebuild.proofs.rebuild.Goals as goal

pub returns : goal.returns
returns c = rebuilt_written c.in_ok-points.ensures refl _ _ c.write.ensures
