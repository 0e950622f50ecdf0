-- `pick::count_of` meets its contract: packed, the corners are a corner list. Assumes nothing.
use Rattle.packed.proofs.KeysOf.{outline_cornered}
use Rattle.pick.proofs.Sums.{counted_numbers}
use Rattle.pick.proofs.count_of.Goals as goal

pub count_all-requires : goal.count_all-requires
count_all-requires c = (c.requires.range, outline_cornered c.requires)

pub returns : goal.returns
returns c = counted_numbers c.requires _ c.count_all.ensures
