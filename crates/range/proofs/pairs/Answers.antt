-- `range::pairs` meets its contract: chunks of two numbers are points. Assumes nothing.
use Rattle.std.proofs.Common.{sym, ◌∙◌}
use Rattle.lattice.proofs.Numbers.{points_length}
use Rattle.range.proofs.Chunks.{chunks_are}
use Rattle.range.proofs.pairs.Goals as goal

pub returns : goal.returns
returns c = c.as_chunks.ensures.front ∙ chunks_are c.args.list.now _ (sym (points_length c.args.list.now))
