-- The arrays of two numbers are the corners. Assumes nothing.
use Rattle.packed.proofs.Tests.{read_back}
use Rattle.missing.proofs.Chunked.{contains_tells}
use Rattle.missing.proofs.is_corner.Goals as goal

pub returns : goal.returns
returns c =
    contains_tells c.args.corners.now (record { x = c.args.x; y = c.args.y }) c.contains.result c.as_chunks.result.0.now c.as_chunks.ensures.front _ _
    (read_back c.args.x c.ranges.x) (read_back c.args.y c.ranges.y) c.contains.ensures.cases
