-- `figures::sum` meets its contract: a turn of the loop adds one coordinate more. Assumes nothing.
use Rattle.std.proofs.Common.{arith, ap, length}
use Rattle.range.proofs.Chunks.{inside, pairs_length}
use Rattle.figures.proofs.Summing.{read_coordinate, summed_none, summed_fits, summed_more, summed_ends}
use Rattle.figures.proofs.sum.Goals as goal

pub loop-pair-init : goal.loop-pair-init
loop-pair-init c = summed_none c.args.coordinate c.args.list.now c.requires.0

pub overflow_add-total : goal.overflow_add-total
overflow_add-total c =
    let list = c.args.list.now in
    let l = inside list _ _ c.pairs-pair-items.ensures c.loop-pair-test.true in
    summed_fits c.args.coordinate list c.requires.0 _ _ c.loop-pair.invariant l _
    (read_coordinate c.args.coordinate list c.requires.0 c.requires.1 _ c.pairs-pair-items.ensures c.loop-pair.pair-index l)

pub loop-pair-preserved : goal.loop-pair-preserved
loop-pair-preserved c =
    let list = c.args.list.now in
    let l = inside list _ _ c.pairs-pair-items.ensures c.loop-pair-test.true in
    summed_more c.args.coordinate list c.requires.0 _ _ c.loop-pair.invariant l _
    (read_coordinate c.args.coordinate list c.requires.0 c.requires.1 _ c.pairs-pair-items.ensures c.loop-pair.pair-index l)

pub returns : goal.returns
returns c =
    let list = c.args.list.now in
    summed_ends c.args.coordinate list c.requires.0 _ _ c.loop-pair.invariant
    (omega (arith, ap length c.pairs-pair-items.ensures, pairs_length list, c.loop-pair-test.false))
