-- `range::all_inside` meets its contract: a turn of the loop looks at one point more. Assumes nothing.
use Rattle.std.proofs.Common.{arith, subst, rules}
use lib.ListN.{length-map}
use Rattle.lattice.specs.Point.{InRange, point}
use Rattle.lattice.proofs.Places.{all_place, place_all}
use Rattle.packed.specs.Packed.{Tells}
use Rattle.packed.proofs.Tests.{tells_as}
use Rattle.range.specs.Pairs.{point_of, points_of}
use Rattle.range.proofs.Chunks.{pair_read}
use Rattle.range.proofs.Passing.{tells_and}
use Rattle.range.proofs.all_inside.Goals as goal

pub loop-x-preserved : goal.loop-x-preserved
loop-x-preserved c =
    let pairs = c.args.points.now in
    tells_and (λ j. InRange (point (points_of pairs) j)) c.loop-x.x-index c.loop-x.good c.in_range-good.result c.loop-x.invariant
    (subst (λ p. Tells c.in_range-good.result (InRange p)) (pair_read pairs c.loop-x.x-index c.loop-x-test.true (search rules) (search rules)) c.in_range-good.ensures)

pub returns : goal.returns
returns c =
    let pairs = c.args.points.now in
    let n = length-map pairs point_of in
    tells_as c.loop-x.good (λ f. place_all InRange (points_of pairs) (λ j m. f j (omega arith))) (λ a j m. all_place InRange (points_of pairs) a j (omega arith)) c.loop-x.invariant
