-- `range::find_outside` meets its contract: a turn of the loop leaves one half. Assumes nothing.
use Rattle.std.proofs.Common.{arith, subst, sym}
use lib.ListN.{length-map}
use Rattle.lattice.specs.Point.{InRange, All}
use Rattle.packed.proofs.Tests.{tells_yes, tells_no}
use Rattle.range.specs.Pairs.{point_of, points_of}
use Rattle.range.proofs.Chunks.{points_part}
use Rattle.range.proofs.Halving.{Halving, halving_all, halving_later, halving_earlier, halving_one}
use Rattle.range.proofs.find_outside.Goals as goal

pub loop-low-init : goal.loop-low-init
loop-low-init c = subst (Halving InRange (points_of c.args.points.now) 0) (length-map c.args.points.now point_of) (halving_all InRange (points_of c.args.points.now) c.requires)

pub loop-low-preserved-then-all_inside : goal.loop-low-preserved-then-all_inside
loop-low-preserved-then-all_inside c =
    halving_later InRange _ _ _ c.loop-low.invariant _ (omega arith) (omega arith)
    (subst (All InRange) (points_part c.args.points.now _ _) (tells_yes c.if-all_inside.true c.all_inside.ensures))

pub loop-low-preserved : goal.loop-low-preserved
loop-low-preserved c =
    halving_earlier InRange _ _ _ c.loop-low.invariant _ (omega arith) (omega arith)
    (λ a. tells_no c.if-all_inside.false c.all_inside.ensures (subst (All InRange) (sym (points_part c.args.points.now _ _)) a))

pub returns : goal.returns
returns c = halving_one InRange (points_of c.args.points.now) _ _ c.loop-low.invariant (omega arith)
