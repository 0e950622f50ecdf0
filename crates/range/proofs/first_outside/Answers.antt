-- `range::first_outside` meets its contract: where the test of all fails, the place that is found is a point's. Assumes nothing.
use Rattle.std.proofs.Common.{◌<◌, length, refl, ap, subst, ◌∙◌, sym}
use Rattle.lattice.specs.Point.{InRange, points, All}
use Rattle.lattice.specs.Refusal.{AtPoint, OutOfRange}
use Rattle.lattice.proofs.Lists.{either}
use Rattle.lattice.proofs.Places.{lt_or_le, all_place}
use Rattle.lattice.proofs.Refusals.{within_range}
use Rattle.packed.proofs.Tests.{tells_yes, tells_no}
use Rattle.range.specs.Pairs.{points_of}
use Rattle.range.specs.First.{FirstBelow}
use Rattle.range.proofs.Chunks.{points_back}
use Rattle.range.proofs.Passing.{never_below, passing_all}
use Rattle.range.proofs.first_outside.Goals as goal

pub returns-then-all_inside : goal.returns-then-all_inside
returns-then-all_inside c =
    let l = points c.args.list.now in
    let e = ap points_of c.pairs-points.ensures ∙ points_back l in
    passing_all (length l) (AtPoint OutOfRange l) _ refl
    (λ j k p. p.1 (all_place InRange l (subst (All InRange) e (tells_yes c.if-all_inside.true c.all_inside.ensures)) j k))

pub returns-else-all_inside : goal.returns-else-all_inside
returns-else-all_inside c =
    let l = points c.args.list.now in
    let e = ap points_of c.pairs-points.ensures ∙ points_back l in
    let found = subst (λ m. FirstBelow (length m) (AtPoint OutOfRange m) c.find_outside.result) e c.find_outside.ensures in
    let inside : c.find_outside.result < length l =
    either (lt_or_le c.find_outside.result (length l)) (λ h. h)
    (λ h. absurd (tells_no c.if-all_inside.false c.all_inside.ensures
    (subst (All InRange) (sym e) (within_range l (never_below _ (AtPoint OutOfRange l) _ found (λ j p. p.0) h))))) in
    (inside, found)
