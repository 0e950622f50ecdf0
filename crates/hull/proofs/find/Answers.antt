-- `hull::find` meets its contract: what order::find tells, the corners, the rooms and the missing points. Assumes nothing.
use Rattle.std.proofs.Common.{[], refl, arith}
use Rattle.packed.proofs.Tests.{tells_yes, tells_no}
use Rattle.order.proofs.Ordering.{found_keys}
use Rattle.scan.proofs.Rising.{keys_rise}
use Rattle.hull.proofs.Hulling.{find_corners_small, find_missing_small, find_found, corners_listed}
use Rattle.hull.proofs.find.Goals as goal

pub scan-corners-requires : goal.scan-corners-requires
scan-corners-requires c =
    let f = found_keys refl c.in_ok-points.ensures in
    (keys_rise _ _ f.keys_are, omega (arith, f.long, f.all, c.requires.0 f.measured, c.requires.1))

pub returns-then-pairs-corners : goal.returns-then-pairs-corners
returns-then-pairs-corners c = λ ordered corners e d.
    find_corners_small _ _ _ _ _ _ (found_keys refl c.in_ok-points.ensures) c.scan-corners.ensures
    (omega (arith, e, c.if-pairs-points.false)) (omega (arith, d, c.if-pairs-corners.true))

pub leaves_more-requires : goal.leaves_more-requires
leaves_more-requires c =
    let f = found_keys refl c.in_ok-points.ensures in
    (corners_listed c.args.list.now [] [] 0 _ _ f c.scan-corners.ensures, omega (arith, f.all, f.measured.1))

pub returns-then-leaves_more : goal.returns-then-leaves_more
returns-then-leaves_more c = λ ordered corners e d.
    find_missing_small _ _ _ _ _ _ (found_keys refl c.in_ok-points.ensures) c.scan-corners.ensures
    (omega (arith, e, c.if-pairs-points.false)) (omega (arith, d, c.if-pairs-corners.false))
    (tells_yes c.if-leaves_more.true c.leaves_more.ensures)

pub returns : goal.returns
returns c = λ ordered corners e d.
    find_found _ _ _ _ _ _ (found_keys refl c.in_ok-points.ensures) c.scan-corners.ensures
    (omega (arith, e, c.if-pairs-points.false)) (omega (arith, d, c.if-pairs-corners.false))
    (tells_no c.if-leaves_more.false c.leaves_more.ensures)
