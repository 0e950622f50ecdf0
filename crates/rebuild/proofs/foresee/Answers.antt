-- `rebuild::foresee` meets its contract: the rows of the lists, then those of the points, then those of the result. Assumes nothing.
use Rattle.std.proofs.Common.{refl}
use Rattle.std.proofs.lemmas.Result.{err_from_is_err_and}
use Rattle.refusal.proofs.Numbers.{number_some}
use Rattle.rebuild.proofs.Rebuilding.{lists_declined, lists_taken, points_declined, points_walked, points_passed}
use Rattle.rebuild.proofs.foresee.Goals as goal

pub returns-in_err-look_at_lists : goal.returns-in_err-look_at_lists
returns-in_err-look_at_lists c =
    let p = err_from_is_err_and c.from_residual.result c.from_residual.ensures.1 in
    rw (p.1, p.2)
    (lists_declined c.args.corners.now c.args.missing.now c.args.room.now c.in_err-look_at_lists.ensures (number_some c.in_err-look_at_lists.field-0.0))

pub look_at_points-requires : goal.look_at_points-requires
look_at_points-requires c = lists_taken c.args.corners.now c.args.missing.now c.args.room.now c.in_ok-look_at_lists.ensures refl

pub returns-in_err-look_at_points : goal.returns-in_err-look_at_points
returns-in_err-look_at_points c =
    let r = c.from_residual-in_err-look_at_points in
    let p = err_from_is_err_and r.result r.ensures.1 in
    rw (p.1, p.2)
    (points_declined c.args.corners.now c.args.missing.now c.args.room.now c.in_ok-look_at_lists.ensures refl
    c.in_err-look_at_points.ensures (number_some c.in_err-look_at_points.field-0.0))

pub count_result-requires : goal.count_result-requires
count_result-requires c =
    points_walked c.args.corners.now c.args.missing.now c.args.room.now c.in_ok-look_at_lists.ensures refl c.in_ok-look_at_points.ensures refl

pub returns : goal.returns
returns c =
    points_passed c.args.corners.now c.args.missing.now c.args.room.now c.in_ok-look_at_lists.ensures refl c.in_ok-look_at_points.ensures refl
    c.count_result.ensures
