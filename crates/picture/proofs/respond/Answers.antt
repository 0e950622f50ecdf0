-- `picture::respond` meets its contract: what is read is declined with its line, or its points are reported. Assumes nothing.
use Rattle.std.proofs.Common.{refl, sym, subst, arith}
use Rattle.std.proofs.Math.Seq.{length-take-le}
use Rattle.refusal.proofs.Numbers.{number_some}
use Rattle.bitmap.specs.Picture.{reading_of}
use Rattle.picture.specs.Response.{Refuses, Responds}
use Rattle.picture.proofs.Reporting.{writes_as}
use Rattle.picture.proofs.Responding.{reading_declined, reading_few, reading_inside, reading_sound, reading_reported}
use Rattle.picture.proofs.respond.Goals as goal

pub overflow_mul-list : goal.overflow_mul-list
overflow_mul-list c = record { fits = omega (arith, reading_few _ _ _ _ c.in-Ok.ensures refl) }

pub slice_bounds-list-end : goal.slice_bounds-list-end
slice_bounds-list-end c = reading_inside _ _ _ _ c.in-Ok.ensures refl refl

pub slice_bounds-report_points-end : goal.slice_bounds-report_points-end
slice_bounds-report_points-end c = sym (length-take-le _ _ (reading_inside _ _ _ _ c.in-Ok.ensures refl refl))

pub report_points-requires : goal.report_points-requires
report_points-requires c = reading_sound _ _ _ _ c.in-Ok.ensures refl refl

pub returns-in-Ok : goal.returns-in-Ok
returns-in-Ok c = reading_reported _ _ _ _ c.in-Ok.ensures refl _ _ _ c.report_points.ensures

pub returns-in-Err : goal.returns-in-Err
returns-in-Err c =
    let r = reading_of c.args.bytes.now in
    let right = reading_declined c.args.bytes.now _ _ _ c.in-Err.ensures (number_some c.in-Err.declined) in
    writes_as (Refuses c.in-Err.declined) (Responds r) (λ text e. subst (Responds r) (sym e) right) c.refuse.ensures
