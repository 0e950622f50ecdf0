-- `picture::report_points` meets its contract: 7 is the only number that Report gives here; else its rooms make the text. Assumes nothing.
use Rattle.std.proofs.Common.{refl, sym, subst, arith}
use Rattle.lattice.specs.Point.{points}
use Rattle.refusal.proofs.Numbers.{number_some}
use Rattle.picture.specs.Response.{Reports, Refuses}
use Rattle.picture.proofs.Reporting.{writes, writes_as, report_told, report_declined, told_right, told_fits}
use Rattle.picture.proofs.report_points.Goals as goal

pub returns-in-Ok : goal.returns-in-Ok
returns-in-Ok c =
    let t = report_told _ c.requires _ _ _ refl refl refl _ _ _ _ c.in-Ok.ensures refl in
    writes (Reports _) _ _ _ _ (told_right _ c.requires _ _ _ _ _ _ _ t) (told_fits _ c.requires _ _ _ _ _ _ _ t) (omega arith) c.write.ensures

pub returns-in-Err : goal.returns-in-Err
returns-in-Err c =
    let right = report_declined _ c.requires _ _ _ refl refl refl _ _ _ _ c.in-Err.ensures (number_some c.in-Err.refusal) in
    writes_as (Refuses c.in-Err.refusal) (Reports (points c.args.list.now)) (λ text e. subst (Reports (points c.args.list.now)) (sym e) right) c.refuse.ensures
