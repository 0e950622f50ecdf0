-- `hull::within_in` meets its contract: what find tells, and both rooms written. Assumes nothing.
use Rattle.std.proofs.Common.{refl, sym}
use Rattle.std.proofs.lemmas.Result.{err_from_is_err_and}
use lib.Seq.{length-take-le}
use Rattle.refusal.specs.Number.{number_of, place_of}
use Rattle.refusal.proofs.Numbers.{number_some}
use Rattle.hull.proofs.Hulling.{within_declined, within_done}
use Rattle.hull.proofs.within_in.Goals as goal

pub returns-in_err-counts : goal.returns-in_err-counts
returns-in_err-counts c =
    let p = err_from_is_err_and c.from_residual.result c.from_residual.ensures.1 in
    let r = c.in_err-counts.field-0.0 in
    rw (p.1, p.2)
    (within_declined _ _ _ _ _ _ (number_of r) (place_of r) 0 0 (number_some r) (c.in_err-counts.ensures c.args.ordered.now c.args.corners.now refl refl))

pub slice_bounds-write-end : goal.slice_bounds-write-end
slice_bounds-write-end c = (c.in_ok-counts.ensures c.args.ordered.now c.args.corners.now refl refl).result.keys_long

pub slice_bounds-write-end-2 : goal.slice_bounds-write-end-2
slice_bounds-write-end-2 c = sym (length-take-le _ _ (c.in_ok-counts.ensures c.args.ordered.now c.args.corners.now refl refl).result.keys_long)

pub returns : goal.returns
returns c =
    within_done _ _ _ _ _ _ 0 0 _ _ refl (c.in_ok-counts.ensures c.args.ordered.now c.args.corners.now refl refl) _ _ (c.write.ensures, c.write-2.ensures)
