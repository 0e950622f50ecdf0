-- `report::report` meets its contract: what Hull promises, and all missing points. Assumes nothing.
use Rattle.std.proofs.Common.{refl, sym, arith}
use lib.Seq.{length-take-le}
use Rattle.report.proofs.Missing.{walked}
use Rattle.report.proofs.Reporting.{report_stands, report_takes, report_front, report_done}
use Rattle.report.proofs.report.Goals as goal

pub overflow_mul-counts : goal.overflow_mul-counts
overflow_mul-counts c =
    let s = report_stands c.args.list.now _ _ c.args.missing.now c.in_ok-counts.ensures refl in omega (arith, s.corners_long, c.within.auto)

pub slice_bounds-write-end : goal.slice_bounds-write-end
slice_bounds-write-end c = (report_stands c.args.list.now _ _ c.args.missing.now c.in_ok-counts.ensures refl).corners_long

pub slice_bounds-write-end-2 : goal.slice_bounds-write-end-2
slice_bounds-write-end-2 c = sym (length-take-le _ _ (report_stands c.args.list.now _ _ c.args.missing.now c.in_ok-counts.ensures refl).corners_long)

pub overflow_mul-counts-2 : goal.overflow_mul-counts-2
overflow_mul-counts-2 c = omega (arith, (report_stands c.args.list.now _ _ c.args.missing.now c.in_ok-counts.ensures refl).few)

pub slice_bounds-write-end-3 : goal.slice_bounds-write-end-3
slice_bounds-write-end-3 c = (report_stands c.args.list.now _ _ c.args.missing.now c.in_ok-counts.ensures refl).ordered_long

pub slice_bounds-write-end-4 : goal.slice_bounds-write-end-4
slice_bounds-write-end-4 c = sym (length-take-le _ _ (report_stands c.args.list.now _ _ c.args.missing.now c.in_ok-counts.ensures refl).ordered_long)

pub write-written-requires : goal.write-written-requires
write-written-requires c = (
  walked _ _ _ _ _ (report_stands c.args.list.now _ _ c.args.missing.now c.in_ok-counts.ensures refl),
  report_takes c.args.list.now _ _ c.args.missing.now c.in_ok-counts.ensures refl,
)

pub overflow_mul-written : goal.overflow_mul-written
overflow_mul-written c =
    omega (arith, report_front c.args.list.now _ _ c.args.missing.now c.in_ok-counts.ensures refl _ _ c.write-written.ensures, c.write-written.auto)

pub slice_bounds-first_of-end : goal.slice_bounds-first_of-end
slice_bounds-first_of-end c = report_front c.args.list.now _ _ c.args.missing.now c.in_ok-counts.ensures refl _ _ c.write-written.ensures

pub slice_bounds-first_of-end-2 : goal.slice_bounds-first_of-end-2
slice_bounds-first_of-end-2 c =
    sym (length-take-le _ _ (report_front c.args.list.now _ _ c.args.missing.now c.in_ok-counts.ensures refl _ _ c.write-written.ensures))

pub returns : goal.returns
returns c = rw c.first_of.ensures (report_done c.args.list.now _ _ c.args.missing.now c.in_ok-counts.ensures refl _ _ c.write-written.ensures)
