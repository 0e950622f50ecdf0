-- `report::verdict` meets its contract: what Hull promises, and the first missing point. Assumes nothing.
use Rattle.std.proofs.Common.{◌<◌, refl, sym, subst, arith}
use Rattle.std.specs.Prelude.{IfSome}
use Rattle.packed.specs.Packed.{cells}
use lib.Seq.{length-take-le}
use Rattle.report.proofs.Missing.{walked}
use Rattle.report.proofs.Reporting.{verdict_stands, verdict_done, first_small, mapped}
use Rattle.report.proofs.verdict.Goals as goal

pub overflow_mul-counts : goal.overflow_mul-counts
overflow_mul-counts c = let s = verdict_stands c.args.list.now _ _ c.in_ok-counts.ensures refl in omega (arith, s.corners_long, c.hull.auto)

pub slice_bounds-first-end : goal.slice_bounds-first-end
slice_bounds-first-end c = (verdict_stands c.args.list.now _ _ c.in_ok-counts.ensures refl).corners_long

pub slice_bounds-first-end-2 : goal.slice_bounds-first-end-2
slice_bounds-first-end-2 c = sym (length-take-le _ _ (verdict_stands c.args.list.now _ _ c.in_ok-counts.ensures refl).corners_long)

pub overflow_mul-counts-2 : goal.overflow_mul-counts-2
overflow_mul-counts-2 c = omega (arith, (verdict_stands c.args.list.now _ _ c.in_ok-counts.ensures refl).few)

pub slice_bounds-first-end-3 : goal.slice_bounds-first-end-3
slice_bounds-first-end-3 c = (verdict_stands c.args.list.now _ _ c.in_ok-counts.ensures refl).ordered_long

pub slice_bounds-first-end-4 : goal.slice_bounds-first-end-4
slice_bounds-first-end-4 c = sym (length-take-le _ _ (verdict_stands c.args.list.now _ _ c.in_ok-counts.ensures refl).ordered_long)

pub first-first-requires : goal.first-first-requires
first-first-requires c = walked _ _ _ _ _ (verdict_stands c.args.list.now _ _ c.in_ok-counts.ensures refl)

pub map-requires : goal.map-requires
map-requires c = λ x e. subst (λ o. IfSome o (λ k. k < cells)) e (first_small _ _ c.first-first.ensures)

pub returns : goal.returns
returns c =
    rw (mapped c.first-first.result c.map.result c.map.ensures.cases) (verdict_done c.args.list.now _ _ c.in_ok-counts.ensures refl _ c.first-first.ensures)
