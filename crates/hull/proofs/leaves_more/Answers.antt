-- `hull::leaves_more` meets its contract: no hull has more lattice points than the range, and pick::count tells how many one has. Assumes nothing.
use Rattle.std.proofs.Common.{◌+◌, arith, sym, subst}
use Rattle.std.proofs.lemmas.Bool.{le-ltb}
use Rattle.packed.specs.Packed.{Tells, cells}
use Rattle.hull.specs.Within.{HasMore}
use Rattle.hull.proofs.Hulling.{none_more, tells_more}
use Rattle.hull.proofs.leaves_more.Goals as goal

pub returns-then-limit-lt-CELLS : goal.returns-then-limit-lt-CELLS
returns-then-limit-lt-CELLS c = tells_more c.args.corners.now _ _ c.count.ensures

pub returns-else-limit-lt-CELLS : goal.returns-else-limit-lt-CELLS
returns-else-limit-lt-CELLS c =
    subst (λ t. Tells t (HasMore c.args.corners.now (c.args.points + c.args.limit))) (sym (le-ltb c.args.limit cells c.if-limit-lt-CELLS.false))
    (none_more _ c.requires.0 _ (omega (arith, c.if-limit-lt-CELLS.false)))
