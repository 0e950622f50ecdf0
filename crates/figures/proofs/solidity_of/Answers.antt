-- `figures::solidity_of` meets its contract: the lattice points of the hull are counted, and their number is exact. Assumes nothing.
use mathlib.Core.Path.{◌∙◌}
use Rattle.std.proofs.Common.{◌/◌, arith, sym, ap, length, pos, w32}
use mir.ValLaws.{to_z_pos}
use Rattle.lattice.proofs.Numbers.{points_length}
use Rattle.figures.specs.Quotient.{rounded}
use Rattle.figures.proofs.Solidity.{own_outline, counted_exact, counted_solidity}
use Rattle.figures.proofs.solidity_of.Goals as goal

pub count_of-lattice-requires : goal.count_of-lattice-requires
count_of-lattice-requires c = own_outline c.args.list.now c.args.corners.now c.requires.0 c.requires.1

pub overflow_cast-n : goal.overflow_cast-n
overflow_cast-n c = record { sfits = omega (arith, c.requires.0.few, points_length c.args.list.now) }

pub quotient-requires : goal.quotient-requires
quotient-requires c = counted_exact c.args.list.now c.args.corners.now c.requires.0 c.requires.1 _ c.count_of-lattice.ensures

pub returns : goal.returns
returns c =
    let points = points_length c.args.list.now in
    counted_solidity c.args.list.now c.args.corners.now c.requires.0 c.requires.1 _ c.count_of-lattice.ensures _
    (c.quotient.ensures ∙ ap (λ z. rounded z c.count_of-lattice.result) (to_z_pos w32 (length c.args.list.now / 2) (omega (arith, points, c.requires.0.few)) ∙ ap pos (sym points)))
