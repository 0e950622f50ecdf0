-- `figures::mean` meets its contract: the sum over the number of points. Assumes nothing.
use mathlib.Core.Path.{◌∙◌}
use Rattle.std.proofs.Common.{sym, arith}
use Rattle.figures.proofs.Rounding.{read_rounded}
use Rattle.lattice.proofs.Numbers.{points_length}
use Rattle.figures.proofs.mean.Goals as goal

pub quotient-requires : goal.quotient-requires
quotient-requires c =
    let n = points_length c.args.list.now in (omega (arith, n, c.requires.0.some), omega (arith, n, c.requires.0.few))

pub returns : goal.returns
returns c =
    c.quotient.ensures
    ∙ read_rounded c.sum.result (record { sfits = c.sum.type_inv }) c.sum.ensures (sym (points_length c.args.list.now))
