-- The steps lead from point to point of the row. Assumes nothing.
use native.Mathlib.Omega.{arith}
use borrow.Author.Rules.{rules}
use Prim.Native.Nat.{◌<◌}
use lib.ListN.{length}
use Rattle.lattice.specs.Point.{InRange, points, point}
use Rattle.lattice.proofs.Numbers.{points_length}
use Rattle.lattice.proofs.Places.{all_place}
use Rattle.walk.proofs.neighbour.Goals as goal

pub farthest-requires-clause-asked : goal.farthest-requires-clause-asked
farthest-requires-clause-asked c = λ j l m.
    let u : j < length (points c.args.row.now) = omega (arith, points_length c.args.row.now, m) in
    let r : InRange (point (points c.args.row.now) j) = all_place InRange (points c.args.row.now) c.requires.1 j u in
    search rules
