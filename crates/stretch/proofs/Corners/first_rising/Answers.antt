-- Where the first edge lies in its row, the second does not. Assumes nothing.
use native.Mathlib.Omega.{arith}
use mathlib.Core.Path.{◌≡◌, refl}
use mathlib.Core.Bool.{Bool, true, false}
use mir.Val.{bool_byte}
use lib.Dec.{eqb}
use borrow.Author.Tests.{eqb-true, eqb-false}
use Rattle.packed.specs.Corners.{keys_of}
use Rattle.stretch.specs.Stretch.{FirstRises}
use Rattle.stretch.proofs.Sides.{rising_first, rising_second}
use Rattle.stretch.proofs.Corners.first_rising.Goals as goal

pub returns : goal.returns
returns c = rw c.from.ensures (by_test (eqb c.row.result c.row-2.result) refl)
  where
    by_test : (t : Bool) → eqb c.row.result c.row-2.result ≡ t → FirstRises (keys_of c.args.self.list.now) c.args.self.peak (bool_byte t)
    by_test true e =
        rising_second _ _ _ c.requires.0.peaked c.requires.1 (omega (arith, c.row.ensures.0, c.row-2.ensures.0, eqb-true c.row.result c.row-2.result e))
    by_test false e =
        rising_first _ _ _ c.requires.0.peaked c.requires.1 (λ d. eqb-false c.row.result c.row-2.result e (omega (arith, c.row.ensures.0, c.row-2.ensures.0, d)))
