-- The number read is the column of the point at that place. Assumes nothing.
use mathlib.Core.Path.{◌≡◌, refl}
use mathlib.Core.Bool.{Bool, true, false}
use native.Mathlib.Omega.{arith}
use borrow.Author.Rules.{rules}
use borrow.Author.Tests.{ltb-true}
use Prim.Native.Nat.{ℕ, ◌≤◌}
use lib.Dec.{ltb}
use Rattle.lattice.proofs.Numbers.{points_length}
use Rattle.packed.specs.Packed.{Tells}
use Rattle.walk.proofs.Rows.{tells_held}
use Rattle.walk.proofs.holds.Goals as goal

-- a test that is false tells of nothing that holds
tells_none : (i n : ℕ) (P : Type 0) → n ≤ i → (P → ⊥) → Tells (ltb i n) P
tells_none i n P h none = by_test (ltb i n) refl
  where
    by_test : (t : Bool) → ltb i n ≡ t → Tells t P
    by_test true e = absurd (omega (arith, h, ltb-true i n e))
    by_test false e = none

pub returns-then-i-row : goal.returns-then-i-row
returns-then-i-row c =
    tells_held c.args.row.now c.args.i c.args.x (omega (arith, points_length c.args.row.now, c.if-i-row.true)) (search rules) c.ranges.x

pub returns-else-i-row : goal.returns-else-i-row
returns-else-i-row c = tells_none _ _ _ c.if-i-row.false (λ h. omega (arith, h.0, points_length c.args.row.now, c.if-i-row.false))
