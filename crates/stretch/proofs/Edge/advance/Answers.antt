-- The edge of a side in the row after y: the same, or where it has ended the next that reaches so far. Assumes nothing.
use native.Mathlib.Omega.{arith}
use Rattle.packed.proofs.KeysOf.{keys_length}
use Rattle.stretch.proofs.Following.{row_after}
use Rattle.stretch.proofs.Upwards.{side_small, side_on, side_rises, side_nears, nears_on, nears_found}
use Rattle.stretch.proofs.Edge.advance.Goals as goal

pub step-requires : goal.step-requires
step-requires c = side_small _ _ _ c.requires.0.peaked _ _ c.requires.2 c.if-y-self.true

pub returns-then-y-self : goal.returns-then-y-self
returns-then-y-self c = side_on _ _ _ c.requires.0.peaked _ _ c.requires.2 c.if-y-self.true _ c.step.ensures

pub above-high-requires : goal.above-high-requires
above-high-requires c = side_rises _ _ _ c.requires.0.peaked _ _ c.requires.2 c.requires.1 c.if-y-self.false (omega (arith, keys_length c.args.corners.list.now))

pub loop-low-init : goal.loop-low-init
loop-low-init c =
    rw c.above-high.ensures (side_nears _ _ _ c.requires.0.peaked _ _ c.requires.2 c.requires.1 c.if-y-self.false)

pub loop-low-preserved : goal.loop-low-preserved
loop-low-preserved c =
    rw c.above-high-in-loop-low.ensures
    (nears_on _ _ _ (row_after c.requires.0 c.requires.1).peaked _ _ (omega (arith, c.row.ensures.0, c.loop-low-test.true)) _ c.loop-low.invariant)

pub returns : goal.returns
returns c =
    nears_found (row_after c.requires.0 c.requires.1) _ _ (omega (arith, c.row.ensures.0, c.loop-low-test.false)) _ c.loop-low.invariant _
    c.climb.ensures.0 c.climb.ensures.1
