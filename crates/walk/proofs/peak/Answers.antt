-- Corners rise to the last and then fall, so a pair of neighbours tells on which side of it they stand. Assumes nothing.
use native.Mathlib.Omega.{arith}
use Rattle.packed.proofs.KeysOf.{keys_many, keys_length, outline_cornered}
use Rattle.walk.proofs.Peaking.{peaking_none, peaking_low, peaking_high}
use Rattle.walk.proofs.peak.Goals as goal

pub loop-low-init : goal.loop-low-init
loop-low-init c = peaking_none _ _ (omega (arith, c.requires.1, keys_many c.args.corners.now, keys_length c.args.corners.now))

pub loop-low-preserved-then-key_at : goal.loop-low-preserved-then-key_at
loop-low-preserved-then-key_at c =
    peaking_low c.loop-low.invariant (outline_cornered c.requires.0) _ (omega arith) (omega arith)
    (omega (arith, c.key_at.ensures.2, c.key_at-in-loop-low.ensures.2, c.if-key_at.true))

pub loop-low-preserved : goal.loop-low-preserved
loop-low-preserved c =
    peaking_high c.loop-low.invariant (outline_cornered c.requires.0) _ (omega arith) (omega arith)
    (omega (arith, c.key_at.ensures.2, c.key_at-in-loop-low.ensures.2, c.if-key_at.false))
