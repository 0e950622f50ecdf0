-- `range::rising` meets its contract: a turn of the loop passes one point more. Assumes nothing.
use Rattle.std.proofs.Common.{◌≡◌, ℕ, ◌+◌, ◌<◌, ◌≤◌, List, length, arith, subst, sym, ap, ◌∙◌, ℤ, rules}
use Rattle.lattice.specs.Point.{Point, InRange, points, point, All, Pairs, Before}
use Rattle.packed.specs.Packed.{packed}
use Rattle.packed.proofs.Tests.{tells_yes, tells_no}
use Rattle.range.proofs.Chunks.{inside, pairs_length, point_read}
use Rattle.range.proofs.InOrder.{Rising, rising_more, rising_breaks, rising_leaves, rising_ends}
use Rattle.range.proofs.rising.Goals as goal

-- a turn: p is the point at place i
module _ (list : List ℤ) (least i : ℕ) (h : Rising (points list) least i) (l : i < length (points list)) (p : Point) (e : p ≡ point (points list) i) where
  leaves : (InRange p → ⊥) → All InRange (points list) × Pairs Before (points list) → ⊥
  leaves n = rising_leaves _ _ _ h l (λ r. n (subst InRange (sym e) r))

  module _ (r : InRange p) (k : ℕ) (f : k ≡ packed p) where
    packs : k ≡ packed (point (points list) i)
    packs = f ∙ ap packed e

    breaks : k < least → All InRange (points list) × Pairs Before (points list) → ⊥
    breaks m = rising_breaks _ _ _ h l (subst InRange e r) (omega (arith, packs))

    more : least ≤ k → Rising (points list) (k + 1) (i + 1)
    more m = subst (λ n. Rising (points list) (n + 1) (i + 1)) (sym packs) (rising_more _ _ _ h l (subst InRange e r) (omega (arith, packs)))

pub returns-then-not-in_range : goal.returns-then-not-in_range
returns-then-not-in_range c =
    let i = c.loop-x.x-index in
    let e = c.pairs-x-items.ensures in
    leaves c.args.list.now _ i c.loop-x.invariant (inside _ _ i e c.loop-x-test.true) _
    (point_read _ _ i e c.loop-x-test.true (search rules) (search rules))
    (tells_no c.if-not-in_range.true c.in_range.ensures)

pub returns-then-k-least : goal.returns-then-k-least
returns-then-k-least c =
    let i = c.loop-x.x-index in
    let e = c.pairs-x-items.ensures in
    breaks c.args.list.now _ i c.loop-x.invariant (inside _ _ i e c.loop-x-test.true) _
    (point_read _ _ i e c.loop-x-test.true (search rules) (search rules))
    (tells_yes c.if-not-in_range.false c.in_range.ensures) _ c.packed-k.ensures.0 c.if-k-least.true

pub loop-x-preserved : goal.loop-x-preserved
loop-x-preserved c =
    let i = c.loop-x.x-index in
    let e = c.pairs-x-items.ensures in
    more c.args.list.now _ i c.loop-x.invariant (inside _ _ i e c.loop-x-test.true) _
    (point_read _ _ i e c.loop-x-test.true (search rules) (search rules))
    (tells_yes c.if-not-in_range.false c.in_range.ensures) _ c.packed-k.ensures.0 c.if-k-least.false

pub returns : goal.returns
returns c =
    let n = pairs_length c.args.list.now in
    let e = ap length c.pairs-x-items.ensures in
    rising_ends _ _ _ c.loop-x.invariant (omega arith)
