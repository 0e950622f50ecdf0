-- A turn of the loop looks at one neighbour more. Assumes nothing.
use Rattle.std.proofs.Common.{arith, ap, suc, length, ◌≡◌, ◌∙◌, ◌<◌, ◌-◌}
use Rattle.lattice.specs.Point.{InRange, points, point, Before}
use Rattle.lattice.proofs.Numbers.{points_length}
use Rattle.lattice.proofs.Places.{all_place, pairs_place}
use Rattle.packed.specs.Packed.{packed}
use Rattle.packed.proofs.Tests.{tells_as}
use Rattle.missing.proofs.Straying.{follow_pairs, follow_more, told_before}
use Rattle.missing.proofs.all_follow.Goals as goal

pub key_at-requires : goal.key_at-requires
key_at-requires c =
    let m = points c.args.missing.now in
    let l : c.loop-i.i - 1 < length m = omega (arith, points_length c.args.missing.now) in
    (l, all_place InRange m c.requires (c.loop-i.i - 1) l)

pub key_at-requires-in-loop-i : goal.key_at-requires-in-loop-i
key_at-requires-in-loop-i c =
    let m = points c.args.missing.now in
    let l : c.loop-i.i < length m = omega (arith, points_length c.args.missing.now) in
    (l, all_place InRange m c.requires c.loop-i.i l)

pub loop-i-preserved : goal.loop-i-preserved
loop-i-preserved c =
    let m = points c.args.missing.now in
    let e : c.loop-i.i ≡ suc (c.loop-i.i - 1) = omega arith in
    let l : suc (c.loop-i.i - 1) < length m = omega (arith, points_length c.args.missing.now) in
    follow_more m c.loop-i.i (omega arith) (omega (arith, l)) c.loop-i.good _ c.loop-i.invariant
    (told_before m c.requires (c.loop-i.i - 1) l c.key_at.result c.key_at-in-loop-i.result c.key_at.ensures.0
    (c.key_at-in-loop-i.ensures.0 ∙ ap (λ j. packed (point m j)) e))

pub returns : goal.returns
returns c =
    let m = points c.args.missing.now in
    tells_as c.loop-i.good (λ f. follow_pairs m (λ j k. f j (omega (arith, k, points_length c.args.missing.now)) k))
    (λ h j k u. pairs_place Before m h j (suc j) (omega arith) u) c.loop-i.invariant
