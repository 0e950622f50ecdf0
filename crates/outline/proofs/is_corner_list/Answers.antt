-- A turn of the loop passes one corner more. Assumes nothing.
use Rattle.std.proofs.Common.{arith, length, ◌<◌}
use Rattle.packed.specs.Corners.{keys_of}
use Rattle.packed.proofs.KeysOf.{keys_length, readable}
use Rattle.outline.proofs.Shaping.{shaping_below, shaping_more, shaping_breaks, shaping_ends}
use Rattle.outline.proofs.is_corner_list.Goals as goal

pub key_at-corner-requires : goal.key_at-corner-requires
key_at-corner-requires c =
    let l = c.args.corners.now in
    readable l c.requires c.loop-i.i (omega (arith, keys_length l))

pub follows-requires : goal.follows-requires
follows-requires c =
    let l = c.args.corners.now in
    let inside : c.loop-i.i < length (keys_of l) = omega (arith, keys_length l) in
    let below = shaping_below l c.requires c.loop-i.invariant inside c.key_at-corner.result c.key_at-corner.ensures.2 in
    (below.0, below.1, below.2, c.key_at-corner.ensures.1)

pub returns-then-not-follows : goal.returns-then-not-follows
returns-then-not-follows c =
    let l = c.args.corners.now in
    let inside : c.loop-i.i < length (keys_of l) = omega (arith, keys_length l) in
    shaping_breaks l c.requires c.loop-i.invariant inside c.key_at-corner.result c.key_at-corner.ensures.2 c.if-not-follows.ensures

pub loop-i-preserved : goal.loop-i-preserved
loop-i-preserved c =
    let l = c.args.corners.now in
    let inside : c.loop-i.i < length (keys_of l) = omega (arith, keys_length l) in
    shaping_more l c.requires c.loop-i.invariant inside c.key_at-corner.result c.key_at-corner.ensures.2 c.if-not-follows.ensures

pub returns : goal.returns
returns c =
    let l = c.args.corners.now in
    shaping_ends l c.requires c.loop-i.invariant (omega (arith, keys_length l))
