-- A turn of the loop passes one point more. Assumes nothing.
use Rattle.std.proofs.Common.{arith, subst, sym, length, ◌+◌, ◌<◌, ◌≤◌}
use Rattle.lattice.specs.Point.{InRange, points}
use Rattle.lattice.proofs.Numbers.{points_length}
use Rattle.lattice.proofs.Places.{all_place}
use Rattle.range.proofs.InOrder.{Rising, rising_more}
use Rattle.lattice.specs.Refusal.{Strays}
use Rattle.missing.proofs.Going.{first_none}
use Rattle.missing.proofs.Straying.{stray_stops, stray_ends}
use Rattle.missing.proofs.find_stray.Goals as goal

pub key_at-k-requires : goal.key_at-k-requires
key_at-k-requires c =
    let inside : c.loop-i.i < length (points c.args.missing.now) = omega (arith, points_length c.args.missing.now) in
    (inside, all_place InRange (points c.args.missing.now) c.requires c.loop-i.i inside)

pub returns-then-k-least : goal.returns-then-k-least
returns-then-k-least c =
    let l = points c.args.missing.now in
    let inside : c.loop-i.i < length l = omega (arith, points_length c.args.missing.now) in
    (inside, stray_stops l _ _ c.loop-i.invariant inside (all_place InRange l c.requires c.loop-i.i inside) (omega (arith, c.key_at-k.ensures.0)))

pub loop-i-preserved : goal.loop-i-preserved
loop-i-preserved c =
    let l = points c.args.missing.now in
    let inside : c.loop-i.i < length l = omega (arith, points_length c.args.missing.now) in
    subst (λ k. Rising l (k + 1) (c.loop-i.i + 1)) (sym c.key_at-k.ensures.0)
    (rising_more l _ _ c.loop-i.invariant inside (all_place InRange l c.requires c.loop-i.i inside) (omega (arith, c.key_at-k.ensures.0)))

pub returns : goal.returns
returns c =
    let l = points c.args.missing.now in
    let end : length l ≤ c.loop-i.i = omega (arith, points_length c.args.missing.now) in
    first_none (length l) (Strays l) c.loop-i.i (stray_ends l _ _ c.loop-i.invariant end) end
