-- `rebuild::look_at_lists` meets its contract: each way out is a row of the table. Assumes nothing.
use Rattle.std.proofs.Common.{List, ℤ, arith, length, ◌⊎◌, ◌≤◌, ◌/◌}
use Rattle.lattice.specs.Point.{most, points}
use Rattle.lattice.specs.Refusal.{Odd}
use Rattle.lattice.proofs.Lists.{either}
use Rattle.lattice.proofs.Numbers.{points_length}
use Rattle.rebuild.proofs.Refusing.{many_corners, corner_outside, point_outside, lists_pass}
use Rattle.rebuild.proofs.look_at_lists.Goals as goal

few : (list : List ℤ) → length list / 2 ≤ most → length (points list) ≤ most
few list h = omega (arith, points_length list, h)

all : (list : List ℤ) → length (points list) ≤ length (points list)
all list = omega arith

-- both lists are even
evens : (l m : List ℤ) → (Odd l → ⊥) → (Odd m → ⊥) → Odd l ⊎ Odd m → ⊥
evens l m e f h = either h e f

pub returns-then-corners-gt-MOST : goal.returns-then-corners-gt-MOST
returns-then-corners-gt-MOST c =
    let l = c.args.corners.now in
    let m = c.args.missing.now in
    many_corners l m (evens l m c.if-corners-eq1.false c.if-missing-eq1.false) (omega (arith, points_length l, c.if-corners-gt-MOST.true))

pub returns-in-Some : goal.returns-in-Some
returns-in-Some c =
    let l = c.args.corners.now in
    let m = c.args.missing.now in
    corner_outside l m (evens l m c.if-corners-eq1.false c.if-missing-eq1.false) (few l c.if-corners-gt-MOST.false)
    _ c.in-Some.ensures.1 c.in-Some.ensures.0

pub returns-in-Some-first_outside : goal.returns-in-Some-first_outside
returns-in-Some-first_outside c =
    let l = c.args.corners.now in
    let m = c.args.missing.now in
    point_outside l m (evens l m c.if-corners-eq1.false c.if-missing-eq1.false) (few l c.if-corners-gt-MOST.false)
    _ c.in_default.ensures (all l) _ c.in-Some-first_outside.ensures.1 c.in-Some-first_outside.ensures.0

pub returns : goal.returns
returns c =
    let l = c.args.corners.now in
    let m = c.args.missing.now in
    lists_pass l m (evens l m c.if-corners-eq1.false c.if-missing-eq1.false) (few l c.if-corners-gt-MOST.false)
    _ c.in_default.ensures (all l) _ c.in_default-first_outside.ensures (all m)
