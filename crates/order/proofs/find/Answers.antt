-- `order::find` meets its contract: each way out is a row of the table, or the points in row order. Assumes nothing.
use Rattle.std.proofs.Common.{List, ℤ, ◌≤◌, ◌/◌, length, sym, arith}
use Rattle.lattice.specs.Point.{InRange, most, points, All}
use Rattle.lattice.proofs.Numbers.{points_length}
use Rattle.range.specs.First.{FirstOutside}
use Rattle.order.proofs.Finding.{all_in_range, finds_many, finds_outside, finds_repeat, finds_all}
use Rattle.order.proofs.find.Goals as goal

few : (list : List ℤ) → length list / 2 ≤ most → length (points list) ≤ most
few list h = omega (arith, points_length list, h)

in_range : (list : List ℤ) → FirstOutside list (length (points list)) → All InRange (points list)
in_range list f = all_in_range list (length (points list)) f (omega arith)

pub returns-then-n-gt-MOST : goal.returns-then-n-gt-MOST
returns-then-n-gt-MOST c = finds_many _ _ c.if-list-eq1.false (omega (arith, points_length c.args.list.now))

pub returns-in-Some : goal.returns-in-Some
returns-in-Some c =
    let l = c.args.list.now in
    finds_outside l _ c.if-list-eq1.false (few l c.if-n-gt-MOST.false) _ c.in-Some.ensures.1 c.in-Some.ensures.0

pub arrange-requires : goal.arrange-requires
arrange-requires c =
    let l = c.args.list.now in
    record {
      even = c.if-list-eq1.false;
      few = few l c.if-n-gt-MOST.false;
      range = in_range l c.in_default.ensures;
      space = c.requires (c.if-list-eq1.false, few l c.if-n-gt-MOST.false);
    }

pub returns-in-Some-arrange : goal.returns-in-Some-arrange
returns-in-Some-arrange c =
    let l = c.args.list.now in
    finds_repeat l _ c.if-list-eq1.false (few l c.if-n-gt-MOST.false) (in_range l c.in_default.ensures) _ c.in-Some-arrange.ensures

pub returns : goal.returns
returns c =
    let l = c.args.list.now in
    let small = few l c.if-n-gt-MOST.false in
    let space : length (points l) ≤ length c.args.keys.now = c.requires (c.if-list-eq1.false, small) in
    finds_all l _ c.if-list-eq1.false small (in_range l c.in_default.ensures) c.in_default-arrange.ensures (length l / 2) (sym (points_length l))
    (omega (arith, points_length l, space, c.arrange.auto.keys))
