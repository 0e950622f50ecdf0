-- `rebuild::look_at_points` meets its contract: each way out is a row of the table. Assumes nothing.
use Rattle.std.proofs.Common.{List, arith, length, ◌≤◌}
use Rattle.lattice.specs.Point.{Point, points}
use Rattle.missing.proofs.Straying.{all_in_order}
use Rattle.rebuild.proofs.Refusing.{some_misplaced, points_pass}
use Rattle.rebuild.proofs.look_at_points.Goals as goal

all : (m : List Point) → length m ≤ length m
all m = omega arith

pub first_misplaced-requires : goal.first_misplaced-requires
first_misplaced-requires c =
    let m = points c.args.missing.now in (
      record { range = c.requires.corners_range; listed = c.if-not-is_corner_list.ensures },
      c.requires.missing_range,
      all_in_order m (length m) c.in_default.ensures (all m),
    )

pub returns-in-Some-first_misplaced : goal.returns-in-Some-first_misplaced
returns-in-Some-first_misplaced c =
    let m = points c.args.missing.now in
    some_misplaced (points c.args.corners.now) m c.if-not-is_corner_list.ensures (length m) c.in_default.ensures (all m)
    c.in-Some-first_misplaced.place c.in-Some-first_misplaced.ensures.1 c.in-Some-first_misplaced.ensures.0

pub returns : goal.returns
returns c =
    let m = points c.args.missing.now in
    points_pass (points c.args.corners.now) m c.if-not-is_corner_list.ensures (length m) c.in_default.ensures (all m) (length m)
    c.in_default-first_misplaced.ensures (all m)
