-- No corners, or what the rows tell. Assumes nothing.
use Rattle.std.proofs.Common.{arith, length, subst, sym, ◌/◌}
use Rattle.lattice.specs.Point.{points}
use Rattle.lattice.proofs.Numbers.{points_length}
use Rattle.missing.specs.Missing.{FirstMisplaced, MisplacedAt}
use Rattle.missing.proofs.Going.{place_found}
use Rattle.missing.proofs.Misplacing.{none_inside}
use Rattle.missing.proofs.first_misplaced.Goals as goal
use Rattle.missing.proofs.first_misplaced.Goals.{then-corners-lt2, else-corners-lt2}

pub peak-requires : goal.peak-requires
peak-requires c = (c.requires.0, omega (arith, points_length c.args.corners.now))

pub returns : goal.returns
returns c =
    let l = c.args.corners.now in
    let m = c.args.missing.now in
    let First = FirstMisplaced l m in
    let found : First c.if-corners-lt2.place =
    elim c.if-corners-lt2.branch [
      | then-corners-lt2 w ↦ subst First (sym w.place-is) (none_inside l (omega (arith, points_length l)) m)
      | else-corners-lt2 w ↦ subst First (sym w.place-is) w.misplaced_by_rows-place.ensures
    ] in
    place_found (length (points m)) (MisplacedAt l m) c.if-corners-lt2.place (length m / 2) found (sym (points_length m)) c.then_some.result c.then_some.ensures
