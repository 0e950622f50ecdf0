-- Where each point follows the one before, none strays. Assumes nothing.
use Rattle.std.proofs.Common.{length, refl}
use Rattle.lattice.specs.Point.{points}
use Rattle.lattice.specs.Refusal.{Strays}
use Rattle.range.proofs.Passing.{passing_all}
use Rattle.missing.proofs.Straying.{none_stray}
use Rattle.missing.proofs.first_stray.Goals as goal

pub returns-then-all_follow : goal.returns-then-all_follow
returns-then-all_follow c =
    let l = points c.args.missing.now in
    passing_all (length l) (Strays l) (length l) refl (none_stray l c.if-all_follow.ensures)
