-- `rows::row_ends` meets its contract: what is found in a list that is in row order. Assumes nothing.
use Rattle.std.proofs.Common.{inl, subst}
use Rattle.lattice.specs.Point.{points}
use Rattle.packed.proofs.Tests.{tells_yes, read_back}
use Rattle.rows.specs.Row.{LeadsTo, RunsTo}
use Rattle.rows.proofs.RowLaws.{ends_hold}
use Rattle.rows.proofs.row_ends.Goals as goal

pub returns-then-sound : goal.returns-then-sound
returns-then-sound c =
    let sound = tells_yes c.if-sound.true c.sound.ensures in
    let y = read_back c.args.y c.ranges.y in
    let list = c.args.list.now in
    inl (
      sound,
      ends_hold _ _ _ _ sound.order (subst (λ y. LeadsTo (points list) y c.lead-begin.result) y c.lead-begin.ensures)
          (subst (λ y. RunsTo (points list) y c.lead-begin.result c.run-end.result) y c.run-end.ensures),
    )
