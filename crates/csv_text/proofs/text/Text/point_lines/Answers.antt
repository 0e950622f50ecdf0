-- `point_lines` meets its contract: a turn of the loop puts the line of one point more. Assumes nothing.
use Rattle.std.proofs.Common.{subst, arith}
use lib.Seq.{take_all}
use Rattle.lattice.specs.Point.{points}
use Rattle.lattice.proofs.Numbers.{points_length}
use Rattle.csv_text.specs.Text.{point_lines}
use Rattle.csv_text.specs.Written.{Whole}
use Rattle.csv_text.proofs.Putting.{puts_failed}
use Rattle.csv_text.proofs.Lines.{whole_point, cut_point}
use Rattle.csv_text.proofs.text.Text.point_lines.Goals as goal

pub returns-in_err-line : goal.returns-in_err-line
returns-in_err-line c = puts_failed c.from_residual.result c.from_residual.ensures.0
    (cut_point c.args.kind.now _ _ c.as_chunks.ensures.front c.loop-x.x-index (omega arith) (record { sfits = omega arith }) (record { sfits = omega arith }) c.loop-x.invariant c.in_err-line.ensures)

pub loop-x-preserved : goal.loop-x-preserved
loop-x-preserved c = whole_point c.args.kind.now _ _ c.as_chunks.ensures.front c.loop-x.x-index (omega arith) (record { sfits = omega arith }) (record { sfits = omega arith }) c.loop-x.invariant c.in_ok-line.ensures

pub returns : goal.returns
returns c =
    let l = points c.args.list.now in
    subst (λ points. Whole c.args.self.now (point_lines c.args.kind.now points) c.loop-x.self)
    (take_all c.loop-x.x-index l (omega (arith, points_length c.args.list.now, c.as_chunks.ensures.front_len))) c.loop-x.invariant
