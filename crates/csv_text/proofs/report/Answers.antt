-- `report` meets its contract: the lines one after the other, up to one that has no place. Assumes nothing.
use Rattle.std.proofs.Common.{sym, subst}
use Rattle.lattice.proofs.Numbers.{points_length}
use Rattle.csv_text.specs.Text.{natural, line, total}
use Rattle.csv_text.specs.Written.{Puts}
use Rattle.csv_text.proofs.Putting.{puts_append, whole_cut, cut_append, puts_failed}
use Rattle.csv_text.proofs.report.Goals as goal

pub returns-in_err-put : goal.returns-in_err-put
returns-in_err-put c = puts_failed c.from_residual.result c.from_residual.ensures.0 (cut_append _ c.in_err-put.ensures)

pub returns-in_err-point_lines : goal.returns-in_err-point_lines
returns-in_err-point_lines c =
    puts_failed c.from_residual-in_err-point_lines.result c.from_residual-in_err-point_lines.ensures.0
    (whole_cut c.in_ok-put.ensures (cut_append _ c.in_err-point_lines.ensures))

pub returns-in_err-point_lines-2 : goal.returns-in_err-point_lines-2
returns-in_err-point_lines-2 c =
    puts_failed c.from_residual-in_err-point_lines-2.result c.from_residual-in_err-point_lines-2.ensures.0
    (whole_cut c.in_ok-put.ensures (whole_cut c.in_ok-point_lines.ensures (cut_append _ c.in_err-point_lines-2.ensures)))

pub returns : goal.returns
returns c =
    let put = subst (λ n. Puts c.point_lines-2.new.self (line total (natural c.args.points) (natural n)) c.line.result c.line.new.self)
    (sym (points_length c.args.missing.now)) c.line.ensures in
    puts_append c.in_ok-put.ensures _ _ _
    (puts_append c.in_ok-point_lines.ensures _ _ _ (puts_append c.in_ok-point_lines-2.ensures _ _ _ put))
