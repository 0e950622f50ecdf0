-- `line` meets its contract: its fields stand one behind the other, up to one that has no room. Assumes nothing.
use Rattle.csv_text.proofs.Putting.{puts_append, whole_cut, cut_append, puts_failed}
use Rattle.csv_text.proofs.text.Text.line.Goals as goal

pub returns-in_err-put : goal.returns-in_err-put
returns-in_err-put g c = puts_failed c.from_residual.result c.from_residual.ensures.0 (cut_append _ c.in_err-put.ensures)

pub returns-in_err-put-2 : goal.returns-in_err-put-2
returns-in_err-put-2 g c =
    puts_failed c.from_residual-in_err-put-2.result c.from_residual-in_err-put-2.ensures.0
    (whole_cut c.in_ok-put.ensures (cut_append _ c.in_err-put-2.ensures))

pub returns-in_err-put_in : goal.returns-in_err-put_in
returns-in_err-put_in g c =
    puts_failed c.from_residual-in_err-put_in.result c.from_residual-in_err-put_in.ensures.0
    (whole_cut c.in_ok-put.ensures (whole_cut c.in_ok-put-2.ensures (cut_append _ c.in_err-put_in.ensures)))

pub returns-in_err-put-3 : goal.returns-in_err-put-3
returns-in_err-put-3 g c =
    puts_failed c.from_residual-in_err-put-3.result c.from_residual-in_err-put-3.ensures.0
    (whole_cut c.in_ok-put.ensures (whole_cut c.in_ok-put-2.ensures (whole_cut c.in_ok-put_in.ensures (cut_append _ c.in_err-put-3.ensures))))

pub returns-in_err-put_in-2 : goal.returns-in_err-put_in-2
returns-in_err-put_in-2 g c =
    puts_failed c.from_residual-in_err-put_in-2.result c.from_residual-in_err-put_in-2.ensures.0
    (whole_cut c.in_ok-put.ensures
    (whole_cut c.in_ok-put-2.ensures (whole_cut c.in_ok-put_in.ensures (whole_cut c.in_ok-put-3.ensures (cut_append _ c.in_err-put_in-2.ensures)))))

pub returns : goal.returns
returns g c =
    puts_append c.in_ok-put.ensures _ _ _
    (puts_append c.in_ok-put-2.ensures _ _ _
    (puts_append c.in_ok-put_in.ensures _ _ _ (puts_append c.in_ok-put-3.ensures _ _ _ (puts_append c.in_ok-put_in-2.ensures _ _ _ c.put-4.ensures))))
