-- The header is made of its parts, or breaks at the first that is bad. Assumes nothing.
use Rattle.std.proofs.lemmas.Result.{err_from_is_err_and}
use Rattle.header.proofs.Headers.{bad_width, bad_height, bad_end, a_header}
use Rattle.header.proofs.check.Goals as goal

pub returns-in_err-width : goal.returns-in_err-width
returns-in_err-width c =
    let p = err_from_is_err_and c.from_residual.result c.from_residual.ensures.1 in
    rw (p.1, p.2) (bad_width _ _ _ c.in_err-width.ensures)

pub returns-in_err-height : goal.returns-in_err-height
returns-in_err-height c =
    let p = err_from_is_err_and c.from_residual-in_err-height.result c.from_residual-in_err-height.ensures.1 in
    rw (p.1, p.2) (bad_height _ _ _ c.in_ok-width.ensures _ _ c.in_err-height.ensures)

pub returns-in_err-at : goal.returns-in_err-at
returns-in_err-at c =
    let p = err_from_is_err_and c.from_residual-in_err-at.result c.from_residual-in_err-at.ensures.1 in
    rw (p.1, p.2) (bad_end _ _ _ c.in_ok-width.ensures _ _ c.in_ok-height.ensures _ c.in_err-at.ensures)

pub returns : goal.returns
returns c = a_header _ _ _ c.in_ok-width.ensures _ _ c.in_ok-height.ensures _ c.in_ok-at.ensures
