-- `packed::row_at` meets its contract: the number read is the row of the point at that place. Assumes nothing.
use Rattle.std.proofs.Common.{rules, ◌≡◌, ◌∙◌, ap, FitsSigned, w32}
use Rattle.lattice.specs.Point.{points, point}
use Rattle.packed.specs.Packed.{moved}
use Rattle.packed.proofs.Reading.{row_at, read_row}
use Rattle.packed.proofs.KeysOf.{row_of}
use Rattle.packed.proofs.row_at.Goals as goal

pub returns : goal.returns
returns c =
    let list = c.args.list.now in
    let i = c.args.i in
    let fits : FitsSigned w32 (row_at list i) = search rules in
    let e : c.moved.result ≡ moved (point (points list) i).y = c.moved.ensures.0 ∙ ap moved (read_row list i fits c.requires.0) in
    (e, c.moved.ensures.1, e ∙ row_of list i c.requires.0 c.requires.1)
