-- `packed::column_at` meets its contract: the number read is the column of the point at that place. Assumes nothing.
use Rattle.std.proofs.Common.{rules, ◌≡◌, ◌∙◌, ap, FitsSigned, w32}
use Rattle.lattice.specs.Point.{points, point}
use Rattle.packed.specs.Packed.{moved}
use Rattle.packed.proofs.Reading.{column_read, read_column}
use Rattle.packed.proofs.KeysOf.{column_of_lem}
use Rattle.packed.proofs.column_at.Goals as goal

pub returns : goal.returns
returns c =
    let list = c.args.list.now in
    let i = c.args.i in
    let fits : FitsSigned w32 (column_read list i) = search rules in
    let e : c.moved.result ≡ moved (point (points list) i).x = c.moved.ensures.0 ∙ ap moved (read_column list i fits c.requires.0) in
    (e, c.moved.ensures.1, e ∙ column_of_lem list i c.requires.0 c.requires.1)
