-- `packed::key_at` meets its contract: the point read is the one at that place. Assumes nothing.
use Rattle.std.proofs.Common.{rules, ◌≡◌, ◌∙◌, ap, FitsSigned, w32}
use Rattle.lattice.specs.Point.{points, point}
use Rattle.packed.specs.Packed.{packed}
use Rattle.packed.proofs.Reading.{column_read, row_at, read_point}
use Rattle.packed.proofs.KeysOf.{key_of_lem}
use Rattle.packed.proofs.key_at.Goals as goal

pub returns : goal.returns
returns c =
    let list = c.args.list.now in
    let i = c.args.i in
    let fits_x : FitsSigned w32 (column_read list i) = search rules in
    let fits_y : FitsSigned w32 (row_at list i) = search rules in
    let e : c.packed.result ≡ packed (point (points list) i) = c.packed.ensures.0 ∙ ap packed (read_point list i fits_x fits_y c.requires.0) in
    (e, c.packed.ensures.1, e ∙ key_of_lem list i c.requires.0)
