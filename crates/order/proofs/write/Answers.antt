-- `order::write` meets its contract: a turn of the loop writes one point more. Assumes nothing.
use Rattle.packed.proofs.Tests.{read_back}
use Rattle.order.proofs.Writing.{writing_more}
use Rattle.order.proofs.write.Goals as goal
use mathlib.Core.Path.{◌∙◌}

pub loop-i-preserved : goal.loop-i-preserved
loop-i-preserved c =
    writing_more _ _ _ _ c.requires.1 c.loop-i.invariant c.loop-i-test.true _ _
    (read_back c.column.result (record { sfits = c.column.type_inv }) ∙ c.column.ensures)
    (read_back c.row.result (record { sfits = c.row.type_inv }) ∙ c.row.ensures)
