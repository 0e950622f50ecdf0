-- `put` meets its contract: a turn of the loop puts one byte more, and a room that is full holds what it has room for. Assumes nothing.
use Rattle.std.proofs.Common.{refl, arith}
use Rattle.csv_text.proofs.Putting.{whole_byte, whole_full}
use Rattle.csv_text.proofs.text.Text.put.Goals as goal

pub returns-then-self : goal.returns-then-self
returns-then-self c = whole_full c.args.bytes.now c.loop-b.b-index c.loop-b.invariant (omega arith) (omega arith)

pub loop-b-preserved : goal.loop-b-preserved
loop-b-preserved c = whole_byte c.args.bytes.now c.loop-b.b-index c.loop-b.invariant (omega arith) (record { same = refl; stands = refl; goes = refl })
