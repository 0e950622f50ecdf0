-- `rows::run` meets its contract: a turn of the loop passes one point more. Assumes nothing.
use Rattle.std.proofs.Common.{refl, arith, rules}
use Rattle.rows.proofs.RowLaws.{turn_more, turn_stops}
use Rattle.rows.proofs.run.Goals as goal

pub loop-v-preserved : goal.loop-v-preserved
loop-v-preserved c = let i = c.loop-v.invariant in (
  omega arith,
  turn_more c.args.list.now _ c.pairs.ensures _ _ c.requires c.loop-v-test.true _ c.args.y refl (search rules) c.ranges.y _ i.0 i.1 c.if-v-y.false,
)

pub returns-then-v-y : goal.returns-then-v-y
returns-then-v-y c = let i = c.loop-v.invariant in
    turn_stops c.args.list.now _ c.pairs.ensures _ _ c.requires c.loop-v-test.true _ c.args.y refl (search rules) c.ranges.y _ i.0 i.1 c.if-v-y.true
