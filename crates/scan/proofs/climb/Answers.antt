-- `scan::climb` meets its contract: a turn of the loop passes one row more. Assumes nothing.
use Rattle.std.proofs.Common.{◌-◌, refl, arith, ◌∙◌, get_or, subst, sym}
use lib.ListN.{length-set}
use lib.Seq.{get_or-set_same}
use Rattle.scan.specs.Scanning.{Pushable, Pushed, Climbed}
use Rattle.scan.proofs.Climbing.{climbing_start, climbing_pushable, climbing_push, climbing_end, array_left}
use Rattle.scan.proofs.climb.Goals as goal

pub loop-begin-init : goal.loop-begin-init
loop-begin-init c = record {
  same_points = refl;
  long = refl;
  base = refl;
  climbing = climbing_start _ _ c.requires.rising (omega (arith, c.requires.some)) (get_or-set_same c.args.stack.now 0 _ 0 (omega (arith, c.requires.some, c.requires.room)));
}

pub push-requires : goal.push-requires
push-requires c =
    let i = c.loop-begin.invariant in
    let w = c.loop-begin.way in
    let long = length-set c.args.stack.now 0 (get_or c.args.keys.now 0 0) in
    subst (λ b. Pushable w.points.now b w.top (get_or c.args.keys.now (c.row_end-end.result - 1) 0)) (sym i.base)
    (climbing_pushable _ _ _ _ _ c.requires.rising i.climbing c.row_end-end.ensures (omega arith))

pub loop-begin-preserved : goal.loop-begin-preserved
loop-begin-preserved c =
    let i = c.loop-begin.invariant in
    let w = c.loop-begin.way in
    record {
      same_points = c.push.ensures.same_points ∙ i.same_points;
      long = c.push.ensures.same_length ∙ i.long;
      base = c.push.ensures.same_base ∙ i.base;
      climbing = climbing_push _ _ _ _ _ c.requires.rising i.climbing c.row_end-end.ensures _ _
          (subst (λ b. Pushed w.points.now b w.top (get_or c.args.keys.now (c.row_end-end.result - 1) 0) c.push.new.self.points.now c.push.new.self.top) i.base c.push.ensures.pushed);
    }

pub returns : goal.returns
returns c =
    let i = c.loop-begin.invariant in
    let same = sym i.same_points in
    array_left (λ s. Climbed c.args.keys.now s (c.loop-begin.way.top - 1)) (grind (arith, same))
    (climbing_end _ _ _ _ c.requires.rising c.requires.some i.climbing c.loop-begin-test.false)
