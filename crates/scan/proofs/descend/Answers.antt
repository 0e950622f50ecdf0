-- `scan::descend` meets its contract: a turn of the loop passes one row more. Assumes nothing.
use Rattle.std.proofs.Common.{◌-◌, refl, arith, ◌∙◌, get_or, subst, sym}
use Rattle.scan.specs.Scanning.{Pushed, Cornered}
use Rattle.scan.proofs.Climbing.{descending_start, descending_push, descending_end, array_left}
use Rattle.scan.proofs.descend.Goals as goal

pub loop-end-init : goal.loop-end-init
loop-end-init c = record {
  same_points = refl;
  long = refl;
  base = refl;
  descending = descending_start _ _ _ (omega (arith, c.requires.0.some)) c.requires.1;
}

pub loop-end-preserved : goal.loop-end-preserved
loop-end-preserved c =
    let i = c.loop-end.invariant in
    let w = c.loop-end.way in
    record {
      same_points = c.push.ensures.same_points ∙ i.same_points;
      long = c.push.ensures.same_length ∙ i.long;
      base = c.push.ensures.same_base ∙ i.base;
      descending = descending_push _ _ _ _ _ _ c.requires.0.rising i.descending _ c.row_begin-begin.ensures _ _
          (subst (λ b. Pushed w.points.now b w.top (get_or c.args.keys.now c.row_begin-begin.result 0) c.push.new.self.points.now c.push.new.self.top) i.base c.push.ensures.pushed);
    }

pub returns : goal.returns
returns c =
    let i = c.loop-end.invariant in
    let same = sym i.same_points in
    array_left (λ s. Cornered c.args.keys.now s (c.loop-end.way.top - 1)) (grind (arith, same))
    (descending_end _ _ _ _ _ _ c.requires.0.rising c.requires.0.some (omega (arith, i.long, c.requires.0.room)) c.requires.1 i.descending (omega arith))
