-- A turn of the loop passes one part more. Assumes nothing.
use Rattle.std.proofs.Common.{length, ap, subst, arith}
use Rattle.netpbm.proofs.Passing.{passes_then}
use Rattle.plain.specs.Plain.{plain_at}
use Rattle.plain.specs.Steps.{part, IsPart}
use Rattle.plain.proofs.Tallies.{part_few, passes_part}
use Rattle.black.proofs.Scan.pass_white.Goals as goal

pub overflow_add-white : goal.overflow_add-white
overflow_add-white c = record { fits = omega (arith, part_few _ _ _ _ c.in-Some.ensures.inside c.in-Some.ensures.same _ c.of-tally.ensures, c.in-Some.ensures.inside, ap length c.loop-part.invariant.same) }

pub loop-part-preserved : goal.loop-part-preserved
loop-part-preserved c =
    let l = c.loop-part in
    let s = c.args.self.now.pixels in
    let p = subst (λ b. IsPart b l.self.pixels.at c.in-Some.part.now) l.invariant.same c.in-Some.ensures in
    record {
      same = l.invariant.same;
      passes =
          passes_then (plain_at s.bytes.now) s.at l.white l.self.pixels.at l.invariant.passes _ _
          (passes_part s.bytes.now l.self.pixels.at part c.in-Some.part.now p.inside p.same c.of-tally.result c.of-tally.ensures (omega arith));
      few = omega (arith, l.invariant.few, part_few _ _ _ _ c.in-Some.ensures.inside c.in-Some.ensures.same _ c.of-tally.ensures);
    }
