-- A turn of the loop counts one part more. Assumes nothing.
use Rattle.std.proofs.Common.{sym, subst, ◌∙◌, arith}
use Rattle.plain.specs.Steps.{part, IsPart}
use Rattle.plain.proofs.Tallies.{part_few, counted_part}
use Rattle.plain.proofs.Pixels.pass_parts.Goals as goal

pub overflow_add-passed : goal.overflow_add-passed
overflow_add-passed c = record { fits = omega (arith, part_few _ _ _ _ c.in-Some.ensures.inside c.in-Some.ensures.same _ c.of-tally.ensures) }

pub loop-part-preserved : goal.loop-part-preserved
loop-part-preserved c =
    let l = c.loop-part in
    let bytes = c.args.self.now.bytes.now in
    let p = subst (λ b. IsPart b l.self.at c.in-Some.part.now) l.invariant.same c.in-Some.ensures in
    let t = counted_part bytes l.self.at part c.in-Some.part.now p.inside p.same c.of-tally.result c.of-tally.ensures (omega arith) in
    record {
      same = l.invariant.same;
      leaves = record {
        same = sym (t l.left l.black c.if-left-passed.false) ∙ l.invariant.leaves.same;
        few = omega (arith, l.invariant.leaves.few);
      };
    }
