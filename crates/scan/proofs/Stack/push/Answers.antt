-- `scan::Stack::push` meets its contract: a turn of the loop pops one point more. Assumes nothing.
use Rattle.std.proofs.Common.{◌≡◌, ◌-◌, arith, subst, sym, ◌∙◌, pos, ◌≤ℤ◌, ◌<ℤ◌}
use Rattle.lattice.specs.Hull.{turn}
use Rattle.packed.specs.Packed.{unpacked}
use Rattle.packed.proofs.Tests.{lt_yes, lt_no}
use Rattle.scan.specs.Scanning.{at}
use Rattle.scan.proofs.Popping.{popping_more, popping_ends}
use Rattle.scan.proofs.Stack.push.Goals as goal
use Rattle.scan.proofs.Stack.push.Goals.{then-loop-self-test+else-not-left, else-loop-self-test}

pub loop-self-preserved : goal.loop-self-preserved
loop-self-preserved c =
    let i = c.loop-self.invariant in
    let s = c.loop-self.self in
    let e : s.top - 2 ≡ s.top - 1 - 1 = omega arith in
    record {
      same_points = i.same_points;
      same_base = i.same_base;
      some = omega arith;
      popping = popping_more _ _ _ _ _ _ i.popping (omega arith)
          (subst (λ j. turn (at s.points.now j) (at s.points.now (s.top - 1)) (unpacked c.args.k) ≤ℤ pos 0) e (lt_no (sym c.left.ensures ∙ c.if-not-left.true)));
    }

pub returns-clause-pushed : goal.returns-clause-pushed
returns-clause-pushed c =
    let i = c.loop-self.invariant in
    let s = c.loop-self.self in
    popping_ends _ _ _ _ _ _ i.popping c.requires
    (λ j b e. elim c.loop-self-test.branch [
      | then-loop-self-test+else-not-left w ↦ let d : s.top - 2 ≡ j = omega arith in subst (λ n. pos 0 <ℤ turn (at s.points.now n) (at s.points.now (s.top - 1)) (unpacked c.args.k)) d (lt_yes (sym w.left.ensures ∙ w.if-not-left.false))
      | else-loop-self-test w ↦ absurd (omega (arith, w.loop-self-test.false))
    ])
    _ (omega arith)
