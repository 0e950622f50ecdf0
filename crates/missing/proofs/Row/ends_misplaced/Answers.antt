-- One of the two is misplaced, or neither. Assumes nothing.
use Rattle.std.proofs.Common.{arith, subst, refl, inl, inr, Bool, true, false, ◌≡◌, ◌+◌, ◌-◌, ltb}
use Rattle.std.proofs.lemmas.Bool.{ltb-true}
use Rattle.packed.specs.Packed.{Tells}
use Rattle.lattice.proofs.Lists.{either}
use Rattle.packed.proofs.Tests.{tells_as}
use Rattle.missing.specs.Missing.{MisplacedAt}
use Rattle.missing.proofs.Row.ends_misplaced.Goals as goal

pub returns-then-is_misplaced : goal.returns-then-is_misplaced
returns-then-is_misplaced c =
    tells_as c.is_misplaced.result (λ m. record { some = c.if-self.true; which = inl m })
    (λ e. c.if-is_misplaced.ensures) c.is_misplaced.ensures

pub returns-then-self-2 : goal.returns-then-self-2
returns-then-self-2 c =
    tells_as c.is_misplaced-then-self-2.result (λ m. record { some = c.if-self.true; which = inr m })
    (λ e. either e.which (λ m. absurd (c.if-is_misplaced.ensures m)) (λ m. m)) c.is_misplaced-then-self-2.ensures

-- there is one point
pub returns-else-self-2 : goal.returns-else-self-2
returns-else-self-2 c =
    let r = c.args.self.now in
    let e : r.end - 1 ≡ r.begin = omega arith in
    untrue _ (λ (t : ltb (r.begin + 1) r.end ≡ true). omega (arith, ltb-true (r.begin + 1) r.end t))
    (λ m. either m.which c.if-is_misplaced.ensures (λ n. c.if-is_misplaced.ensures (subst (MisplacedAt r.corners.now r.missing.now) e n)))
  where
    untrue : (b : Bool) {P : Type 0} → (b ≡ true → ⊥) → (P → ⊥) → Tells b P
    untrue true n f = absurd (n refl)
    untrue false n f = f
