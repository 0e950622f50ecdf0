-- `rows::sound` meets its contract: the three tests are those of the definition. Assumes nothing.
use Rattle.std.proofs.Common.{◌≡◌, ◌≤◌, ◌/◌, ◌%◌, Bool, length, List, ℤ, arith, sym, ◌∙◌}
use Rattle.std.proofs.lemmas.Bool.{leb-true, eqb-true}
use Rattle.lattice.specs.Point.{points, InRange, All, Pairs, Before}
use Rattle.lattice.proofs.Numbers.{points_length}
use Rattle.packed.specs.Packed.{Tells}
use Rattle.packed.proofs.Tests.{tells_as}
use Rattle.rows.specs.Row.{Sound}
use Rattle.rows.proofs.sound.Goals as goal
use Rattle.rows.proofs.sound.Goals.{then-list-eq0, else-list-eq0}

sound_as : (list : List ℤ) (r : Bool) → length list % 2 ≡ 0 → length list / 2 ≤ 4096 → Tells r (All InRange (points list) × Pairs Before (points list)) → Tells r (Sound list)
sound_as list r even few t =
    tells_as r (λ h. record { even = λ o. omega (arith, even, o); few = omega (arith, few, points_length list); range = h.0; order = h.1 }) (λ h. (h.range, h.order)) t

pub returns-then-list-le-MOST : goal.returns-then-list-le-MOST
returns-then-list-le-MOST c = elim c.if-list-eq0.branch [
  | then-list-eq0 w ↦ sound_as _ _ w.if-list-eq0.true (omega (arith, leb-true _ _ (sym w.value-is ∙ c.if-list-le-MOST.true))) c.rising.ensures
  | else-list-eq0 w ↦ absurd (w.if-list-eq0.false (eqb-true _ _ (sym w.value-is ∙ c.if-list-le-MOST.true)))
]
