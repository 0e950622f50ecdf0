-- No point of a row is in the way, and there is room for all columns. Assumes nothing.
use mathlib.Core.List.{List, []}
use mathlib.Core.Path.{◌≡◌, ◌∙◌, subst}
use native.Mathlib.Omega.{arith}
use borrow.Author.Rules.{rules}
use Prim.Native.Nat.{ℕ, ◌+◌, ◌-◌, ◌*◌, ◌≤◌, ◌<◌}
use lib.ListN.{length, set}
use lib.IntN.{ℤ}
use Rattle.lattice.proofs.Places.{nowhere}
use Rattle.packed.specs.Packed.{side, placed}
use Rattle.packed.proofs.Tests.{read_back}
use Rattle.stretch.specs.declared.Stretch.{Stretch}
use Rattle.walk.specs.Walk.{Across, Puts}
use Rattle.walk.proofs.Gaps.{Gapping, no_points, gapping_none, gapping_gap, gapping_ends}
use Rattle.walk.proofs.fill.Goals as goal

module _ (s : Stretch) (y : ℕ) (room₀ : List ℤ) (u : s.from ≤ s.to) (v : s.to ≤ side) where
  begin : Gapping [] s y (s.from + 0) 0 0 room₀ room₀
  begin = let e : s.from ≡ s.from + 0 = omega arith in subst (λ x. Gapping [] s y x 0 0 room₀ room₀) e (gapping_none [] s y (no_points s y u v) room₀)

  module _ (i : ℕ) (room : List ℤ) (g : Gapping [] s y (s.from + i) 0 i room₀ room) where
    more : i < s.to - s.from → 2 * i + 1 < length room₀ → (a b : ℤ) → a ≡ placed (s.from + i) → b ≡ placed y
        → Gapping [] s y (s.from + (i + 1)) 0 (i + 1) room₀ (set (set room (2 * i) a) (2 * i + 1) b)
    more l wide a b e f =
        let d : s.from + i + 1 ≡ s.from + (i + 1) = omega arith in
        subst (λ x. Gapping [] s y x 0 (i + 1) room₀ (set (set room (2 * i) a) (2 * i + 1) b)) d
        (gapping_gap [] s y (no_points s y u v) (s.from + i) 0 i room₀ room g (omega arith) (λ h. nowhere 0 h.0) wide a b e f)

    ends : (width : ℕ) → width ≡ s.to - s.from → i ≤ width → width ≤ i → Puts (Across s y) room₀ width room
    ends width e l m =
        let d : i ≡ width = omega arith in
        subst (λ r. Puts (Across s y) room₀ r room) d (gapping_ends [] s y (no_points s y u v) (s.from + i) 0 i room₀ room g (omega (arith, e, m)))

pub loop-i-init : goal.loop-i-init
loop-i-init c = begin _ _ _ c.requires.0 c.requires.1

pub loop-i-preserved : goal.loop-i-preserved
loop-i-preserved c =
    more _ _ _ c.requires.0 c.requires.1 _ _ c.loop-i.invariant (omega arith) (omega arith) _ _
    (read_back c.placed.result (search rules) ∙ c.placed.ensures) (read_back c.placed-in-loop-i.result (search rules) ∙ c.placed-in-loop-i.ensures)

pub returns : goal.returns
returns c = ends _ _ _ c.requires.0 c.requires.1 _ _ c.loop-i.invariant _ c.width-width.ensures c.loop-i.auto.i-end c.loop-i-test.false
