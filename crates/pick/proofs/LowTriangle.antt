-- A triangle whose first corner is a lowest one lies above it, and right of a column that all corners are right of. Assumes nothing.
use mathlib.Core.List.{[], ◌∷◌}
use lib.IntN.{ℤ, pos, ◌+ℤ◌, ◌-ℤ◌}
use Rattle.whole.proofs.Whole.{quote, ◌≤ᶻ◌, ◌<ᶻ◌, Positive, gap≤, gap<, ◌⊞◌, ◌⊠◌, linear≤, linear<, le_of_lt, nonnegative_factor}
use Rattle.lattice.specs.Point.{Point}
use Rattle.lattice.specs.Hull.{turn, InTriangle}
use Rattle.lattice.proofs.Turn.{coordinates, Left}
use Rattle.pick.proofs.Number.{Twice}
use Rattle.pick.proofs.Divisor.{Steps}

-- c is a lowest corner, and no corner is left of X
pub record Lowest (X : ℤ) (c a b : Point) : Type 0 where
  pub turned : Left c a b
  pub left_c : X ≤ᶻ c.x
  pub left_a : X ≤ᶻ a.x
  pub left_b : X ≤ᶻ b.x
  pub under_a : c.y ≤ᶻ a.y
  pub under_b : c.y <ᶻ b.y

-- the steps of the three edges
pub record EdgeSteps (c a b : Point) (g h k : ℤ) : Type 0 where
  pub steps_ca : Steps c a g
  pub steps_ab : Steps a b h
  pub steps_bc : Steps b c k

-- what is to be shown of a triangle: twice its points are twice its area, its border and 2
abbrev pub PickTriangle : (c a b : Point) (g h k : ℤ) → Type 0
PickTriangle c a b g h k = Twice (InTriangle c a b) (turn c a b +ℤ (g +ℤ (h +ℤ k)) +ℤ pos 2)

module _ (X : ℤ) (c a b : Point) (low : Lowest X c a b) where
  pub rise_cb : Positive (b.y -ℤ c.y)
  rise_cb = linear< (coordinates (c ∷ b ∷ [])) (gap< low.under_b) (search quote depth 20) tt

  pub right_of_first : (p : Point) → InTriangle c a b p → X ≤ᶻ p.x
  right_of_first p t =
      linear≤ (X ∷ p.x ∷ [])
      (nonnegative_factor {a = turn c a b} {b = p.x -ℤ X}
      (linear≤ (X ∷ coordinates (c ∷ a ∷ b ∷ p ∷ []))
      (t.left_bc ⊠ gap≤ low.left_c ⊞ t.left_ca ⊠ gap≤ low.left_a ⊞ t.left_ab ⊠ gap≤ low.left_b) (search quote depth 20) tt)
      low.turned)
      (search quote depth 20) tt

  pub above_lowest : (p : Point) → InTriangle c a b p → c.y ≤ᶻ p.y
  above_lowest p t =
      linear≤ (c.y ∷ p.y ∷ [])
      (nonnegative_factor {a = turn c a b} {b = p.y -ℤ c.y}
      (linear≤ (coordinates (c ∷ a ∷ b ∷ p ∷ [])) (t.left_ca ⊠ gap≤ low.under_a ⊞ t.left_ab ⊠ le_of_lt rise_cb) (search quote depth 20) tt)
      low.turned)
      (search quote depth 20) tt
