-- Pick's theorem for every triangle: one of its corners is a lowest one, and any corner may be named first. Assumes nothing.
use mathlib.Core.Path.{sym}
use mathlib.Core.List.{[], ◌∷◌}
use lib.IntN.{ℤ, pos, ◌-ℤ◌}
use Rattle.whole.proofs.Whole.{quote, ◌≤ᶻ◌, ◌<ᶻ◌, gap≤, gap<, ◌⊞◌, ◌⋆≡◌, ◌∗≡◌, natural, linear≤, linear<, linear⊥, linear≡, Sign, below, nought, above, sign, le_or_lt, le_of_equal, le_of_lt, antisymmetric, difference_zero}
use mathlib.Core.Path.{refl}
use Rattle.lattice.specs.Point.{Point}
use Rattle.lattice.proofs.Turn.{coordinates, Left}
use Rattle.lattice.proofs.Lists.{either}
use Rattle.pick.proofs.Number.{number_same}
use Rattle.pick.proofs.LowTriangle.{Lowest, EdgeSteps, PickTriangle}
use Rattle.pick.proofs.HighestLast.{pick_highest_last}
use Rattle.pick.proofs.HighestSecond.{pick_highest_second}
use Rattle.pick.proofs.LevelTop.{pick_level}

-- ---- the lowest corner first
pick_lowest : (X : ℤ) (c a b : Point) → Lowest X c a b → (g h k : ℤ) → EdgeSteps c a b g h k → PickTriangle c a b g h k
pick_lowest X c a b low = by_top (sign (b.y -ℤ a.y))
  where
    by_top : Sign (b.y -ℤ a.y) → (g h k : ℤ) → EdgeSteps c a b g h k → PickTriangle c a b g h k
    by_top (above l) = pick_highest_last X c a b low (linear< (coordinates (a ∷ b ∷ [])) (gap< l) (search quote depth 20) tt)
    by_top (below l) = pick_highest_second X c a b low (linear< (coordinates (a ∷ b ∷ [])) (gap< l) (search quote depth 20) tt)
    by_top (nought e) = pick_level X c a b low (sym (difference_zero e))

lesser : (a b : ℤ) → (m : ℤ) × (m ≤ᶻ a) × (m ≤ᶻ b)
lesser a b = either (le_or_lt a b) (λ h. (a, le_of_equal refl, h)) (λ h. (b, le_of_lt h, le_of_equal refl))

-- a column that no corner is left of
lowest : (c a b : Point) → Left c a b → c.y ≤ᶻ a.y → c.y <ᶻ b.y → (X : ℤ) × Lowest X c a b
lowest c a b turned under_a under_b =
    let m = lesser c.x a.x in
    let n = lesser m.0 b.x in (
      n.0,
      record {
        turned = turned;
        left_c = linear≤ (n.0 ∷ m.0 ∷ c.x ∷ []) (gap≤ n.1 ⊞ gap≤ m.1) (search quote depth 20) tt;
        left_a = linear≤ (n.0 ∷ m.0 ∷ a.x ∷ []) (gap≤ n.1 ⊞ gap≤ m.2) (search quote depth 20) tt;
        left_b = n.2;
        under_a = under_a;
        under_b = under_b;
      },
    )

pick_low : (c a b : Point) (g h k : ℤ) → Left c a b → EdgeSteps c a b g h k → c.y ≤ᶻ a.y → c.y <ᶻ b.y → PickTriangle c a b g h k
pick_low c a b g h k turned steps under_a under_b =
    let low = lowest c a b turned under_a under_b in
    pick_lowest low.0 c a b low.1 g h k steps

-- ---- the next corner first
next_first : (c a b : Point) (g h k : ℤ) → PickTriangle a b c h k g → PickTriangle c a b g h k
next_first c a b g h k t = (
  t.0,
  number_same
      (λ p r. record {
        turned = linear< (coordinates (c ∷ a ∷ b ∷ [])) (gap< r.turned) (search quote depth 20) tt;
        left_ab = r.left_ca;
        left_bc = r.left_ab;
        left_ca = r.left_bc;
      })
      (λ p r. record {
        turned = linear< (coordinates (c ∷ a ∷ b ∷ [])) (gap< r.turned) (search quote depth 20) tt;
        left_ab = r.left_bc;
        left_bc = r.left_ca;
        left_ca = r.left_ab;
      })
      t.1,
  linear≡ (t.0 ∷ g ∷ h ∷ k ∷ coordinates (c ∷ a ∷ b ∷ [])) (pos 1 ∗≡ t.2) (search quote depth 20) tt,
)

pub pick_triangle : (c a b : Point) (g h k : ℤ) → Left c a b → EdgeSteps c a b g h k → PickTriangle c a b g h k
pick_triangle c a b g h k turned steps =
    either (le_or_lt c.y a.y)
    (λ i. either (le_or_lt b.y c.y)
    (λ j. either (le_or_lt a.y b.y) (λ l. flat i j l) (λ l. last_lowest j l))
    (λ j. pick_low c a b g h k turned steps i j))
    (λ i. either (le_or_lt a.y b.y)
    (λ j. next_first c a b g h k (pick_low a b c h k g turned_a steps_a j i))
    (λ j. last_lowest (linear≤ (coordinates (c ∷ a ∷ b ∷ [])) (gap< i ⊞ gap< j ⊞ natural 2) (search quote depth 20) tt) j))
  where
    turned_a : Left a b c
    turned_a = linear< (coordinates (c ∷ a ∷ b ∷ [])) (gap< turned) (search quote depth 20) tt

    turned_b : Left b c a
    turned_b = linear< (coordinates (c ∷ a ∷ b ∷ [])) (gap< turned) (search quote depth 20) tt

    steps_a : EdgeSteps a b c h k g
    steps_a = record { steps_ca = steps.steps_ab; steps_ab = steps.steps_bc; steps_bc = steps.steps_ca }

    steps_b : EdgeSteps b c a k g h
    steps_b = record { steps_ca = steps.steps_bc; steps_ab = steps.steps_ca; steps_bc = steps.steps_ab }

    last_lowest : b.y ≤ᶻ c.y → b.y <ᶻ a.y → PickTriangle c a b g h k
    last_lowest i j = next_first c a b g h k (next_first a b c h k g (pick_low b c a k g h turned_b steps_b i j))

    -- three corners in one row do not turn
    flat : c.y ≤ᶻ a.y → b.y ≤ᶻ c.y → a.y ≤ᶻ b.y → PickTriangle c a b g h k
    flat i j l =
        let ρ = coordinates (c ∷ a ∷ b ∷ []) in
        linear⊥ ρ
        (gap< turned
        ⊞ (b.x -ℤ c.x) ⋆≡ antisymmetric i (linear≤ ρ (gap≤ j ⊞ gap≤ l) (search quote depth 20) tt)
        ⊞ (a.x -ℤ c.x) ⋆≡ antisymmetric j (linear≤ ρ (gap≤ i ⊞ gap≤ l) (search quote depth 20) tt))
        (search quote depth 20) tt
