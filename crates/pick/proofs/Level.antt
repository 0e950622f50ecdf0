-- A level edge falls into as many steps as it is long, and has no rows but its last. Assumes nothing.
use mathlib.Core.Path.{◌≡◌, sym}
use mathlib.Core.List.{[], ◌∷◌}
use lib.IntN.{ℤ, pos, negsuc, ◌+ℤ◌, ◌*ℤ◌, ◌-ℤ◌}
use Rattle.whole.proofs.Whole.{quote, ◌≤ᶻ◌, ◌<ᶻ◌, natural, gap≤, gap<, ◌⊞◌, ◌∗≡◌, ◌∔◌, linear≤, linear<, linear⊥, linear≡, le_or_lt, le_of_equal, antisymmetric, zero_factor, difference_zero}
use Rattle.lattice.specs.Point.{Point}
use Rattle.lattice.proofs.Turn.{coordinates}
use Rattle.lattice.proofs.Lists.{either}
use Rattle.pick.specs.Solid.{Rectangle}
use Rattle.pick.proofs.Number.{Twice, number_same, number_unique, number_none}
use Rattle.pick.proofs.Rectangle.{number_rectangle}
use Rattle.pick.proofs.Divisor.{Steps}
use Rattle.pick.proofs.Segment.{Along, number_along}
use Rattle.pick.proofs.EdgeRows.{LeftOrOn, strip, twice_left_or_on}

module _ (a b : Point) (g : ℤ) (steps : Steps a b g) (level : a.y ≡ b.y) (right : a.x <ᶻ b.x) where
  row_of_edge : (p : Point) → Along (pos 1) (pos 0) a b p → Rectangle a.x b.x a.y a.y p
  row_of_edge p s = record {
    from_left = linear≤ (coordinates (a ∷ p ∷ [])) s.from (search quote depth 20) tt;
    to_right = linear≤ (coordinates (b ∷ p ∷ [])) s.to (search quote depth 20) tt;
    from_low = le_of_equal (sym same_row);
    to_high = le_of_equal same_row;
  }
    where
      same_row : p.y ≡ a.y
      same_row =
          difference_zero
          (zero_factor {a = b.x -ℤ a.x} {b = p.y -ℤ a.y}
          (linear≡ (coordinates (a ∷ b ∷ p ∷ [])) (pos 1 ∗≡ s.straight ∔ (a.x -ℤ p.x) ∗≡ level) (search quote depth 20) tt)
          (linear< (coordinates (a ∷ b ∷ [])) (gap< right) (search quote depth 20) tt))

  edge_of_row : (p : Point) → Rectangle a.x b.x a.y a.y p → Along (pos 1) (pos 0) a b p
  edge_of_row p r = record {
    straight = linear≡ (coordinates (a ∷ b ∷ p ∷ []))
        ((b.x -ℤ a.x) ∗≡ antisymmetric r.to_high r.from_low ∔ (p.x -ℤ a.x) ∗≡ level) (search quote depth 20) tt;
    from = linear≤ (coordinates (a ∷ p ∷ [])) (gap≤ r.from_left) (search quote depth 20) tt;
    to = linear≤ (coordinates (b ∷ p ∷ [])) (gap≤ r.to_right) (search quote depth 20) tt;
  }

  -- the points of the edge are those of a row
  row_points : g +ℤ pos 1 ≡ (b.x +ℤ pos 1 -ℤ a.x) *ℤ (a.y +ℤ pos 1 -ℤ a.y)
  row_points =
      number_unique
      (number_same row_of_edge edge_of_row
      (number_along (pos 1) (pos 0) a b g steps (linear< (coordinates (a ∷ b ∷ [])) (gap< right) (search quote depth 20) tt)))
      (number_rectangle a.x b.x a.y a.y
      (linear≤ (coordinates (a ∷ b ∷ [])) (gap< right ⊞ natural 2) (search quote depth 20) tt)
      (linear≤ (a.y ∷ []) (natural 1) (search quote depth 20) tt))

  pub level_steps : g ≡ b.x -ℤ a.x
  level_steps = linear≡ (g ∷ coordinates (a ∷ b ∷ [])) (pos 1 ∗≡ row_points) (search quote depth 20) tt

-- an edge that goes up, or level to the right
pub twice_left_or_level : (X : ℤ) (a b : Point) → X ≤ᶻ a.x → X ≤ᶻ b.x → a.y ≤ᶻ b.y → (a.y ≡ b.y → a.x <ᶻ b.x)
    → (g : ℤ) → Steps a b g
    → Twice (LeftOrOn X a b) (strip X a b +ℤ g)
twice_left_or_level X a b left_a left_b up right g steps =
    either (le_or_lt b.y a.y)
    (λ k. let level : a.y ≡ b.y = antisymmetric up k in (
      pos 0,
      number_none (λ p s. linear⊥ (a.y ∷ b.y ∷ p.y ∷ []) (gap≤ s.from_low ⊞ gap< s.below_high ⊞ gap≤ k) (search quote depth 20) tt),
      linear≡ (X ∷ g ∷ coordinates (a ∷ b ∷ []))
          (negsuc 0 ∗≡ level_steps a b g steps level (right level) ∔ (a.x +ℤ b.x -ℤ pos 2 *ℤ X +ℤ pos 1) ∗≡ level)
          (search quote depth 20) tt,
    ))
    (λ k. twice_left_or_on X a b k left_a left_b g steps)
