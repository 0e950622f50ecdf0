-- Area and border, and so Pick's count, do not change when all points move by the same step. Assumes nothing.
use mathlib.Core.Path.{◌≡◌, refl, ◌∙◌}
use mathlib.Core.List.{List, [], ◌∷◌}
use lib.IntN.{ℤ, pos, nat_abs, ◌+ℤ◌, ◌*ℤ◌, ◌-ℤ◌}
use Rattle.whole.proofs.Whole.{ring, quote, linear≡, ◌∗≡◌}
use Rattle.lattice.specs.Point.{Point}
use Rattle.lattice.proofs.Turn.{coordinates, translated}
use Rattle.pick.specs.Pick.{divisor, span, cross, around, area, border, twice_count}

module _ (s t : ℤ) where
  abbrev pub moved : List Point → List Point
  moved [] = []
  moved (a ∷ l) = translated s t a ∷ moved l

  -- ---- the area: what an open way gains or loses is gone when it closes
  cross_around : (c a : Point) (l : List Point)
      → around cross (translated s t c) (translated s t a) (moved l)
      ≡ around cross c a l +ℤ s *ℤ (c.y -ℤ a.y) -ℤ t *ℤ (c.x -ℤ a.x)
  cross_around c a [] = ring (s ∷ t ∷ coordinates (c ∷ a ∷ [])) (search quote depth 20) tt
  cross_around c a (b ∷ l) =
      one_edge (around cross (translated s t c) (translated s t b) (moved l)) (around cross c b l) (cross_around c b l)
    where
      one_edge : (M N : ℤ) → M ≡ N +ℤ s *ℤ (c.y -ℤ b.y) -ℤ t *ℤ (c.x -ℤ b.x)
          → cross (translated s t a) (translated s t b) +ℤ M ≡ cross a b +ℤ N +ℤ s *ℤ (c.y -ℤ a.y) -ℤ t *ℤ (c.x -ℤ a.x)
      one_edge M N e = linear≡ (s ∷ t ∷ M ∷ N ∷ coordinates (a ∷ b ∷ c ∷ [])) (pos 1 ∗≡ e) (search quote depth 20) tt

  area_moved : (c : List Point) → area (moved c) ≡ area c
  area_moved [] = refl
  area_moved (c ∷ l) = cross_around c c l ∙ closed (around cross c c l)
    where
      closed : (M : ℤ) → M +ℤ s *ℤ (c.y -ℤ c.y) -ℤ t *ℤ (c.x -ℤ c.x) ≡ M
      closed M = ring (s ∷ t ∷ M ∷ coordinates (c ∷ [])) (search quote depth 20) tt

  -- ---- the border
  difference_moved : (d a b : ℤ) → b +ℤ d -ℤ (a +ℤ d) ≡ b -ℤ a
  difference_moved d a b = ring (d ∷ a ∷ b ∷ []) (search quote depth 20) tt

  span_moved : (a b : Point) → span (translated s t a) (translated s t b) ≡ span a b
  unfolding span
  span_moved a b = λ i. pos (divisor (nat_abs (difference_moved s a.x b.x i)) (nat_abs (difference_moved t a.y b.y i)))

  span_around : (c a : Point) (l : List Point) → around span (translated s t c) (translated s t a) (moved l) ≡ around span c a l
  span_around c a [] = span_moved a c
  span_around c a (b ∷ l) = λ i. span_moved a b i +ℤ span_around c b l i

  border_moved : (c : List Point) → border (moved c) ≡ border c
  border_moved [] = refl
  border_moved (c ∷ l) = span_around c c l

  pub twice_count_moved : (c : List Point) → twice_count (moved c) ≡ twice_count c
  twice_count_moved [] = refl
  twice_count_moved (a ∷ []) = refl
  twice_count_moved (a ∷ b ∷ l) = λ i. area_moved (a ∷ b ∷ l) i +ℤ border_moved (a ∷ b ∷ l) i +ℤ pos 2
