-- Pick's theorem for a triangle with the lowest corner c first and the other two in one row: what is left of ca, and the row from b to a, is
-- what is left of cb and the triangle. Assumes nothing.
use mathlib.Core.Path.{◌≡◌, sym}
use mathlib.Core.Logic.{◌⊎◌, inl, inr}
use mathlib.Core.List.{List, [], ◌∷◌}
use lib.IntN.{ℤ, pos, negsuc, neg_ℤ, ◌+ℤ◌, ◌*ℤ◌, ◌-ℤ◌}
use Rattle.whole.proofs.Whole.{quote, ◌≤ᶻ◌, ◌<ᶻ◌, NonNegative, Positive, natural, gap≤, gap<, ◌⊞◌, ◌⊠◌, ◌⋆≡◌, ◌∗≡◌, ◌∔◌, linear≤, linear<, linear⊥, linear≡, le_or_lt, le_of_lt, antisymmetric, nonnegative_factor, positive_factor}
use Rattle.lattice.specs.Point.{Point}
use Rattle.lattice.specs.Hull.{turn, InTriangle}
use Rattle.lattice.proofs.Turn.{coordinates}
use Rattle.lattice.proofs.Lists.{either}
use Rattle.lattice.proofs.Decide.{triangle?}
use Rattle.pick.specs.Solid.{Rectangle}
use Rattle.pick.proofs.Number.{Number, Twice, number_union, number_left}
use Rattle.pick.proofs.Rectangle.{number_rectangle}
use Rattle.pick.proofs.Divisor.{steps_back}
use Rattle.pick.proofs.EdgeRows.{LeftOrOn, LeftOf, strip, twice_left_or_on, twice_left_of}
use Rattle.pick.proofs.Level.{level_steps}
use Rattle.pick.proofs.LowTriangle.{Lowest, EdgeSteps, PickTriangle, rise_cb, right_of_first, above_lowest}

module _ (X : ℤ) (c a b : Point) (low : Lowest X c a b) (level : a.y ≡ b.y) where
  abbrev ρ : Point → List ℤ
  ρ p = X ∷ coordinates (c ∷ a ∷ b ∷ p ∷ [])

  turned : NonNegative (turn c a b)
  turned = le_of_lt low.turned

  up : c.y <ᶻ a.y
  up = linear< (coordinates (c ∷ a ∷ b ∷ [])) (gap< low.under_b ⊞ negsuc 0 ⋆≡ level) (search quote depth 20) tt

  rise_ca : Positive (a.y -ℤ c.y)
  rise_ca = linear< (coordinates (c ∷ a ∷ [])) (gap< up) (search quote depth 20) tt

  -- the row goes from b to a
  right : b.x <ᶻ a.x
  right =
      linear< (coordinates (a ∷ b ∷ []))
      (gap< (positive_factor {a = b.y -ℤ c.y} {b = a.x -ℤ b.x}
      (linear< (ρ c) (gap< low.turned ⊞ (c.x -ℤ b.x) ⋆≡ level) (search quote depth 20) tt) (rise_cb X c a b low)))
      (search quote depth 20) tt

  abbrev TopRow : Point → Type 0
  TopRow = Rectangle b.x a.x a.y a.y

  abbrev Outer : Point → Type 0
  Outer p = LeftOrOn X c a p ⊎ TopRow p

  split_lower : (p : Point) → LeftOrOn X c a p → LeftOf X c b p ⊎ InTriangle c a b p
  split_lower p h =
      either (le_or_lt (pos 0) (turn b c p))
      (λ v. inr (record {
        turned = low.turned;
        left_ab = h.side;
        left_bc = nonnegative_factor {a = b.y -ℤ c.y} {b = turn a b p}
            (linear≤ (ρ p) (turned ⊠ (gap< h.below_high ⊞ natural 1) ⊞ (turn c a b -ℤ turn b c p) ⋆≡ level) (search quote depth 20) tt)
            (rise_cb X c a b low);
        left_ca = v;
      }))
      (λ v. inl (record {
        from_low = h.from_low;
        below_high = linear< (ρ p) (gap< h.below_high ⊞ pos 1 ⋆≡ level) (search quote depth 20) tt;
        from_left = h.from_left;
        side = linear< (ρ p) (gap< v) (search quote depth 20) tt;
      }))

  row_triangle : (p : Point) → TopRow p → InTriangle c a b p
  row_triangle p r =
      let row : p.y ≡ a.y = antisymmetric r.to_high r.from_low in
      record {
        turned = low.turned;
        left_ab = linear≤ (ρ p) (le_of_lt rise_ca ⊠ gap≤ r.to_right ⊞ (c.x -ℤ a.x) ⋆≡ row) (search quote depth 20) tt;
        left_bc = linear≤ (ρ p) ((a.x -ℤ b.x) ⋆≡ row ⊞ (a.x -ℤ p.x) ⋆≡ level) (search quote depth 20) tt;
        left_ca = linear≤ (ρ p)
            (le_of_lt (rise_cb X c a b low) ⊠ gap≤ r.from_left ⊞ (b.x -ℤ c.x) ⋆≡ row ⊞ (b.x -ℤ c.x) ⋆≡ level)
            (search quote depth 20) tt;
      }

  split : (p : Point) → Outer p → LeftOf X c b p ⊎ InTriangle c a b p
  split p (inl h) = split_lower p h
  split p (inr r) = inr (row_triangle p r)

  left_outer : (p : Point) → LeftOf X c b p → Outer p
  left_outer p h = inl (record {
    from_low = h.from_low;
    below_high = linear< (ρ p) (gap< h.below_high ⊞ negsuc 0 ⋆≡ level) (search quote depth 20) tt;
    from_left = h.from_left;
    side = nonnegative_factor {a = b.y -ℤ c.y} {b = turn c a p}
        (linear≤ (ρ p) (turned ⊠ gap≤ h.from_low ⊞ le_of_lt h.side ⊠ gap≤ low.under_a) (search quote depth 20) tt)
        (rise_cb X c a b low);
  })

  under_row : (p : Point) → InTriangle c a b p → p.y ≤ᶻ a.y
  under_row p t =
      linear≤ (ρ p)
      (nonnegative_factor {a = turn c a b} {b = a.y -ℤ p.y}
      (linear≤ (ρ p) (t.left_bc ⊠ le_of_lt rise_ca ⊞ (neg_ℤ (turn c a p)) ⋆≡ level) (search quote depth 20) tt) low.turned)
      (search quote depth 20) tt

  in_row : (p : Point) → InTriangle c a b p → a.y ≤ᶻ p.y → TopRow p
  in_row p t high =
      let row : p.y ≡ a.y = antisymmetric (under_row p t) high in
      record {
        from_left = linear≤ (ρ p)
            (nonnegative_factor {a = b.y -ℤ c.y} {b = p.x -ℤ b.x}
            (linear≤ (ρ p) (t.left_ca ⊞ (c.x -ℤ b.x) ⋆≡ row ⊞ (c.x -ℤ b.x) ⋆≡ level) (search quote depth 20) tt) (rise_cb X c a b low))
            (search quote depth 20) tt;
        to_right = linear≤ (ρ p)
            (nonnegative_factor {a = a.y -ℤ c.y} {b = a.x -ℤ p.x}
            (linear≤ (ρ p) (t.left_ab ⊞ (a.x -ℤ c.x) ⋆≡ row) (search quote depth 20) tt) rise_ca)
            (search quote depth 20) tt;
        from_low = high;
        to_high = under_row p t;
      }

  triangle_outer : (p : Point) → InTriangle c a b p → Outer p
  triangle_outer p t =
      either (le_or_lt a.y p.y)
      (λ k. inr (in_row p t k))
      (λ k. inl (record {
        from_low = above_lowest X c a b low p t;
        below_high = k;
        from_left = right_of_first X c a b low p t;
        side = t.left_ab;
      }))

  number_row : Number TopRow ((a.x +ℤ pos 1 -ℤ b.x) *ℤ (a.y +ℤ pos 1 -ℤ a.y))
  number_row =
      number_rectangle b.x a.x a.y a.y (linear≤ (ρ c) (gap< right ⊞ natural 2) (search quote depth 20) tt)
      (linear≤ (ρ c) (natural 1) (search quote depth 20) tt)

  pub pick_level : (g h k : ℤ) → EdgeSteps c a b g h k → PickTriangle c a b g h k
  pick_level g h k steps =
      by_edges (twice_left_or_on X c a up low.left_c low.left_a g steps.steps_ca)
      (level_steps b a h (steps_back a b steps.steps_ab) (sym level) right)
      (twice_left_of X c b low.under_b low.left_c low.left_b k (steps_back b c steps.steps_bc))
    where
      by_edges : Twice (LeftOrOn X c a) (strip X c a +ℤ g) → h ≡ a.x -ℤ b.x → Twice (LeftOf X c b) (strip X c b -ℤ k)
          → PickTriangle c a b g h k
      by_edges ca row cb = (
        ca.0 +ℤ (a.x +ℤ pos 1 -ℤ b.x) *ℤ (a.y +ℤ pos 1 -ℤ a.y) -ℤ cb.0,
        number_left (triangle? c a b) split left_outer triangle_outer
            (λ p h t. linear⊥ (ρ p) (gap< h.side ⊞ t.left_ca) (search quote depth 20) tt)
            (number_union (λ p h k. linear⊥ (ρ p) (gap< h.below_high ⊞ gap≤ k.from_low) (search quote depth 20) tt) ca.1 number_row)
            cb.1,
        linear≡ (X ∷ g ∷ h ∷ k ∷ ca.0 ∷ cb.0 ∷ coordinates (c ∷ a ∷ b ∷ []))
            (pos 1 ∗≡ ca.2 ∔ negsuc 0 ∗≡ cb.2 ∔ negsuc 0 ∗≡ row ∔ (a.x +ℤ b.x -ℤ pos 2 *ℤ X +ℤ pos 1) ∗≡ level)
            (search quote depth 20 fits 4000) tt,
      )
