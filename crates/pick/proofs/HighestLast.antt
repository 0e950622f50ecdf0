-- Pick's theorem for a triangle with the lowest corner c first and the highest, b, last: what is left of ca and ab, and b, is what is left
-- of cb and the triangle. Assumes nothing.
use mathlib.Core.Path.{◌≡◌, sym, ap, subst}
use mathlib.Core.Logic.{◌⊎◌, inl, inr}
use mathlib.Core.List.{List, [], ◌∷◌}
use lib.IntN.{ℤ, pos, negsuc, neg_ℤ, ◌+ℤ◌, ◌-ℤ◌}
use Rattle.whole.proofs.Whole.{ring, quote, ◌≤ᶻ◌, ◌<ᶻ◌, NonNegative, Positive, natural, gap≤, gap<, ◌⊞◌, ◌⊠◌, ◌⋆≡◌, ◌∗≡◌, ◌∔◌, linear≤, linear<, linear⊥, linear≡, le_or_lt, le_of_lt, le_of_equal, antisymmetric, nonnegative_factor, positive_factor, zero_factor, difference_zero}
use Rattle.lattice.specs.Point.{Point}
use Rattle.lattice.specs.Hull.{turn, InTriangle}
use Rattle.lattice.proofs.Turn.{coordinates}
use Rattle.lattice.proofs.Lists.{either}
use Rattle.lattice.proofs.HalfPlane.{point_equal}
use Rattle.lattice.proofs.Decide.{triangle?}
use Rattle.pick.proofs.Number.{Twice, number_one, number_union, number_left}
use Rattle.pick.proofs.Divisor.{steps_back}
use Rattle.pick.proofs.EdgeRows.{LeftOrOn, LeftOf, strip, twice_left_or_on, twice_left_of}
use Rattle.pick.proofs.Level.{twice_left_or_level}
use Rattle.pick.proofs.LowTriangle.{Lowest, EdgeSteps, PickTriangle, rise_cb, right_of_first, above_lowest}

module _ (X : ℤ) (c a b : Point) (low : Lowest X c a b) (up : a.y <ᶻ b.y) where
  abbrev ρ : Point → List ℤ
  ρ p = X ∷ coordinates (c ∷ a ∷ b ∷ p ∷ [])

  turned : NonNegative (turn c a b)
  turned = le_of_lt low.turned

  rise_ab : Positive (b.y -ℤ a.y)
  rise_ab = linear< (coordinates (a ∷ b ∷ [])) (gap< up) (search quote depth 20) tt

  abbrev Outer : Point → Type 0
  Outer p = LeftOrOn X c a p ⊎ (LeftOrOn X a b p ⊎ (p ≡ b))

  split_lower : (p : Point) → LeftOrOn X c a p → LeftOf X c b p ⊎ InTriangle c a b p
  split_lower p h =
      either (le_or_lt (pos 0) (turn b c p))
      (λ v. inr (record {
        turned = low.turned;
        left_ab = h.side;
        left_bc = nonnegative_factor {a = a.y -ℤ c.y} {b = turn a b p}
            (linear≤ (ρ p) (h.side ⊠ le_of_lt rise_ab ⊞ turned ⊠ (gap< h.below_high ⊞ natural 1)) (search quote depth 20) tt)
            (linear< (ρ p) (gap≤ h.from_low ⊞ gap< h.below_high) (search quote depth 20) tt);
        left_ca = v;
      }))
      (λ v. inl (record {
        from_low = h.from_low;
        below_high = linear< (ρ p) (gap< h.below_high ⊞ gap< up ⊞ natural 1) (search quote depth 20) tt;
        from_left = h.from_left;
        side = linear< (ρ p) (gap< v) (search quote depth 20) tt;
      }))

  split_upper : (p : Point) → LeftOrOn X a b p → LeftOf X c b p ⊎ InTriangle c a b p
  split_upper p h =
      either (le_or_lt (pos 0) (turn b c p))
      (λ v. inr (record {
        turned = low.turned;
        left_ab = nonnegative_factor {a = b.y -ℤ a.y} {b = turn c a p}
            (linear≤ (ρ p) (turned ⊠ gap≤ h.from_low ⊞ h.side ⊠ gap≤ low.under_a) (search quote depth 20) tt) rise_ab;
        left_bc = h.side;
        left_ca = v;
      }))
      (λ v. inl (record {
        from_low = linear≤ (ρ p) (gap≤ low.under_a ⊞ gap≤ h.from_low) (search quote depth 20) tt;
        below_high = h.below_high;
        from_left = h.from_left;
        side = linear< (ρ p) (gap< v) (search quote depth 20) tt;
      }))

  highest_corner : InTriangle c a b b
  highest_corner = record {
    turned = low.turned;
    left_ab = turned;
    left_bc = le_of_equal (ring (coordinates (a ∷ b ∷ [])) (search quote depth 20) tt);
    left_ca = le_of_equal (ring (coordinates (b ∷ c ∷ [])) (search quote depth 20) tt);
  }

  split : (p : Point) → Outer p → LeftOf X c b p ⊎ InTriangle c a b p
  split p (inl h) = split_lower p h
  split p (inr (inl h)) = split_upper p h
  split p (inr (inr e)) = inr (subst (InTriangle c a b) (sym e) highest_corner)

  left_outer : (p : Point) → LeftOf X c b p → Outer p
  left_outer p h =
      either (le_or_lt a.y p.y)
      (λ k. inr (inl (record {
        from_low = k;
        below_high = h.below_high;
        from_left = h.from_left;
        side = nonnegative_factor {a = b.y -ℤ c.y} {b = turn a b p}
            (linear≤ (ρ p) (turned ⊠ (gap< h.below_high ⊞ natural 1) ⊞ le_of_lt h.side ⊠ le_of_lt rise_ab) (search quote depth 20) tt)
            (rise_cb X c a b low);
      })))
      (λ k. inl (record {
        from_low = h.from_low;
        below_high = k;
        from_left = h.from_left;
        side = nonnegative_factor {a = b.y -ℤ c.y} {b = turn c a p}
            (linear≤ (ρ p) (turned ⊠ gap≤ h.from_low ⊞ le_of_lt h.side ⊠ gap≤ low.under_a) (search quote depth 20) tt)
            (rise_cb X c a b low);
      }))

  -- no point of the triangle but b is in the row of b
  module _ (p : Point) (t : InTriangle c a b p) (high : b.y ≤ᶻ p.y) where
    on_ab : turn a b p ≡ pos 0
    on_ab =
        antisymmetric
        (linear≤ (ρ p)
        (nonnegative_factor {a = b.y -ℤ c.y} {b = neg_ℤ (turn a b p)}
        (linear≤ (ρ p) (t.left_ca ⊠ le_of_lt rise_ab ⊞ turned ⊠ gap≤ high) (search quote depth 20) tt) (rise_cb X c a b low))
        (search quote depth 20) tt)
        t.left_bc

    on_bc : turn b c p ≡ pos 0
    on_bc =
        antisymmetric
        (linear≤ (ρ p)
        (nonnegative_factor {a = b.y -ℤ a.y} {b = neg_ℤ (turn b c p)}
        (linear≤ (ρ p) (t.left_bc ⊠ le_of_lt (rise_cb X c a b low) ⊞ turned ⊠ gap≤ high) (search quote depth 20) tt) rise_ab)
        (search quote depth 20) tt)
        t.left_ca

    only_highest : p ≡ b
    only_highest =
        point_equal
        (difference_zero (zero_factor {a = turn c a b} {b = p.x -ℤ b.x}
        (linear≡ (ρ p) ((c.x -ℤ b.x) ∗≡ on_ab ∔ (a.x -ℤ b.x) ∗≡ on_bc) (search quote depth 20) tt) low.turned))
        (difference_zero (zero_factor {a = turn c a b} {b = p.y -ℤ b.y}
        (linear≡ (ρ p) ((c.y -ℤ b.y) ∗≡ on_ab ∔ (a.y -ℤ b.y) ∗≡ on_bc) (search quote depth 20) tt) low.turned))

  triangle_outer : (p : Point) → InTriangle c a b p → Outer p
  triangle_outer p t =
      either (le_or_lt a.y p.y)
      (λ k. inr (either (le_or_lt b.y p.y)
      (λ j. inr (only_highest p t j))
      (λ j. inl (record { from_low = k; below_high = j; from_left = right_of_first X c a b low p t; side = t.left_bc }))))
      (λ k. inl (record {
        from_low = above_lowest X c a b low p t;
        below_high = k;
        from_left = right_of_first X c a b low p t;
        side = t.left_ab;
      }))

  -- where ca is level it goes to the right
  level_right : c.y ≡ a.y → c.x <ᶻ a.x
  level_right e =
      linear< (coordinates (c ∷ a ∷ []))
      (gap< (positive_factor {a = b.y -ℤ c.y} {b = a.x -ℤ c.x}
      (linear< (ρ c) (gap< low.turned ⊞ (b.x -ℤ c.x) ⋆≡ e) (search quote depth 20) tt) (rise_cb X c a b low)))
      (search quote depth 20) tt

  outer_apart : (p : Point) → LeftOrOn X c a p → LeftOrOn X a b p ⊎ (p ≡ b) → ⊥
  outer_apart p h (inl k) = linear⊥ (ρ p) (gap< h.below_high ⊞ gap≤ k.from_low) (search quote depth 20) tt
  outer_apart p h (inr e) =
      linear⊥ (ρ p) (gap< h.below_high ⊞ gap< up ⊞ pos 1 ⋆≡ sym (ap (λ z. z.y) e)) (search quote depth 20) tt

  pub pick_highest_last : (g h k : ℤ) → EdgeSteps c a b g h k → PickTriangle c a b g h k
  pick_highest_last g h k steps =
      by_edges (twice_left_or_level X c a low.left_c low.left_a low.under_a level_right g steps.steps_ca)
      (twice_left_or_on X a b up low.left_a low.left_b h steps.steps_ab)
      (twice_left_of X c b low.under_b low.left_c low.left_b k (steps_back b c steps.steps_bc))
    where
      by_edges : Twice (LeftOrOn X c a) (strip X c a +ℤ g) → Twice (LeftOrOn X a b) (strip X a b +ℤ h)
          → Twice (LeftOf X c b) (strip X c b -ℤ k) → PickTriangle c a b g h k
      by_edges ca ab cb = (
        ca.0 +ℤ (ab.0 +ℤ pos 1) -ℤ cb.0,
        number_left (triangle? c a b) split left_outer triangle_outer
            (λ p h t. linear⊥ (ρ p) (gap< h.side ⊞ t.left_ca) (search quote depth 20) tt)
            (number_union outer_apart ca.1
            (number_union (λ p h e. linear⊥ (ρ p) (gap< h.below_high ⊞ pos 1 ⋆≡ sym (ap (λ z. z.y) e)) (search quote depth 20) tt)
            ab.1 (number_one b)))
            cb.1,
        linear≡ (X ∷ g ∷ h ∷ k ∷ ca.0 ∷ ab.0 ∷ cb.0 ∷ coordinates (c ∷ a ∷ b ∷ []))
            (pos 1 ∗≡ ca.2 ∔ pos 1 ∗≡ ab.2 ∔ negsuc 0 ∗≡ cb.2) (search quote depth 20 fits 4000) tt,
      )
