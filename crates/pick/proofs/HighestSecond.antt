-- Pick's theorem for a triangle with the lowest corner c first and the highest, a, second: what is left of ca, and a, is what is left of
-- cb and of ba and the triangle. Assumes nothing.
use mathlib.Core.Path.{◌≡◌, sym, ap, subst}
use mathlib.Core.Logic.{◌⊎◌, inl, inr}
use mathlib.Core.List.{List, [], ◌∷◌}
use lib.IntN.{ℤ, pos, negsuc, neg_ℤ, ◌+ℤ◌, ◌-ℤ◌}
use Rattle.whole.proofs.Whole.{ring, quote, ◌≤ᶻ◌, ◌<ᶻ◌, NonNegative, Positive, natural, gap≤, gap<, ◌⊞◌, ◌⊠◌, ◌⋆≡◌, ◌∗≡◌, ◌∔◌, linear≤, linear<, linear⊥, linear≡, le_or_lt, le_of_lt, le_of_equal, antisymmetric, nonnegative_factor, zero_factor, difference_zero}
use Rattle.lattice.specs.Point.{Point}
use Rattle.lattice.specs.Hull.{turn, InTriangle}
use Rattle.lattice.proofs.Turn.{coordinates}
use Rattle.lattice.proofs.Lists.{either}
use Rattle.lattice.proofs.HalfPlane.{point_equal}
use Rattle.lattice.proofs.Decide.{triangle?}
use Rattle.pick.proofs.Number.{Twice, number_one, number_union, number_left}
use Rattle.pick.proofs.Divisor.{steps_back}
use Rattle.pick.proofs.EdgeRows.{LeftOrOn, LeftOf, strip, twice_left_or_on, twice_left_of}
use Rattle.pick.proofs.LowTriangle.{Lowest, EdgeSteps, PickTriangle, rise_cb, right_of_first, above_lowest}

module _ (X : ℤ) (c a b : Point) (low : Lowest X c a b) (down : b.y <ᶻ a.y) where
  abbrev ρ : Point → List ℤ
  ρ p = X ∷ coordinates (c ∷ a ∷ b ∷ p ∷ [])

  turned : NonNegative (turn c a b)
  turned = le_of_lt low.turned

  rise_ba : Positive (a.y -ℤ b.y)
  rise_ba = linear< (coordinates (a ∷ b ∷ [])) (gap< down) (search quote depth 20) tt

  up : c.y <ᶻ a.y
  up = linear< (coordinates (c ∷ a ∷ b ∷ [])) (gap< down ⊞ gap< low.under_b ⊞ natural 1) (search quote depth 20) tt

  rise_ca : Positive (a.y -ℤ c.y)
  rise_ca = linear< (coordinates (c ∷ a ∷ [])) (gap< up) (search quote depth 20) tt

  abbrev Outer : Point → Type 0
  Outer p = LeftOrOn X c a p ⊎ (p ≡ a)

  abbrev Beyond : Point → Type 0
  Beyond p = LeftOf X c b p ⊎ LeftOf X b a p

  split_upper : (p : Point) → LeftOrOn X c a p → b.y ≤ᶻ p.y → Beyond p ⊎ InTriangle c a b p
  split_upper p h j =
      either (le_or_lt (pos 0) (turn a b p))
      (λ u. inr (record {
        turned = low.turned;
        left_ab = h.side;
        left_bc = u;
        left_ca = nonnegative_factor {a = a.y -ℤ b.y} {b = turn b c p}
            (linear≤ (ρ p) (turned ⊠ gap≤ j ⊞ u ⊠ le_of_lt (rise_cb X c a b low)) (search quote depth 20) tt) rise_ba;
      }))
      (λ u. inl (inr (record {
        from_low = j;
        below_high = h.below_high;
        from_left = h.from_left;
        side = linear< (ρ p) (gap< u) (search quote depth 20) tt;
      })))

  split_lower : (p : Point) → LeftOrOn X c a p → p.y <ᶻ b.y → Beyond p ⊎ InTriangle c a b p
  split_lower p h j =
      either (le_or_lt (pos 0) (turn b c p))
      (λ v. inr (record {
        turned = low.turned;
        left_ab = h.side;
        left_bc = nonnegative_factor {a = b.y -ℤ c.y} {b = turn a b p}
            (linear≤ (ρ p) (v ⊠ le_of_lt rise_ba ⊞ turned ⊠ (gap< j ⊞ natural 1)) (search quote depth 20) tt) (rise_cb X c a b low);
        left_ca = v;
      }))
      (λ v. inl (inl (record {
        from_low = h.from_low;
        below_high = j;
        from_left = h.from_left;
        side = linear< (ρ p) (gap< v) (search quote depth 20) tt;
      })))

  highest_corner : InTriangle c a b a
  highest_corner = record {
    turned = low.turned;
    left_ab = le_of_equal (ring (coordinates (c ∷ a ∷ [])) (search quote depth 20) tt);
    left_bc = le_of_equal (ring (coordinates (a ∷ b ∷ [])) (search quote depth 20) tt);
    left_ca = linear≤ (coordinates (c ∷ a ∷ b ∷ [])) turned (search quote depth 20) tt;
  }

  split : (p : Point) → Outer p → Beyond p ⊎ InTriangle c a b p
  split p (inl h) = either (le_or_lt b.y p.y) (split_upper p h) (split_lower p h)
  split p (inr e) = inr (subst (InTriangle c a b) (sym e) highest_corner)

  beyond_outer : (p : Point) → Beyond p → Outer p
  beyond_outer p (inl h) = inl (record {
    from_low = h.from_low;
    below_high = linear< (ρ p) (gap< h.below_high ⊞ gap< down ⊞ natural 1) (search quote depth 20) tt;
    from_left = h.from_left;
    side = nonnegative_factor {a = b.y -ℤ c.y} {b = turn c a p}
        (linear≤ (ρ p) (turned ⊠ gap≤ h.from_low ⊞ le_of_lt h.side ⊠ gap≤ low.under_a) (search quote depth 20) tt)
        (rise_cb X c a b low);
  })
  beyond_outer p (inr h) = inl (record {
    from_low = linear≤ (ρ p) (gap≤ h.from_low ⊞ le_of_lt (rise_cb X c a b low)) (search quote depth 20) tt;
    below_high = h.below_high;
    from_left = h.from_left;
    side = nonnegative_factor {a = a.y -ℤ b.y} {b = turn c a p}
        (linear≤ (ρ p) (turned ⊠ (gap< h.below_high ⊞ natural 1) ⊞ le_of_lt h.side ⊠ gap≤ low.under_a) (search quote depth 20) tt)
        rise_ba;
  })

  -- no point of the triangle but a is in the row of a
  module _ (p : Point) (t : InTriangle c a b p) (high : a.y ≤ᶻ p.y) where
    on_ab : turn a b p ≡ pos 0
    on_ab =
        antisymmetric
        (linear≤ (ρ p)
        (nonnegative_factor {a = a.y -ℤ c.y} {b = neg_ℤ (turn a b p)}
        (linear≤ (ρ p) (t.left_ab ⊠ le_of_lt rise_ba ⊞ turned ⊠ gap≤ high) (search quote depth 20) tt) rise_ca)
        (search quote depth 20) tt)
        t.left_bc

    on_ca : turn c a p ≡ pos 0
    on_ca =
        antisymmetric
        (linear≤ (ρ p)
        (nonnegative_factor {a = a.y -ℤ b.y} {b = neg_ℤ (turn c a p)}
        (linear≤ (ρ p) (t.left_bc ⊠ le_of_lt rise_ca ⊞ turned ⊠ gap≤ high) (search quote depth 20) tt) rise_ba)
        (search quote depth 20) tt)
        t.left_ab

    only_highest : p ≡ a
    only_highest =
        point_equal
        (difference_zero (zero_factor {a = turn c a b} {b = p.x -ℤ a.x}
        (linear≡ (ρ p) ((c.x -ℤ a.x) ∗≡ on_ab ∔ (b.x -ℤ a.x) ∗≡ on_ca) (search quote depth 20) tt) low.turned))
        (difference_zero (zero_factor {a = turn c a b} {b = p.y -ℤ a.y}
        (linear≡ (ρ p) ((c.y -ℤ a.y) ∗≡ on_ab ∔ (b.y -ℤ a.y) ∗≡ on_ca) (search quote depth 20) tt) low.turned))

  triangle_outer : (p : Point) → InTriangle c a b p → Outer p
  triangle_outer p t =
      either (le_or_lt a.y p.y)
      (λ k. inr (only_highest p t k))
      (λ k. inl (record {
        from_low = above_lowest X c a b low p t;
        below_high = k;
        from_left = right_of_first X c a b low p t;
        side = t.left_ab;
      }))

  beyond_apart : (p : Point) → Beyond p → InTriangle c a b p → ⊥
  beyond_apart p (inl h) t = linear⊥ (ρ p) (gap< h.side ⊞ t.left_ca) (search quote depth 20) tt
  beyond_apart p (inr h) t = linear⊥ (ρ p) (gap< h.side ⊞ t.left_bc) (search quote depth 20) tt

  pub pick_highest_second : (g h k : ℤ) → EdgeSteps c a b g h k → PickTriangle c a b g h k
  pick_highest_second g h k steps =
      by_edges (twice_left_or_on X c a up low.left_c low.left_a g steps.steps_ca)
      (twice_left_of X b a down low.left_b low.left_a h (steps_back a b steps.steps_ab))
      (twice_left_of X c b low.under_b low.left_c low.left_b k (steps_back b c steps.steps_bc))
    where
      by_edges : Twice (LeftOrOn X c a) (strip X c a +ℤ g) → Twice (LeftOf X b a) (strip X b a -ℤ h)
          → Twice (LeftOf X c b) (strip X c b -ℤ k) → PickTriangle c a b g h k
      by_edges ca ba cb = (
        ca.0 +ℤ pos 1 -ℤ (cb.0 +ℤ ba.0),
        number_left (triangle? c a b) split beyond_outer triangle_outer beyond_apart
            (number_union (λ p h e. linear⊥ (ρ p) (gap< h.below_high ⊞ pos 1 ⋆≡ sym (ap (λ z. z.y) e)) (search quote depth 20) tt)
            ca.1 (number_one a))
            (number_union (λ p h k. linear⊥ (ρ p) (gap< h.below_high ⊞ gap≤ k.from_low) (search quote depth 20) tt) cb.1 ba.1),
        linear≡ (X ∷ g ∷ h ∷ k ∷ ca.0 ∷ ba.0 ∷ cb.0 ∷ coordinates (c ∷ a ∷ b ∷ []))
            (pos 1 ∗≡ ca.2 ∔ negsuc 0 ∗≡ ba.2 ∔ negsuc 0 ∗≡ cb.2) (search quote depth 20 fits 4000) tt,
      )
