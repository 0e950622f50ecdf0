-- The lattice points left of an edge that goes up, or on it, in its rows and from a column on: a half-turn about the middle of the edge maps
-- a rectangle about it to itself and swaps the two sides, so twice their number is the rectangle and the edge. Assumes nothing.
use mathlib.Core.Path.{◌≡◌, sym, subst}
use mathlib.Core.Logic.{inl, inr}
use mathlib.Core.List.{[], ◌∷◌}
use lib.IntN.{ℤ, pos, negsuc, neg_ℤ, ◌+ℤ◌, ◌*ℤ◌, ◌-ℤ◌}
use Rattle.whole.proofs.Whole.{ring, quote, ◌≤ᶻ◌, ◌<ᶻ◌, NonNegative, Positive, natural, gap≤, gap<, ◌⊞◌, ◌⊠◌, ◌⋆≡◌, ◌∗≡◌, ◌∔◌, linear≤, linear<, linear⊥, linear≡, le_or_lt, antisymmetric, le_of_equal, nonnegative_factor}
use Rattle.lattice.specs.Point.{Point}
use Rattle.lattice.specs.Hull.{turn}
use Rattle.lattice.proofs.Turn.{coordinates}
use Rattle.lattice.proofs.Lists.{either}
use Rattle.lattice.proofs.HalfPlane.{point_equal}
use Rattle.lattice.proofs.Decide.{le?, lt?}
use Rattle.pick.specs.Solid.{Rectangle}
use Rattle.pick.proofs.Number.{Number, Twice, number_same, number_unique, number_union, number_part, number_image}
use Rattle.pick.proofs.Rectangle.{number_rectangle}
use Rattle.pick.proofs.Divisor.{Steps}
use Rattle.pick.proofs.Segment.{number_along}

-- on the edge
pub record OnEdge (a b p : Point) : Type 0 where
  pub straight : turn a b p ≡ pos 0
  pub from_low : a.y ≤ᶻ p.y
  pub to_high : p.y ≤ᶻ b.y

-- in the rows of the edge, from column X on, left of the edge or on it
pub record Beside (X : ℤ) (a b p : Point) : Type 0 where
  pub from_low : a.y ≤ᶻ p.y
  pub to_high : p.y ≤ᶻ b.y
  pub from_left : X ≤ᶻ p.x
  pub side : NonNegative (turn a b p)

module _ (X : ℤ) (a b : Point) (up : a.y <ᶻ b.y) (left_a : X ≤ᶻ a.x) (left_b : X ≤ᶻ b.x) where
  pub rise : Positive (b.y -ℤ a.y)
  rise = linear< (a.y ∷ b.y ∷ []) (gap< up) (search quote depth 20) tt

  -- the last column that the edge can reach, if its middle is in the middle
  abbrev last : ℤ
  last = a.x +ℤ b.x -ℤ X

  -- what is on the edge or right of it is right of X; what is on it or left of it is left of the last column
  pub right_of_first : (p : Point) → a.y ≤ᶻ p.y → p.y ≤ᶻ b.y → turn a b p ≤ᶻ pos 0 → X ≤ᶻ p.x
  right_of_first p low high t =
      linear≤ (X ∷ p.x ∷ [])
      (nonnegative_factor {a = b.y -ℤ a.y} {b = p.x -ℤ X}
      (linear≤ (X ∷ coordinates (a ∷ b ∷ p ∷ [])) (gap≤ left_b ⊠ gap≤ low ⊞ gap≤ left_a ⊠ gap≤ high ⊞ gap≤ t) (search quote depth 20) tt) rise)
      (search quote depth 20) tt

  left_of_last : (p : Point) → a.y ≤ᶻ p.y → p.y ≤ᶻ b.y → NonNegative (turn a b p) → p.x ≤ᶻ last
  left_of_last p low high t =
      linear≤ (X ∷ a.x ∷ b.x ∷ p.x ∷ [])
      (nonnegative_factor {a = b.y -ℤ a.y} {b = last -ℤ p.x}
      (linear≤ (X ∷ coordinates (a ∷ b ∷ p ∷ [])) (gap≤ left_a ⊠ gap≤ low ⊞ gap≤ left_b ⊠ gap≤ high ⊞ t) (search quote depth 20) tt) rise)
      (search quote depth 20) tt

  -- ---- the half-turn about the middle of the edge
  abbrev opposite : Point → Point
  opposite p = record { x = a.x +ℤ b.x -ℤ p.x; y = a.y +ℤ b.y -ℤ p.y }

  opposite_back : (p : Point) → opposite (opposite p) ≡ p
  opposite_back p =
      point_equal (ring (coordinates (a ∷ b ∷ p ∷ [])) (search quote depth 20) tt) (ring (coordinates (a ∷ b ∷ p ∷ [])) (search quote depth 20) tt)

  opposite_turn : (p : Point) → turn a b (opposite p) ≡ neg_ℤ (turn a b p)
  opposite_turn p = ring (coordinates (a ∷ b ∷ p ∷ [])) (search quote depth 20) tt

  -- ---- the rectangle about the edge
  abbrev About : Point → Type 0
  About = Rectangle X last a.y b.y

  opposite_about : (p : Point) → About (opposite p) → About p
  opposite_about p r = record {
    from_left = linear≤ (X ∷ coordinates (a ∷ b ∷ p ∷ [])) (gap≤ r.to_right) (search quote depth 20) tt;
    to_right = linear≤ (X ∷ coordinates (a ∷ b ∷ p ∷ [])) (gap≤ r.from_left) (search quote depth 20) tt;
    from_low = linear≤ (coordinates (a ∷ b ∷ p ∷ [])) (gap≤ r.to_high) (search quote depth 20) tt;
    to_high = linear≤ (coordinates (a ∷ b ∷ p ∷ [])) (gap≤ r.from_low) (search quote depth 20) tt;
  }

  about_opposite : (p : Point) → About p → About (opposite p)
  about_opposite p r = opposite_about (opposite p) (subst About (sym (opposite_back p)) r)

  edge_about : (p : Point) → OnEdge a b p → About p
  edge_about p k = record {
    from_left = right_of_first p k.from_low k.to_high (le_of_equal k.straight);
    to_right = left_of_last p k.from_low k.to_high (le_of_equal (sym k.straight));
    from_low = k.from_low;
    to_high = k.to_high;
  }

  abbrev whole : ℤ
  whole = (last +ℤ pos 1 -ℤ X) *ℤ (b.y +ℤ pos 1 -ℤ a.y)

  number_about : Number About whole
  number_about =
      number_rectangle X last a.y b.y
      (linear≤ (X ∷ a.x ∷ b.x ∷ []) (gap≤ left_a ⊞ gap≤ left_b ⊞ natural 1) (search quote depth 20) tt)
      (linear≤ (a.y ∷ b.y ∷ []) (gap< up ⊞ natural 2) (search quote depth 20) tt)

  -- ---- its two parts
  left_part : (n : ℤ) × Number (λ p. About p × NonNegative (turn a b p)) n
  left_part = number_part {D = λ p. NonNegative (turn a b p)} (λ p. le? (pos 0) (turn a b p)) number_about

  right_part : (n : ℤ) × Number (λ p. About p × (turn a b p <ᶻ pos 0)) n
  right_part = number_part {D = λ p. turn a b p <ᶻ pos 0} (λ p. lt? (turn a b p) (pos 0)) number_about

  both_parts : whole ≡ left_part.0 +ℤ right_part.0
  both_parts =
      number_unique number_about
      (number_same (λ p h. either h (λ k. k.0) (λ k. k.0))
      (λ p h. either (le_or_lt (pos 0) (turn a b p)) (λ k. inl (h, k)) (λ k. inr (h, k)))
      (number_union (λ p h k. linear⊥ (turn a b p ∷ []) (h.1 ⊞ gap< k.1) (search quote depth 20) tt) left_part.1 right_part.1))

  number_beside : Number (Beside X a b) left_part.0
  number_beside =
      number_same
      (λ p h. record { from_low = h.0.from_low; to_high = h.0.to_high; from_left = h.0.from_left; side = h.1 })
      (λ p h. (
        record { from_left = h.from_left; to_right = left_of_last p h.from_low h.to_high h.side; from_low = h.from_low; to_high = h.to_high },
        h.side,
      ))
      left_part.1

  -- ---- the sides are swapped
  module _ (g : ℤ) (steps : Steps a b g) where
    pub number_on_edge : Number (OnEdge a b) (g +ℤ pos 1)
    number_on_edge =
        number_same
        (λ p s. record {
          straight = s.straight;
          from_low = linear≤ (coordinates (a ∷ p ∷ [])) s.from (search quote depth 20) tt;
          to_high = linear≤ (coordinates (b ∷ p ∷ [])) s.to (search quote depth 20) tt;
        })
        (λ p s. record {
          straight = s.straight;
          from = linear≤ (coordinates (a ∷ p ∷ [])) (gap≤ s.from_low) (search quote depth 20) tt;
          to = linear≤ (coordinates (b ∷ p ∷ [])) (gap≤ s.to_high) (search quote depth 20) tt;
        })
        (number_along (pos 0) (pos 1) a b g steps (linear< (coordinates (a ∷ b ∷ [])) (gap< up) (search quote depth 20) tt))

    swapped : left_part.0 ≡ right_part.0 +ℤ (g +ℤ pos 1)
    swapped =
        number_unique (number_image opposite opposite_back left_part.1)
        (number_same (λ p h. either h (λ k. (about_opposite p k.0, from_right p k.1)) (λ k. (about_opposite p (edge_about p k), from_edge p k.straight)))
        (λ p h. either (le_or_lt (pos 0) (turn a b p))
        (λ k. inr (record {
          straight = antisymmetric (to_right p h.1) k;
          from_low = (opposite_about p h.0).from_low;
          to_high = (opposite_about p h.0).to_high;
        }))
        (λ k. inl (opposite_about p h.0, k)))
        (number_union (λ p h k. linear⊥ (turn a b p ∷ []) (gap< h.1 ⊞ pos 1 ⋆≡ sym k.straight) (search quote depth 20) tt)
        right_part.1 number_on_edge))
      where
        from_right : (p : Point) → turn a b p <ᶻ pos 0 → NonNegative (turn a b (opposite p))
        from_right p k = subst NonNegative (sym (opposite_turn p)) (linear≤ (turn a b p ∷ []) (gap< k ⊞ natural 1) (search quote depth 20) tt)

        from_edge : (p : Point) → turn a b p ≡ pos 0 → NonNegative (turn a b (opposite p))
        from_edge p e = subst NonNegative (sym (opposite_turn p)) (linear≤ (turn a b p ∷ []) (pos 1 ⋆≡ e) (search quote depth 20) tt)

        to_right : (p : Point) → NonNegative (turn a b (opposite p)) → turn a b p ≤ᶻ pos 0
        to_right p h = linear≤ (turn a b p ∷ []) (subst NonNegative (opposite_turn p) h) (search quote depth 20) tt

    pub twice_beside : Twice (Beside X a b) ((a.x +ℤ b.x -ℤ pos 2 *ℤ X +ℤ pos 1) *ℤ (b.y -ℤ a.y +ℤ pos 1) +ℤ g +ℤ pos 1)
    twice_beside = (
      left_part.0,
      number_beside,
      linear≡ (X ∷ g ∷ left_part.0 ∷ right_part.0 ∷ coordinates (a ∷ b ∷ [])) (pos 1 ∗≡ swapped ∔ negsuc 0 ∗≡ both_parts)
          (search quote depth 20) tt,
    )
