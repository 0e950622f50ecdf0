-- The lattice points beside an edge that goes up, without its last row, and the same without the edge. Assumes nothing.
use mathlib.Core.Path.{◌≡◌, refl, sym, ap, subst}
use mathlib.Core.Logic.{◌⊎◌, inl, inr}
use mathlib.Core.List.{[], ◌∷◌}
use lib.IntN.{ℤ, pos, negsuc, ◌+ℤ◌, ◌*ℤ◌, ◌-ℤ◌}
use Rattle.whole.proofs.Whole.{ring, quote, ◌≤ᶻ◌, ◌<ᶻ◌, NonNegative, Positive, natural, gap≤, gap<, ◌⊞◌, ◌⊠◌, ◌⋆≡◌, ◌∗≡◌, ◌∔◌, linear≤, linear⊥, linear≡, le_or_lt, le_of_lt, le_of_equal, antisymmetric, nonnegative_factor, zero_factor, difference_zero}
use Rattle.lattice.specs.Point.{Point}
use Rattle.lattice.specs.Hull.{turn}
use Rattle.lattice.proofs.Turn.{coordinates}
use Rattle.lattice.proofs.Lists.{either}
use Rattle.lattice.proofs.HalfPlane.{point_equal}
use Rattle.lattice.proofs.Decide.{lt?}
use Rattle.pick.specs.Solid.{Rectangle}
use Rattle.pick.proofs.Number.{Number, Twice, number_same, number_unique, number_one, number_union, number_part}
use Rattle.pick.proofs.Rectangle.{number_rectangle}
use Rattle.pick.proofs.Divisor.{Steps}
use Rattle.pick.proofs.Edge.{OnEdge, Beside, rise, right_of_first, number_on_edge, twice_beside}

-- in the rows of the edge but the last, from column X on, left of the edge or on it
pub record LeftOrOn (X : ℤ) (a b p : Point) : Type 0 where
  pub from_low : a.y ≤ᶻ p.y
  pub below_high : p.y <ᶻ b.y
  pub from_left : X ≤ᶻ p.x
  pub side : NonNegative (turn a b p)

-- the same, and not on the edge
pub record LeftOf (X : ℤ) (a b p : Point) : Type 0 where
  pub from_low : a.y ≤ᶻ p.y
  pub below_high : p.y <ᶻ b.y
  pub from_left : X ≤ᶻ p.x
  pub side : Positive (turn a b p)

-- what the two sets have in common, doubled
abbrev pub strip : ℤ → Point → Point → ℤ
strip X a b = (b.y -ℤ a.y) *ℤ (a.x +ℤ b.x -ℤ pos 2 *ℤ X +ℤ pos 1) -ℤ (b.x -ℤ a.x)

module _ (X : ℤ) (a b : Point) (up : a.y <ᶻ b.y) (left_a : X ≤ᶻ a.x) (left_b : X ≤ᶻ b.x) (g : ℤ) (steps : Steps a b g) where
  beside : Twice (Beside X a b) ((a.x +ℤ b.x -ℤ pos 2 *ℤ X +ℤ pos 1) *ℤ (b.y -ℤ a.y +ℤ pos 1) +ℤ g +ℤ pos 1)
  beside = twice_beside X a b up left_a left_b g steps

  rising : Positive (b.y -ℤ a.y)
  rising = rise X a b up left_a left_b

  -- ---- without the last row
  left_or_on : (n : ℤ) × Number (LeftOrOn X a b) n
  left_or_on =
      let r = number_part {D = λ p. p.y <ᶻ b.y} (λ p. lt? p.y b.y) beside.1 in (
        r.0,
        number_same
            (λ p h. record { from_low = h.0.from_low; below_high = h.1; from_left = h.0.from_left; side = h.0.side })
            (λ p h. (
              record { from_low = h.from_low; to_high = le_of_lt h.below_high; from_left = h.from_left; side = h.side },
              h.below_high,
            ))
            r.1,
      )

  abbrev LastRow : Point → Type 0
  LastRow = Rectangle X b.x b.y b.y

  number_last_row : Number LastRow ((b.x +ℤ pos 1 -ℤ X) *ℤ (b.y +ℤ pos 1 -ℤ b.y))
  number_last_row =
      number_rectangle X b.x b.y b.y (linear≤ (X ∷ b.x ∷ []) (gap≤ left_b ⊞ natural 1) (search quote depth 20) tt)
      (linear≤ (b.y ∷ []) (natural 1) (search quote depth 20) tt)

  lower_beside : (p : Point) → LeftOrOn X a b p → Beside X a b p
  lower_beside p k = record { from_low = k.from_low; to_high = le_of_lt k.below_high; from_left = k.from_left; side = k.side }

  last_beside : (p : Point) → LastRow p → Beside X a b p
  last_beside p k = record {
    from_low = linear≤ (a.y ∷ b.y ∷ p.y ∷ []) (gap≤ k.from_low ⊞ gap< up ⊞ natural 1) (search quote depth 20) tt;
    to_high = k.to_high;
    from_left = k.from_left;
    side = linear≤ (coordinates (a ∷ b ∷ p ∷ []))
        (le_of_lt rising ⊠ gap≤ k.to_right ⊞ (b.x -ℤ a.x) ⋆≡ antisymmetric k.from_low k.to_high) (search quote depth 20) tt;
  }

  lower_or_last : (p : Point) → Beside X a b p → LeftOrOn X a b p ⊎ LastRow p
  lower_or_last p h =
      either (le_or_lt b.y p.y)
      (λ k. inr (record {
        from_left = h.from_left;
        to_right = linear≤ (p.x ∷ b.x ∷ [])
            (nonnegative_factor {a = b.y -ℤ a.y} {b = b.x -ℤ p.x}
            (linear≤ (coordinates (a ∷ b ∷ p ∷ [])) (h.side ⊞ (a.x -ℤ b.x) ⋆≡ antisymmetric k h.to_high) (search quote depth 20) tt) rising)
            (search quote depth 20) tt;
        from_low = k;
        to_high = h.to_high;
      }))
      (λ k. inl (record { from_low = h.from_low; below_high = k; from_left = h.from_left; side = h.side }))

  with_last_row : beside.0 ≡ left_or_on.0 +ℤ (b.x +ℤ pos 1 -ℤ X) *ℤ (b.y +ℤ pos 1 -ℤ b.y)
  with_last_row =
      number_unique beside.1
      (number_same (λ p h. either h (lower_beside p) (last_beside p)) lower_or_last
      (number_union (λ p h k. linear⊥ (p.y ∷ b.y ∷ []) (gap< h.below_high ⊞ gap≤ k.from_low) (search quote depth 20) tt)
      left_or_on.1 number_last_row))

  doubled : pos 2 *ℤ left_or_on.0 ≡ strip X a b +ℤ g
  doubled =
      linear≡ (X ∷ g ∷ beside.0 ∷ left_or_on.0 ∷ coordinates (a ∷ b ∷ [])) (pos 1 ∗≡ beside.2 ∔ negsuc 1 ∗≡ with_last_row)
      (search quote depth 20) tt

  pub twice_left_or_on : Twice (LeftOrOn X a b) (strip X a b +ℤ g)
  twice_left_or_on = (left_or_on.0, left_or_on.1, doubled)

  -- ---- and without the edge
  left_of : (n : ℤ) × Number (LeftOf X a b) n
  left_of =
      let r = number_part {D = λ p. Positive (turn a b p)} (λ p. lt? (pos 0) (turn a b p)) left_or_on.1 in (
        r.0,
        number_same
            (λ p h. record { from_low = h.0.from_low; below_high = h.0.below_high; from_left = h.0.from_left; side = h.1 })
            (λ p h. (
              record { from_low = h.from_low; below_high = h.below_high; from_left = h.from_left; side = le_of_lt h.side },
              h.side,
            ))
            r.1,
      )

  on_edge : Number (OnEdge a b) (g +ℤ pos 1)
  on_edge = number_on_edge X a b up left_a left_b g steps

  on_lower : (n : ℤ) × Number (λ p. OnEdge a b p × (p.y <ᶻ b.y)) n
  on_lower = number_part {D = λ p. p.y <ᶻ b.y} (λ p. lt? p.y b.y) on_edge

  end_on_edge : (p : Point) → p ≡ b → OnEdge a b p
  end_on_edge p e =
      subst (OnEdge a b) (sym e) (record {
        straight = ring (coordinates (a ∷ b ∷ [])) (search quote depth 20) tt;
        from_low = le_of_lt up;
        to_high = le_of_equal refl;
      })

  on_last : (p : Point) → OnEdge a b p → b.y ≤ᶻ p.y → p ≡ b
  on_last p h k =
      point_equal
      (sym (difference_zero (zero_factor {a = b.y -ℤ a.y} {b = b.x -ℤ p.x}
      (linear≡ (coordinates (a ∷ b ∷ p ∷ [])) (pos 1 ∗≡ h.straight ∔ (b.x -ℤ a.x) ∗≡ antisymmetric k h.to_high) (search quote depth 20) tt)
      rising)))
      (antisymmetric h.to_high k)

  with_end : g +ℤ pos 1 ≡ on_lower.0 +ℤ pos 1
  with_end =
      number_unique on_edge
      (number_same (λ p h. either h (λ k. k.0) (end_on_edge p))
      (λ p h. either (le_or_lt b.y p.y) (λ k. inr (on_last p h k)) (λ k. inl (h, k)))
      (number_union (λ p h e. linear⊥ (p.y ∷ b.y ∷ []) (gap< h.1 ⊞ pos 1 ⋆≡ sym (ap (λ z. z.y) e)) (search quote depth 20) tt)
      on_lower.1 (number_one b)))

  with_edge : left_or_on.0 ≡ left_of.0 +ℤ on_lower.0
  with_edge =
      number_unique left_or_on.1
      (number_same
      (λ p h. either h
      (λ k. record { from_low = k.from_low; below_high = k.below_high; from_left = k.from_left; side = le_of_lt k.side })
      (λ k. record {
        from_low = k.0.from_low;
        below_high = k.1;
        from_left = right_of_first X a b up left_a left_b p k.0.from_low k.0.to_high (le_of_equal k.0.straight);
        side = le_of_equal (sym k.0.straight);
      }))
      (λ p h. either (le_or_lt (turn a b p) (pos 0))
      (λ k. inr (record { straight = antisymmetric k h.side; from_low = h.from_low; to_high = le_of_lt h.below_high }, h.below_high))
      (λ k. inl (record { from_low = h.from_low; below_high = h.below_high; from_left = h.from_left; side = k })))
      (number_union (λ p h k. linear⊥ (turn a b p ∷ []) (gap< h.side ⊞ pos 1 ⋆≡ k.0.straight) (search quote depth 20) tt)
      left_of.1 on_lower.1))

  pub twice_left_of : Twice (LeftOf X a b) (strip X a b -ℤ g)
  twice_left_of = (
    left_of.0,
    left_of.1,
    linear≡ (X ∷ g ∷ left_or_on.0 ∷ left_of.0 ∷ on_lower.0 ∷ coordinates (a ∷ b ∷ []))
        (pos 1 ∗≡ doubled ∔ negsuc 1 ∗≡ with_edge ∔ pos 2 ∗≡ with_end) (search quote depth 20) tt,
  )
