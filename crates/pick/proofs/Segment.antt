-- A segment between two lattice points holds one lattice point more than the steps it falls into; it is the hull of its ends.
-- Assumes nothing.
use mathlib.Core.Path.{◌≡◌, refl, sym, ◌∙◌, ap, subst}
use mathlib.Core.Logic.{◌⊎◌, inl, inr}
use mathlib.Core.List.{[], ◌∷◌}
use Prim.Native.Nat.{ℕ, zero, suc}
use lib.IntN.{ℤ, pos, negsuc, neg_ℤ, ◌+ℤ◌, ◌*ℤ◌, ◌-ℤ◌}
use Rattle.whole.proofs.Whole.{ring, quote, ◌<ᶻ◌, NonNegative, Positive, natural, square_nonnegative, gap<, ◌⊞◌, ◌⊠◌, ◌⋆≡◌, ◌∗≡◌, ◌∔◌, linear≤, linear<, linear⊥, linear≡, le_or_lt, le_of_lt, antisymmetric, nonnegative_factor, positive_factor, zero_factor, difference_zero}
use Rattle.lattice.specs.Point.{Point, In}
use Rattle.lattice.specs.Hull.{turn, OnSegment, InHull, segment, Of}
use Rattle.lattice.proofs.Turn.{coordinates, start_on_edge, end_on_edge}
use Rattle.lattice.proofs.Lists.{either}
use Rattle.lattice.proofs.HalfPlane.{point_equal, product_between, half_plane, edge_half_plane}
use Rattle.pick.proofs.Number.{Number, number_same, number_none, number_one, number_union}
use Rattle.pick.proofs.Rectangle.{one_more}
use Rattle.pick.proofs.Divisor.{Steps}

-- the way from a to b by the functional α x + β y
abbrev pub ahead : ℤ → ℤ → Point → Point → ℤ
ahead α β a b = α *ℤ (b.x -ℤ a.x) +ℤ β *ℤ (b.y -ℤ a.y)

-- q is on the line through a and b, and between them by the functional
pub record Along (α β : ℤ) (a b q : Point) : Type 0 where
  pub straight : turn a b q ≡ pos 0
  pub from : NonNegative (ahead α β a q)
  pub to : NonNegative (ahead α β q b)

-- ---- steps by (n, m), where u n + v m = 1
module _ (n m u v : ℤ) (one : u *ℤ n +ℤ v *ℤ m ≡ pos 1) where
  abbrev next : Point → Point
  next a = record { x = a.x +ℤ n; y = a.y +ℤ m }

  -- q is on the line of the steps from a, before step k
  record Within (a : Point) (k : ℤ) (q : Point) : Type 0 where
    line : n *ℤ (q.y -ℤ a.y) ≡ m *ℤ (q.x -ℤ a.x)
    low : NonNegative (ahead u v a q)
    high : ahead u v a q <ᶻ k

  -- a point of the line is at the step that the functional tells
  step_x : (a q : Point) → n *ℤ (q.y -ℤ a.y) ≡ m *ℤ (q.x -ℤ a.x) → q.x -ℤ a.x ≡ n *ℤ ahead u v a q
  step_x a q e =
      linear≡ (n ∷ m ∷ u ∷ v ∷ coordinates (a ∷ q ∷ [])) (neg_ℤ v ∗≡ e ∔ (a.x -ℤ q.x) ∗≡ one) (search quote depth 20) tt

  step_y : (a q : Point) → n *ℤ (q.y -ℤ a.y) ≡ m *ℤ (q.x -ℤ a.x) → q.y -ℤ a.y ≡ m *ℤ ahead u v a q
  step_y a q e =
      linear≡ (n ∷ m ∷ u ∷ v ∷ coordinates (a ∷ q ∷ [])) (u ∗≡ e ∔ (a.y -ℤ q.y) ∗≡ one) (search quote depth 20) tt

  step_zero : (a q : Point) → n *ℤ (q.y -ℤ a.y) ≡ m *ℤ (q.x -ℤ a.x) → ahead u v a q ≡ pos 0 → q ≡ a
  step_zero a q e z =
      point_equal
      (difference_zero (step_x a q e ∙ ap (λ t. n *ℤ t) z ∙ ring (n ∷ []) (search quote depth 20) tt))
      (difference_zero (step_y a q e ∙ ap (λ t. m *ℤ t) z ∙ ring (m ∷ []) (search quote depth 20) tt))

  -- the first of k + 1 steps is a, the others follow from the next
  first_step : (a : Point) (k : ℤ) → NonNegative k → Within a (pos 1 +ℤ k) a
  first_step a k h = record {
    line = ring (n ∷ m ∷ coordinates (a ∷ [])) (search quote depth 20) tt;
    low = linear≤ (u ∷ v ∷ coordinates (a ∷ [])) (natural 0) (search quote depth 20) tt;
    high = linear< (u ∷ v ∷ k ∷ coordinates (a ∷ [])) h (search quote depth 20) tt;
  }

  later_step : (a : Point) (k : ℤ) (q : Point) → Within (next a) k q → Within a (pos 1 +ℤ k) q
  later_step a k q s = record {
    line = linear≡ (n ∷ m ∷ coordinates (a ∷ q ∷ [])) (pos 1 ∗≡ s.line) (search quote depth 20) tt;
    low = linear≤ (n ∷ m ∷ u ∷ v ∷ coordinates (a ∷ q ∷ [])) (s.low ⊞ negsuc 0 ⋆≡ one) (search quote depth 20) tt;
    high = linear< (n ∷ m ∷ u ∷ v ∷ k ∷ coordinates (a ∷ q ∷ [])) (gap< s.high ⊞ pos 1 ⋆≡ one) (search quote depth 20) tt;
  }

  by_step : (a : Point) (k : ℤ) (q : Point) → Within a (pos 1 +ℤ k) q → (q ≡ a) ⊎ Within (next a) k q
  by_step a k q s =
      either (le_or_lt (ahead u v a q) (pos 0))
      (λ h. inl (step_zero a q s.line (antisymmetric h s.low)))
      (λ h. inr (record {
        line = linear≡ (n ∷ m ∷ coordinates (a ∷ q ∷ [])) (pos 1 ∗≡ s.line) (search quote depth 20) tt;
        low = linear≤ (n ∷ m ∷ u ∷ v ∷ coordinates (a ∷ q ∷ [])) (gap< h ⊞ pos 1 ⋆≡ one) (search quote depth 20) tt;
        high = linear< (n ∷ m ∷ u ∷ v ∷ k ∷ coordinates (a ∷ q ∷ [])) (gap< s.high ⊞ negsuc 0 ⋆≡ one) (search quote depth 20) tt;
      }))

  not_later : (a : Point) (k : ℤ) (q : Point) → q ≡ a → Within (next a) k q → ⊥
  not_later a k q e s =
      linear⊥ (n ∷ m ∷ u ∷ v ∷ coordinates (a ∷ [])) (subst (λ z. NonNegative (ahead u v (next a) z)) e s.low ⊞ negsuc 0 ⋆≡ one)
      (search quote depth 20) tt

  number_within : (k : ℕ) (a : Point) → Number (Within a (pos k)) (pos k)
  number_within zero a = number_none (λ q s. linear⊥ (ahead u v a q ∷ []) (gap< s.high ⊞ s.low) (search quote depth 20) tt)
  number_within (suc k) a =
      subst (λ z. Number (Within a z) z) (sym (one_more k))
      (number_same
      (λ q h. either h (λ e. subst (Within a (pos 1 +ℤ pos k)) (sym e) (first_step a (pos k) (natural k))) (later_step a (pos k) q))
      (by_step a (pos k))
      (number_union (not_later a (pos k)) (number_one a) (number_within k (next a))))

  number_within_signed : (k : ℤ) (a : Point) → NonNegative k → Number (Within a k) k
  number_within_signed (pos k) a h = number_within k a
  number_within_signed (negsuc k) a h = absurd h.le

-- ---- a segment along which the functional rises
module _ (α β : ℤ) (a b : Point) (g : ℤ) (steps : Steps a b g) (rises : Positive (ahead α β a b)) where
  open steps use {part_x, part_y, times_x, times_y, nonnegative, whole_x, whole_y, one}

  abbrev OnSteps : Point → Type 0
  OnSteps = Within part_x part_y times_x times_y one a (g +ℤ pos 1)

  abbrev place : Point → ℤ
  place q = ahead times_x times_y a q

  product_rises : Positive (g *ℤ (α *ℤ part_x +ℤ β *ℤ part_y))
  product_rises =
      linear< (α ∷ β ∷ part_x ∷ part_y ∷ g ∷ coordinates (a ∷ b ∷ [])) (gap< rises ⊞ α ⋆≡ whole_x ⊞ β ⋆≡ whole_y)
      (search quote depth 20) tt

  some_step : Positive g
  some_step =
      either (le_or_lt g (pos 0))
      (λ k. linear⊥ (g ∷ α ∷ β ∷ part_x ∷ part_y ∷ []) (gap< product_rises ⊞ (α *ℤ part_x +ℤ β *ℤ part_y) ⋆≡ antisymmetric k nonnegative)
      (search quote depth 20) tt)
      (λ k. k)

  step_rises : Positive (α *ℤ part_x +ℤ β *ℤ part_y)
  step_rises = positive_factor product_rises some_step

  steps_along : (q : Point) → OnSteps q → Along α β a b q
  steps_along q s = record {
    straight = linear≡ (part_x ∷ part_y ∷ g ∷ coordinates (a ∷ b ∷ q ∷ []))
        (g ∗≡ s.line ∔ (q.y -ℤ a.y) ∗≡ whole_x ∔ (a.x -ℤ q.x) ∗≡ whole_y) (search quote depth 20) tt;
    from = linear≤ (α ∷ β ∷ part_x ∷ part_y ∷ times_x ∷ times_y ∷ coordinates (a ∷ q ∷ []))
        (s.low ⊠ le_of_lt step_rises ⊞ α ⋆≡ sym (x_at q s) ⊞ β ⋆≡ sym (y_at q s)) (search quote depth 20) tt;
    to = linear≤ (α ∷ β ∷ part_x ∷ part_y ∷ times_x ∷ times_y ∷ g ∷ coordinates (a ∷ b ∷ q ∷ []))
        (gap< s.high ⊠ le_of_lt step_rises ⊞ α ⋆≡ x_at q s ⊞ β ⋆≡ y_at q s ⊞ α ⋆≡ sym whole_x ⊞ β ⋆≡ sym whole_y)
        (search quote depth 20 fits 2000) tt;
  }
    where
      x_at : (q : Point) → OnSteps q → q.x -ℤ a.x ≡ part_x *ℤ place q
      x_at q s = step_x part_x part_y times_x times_y one a q s.line

      y_at : (q : Point) → OnSteps q → q.y -ℤ a.y ≡ part_y *ℤ place q
      y_at q s = step_y part_x part_y times_x times_y one a q s.line

  module _ (q : Point) (s : Along α β a b q) where
    line_of_steps : part_x *ℤ (q.y -ℤ a.y) ≡ part_y *ℤ (q.x -ℤ a.x)
    line_of_steps =
        difference_zero
        (zero_factor {a = g} {b = part_x *ℤ (q.y -ℤ a.y) -ℤ part_y *ℤ (q.x -ℤ a.x)}
        (linear≡ (part_x ∷ part_y ∷ g ∷ coordinates (a ∷ b ∷ q ∷ []))
        (pos 1 ∗≡ s.straight ∔ (a.y -ℤ q.y) ∗≡ whole_x ∔ (q.x -ℤ a.x) ∗≡ whole_y) (search quote depth 20) tt)
        some_step)

    x_here : q.x -ℤ a.x ≡ part_x *ℤ place q
    x_here = step_x part_x part_y times_x times_y one a q line_of_steps

    y_here : q.y -ℤ a.y ≡ part_y *ℤ place q
    y_here = step_y part_x part_y times_x times_y one a q line_of_steps

    place_from : NonNegative (place q)
    place_from =
        nonnegative_factor {a = α *ℤ part_x +ℤ β *ℤ part_y}
        (linear≤ (α ∷ β ∷ part_x ∷ part_y ∷ times_x ∷ times_y ∷ coordinates (a ∷ q ∷ []))
        (s.from ⊞ α ⋆≡ x_here ⊞ β ⋆≡ y_here) (search quote depth 20) tt)
        step_rises

    place_to : NonNegative (g -ℤ place q)
    place_to =
        nonnegative_factor {a = α *ℤ part_x +ℤ β *ℤ part_y}
        (linear≤ (α ∷ β ∷ part_x ∷ part_y ∷ times_x ∷ times_y ∷ g ∷ coordinates (a ∷ b ∷ q ∷ []))
        (s.to ⊞ α ⋆≡ sym x_here ⊞ β ⋆≡ sym y_here ⊞ α ⋆≡ whole_x ⊞ β ⋆≡ whole_y) (search quote depth 20 fits 2000) tt)
        step_rises

    along_steps : OnSteps q
    along_steps = record {
      line = line_of_steps;
      low = place_from;
      high = linear< (place q ∷ g ∷ []) place_to (search quote depth 20) tt;
    }

    along_segment : OnSegment a b q
    along_segment = record {
      straight = s.straight;
      x_between = product_between a.x b.x q.x (between a.x b.x q.x part_x x_here whole_x);
      y_between = product_between a.y b.y q.y (between a.y b.y q.y part_y y_here whole_y);
    }
      where
        between : (u v w part : ℤ) → w -ℤ u ≡ part *ℤ place q → v -ℤ u ≡ g *ℤ part → NonNegative ((w -ℤ u) *ℤ (v -ℤ w))
        between u v w part here whole =
            linear≤ (u ∷ v ∷ w ∷ part ∷ place q ∷ g ∷ [])
            (square_nonnegative part ⊠ place_from ⊠ place_to ⊞ (w -ℤ u) ⋆≡ sym whole ⊞ (g *ℤ part -ℤ (w -ℤ u) -ℤ part *ℤ place q) ⋆≡ sym here)
            (search quote depth 20) tt

  pub number_along : Number (Along α β a b) (g +ℤ pos 1)
  number_along =
      number_same steps_along along_steps
      (number_within_signed part_x part_y times_x times_y one (g +ℤ pos 1) a
      (linear≤ (g ∷ []) (nonnegative ⊞ natural 1) (search quote depth 20) tt))

  -- ---- it is the hull of its ends
  hull_along : (q : Point) → InHull (Of (a ∷ b ∷ [])) q → Along α β a b q
  hull_along q h = record {
    straight = antisymmetric
        (linear≤ (coordinates (a ∷ b ∷ q ∷ [])) (edge_half_plane b a (ends (λ z. NonNegative (turn b a z)) (end_on_edge b a) (start_on_edge b a)) h)
        (search quote depth 20) tt)
        (edge_half_plane a b (ends (λ z. NonNegative (turn a b z)) (start_on_edge a b) (end_on_edge a b)) h);
    from = half_plane (λ z. ahead α β a z) α β (neg_ℤ (α *ℤ a.x +ℤ β *ℤ a.y))
        (λ z. ring (α ∷ β ∷ coordinates (a ∷ z ∷ [])) (search quote depth 20) tt)
        (ends (λ z. NonNegative (ahead α β a z)) (linear≤ (α ∷ β ∷ coordinates (a ∷ [])) (natural 0) (search quote depth 20) tt) (le_of_lt rises)) h;
    to = half_plane (λ z. ahead α β z b) (neg_ℤ α) (neg_ℤ β) (α *ℤ b.x +ℤ β *ℤ b.y)
        (λ z. ring (α ∷ β ∷ coordinates (b ∷ z ∷ [])) (search quote depth 20) tt)
        (ends (λ z. NonNegative (ahead α β z b)) (le_of_lt rises) (linear≤ (α ∷ β ∷ coordinates (b ∷ [])) (natural 0) (search quote depth 20) tt)) h;
  }
    where
      ends : (P : Point → Type 0) → P a → P b → (z : Point) → In z (a ∷ b ∷ []) → P z
      ends P pa pb z (inl e) = subst P (sym e) pa
      ends P pa pb z (inr (inl e)) = subst P (sym e) pb
      ends P pa pb z (inr (inr k)) = elim k [ ]

  pub along_hull : (q : Point) → Along α β a b q → InHull (Of (a ∷ b ∷ [])) q
  along_hull q s = segment a b (inl refl) (inr (inl refl)) (along_segment q s)

  pub number_two : Number (InHull (Of (a ∷ b ∷ []))) (g +ℤ pos 1)
  number_two = number_same along_hull hull_along number_along
