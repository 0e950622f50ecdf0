-- The least and the greatest value of a coordinate: there is one on every list that is not empty, and lists with the same hull have the same.
-- Assumes nothing.
use mathlib.Core.Path.{◌≡◌, refl, ap, subst}
use mathlib.Core.Logic.{inl, inr, ◌↔◌}
use mathlib.Core.List.{List, [], ◌∷◌}
use lib.IntN.{ℤ, pos, negsuc, neg_ℤ, ◌-ℤ◌}
use Rattle.whole.proofs.Whole.{ring, quote, ◌≤ᶻ◌, gap≤, ◌∗≡◌, linear≤, linear≡, le_or_lt, le_of_lt, le_of_equal, le_transitive, le_negated, antisymmetric}
use Rattle.lattice.specs.Point.{Point, In}
use Rattle.lattice.specs.Hull.{InHull, member, Of}
use Rattle.lattice.proofs.Turn.{coordinates, linear}
use Rattle.lattice.proofs.Lists.{either}
use Rattle.lattice.proofs.HalfPlane.{half_plane}
use Rattle.pick.specs.Solid.{x_of, y_of, Least, Greatest, Box, Rectangle}

-- ---- a coordinate, and the same looked at from the other side
abbrev pub Linear : (Point → ℤ) → Type 0
Linear f = (α : ℤ) × (β : ℤ) × ((p : Point) → f p ≡ linear α β p)

abbrev pub negated : (Point → ℤ) → Point → ℤ
negated f p = neg_ℤ (f p)

pub x_linear : Linear x_of
x_linear = (pos 1, pos 0, λ p. ring (coordinates (p ∷ [])) (search quote depth 20) tt)

pub y_linear : Linear y_of
y_linear = (pos 0, pos 1, λ p. ring (coordinates (p ∷ [])) (search quote depth 20) tt)

pub negated_linear : {f : Point → ℤ} → Linear f → Linear (negated f)
negated_linear {f} k = (
  neg_ℤ k.0,
  neg_ℤ k.1,
  λ p. linear≡ (k.0 ∷ k.1 ∷ f p ∷ coordinates (p ∷ [])) (negsuc 0 ∗≡ k.2 p) (search quote depth 20) tt,
)

pub least_negated : {f : Point → ℤ} {s : List Point} {m : ℤ} → Least f s m → Greatest (negated f) s (neg_ℤ m)
least_negated h = record {
  bound = λ p i. le_negated (h.bound p i);
  reached = (h.reached.0, h.reached.1, ap neg_ℤ h.reached.2);
}

-- ---- what bounds all points bounds the extremes
module _ {f : Point → ℤ} {s : List Point} {m n : ℤ} where
  pub greatest_le : Greatest f s m → ((p : Point) → In p s → f p ≤ᶻ n) → m ≤ᶻ n
  greatest_le g h = subst (λ z. z ≤ᶻ n) g.reached.2 (h g.reached.0 g.reached.1)

  pub least_ge : Least f s m → ((p : Point) → In p s → n ≤ᶻ f p) → n ≤ᶻ m
  least_ge g h = subst (λ z. n ≤ᶻ z) g.reached.2 (h g.reached.0 g.reached.1)

pub greatest_unique : {f : Point → ℤ} {s : List Point} {m n : ℤ} → Greatest f s m → Greatest f s n → m ≡ n
greatest_unique g h = antisymmetric (greatest_le g h.bound) (greatest_le h g.bound)

-- ---- there is a greatest
pub greatest_exists : (f : Point → ℤ) (a : Point) (l : List Point) → (m : ℤ) × Greatest f (a ∷ l) m
greatest_exists f a [] = (
  f a,
  record {
    bound = λ p i. either i (λ e. le_of_equal (ap f e)) (λ k. absurd k);
    reached = (a, inl refl, refl);
  },
)
greatest_exists f a (b ∷ l) =
    let (m, g) = greatest_exists f b l in
    either (le_or_lt (f a) m)
    (λ h. (
      m,
      record {
        bound = λ p i. either i (λ e. le_transitive (le_of_equal (ap f e)) h) (g.bound p);
        reached = (g.reached.0, inr g.reached.1, g.reached.2);
      },
    ))
    (λ h. (
      f a,
      record {
        bound = λ p i. either i (λ e. le_of_equal (ap f e)) (λ j. le_transitive (g.bound p j) (le_of_lt h));
        reached = (a, inl refl, refl);
      },
    ))

-- ---- the hull stays within
pub hull_le : {f : Point → ℤ} → Linear f → {s : List Point} {m : ℤ} → Greatest f s m → {p : Point} → InHull (Of s) p → f p ≤ᶻ m
hull_le {f} k {s} {m} g {p} h =
    linear≤ (m ∷ f p ∷ [])
    (half_plane (λ q. m -ℤ f q) (neg_ℤ k.0) (neg_ℤ k.1) m
    (λ q. linear≡ (m ∷ k.0 ∷ k.1 ∷ f q ∷ coordinates (q ∷ [])) (negsuc 0 ∗≡ k.2 q) (search quote depth 20) tt)
    (λ q i. gap≤ (g.bound q i)) h)
    (search quote depth 20) tt

pub hull_ge : {f : Point → ℤ} → Linear f → {s : List Point} {m : ℤ} → Least f s m → {p : Point} → InHull (Of s) p → m ≤ᶻ f p
hull_ge {f} k {s} {m} g {p} h =
    linear≤ (m ∷ f p ∷ []) (gap≤ (hull_le (negated_linear k) (least_negated g) h)) (search quote depth 20) tt

pub hull_in_rectangle : {s : List Point} {left right low high : ℤ} → Box s left right low high
    → (p : Point) → InHull (Of s) p → Rectangle left right low high p
hull_in_rectangle box p h = record {
  from_left = hull_ge x_linear box.leftmost h;
  to_right = hull_le x_linear box.rightmost h;
  from_low = hull_ge y_linear box.lowest h;
  to_high = hull_le y_linear box.highest h;
}

-- ---- lists with the same hull have the same extremes
negated_least : {f : Point → ℤ} {s : List Point} {m : ℤ} → Greatest (negated f) s (neg_ℤ m) → Least f s m
negated_least {f} {s} {m} g = record {
  bound = λ p i. linear≤ (m ∷ f p ∷ []) (gap≤ (g.bound p i)) (search quote depth 20) tt;
  reached = (
    g.reached.0,
    g.reached.1,
    linear≡ (m ∷ f g.reached.0 ∷ []) (negsuc 0 ∗≡ g.reached.2) (search quote depth 20) tt,
  );
}

module _ {s : List Point} (a : Point) (l : List Point) (same : (p : Point) → InHull (Of s) p ↔ InHull (Of (a ∷ l)) p) where
  greatest_same : {f : Point → ℤ} → Linear f → {m : ℤ} → Greatest f s m → Greatest f (a ∷ l) m
  greatest_same {f} k {m} g =
      let (n, h) = greatest_exists f a l in
      subst (Greatest f (a ∷ l))
      (antisymmetric (greatest_le h (λ p i. hull_le k g ((same p).1 (member i)))) (greatest_le g (λ p i. hull_le k h ((same p).0 (member i)))))
      h

  least_same : {f : Point → ℤ} → Linear f → {m : ℤ} → Least f s m → Least f (a ∷ l) m
  least_same k g = negated_least (greatest_same (negated_linear k) (least_negated g))

  pub box_same : {left right low high : ℤ} → Box s left right low high → Box (a ∷ l) left right low high
  box_same box = record {
    leftmost = least_same x_linear box.leftmost;
    rightmost = greatest_same x_linear box.rightmost;
    lowest = least_same y_linear box.lowest;
    highest = greatest_same y_linear box.highest;
  }
