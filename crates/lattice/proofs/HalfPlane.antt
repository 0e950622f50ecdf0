-- An integer affine functional that is at least 0 on S is at least 0 on the hull of S; one that is at least 1 on S and at most 0 at p
-- keeps p out of the hull. Assumes nothing.
use mathlib.Core.Path.{◌≡◌, sym, ◌∙◌, ap, subst}
use mathlib.Core.Logic.{◌⊎◌, inl, inr}
use mathlib.Core.List.{[], ◌∷◌}
use lib.IntN.{ℤ, pos, neg_ℤ, ◌+ℤ◌, ◌-ℤ◌, ◌*ℤ◌}
use Rattle.whole.proofs.Whole.{ring, quote, ◌≤ᶻ◌, ◌<ᶻ◌, NonNegative, Positive, square_nonnegative, gap≤, gap<, ◌⊞◌, ◌⊠◌, ◌⋆≡◌, linear≤, linear<, linear⊥, le_or_lt, le_of_equal, le_of_lt, Sign, below, nought, above, sign, nonnegative_factor, difference_zero, square_zero, squares_zero}
use Rattle.lattice.specs.Point.{Point}
use Rattle.lattice.specs.Hull.{turn, Between, OnSegment, InTriangle, InHull, member, segment, triangle}
use Rattle.lattice.proofs.Turn.{coordinates, affine, linear, barycentric}

-- two points with the same coordinates
pub point_equal : {p q : Point} → p.x ≡ q.x → p.y ≡ q.y → p ≡ q
point_equal e f = λ i. record { x = e i; y = f i }

-- ---- between, by a product
pub between_product : (u v w : ℤ) → Between u v w → NonNegative ((w -ℤ u) *ℤ (v -ℤ w))
between_product u v w (inl h) = gap≤ h.0 ⊠ gap≤ h.1
between_product u v w (inr h) = linear≤ (u ∷ v ∷ w ∷ []) (gap≤ h.0 ⊠ gap≤ h.1) (search quote depth 20) tt

pub product_between : (u v w : ℤ) → NonNegative ((w -ℤ u) *ℤ (v -ℤ w)) → Between u v w
product_between u v w h = by_sign (sign (w -ℤ u))
  where
    at_u : w -ℤ u ≡ pos 0 → (v ≤ᶻ u) ⊎ (u <ᶻ v) → Between u v w
    at_u e (inl k) = inr (subst (λ z. v ≤ᶻ z) (sym (difference_zero e)) k, le_of_equal (difference_zero e))
    at_u e (inr k) = inl (le_of_equal (sym (difference_zero e)), subst (λ z. z ≤ᶻ v) (sym (difference_zero e)) (le_of_lt k))

    by_sign : Sign (w -ℤ u) → Between u v w
    by_sign (below l) = inr (
      linear≤ (v ∷ w ∷ [])
          (nonnegative_factor {a = u -ℤ w} {b = w -ℤ v} (linear≤ (u ∷ v ∷ w ∷ []) h (search quote depth 20) tt)
          (linear< (u ∷ w ∷ []) (gap< l) (search quote depth 20) tt))
          (search quote depth 20) tt,
      linear≤ (u ∷ w ∷ []) (gap< l) (search quote depth 20) tt,
    )
    by_sign (nought e) = at_u e (le_or_lt v u)
    by_sign (above l) = inl (
      linear≤ (u ∷ w ∷ []) (gap< l) (search quote depth 20) tt,
      linear≤ (v ∷ w ∷ []) (nonnegative_factor h l) (search quote depth 20) tt,
    )

-- between a number and itself
pinched : (u v w : ℤ) → v -ℤ u ≡ pos 0 → Between u v w → w ≡ u
pinched u v w e h =
    difference_zero
    (square_zero (linear≤ (u ∷ v ∷ w ∷ []) (between_product u v w h ⊞ (w -ℤ u) ⋆≡ e) (search quote depth 20) tt))

-- ---- the product of p − a and b − q; of one vector with itself it is the square of its length
abbrev dot : Point → Point → Point → Point → ℤ
dot a p q b = (p.x -ℤ a.x) *ℤ (b.x -ℤ q.x) +ℤ (p.y -ℤ a.y) *ℤ (b.y -ℤ q.y)

square_length : (u v : Point) → NonNegative (dot u v u v)
square_length u v = square_nonnegative (v.x -ℤ u.x) ⊞ square_nonnegative (v.y -ℤ u.y)

-- barycentric on a segment
along : (α β γ : ℤ) (a b p : Point)
    → dot a b a b *ℤ affine α β γ p
    ≡ (dot a p p b +ℤ dot p b p b) *ℤ affine α β γ a
    +ℤ (dot a p p b +ℤ dot a p a p) *ℤ affine α β γ b
    +ℤ (β *ℤ (b.x -ℤ a.x) -ℤ α *ℤ (b.y -ℤ a.y)) *ℤ turn a b p
along α β γ a b p = ring (α ∷ β ∷ γ ∷ coordinates (a ∷ b ∷ p ∷ [])) (search quote depth 20) tt

nothing_of : (k : ℤ) {a : ℤ} → a ≡ pos 0 → NonNegative (k *ℤ a)
nothing_of k {a} e = linear≤ (k ∷ a ∷ []) (k ⋆≡ sym e) (search quote depth 20) tt

module _ (α β γ : ℤ) where
  abbrev Up : Point → Type 0
  Up p = NonNegative (affine α β γ p)

  on_segment : (a b p : Point) → OnSegment a b p → Up a → Up b → Up p
  on_segment a b p h f g = by_sign (sign (dot a b a b))
    where
      between : NonNegative (dot a p p b)
      between = between_product a.x b.x p.x h.x_between ⊞ between_product a.y b.y p.y h.y_between

      at_a : dot a b a b ≡ pos 0 → p ≡ a
      at_a e =
          let z = squares_zero (b.x -ℤ a.x) (b.y -ℤ a.y) e in
          point_equal (pinched a.x b.x p.x z.0 h.x_between) (pinched a.y b.y p.y z.1 h.y_between)

      by_sign : Sign (dot a b a b) → Up p
      by_sign (below l) = linear⊥ (coordinates (a ∷ b ∷ [])) (gap< l ⊞ square_length a b) (search quote depth 20) tt
      by_sign (nought e) = subst Up (sym (at_a e)) f
      by_sign (above l) =
          nonnegative_factor
          (subst NonNegative (sym (along α β γ a b p))
          (((between ⊞ square_length p b) ⊠ f ⊞ (between ⊞ square_length a p) ⊠ g)
          ⊞ nothing_of (β *ℤ (b.x -ℤ a.x) -ℤ α *ℤ (b.y -ℤ a.y)) h.straight))
          l

  on_triangle : (a b c p : Point) → InTriangle a b c p → Up a → Up b → Up c → Up p
  on_triangle a b c p h f g e =
      nonnegative_factor
      (subst NonNegative (sym (barycentric α β γ a b c p)) ((h.left_bc ⊠ f ⊞ h.left_ca ⊠ g) ⊞ h.left_ab ⊠ e))
      h.turned

  affine_half_plane : {S : Point → Type 0} → ((q : Point) → S q → Up q) → {p : Point} → InHull S p → Up p
  affine_half_plane h {p} (member m) = h p m
  affine_half_plane h {p} (segment a b u v i) = on_segment a b p i (h a u) (h b v)
  affine_half_plane h {p} (triangle a b c u v w i) = on_triangle a b c p i (h a u) (h b v) (h c w)

-- the theorem, for a functional given by its own text
pub half_plane : (L : Point → ℤ) (α β γ : ℤ) → ((q : Point) → L q ≡ affine α β γ q)
    → {S : Point → Type 0} → ((q : Point) → S q → NonNegative (L q)) → {p : Point} → InHull S p → NonNegative (L p)
half_plane L α β γ fit h {p} i =
    subst NonNegative (sym (fit p)) (affine_half_plane α β γ (λ q m. subst NonNegative (fit q) (h q m)) i)

-- a functional that is at least 1 on S and at most 0 at p keeps p out of the hull of S
pub keeps_out : (L : Point → ℤ) (α β γ : ℤ) → ((q : Point) → L q ≡ affine α β γ q)
    → {S : Point → Type 0} → ((q : Point) → S q → Positive (L q)) → {p : Point} → L p ≤ᶻ pos 0 → InHull S p → ⊥
keeps_out L α β γ fit h {p} g i =
    clash (L p) g
    (half_plane (λ q. L q -ℤ pos 1) α β (γ -ℤ pos 1) one_less (λ q m. one_off (L q) (h q m)) i)
  where
    one_off : (z : ℤ) → Positive z → NonNegative (z -ℤ pos 1)
    one_off z k = linear≤ (z ∷ []) (gap< k) (search quote depth 20) tt

    clash : (z : ℤ) → z ≤ᶻ pos 0 → NonNegative (z -ℤ pos 1) → ⊥
    clash z k l = linear⊥ (z ∷ []) (gap≤ k ⊞ l) (search quote depth 20) tt

    one_less : (q : Point) → L q -ℤ pos 1 ≡ affine α β (γ -ℤ pos 1) q
    one_less q = ap (λ z. z -ℤ pos 1) (fit q) ∙ ring (α ∷ β ∷ γ ∷ coordinates (q ∷ [])) (search quote depth 20) tt

-- all of S on one side of t by a linear functional: so is the hull
pub strict_half_plane : (α β : ℤ) (t : Point) {S : Point → Type 0} → ((q : Point) → S q → linear α β t <ᶻ linear α β q)
    → {p : Point} → InHull S p → linear α β t <ᶻ linear α β p
strict_half_plane α β t h {p} i = by_order (le_or_lt (linear α β p) (linear α β t))
  where
    by_order : (linear α β p ≤ᶻ linear α β t) ⊎ (linear α β t <ᶻ linear α β p) → linear α β t <ᶻ linear α β p
    by_order (inl k) =
        absurd
        (keeps_out (λ q. linear α β q -ℤ linear α β t) α β (neg_ℤ (linear α β t))
        (λ q. ring (α ∷ β ∷ coordinates (q ∷ t ∷ [])) (search quote depth 20) tt)
        (λ q m. linear< (α ∷ β ∷ coordinates (q ∷ t ∷ [])) (gap< (h q m)) (search quote depth 20) tt)
        (linear≤ (α ∷ β ∷ coordinates (p ∷ t ∷ [])) (gap≤ k) (search quote depth 20) tt)
        i)
    by_order (inr k) = k

-- all of S on the left of an edge, or on it: so is the hull
pub edge_half_plane : (a b : Point) {S : Point → Type 0} → ((q : Point) → S q → NonNegative (turn a b q))
    → {p : Point} → InHull S p → NonNegative (turn a b p)
edge_half_plane a b =
    half_plane (turn a b) (a.y -ℤ b.y) (b.x -ℤ a.x) ((b.y -ℤ a.y) *ℤ a.x -ℤ (b.x -ℤ a.x) *ℤ a.y)
    (λ q. ring (coordinates (a ∷ b ∷ q ∷ [])) (search quote depth 20) tt)
