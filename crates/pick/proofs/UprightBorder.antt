-- An edge falls into at most as many steps as it passes columns and rows, and into as many exactly if it is upright or level; so the border.
-- Assumes nothing.
use mathlib.Core.Path.{◌≡◌, refl, sym, ◌∙◌, ap, subst}
use mathlib.Core.Logic.{◌⊎◌, inl, inr}
use mathlib.Core.List.{List, [], ◌∷◌}
use lib.IntN.{ℤ, pos, negsuc, neg_ℤ, nat_abs, ◌+ℤ◌, ◌*ℤ◌, ◌-ℤ◌}
use Rattle.whole.proofs.Whole.{quote, ◌≤ᶻ◌, ◌<ᶻ◌, natural, gap≤, gap<, ◌⊞◌, ◌⊠◌, ◌⋆≡◌, ◌∗≡◌, ◌∔◌, linear≤, linear⊥, linear≡, le_or_lt, antisymmetric, zero_product, absolute, absolute_of_nonnegative, absolute_zero, absolute_product, absolute_of_unit, difference_zero}
use Rattle.lattice.specs.Point.{Point}
use Rattle.lattice.proofs.Turn.{coordinates}
use Rattle.lattice.proofs.Lists.{either}
use Rattle.pick.specs.Pick.{span, around, border}
use Rattle.pick.specs.Solid.{x_of, y_of}
use Rattle.pick.proofs.Divisor.{Divides, span_steps}
use Rattle.pick.proofs.Fan.{Edges}
use Rattle.pick.proofs.Extent.{apart}

-- ---- a divisor g of x and y, and how often it is in both of them together
module _ (x y g : ℤ) (d : Divides g x y) where
  open d use {part_x, part_y, times_x, times_y, nonnegative, whole_x, whole_y, one}

  abbrev both : ℤ
  both = absolute part_x +ℤ absolute part_y

  abbrev sizes : List ℤ
  sizes = g ∷ absolute x ∷ absolute y ∷ absolute part_x ∷ absolute part_y ∷ []

  times_both : absolute x +ℤ absolute y ≡ g *ℤ both
  times_both = linear≡ sizes (pos 1 ∗≡ times x part_x whole_x ∔ pos 1 ∗≡ times y part_y whole_y) (search quote depth 20) tt
    where
      times : (z n : ℤ) → z ≡ g *ℤ n → absolute z ≡ g *ℤ absolute n
      times z n e = ap absolute e ∙ absolute_product g n ∙ ap (λ k. k *ℤ absolute n) (absolute_of_nonnegative nonnegative)

  -- not both of them are 0
  some : pos 1 ≤ᶻ both
  some = either (le_or_lt (pos 1) both) (λ h. h) (λ h. absurd (none h))
    where
      none : both <ᶻ pos 1 → ⊥
      none h =
          let zero_x : part_x ≡ pos 0 = absolute_zero (linear≤ sizes (gap< h ⊞ natural (nat_abs part_y)) (search quote depth 20) tt) in
          let zero_y : part_y ≡ pos 0 = absolute_zero (linear≤ sizes (gap< h ⊞ natural (nat_abs part_x)) (search quote depth 20) tt) in
          linear⊥ (part_x ∷ part_y ∷ times_x ∷ times_y ∷ []) (pos 1 ⋆≡ sym one ⊞ times_x ⋆≡ zero_x ⊞ times_y ⋆≡ zero_y) (search quote depth 20) tt

  steps_le : g ≤ᶻ absolute x +ℤ absolute y
  steps_le = linear≤ sizes (nonnegative ⊠ gap≤ some ⊞ negsuc 0 ⋆≡ times_both) (search quote depth 20) tt

  -- it is in them once exactly if one of them is 0
  once_zero : both ≡ pos 1 → (part_x ≡ pos 0) ⊎ (part_y ≡ pos 0)
  once_zero e =
      either (le_or_lt (absolute part_x) (pos 0)) (λ h. inl (absolute_zero h))
      (λ h. inr (absolute_zero (linear≤ sizes (gap< h ⊞ pos 1 ⋆≡ e) (search quote depth 20) tt)))

  zero_once : (part_x ≡ pos 0) ⊎ (part_y ≡ pos 0) → both ≡ pos 1
  zero_once (inl e) = linear≡ sizes (pos 1 ∗≡ ap absolute e ∔ pos 1 ∗≡ absolute_of_unit times_y part_y unit) (search quote depth 20) tt
    where
      unit : times_y *ℤ part_y ≡ pos 1
      unit = linear≡ (part_x ∷ part_y ∷ times_x ∷ times_y ∷ []) (pos 1 ∗≡ one ∔ neg_ℤ times_x ∗≡ e) (search quote depth 20) tt
  zero_once (inr e) = linear≡ sizes (pos 1 ∗≡ ap absolute e ∔ pos 1 ∗≡ absolute_of_unit times_x part_x unit) (search quote depth 20) tt
    where
      unit : times_x *ℤ part_x ≡ pos 1
      unit = linear≡ (part_x ∷ part_y ∷ times_x ∷ times_y ∷ []) (pos 1 ∗≡ one ∔ neg_ℤ times_y ∗≡ e) (search quote depth 20) tt

  steps_level : g ≡ absolute x +ℤ absolute y → (x ≡ pos 0) ⊎ (y ≡ pos 0)
  steps_level e =
      either (zero_product {a = g} {b = both -ℤ pos 1} (linear≡ sizes (negsuc 0 ∗≡ times_both ∔ negsuc 0 ∗≡ e) (search quote depth 20) tt))
      (λ z. inl (linear≡ (x ∷ g ∷ part_x ∷ []) (pos 1 ∗≡ whole_x ∔ part_x ∗≡ z) (search quote depth 20) tt))
      (λ z. either (once_zero (difference_zero z))
      (λ p. inl (linear≡ (x ∷ g ∷ part_x ∷ []) (pos 1 ∗≡ whole_x ∔ g ∗≡ p) (search quote depth 20) tt))
      (λ p. inr (linear≡ (y ∷ g ∷ part_y ∷ []) (pos 1 ∗≡ whole_y ∔ g ∗≡ p) (search quote depth 20) tt)))

  level_steps : (x ≡ pos 0) ⊎ (y ≡ pos 0) → g ≡ absolute x +ℤ absolute y
  level_steps level =
      either (factors level)
      (λ z. linear≡ sizes ((pos 1 -ℤ both) ∗≡ z ∔ negsuc 0 ∗≡ times_both) (search quote depth 20) tt)
      (λ p. linear≡ sizes (neg_ℤ g ∗≡ zero_once p ∔ negsuc 0 ∗≡ times_both) (search quote depth 20) tt)
    where
      factors : (x ≡ pos 0) ⊎ (y ≡ pos 0) → (g ≡ pos 0) ⊎ ((part_x ≡ pos 0) ⊎ (part_y ≡ pos 0))
      factors (inl e) = either (zero_product (sym whole_x ∙ e)) (λ z. inl z) (λ p. inr (inl p))
      factors (inr e) = either (zero_product (sym whole_y ∙ e)) (λ z. inl z) (λ p. inr (inr p))

-- ---- one edge
-- upright or level
abbrev pub Level : Point → Point → Type 0
Level a b = (a.x ≡ b.x) ⊎ (a.y ≡ b.y)

-- how many columns and rows an edge passes
abbrev sides : Point → Point → ℤ
sides a b = apart x_of a b +ℤ apart y_of a b

module _ (a b : Point) where
  span_le : span a b ≤ᶻ sides a b
  unfolding apart
  span_le = steps_le (b.x -ℤ a.x) (b.y -ℤ a.y) (span a b) (span_steps a b)

  span_level : span a b ≡ sides a b → Level a b
  unfolding apart
  span_level e =
      either (steps_level (b.x -ℤ a.x) (b.y -ℤ a.y) (span a b) (span_steps a b) e)
      (λ z. inl (sym (difference_zero z))) (λ z. inr (sym (difference_zero z)))

  level_span : Level a b → span a b ≡ sides a b
  unfolding apart
  level_span h =
      level_steps (b.x -ℤ a.x) (b.y -ℤ a.y) (span a b) (span_steps a b)
      (either h
      (λ e. inl (linear≡ (coordinates (a ∷ b ∷ [])) (negsuc 0 ∗≡ e) (search quote depth 20) tt))
      (λ e. inr (linear≡ (coordinates (a ∷ b ∷ [])) (negsuc 0 ∗≡ e) (search quote depth 20) tt)))

-- ---- sums round a list, edge by edge
module _ (f g : Point → Point → ℤ) where
  around_sum : (c a : Point) (l : List Point) → around (λ d e. f d e +ℤ g d e) c a l ≡ around f c a l +ℤ around g c a l
  around_sum c a [] = refl
  around_sum c a (b ∷ l) =
      linear≡ (f a b ∷ g a b ∷ around f c b l ∷ around g c b l ∷ around (λ d e. f d e +ℤ g d e) c b l ∷ []) (pos 1 ∗≡ around_sum c b l)
      (search quote depth 20) tt

  module _ (R : Point → Point → Type 0) (equal : (a b : Point) → R a b → f a b ≡ g a b) where
    around_equal : (c a : Point) (l : List Point) → Edges R c a l → around f c a l ≡ around g c a l
    around_equal c a [] h = equal a c h
    around_equal c a (b ∷ l) h = λ i. equal a b h.0 i +ℤ around_equal c b l h.1 i

  module _ (le : (a b : Point) → f a b ≤ᶻ g a b) where
    around_le : (c a : Point) (l : List Point) → around f c a l ≤ᶻ around g c a l
    around_le c a [] = le a c
    around_le c a (b ∷ l) =
        linear≤ (f a b ∷ g a b ∷ around f c b l ∷ around g c b l ∷ []) (gap≤ (le a b) ⊞ gap≤ (around_le c b l)) (search quote depth 20) tt

    module _ (R : Point → Point → Type 0) (tight : (a b : Point) → f a b ≡ g a b → R a b) where
      around_tight : (c a : Point) (l : List Point) → around f c a l ≡ around g c a l → Edges R c a l
      around_tight c a [] e = tight a c e
      around_tight c a (b ∷ l) e =
          let ρ = f a b ∷ g a b ∷ around f c b l ∷ around g c b l ∷ [] in (
            tight a b (antisymmetric (le a b)
                (linear≤ ρ (gap≤ (around_le c b l) ⊞ pos 1 ⋆≡ sym e) (search quote depth 20) tt)),
            around_tight c b l (antisymmetric (around_le c b l) (linear≤ ρ (gap≤ (le a b) ⊞ pos 1 ⋆≡ sym e) (search quote depth 20) tt)),
          )

-- ---- the border
module _ (c : Point) (l : List Point) where
  -- the columns and rows that all edges pass
  abbrev pub upright : ℤ
  upright = around (apart x_of) c c l +ℤ around (apart y_of) c c l

  pub border_le : border (c ∷ l) ≤ᶻ upright
  border_le = subst (λ z. border (c ∷ l) ≤ᶻ z) (around_sum (apart x_of) (apart y_of) c c l) (around_le span sides span_le c c l)

  pub border_level : border (c ∷ l) ≡ upright → Edges Level c c l
  border_level e = around_tight span sides span_le Level span_level c c l (e ∙ sym (around_sum (apart x_of) (apart y_of) c c l))

  pub level_border : Edges Level c c l → border (c ∷ l) ≡ upright
  level_border h = around_equal span sides Level level_span c c l h ∙ around_sum (apart x_of) (apart y_of) c c l
