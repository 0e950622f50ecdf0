-- Where every edge is upright or level, the hull holds the whole upright rectangle about its corners; and the other way round.
-- Assumes nothing.
use mathlib.Core.Path.{◌≡◌, refl, sym, subst}
use mathlib.Core.Logic.{inl, inr}
use mathlib.Core.List.{List, [], ◌∷◌}
use lib.IntN.{ℤ, ◌*ℤ◌, ◌-ℤ◌}
use Rattle.whole.proofs.Whole.{quote, ◌≤ᶻ◌, NonNegative, Positive, gap≤, gap<, ◌⊞◌, ◌⊠◌, ◌⋆≡◌, ◌∗≡◌, linear≤, linear<, linear≡, Sign, below, nought, above, sign, le_or_lt, le_of_lt, le_of_equal, le_transitive, le_negated, antisymmetric, nonnegative_factor, zero_product, difference_zero}
use Rattle.lattice.specs.Point.{Point, In, All}
use Rattle.lattice.specs.Hull.{turn, Between, InHull, member, segment, Of}
use Rattle.lattice.proofs.Turn.{coordinates}
use Rattle.lattice.proofs.Lists.{either, all_in, in_all}
use Rattle.lattice.proofs.HalfPlane.{point_equal}
use Rattle.lattice.proofs.Shape.{Shape}
use Rattle.pick.specs.Solid.{x_of, y_of, Least, Greatest, Box, Rectangle}
use Rattle.pick.proofs.Fan.{Edges, Beside, hull_edges, edges_hull}
use Rattle.pick.proofs.Extreme.{negated, least_negated, greatest_le, least_ge, hull_in_rectangle}
use Rattle.pick.proofs.UprightBorder.{Level}

-- ---- of each edge
edges_by : {P Q R : Point → Point → Type 0} → ((d e : Point) → P d e → Q d e → R d e)
    → (c a : Point) (l : List Point) → Edges P c a l → Edges Q c a l → Edges R c a l
edges_by f c a [] h g = f a c h g
edges_by f c a (b ∷ l) h g = (f a b h.0 g.0, edges_by f c b l h.1 g.1)

-- all points with M are beside each edge
edges_beside : (M : Point → Type 0) (c a : Point) (l : List Point)
    → ((p : Point) → M p → Edges (Beside p) c a l) → Edges (λ d e. (p : Point) → M p → Beside p d e) c a l
edges_beside M c a [] h = h
edges_beside M c a (b ∷ l) h = ((λ p m. (h p m).0), edges_beside M c b l (λ p m. (h p m).1))

-- the ends of each edge have M
edges_ends : (M : Point → Type 0) (c a : Point) (l : List Point) → M c → M a → All M l → Edges (λ d e. M d × M e) c a l
edges_ends M c a [] mc ma ml = (ma, mc)
edges_ends M c a (b ∷ l) mc ma ml = ((ma, ml.0), edges_ends M c b l mc ml.0 ml.1)

-- ---- an upright or level edge that has all corners beside it is at an end of the rectangle
module _ {left right low high : ℤ} (s : List Point) (box : Box s left right low high) (p : Point) (w : Rectangle left right low high p)
    (d e : Point) (all : (q : Point) → In q s → Beside q d e) where
  at_end : (f : Point → ℤ) (n : ℤ) → Positive n → ((q : Point) → turn d e q ≡ n *ℤ (f d -ℤ f q))
      → {m : ℤ} → Greatest f s m → f p ≤ᶻ m → Beside p d e
  at_end f n h t g i = subst NonNegative (sym (t p)) (le_of_lt h ⊠ gap≤ (le_transitive i (greatest_le g at_most)))
    where
      at_most : (q : Point) → In q s → f q ≤ᶻ f d
      at_most q j =
          linear≤ (f d ∷ f q ∷ []) (nonnegative_factor {a = n} {b = f d -ℤ f q} (subst NonNegative (t q) (all q j)) h) (search quote depth 20) tt

  level_beside : Level d e → Beside p d e
  level_beside (inl z) = by_sign (sign (e.y -ℤ d.y))
    where
      by_sign : Sign (e.y -ℤ d.y) → Beside p d e
      by_sign (above h) =
          at_end x_of (e.y -ℤ d.y) h
          (λ q. linear≡ (coordinates (d ∷ e ∷ q ∷ [])) ((d.y -ℤ q.y) ∗≡ z) (search quote depth 20) tt) box.rightmost w.to_right
      by_sign (below h) =
          at_end (negated x_of) (d.y -ℤ e.y) (linear< (coordinates (d ∷ e ∷ [])) (gap< h) (search quote depth 20) tt)
          (λ q. linear≡ (coordinates (d ∷ e ∷ q ∷ [])) ((d.y -ℤ q.y) ∗≡ z) (search quote depth 20) tt)
          (least_negated box.leftmost) (le_negated w.from_left)
      by_sign (nought y) = linear≤ (coordinates (d ∷ e ∷ p ∷ [])) ((p.y -ℤ d.y) ⋆≡ z ⊞ (p.x -ℤ d.x) ⋆≡ y) (search quote depth 20) tt
  level_beside (inr z) = by_sign (sign (e.x -ℤ d.x))
    where
      by_sign : Sign (e.x -ℤ d.x) → Beside p d e
      by_sign (above h) =
          at_end (negated y_of) (e.x -ℤ d.x) h
          (λ q. linear≡ (coordinates (d ∷ e ∷ q ∷ [])) ((q.x -ℤ d.x) ∗≡ z) (search quote depth 20) tt)
          (least_negated box.lowest) (le_negated w.from_low)
      by_sign (below h) =
          at_end y_of (d.x -ℤ e.x) (linear< (coordinates (d ∷ e ∷ [])) (gap< h) (search quote depth 20) tt)
          (λ q. linear≡ (coordinates (d ∷ e ∷ q ∷ [])) ((q.x -ℤ d.x) ∗≡ z) (search quote depth 20) tt) box.highest w.to_high
      by_sign (nought x) = linear≤ (coordinates (d ∷ e ∷ p ∷ [])) ((d.x -ℤ p.x) ⋆≡ z ⊞ (d.y -ℤ p.y) ⋆≡ x) (search quote depth 20) tt

-- ---- the rectangle is in the hull
-- what is between the extremes is between what bounds all points
squeezed : (f : Point → ℤ) (s : List Point) {m n z : ℤ} → Least f s m → Greatest f s n → m ≤ᶻ z → z ≤ᶻ n
    → (u v : ℤ) → All (λ q. (u ≤ᶻ f q) × (f q ≤ᶻ v)) s → (u ≤ᶻ z) × (z ≤ᶻ v)
squeezed f s least greatest i j u v h =
    let bounds : (q : Point) → In q s → (u ≤ᶻ f q) × (f q ≤ᶻ v) = all_in (λ q. (u ≤ᶻ f q) × (f q ≤ᶻ v)) s h in
    (le_transitive (least_ge least (λ q k. (bounds q k).0)) i, le_transitive j (greatest_le greatest (λ q k. (bounds q k).1)))

at_one : (f : Point → ℤ) (a : Point) {m n z : ℤ} → Least f (a ∷ []) m → Greatest f (a ∷ []) n → m ≤ᶻ z → z ≤ᶻ n → z ≡ f a
at_one f a least greatest i j =
    let (above_a, below_a) = squeezed f (a ∷ []) least greatest i j (f a) (f a) ((le_of_equal refl, le_of_equal refl), tt) in
    antisymmetric below_a above_a

between_two : (f : Point → ℤ) (a b : Point) {m n z : ℤ} → Least f (a ∷ b ∷ []) m → Greatest f (a ∷ b ∷ []) n
    → m ≤ᶻ z → z ≤ᶻ n → Between (f a) (f b) z
between_two f a b least greatest i j =
    either (le_or_lt (f a) (f b))
    (λ h. inl (squeezed f (a ∷ b ∷ []) least greatest i j (f a) (f b) ((le_of_equal refl, h), ((h, le_of_equal refl), tt))))
    (λ h. inr (squeezed f (a ∷ b ∷ []) least greatest i j (f b) (f a) ((le_of_lt h, le_of_equal refl), ((le_of_equal refl, le_of_lt h), tt))))

pub rectangle_in_hull : {left right low high : ℤ} (c : Point) (l : List Point) → Shape (c ∷ l) → Box (c ∷ l) left right low high
    → Edges Level c c l → (p : Point) → Rectangle left right low high p → InHull (Of (c ∷ l)) p
rectangle_in_hull {left} {right} {low} {high} c l s box level p w = by_number l s box beside
  where
    beside : Edges (Beside p) c c l
    beside =
        edges_by (level_beside (c ∷ l) box p w) c c l
        (edges_beside (Of (c ∷ l)) c c l (λ q i. hull_edges c l s q (member i))) level

    by_number : (l : List Point) → Shape (c ∷ l) → Box (c ∷ l) left right low high → Edges (Beside p) c c l → InHull (Of (c ∷ l)) p
    by_number [] s box e =
        member (inl (point_equal (at_one x_of c box.leftmost box.rightmost w.from_left w.to_right)
        (at_one y_of c box.lowest box.highest w.from_low w.to_high)))
    by_number (b ∷ []) s box e =
        segment c b (inl refl) (inr (inl refl)) (record {
          straight = antisymmetric (linear≤ (coordinates (c ∷ b ∷ p ∷ [])) e.1 (search quote depth 20) tt) e.0;
          x_between = between_two x_of c b box.leftmost box.rightmost w.from_left w.to_right;
          y_between = between_two y_of c b box.lowest box.highest w.from_low w.to_high;
        })
    by_number (a ∷ b ∷ l) s box e = edges_hull c a b l s p e

-- ---- and only then
-- the point in the column of a and the row of b
abbrev corner : Point → Point → Point
corner a b = record { x = a.x; y = b.y }

beside_level : {left right low high : ℤ} (d e : Point) → Rectangle left right low high d × Rectangle left right low high e
    → ((p : Point) → Rectangle left right low high p → Beside p d e) → Level d e
beside_level {left} {right} {low} {high} d e (wd, we) all =
    either (zero_product {a = e.x -ℤ d.x} {b = e.y -ℤ d.y}
    (antisymmetric (linear≤ (coordinates (d ∷ e ∷ [])) (at_corner e d we wd) (search quote depth 20) tt)
    (linear≤ (coordinates (d ∷ e ∷ [])) (at_corner d e wd we) (search quote depth 20) tt)))
    (λ z. inl (sym (difference_zero z))) (λ z. inr (sym (difference_zero z)))
  where
    at_corner : (a b : Point) → Rectangle left right low high a → Rectangle left right low high b → Beside (corner a b) d e
    at_corner a b wa wb =
        all (corner a b) (record { from_left = wa.from_left; to_right = wa.to_right; from_low = wb.from_low; to_high = wb.to_high })

pub hull_level : {left right low high : ℤ} (c : Point) (l : List Point) → Shape (c ∷ l) → Box (c ∷ l) left right low high
    → ((p : Point) → Rectangle left right low high p → InHull (Of (c ∷ l)) p) → Edges Level c c l
hull_level {left} {right} {low} {high} c l s box h =
    let Upright : Point → Type 0 = Rectangle left right low high in
    edges_by beside_level c c l
    (edges_ends Upright c c l (held c (inl refl)) (held c (inl refl)) (in_all Upright l (λ q i. held q (inr i))))
    (edges_beside Upright c c l (λ p w. hull_edges c l s p (h p w)))
  where
    held : (q : Point) → In q (c ∷ l) → Rectangle left right low high q
    held q i = hull_in_rectangle box q (member i)
