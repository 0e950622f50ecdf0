-- If c has the shape of a corner list and c ⊆ s ⊆ hull of c, then s has the hull of c, and c is its corner list. Assumes nothing.
use mathlib.Core.Path.{◌≡◌, refl, sym, subst}
use mathlib.Core.Logic.{inl, inr, ◌↔◌}
use mathlib.Core.List.{List, [], ◌∷◌}
use Prim.Native.Nat.{ℕ, zero, suc, ◌<◌}
use native.Mathlib.Omega.{arith}
use lib.ListN.{length}
use lib.IntN.{ℤ, pos, ◌+ℤ◌, ◌-ℤ◌, ◌*ℤ◌}
use Rattle.whole.proofs.Whole.{ring, quote, ◌≤ᶻ◌, NonNegative, Positive, natural, gap≤, gap<, ◌⊞◌, ◌∗≡◌, ◌∔◌, linear≤, linear⊥, linear≡, le_or_lt, antisymmetric, zero_factor, difference_zero}
use Rattle.lattice.specs.Point.{Point, point, In, All, Pairs, Before}
use Rattle.lattice.specs.Hull.{turn, InHull, member, Of, Rest, Corner, CornerList}
use Rattle.lattice.proofs.Turn.{coordinates, affine, Left, turn_cyclic}
use Rattle.lattice.proofs.Lists.{either, all_in, all_map, pairs_map}
use Rattle.lattice.proofs.Places.{lt_or_le, nowhere, place_in, place_all, triples_place}
use Rattle.lattice.proofs.HalfPlane.{point_equal, keeps_out}
use Rattle.lattice.proofs.HullLaws.{hull_larger}
use Rattle.lattice.proofs.Decide.{yes_or_no, in?}
use Rattle.lattice.proofs.RowOrder.{before_irreflexive, before_transitive, before_total}
use Rattle.lattice.proofs.RowKey.{hull_after, hull_before}
use Rattle.lattice.proofs.Shape.{Shape}
use Rattle.lattice.proofs.Polygon.{Inside, hull_inside, polygon}

-- c has the shape, its points are of s, and s is in its hull
pub record Spans (s c : List Point) : Type 0 where
  pub shape : Shape c
  pub inside : (q : Point) → In q c → In q s
  pub cover : (q : Point) → In q s → InHull (Of c) q

pub spans_itself : (c : List Point) → Shape c → Spans c c
spans_itself c h = record { shape = h; inside = λ q m. m; cover = λ q m. member m }

-- ---- which points are corners
module _ (s : List Point) (a : Point) (m : In a s) where
  -- the first in row order, and the last
  pub first_is_corner : ((q : Point) → In q s → (q ≡ a → ⊥) → Before a q) → Corner s a
  first_is_corner f =
      record { held = m; outside = λ h. before_irreflexive a (hull_after (Rest s a) a a (λ q r. f q r.0 r.1) h) }

  pub last_is_corner : ((q : Point) → In q s → (q ≡ a → ⊥) → Before q a) → Corner s a
  last_is_corner f =
      record { held = m; outside = λ h. before_irreflexive a (hull_before (Rest s a) a a (λ q r. f q r.0 r.1) h) }

  -- a functional that is at most 0 at a and positive at all else of s
  pub lowest_is_corner : (L : Point → ℤ) (α β γ : ℤ) → ((q : Point) → L q ≡ affine α β γ q)
      → L a ≤ᶻ pos 0 → ((q : Point) → In q s → (q ≡ a → ⊥) → Positive (L q)) → Corner s a
  lowest_is_corner L α β γ fit at_a f =
      record { held = m; outside = λ h. keeps_out L α β γ fit (λ q r. f q r.0 r.1) at_a h }

  -- the apex of a wedge that holds s
  pub apex_is_corner : (u v : Point) → Left u a v → ((q : Point) → In q s → NonNegative (turn u a q))
      → ((q : Point) → In q s → NonNegative (turn a v q)) → Corner s a
  apex_is_corner u v o f g =
      lowest_is_corner (λ q. turn u a q +ℤ turn a v q)
      (u.y -ℤ v.y) (v.x -ℤ u.x)
      ((a.y -ℤ u.y) *ℤ u.x -ℤ (a.x -ℤ u.x) *ℤ u.y +ℤ ((v.y -ℤ a.y) *ℤ a.x -ℤ (v.x -ℤ a.x) *ℤ a.y))
      (λ q. ring (coordinates (u ∷ a ∷ v ∷ q ∷ [])) (search quote depth 20) tt)
      (linear≤ (coordinates (u ∷ a ∷ v ∷ [])) (natural 0) (search quote depth 20) tt)
      (λ q i n. either (le_or_lt (turn u a q +ℤ turn a v q) (pos 0))
      (λ k. absurd (n (apex q (zeros (turn u a q) (turn a v q) (f q i) (g q i) k))))
      (λ k. k))
    where
      zeros : (y z : ℤ) → NonNegative y → NonNegative z → y +ℤ z ≤ᶻ pos 0 → (y ≡ pos 0) × (z ≡ pos 0)
      zeros y z h k l = (
        antisymmetric (linear≤ (y ∷ z ∷ []) (gap≤ l ⊞ k) (search quote depth 20) tt) h,
        antisymmetric (linear≤ (y ∷ z ∷ []) (gap≤ l ⊞ h) (search quote depth 20) tt) k,
      )

      apex : (q : Point) → (turn u a q ≡ pos 0) × (turn a v q ≡ pos 0) → q ≡ a
      apex q e =
          let ρ = coordinates (u ∷ a ∷ v ∷ q ∷ []) in
          point_equal
          (difference_zero (zero_factor {a = turn u a v} {b = q.x -ℤ a.x}
          (linear≡ ρ ((v.x -ℤ a.x) ∗≡ e.0 ∔ (u.x -ℤ a.x) ∗≡ e.1) (search quote depth 20) tt) o))
          (difference_zero (zero_factor {a = turn u a v} {b = q.y -ℤ a.y}
          (linear≡ ρ ((v.y -ℤ a.y) ∗≡ e.0 ∔ (u.y -ℤ a.y) ∗≡ e.1) (search quote depth 20) tt) o))

-- ---- the hull of s is the hull of c: the first half of the sandwich
pub hull_of_spanned : (s c : List Point) → Spans s c → (p : Point) → InHull (Of s) p ↔ InHull (Of c) p
hull_of_spanned s c h p = (
  (λ i. (polygon c h.shape p).1 (hull_inside c (Of s) (λ q m. (polygon c h.shape q).0 (h.cover q m)) p i)),
  hull_larger (Of c) (Of s) h.inside p,
)

-- ---- each point of c is a corner of s
module _ (s : List Point) where
  covered : (c : List Point) → Spans s c → (q : Point) → In q s → Inside c q
  covered c h q m = (polygon c h.shape q).0 (h.cover q m)

  first_corner : (a : Point) (l : List Point) → Spans s (a ∷ l) → Corner s a
  first_corner a l h = first_is_corner s a (h.inside a (inl refl)) after
    where
      not_earlier : (q : Point) → In q s → Before q a → ⊥
      not_earlier q m k =
          let r = (covered (a ∷ l) h q m).from in
          r.2 (either r.1 (λ e. subst (Before q) (sym e) k)
          (λ i. before_transitive q a r.0 k (all_in (Before a) l h.shape.start r.0 i)))

      after : (q : Point) → In q s → (q ≡ a → ⊥) → Before a q
      after q m n =
          either (before_total a q) (λ k. k) (λ r. either r (λ e. absurd (n (sym e))) (λ k. absurd (not_earlier q m k)))

  second_corner : (a b : Point) → Spans s (a ∷ b ∷ []) → Corner s b
  second_corner a b h = last_is_corner s b (h.inside b (inr (inl refl))) before
    where
      not_later : (q : Point) → In q s → Before b q → ⊥
      not_later q m k =
          let r = (covered (a ∷ b ∷ []) h q m).to in
          r.2 (either r.1 (λ e. subst (λ z. Before z q) (sym e) (before_transitive a b q h.shape.start.0 k))
          (λ i. either i (λ e. subst (λ z. Before z q) (sym e) k) (λ f. absurd f)))

      before : (q : Point) → In q s → (q ≡ b → ⊥) → Before q b
      before q m n =
          either (before_total q b) (λ k. k) (λ r. either r (λ e. absurd (n e)) (λ k. absurd (not_later q m k)))

  -- a place after the first, where there are three corners or more
  later_corner : (c : List Point) → Spans s c → (i : ℕ) → suc i < length c → 2 < length c → Corner s (point c (suc i))
  later_corner c h i g f = either (lt_or_le (suc (suc i)) (length c)) middle (λ k. last i g (omega arith))
    where
      left : (j : ℕ) → suc j < length c → (q : Point) → In q s → NonNegative (turn (point c j) (point c (suc j)) q)
      left j k q m = (covered c h q m).edges j k

      middle : suc (suc i) < length c → Corner s (point c (suc i))
      middle k =
          apex_is_corner s (point c (suc i)) (h.inside (point c (suc i)) (place_in c (suc i) g)) (point c i) (point c (suc (suc i)))
          (triples_place Left c h.shape.three i (suc i) (suc (suc i)) (omega arith) (omega arith) k) (left i g) (left (suc i) k)

      last : (i : ℕ) → suc i < length c → suc (suc i) ≡ length c → Corner s (point c (suc i))
      last zero g e = nowhere 0 (omega arith)
      last (suc i) g e =
          apex_is_corner s (point c (suc (suc i))) (h.inside (point c (suc (suc i))) (place_in c (suc (suc i)) g))
          (point c (suc i)) (point c 0)
          (subst Positive (turn_cyclic (point c 0) (point c (suc i)) (point c (suc (suc i))))
          (triples_place Left c h.shape.three 0 (suc i) (suc (suc i)) (omega arith) (omega arith) g))
          (left (suc i) g) (λ q m. (covered c h q m).closing (suc (suc i)) e)

  each_corner : (c : List Point) → Spans s c → All (Corner s) c
  each_corner [] h = tt
  each_corner (a ∷ []) h = (first_corner a [] h, tt)
  each_corner (a ∷ b ∷ []) h = (first_corner a (b ∷ []) h, (second_corner a b h, tt))
  each_corner (a ∷ b ∷ d ∷ l) h = (
    first_corner a (b ∷ d ∷ l) h,
    place_all (Corner s) (b ∷ d ∷ l) (λ i g. later_corner (a ∷ b ∷ d ∷ l) h i (omega arith) (omega arith)),
  )

-- no two points of a list of the shape are equal
shape_once : (c : List Point) → Shape c → Pairs (λ a b. a ≡ b → ⊥) c
shape_once [] h = tt
shape_once (a ∷ l) h = (
  all_map (Before a) (λ q. a ≡ q → ⊥) (λ q k e. before_irreflexive q (subst (λ z. Before z q) e k)) l h.start,
  pairs_map (Left a) (λ u v. u ≡ v → ⊥) l
      (λ u v i j k e. linear⊥ (coordinates (a ∷ v ∷ [])) (gap< (subst (λ z. Left a z v) e k)) (search quote depth 20) tt) h.three.0,
)

-- the second half: c is the corner list of s
pub corner_list_of_spanned : (s c : List Point) → Spans s c → CornerList s c
corner_list_of_spanned s c h = record {
  every = λ p k. either (yes_or_no (in? p c)) (λ i. i)
      (λ n. absurd (k.outside
      (hull_larger (Of c) (Rest s p) (λ q i. (h.inside q i, λ e. n (subst (λ z. In z c) e i))) p (h.cover p k.held))));
  only = all_in (Corner s) c (each_corner s c h);
  once = shape_once c h.shape;
  start = h.shape.start;
  three = h.shape.three;
}
