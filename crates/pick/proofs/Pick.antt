-- Pick's theorem: the formula is twice the number of lattice points in the hull of a corner list, and so of all points; and how many points
-- are missing. Assumes nothing.
use mathlib.Core.Path.{◌≡◌, refl, sym, ◌∙◌, ap, subst}
use mathlib.Core.Logic.{inl, inr, ◌↔◌}
use mathlib.Core.List.{List, [], ◌∷◌}
use lib.ListN.{length}
use lib.IntN.{ℤ, pos, negsuc, nat_abs, ◌+ℤ◌, ◌*ℤ◌, ◌-ℤ◌, +ℤ_invr}
use Rattle.whole.proofs.Whole.{quote, linear≡, ◌∗≡◌, ◌∔◌}
use Rattle.lattice.specs.Point.{Point, In, Pairs, Before, Lists}
use Rattle.lattice.specs.Hull.{InHull, member, triangle, Of, CornerList, MissingList}
use Rattle.lattice.proofs.Turn.{coordinates}
use Rattle.lattice.proofs.Lists.{either}
use Rattle.lattice.proofs.RowOrder.{before_irreflexive, before_total}
use Rattle.lattice.proofs.RowKey.{hull_after, hull_before}
use Rattle.lattice.proofs.Shape.{Shape}
use Rattle.lattice.proofs.Polygon.{polygon}
use Rattle.lattice.proofs.SameMembers.{lists_same}
use Rattle.lattice.proofs.CornerLists.{corner_list_shape, hull_of_corners}
use Rattle.lattice.proofs.MissingLists.{hull_list_exists, missing_count_distinct}
use Rattle.pick.specs.Pick.{divisor, span, cross, around, area, border, twice_count}
use Rattle.pick.proofs.Number.{Number, Twice, number_unique, number_same, number_none, number_one}
use Rattle.pick.proofs.Divisor.{span_steps, steps_back}
use Rattle.pick.proofs.Segment.{number_two}
use Rattle.pick.proofs.Triangle.{pick_triangle}
use Rattle.pick.proofs.Fan.{rising, hull_triangle, without_second, number_cut}

-- ---- two corners
module _ (a b : Point) (first : Before a b) where
  two : Number (InHull (Of (a ∷ b ∷ []))) (span a b +ℤ pos 1)
  two = let f = rising a b first in number_two f.0 f.1 a b (span a b) (span_steps a b) f.2

  -- an edge falls into as many steps on the way back
  span_back : span b a ≡ span a b
  span_back =
      let f = rising a b first in
      linear≡ (span a b ∷ span b a ∷ [])
      (pos 1 ∗≡ number_unique (number_two f.0 f.1 a b (span b a) (steps_back b a (span_steps b a)) f.2) two)
      (search quote depth 20) tt

  twice_two : Twice (InHull (Of (a ∷ b ∷ []))) (twice_count (a ∷ b ∷ []))
  twice_two =
      (span a b +ℤ pos 1, two, linear≡ (span a b ∷ span b a ∷ coordinates (a ∷ b ∷ [])) (negsuc 0 ∗≡ span_back) (search quote depth 20) tt)

-- ---- three
twice_three : (c a b : Point) → Shape (c ∷ a ∷ b ∷ []) → Twice (InHull (Of (c ∷ a ∷ b ∷ []))) (twice_count (c ∷ a ∷ b ∷ []))
twice_three c a b s =
    let t = pick_triangle c a b (span c a) (span a b) (span b c) s.three.0.0.0
    (record { steps_ca = span_steps c a; steps_ab = span_steps a b; steps_bc = span_steps b c }) in (
      t.0,
      number_same (λ p i. triangle c a b (inl refl) (inr (inl refl)) (inr (inr (inl refl))) i) (hull_triangle c a b s) t.1,
      linear≡ (span c a ∷ span a b ∷ span b c ∷ t.0 ∷ coordinates (c ∷ a ∷ b ∷ [])) (pos 1 ∗≡ t.2) (search quote depth 20) tt,
    )

-- ---- more: the triangle of the first three and the rest
module _ (c a b d : Point) (l : List Point) (s : Shape (c ∷ a ∷ b ∷ d ∷ l)) where
  twice_more : (A B : ℤ) → Twice (InHull (Of (c ∷ b ∷ d ∷ l))) (cross c b +ℤ A +ℤ (span c b +ℤ B) +ℤ pos 2)
      → Twice (InHull (Of (c ∷ a ∷ b ∷ d ∷ l))) (cross c a +ℤ (cross a b +ℤ A) +ℤ (span c a +ℤ (span a b +ℤ B)) +ℤ pos 2)
  twice_more A B r =
      let t = pick_triangle c a b (span c a) (span a b) (span c b) s.three.0.0.0
      (record { steps_ca = span_steps c a; steps_ab = span_steps a b; steps_bc = steps_back c b (span_steps c b) }) in (
        t.0 +ℤ r.0 -ℤ (span c b +ℤ pos 1),
        number_cut c a b d l s (span c b) (span_steps c b) t.1 r.1,
        linear≡ (A ∷ B ∷ span c a ∷ span a b ∷ span c b ∷ t.0 ∷ r.0 ∷ coordinates (c ∷ a ∷ b ∷ []))
            (pos 1 ∗≡ t.2 ∔ pos 1 ∗≡ r.2) (search quote depth 20 fits 4000) tt,
      )

-- ---- every corner list
twice_many : (c a b : Point) (l : List Point) → Shape (c ∷ a ∷ b ∷ l) → Twice (InHull (Of (c ∷ a ∷ b ∷ l))) (twice_count (c ∷ a ∷ b ∷ l))
twice_many c a b [] s = twice_three c a b s
twice_many c a b (d ∷ l) s =
    twice_more c a b d l s (around cross c b (d ∷ l)) (around span c b (d ∷ l)) (twice_many c b d l (without_second c a b (d ∷ l) s))

only_point : (a p : Point) → InHull (Of (a ∷ [])) p → p ≡ a
only_point a p h =
    either (before_total p a)
    (λ k. absurd (before_irreflexive p (hull_after (Of (a ∷ [])) p p (the_one (Before p) k) h)))
    (λ r. either r (λ e. e) (λ k. absurd (before_irreflexive p (hull_before (Of (a ∷ [])) p p (the_one (λ q. Before q p) k) h))))
  where
    the_one : (P : Point → Type 0) → P a → (q : Point) → In q (a ∷ []) → P q
    the_one P k q (inl e) = subst P (sym e) k
    the_one P k q (inr n) = elim n [ ]

twice_hull : (c : List Point) → Shape c → Twice (InHull (Of c)) (twice_count c)
twice_hull [] s = (pos 0, number_none (λ p h. ((polygon [] s p).0 h).from.1), refl)
twice_hull (a ∷ []) s = (pos 1, number_same (λ p e. member (inl e)) (only_point a) (number_one a), refl)
twice_hull (a ∷ b ∷ []) s = twice_two a b s.start.0
twice_hull (c ∷ a ∷ b ∷ l) s = twice_many c a b l s

-- the theorem: twice the number of lattice points in the hull of a corner list
pub pick : (s c h : List Point) → CornerList s c → Lists (InHull (Of c)) h → pos 2 *ℤ pos (length h) ≡ twice_count c
pick s c h corners all =
    let r = twice_hull c (corner_list_shape s c corners) in
    ap (λ n. pos 2 *ℤ n) (number_unique (record { list = h; listed = all; size = refl }) r.1) ∙ r.2

-- ---- the formula is one for all lists that are not empty
no_span : (c : Point) → span c c ≡ pos 0
unfolding span
no_span c = λ i. pos (divisor (nat_abs (+ℤ_invr c.x i)) (nat_abs (+ℤ_invr c.y i)))

pub one_formula : (c : Point) (l : List Point) → twice_count (c ∷ l) ≡ area (c ∷ l) +ℤ border (c ∷ l) +ℤ pos 2
one_formula c [] = linear≡ (span c c ∷ coordinates (c ∷ [])) (negsuc 0 ∗≡ no_span c) (search quote depth 20) tt
one_formula c (b ∷ l) = refl

-- ---- the points missing from a list without repeats, from its corners and the number of its points alone
pub missing_length : (s c m : List Point) → Pairs (λ a b. a ≡ b → ⊥) s → CornerList s c → MissingList s m
    → pos 2 *ℤ pos (length m) ≡ twice_count c -ℤ pos 2 *ℤ pos (length s)
missing_length s c m once corners missing = let h = hull_list_exists s in by_hull h.0 h.1
  where
    within : (p : Point) → InHull (Of s) p ↔ InHull (Of c) p
    within = hull_of_corners s c corners

    by_hull : (h : List Point) → Lists (InHull (Of s)) h → pos 2 *ℤ pos (length m) ≡ twice_count c -ℤ pos 2 *ℤ pos (length s)
    by_hull h all =
        let counted : pos 2 *ℤ pos (length h) ≡ twice_count c = pick s c h corners
        (lists_same (InHull (Of s)) (InHull (Of c)) (λ p. (within p).0) (λ p. (within p).1) h all) in
        let sum : pos (length h) ≡ pos (length s) +ℤ pos (length m) = ap pos (missing_count_distinct s h m once all missing) in
        linear≡ (pos (length m) ∷ pos (length s) ∷ pos (length h) ∷ twice_count c ∷ []) (pos 1 ∗≡ counted ∔ negsuc 1 ∗≡ sum)
        (search quote depth 20) tt
