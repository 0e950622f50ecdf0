-- Laws of solidity, the number of points over the number of lattice points in the hull: a set of points has one; it is 1.0 exactly if the
-- set is convex; and it is what the code divides. Assumes nothing.
use mathlib.Core.Path.{◌≡◌, sym, ◌∙◌, ap, subst}
use mathlib.Core.Logic.{◌↔◌}
use mathlib.Core.List.{List}
use Prim.Native.Nat.{ℕ, ◌+◌, ◌≤◌, ◌<◌}
use native.Mathlib.Omega.{arith}
use lib.Dec.{T}
use lib.ListN.{length, drop_of_length-le}
use lib.IntN.{ℤ, pos}
use lib.Ieee.{Float}
use lib.Ieee.Scale.{finite}
use Rattle.lattice.specs.Point.{Point, InRange, points, point, All, Pairs, Lists}
use Rattle.lattice.specs.Hull.{InHull, member, Of, MissingList, Convex}
use Rattle.lattice.proofs.Lists.{all_in}
use Rattle.lattice.proofs.Places.{place_in, in_place}
use Rattle.lattice.proofs.Frame.{hull_in_range}
use Rattle.lattice.proofs.SameMembers.{lists_unique, lists_same}
use Rattle.lattice.proofs.CornerLists.{corner_list_of_some, hull_of_corners}
use Rattle.lattice.proofs.MissingLists.{missing_list_exists, missing_count_distinct, convex_exactly}
use Rattle.packed.proofs.KeyLaws.{lists_small}
use Rattle.packed.specs.Corners.{Outline, CountOf}
use Rattle.figures.specs.Quotient.{exact, rounded}
use Rattle.figures.specs.Figure.{Solidity, Summable, Outlines}
use Rattle.figures.proofs.Rounding.{Divides, divides, one, one_exactly, quotient_finite}

pub solidity_unique : (s : List Point) (d e : Float) → Solidity s d → Solidity s e → d ≡ e
solidity_unique s d e h g =
    h.quotient ∙ ap (λ l. rounded (pos (length s)) (length l)) (lists_unique (InHull (Of s)) h.lattice g.lattice h.listed g.listed)
    ∙ sym g.quotient

-- ---- the lattice points of the hull of some points in range: not none, and so few that their number is exact as a double
module _ (s : List Point) (some : 0 < length s) (range : All InRange s) (l : List Point) (h : Lists (InHull (Of s)) l) where
  lattice_some : 0 < length l
  lattice_some = omega (arith, (in_place l (point s 0) (h.every (point s 0) (member (place_in s 0 some)))).1)

  lattice_exact : length l ≤ exact
  lattice_exact = omega (arith, lists_small (InHull (Of s)) (hull_in_range (Of s) (all_in InRange s range)) l h)

-- ---- 1.0 exactly if convex
module _ (s : List Point) (some : 0 < length s) (range : All InRange s) (once : Pairs (λ p q. p ≡ q → ⊥) s) (d : Float) (h : Solidity s d) where
  count : (m : List Point) → MissingList s m → length h.lattice ≡ length s + length m
  count m = missing_count_distinct s h.lattice m once h.listed

  few : length h.lattice ≤ exact
  few = lattice_exact s some range h.lattice h.listed

  pub solidity_one : (d ≡ one) ↔ Convex s
  solidity_one =
      let (m, listed) = missing_list_exists s in
      let equal = one_exactly (length s) (length h.lattice) some (omega (arith, count m listed)) few in
      let convex = convex_exactly s m listed in (
        (λ e. convex.1 (drop_of_length-le m {i = 0} (omega (arith, count m listed, equal.0 (sym h.quotient ∙ e))))),
        (λ c. h.quotient ∙ equal.1 (omega (arith, count m listed, ap length (convex.0 c)))),
      )

  -- the points are no more than the lattice points, so their number is exact too
  points_exact : length s ≤ exact
  points_exact = let (m, listed) = missing_list_exists s in omega (arith, few, count m listed)

  pub solidity_divides : Divides (pos (length s)) (length h.lattice) d
  solidity_divides = divides (pos (length s)) (length h.lattice) d points_exact (lattice_some s some range h.lattice h.listed) few h.quotient

  pub solidity_finite : T (finite d)
  solidity_finite =
      subst (λ x. T (finite x)) (sym h.quotient)
      (quotient_finite (pos (length s)) (length h.lattice) points_exact (lattice_some s some range h.lattice h.listed))

-- ---- as the code divides
module _ (list corners : List ℤ) (h : Summable list) (o : Outlines (points list) corners) where
  pub own_outline : Outline corners
  own_outline = record { range = o.range; listed = (corner_list_of_some (points corners)).1 (points list, o.corner) }

  module _ (r : ℕ) (n : CountOf (InHull (Of (points corners))) r) where
    hull_listed : Lists (InHull (Of (points list))) n.0
    hull_listed =
        let same = hull_of_corners (points list) (points corners) o.corner in
        lists_same (InHull (Of (points corners))) (InHull (Of (points list))) (λ p. (same p).1) (λ p. (same p).0) n.0 n.1

    pub counted_exact : (0 < r) × (r ≤ exact)
    counted_exact =
        omega (arith, n.2, lattice_some (points list) h.some h.range n.0 hull_listed, lattice_exact (points list) h.some h.range n.0 hull_listed)

    pub counted_solidity : (d : Float) → d ≡ rounded (pos (length (points list))) r → Solidity (points list) d
    counted_solidity d e = record {
      lattice = n.0;
      listed = hull_listed;
      quotient = e ∙ ap (rounded (pos (length (points list)))) n.2;
    }
