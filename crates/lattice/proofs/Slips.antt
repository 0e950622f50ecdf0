-- The slips this trade keeps making, each as a small theorem (document 01, "Slips this trade keeps making"). That a point on an edge is no
-- corner is `segment_point_no_corner` of RowEnds. Assumes nothing.
use mathlib.Core.Path.{◌≡◌, refl, sym}
use mathlib.Core.Logic.{◌⊎◌, inl, inr}
use mathlib.Core.List.{List, [], ◌∷◌, ◌++◌}
use Prim.Native.Nat.{ℕ, ◌+◌, ◌/◌}
use lib.ListN.{take}
use lib.IntN.{ℤ, pos, negsuc, ◌-ℤ◌}
use Rattle.whole.proofs.Whole.{ring, quote, ◌≤ᶻ◌, ◌<ᶻ◌, NonNegative, natural, gap<, ◌⊞◌, ◌⋆≡◌, linear≤, le_or_lt, antisymmetric}
use Rattle.lattice.specs.Point.{Point, origin, In, Before, Lists}
use Rattle.lattice.specs.Hull.{turn, InHull, member, segment, triangle, Of, StartsFirst, CornerList, Missing, Convex}
use Rattle.lattice.specs.Grains.{at}
use Rattle.lattice.proofs.Turn.{coordinates, Left, start_on_edge, end_on_edge}
use Rattle.lattice.proofs.Lists.{all_in, Bends}
use Rattle.lattice.proofs.HalfPlane.{point_equal, half_plane, edge_half_plane}
use Rattle.lattice.proofs.Decide.{triples?, lt?, starts_first?, missing?}
use Rattle.lattice.proofs.Polygon.{polygon_by_ends}
use Rattle.lattice.proofs.CornerLists.{corner_list_shape, hull_of_corners}

-- ---- turns of neighbours alone make no corner list: the star starts with its first point in row order and turns left all the way round
abbrev pub star : List Point
star =
    record { x = pos 0; y = negsuc 9 }
    ∷ record { x = pos 6; y = pos 8 }
    ∷ record { x = negsuc 9; y = negsuc 2 }
    ∷ record { x = pos 10; y = negsuc 2 }
    ∷ record { x = negsuc 5; y = pos 8 }
    ∷ []

pub star_starts_first : StartsFirst star
star_starts_first = (starts_first? star).sound tt

pub star_turns_left : Bends Left (star ++ take 2 star)
star_turns_left =
    (record { lt = tt }, (record { lt = tt }, (record { lt = tt }, (record { lt = tt }, (record { lt = tt }, tt)))))

pub star_no_corner_list : (s : List Point) → CornerList s star → ⊥
star_no_corner_list s h = (triples? Left (λ a b c. lt? (pos 0) (turn a b c)) star).complete h.three

-- ---- two points that do not touch can be convex, however far apart
pub far_pair_convex : (n : ℤ) → Convex (origin ∷ record { x = pos 1; y = n } ∷ [])
far_pair_convex n p h = by_column (le_or_lt p.x (pos 0))
  where
    b : Point
    b = record { x = pos 1; y = n }

    pair : List Point
    pair = origin ∷ record { x = pos 1; y = n } ∷ []

    low : NonNegative p.x
    low =
        half_plane (λ q. q.x) (pos 1) (pos 0) (pos 0) (λ q. ring (coordinates (q ∷ [])) (search quote depth 20) tt)
        (all_in (λ q. NonNegative q.x) pair (natural 0, (natural 1, tt))) h.within

    high : NonNegative (pos 1 -ℤ p.x)
    high =
        half_plane (λ q. pos 1 -ℤ q.x) (negsuc 0) (pos 0) (pos 1) (λ q. ring (coordinates (q ∷ [])) (search quote depth 20) tt)
        (all_in (λ q. NonNegative (pos 1 -ℤ q.x)) pair (natural 1, (natural 0, tt))) h.within

    left : NonNegative (turn origin b p)
    left =
        edge_half_plane origin b
        (all_in (λ q. NonNegative (turn origin b q)) pair
        (start_on_edge origin b, (end_on_edge origin b, tt))) h.within

    right : NonNegative (turn b origin p)
    right =
        edge_half_plane b origin
        (all_in (λ q. NonNegative (turn b origin q)) pair
        (end_on_edge b origin, (start_on_edge b origin, tt))) h.within

    ρ : List ℤ
    ρ = n ∷ coordinates (p ∷ [])

    by_column : (p.x ≤ᶻ pos 0) ⊎ (pos 0 <ᶻ p.x) → ⊥
    by_column (inl k) =
        let e : p.x ≡ pos 0 = antisymmetric k low in
        h.lacks (inl (point_equal e (antisymmetric
        (linear≤ ρ (right ⊞ n ⋆≡ e) (search quote depth 20) tt)
        (linear≤ ρ (left ⊞ n ⋆≡ sym e) (search quote depth 20) tt))))
    by_column (inr k) =
        let e : p.x ≡ pos 1 = antisymmetric (linear≤ ρ high (search quote depth 20) tt) (linear≤ ρ (gap< k) (search quote depth 20) tt) in
        h.lacks (inr (inl (point_equal e (antisymmetric
        (linear≤ ρ (right ⊞ n ⋆≡ e) (search quote depth 20) tt)
        (linear≤ ρ (left ⊞ n ⋆≡ sym e) (search quote depth 20) tt)))))

-- ---- Pick's formula, from twice the area and the points on the border
abbrev pub pick : ℕ → ℕ → ℕ
pick twice_area border = (twice_area + border + 2) / 2

-- on the empty grain it counts 1, and there is no lattice point
pub pick_miscounts_nothing : (pick 0 0 ≡ 1) × Lists (InHull (Of [])) []
pick_miscounts_nothing = (refl, record { every = none; only = λ p m. absurd m; order = tt })
  where
    none : (p : Point) → InHull (Of []) p → ⊥
    none p (member m) = m
    none p (segment a b u v i) = u
    none p (triangle a b c u v w i) = u

-- ---- the search must not end before the last row or the last column
-- the last corner in row order is in the hull, and nothing of the hull is later
pub last_corner_counts : (s c : List Point) (t : Point) → CornerList s c → In t c → ((q : Point) → In q c → Before t q → ⊥)
    → InHull (Of s) t × ((p : Point) → InHull (Of s) p → Before t p → ⊥)
last_corner_counts s c t h m last =
    (member (h.only t m).held, λ p i. ((polygon_by_ends c (corner_list_shape s c h) t m last p).0 ((hull_of_corners s c h p).0 i)).to_last)

pub missing_in_last_row : Missing (at 1 0 ∷ at 0 1 ∷ at 2 1 ∷ []) (at 1 1)
missing_in_last_row = (missing? (at 1 0 ∷ at 0 1 ∷ at 2 1 ∷ []) (at 1 1)).sound tt

pub missing_in_last_column : Missing (at 0 1 ∷ at 1 0 ∷ at 1 2 ∷ []) (at 1 1)
missing_in_last_column = (missing? (at 0 1 ∷ at 1 0 ∷ at 1 2 ∷ []) (at 1 1)).sound tt
