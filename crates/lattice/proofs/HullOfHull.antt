-- The hull of lattice points of the hull adds nothing. Assumes nothing.
use mathlib.Core.List.{List, [], ◌∷◌, ◌++◌}
use Rattle.lattice.specs.Point.{Point, All}
use Rattle.lattice.specs.Hull.{InHull, Of}
use Rattle.lattice.proofs.Lists.{either, all_in, in_all, all_map, in_left, in_right, in_cases}
use Rattle.lattice.proofs.HullLaws.{hull_larger, hull_of_few}
use Rattle.lattice.proofs.Polygon.{hull_inside, polygon}
use Rattle.lattice.proofs.Sandwich.{hull_of_spanned}
use Rattle.lattice.proofs.ScanAll.{spans_exist}

-- points in the hull of a list add nothing to it
pub hull_of_list : (t : List Point) (M : Point → Type 0) → ((q : Point) → M q → InHull (Of t) q)
    → (p : Point) → InHull M p → InHull (Of t) p
hull_of_list t M f p h =
    let c = spans_exist t in
    let within = hull_of_spanned t c.0 c.1 in
    let inside = polygon c.0 c.1.shape in
    (within p).1 ((inside p).1 (hull_inside c.0 M (λ q m. (inside q).0 ((within q).0 (f q m))) p h))

-- a list of points of the hull is in the hull of finitely many points of S
few_behind : (S : Point → Type 0) (l : List Point) → All (InHull S) l → (t : List Point) × All S t × All (InHull (Of t)) l
few_behind S [] h = ([], tt, tt)
few_behind S (a ∷ l) h =
    let f = hull_of_few S a h.0 in
    let r = few_behind S l h.1 in
    let t = f.0 ++ r.0 in (
      t,
      in_all S t (λ q m. either (in_cases q f.0 r.0 m) (all_in S f.0 f.1 q) (all_in S r.0 r.1 q)),
      (
        hull_larger (Of f.0) (Of t) (λ q. in_left q f.0 r.0) a f.2,
        all_map (InHull (Of r.0)) (InHull (Of t)) (hull_larger (Of r.0) (Of t) (λ q. in_right q f.0 r.0)) l r.2,
      ),
    )

-- the hull of the hull is the hull
pub hull_of_hull : (S : Point → Type 0) (p : Point) → InHull (InHull S) p → InHull S p
hull_of_hull S p h =
    let l = hull_of_few (InHull S) p h in
    let t = few_behind S l.0 l.1 in
    hull_larger (Of t.0) S (all_in S t.0 t.1) p
    (hull_of_list t.0 (Of l.0) (all_in (InHull (Of t.0)) l.0 t.2) p l.2)
