-- The hull of a list of the shape with four points or more is cut from its first point to its third: into a triangle and the hull without
-- the second point, which have the segment of the cut in common. Assumes nothing.
use mathlib.Core.Path.{◌≡◌, refl, sym, ap, subst}
use mathlib.Core.Logic.{◌⊎◌, inl, inr}
use mathlib.Core.List.{List, [], ◌∷◌}
use Prim.Native.Nat.{ℕ, suc, ◌<◌}
use native.Mathlib.Omega.{arith}
use lib.ListN.{length}
use lib.IntN.{ℤ, pos, ◌+ℤ◌, ◌-ℤ◌}
use Rattle.whole.proofs.Whole.{quote, NonNegative, Positive, gap<, ◌⊞◌, ◌⊠◌, ◌⋆≡◌, linear≤, linear<, linear⊥, le_or_lt, le_of_lt, antisymmetric, nonnegative_factor}
use Rattle.lattice.specs.Point.{Point, point, In, All, Pairs, Before, row, column}
use Rattle.lattice.specs.Hull.{turn, InTriangle, InHull, triangle, Of}
use Rattle.lattice.proofs.Turn.{coordinates, Left, turn_back, turn_cyclic, start_on_edge, end_on_edge}
use Rattle.lattice.proofs.Lists.{either, in_all}
use Rattle.lattice.proofs.HalfPlane.{edge_half_plane}
use Rattle.lattice.proofs.HullLaws.{hull_larger}
use Rattle.lattice.proofs.Decide.{triangle?}
use Rattle.lattice.proofs.Shape.{Shape}
use Rattle.lattice.proofs.Polygon.{polygon}
use Rattle.pick.proofs.Number.{Number, number_overlap}
use Rattle.pick.proofs.Divisor.{Steps}
use Rattle.pick.proofs.Segment.{ahead, along_hull, number_two}

-- what holds of each edge from a through l and back to c
abbrev pub Edges : (Point → Point → Type 0) → Point → Point → List Point → Type 0
Edges R c a [] = R a c
Edges R c a (b ∷ l) = R a b × Edges R c b l

-- p is on the left of an edge, or on it
abbrev pub Beside : Point → Point → Point → Type 0
Beside p a b = NonNegative (turn a b p)

edges_by_place : (p c a : Point) (l : List Point)
    → ((i : ℕ) → suc i < length (a ∷ l) → NonNegative (turn (point (a ∷ l) i) (point (a ∷ l) (suc i)) p))
    → ((i : ℕ) → suc i ≡ length (a ∷ l) → NonNegative (turn (point (a ∷ l) i) c p)) → Edges (Beside p) c a l
edges_by_place p c a [] edges closing = closing 0 refl
edges_by_place p c a (b ∷ l) edges closing =
    (edges 0 (omega arith), edges_by_place p c b l (λ i h. edges (suc i) (omega arith)) (λ i e. closing (suc i) (ap suc e)))

pub hull_edges : (c : Point) (l : List Point) → Shape (c ∷ l) → (p : Point) → InHull (Of (c ∷ l)) p → Edges (Beside p) c c l
hull_edges c l s p h = let i = (polygon (c ∷ l) s p).0 h in edges_by_place p c c l i.edges i.closing

-- what is left of all edges is in one of the triangles about c
module _ (M : Point → Type 0) (p c : Point) (mc : M c) where
  fan : (a b : Point) (l : List Point) → M a → M b → All M l → Pairs (Left c) (a ∷ b ∷ l)
      → NonNegative (turn c a p) → Edges (Beside p) c a (b ∷ l) → InHull M p
  fan a b [] ma mb ml t h e =
      either (le_or_lt (turn c b p) (pos 0))
      (λ k. triangle c a b mc ma mb (record { turned = t.0.0; left_ab = h; left_bc = e.0; left_ca = turn_back c b p k }))
      (λ k. linear⊥ (coordinates (c ∷ b ∷ p ∷ [])) (gap< k ⊞ e.1) (search quote depth 20) tt)
  fan a b (d ∷ l) ma mb ml t h e =
      either (le_or_lt (turn c b p) (pos 0))
      (λ k. triangle c a b mc ma mb (record { turned = t.0.0; left_ab = h; left_bc = e.0; left_ca = turn_back c b p k }))
      (λ k. fan b d l mb ml.0 ml.1 t.1 (le_of_lt k) e.1)

pub edges_hull : (c a b : Point) (l : List Point) → Shape (c ∷ a ∷ b ∷ l) → (p : Point)
    → Edges (Beside p) c c (a ∷ b ∷ l) → InHull (Of (c ∷ a ∷ b ∷ l)) p
edges_hull c a b l s p e =
    fan (Of (c ∷ a ∷ b ∷ l)) p c (inl refl) a b l (inr (inl refl)) (inr (inr (inl refl)))
    (in_all (Of (c ∷ a ∷ b ∷ l)) l (λ q m. inr (inr (inr m)))) s.three.0 e.0 e.1

-- ---- three points
pub hull_triangle : (c a b : Point) → Shape (c ∷ a ∷ b ∷ []) → (p : Point) → InHull (Of (c ∷ a ∷ b ∷ [])) p → InTriangle c a b p
hull_triangle c a b s p h =
    let e = hull_edges c (a ∷ b ∷ []) s p h in
    record { turned = s.three.0.0.0; left_ab = e.0; left_bc = e.1.0; left_ca = e.1.1 }

-- ---- a functional that rises with row order from a to b
pub rising : (a b : Point) → Before a b → (α : ℤ) × (β : ℤ) × Positive (ahead α β a b)
rising a b (row h) = (pos 0, pos 1, linear< (coordinates (a ∷ b ∷ [])) (gap< h) (search quote depth 20) tt)
rising a b (column e h) = (pos 1, pos 0, linear< (coordinates (a ∷ b ∷ [])) (gap< h) (search quote depth 20) tt)

-- ---- four points or more, cut from c to b
pub without_second : (c a b : Point) (l : List Point) → Shape (c ∷ a ∷ b ∷ l) → Shape (c ∷ b ∷ l)
without_second c a b l s = record { start = s.start.1; three = (s.three.0.1, s.three.1.1) }

module _ (c a b d : Point) (l : List Point) (s : Shape (c ∷ a ∷ b ∷ d ∷ l)) where
  abbrev corners : List Point
  corners = c ∷ a ∷ b ∷ d ∷ l

  abbrev rest : List Point
  rest = c ∷ b ∷ d ∷ l

  turned : Left c a b
  turned = s.three.0.0.0

  cut : (p : Point) → InHull (Of corners) p → InTriangle c a b p ⊎ InHull (Of rest) p
  cut p h =
      let e = hull_edges c (a ∷ b ∷ d ∷ l) s p h in
      either (le_or_lt (turn c b p) (pos 0))
      (λ k. inl (record { turned = turned; left_ab = e.0; left_bc = e.1.0; left_ca = turn_back c b p k }))
      (λ k. inr (edges_hull c b d l (without_second c a b (d ∷ l) s) p (le_of_lt k, e.1.1)))

  triangle_in : (p : Point) → InTriangle c a b p → InHull (Of corners) p
  triangle_in p t = triangle c a b (inl refl) (inr (inl refl)) (inr (inr (inl refl))) t

  rest_in : (p : Point) → InHull (Of rest) p → InHull (Of corners) p
  rest_in = hull_larger (Of rest) (Of corners) (λ q i. either i (λ e. inl e) (λ j. inr (inr j)))

  -- the cut itself
  ends : (P : Point → Type 0) → P c → P b → (q : Point) → In q (c ∷ b ∷ []) → P q
  ends P pc pb q (inl e) = subst P (sym e) pc
  ends P pc pb q (inr (inl e)) = subst P (sym e) pb
  ends P pc pb q (inr (inr k)) = elim k [ ]

  cut_triangle : (p : Point) → InHull (Of (c ∷ b ∷ [])) p → InTriangle c a b p
  cut_triangle p h = record {
    turned = turned;
    left_ab = edge_half_plane c a (ends (λ q. NonNegative (turn c a q)) (start_on_edge c a) (le_of_lt turned)) h;
    left_bc = edge_half_plane a b
        (ends (λ q. NonNegative (turn a b q)) (subst NonNegative (turn_cyclic c a b) (le_of_lt turned)) (end_on_edge a b)) h;
    left_ca = edge_half_plane b c (ends (λ q. NonNegative (turn b c q)) (end_on_edge b c) (start_on_edge b c)) h;
  }

  cut_rest : (p : Point) → InHull (Of (c ∷ b ∷ [])) p → InHull (Of rest) p
  cut_rest = hull_larger (Of (c ∷ b ∷ [])) (Of rest) (ends (Of rest) (inl refl) (inr (inl refl)))

  module _ (g : ℤ) (steps : Steps c b g) where
    on_cut : (p : Point) → InTriangle c a b p → InHull (Of rest) p → InHull (Of (c ∷ b ∷ [])) p
    on_cut p t q = by_functional (rising c b s.start.1.0)
      where
        straight : turn c b p ≡ pos 0
        straight =
            antisymmetric (linear≤ (coordinates (c ∷ b ∷ p ∷ [])) t.left_ca (search quote depth 20) tt)
            (hull_edges c (b ∷ d ∷ l) (without_second c a b (d ∷ l) s) p q).0

        by_functional : (α : ℤ) × (β : ℤ) × Positive (ahead α β c b) → InHull (Of (c ∷ b ∷ [])) p
        by_functional f =
            let α = f.0 in
            let β = f.1 in
            along_hull α β c b g steps f.2 p (record {
              straight = straight;
              from = nonnegative_factor {a = turn c a b} {b = ahead α β c p}
                  (linear≤ (α ∷ β ∷ coordinates (c ∷ a ∷ b ∷ p ∷ [])) (t.left_ab ⊠ le_of_lt f.2 ⊞ ahead α β c a ⋆≡ straight)
                  (search quote depth 20) tt)
                  turned;
              to = nonnegative_factor {a = turn c a b} {b = ahead α β p b}
                  (linear≤ (α ∷ β ∷ coordinates (c ∷ a ∷ b ∷ p ∷ [])) (t.left_bc ⊠ le_of_lt f.2 ⊞ ahead α β a b ⋆≡ straight)
                  (search quote depth 20) tt)
                  turned;
            })

    pub number_cut : {t r : ℤ} → Number (InTriangle c a b) t → Number (InHull (Of rest)) r
        → Number (InHull (Of corners)) (t +ℤ r -ℤ (g +ℤ pos 1))
    number_cut nt nr =
        let f = rising c b s.start.1.0 in
        number_overlap (triangle? c a b) cut triangle_in rest_in cut_triangle cut_rest on_cut nt nr
        (number_two f.0 f.1 c b g steps f.2)
