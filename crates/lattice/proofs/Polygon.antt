-- A point is in the hull of a list of a corner list's shape exactly if it is on the left of every edge or on it, and neither before all
-- corners nor after all in row order (which matters for one and two corners only). Assumes nothing.
use mathlib.Core.Path.{◌≡◌, refl, sym, subst}
use mathlib.Core.Logic.{inl, inr, ◌↔◌}
use mathlib.Core.List.{List, [], ◌∷◌}
use Prim.Native.Nat.{ℕ, zero, suc, ◌+◌, ◌<◌}
use native.Mathlib.Omega.{arith}
use lib.ListN.{length}
use lib.IntN.{ℤ, pos, neg_ℤ, ◌-ℤ◌, ◌*ℤ◌}
use Rattle.whole.proofs.Whole.{quote, ◌≤ᶻ◌, NonNegative, Positive, square_nonnegative, gap≤, gap<, ◌⊞◌, ◌⊠◌, ◌⋆≡◌, ◌∗≡◌, linear≤, linear<, linear⊥, linear≡, le_or_lt, le_of_lt, antisymmetric, product_positive, nonnegative_factor}
use Rattle.lattice.specs.Point.{Point, point, In, Triples, Before}
use Rattle.lattice.specs.Hull.{turn, OnSegment, InHull, member, segment, triangle, Of}
use Rattle.lattice.proofs.Turn.{coordinates, Left, turn_cyclic, turn_back, start_on_edge, end_on_edge}
use Rattle.lattice.proofs.Lists.{either, all_in}
use Rattle.lattice.proofs.Places.{lt_or_le, place_in, in_place, triples_place}
use Rattle.lattice.proofs.HalfPlane.{product_between, edge_half_plane}
use Rattle.lattice.proofs.Decide.{Decided, negated, yes_or_no, Some, some?, before?}
use Rattle.lattice.proofs.RowOrder.{before_irreflexive, before_transitive, before_total, before_not_before, not_before_before}
use Rattle.lattice.proofs.RowKey.{key_by, Orders, list_order, hull_after, hull_before}
use Rattle.lattice.proofs.Shape.{Shape}

-- p is on the left of each edge or on it, also of that from the last corner to the first; not all corners are after p, and not all before
pub record Inside (c : List Point) (p : Point) : Type 0 where
  pub edges : (i : ℕ) → suc i < length c → NonNegative (turn (point c i) (point c (suc i)) p)
  pub closing : (i : ℕ) → suc i ≡ length c → NonNegative (turn (point c i) (point c 0) p)
  pub from : Some (λ m. Before p m → ⊥) c
  pub to : Some (λ m. Before m p → ⊥) c

-- ---- each corner is inside
module _ (c : List Point) (h : Triples Left c) where
  left_of_edge : (i j : ℕ) → suc i < length c → j < length c → NonNegative (turn (point c i) (point c (suc i)) (point c j))
  left_of_edge i j g f =
      either (lt_or_le j i)
      (λ k. subst NonNegative (turn_cyclic (point c j) (point c i) (point c (suc i)))
      (le_of_lt (triples_place Left c h j i (suc i) k (omega arith) g)))
      (λ k. either (lt_or_le (suc i) j)
      (λ l. le_of_lt (triples_place Left c h i (suc i) j (omega arith) l f))
      (λ l. either (lt_or_le i j)
      (λ m. at_end (omega arith))
      (λ m. at_start (omega arith))))
    where
      Here : ℕ → Type 0
      Here n = NonNegative (turn (point c i) (point c (suc i)) (point c n))

      at_end : j ≡ suc i → Here j
      at_end e = subst Here (sym e) (end_on_edge (point c i) (point c (suc i)))

      at_start : j ≡ i → Here j
      at_start e = subst Here (sym e) (start_on_edge (point c i) (point c (suc i)))

  left_of_closing : (i j : ℕ) → suc i ≡ length c → j < length c → NonNegative (turn (point c i) (point c 0) (point c j))
  left_of_closing i zero g f = end_on_edge (point c i) (point c 0)
  left_of_closing i (suc j) g f =
      either (lt_or_le (suc j) i)
      (λ k. subst NonNegative (sym (turn_cyclic (point c i) (point c 0) (point c (suc j))))
      (le_of_lt (triples_place Left c h 0 (suc j) i (omega arith) k (omega arith))))
      (λ k. at_start (omega arith))
    where
      at_start : suc j ≡ i → NonNegative (turn (point c i) (point c 0) (point c (suc j)))
      at_start e = subst (λ n. NonNegative (turn (point c i) (point c 0) (point c n))) (sym e) (start_on_edge (point c i) (point c 0))

pub corner_inside : (c : List Point) → Shape c → (q : Point) → In q c → Inside c q
corner_inside c s q m =
    let r = in_place c q m in
    let place = sym r.2 in
    record {
      edges = λ i g. subst (λ z. NonNegative (turn (point c i) (point c (suc i)) z)) place (left_of_edge c s.three i r.0 g r.1);
      closing = λ i g. subst (λ z. NonNegative (turn (point c i) (point c 0) z)) place (left_of_closing c s.three i r.0 g r.1);
      from = (q, m, before_irreflexive q);
      to = (q, m, before_irreflexive q);
    }

-- ---- the hull of points inside is inside
-- not all of c has R with p, where of each point of M not all has
module _ (R : Point → Point → Type 0) (decide : (a b : Point) → Decided (R a b))
    (step : (p m q : Point) → R p m → (R q m → ⊥) → R p q) where
  not_all : (c : List Point) (M : Point → Type 0) (p : Point) → ((q : Point) → M q → Some (λ m. R q m → ⊥) c)
      → (((q : Point) → M q → R p q) → ⊥) → Some (λ m. R p m → ⊥) c
  not_all c M p f g =
      either (yes_or_no (some? (λ m. R p m → ⊥) (λ m. negated (decide p m)) c)) (λ h. h)
      (λ n. absurd (g (λ q i. let r = f q i in
      either (yes_or_no (decide p r.0)) (λ k. step p r.0 q k r.2) (λ k. absurd (n (r.0, r.1, k))))))

pub hull_inside : (c : List Point) (M : Point → Type 0) → ((q : Point) → M q → Inside c q) → (p : Point) → InHull M p → Inside c p
hull_inside c M f p h = record {
  edges = λ i g. edge_half_plane (point c i) (point c (suc i)) (λ q m. (f q m).edges i g) h;
  closing = λ i g. edge_half_plane (point c i) (point c 0) (λ q m. (f q m).closing i g) h;
  from = not_all Before before? before_not_before c M p (λ q m. (f q m).from)
      (λ g. before_irreflexive p (hull_after M p p g h));
  to = not_all (λ a b. Before b a) (λ a b. before? b a) not_before_before c M p (λ q m. (f q m).to)
      (λ g. before_irreflexive p (hull_before M p p g h));
}

-- ---- one and two corners
squeeze : (K k d e : ℤ) → K *ℤ e ≡ k *ℤ d → Positive K → NonNegative k → NonNegative (K -ℤ k) → NonNegative (e *ℤ (d -ℤ e))
squeeze K k d e q h i j =
    nonnegative_factor
    (linear≤ (K ∷ k ∷ d ∷ e ∷ []) ((i ⊠ j) ⊠ square_nonnegative d ⊞ (K *ℤ d -ℤ K *ℤ e -ℤ k *ℤ d) ⋆≡ sym q) (search quote depth 20) tt)
    (product_positive h h)

-- a point of the line from a to b that is between them in row order
pub on_segment_in_order : (a b p : Point) → Before a b → turn a b p ≡ pos 0 → (Before p a → ⊥) → (Before b p → ⊥) → OnSegment a b p
on_segment_in_order a b p h z f g = record {
  straight = z;
  x_between = product_between a.x b.x p.x
      (linear≤ ρ (squeeze (key_by K b -ℤ key_by K a) (key_by K p -ℤ key_by K a) (b.x -ℤ a.x) (p.x -ℤ a.x)
      (linear≡ ρ (neg_ℤ K ∗≡ z) (search quote depth 20) tt) whole low high) (search quote depth 20) tt);
  y_between = product_between a.y b.y p.y
      (linear≤ ρ (squeeze (key_by K b -ℤ key_by K a) (key_by K p -ℤ key_by K a) (b.y -ℤ a.y) (p.y -ℤ a.y)
      (linear≡ ρ (pos 1 ∗≡ z) (search quote depth 20) tt) whole low high) (search quote depth 20) tt);
}
  where
    K : ℤ
    K = (list_order (a ∷ b ∷ p ∷ [])).0

    order : Orders K (Of (a ∷ b ∷ p ∷ []))
    order = (list_order (a ∷ b ∷ p ∷ [])).1

    ρ : List ℤ
    ρ = K ∷ coordinates (a ∷ b ∷ p ∷ [])

    whole : Positive (key_by K b -ℤ key_by K a)
    whole = linear< (K ∷ coordinates (a ∷ b ∷ [])) (gap< (order.rises a b (inl refl) (inr (inl refl)) h)) (search quote depth 20) tt

    not_less : (u v : Point) → In u (a ∷ b ∷ p ∷ []) → In v (a ∷ b ∷ p ∷ []) → (Before u v → ⊥) → key_by K v ≤ᶻ key_by K u
    not_less u v i j n = either (le_or_lt (key_by K v) (key_by K u)) (λ k. k) (λ k. absurd (n (order.follows u v i j k)))

    low : NonNegative (key_by K p -ℤ key_by K a)
    low = gap≤ (not_less p a (inr (inr (inl refl))) (inl refl) f)

    high : NonNegative (key_by K b -ℤ key_by K a -ℤ (key_by K p -ℤ key_by K a))
    high =
        linear≤ (K ∷ coordinates (a ∷ b ∷ p ∷ [])) (gap≤ (not_less b p (inr (inl refl)) (inr (inr (inl refl))) g))
        (search quote depth 20) tt

-- ---- three corners or more: go round from the first, to where p is no more on the left
module _ (c : List Point) (s : Shape c) (p : Point) (h : Inside c p) where
  in_fan : (i : ℕ) → suc (suc i) < length c → NonNegative (turn (point c 0) (point c (suc i)) p)
      → turn (point c 0) (point c (suc (suc i))) p ≤ᶻ pos 0 → InHull (Of c) p
  in_fan i f g k =
      triangle (point c 0) (point c (suc i)) (point c (suc (suc i)))
      (place_in c 0 (omega arith)) (place_in c (suc i) (omega arith)) (place_in c (suc (suc i)) f) record {
        turned = triples_place Left c s.three 0 (suc i) (suc (suc i)) (omega arith) (omega arith) f;
        left_ab = g;
        left_bc = h.edges (suc i) f;
        left_ca = turn_back (point c 0) (point c (suc (suc i))) p k;
      }

  fan : (d i : ℕ) → suc (suc (suc i)) + d ≡ length c → NonNegative (turn (point c 0) (point c (suc i)) p) → InHull (Of c) p
  fan zero i e g =
      either (le_or_lt (turn (point c 0) (point c (suc (suc i))) p) (pos 0)) (in_fan i (omega arith) g)
      (λ k. linear⊥ (coordinates (point c 0 ∷ point c (suc (suc i)) ∷ p ∷ []))
      (gap< k ⊞ h.closing (suc (suc i)) (omega arith)) (search quote depth 20) tt)
  fan (suc d) i e g =
      either (le_or_lt (turn (point c 0) (point c (suc (suc i))) p) (pos 0)) (in_fan i (omega arith) g)
      (λ k. fan d (suc i) (omega arith) (le_of_lt k))

-- the only point of c, if there is one only
the_one : (a m : Point) → In m (a ∷ []) → m ≡ a
the_one a m i = either i (λ e. e) (λ f. absurd f)

inside_hull : (c : List Point) → Shape c → (p : Point) → Inside c p → InHull (Of c) p
inside_hull [] s p h = absurd h.from.1
inside_hull (a ∷ []) s p h =
    let not_below : Before p a → ⊥ = subst (λ m. Before p m → ⊥) (the_one a h.from.0 h.from.1) h.from.2 in
    let not_above : Before a p → ⊥ = subst (λ m. Before m p → ⊥) (the_one a h.to.0 h.to.1) h.to.2 in
    either (before_total p a) (λ k. absurd (not_below k)) (λ r. either r (λ e. member (inl e)) (λ k. absurd (not_above k)))
inside_hull (a ∷ b ∷ []) s p h =
    segment a b (inl refl) (inr (inl refl))
    (on_segment_in_order a b p a<b straight
    (λ k. h.from.2 (below h.from.0 h.from.1 k))
    (λ k. h.to.2 (above h.to.0 h.to.1 k)))
  where
    a<b : Before a b
    a<b = s.start.0

    straight : turn a b p ≡ pos 0
    straight =
        antisymmetric (linear≤ (coordinates (a ∷ b ∷ p ∷ [])) (h.closing 1 refl) (search quote depth 20) tt)
        (h.edges 0 (omega arith))

    below : (m : Point) → In m (a ∷ b ∷ []) → Before p a → Before p m
    below m (inl e) k = subst (Before p) (sym e) k
    below m (inr i) k = subst (Before p) (sym (the_one b m i)) (before_transitive p a b k a<b)

    above : (m : Point) → In m (a ∷ b ∷ []) → Before b p → Before m p
    above m (inl e) k = subst (λ z. Before z p) (sym e) (before_transitive a b p a<b k)
    above m (inr i) k = subst (λ z. Before z p) (sym (the_one b m i)) k
inside_hull (a ∷ b ∷ d ∷ l) s p h = fan (a ∷ b ∷ d ∷ l) s p h (length l) zero (omega arith) (h.edges zero (omega arith))

-- the theorem: a point is in the hull of a list of the shape exactly if it is inside
pub polygon : (c : List Point) → Shape c → (p : Point) → InHull (Of c) p ↔ Inside c p
polygon c s p = (hull_inside c (Of c) (corner_inside c s) p, inside_hull c s p)

-- the same by the first and the last corner in row order
pub record InsideEnds (c : List Point) (t p : Point) : Type 0 where
  pub edges : (i : ℕ) → suc i < length c → NonNegative (turn (point c i) (point c (suc i)) p)
  pub closing : (i : ℕ) → suc i ≡ length c → NonNegative (turn (point c i) (point c 0) p)
  pub from_first : Before p (point c 0) → ⊥
  pub to_last : Before t p → ⊥

pub polygon_by_ends : (c : List Point) → Shape c → (t : Point) → In t c → ((q : Point) → In q c → Before t q → ⊥)
    → (p : Point) → InHull (Of c) p ↔ InsideEnds c t p
polygon_by_ends [] s t m last p = absurd m
polygon_by_ends (a ∷ l) s t m last p = (λ h. to ((polygon (a ∷ l) s p).0 h), λ h. (polygon (a ∷ l) s p).1 (from h))
  where
    first : (q : Point) → In q (a ∷ l) → Before p a → Before p q
    first q (inl e) k = subst (Before p) (sym e) k
    first q (inr i) k = before_transitive p a q k (all_in (Before a) l s.start q i)

    to : Inside (a ∷ l) p → InsideEnds (a ∷ l) t p
    to h = record {
      edges = h.edges;
      closing = h.closing;
      from_first = λ k. h.from.2 (first h.from.0 h.from.1 k);
      to_last = λ k. h.to.2 (not_before_before p t h.to.0 k (last h.to.0 h.to.1));
    }

    from : InsideEnds (a ∷ l) t p → Inside (a ∷ l) p
    from h = record { edges = h.edges; closing = h.closing; from = (a, inl refl, h.from_first); to = (t, m, h.to_last) }
