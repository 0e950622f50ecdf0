-- One scan of the points in the order of a linear functional (α, β): a stack of points, its top first, that turns left from its bottom up
-- and has all points passed on the left of its edges. Start, pop, push. The scan the other way is the same at (−α, −β). Assumes nothing.
use mathlib.Core.Path.{◌≡◌, refl, sym, subst}
use mathlib.Core.Logic.{◌⊎◌, inl, inr}
use mathlib.Core.List.{List, [], ◌∷◌}
use lib.IntN.{ℤ, pos, ◌+ℤ◌, ◌-ℤ◌, ◌*ℤ◌}
use Rattle.whole.proofs.Whole.{ring, quote, ◌≤ᶻ◌, ◌<ᶻ◌, NonNegative, Positive, gap≤, gap<, ◌⊞◌, linear≤, linear<, linear⊥, le_or_lt, le_of_equal, le_of_lt, nonnegative_by_products}
use Rattle.lattice.specs.Point.{Point, All, Pairs, Triples}
use Rattle.lattice.specs.Hull.{turn, Of}
use Rattle.lattice.proofs.Turn.{coordinates, linear, Left, three_vectors, start_on_edge, end_on_edge}
use Rattle.lattice.proofs.Lists.{either, all_map, pairs_map, Chain, Bends, chain_pairs, pairs_chain, bends_tail}
use Rattle.lattice.proofs.Shape.{triples_of_bends}

-- the lowest point of the stack t ∷ r
abbrev pub bottom : Point → List Point → Point
bottom t [] = t
bottom t (s ∷ r) = bottom s r

-- p on the stack t ∷ r turns left
abbrev pub TurnsLeft : Point → Point → List Point → Type 0
TurnsLeft p t [] = Unit {0}
TurnsLeft p t (s ∷ r) = Left s t p

-- M and one point more
abbrev pub With : Point → (Point → Type 0) → Point → Type 0
With p M q = (q ≡ p) ⊎ M q

module _ (α β : ℤ) where
  -- u comes after v
  abbrev pub Over : Point → Point → Type 0
  Over u v = linear α β v <ᶻ linear α β u

  -- the stack t ∷ r, where M has been passed: it rises, it bends to the left, all of M is on the left of its edges or on them, it is of M,
  -- and none of M is lower
  pub record Stacked (M : Point → Type 0) (t : Point) (r : List Point) : Type 0 where
    pub rising : Chain Over (t ∷ r)
    pub bent : Bends (λ u v w. Left w v u) (t ∷ r)
    pub left : (q : Point) → M q → Chain (λ u v. NonNegative (turn v u q)) (t ∷ r)
    pub passed : All M (t ∷ r)
    pub lowest : (q : Point) → M q → linear α β (bottom t r) ≤ᶻ linear α β q

  -- between two points of the scan: the top is the last point passed
  pub record Scanned (M : Point → Type 0) (t : Point) (r : List Point) : Type 0 where
    pub stacked : Stacked M t r
    pub highest : (q : Point) → M q → (q ≡ t) ⊎ Over t q

  -- while the stack is popped for the next point p
  pub record Popping (M : Point → Type 0) (p t : Point) (r : List Point) : Type 0 where
    pub stacked : Stacked M t r
    pub next : Over p t
    pub side : (q : Point) → M q → linear α β t ≤ᶻ linear α β q → NonNegative (turn t p q)
    pub beyond : (q : Point) → M q → Over p q

  -- ---- the order
  over_transitive : (u v w : Point) → Over u v → Over v w → Over u w
  over_transitive u v w h g = linear< (α ∷ β ∷ coordinates (u ∷ v ∷ w ∷ [])) (gap< h ⊞ gap< g) (search quote depth 20) tt

  rise : (u v : Point) → Over u v → Positive (linear α β u -ℤ linear α β v)
  rise u v h = linear< (α ∷ β ∷ coordinates (u ∷ v ∷ [])) (gap< h) (search quote depth 20) tt

  -- ---- any two of a stack rise, any three turn left
  inner_rise : (a b c d : Point) → (linear α β b -ℤ linear α β c) *ℤ turn d c a
      ≡ (linear α β c -ℤ linear α β d) *ℤ turn c b a +ℤ (linear α β a -ℤ linear α β c) *ℤ turn d c b
  inner_rise a b c d = ring (α ∷ β ∷ coordinates (a ∷ b ∷ c ∷ d ∷ [])) (search quote depth 20) tt

  outer_rise : (a b c d : Point) → (linear α β b -ℤ linear α β c) *ℤ turn d b a
      ≡ (linear α β b -ℤ linear α β d) *ℤ turn c b a +ℤ (linear α β a -ℤ linear α β b) *ℤ turn d c b
  outer_rise a b c d = ring (α ∷ β ∷ coordinates (a ∷ b ∷ c ∷ d ∷ [])) (search quote depth 20) tt

  pub stack_rises : (l : List Point) → Chain Over l → Pairs Over l
  stack_rises l h = chain_pairs Over l (λ u v w i j k. over_transitive u v w) h

  pub stack_turns : (l : List Point) → Chain Over l → Bends (λ u v w. Left w v u) l → Triples (λ u v w. Left w v u) l
  stack_turns l h g =
      triples_of_bends (λ u v w. turn w v u) (λ u v. linear α β u -ℤ linear α β v) inner_rise outer_rise l
      (pairs_map Over (λ u v. Positive (linear α β u -ℤ linear α β v)) l (λ u v i j. rise u v) (stack_rises l h)) g

  -- ---- start
  pub scan_start : (p : Point) → Scanned (Of (p ∷ [])) p []
  scan_start p = record {
    stacked = record {
      rising = tt;
      bent = tt;
      left = λ q m. tt;
      passed = (inl refl, tt);
      lowest = λ q m. either m (λ e. subst (λ z. linear α β p ≤ᶻ linear α β z) (sym e) (le_of_equal refl)) (λ f. absurd f);
    };
    highest = λ q m. either m (λ e. inl e) (λ f. absurd f);
  }

  -- the same points, said otherwise
  pub scan_same : (M N : Point → Type 0) → ((q : Point) → M q → N q) → ((q : Point) → N q → M q)
      → (t : Point) (r : List Point) → Scanned M t r → Scanned N t r
  scan_same M N f g t r h = record {
    stacked = record {
      rising = h.stacked.rising;
      bent = h.stacked.bent;
      left = λ q m. h.stacked.left q (g q m);
      passed = all_map M N f (t ∷ r) h.stacked.passed;
      lowest = λ q m. h.stacked.lowest q (g q m);
    };
    highest = λ q m. h.highest q (g q m);
  }

  module _ (M : Point → Type 0) (p : Point) where
    -- ---- pop
    pub pop_start : (t : Point) (r : List Point) → Scanned M t r → Over p t → Popping M p t r
    pop_start t r h n = record {
      stacked = h.stacked;
      next = n;
      side = λ q m g. either (h.highest q m)
          (λ e. subst (λ z. NonNegative (turn t p z)) (sym e) (start_on_edge t p))
          (λ l. linear⊥ (α ∷ β ∷ coordinates (t ∷ q ∷ [])) (gap< l ⊞ gap≤ g) (search quote depth 20) tt);
      beyond = λ q m. either (h.highest q m) (λ e. subst (Over p) (sym e) n) (over_transitive p t q n);
    }

    pub pop_step : (t s : Point) (r : List Point) → Popping M p t (s ∷ r) → turn s t p ≤ᶻ pos 0 → Popping M p s r
    pop_step t s r h g = record {
      stacked = record {
        rising = h.stacked.rising.1;
        bent = bends_tail (λ u v w. Left w v u) t (s ∷ r) h.stacked.bent;
        left = λ q m. (h.stacked.left q m).1;
        passed = h.stacked.passed.1;
        lowest = h.stacked.lowest;
      };
      next = n;
      side = λ q m i. nonnegative_by_products (three_vectors α β s p t q) (rise t s h.stacked.rising.0) (gap≤ i)
          (linear≤ (coordinates (s ∷ t ∷ p ∷ [])) (gap≤ g) (search quote depth 20) tt) (le_of_lt (rise p s n)) (h.stacked.left q m).0;
      beyond = h.beyond;
    }
      where
        n : Over p s
        n = over_transitive p t s h.next h.stacked.rising.0

    -- ---- push
    over_top : (s t q : Point) → (linear α β t -ℤ linear α β s) *ℤ turn t p q
        ≡ (linear α β t -ℤ linear α β q) *ℤ turn s t p +ℤ (linear α β p -ℤ linear α β t) *ℤ turn s t q
    over_top s t q = ring (α ∷ β ∷ coordinates (s ∷ t ∷ p ∷ q ∷ [])) (search quote depth 20) tt

    -- what lies lower than the top is on the left of the new edge
    under_top : (t : Point) (r : List Point) → Popping M p t r → TurnsLeft p t r
        → (q : Point) → M q → Over t q → NonNegative (turn t p q)
    under_top t [] h g q m l =
        linear⊥ (α ∷ β ∷ coordinates (t ∷ q ∷ [])) (gap< l ⊞ gap≤ (h.stacked.lowest q m)) (search quote depth 20) tt
    under_top t (s ∷ r) h g q m l =
        nonnegative_by_products (over_top s t q) (rise t s h.stacked.rising.0) (le_of_lt (rise t q l)) (le_of_lt g)
        (le_of_lt (rise p t h.next)) (h.stacked.left q m).0

    new_bend : (t : Point) (r : List Point) → TurnsLeft p t r → Bends (λ u v w. Left w v u) (t ∷ r)
        → Bends (λ u v w. Left w v u) (p ∷ t ∷ r)
    new_bend t [] g h = tt
    new_bend t (s ∷ r) g h = (g, h)

    -- the new point is on the left of the old edges
    over_edges : (t : Point) (r : List Point) → Popping M p t r → TurnsLeft p t r → Chain (λ u v. NonNegative (turn v u p)) (t ∷ r)
    over_edges t r h g =
        pairs_chain (λ u v. NonNegative (turn v u p)) (t ∷ r)
        (pairs_map (λ u v. Left v u p) (λ u v. NonNegative (turn v u p)) (t ∷ r) (λ u v i j. le_of_lt)
        (stack_turns (p ∷ t ∷ r) (h.next, h.stacked.rising) (new_bend t r g h.stacked.bent)).0)

    pub push : (t : Point) (r : List Point) → Popping M p t r → TurnsLeft p t r → Scanned (With p M) p (t ∷ r)
    push t r h g = record {
      stacked = record {
        rising = (h.next, h.stacked.rising);
        bent = new_bend t r g h.stacked.bent;
        left = λ q m. either m
            (λ e. subst (λ z. Chain (λ u v. NonNegative (turn v u z)) (p ∷ t ∷ r)) (sym e)
            (end_on_edge t p, over_edges t r h g))
            (λ i. (either (le_or_lt (linear α β t) (linear α β q)) (h.side q i) (under_top t r h g q i), h.stacked.left q i));
        passed = (inl refl, all_map M (With p M) (λ q m. inr m) (t ∷ r) h.stacked.passed);
        lowest = λ q m. either m (λ e. subst (λ z. linear α β (bottom t r) ≤ᶻ linear α β z) (sym e) low_p) (h.stacked.lowest q);
      };
      highest = λ q m. either m (λ e. inl e) (λ i. inr (h.beyond q i));
    }
      where
        low_p : linear α β (bottom t r) ≤ᶻ linear α β p
        low_p =
            linear≤ (α ∷ β ∷ coordinates (bottom t r ∷ t ∷ p ∷ [])) (gap≤ (h.stacked.lowest t h.stacked.passed.0) ⊞ gap< h.next)
            (search quote depth 20) tt
