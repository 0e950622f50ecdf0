-- Of all edges of a hull only two matter to a row: the rising one and the falling one that cross it. And where they are found. Assumes nothing.
use mathlib.Core.Path.{◌≡◌, refl, sym, ◌∙◌, ap, subst, subst₂}
use mathlib.Core.Logic.{inl, inr, ◌↔◌}
use mathlib.Core.List.{List, [], ◌∷◌, map}
use Prim.Native.Nat.{ℕ, suc, ◌+◌, ◌-◌, ◌/◌, ◌%◌, ◌≤◌, ◌<◌}
use native.Mathlib.Numerals.{add-one}
use native.Mathlib.Omega.{arith}
use lib.ListN.{length, get_or, length-map}
use lib.IntN.{pos, ◌+ℤ◌, ◌-ℤ◌, ◌*ℤ◌}
use lib.Signed.{◌≤ℤ◌, ◌<ℤ◌}
use Rattle.whole.proofs.Whole.{ring, quote, NonNegative, Positive, gap≤, gap<, ◌⊞◌, ◌⊠◌, ◌⋆≡◌, natural, linear≤, linear<, linear⊥, le_or_lt, le_of_lt, nonnegative_factor, positive_factor, product_positive}
use Rattle.lattice.specs.Point.{Point, point, In, Before}
use Rattle.lattice.specs.Hull.{turn, InHull, member, Of}
use Rattle.lattice.proofs.Lists.{either}
use Rattle.lattice.proofs.Places.{lt_or_le}
use Rattle.lattice.proofs.Turn.{coordinates, Left}
use Rattle.lattice.proofs.Polygon.{InsideEnds}
use Rattle.packed.specs.Packed.{side, cells, placed, unpacked}
use Rattle.packed.specs.Corners.{Cornered}
use Rattle.packed.proofs.RowOrder.{placed_order, order_placed, placed_grows}
use Rattle.packed.proofs.KeyLaws.{unpacked_at, unpacked_in}
use Rattle.packed.proofs.Corners.{first_least, none_before, any_three}
use Rattle.stretch.specs.Stretch.{cell, Bounded, StretchOf, Peaked, Tall, After, Rises, Falls, RisesFrom, FallsFrom, FirstRises}
use Rattle.stretch.specs.declared.Stretch.{Stretch}
use Rattle.stretch.proofs.Counting.{LeftOf, EndsAt, BeginsAt, at_foot, at_head}
use Rattle.stretch.proofs.Rowing.{cornered_of, Between, in_hull, cells_between, between_cells}

-- ---- an edge u v with a, b on its left, and p between their rows on the left of the way from a up to b, down to b
-- where u v rises, p is on the left of u v as well
module _ (u v a b p : Point) (on_a : NonNegative (turn u v a)) (on_b : NonNegative (turn u v b)) (on_p : NonNegative (turn a b p)) where
  up_left : a.y <ℤ b.y → a.y ≤ℤ p.y → p.y ≤ℤ b.y → u.y ≤ℤ v.y → NonNegative (turn u v p)
  up_left steep low high up =
      nonnegative_factor (subst NonNegative (sym identity) (rest ⊠ on_a ⊞ passed ⊠ on_b ⊞ rise ⊠ on_p)) height
    where
      identity : (b.y -ℤ a.y) *ℤ turn u v p ≡ (b.y -ℤ p.y) *ℤ turn u v a +ℤ ((p.y -ℤ a.y) *ℤ turn u v b +ℤ (v.y -ℤ u.y) *ℤ turn a b p)
      identity = ring (coordinates (u ∷ v ∷ a ∷ b ∷ p ∷ [])) (search quote depth 20) tt

      height : Positive (b.y -ℤ a.y)
      height = linear< (coordinates (a ∷ b ∷ [])) (gap< steep) (search quote depth 20) tt

      rest : NonNegative (b.y -ℤ p.y)
      rest = linear≤ (coordinates (b ∷ p ∷ [])) (gap≤ high) (search quote depth 20) tt

      passed : NonNegative (p.y -ℤ a.y)
      passed = linear≤ (coordinates (a ∷ p ∷ [])) (gap≤ low) (search quote depth 20) tt

      rise : NonNegative (v.y -ℤ u.y)
      rise = linear≤ (coordinates (u ∷ v ∷ [])) (gap≤ up) (search quote depth 20) tt

  down_left : b.y <ℤ a.y → b.y ≤ℤ p.y → p.y ≤ℤ a.y → v.y ≤ℤ u.y → NonNegative (turn u v p)
  down_left steep low high down =
      nonnegative_factor (subst NonNegative (sym identity) (passed ⊠ on_a ⊞ rest ⊠ on_b ⊞ fall ⊠ on_p)) height
    where
      identity : (a.y -ℤ b.y) *ℤ turn u v p ≡ (p.y -ℤ b.y) *ℤ turn u v a +ℤ ((a.y -ℤ p.y) *ℤ turn u v b +ℤ (u.y -ℤ v.y) *ℤ turn a b p)
      identity = ring (coordinates (u ∷ v ∷ a ∷ b ∷ p ∷ [])) (search quote depth 20) tt

      height : Positive (a.y -ℤ b.y)
      height = linear< (coordinates (a ∷ b ∷ [])) (gap< steep) (search quote depth 20) tt

      rest : NonNegative (a.y -ℤ p.y)
      rest = linear≤ (coordinates (a ∷ p ∷ [])) (gap≤ high) (search quote depth 20) tt

      passed : NonNegative (p.y -ℤ b.y)
      passed = linear≤ (coordinates (b ∷ p ∷ [])) (gap≤ low) (search quote depth 20) tt

      fall : NonNegative (u.y -ℤ v.y)
      fall = linear≤ (coordinates (u ∷ v ∷ [])) (gap≤ down) (search quote depth 20) tt

-- ---- three corners of which two are in one row
-- on the left of a way along the row is above it
above : (a b p : Point) → a.y ≡ b.y → a.x <ℤ b.x → Left a b p → b.y <ℤ p.y
above a b p e h l =
    let w : Positive (b.x -ℤ a.x) = linear< (coordinates (a ∷ b ∷ [])) (gap< h) (search quote depth 20) tt in
    let k : Positive ((b.x -ℤ a.x) *ℤ (p.y -ℤ a.y)) = subst Positive (ap (λ z. (b.x -ℤ a.x) *ℤ (p.y -ℤ a.y) -ℤ (z -ℤ a.y) *ℤ (p.x -ℤ a.x)) (sym e) ∙ ring (coordinates (a ∷ b ∷ p ∷ [])) (search quote depth 20) tt) l in
    let r : Positive (p.y -ℤ a.y) = positive_factor k w in
    linear< (coordinates (a ∷ b ∷ p ∷ [])) (gap< r ⊞ pos 1 ⋆≡ sym e) (search quote depth 20) tt

-- what is on the left of a rising way is not to the right in its first row
not_right : (a b p : Point) → a.y ≡ p.y → a.y <ℤ b.y → a.x <ℤ p.x → Left a b p → ⊥
not_right a b p e h g l =
    let w : Positive (b.y -ℤ a.y) = linear< (coordinates (a ∷ b ∷ [])) (gap< h) (search quote depth 20) tt in
    let k : Positive (p.x -ℤ a.x) = linear< (coordinates (a ∷ p ∷ [])) (gap< g) (search quote depth 20) tt in
    let r : Positive ((b.x -ℤ a.x) *ℤ (a.y -ℤ a.y) -ℤ (b.y -ℤ a.y) *ℤ (p.x -ℤ a.x)) =
    subst (λ z. Positive ((b.x -ℤ a.x) *ℤ (z -ℤ a.y) -ℤ (b.y -ℤ a.y) *ℤ (p.x -ℤ a.x))) (sym e) l in
    linear⊥ (coordinates (a ∷ b ∷ p ∷ [])) (gap< r ⊞ gap< (product_positive w k)) (search quote depth 20) tt

-- ---- the corner after another
pub after_below : (corners : List ℕ) (i r : ℕ) → ((j : ℕ) → j < length corners → get_or corners j 0 < cells) → After corners i r → r < cells
after_below corners i r f (inl h) = subst (λ n. n < cells) (sym h.1) (f (suc i) h.0)
after_below corners i r f (inr h) = subst (λ n. n < cells) (sym h.1) (f 0 (omega (arith, h.0)))

-- ---- where the edges are found
module _ (corners : List ℕ) (peak y : ℕ) (h : Peaked corners peak y) where
  abbrev row_at : ℕ → ℕ
  row_at i = get_or corners i 0 / side

  listed : Cornered corners
  listed = cornered_of h

  first_row_lem : (i : ℕ) → i < length corners → row_at 0 ≤ row_at i
  first_row_lem i l = omega (arith, none_before listed i l)

  module _ (t : Tall corners peak) where
    later : 0 < peak
    later = either (lt_or_le 0 peak) (λ l. l) (λ l. let e : peak ≡ 0 = omega arith in absurd (omega (arith, t, ap row_at e)))

    pub two_corners : 1 < length corners
    two_corners = omega (arith, later, h.peaks.inside)

    pub rising_first : (row_at 0 ≡ row_at 1 → ⊥) → FirstRises corners peak 0
    rising_first e = record {
      before = later;
      rises = record {
        inside = two_corners;
        low = omega arith;
        high = first_row_lem 1 two_corners;
        steep = either (lt_or_le (row_at 0) (row_at 1)) (λ l. l) (λ l. absurd (e (omega (arith, l, first_row_lem 1 two_corners))));
      };
    }

    pub rising_second : row_at 0 ≡ row_at 1 → FirstRises corners peak 1
    rising_second e = record { before = second; rises = record { inside = third; low = omega (arith, e); high = first_row_lem 2 third; steep = rises } }
      where
        second : 1 < peak
        second =
            either (lt_or_le 1 peak) (λ l. l) (λ l. let d : peak ≡ 1 = omega (arith, later) in absurd (omega (arith, t, e, ap row_at d)))

        third : 2 < length corners
        third = omega (arith, second, h.peaks.inside)

        rises : row_at 1 < row_at 2
        rises =
            order_placed (row_at 1) (row_at 2)
            (above (unpacked (get_or corners 0 0)) (unpacked (get_or corners 1 0)) (unpacked (get_or corners 2 0)) (ap placed e)
            (placed_order (get_or corners 0 0 % side) (get_or corners 1 0 % side) (omega (arith, e, first_least listed 0 two_corners))) (any_three listed 0 1 2 (omega arith) (omega arith) third))

    -- the last edge falls to the first corner
    pub falling_last : Falls corners (row_at 0) (length corners - 1) (get_or corners 0 0)
    falling_last = record {
      inside = omega (arith, two_corners);
      after = inr (omega (arith, two_corners), refl);
      high = first_row_lem (length corners - 1) (omega (arith, two_corners));
      low = omega arith;
      steep = either (lt_or_le (row_at 0) (row_at (length corners - 1))) (λ l. l) (λ l. absurd (falls l));
    }
      where
        falls : row_at (length corners - 1) ≤ row_at 0 → ⊥
        falls l =
            let k = length corners - 1 in
            let e : row_at 0 ≡ row_at k = omega (arith, l, first_row_lem k (omega (arith, h.peaks.inside))) in
            either (lt_or_le peak k)
            (λ m. let d : suc (k - 1) ≡ k = omega (arith, m) in
            not_right (unpacked (get_or corners 0 0)) (unpacked (get_or corners peak 0)) (unpacked (get_or corners k 0)) (ap placed e)
            (placed_order (row_at 0) (row_at peak) t)
            (placed_order (get_or corners 0 0 % side) (get_or corners k 0 % side)
            (omega (arith, e, subst (λ n. get_or corners 0 0 < get_or corners n 0) d (first_least listed (k - 1) (omega (arith, m, two_corners))))))
            (any_three listed 0 peak k later m (omega (arith, two_corners))))
            (λ m. let d : peak ≡ k = omega (arith, m, h.peaks.inside) in omega (arith, t, e, ap row_at d))

  -- ---- one edge further
  module _ (i : ℕ) where
    pub rises_on : RisesFrom corners peak y i → row_at (i + 1) < y → RisesFrom corners peak y (i + 1)
    rises_on r u = record {
      before = either (lt_or_le (i + 1) peak) (λ l. l)
          (λ l. let e : i + 1 ≡ peak = omega (arith, l, r.before) in absurd (omega (arith, u, h.to_row, ap row_at e)));
      low = u;
    }

    pub rises_here : RisesFrom corners peak y i → y ≤ row_at (i + 1) → Rises corners y i
    rises_here r v = let u : y ≤ row_at (suc i) = subst (λ n. y ≤ row_at n) (add-one i) v in record {
      inside = omega (arith, r.before, h.peaks.inside);
      low = omega (arith, r.low);
      high = u;
      steep = omega (arith, r.low, u);
    }

    pub rises_tall : RisesFrom corners peak y i → Tall corners peak
    rises_tall r = omega (arith, r.low, h.to_row, first_row_lem i (omega (arith, r.before, h.peaks.inside)))

    pub falls_tall : FallsFrom corners peak y i → Tall corners peak
    falls_tall r = omega (arith, r.low, h.to_row, first_row_lem (i + 1) (omega (arith, r.inside)))

    pub falls_past : FallsFrom corners peak y i → row_at i < y → peak < i
    falls_past r u =
        either (lt_or_le peak i) (λ l. l) (λ l. let e : peak ≡ i = omega (arith, l, r.behind) in absurd (omega (arith, u, h.to_row, ap row_at e)))

    pub falls_on : FallsFrom corners peak y i → row_at i < y → FallsFrom corners peak y (i - 1)
    falls_on r u = let e : i ≡ i - 1 + 1 = omega (arith, falls_past r u) in record {
      behind = omega (arith, falls_past r u);
      inside = omega (arith, r.inside, falls_past r u);
      low = subst (λ n. row_at n < y) e u;
    }

    pub falls_here : FallsFrom corners peak y i → y ≤ row_at i → Falls corners y i (get_or corners (i + 1) 0)
    falls_here r u = record {
      inside = omega (arith, r.inside);
      after = inl (r.inside, ap (λ n. get_or corners n 0) (add-one i));
      high = u;
      low = omega (arith, r.low);
      steep = omega (arith, r.low, u);
    }

-- ---- what the two edges leave of a row
placed_le : (m n : ℕ) → m ≤ n → placed m ≤ℤ placed n
placed_le m n h = linear≤ (placed m ∷ placed n ∷ []) (placed_grows m n h) (search quote depth 20) tt

-- along one row nothing turns
no_turn : (a b p : Point) → a.y ≡ p.y → b.y ≡ p.y → NonNegative (turn a b p)
no_turn a b p e f =
    subst (λ z. NonNegative ((b.x -ℤ a.x) *ℤ (p.y -ℤ z) -ℤ (b.y -ℤ z) *ℤ (p.x -ℤ a.x))) (sym e)
    (subst (λ z. NonNegative ((b.x -ℤ a.x) *ℤ (p.y -ℤ p.y) -ℤ (z -ℤ p.y) *ℤ (p.x -ℤ a.x))) (sym f)
    (linear≤ (coordinates (a ∷ b ∷ p ∷ [])) (natural 0) (search quote depth 20) tt))

module _ (corners : List ℕ) (peak y : ℕ) (h : Peaked corners peak y) where
  abbrev last : ℕ
  last = get_or corners peak 0

  inside : (p : Point) → InHull (Of (map unpacked corners)) p ↔ InsideEnds (map unpacked corners) (unpacked last) p
  inside = in_hull corners peak y h

  -- a hull of one row
  module _ (n : Tall corners peak → ⊥) where
    in_row : (i : ℕ) → i < length corners → (point (map unpacked corners) i).y ≡ placed y
    in_row i l =
        let e : get_or corners i 0 / side ≡ y = omega (arith, l, first_row_lem corners peak y h i l, h.peaks.greatest i l, h.from_row, h.to_row, not_lt n) in
        ap (λ p. p.y) (unpacked_at corners i l) ∙ ap placed e
      where
        not_lt : {a b : ℕ} → (a < b → ⊥) → b ≤ a
        not_lt f = omega (arith, f)

    flat_ends : (x : ℕ) → Between corners last y x → InsideEnds (map unpacked corners) (unpacked last) (cell x y)
    flat_ends x between = record {
      edges = λ k u. no_turn (point (map unpacked corners) k) (point (map unpacked corners) (suc k)) (cell x y)
          (in_row k (omega (arith, u, length-map corners unpacked))) (in_row (suc k) (omega (arith, u, length-map corners unpacked)));
      closing = λ k u. no_turn (point (map unpacked corners) k) (point (map unpacked corners) 0) (cell x y)
          (in_row k (omega (arith, u, length-map corners unpacked))) (in_row 0 (omega (arith, h.peaks.inside)));
      from_first = λ u. between.0 (subst (Before (cell x y)) (unpacked_at corners 0 (omega (arith, h.peaks.inside))) u);
      to_last = between.1;
    }

    same_row : (get_or corners 0 0 / side ≡ y) × (last / side ≡ y)
    same_row = (omega (arith, n, h.from_row, h.to_row), omega (arith, n, h.from_row, h.to_row))

    pub flat : (t : Stretch) → Bounded (get_or corners 0 0 % side) (last % side + 1) t → StretchOf (map unpacked corners) y t
    flat t k = record {
      rising = k.in_order;
      few = omega (arith, k.ends);
      inside = λ x w. let u = (k.exactly x).0 w in
          (inside (cell x y)).1 (flat_ends x (cells_between corners peak y h x (omega (arith, u.1)) (omega (arith, u.0, same_row)) (omega (arith, u.1, same_row))));
      all = λ x m i. let v = (inside (cell x y)).0 i in
          let u = between_cells corners peak y h x m
          ((λ b. v.from_first (subst (Before (cell x y)) (sym (unpacked_at corners 0 (omega (arith, h.peaks.inside)))) b)), v.to_last) in
          (k.exactly x).1 (omega (arith, u.0, m, same_row), omega (arith, u.1, m, same_row));
    }

  module _ (i : ℕ) (r : Rises corners y i) (j end : ℕ) (f : Falls corners y j end) where
    -- the ends of the two edges
    a : Point
    a = unpacked (get_or corners i 0)

    b : Point
    b = unpacked (get_or corners (suc i) 0)

    d : Point
    d = unpacked (get_or corners j 0)

    e : Point
    e = unpacked end

    end_in : In e (map unpacked corners)
    unfolding e
    end_in = either f.after
        (λ k. subst (λ n. In (unpacked n) (map unpacked corners)) (sym k.1) (unpacked_in corners (suc j) k.0))
        (λ k. subst (λ n. In (unpacked n) (map unpacked corners)) (sym k.1) (unpacked_in corners 0 (omega (arith, f.inside))))

    -- on the left of both, so of every edge
    left_of_all : (u v : Point) → ((q : Point) → In q (map unpacked corners) → NonNegative (turn u v q)) → (x : ℕ)
        → LeftOf (get_or corners i 0) (get_or corners (suc i) 0) y x → LeftOf (get_or corners j 0) end y x → NonNegative (turn u v (cell x y))
    unfolding a b d e
    left_of_all u v on x up down =
        either (le_or_lt u.y v.y)
        (λ k. up_left u v a b (cell x y) (on a (unpacked_in corners i (omega (arith, r.inside)))) (on b (unpacked_in corners (suc i) r.inside)) up
        (placed_order (get_or corners i 0 / side) (get_or corners (suc i) 0 / side) r.steep) (placed_le (get_or corners i 0 / side) y r.low)
        (placed_le y (get_or corners (suc i) 0 / side) r.high) k)
        (λ k. down_left u v d e (cell x y) (on d (unpacked_in corners j f.inside)) (on e end_in) down
        (placed_order (end / side) (get_or corners j 0 / side) f.steep) (placed_le (end / side) y f.low)
        (placed_le y (get_or corners j 0 / side) f.high) (le_of_lt k))

    inside_ends : (x : ℕ) → Between corners last y x → LeftOf (get_or corners i 0) (get_or corners (suc i) 0) y x → LeftOf (get_or corners j 0) end y x
        → InsideEnds (map unpacked corners) (unpacked last) (cell x y)
    inside_ends x between up down = record {
      edges = λ k u. left_of_all (point (map unpacked corners) k) (point (map unpacked corners) (suc k)) (λ q m. ((inside q).0 (member m)).edges k u) x up down;
      closing = λ k u. left_of_all (point (map unpacked corners) k) (point (map unpacked corners) 0) (λ q m. ((inside q).0 (member m)).closing k u) x up down;
      from_first = λ u. between.0 (subst (Before (cell x y)) (unpacked_at corners 0 (omega (arith, f.inside))) u);
      to_last = between.1;
    }

    ends_inside : (x : ℕ) → InsideEnds (map unpacked corners) (unpacked last) (cell x y)
        → LeftOf (get_or corners i 0) (get_or corners (suc i) 0) y x × LeftOf (get_or corners j 0) end y x
    ends_inside x s = (
      subst₂ (λ p q. NonNegative (turn p q (cell x y))) (unpacked_at corners i (omega (arith, r.inside))) (unpacked_at corners (suc i) r.inside)
          (s.edges i (omega (arith, r.inside, length-map corners unpacked))),
      either f.after
          (λ k. subst₂ (λ p q. NonNegative (turn p q (cell x y))) (unpacked_at corners j f.inside) (unpacked_at corners (suc j) k.0 ∙ ap unpacked (sym k.1))
          (s.edges j (omega (arith, k.0, length-map corners unpacked))))
          (λ k. subst₂ (λ p q. NonNegative (turn p q (cell x y))) (unpacked_at corners j f.inside) (unpacked_at corners 0 (omega (arith, f.inside)) ∙ ap unpacked (sym k.1))
          (s.closing j (omega (arith, k.0, length-map corners unpacked)))),
    )

    -- on the left of both it is between the first corner and the last
    both_between : (x : ℕ) → x < side → LeftOf (get_or corners i 0) (get_or corners (suc i) 0) y x → LeftOf (get_or corners j 0) end y x
        → Between corners last y x
    both_between x n up down =
        cells_between corners peak y h x n
        (either (lt_or_le (end / side) y) (λ k. omega (arith, h.from_row, end_from, k, f.low))
        (λ k. let q : end / side ≡ y = omega (arith, k, f.low) in
        omega (arith, end_from, q, at_foot end (get_or corners j 0) y x q (omega (arith, q, f.steep)) down)))
        (either (lt_or_le y (get_or corners (suc i) 0 / side)) (λ k. omega (arith, n, k, top))
        (λ k. let q : get_or corners (suc i) 0 / side ≡ y = omega (arith, k, r.high) in
        omega (arith, top, q, at_head (get_or corners i 0) (get_or corners (suc i) 0) y x q (omega (arith, q, r.steep)) up)))
      where
        top : get_or corners (suc i) 0 ≤ last
        top = h.peaks.greatest (suc i) r.inside

        end_from : get_or corners 0 0 ≤ end
        end_from = either f.after
            (λ k. omega (arith, k.1, first_least (cornered_of h) j k.0))
            (λ k. omega (arith, k.1))

    pub crossed : (from to : ℕ) (t : Stretch) → EndsAt (get_or corners i 0) (get_or corners (i + 1) 0) y to → BeginsAt (get_or corners j 0) end y from
        → Bounded from to t → StretchOf (map unpacked corners) y t
    crossed from to t k₁ k₂ k₃ = record {
      rising = k₃.in_order;
      few = omega (arith, k₃.ends, k₁.few);
      inside = λ x w.
          let u = (k₃.exactly x).0 w in
          let up = subst (λ n. LeftOf (get_or corners i 0) (get_or corners n 0) y x) (add-one i) ((k₁.exactly x).1 u.1) in
          let down = (k₂ x).1 u.0 in
          (inside (cell x y)).1 (inside_ends x (both_between x (omega (arith, u.1, k₁.few)) up down) up down);
      all = λ x n m. let v = ends_inside x ((inside (cell x y)).0 m) in (k₃.exactly x).1
          ((k₂ x).0 v.1, (k₁.exactly x).0 (subst (λ n. LeftOf (get_or corners i 0) (get_or corners n 0) y x) (sym (add-one i)) v.0));
    }
