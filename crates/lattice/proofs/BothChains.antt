-- Both scans in one array: places 0 to m + 1 hold the chain of the scan up the rows, m + 1 to m + 1 + k that of the scan down but for its
-- end, which is place 0 again. Then the list of all these places spans the points. Assumes that x + K y orders the points by rows.
use mathlib.Core.Path.{◌≡◌, refl, sym, ◌∙◌, ap, subst, subst₂, subst₃}
use mathlib.Core.Logic.{◌⊎◌, inl, inr}
use mathlib.Core.List.{List, [], ◌∷◌}
use Prim.Native.Nat.{ℕ, zero, suc, ◌+◌, ◌-◌, ◌≤◌, ◌<◌}
use native.Mathlib.Omega.{arith}
use lib.ListN.{length}
use lib.IntN.{ℤ, pos, negsuc, neg_ℤ, ◌+ℤ◌, ◌-ℤ◌, ◌*ℤ◌}
use Rattle.whole.proofs.Whole.{ring, quote, ◌<ᶻ◌, ◌≤ᶻ◌, NonNegative, Positive, gap≤, gap<, ◌⊞◌, linear<, linear⊥, positive_by_products}
use Rattle.lattice.specs.Point.{Point, InRange, point, In, All, Pairs, Triples, Before}
use Rattle.lattice.specs.Hull.{turn, Of}
use Rattle.lattice.proofs.Turn.{coordinates, Left, turn_cyclic}
use Rattle.lattice.proofs.Lists.{either, all_in}
use Rattle.lattice.proofs.Places.{lt_or_le, in_place, place_in}
use Rattle.lattice.proofs.RowKey.{key_by, Orders, opposite_back, range_width, before_key, key_before}
use Rattle.lattice.proofs.Shape.{Shape, shape_test}
use Rattle.lattice.proofs.Polygon.{Inside, polygon}
use Rattle.lattice.proofs.Sandwich.{Spans}
use Rattle.lattice.proofs.Scan.{Scanned, Over, TurnsLeft, bottom, stack_rises, stack_turns}
use Rattle.lattice.proofs.Stack.{stack, front, length_front, point_front, stack_in, stack_chain_place, stack_pairs_place, stack_triples_place}

-- the scan up the rows, and the scan down
abbrev pub Upward : ℤ → (Point → Type 0) → Point → List Point → Type 0
Upward K M t r = Scanned (pos 1) K M t r

abbrev pub Downward : ℤ → (Point → Type 0) → Point → List Point → Type 0
Downward K M t r = Scanned (negsuc 0) (neg_ℤ K) M t r

pub bottom_stack : (f : ℕ → Point) (n : ℕ) → bottom (f n) (stack f n) ≡ f zero
bottom_stack f zero = refl
bottom_stack f (suc n) = bottom_stack f n

-- a turn to the left on the stack, by place
pub turns_left_place : (f : ℕ → Point) (n : ℕ) (p : Point) → ((j : ℕ) → suc j ≡ n → Left (f j) (f n) p)
    → TurnsLeft p (f n) (stack f n)
turns_left_place f zero p h = tt
turns_left_place f (suc n) p h = h n refl

-- s before z on the way up, u after z on the way down, o below all: at z the way turns left
junction : (K : ℤ) (o s z u : Point) → (key_by K z -ℤ key_by K o) *ℤ turn s z u
    ≡ (key_by K z -ℤ key_by K u) *ℤ turn s z o +ℤ (key_by K z -ℤ key_by K s) *ℤ turn z u o
junction K o s z u = ring (K ∷ coordinates (o ∷ s ∷ z ∷ u ∷ [])) (search quote depth 20) tt

-- what holds of the places below a and of those from a on
by_parts : (P : ℕ → Type 0) (a k : ℕ) → ((i : ℕ) → i < a → P i) → ((j : ℕ) → j < k → P (a + j)) → (i : ℕ) → i < a + k → P i
by_parts P a k low high i h =
    either (lt_or_le i a) (low i) (λ l. let e : a + (i - a) ≡ i = omega arith in subst P e (high (i - a) (omega arith)))

module _ (K : ℤ) (s : List Point) (order : Orders K (Of s)) (f : ℕ → Point) (m k : ℕ)
    (up : Upward K (Of s) (f (suc m)) (stack f (suc m)))
    (down : Downward K (Of s) (f zero) (stack (λ i. f (suc m + i)) (suc k))) where
  abbrev g : ℕ → Point
  g i = f (suc m + i)

  abbrev places : List Point
  places = front f (suc m + suc k)

  -- ---- the way up
  up_rises : (i j : ℕ) → i < j → j < suc (suc m) → key_by K (f i) <ᶻ key_by K (f j)
  up_rises = stack_pairs_place f (Over (pos 1) K) (suc (suc m)) (stack_rises (pos 1) K (stack f (suc (suc m))) up.stacked.rising)

  up_turns : (i j l : ℕ) → i < j → j < l → l < suc (suc m) → Left (f i) (f j) (f l)
  up_turns =
      stack_triples_place f (λ u v w. Left w v u) (suc (suc m))
      (stack_turns (pos 1) K (stack f (suc (suc m))) up.stacked.rising up.stacked.bent)

  -- ---- the way down
  down_pairs : Pairs (Over (negsuc 0) (neg_ℤ K)) (f zero ∷ stack g (suc k))
  down_pairs = stack_rises (negsuc 0) (neg_ℤ K) (f zero ∷ stack g (suc k)) down.stacked.rising

  down_triples : Triples (λ u v w. Left w v u) (f zero ∷ stack g (suc k))
  down_triples = stack_turns (negsuc 0) (neg_ℤ K) (f zero ∷ stack g (suc k)) down.stacked.rising down.stacked.bent

  down_end : (j : ℕ) → j < suc k → key_by K (f zero) <ᶻ key_by K (g j)
  down_end j h =
      opposite_back K (f zero) (g j)
      (all_in (Over (negsuc 0) (neg_ℤ K) (f zero)) (stack g (suc k)) down_pairs.0 (g j) (stack_in g (suc k) j h))

  down_falls : (i j : ℕ) → i < j → j < suc k → key_by K (g j) <ᶻ key_by K (g i)
  down_falls i j h l = opposite_back K (g j) (g i) (stack_pairs_place g (Over (negsuc 0) (neg_ℤ K)) (suc k) down_pairs.1 i j h l)

  down_seen : (i j : ℕ) → i < j → j < suc k → Left (g i) (g j) (f zero)
  down_seen = stack_pairs_place g (λ v w. Left w v (f zero)) (suc k) down_triples.0

  down_turns : (i j l : ℕ) → i < j → j < l → l < suc k → Left (g i) (g j) (g l)
  down_turns = stack_triples_place g (λ u v w. Left w v u) (suc k) down_triples.1

  -- ---- all places
  held : (i : ℕ) → i < suc m + suc k → In (f i) s
  held =
      by_parts (λ i. In (f i) s) (suc m) (suc k)
      (λ i h. all_in (Of s) (stack f (suc (suc m))) up.stacked.passed (f i) (stack_in f (suc (suc m)) i (omega arith)))
      (λ j h. all_in (Of s) (stack g (suc k)) down.stacked.passed.1 (g j) (stack_in g (suc k) j h))

  first : (i : ℕ) → suc i < suc m + suc k → Before (f zero) (f (suc i))
  first i h = order.follows (f zero) (f (suc i)) (held zero (omega arith)) (held (suc i) h) (after (suc i) h (omega arith))
    where
      after : (i : ℕ) → i < suc m + suc k → 0 < i → key_by K (f zero) <ᶻ key_by K (f i)
      after =
          by_parts (λ i. 0 < i → key_by K (f zero) <ᶻ key_by K (f i)) (suc m) (suc k)
          (λ i h l. up_rises zero i l (omega arith)) (λ j h l. down_end j h)

  -- two neighbours on the way down, by place
  on_way_down : (R : Point → Point → Type 0) → ((j : ℕ) → suc j < suc k → R (g j) (g (suc j)))
      → (i : ℕ) → suc m ≤ i → i < suc m + k → R (f i) (f (suc i))
  on_way_down R h i l n =
      let e : suc m + (i - suc m) ≡ i = omega arith in
      let d : suc m + suc (i - suc m) ≡ suc i = omega arith in
      subst₂ R (ap f e) (ap f d) (h (i - suc m) (omega arith))

  seen : (i : ℕ) → suc (suc i) < suc m + suc k → Left (f zero) (f (suc i)) (f (suc (suc i)))
  seen i h =
      either (lt_or_le (suc i) (suc m))
      (λ l. up_turns zero (suc i) (suc (suc i)) (omega arith) (omega arith) (omega arith))
      (λ l. on_way_down (Left (f zero))
      (λ j n. subst Positive (sym (turn_cyclic (f zero) (g j) (g (suc j)))) (down_seen j (suc j) (omega arith) n))
      (suc i) l (omega arith))

  at_top : (i : ℕ) → i ≡ m → suc (suc i) < suc m + suc k → Left (f i) (f (suc i)) (f (suc (suc i)))
  at_top zero e h = seen zero h
  at_top (suc i) e h =
      positive_by_products (junction K (f zero) (f (suc i)) z u)
      (gap (f zero) z (up_rises zero (suc (suc i)) (omega arith) (omega arith)))
      (gap u z (on_way_down (λ a b. key_by K b <ᶻ key_by K a) (λ j n. down_falls j (suc j) (omega arith) n)
      (suc (suc i)) (omega arith) (omega arith)))
      (subst Positive (turn_cyclic (f zero) (f (suc i)) z) (up_turns zero (suc i) (suc (suc i)) (omega arith) (omega arith) (omega arith)))
      (gap (f (suc i)) z (up_rises (suc i) (suc (suc i)) (omega arith) (omega arith)))
      (subst Positive (turn_cyclic (f zero) z u) (seen (suc i) h))
    where
      z : Point
      z = f (suc (suc i))

      u : Point
      u = f (suc (suc (suc i)))

      gap : (a b : Point) → key_by K a <ᶻ key_by K b → Positive (key_by K b -ℤ key_by K a)
      gap a b h = linear< (K ∷ coordinates (a ∷ b ∷ [])) (gap< h) (search quote depth 20) tt

  bends : (i : ℕ) → suc (suc i) < suc m + suc k → Left (f i) (f (suc i)) (f (suc (suc i)))
  bends i h =
      either (lt_or_le (suc i) (suc m))
      (λ l. up_turns i (suc i) (suc (suc i)) (omega arith) (omega arith) (omega arith))
      (λ l. either (lt_or_le m i)
      (λ n. let e : suc m + (i - suc m) ≡ i = omega arith in
      let d : suc m + suc (i - suc m) ≡ suc i = omega arith in
      let c : suc m + suc (suc (i - suc m)) ≡ suc (suc i) = omega arith in
      subst₃ Left (ap f e) (ap f d) (ap f c)
      (down_turns (i - suc m) (suc (i - suc m)) (suc (suc (i - suc m))) (omega arith) (omega arith) (omega arith)))
      (λ n. at_top i (omega arith) h))

  -- ---- the list
  at : (i : ℕ) → i < length places → point places i ≡ f i
  at i h = point_front f (suc m + suc k) i (omega (arith, length_front f (suc m + suc k)))

  below : {i : ℕ} → i < length places → i < suc m + suc k
  below h = omega (arith, length_front f (suc m + suc k))

  shape : Shape places
  shape = (shape_test places).0 record {
    first = λ i h. subst₂ Before (sym (at zero (omega arith))) (sym (at (suc i) h)) (first i (below h));
    seen = λ i h. subst₃ Left (sym (at zero (omega arith))) (sym (at (suc i) (omega arith))) (sym (at (suc (suc i)) h)) (seen i (below h));
    bends = λ i h. subst₃ Left (sym (at i (omega arith))) (sym (at (suc i) (omega arith))) (sym (at (suc (suc i)) h)) (bends i (below h));
  }

  edges : (q : Point) → In q s → (i : ℕ) → i < suc m + k → NonNegative (turn (f i) (f (suc i)) q)
  edges q n i h =
      either (lt_or_le i (suc m))
      (λ l. stack_chain_place f (λ u v. NonNegative (turn v u q)) (suc (suc m)) (up.stacked.left q n) i (omega arith))
      (λ l. on_way_down (λ u v. NonNegative (turn u v q))
      (stack_chain_place g (λ u v. NonNegative (turn v u q)) (suc k) (down.stacked.left q n).1) i l h)

  within : (q : Point) → In q s → Inside places q
  within q n = record {
    edges = λ i h. subst₂ OnLeft (sym (at i (omega arith))) (sym (at (suc i) h)) (edges q n i (omega (arith, below h)));
    closing = λ i e. let d : suc m + k ≡ i = omega (arith, length_front f (suc m + suc k)) in
        subst₂ OnLeft (ap f d ∙ sym (at i (omega arith))) (sym (at zero (omega arith))) (down.stacked.left q n).0;
    from = (f zero, listed zero (omega arith), λ h. not_lower (order.rises q (f zero) n (held zero (omega arith)) h));
    to = (
      f (suc m),
      listed (suc m) (omega arith),
      λ h. not_higher (order.rises (f (suc m)) q (held (suc m) (omega arith)) n h) (up.highest q n),
    );
  }
    where
      OnLeft : Point → Point → Type 0
      OnLeft u v = NonNegative (turn u v q)

      listed : (i : ℕ) → i < suc m + suc k → In (f i) places
      listed i h =
          let l : i < length places = omega (arith, length_front f (suc m + suc k)) in
          subst (λ z. In z places) (at i l) (place_in places i l)

      not_lower : key_by K q <ᶻ key_by K (f zero) → ⊥
      not_lower h =
          linear⊥ (K ∷ coordinates (q ∷ f zero ∷ []))
          (gap< h ⊞ gap≤ (subst (λ z. key_by K z ≤ᶻ key_by K q) (bottom_stack f (suc m)) (up.stacked.lowest q n)))
          (search quote depth 20) tt

      not_higher : key_by K (f (suc m)) <ᶻ key_by K q → (q ≡ f (suc m)) ⊎ (key_by K q <ᶻ key_by K (f (suc m))) → ⊥
      not_higher h (inl e) =
          linear⊥ (K ∷ coordinates (q ∷ [])) (gap< (subst (λ z. key_by K z <ᶻ key_by K q) (sym e) h)) (search quote depth 20) tt
      not_higher h (inr l) = linear⊥ (K ∷ coordinates (q ∷ f (suc m) ∷ [])) (gap< h ⊞ gap< l) (search quote depth 20) tt

  -- the theorem, for any K that orders the points
  pub chains_span : Spans s places
  chains_span = record {
    shape = shape;
    inside = λ q i. let r = in_place places q i in subst (λ z. In z s) (sym (r.2 ∙ at r.0 r.1)) (held r.0 (below r.1));
    cover = λ q n. (polygon places shape q).1 (within q n);
  }

-- for points in range, by the key: places 0 to m + 1 hold the way up, m + 1 to m + 1 + k the way down, and all of them span s
pub both_chains : (s : List Point) → All InRange s → (f : ℕ → Point) (m k : ℕ)
    → Upward (pos range_width) (Of s) (f (suc m)) (stack f (suc m))
    → Downward (pos range_width) (Of s) (f zero) (stack (λ i. f (suc m + i)) (suc k))
    → Spans s (front f (suc m + suc k))
both_chains s r =
    chains_span (pos range_width) s record {
      rises = λ a b i j. before_key a b (all_in InRange s r a i) (all_in InRange s r b j);
      follows = λ a b i j. key_before a b (all_in InRange s r a i) (all_in InRange s r b j);
    }
