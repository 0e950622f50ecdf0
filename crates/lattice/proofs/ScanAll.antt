-- Both scans of a whole list: every list of points is spanned by a list of a corner list's shape. Assumes nothing.
use mathlib.Core.Path.{◌≡◌, refl, sym, ◌∙◌, ap, subst, subst₂}
use mathlib.Core.Logic.{◌⊎◌, inl, inr}
use mathlib.Core.List.{List, [], ◌∷◌}
use Prim.Native.Nat.{ℕ, zero, suc, ◌+◌, ◌-◌}
use native.Mathlib.Omega.{arith}
use lib.IntN.{ℤ, pos, negsuc, neg_ℤ}
use Rattle.whole.proofs.Whole.{quote, ◌<ᶻ◌, gap≤, gap<, ◌⊞◌, linear⊥, le_or_lt}
use Rattle.lattice.specs.Point.{Point, In, All, Pairs, Before}
use Rattle.lattice.specs.Hull.{turn, Of}
use Rattle.lattice.proofs.Turn.{coordinates}
use Rattle.lattice.proofs.Lists.{either, pairs_map, Chain, pairs_chain}
use Rattle.lattice.proofs.RowKey.{key_by, Orders, list_order, opposite, opposite_back}
use Rattle.lattice.proofs.Sandwich.{Spans, spans_itself}
use Rattle.lattice.proofs.Scan.{bottom, With, Over, Scanned, Popping, scan_start, scan_same, pop_start, pop_step, push}
use Rattle.lattice.proofs.Stack.{stack, front, stack_agrees, splice, splice_low, splice_high}
use Rattle.lattice.proofs.BothChains.{Upward, Downward, bottom_stack, chains_span}
use Rattle.lattice.proofs.RowLists.{row_order_exists}

-- ---- a scan with its stack kept by place
module _ (α β : ℤ) where
  pub record Run (M : Point → Type 0) (t : Point) : Type 0 where
    pub places : ℕ → Point
    pub height : ℕ
    pub top : places height ≡ t
    pub scanned : Scanned α β M t (stack places height)

  run_same : (M N : Point → Type 0) → ((q : Point) → M q → N q) → ((q : Point) → N q → M q) → (t : Point) → Run M t → Run N t
  run_same M N f g t r = record {
    places = r.places;
    height = r.height;
    top = r.top;
    scanned = scan_same α β M N f g t (stack r.places r.height) r.scanned;
  }

  run_start : (p : Point) → Run (Of (p ∷ [])) p
  run_start p = record { places = λ i. p; height = zero; top = refl; scanned = scan_start α β p }

  -- pop as long as the turn is not to the left, and push
  popped : (M : Point → Type 0) (p : Point) (f : ℕ → Point) (n : ℕ) → Popping α β M p (f n) (stack f n)
      → (j : ℕ) × Scanned α β (With p M) p (stack f (suc j))
  popped M p f zero h = (zero, push α β M p (f zero) [] h tt)
  popped M p f (suc n) h =
      either (le_or_lt (turn (f n) (f (suc n)) p) (pos 0))
      (λ g. popped M p f n (pop_step α β M p (f (suc n)) (f n) (stack f n) h g))
      (λ g. (suc n, push α β M p (f (suc n)) (stack f (suc n)) h g))

  advance : (M : Point → Type 0) (p t : Point) → Run M t → Over α β p t → Run (With p M) p
  advance M p t r h =
      let f = r.places in
      let j = popped M p f r.height
      (subst (λ z. Popping α β M p z (stack f r.height)) (sym r.top) (pop_start α β M p t (stack f r.height) r.scanned h)) in
      let n = suc j.0 in
      record {
        places = splice f (λ i. p) n;
        height = n;
        top = splice_high f (λ i. p) n n (omega arith);
        scanned = subst (Scanned α β (With p M) p) (sym (stack_agrees f (splice f (λ i. p) n) n (splice_low f (λ i. p) n))) j.1;
      }

  -- a list whose first point comes last
  run_from_end : (p : Point) (l : List Point) → Chain (Over α β) (p ∷ l) → Run (Of (p ∷ l)) p
  run_from_end p [] h = run_start p
  run_from_end p (a ∷ l) h = advance (Of (a ∷ l)) p a (run_from_end a l h.1) h.0

  -- a list in order, after M
  run_on : (M : Point → Type 0) (t : Point) → Run M t → (l : List Point) → Chain (λ u v. Over α β v u) (t ∷ l)
      → Run (λ q. M q ⊎ In q l) (bottom t l)
  run_on M t r [] h = run_same M (λ q. M q ⊎ ⊥) (λ q m. inl m) (λ q m. either m (λ x. x) (λ f. absurd f)) t r
  run_on M t r (a ∷ l) h =
      run_same (λ q. With a M q ⊎ In q l) (λ q. M q ⊎ In q (a ∷ l))
      (λ q m. either m (λ x. either x (λ e. inr (inl e)) (λ i. inl i)) (λ i. inr (inr i)))
      (λ q m. either m (λ i. inl (inr i)) (λ x. either x (λ e. inl (inl e)) (λ i. inr i)))
      (bottom a l) (run_on (With a M) a (advance M a t r h.0) l h.1)

-- ---- the ends of two scans
bottom_passed : (M : Point → Type 0) (t : Point) (r : List Point) → All M (t ∷ r) → M (bottom t r)
bottom_passed M t [] h = h.0
bottom_passed M t (s ∷ r) h = bottom_passed M s r h.1

module _ (α β : ℤ) (M : Point → Type 0) where
  -- a stack of one point has passed one point
  one_passed : (t u v : Point) → Scanned α β M t [] → M u → M v → Over α β v u → ⊥
  one_passed t u v h mu mv g = at_top (h.highest v mv)
    where
      at_top : (v ≡ t) ⊎ Over α β t v → ⊥
      at_top (inl e) =
          linear⊥ (α ∷ β ∷ coordinates (u ∷ t ∷ []))
          (gap≤ (h.stacked.lowest u mu) ⊞ gap< (subst (λ q. Over α β q u) e g)) (search quote depth 20) tt
      at_top (inr l) =
          linear⊥ (α ∷ β ∷ coordinates (u ∷ v ∷ t ∷ [])) (gap≤ (h.stacked.lowest u mu) ⊞ gap< g ⊞ gap< l) (search quote depth 20) tt

  -- where one scan begins the opposite one ends
  ends_meet : (γ δ : ℤ) → ((u v : Point) → Over γ δ u v → Over α β v u)
      → (t : Point) (r : List Point) (u : Point) (l : List Point) → Scanned α β M t r → Scanned γ δ M u l → bottom t r ≡ u
  ends_meet γ δ back t r u l h g =
      either (g.highest (bottom t r) (bottom_passed M t r h.stacked.passed)) (λ e. e)
      (λ k. linear⊥ (α ∷ β ∷ coordinates (bottom t r ∷ u ∷ []))
      (gap≤ (h.stacked.lowest u g.stacked.passed.0) ⊞ gap< (back u (bottom t r) k)) (search quote depth 20) tt)

-- ---- the two stacks in one array
module _ (K : ℤ) (s : List Point) (order : Orders K (Of s)) (f g : ℕ → Point) where
  joined : (m k : ℕ) → Upward K (Of s) (f (suc m)) (stack f (suc m)) → Downward K (Of s) (g (suc k)) (stack g (suc k))
      → Spans s (front (splice f g (suc m)) (suc m + suc k))
  joined m k up down = chains_span K s order h m k
      (subst₂ (Upward K (Of s)) (sym top) (sym (stack_agrees f h (suc m) (splice_low f g (suc m)))) up)
      (subst₂ (Downward K (Of s)) (sym start) (sym (stack_agrees g (λ i. h (suc m + i)) (suc k) (λ i l. upper i))) down)
    where
      h : ℕ → Point
      h = splice f g (suc m)

      upper : (i : ℕ) → h (suc m + i) ≡ g i
      upper i =
          let e : suc m + i - suc m ≡ i = omega arith in
          splice_high f g (suc m) (suc m + i) (omega arith) ∙ ap g e

      top : h (suc m) ≡ f (suc m)
      top =
          let e : suc m - suc m ≡ 0 = omega arith in
          splice_high f g (suc m) (suc m) (omega arith) ∙ ap g e ∙ sym (bottom_stack g (suc k))
          ∙ ends_meet (negsuc 0) (neg_ℤ K) (Of s) (pos 1) K (λ u v. opposite K v u)
          (g (suc k)) (stack g (suc k)) (f (suc m)) (stack f (suc m)) down up

      start : h zero ≡ g (suc k)
      start =
          sym (bottom_stack f (suc m))
          ∙ ends_meet (pos 1) K (Of s) (negsuc 0) (neg_ℤ K) (λ u v. opposite_back K u v)
          (f (suc m)) (stack f (suc m)) (g (suc k)) (stack g (suc k)) up down

  -- two points at least
  both_scans : (a b : Point) → In a s → In b s → key_by K a <ᶻ key_by K b → (n j : ℕ)
      → Upward K (Of s) (f n) (stack f n) → Downward K (Of s) (g j) (stack g j) → (c : List Point) × Spans s c
  both_scans a b ia ib h zero j up down = absurd (one_passed (pos 1) K (Of s) (f zero) a b up ia ib h)
  both_scans a b ia ib h (suc m) zero up down =
      absurd (one_passed (negsuc 0) (neg_ℤ K) (Of s) (g zero) b a down ib ia (opposite K a b h))
  both_scans a b ia ib h (suc m) (suc k) up down = (front (splice f g (suc m)) (suc m + suc k), joined m k up down)

-- a list in row order
spans_in_order : (s : List Point) → Pairs Before s → (c : List Point) × Spans s c
spans_in_order [] h = ([], spans_itself [] (record { start = tt; three = tt }))
spans_in_order (a ∷ []) h = (a ∷ [], spans_itself (a ∷ []) (record { start = tt; three = (tt, tt) }))
spans_in_order (a ∷ b ∷ l) h =
    both_scans K (a ∷ b ∷ l) order up.places down.places a b (inl refl) (inr (inl refl)) rising.0 up.height down.height
    (subst (λ t. Upward K (Of (a ∷ b ∷ l)) t (stack up.places up.height)) (sym up.top) up.scanned)
    (subst (λ t. Downward K (Of (a ∷ b ∷ l)) t (stack down.places down.height)) (sym down.top) down.scanned)
  where
    K : ℤ
    K = (list_order (a ∷ b ∷ l)).0

    order : Orders K (Of (a ∷ b ∷ l))
    order = (list_order (a ∷ b ∷ l)).1

    rising : Chain (λ u v. key_by K u <ᶻ key_by K v) (a ∷ b ∷ l)
    rising =
        pairs_chain (λ u v. key_by K u <ᶻ key_by K v) (a ∷ b ∷ l)
        (pairs_map Before (λ u v. key_by K u <ᶻ key_by K v) (a ∷ b ∷ l) (λ u v i j. order.rises u v i j) h)

    falling : Chain (Over (negsuc 0) (neg_ℤ K)) (a ∷ b ∷ l)
    falling =
        pairs_chain (Over (negsuc 0) (neg_ℤ K)) (a ∷ b ∷ l)
        (pairs_map Before (Over (negsuc 0) (neg_ℤ K)) (a ∷ b ∷ l) (λ u v i j k. opposite K u v (order.rises u v i j k)) h)

    up : Run (pos 1) K (Of (a ∷ b ∷ l)) (bottom b l)
    up =
        run_same (pos 1) K (λ q. In q (a ∷ []) ⊎ In q (b ∷ l)) (Of (a ∷ b ∷ l))
        (λ q m. either m (λ x. either x (λ e. inl e) (λ f. absurd f)) (λ i. inr i)) (λ q m. either m (λ e. inl (inl e)) (λ i. inr i))
        (bottom b l) (run_on (pos 1) K (Of (a ∷ [])) a (run_start (pos 1) K a) (b ∷ l) rising)

    down : Run (negsuc 0) (neg_ℤ K) (Of (a ∷ b ∷ l)) a
    down = run_from_end (negsuc 0) (neg_ℤ K) a (b ∷ l) falling

-- every list of points is spanned by a list of a corner list's shape
pub spans_exist : (s : List Point) → (c : List Point) × Spans s c
spans_exist s =
    let o = row_order_exists s in
    let r = spans_in_order o.0 o.1.order in (
      r.0,
      record {
        shape = r.1.shape;
        inside = λ q m. o.1.only q (r.1.inside q m);
        cover = λ q m. r.1.cover q (o.1.every q m);
      },
    )
