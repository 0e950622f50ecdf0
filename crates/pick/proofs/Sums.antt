-- Round the corners, gains less losses add up to Pick's formula: so they give the number of the hull's lattice points. Assumes nothing.
use mathlib.Core.Path.{◌≡◌, refl, sym, ◌∙◌, ap, subst}
use mathlib.Core.List.{List, [], ◌∷◌, map}
use Prim.Native.Nat.{ℕ, zero, suc, ◌+◌, ◌-◌, ◌*◌, ◌/◌, ◌%◌, ◌≤◌, ◌<◌}
use native.Mathlib.Numerals.{add-one}
use native.Mathlib.Omega.{arith}
use lib.ListN.{length, get_or, drop, length-map}
use lib.Seq.{drop-cons}
use lib.IntN.{ℤ, pos, negsuc, neg_ℤ, nat_abs, ◌+ℤ◌, ◌*ℤ◌, ◌-ℤ◌}
use Rattle.std.specs.Int.{abs_diff}
use Rattle.whole.proofs.Whole.{ring, quote, linear≡, ◌∗≡◌, ◌∔◌}
use Rattle.lattice.specs.Point.{Point, InRange, points, In}
use Rattle.lattice.specs.Hull.{InHull, Of}
use Rattle.lattice.proofs.Places.{lt_or_le}
use Rattle.lattice.proofs.Lists.{either}
use Rattle.lattice.proofs.MissingLists.{hull_list_exists}
use Rattle.lattice.proofs.RowLists.{row_order_exists, row_order_length}
use Rattle.packed.specs.Packed.{side, cells, offset, unpacked}
use Rattle.packed.specs.Corners.{HullOf, Cornered, keys_of, Outline, CountOf}
use Rattle.packed.proofs.KeyLaws.{in_unpacked, lists_small}
use Rattle.packed.proofs.RowOrder.{unpacked_in_range}
use Rattle.packed.proofs.KeysOf.{keys_unpacked}
use Rattle.pick.specs.Pick.{divisor, span, cross, around, area, border, twice_count}
use Rattle.pick.specs.declared.Edges.{Edges}
use Rattle.pick.specs.Edge.{steps, gain, loss, Small, Adds}
use Rattle.pick.proofs.Moved.{moved, twice_count_moved}
use Rattle.pick.proofs.Pick.{pick, one_formula}

-- ---- a packed corner's column
pub column_of_lem : (x y : ℕ) → x < side → (side * y + x) % side ≡ x
column_of_lem x y h = omega arith

-- ---- an edge
distance_is : (a b : ℕ) → nat_abs (pos b -ℤ pos a) ≡ abs_diff a b
distance_is a b =
    either (lt_or_le a b)
    (λ h. let e : b ≡ a + (b - a) = omega arith in
    let f : abs_diff a b ≡ b - a = omega arith in
    ap nat_abs (up (pos a) (pos b) (pos (b - a)) (ap pos e)) ∙ sym f)
    (λ h. let e : a ≡ b + (a - b) = omega arith in
    let f : abs_diff a b ≡ a - b = omega arith in
    ap nat_abs (down (pos a) (pos b) (pos (a - b)) (ap pos e)) ∙ absolute (a - b) ∙ sym f)
  where
    up : (a b d : ℤ) → b ≡ a +ℤ d → b -ℤ a ≡ d
    up a b d e = linear≡ (a ∷ b ∷ d ∷ []) (pos 1 ∗≡ e) (search quote depth 20) tt

    down : (a b d : ℤ) → a ≡ b +ℤ d → b -ℤ a ≡ neg_ℤ d
    down a b d e = linear≡ (a ∷ b ∷ d ∷ []) (negsuc 0 ∗≡ e) (search quote depth 20) tt

    absolute : (d : ℕ) → nat_abs (neg_ℤ (pos d)) ≡ d
    absolute zero = refl
    absolute (suc d) = refl

-- a packed point whose coordinates start at 0
abbrev natural_point : ℕ → Point
natural_point k = record { x = pos (k % side); y = pos (k / side) }

edge : (a b : ℕ) → cross (natural_point a) (natural_point b) +ℤ span (natural_point a) (natural_point b) ≡ pos (gain a b) -ℤ pos (loss a b)
unfolding span
edge a b =
    ap (λ n. cross (natural_point a) (natural_point b) +ℤ pos n)
    (λ i. divisor (distance_is (a % side) (b % side) i) (distance_is (a / side) (b / side) i))
    ∙ ring (pos (a % side) ∷ pos (a / side) ∷ pos (b % side) ∷ pos (b / side) ∷ pos (steps a b) ∷ []) (search quote depth 20) tt

-- ---- the edges from one corner through a list
abbrev pub sum : (ℕ → ℕ → ℕ) → ℕ → List ℕ → ℕ
sum f before [] = 0
sum f before (b ∷ l) = f before b + sum f b l

abbrev last_of : ℕ → List ℕ → ℕ
last_of a [] = a
last_of a (b ∷ l) = last_of b l

last_at : (a : ℕ) (l : List ℕ) → get_or (a ∷ l) (length l) 0 ≡ last_of a l
last_at a [] = refl
last_at a (b ∷ l) = last_at b l

last_of_lem : (a : ℕ) (l : List ℕ) → get_or (a ∷ l) (length (a ∷ l) - 1) 0 ≡ last_of a l
last_of_lem a l = let e : length (a ∷ l) - 1 ≡ length l = omega arith in ap (λ n. get_or (a ∷ l) n 0) e ∙ last_at a l

-- and the closing one
edges : (c a : ℕ) (l : List ℕ)
    → around cross (natural_point c) (natural_point a) (map natural_point l) +ℤ around span (natural_point c) (natural_point a) (map natural_point l)
    ≡ pos (gain (last_of a l) c + sum gain a l) -ℤ pos (loss (last_of a l) c + sum loss a l)
edges c a [] = edge a c ∙ ring (pos (gain a c) ∷ pos (loss a c) ∷ []) (search quote depth 20) tt
edges c a (b ∷ l) =
    more
    (cross (natural_point a) (natural_point b)) (span (natural_point a) (natural_point b))
    (around cross (natural_point c) (natural_point b) (map natural_point l)) (around span (natural_point c) (natural_point b) (map natural_point l))
    (pos (gain a b)) (pos (loss a b)) (pos (gain (last_of b l) c)) (pos (loss (last_of b l) c)) (pos (sum gain b l)) (pos (sum loss b l))
    (edge a b) (edges c b l)
  where
    more : (s t S T g h G H M N : ℤ) → s +ℤ t ≡ g -ℤ h → S +ℤ T ≡ G +ℤ M -ℤ (H +ℤ N)
        → s +ℤ S +ℤ (t +ℤ T) ≡ G +ℤ (g +ℤ M) -ℤ (H +ℤ (h +ℤ N))
    more s t S T g h G H M N e f =
        linear≡ (s ∷ t ∷ S ∷ T ∷ g ∷ h ∷ G ∷ H ∷ M ∷ N ∷ []) (pos 1 ∗≡ e ∔ pos 1 ∗≡ f) (search quote depth 20 fits 4000) tt

-- ---- all edges, the closing one first
abbrev pub total : (ℕ → ℕ → ℕ) → List ℕ → ℕ
total f corners = sum f (get_or corners (length corners - 1) 0) corners

natural_moved : (corners : List ℕ) → map unpacked corners ≡ moved (neg_ℤ (pos offset)) (neg_ℤ (pos offset)) (map natural_point corners)
natural_moved [] = refl
natural_moved (a ∷ l) = ap (λ m. unpacked a ∷ m) (natural_moved l)

module _ (a : ℕ) (l : List ℕ) where
  abbrev corners : List ℕ
  corners = a ∷ l

  all_edges : area (map natural_point corners) +ℤ border (map natural_point corners) ≡ pos (total gain corners) -ℤ pos (total loss corners)
  all_edges =
      edges a a l ∙ ap (λ z. pos (gain z a + sum gain a l) -ℤ pos (loss z a + sum loss a l)) (sym (last_of_lem a l))

  twice : (n : ℕ) → pos 2 *ℤ pos n ≡ twice_count (map unpacked corners) → 2 + total gain corners ≡ 2 * n + total loss corners
  twice n e =
      ap nat_abs (sums (pos (total gain corners)) (pos (total loss corners)) (area (map natural_point corners)) (border (map natural_point corners)) (pos n) all_edges
      (e ∙ ap twice_count (natural_moved corners) ∙ twice_count_moved (neg_ℤ (pos offset)) (neg_ℤ (pos offset)) (map natural_point corners)
      ∙ one_formula (natural_point a) (map natural_point l)))
    where
      sums : (G L A B n : ℤ) → A +ℤ B ≡ G -ℤ L → pos 2 *ℤ n ≡ A +ℤ B +ℤ pos 2 → pos 2 +ℤ G ≡ pos 2 *ℤ n +ℤ L
      sums G L A B n e f = linear≡ (G ∷ L ∷ A ∷ B ∷ n ∷ []) (negsuc 0 ∗≡ e ∔ negsuc 0 ∗≡ f) (search quote depth 20) tt

-- ---- the number of the hull's lattice points
counted : (corners : List ℕ) → Cornered corners → 0 < length corners
    → (n : ℕ) × CountOf (HullOf corners) n × (2 + total gain corners ≡ 2 * n + total loss corners)
counted [] h some = absurd (omega (arith, some))
counted (a ∷ l) h some =
    let r = hull_list_exists (map unpacked (a ∷ l)) in
    (length r.0, (r.0, r.1, refl), twice a l (length r.0) (pick (map unpacked (a ∷ l)) (map unpacked (a ∷ l)) r.0 h.listed r.1))

-- ---- the sums stay small: no two corners are the same, so they are not more than the range has points
pub few_corners : (corners : List ℕ) → Cornered corners → length corners ≤ cells
few_corners corners h =
    let r = row_order_exists (map unpacked corners) in
    omega (
      arith,
      length-map corners unpacked,
      row_order_length (map unpacked corners) r.0 h.listed.once r.1,
      lists_small (Of (map unpacked corners)) in_range r.0 r.1,
    )
  where
    in_range : (p : Point) → In p (map unpacked corners) → InRange p
    in_range p m =
        let k = in_unpacked corners p m in
        subst InRange (sym k.2) (unpacked_in_range (get_or corners k.0 0) (h.below k.0 k.1))

-- ---- what the loop has summed before corner i
next_corner : (f : ℕ → ℕ → ℕ) (corners : List ℕ) (before i : ℕ) → i < length corners
    → sum f before (drop i corners) ≡ f before (get_or corners i 0) + sum f (get_or corners i 0) (drop (i + 1) corners)
next_corner f corners before i h =
    ap (sum f before) (drop-cons corners i 0 h) ∙ ap (λ n. f before (get_or corners i 0) + sum f (get_or corners i 0) (drop n corners)) (sym (add-one i))

no_corner : (f : ℕ → ℕ → ℕ) (corners : List ℕ) (before i : ℕ) → length corners ≤ i → sum f before (drop i corners) ≡ 0
no_corner f [] before zero h = refl
no_corner f [] before (suc i) h = refl
no_corner f (a ∷ l) before zero h = absurd (omega (arith, h))
no_corner f (a ∷ l) before (suc i) h = no_corner f l before i (omega arith)

pub record Summed (corners : List ℕ) (s : Edges) (i : ℕ) : Type 0 where
  pub upto : i ≤ length corners
  pub gains : s.gained + sum gain s.corner (drop i corners) ≡ 2 + total gain corners
  pub losses : s.lost + sum loss s.corner (drop i corners) ≡ total loss corners
  pub few_gained : s.gained ≤ 2 + i * 8589934592
  pub few_lost : s.lost ≤ i * 8589934592

module _ {corners : List ℕ} (h : Cornered corners) (some : 0 < length corners) where
  -- the first edge comes from the last corner
  pub summed_none : (last : ℕ) → last ≡ get_or corners (length corners - 1) 0 → (s : Edges)
      → s ≡ record { corner = last; gained = 2; lost = 0 } → Summed corners s 0
  summed_none last e s g = subst (λ r. Summed corners r 0) (sym g) record {
    upto = omega arith;
    gains = ap (λ n. 2 + sum gain n corners) e;
    losses = omega (arith, ap (λ n. sum loss n corners) e);
    few_gained = omega arith;
    few_lost = omega arith;
  }

  module _ {s : Edges} {i : ℕ} (g : Summed corners s i) where
    pub summed_small : Small s
    summed_small = record {
      few_gained = omega (arith, g.few_gained, g.upto, few_corners corners h);
      few_lost = omega (arith, g.few_lost, g.upto, few_corners corners h);
    }

    pub summed_more : i < length corners → (corner : ℕ) → corner ≡ get_or corners i 0 → (r : Edges) → Adds s corner r → Summed corners r (i + 1)
    summed_more u corner e r a =
        let w : r.corner ≡ get_or corners i 0 = a.arrives ∙ e in
        let b : Adds s (get_or corners i 0) r = subst (λ n. Adds s n r) e a in record {
          upto = omega arith;
          gains = omega (arith, g.gains, b.gains, next_corner gain corners s.corner i u, ap (λ n. sum gain n (drop (i + 1) corners)) w);
          losses = omega (arith, g.losses, b.loses, next_corner loss corners s.corner i u, ap (λ n. sum loss n (drop (i + 1) corners)) w);
          few_gained = omega (arith, g.few_gained, b.few_gained);
          few_lost = omega (arith, g.few_lost, b.few_lost);
        }

    -- past the last corner
    module _ (u : length corners ≤ i) where
      whole : (n : ℕ) × CountOf (HullOf corners) n × (s.gained ≡ 2 * n + s.lost)
      whole =
          let r = counted corners h some in
          (r.0, r.1, omega (arith, g.gains, g.losses, r.2, no_corner gain corners s.corner i u, no_corner loss corners s.corner i u))

      pub summed_order : s.lost ≤ s.gained
      summed_order = omega (arith, whole.2)

      pub summed_half : (r : ℕ) → r ≡ (s.gained - s.lost) / 2 → CountOf (HullOf corners) r
      summed_half r e = let w = whole in (w.1.0, w.1.1, omega (arith, e, w.1.2, w.2))

-- ---- corners as numbers
pub counted_numbers : {corners : List ℤ} → Outline corners → (r : ℕ) → CountOf (HullOf (keys_of corners)) r → CountOf (InHull (Of (points corners))) r
counted_numbers {corners} h r n = subst (λ c. CountOf (InHull (Of c)) r) (keys_unpacked corners h.range) n

-- what a turn of the loop needs
pub ruleset summed = (summed_none, summed_small, summed_more, summed_order)
