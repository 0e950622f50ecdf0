-- Which packed points are corners, which rows have no point of the hull, which points of a row are misplaced. Assumes nothing.
use mathlib.Core.Path.{◌≡◌, refl, sym, ◌∙◌, ap, subst}
use mathlib.Core.Logic.{◌⊎◌, inl, inr}
use mathlib.Core.Bool.{Bool}
use mathlib.Core.List.{List, [], ◌∷◌}
use Prim.Native.Nat.{ℕ, ◌+◌, ◌-◌, ◌/◌, ◌%◌, ◌≤◌, ◌<◌}
use native.Mathlib.Omega.{arith}
use lib.ListN.{length}
use lib.IntN.{ℤ, pos, negsuc}
use lib.Signed.{◌≤ℤ◌, ◌<ℤ◌}
use Rattle.whole.proofs.Whole.{quote, gap≤, gap<, ◌⊞◌, linear⊥, le_or_lt, antisymmetric}
use Rattle.lattice.specs.Point.{Point, least, greatest, InRange, points, point, In, All, Pairs, Before}
use Rattle.lattice.specs.Hull.{InHull, member, Of}
use Rattle.lattice.specs.Refusal.{AtPoint, Misplaced}
use Rattle.lattice.proofs.Lists.{either}
use Rattle.lattice.proofs.Places.{lt_or_le, nowhere, all_place, pairs_place}
use Rattle.lattice.proofs.RowEnds.{inner_of_row_no_corner}
use Rattle.lattice.proofs.Sandwich.{Spans, corner_list_of_spanned}
use Rattle.lattice.proofs.CornerLists.{corner_list_shape}
use Rattle.packed.specs.Packed.{Tells, side, moved, placed, packed, unpacked}
use Rattle.packed.proofs.Border.{moved_small}
use Rattle.packed.specs.Corners.{keys_of, Outline}
use Rattle.packed.proofs.RowOrder.{placed_grows, placed_injective, unpacked_packed, before_packed}
use Rattle.packed.proofs.Reading.{column_read, row_at, read_at, read_point}
use Rattle.packed.proofs.Tests.{tells_as}
use Rattle.lattice.proofs.Numbers.{points_at}
use Rattle.std.proofs.lemmas.Int.{ints}
use mir.Syntax.{w32}
use mir.Val.{SFits}
use Rattle.rows.specs.Row.{RunsTo}
use Rattle.range.proofs.Passing.{Passing, passing_none, passing_stops, passing_ends}
use Rattle.stretch.specs.Stretch.{cell, Within, Peak, StretchOf, first_row, last_row}
use Rattle.stretch.specs.declared.Stretch.{Stretch}
use Rattle.stretch.proofs.Counting.{is_cell_before, is_before_cell}
use Rattle.walk.proofs.Walking.{nothing, some, in_rows}
use Rattle.walk.proofs.Rows.{rows_rise, from_next}
use Rattle.walk.proofs.Loops.{Between, between_first, between_next}
use Rattle.missing.specs.Missing.{MisplacedAt, FirstMisplaced, InOneRow, EndMisplaced}

-- ---- a point of a list as the machine reads it
in_range_fits : (z : ℤ) → least ≤ℤ z → z ≤ℤ greatest → SFits w32 z
in_range_fits (pos n) f t = record { sfits = omega (arith, ints, f, t) }
in_range_fits (negsuc n) f t = record { sfits = omega (arith, ints, f, t) }

pub as_read : (list : List ℤ) (i : ℕ) → i < length (points list) → InRange (point (points list) i) → read_at list i ≡ point (points list) i
as_read list i h r =
    let e = points_at list i h in
    read_point list i (in_range_fits (column_read list i) (subst (λ p. least ≤ℤ p.x) e r.x_from) (subst (λ p. p.x ≤ℤ greatest) e r.x_to))
    (in_range_fits (row_at list i) (subst (λ p. least ≤ℤ p.y) e r.y_from) (subst (λ p. p.y ≤ℤ greatest) e r.y_to)) h

-- ---- no corners
pub none_inside : (corners : List ℤ) → length (points corners) ≡ 0 → (missing : List ℤ) → FirstMisplaced corners missing 0
none_inside corners e missing = record {
  upto = omega arith;
  earlier = λ j l. nowhere j l;
  here = λ l. (l, inl (nothing (points corners) e (point (points missing) 0)));
}

-- ---- a point of a row whose stretch is known
module _ (corners : List ℤ) (h : Outline corners) (k : ℕ) (s : Stretch) (t : StretchOf (points corners) (k / side) s) where
  abbrev c : List Point
  c = points corners

  within : InHull (Of c) (unpacked k) → Within s (k % side)
  within m = t.all (k % side) (omega arith) m

  pub left_of_row : k % side < s.from → Misplaced c (unpacked k)
  left_of_row l = inl (λ m. let w = within m in omega (arith, l, w.from))

  pub right_of_row : s.to ≤ k % side → Misplaced c (unpacked k)
  right_of_row l = inl (λ m. let w = within m in omega (arith, l, w.to))

  module _ (from : s.from ≤ k % side) (to : k % side < s.to) where
    in_hull : InHull (Of c) (unpacked k)
    in_hull = t.inside (k % side) (record { from = from; to = to })

    -- there it is misplaced exactly if it is a corner
    pub at_an_end : (b : Bool) → Tells b (In (unpacked k) c) → Tells b (Misplaced c (unpacked k))
    at_an_end b e = tells_as b (λ i. inr i) (λ m. either m (λ n. absurd (n in_hull)) (λ i. i)) e

    -- with points of the hull on both sides in its row it is no corner
    pub inside_row : s.from < k % side → k % side + 1 < s.to → Misplaced c (unpacked k) → ⊥
    inside_row u v m = either m (λ n. n in_hull) no_corner_here
      where
        first : Point
        first = cell s.from (k / side)

        last : Point
        last = cell (s.to - 1) (k / side)

        first_in : InHull (Of c) first
        first_in = t.inside s.from (record { from = omega arith; to = omega arith })

        last_in : InHull (Of c) last
        last_in = t.inside (s.to - 1) (record { from = omega arith; to = omega arith })

        spans : Spans (first ∷ last ∷ c) c
        spans = record {
          shape = corner_list_shape c c h.listed;
          inside = λ q i. inr (inr i);
          cover = λ q i. either i (λ e. subst (InHull (Of c)) (sym e) first_in)
              (λ j. either j (λ e. subst (InHull (Of c)) (sym e) last_in) (λ n. member n));
        }

        no_corner_here : In (unpacked k) c → ⊥
        no_corner_here i =
            inner_of_row_no_corner (first ∷ last ∷ c) first (unpacked k) last (inl refl) (inr (inl refl)) refl refl
            (is_cell_before k s.from (k / side) (omega (arith, t.few)) (omega arith))
            (is_before_cell k (s.to - 1) (k / side) (omega (arith, t.few)) (omega arith))
            ((corner_list_of_spanned (first ∷ last ∷ c) c spans).only (unpacked k) i)

-- ---- the points of a row, by place
-- a point in range that is in row y is so when packed
pub in_row : (p : Point) (y : ℕ) → InRange p → p.y ≡ placed y → packed p / side ≡ y
in_row p y r e = placed_injective (packed p / side) y (ap (λ q. q.y) (unpacked_packed p r) ∙ e)

module _ (corners : List ℤ) (s : Stretch) (l : List Point) (begin end : ℕ) (h : InOneRow corners s l begin end) where
  abbrev Fault : ℕ → Type 0
  Fault = AtPoint (Misplaced (points corners)) l

  pub range_at : (j : ℕ) → j < end → InRange (point l j)
  range_at j v = all_place InRange l h.range j (omega (arith, h.inside))

  unpacked_at_place : (j : ℕ) → j < end → unpacked (packed (point l j)) ≡ point l j
  unpacked_at_place j v = unpacked_packed (point l j) (range_at j v)

  -- the point at a place of the row, by its column
  module _ (j : ℕ) (u : begin ≤ j) (v : j < end) (x : ℕ) (e : x ≡ moved (point l j).x) where
    abbrev key : ℕ
    key = packed (point l j)

    column : x ≡ key % side
    column = let r = range_at j v in omega (arith, e, moved_small (point l j).x r.x_from r.x_to)

    fault : Misplaced (points corners) (unpacked key) → Fault j
    fault m = (omega (arith, h.inside), subst (Misplaced (points corners)) (unpacked_at_place j v) m)

    no_fault : (Misplaced (points corners) (unpacked key) → ⊥) → Fault j → ⊥
    no_fault n m = n (subst (Misplaced (points corners)) (sym (unpacked_at_place j v)) m.1)

    pub beside_row : (x < s.from) ⊎ (s.to ≤ x) → Fault j
    beside_row w =
        fault (either w (λ k. left_of_row corners h.outline key s (h.stretch j u v) (omega (arith, k, column)))
        (λ k. right_of_row corners h.outline key s (h.stretch j u v) (omega (arith, k, column))))

    module _ (from : s.from ≤ x) (to : x < s.to) where
      -- in the row it is misplaced exactly if it is a corner
      pub at_corner : (b : Bool) → Tells b (In (point l j) (points corners)) → Tells b (Fault j)
      at_corner b t =
          tells_as b fault (λ m. subst (Misplaced (points corners)) (sym (unpacked_at_place j v)) m.1)
          (at_an_end corners h.outline key s (h.stretch j u v) (omega (arith, from, column)) (omega (arith, to, column)) b
          (subst (λ p. Tells b (In p (points corners))) (sym (unpacked_at_place j v)) t))

      pub between_row : (x ≡ s.from → ⊥) → (x + 1 ≡ s.to → ⊥) → Fault j → ⊥
      between_row m n =
          no_fault (inside_row corners h.outline key s (h.stretch j u v) (omega (arith, from, column)) (omega (arith, to, column))
          (omega (arith, from, m, column)) (omega (arith, to, n, column)))

  module _ (order : Pairs Before l) (some : begin < end) (n : Fault begin → ⊥) (m : Fault (end - 1) → ⊥) where
    from_first : s.from ≤ packed (point l begin) % side
    from_first =
        either (lt_or_le (packed (point l begin) % side) s.from)
        (λ k. absurd (n (
          omega (arith, h.inside),
          subst (Misplaced (points corners)) (unpacked_at_place begin some)
              (left_of_row corners h.outline (packed (point l begin)) s (h.stretch begin (omega arith) some) k),
        ))) (λ k. k)

    to_last : packed (point l (end - 1)) % side < s.to
    to_last =
        either (lt_or_le (packed (point l (end - 1)) % side) s.to) (λ k. k)
        (λ k. absurd (m (
          omega (arith, h.inside),
          subst (Misplaced (points corners)) (unpacked_at_place (end - 1) (omega arith))
              (right_of_row corners h.outline (packed (point l (end - 1))) s (h.stretch (end - 1) (omega arith) (omega arith)) k),
        )))

    between_ends : (j : ℕ) → begin < j → j < end - 1 → Misplaced (points corners) (point l j) → ⊥
    between_ends j u v x =
        let a = before_packed (point l begin) (point l j) (range_at begin some) (range_at j (omega arith)) (pairs_place Before l order begin j u (omega (arith, h.inside))) in
        let b = before_packed (point l j) (point l (end - 1)) (range_at j (omega arith)) (range_at (end - 1) (omega arith)) (pairs_place Before l order j (end - 1) v (omega (arith, h.inside))) in
        let c = h.same begin (omega arith) some in
        let d = h.same j (omega arith) (omega arith) in
        let e = h.same (end - 1) (omega arith) (omega arith) in
        let g : packed (point l begin) % side < packed (point l j) % side = omega (arith, a, c, d) in
        let i : packed (point l j) % side < packed (point l (end - 1)) % side = omega (arith, b, d, e) in
        inside_row corners h.outline (packed (point l j)) s (h.stretch j (omega arith) (omega arith)) (omega (arith, g, from_first)) (omega (arith, i, to_last))
        (omega (arith, g, from_first)) (omega (arith, i, to_last)) (subst (Misplaced (points corners)) (sym (unpacked_at_place j (omega arith))) x)

    -- where the ends are not misplaced no point is
    row_clear : (j : ℕ) → begin ≤ j → j < end → Fault j → ⊥
    row_clear j u v x =
        either (lt_or_le begin j)
        (λ a. either (lt_or_le j (end - 1)) (λ b. between_ends j a b x.1) (λ b. let e : j ≡ end - 1 = omega arith in m (subst Fault e x)))
        (λ a. let e : j ≡ begin = omega arith in n (subst Fault e x))

  -- past the row
  pub row_passed : Pairs Before l → ((k : begin < end) → Fault begin ⊎ Fault (end - 1) → ⊥) → Passing (length l) Fault begin → Passing (length l) Fault end
  row_passed order n p = record {
    upto = h.inside;
    clear = λ j v. either (lt_or_le j begin) (λ k. p.clear j k) (λ k. row_clear order (omega arith) (λ f. n (omega arith) (inl f)) (λ f. n (omega arith) (inr f)) j k v);
  }

-- ---- the rows gone through
-- p is in a row before the hull's first, or in row y or a later one
abbrev Ahead : List ℤ → ℕ → Point → Type 0
Ahead corners y p = (p.y <ℤ placed (first_row corners)) ⊎ (placed y ≤ℤ p.y)

-- before row y no point is misplaced, up to place `begin`, and the point there, if there is one, is in no row before y of the hull
pub record Looking (corners missing : List ℤ) (last y begin : ℕ) : Type 0 where
  pub between : Between corners last y
  pub passing : Passing (length (points missing)) (MisplacedAt corners missing) begin
  pub ahead : begin < length (points missing) → Ahead corners y (point (points missing) begin)

module _ {corners missing : List ℤ} (h : Outline corners) {peak : ℕ} (g : Peak (keys_of corners) peak) where
  pub looking_none : (y : ℕ) → y ≡ first_row corners → Looking corners missing (last_row corners peak) y 0
  looking_none y q = record {
    between = between_first corners peak (some h g) g y q;
    passing = passing_none (length (points missing)) (MisplacedAt corners missing);
    ahead = λ l. either (le_or_lt (placed y) (point (points missing) 0).y) (λ k. inr k) (λ k. inl (subst (λ n. (point (points missing) 0).y <ℤ placed n) q k));
  }

  module _ (y begin : ℕ) (d : Looking corners missing (last_row corners peak) y begin) where
    module _ (order : Pairs Before (points missing)) (range : All InRange (points missing)) (end : ℕ) (r : RunsTo (points missing) (placed y) begin end)
        (s : Stretch) (t : StretchOf (points corners) y s) where
      pub one_row : InOneRow corners s (points missing) begin end
      one_row = record {
        outline = h;
        range = range;
        inside = r.upto;
        stretch = λ j u v. subst (λ n. StretchOf (points corners) n s) (sym (row_at j u v)) t;
        same = λ j u v. row_at j u v ∙ sym (row_at begin (omega arith) (omega (arith, u, v)));
      }
        where
          row_at : (j : ℕ) → begin ≤ j → j < end → packed (point (points missing) j) / side ≡ y
          row_at j u v = in_row (point (points missing) j) y (all_place InRange (points missing) range j (omega (arith, r.upto))) (r.within j u v)

      -- the next row's points, if any, are behind
      later : end < length (points missing) → Ahead corners (y + 1) (point (points missing) end)
      later l =
          either (lt_or_le begin end) (λ u. inr (behind (in_order u)))
          (λ u. let e : begin ≡ end = omega (arith, r.from) in
          either (subst (λ n. Ahead corners y (point (points missing) n)) e (d.ahead (omega (arith, e, l)))) (λ k. inl k) (λ k. inr (behind k)))
        where
          p : Point
          p = point (points missing) end

          behind : placed y ≤ℤ p.y → placed (y + 1) ≤ℤ p.y
          behind k = either (le_or_lt p.y (placed y)) (λ m. absurd (r.stops l (antisymmetric m k))) (λ m. from_next y p.y m)

          in_order : begin < end → placed y ≤ℤ p.y
          in_order u = subst (λ z. z ≤ℤ p.y) (r.within (end - 1) (omega arith) (omega arith))
              (rows_rise (point (points missing) (end - 1)) p (pairs_place Before (points missing) order (end - 1) end (omega arith) l))

      pub looking_more : y ≤ last_row corners peak → (EndMisplaced corners missing begin end → ⊥) → Looking corners missing (last_row corners peak) (y + 1) end
      looking_more u n = record {
        between = between_next corners peak y d.between u;
        passing = row_passed corners s (points missing) begin end one_row order (λ k f. n (record { some = k; which = f })) d.passing;
        ahead = later;
      }

    -- past the last row
    pub looking_all : last_row corners peak < y → FirstMisplaced corners missing begin
    looking_all u =
        either (lt_or_le begin (length (points missing)))
        (λ l. passing_stops (length (points missing)) (MisplacedAt corners missing) begin d.passing (l, inl (λ i. outside l i)))
        (λ l. passing_ends (length (points missing)) (MisplacedAt corners missing) begin d.passing l)
      where
        outside : begin < length (points missing) → InHull (Of (points corners)) (point (points missing) begin) → ⊥
        outside l i =
            let p = point (points missing) begin in
            let w = in_rows h g p i in
            either (d.ahead l)
            (λ k. linear⊥ (p.y ∷ placed (first_row corners) ∷ []) (gap≤ w.0 ⊞ gap< k) (search quote depth 20) tt)
            (λ k. linear⊥ (p.y ∷ placed y ∷ placed (last_row corners peak + 1) ∷ []) (gap≤ k ⊞ gap< w.1 ⊞ placed_grows (last_row corners peak + 1) y (omega arith)) (search quote depth 20) tt)
