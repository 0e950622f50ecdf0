-- A row written gap by gap: all columns of a gap at once, and the neighbours behind it passed. Assumes nothing.
use mathlib.Core.Path.{◌≡◌, refl, sym, ap, subst}
use mathlib.Core.Logic.{◌⊎◌, inl, inr}
use mathlib.Core.List.{List, [], ◌++◌}
use Prim.Native.Nat.{ℕ, zero, suc, ◌+◌, ◌-◌, ◌*◌, ◌≤◌, ◌<◌}
use native.Mathlib.Omega.{arith}
use borrow.Rule.Slice.PartMut.{put_mid}
use lib.ListN.{length}
use lib.IntN.{ℤ}
use Rattle.lattice.specs.Point.{Point, points, In, Before, column, Lists}
use Rattle.lattice.proofs.Lists.{either}
use Rattle.lattice.proofs.Places.{lt_or_le}
use Rattle.lattice.proofs.SameMembers.{lists_same, lists_append}
use Rattle.packed.proofs.RowOrder.{placed_order}
use Rattle.stretch.specs.Stretch.{cell, Within}
use Rattle.stretch.specs.declared.Stretch.{Stretch}
use Rattle.walk.specs.Walk.{column_at, RowPoints, Neighbour, Gap, Across, Takes, Puts}
use Rattle.walk.proofs.Lending.{rest, rest_takes, puts_then}
use Rattle.walk.proofs.Gaps.{Passed, until, Gapping, gap_wider, columns_listed, column_is, is_column, held_in, in_held, until_gap}

module _ (row : List ℤ) (s : Stretch) (y : ℕ) (h : RowPoints row s y) where
  pub no_fall : (i j : ℕ) → i ≤ j → j < length (points row) → column_at row i ≤ column_at row j
  no_fall i j u v =
      either (lt_or_le i j) (λ l. omega (arith, h.rises i j l v)) (λ l. let e : i ≡ j = omega arith in omega (arith, ap (column_at row) e))

  -- columns rise by one a place at least
  rise_by : (i k : ℕ) → i + k < length (points row) → column_at row i + k ≤ column_at row (i + k)
  rise_by i zero l = let e : i + 0 ≡ i = omega arith in omega (arith, ap (column_at row) e)
  rise_by i (suc k) l = omega (arith, rise_by i k (omega arith), h.rises (i + k) (i + suc k) (omega arith) l)

  -- as many points as columns: the row has a point in each
  pub full_row : length (points row) ≡ s.to - s.from → (n : ℕ) → s.from ≤ n → n < s.to → In (cell n y) (points row)
  full_row e n u v =
      let i = n - s.from in
      let k = s.to - 1 - n in
      let l : i + k < length (points row) = omega (arith, e, u, v) in
      let a = rise_by 0 i (omega (arith, e, u, v)) in
      let b = rise_by i k l in
      let z : 0 + i ≡ i = omega arith in
      held_in row s y h i n (is_column row s y h i n (omega (arith, e, u, v))
      (omega (arith, a, b, u, v, ap (column_at row) z, (h.within 0 (omega (arith, e, u, v))).from, (h.within (i + k) l).to)))

  pub no_gap : length (points row) ≡ s.to - s.from → (room : List ℤ) → Puts (Gap row s y) room 0 room
  no_gap e room = (
    [],
    record {
      every = λ p g. g.lacks (subst (λ q. In q (points row)) (sym g.here) (full_row e g.column g.within.from g.within.to));
      only = λ p m. absurd m;
      order = tt;
    },
    refl,
    refl,
  )

  -- between neighbours the row has a point in every column
  between_neighbours : (i r : ℕ) → Neighbour row i r → (n : ℕ) → column_at row i ≤ n → n ≤ column_at row r → In (cell n y) (points row)
  between_neighbours i r b n u v =
      let k = n - column_at row i in
      let l : i + k ≤ r = omega (arith, b.behind, b.from, u, v) in
      let m : i + k < length (points row) = omega (arith, l, b.upto) in
      let e : i + k + (r - (i + k)) ≡ r = omega (arith, l) in
      let a = rise_by i k m in
      let d = rise_by (i + k) (r - (i + k)) (omega (arith, e, b.upto)) in
      held_in row s y h (i + k) n (is_column row s y h (i + k) n m (omega (arith, a, d, ap (column_at row) e, b.behind, l, u)))

  passed_neighbours : (i r : ℕ) → Neighbour row i r → Passed row (column_at row r + 1) (r + 1)
  passed_neighbours i r b = record {
    upto = omega (arith, b.upto);
    before = λ j u. either (lt_or_le j r) (λ l. omega (arith, h.rises j r l b.upto))
        (λ l. let e : j ≡ r = omega arith in omega (arith, ap (column_at row) e));
    after = λ j u v. omega (arith, h.rises r j (omega arith) v);
  }

  module _ (x i used : ℕ) (room₀ room : List ℤ) (g : Gapping row s y x i used room₀ room) where
    -- past neighbours, of which the first is in column x and the last in column n
    module _ (r n : ℕ) (b : Neighbour row i r) (e : x ≡ column_at row i) (f : n ≡ column_at row r) where
      wide : x ≤ n + 1
      wide = omega (arith, e, f, b.behind)

      narrower : (p : Point) → Gap row (until s (n + 1)) y p → Gap row (until s x) y p
      narrower p k =
          either (lt_or_le k.column x)
          (λ l. record { column = k.column; within = record { from = k.within.from; to = l }; here = k.here; lacks = k.lacks })
          (λ l. absurd (k.lacks (subst (λ q. In q (points row)) (sym k.here) (between_neighbours i r b k.column (omega (arith, e, l)) (omega (arith, f, k.within.to))))))

      pub gapping_neighbours : Gapping row s y (n + 1) (r + 1) used room₀ room
      gapping_neighbours = record {
        from = omega (arith, g.from, wide);
        to = omega (arith, f, (h.within r b.upto).to);
        passed = subst (λ m. Passed row (m + 1) (r + 1)) (sym f) (passed_neighbours i r b);
        puts = (
          g.puts.0,
          lists_same (Gap row (until s x) y) (Gap row (until s (n + 1)) y) (gap_wider row s y x (n + 1) wide) narrower g.puts.0 g.puts.1,
          g.puts.2,
          g.puts.3,
        );
      }

    -- all columns from x to c, before which the row has no point more
    module _ (t : Takes (Gap row s y) room₀) (c : ℕ) (u : x ≤ c) (v : c ≤ s.to) (clear : (j : ℕ) → i ≤ j → j < length (points row) → c ≤ column_at row j) where
      abbrev between : Stretch
      between = record { from = x; to = c }

      lacks_between : (n : ℕ) → Within between n → In (cell n y) (points row) → ⊥
      lacks_between n w m =
          let r = in_held row s y h n m in
          let e = column_is row s y h r.0 n r.1 in
          either (lt_or_le r.0 i) (λ l. omega (arith, e, g.passed.before r.0 l, w.from)) (λ l. omega (arith, e, clear r.0 l r.1.0, w.to))

      split : (p : Point) → Gap row (until s c) y p → Gap row (until s x) y p ⊎ Across between y p
      split p k =
          either (lt_or_le k.column x)
          (λ l. inl record { column = k.column; within = record { from = k.within.from; to = l }; here = k.here; lacks = k.lacks })
          (λ l. inr record { column = k.column; within = record { from = l; to = k.within.to }; here = k.here; lacks = λ m. m })

      inside : (p : Point) → Across between y p → Gap row (until s c) y p
      inside p k = record {
        column = k.column;
        within = record { from = omega (arith, g.from, k.within.from); to = k.within.to };
        here = k.here;
        lacks = λ m. lacks_between k.column k.within (subst (λ q. In q (points row)) k.here m);
      }

      in_order : (p q : Point) → Gap row (until s x) y p → Across between y q → Before p q
      in_order p q k l =
          subst (Before p) (sym l.here) (subst (λ r. Before r (cell l.column y)) (sym k.here)
          (column refl (placed_order k.column l.column (omega (arith, k.within.to, l.within.from)))))

      join : (m : List Point) → Lists (Across between y) m → Lists (Gap row (until s c) y) (g.puts.0 ++ m)
      join m l =
          lists_append (Gap row (until s x) y) (Across between y) (Gap row (until s c) y) split (gap_wider row s y x c u) inside in_order
          g.puts.0 m g.puts.1 l

      pub gapping_rest : 2 * (c - x) ≤ length (rest room (2 * used))
      gapping_rest =
          let r = columns_listed between y u in
          omega (
            arith,
            rest_takes (Gap row (until s x) y) (Gap row s y) (until_gap row s y h x i used room₀ room g) room₀ t used room g.puts (Across between y) (Gap row (until s c) y) join
                (gap_wider row s y c s.to v) r.0 r.1,
            r.2,
          )

      pub gapping_fill : (r : ℕ) (back : List ℤ) → Puts (Across between y) (rest room (2 * used)) r back
          → Gapping row s y c i (used + r) room₀ (put_mid (2 * used) (length room - 2 * used) room back)
      gapping_fill r back p = record {
        from = omega (arith, g.from);
        to = v;
        passed = record { upto = g.passed.upto; before = λ j l. omega (arith, g.passed.before j l); after = clear };
        puts = puts_then (Gap row (until s x) y) (Gap row s y) (until_gap row s y h x i used room₀ room g) room₀ t used room g.puts (Across between y) (Gap row (until s c) y) join r back p;
      }
