-- The gaps of one row: the columns of its stretch gone through, each with a point of the row or a gap. Assumes nothing.
use mathlib.Core.Path.{◌≡◌, refl, sym, ◌∙◌, ap, subst}
use mathlib.Core.Logic.{◌⊎◌, inl, inr}
use mathlib.Core.List.{List, [], ◌∷◌, ◌++◌}
use Prim.Native.Nat.{ℕ, zero, suc, ◌+◌, ◌-◌, ◌*◌, ◌≤◌, ◌<◌}
use native.Mathlib.Omega.{arith}
use borrow.Author.Count.{below_more}
use lib.ListN.{length, set, length-append}
use lib.IntN.{ℤ}
use Rattle.lattice.specs.Point.{Point, points, point, In, Before, column, Lists}
use Rattle.lattice.proofs.Lists.{either}
use Rattle.lattice.proofs.Places.{lt_or_le, nowhere, place_in, in_place}
use Rattle.lattice.proofs.Rooms.{holding_next}
use Rattle.lattice.proofs.SameMembers.{lists_one, lists_append}
use Rattle.packed.specs.Packed.{side, placed}
use Rattle.packed.proofs.RowOrder.{placed_order, placed_injective}
use Rattle.stretch.specs.Stretch.{cell, Within}
use Rattle.stretch.specs.declared.Stretch.{Stretch}
use Rattle.walk.specs.Walk.{column_at, RowPoints, Gap, Across, Takes, Puts}
use Rattle.walk.proofs.Lending.{puts_used}

-- the i-th point of the row is in column x
abbrev pub Held : List ℤ → ℕ → ℕ → Type 0
Held row i x = (i < length (points row)) × ((point (points row) i).x ≡ placed x)

-- the first i points of the row are in columns before x, the others are not
pub record Passed (row : List ℤ) (x i : ℕ) : Type 0 where
  pub upto : i ≤ length (points row)
  pub before : (j : ℕ) → j < i → column_at row j < x
  pub after : (j : ℕ) → i ≤ j → j < length (points row) → x ≤ column_at row j

-- a stretch up to a column
abbrev pub until : Stretch → ℕ → Stretch
until s x = record { from = s.from; to = x }

-- the gaps before column x stand in the room
pub record Gapping (row : List ℤ) (s : Stretch) (y x i used : ℕ) (room₀ room : List ℤ) : Type 0 where
  pub from : s.from ≤ x
  pub to : x ≤ s.to
  pub passed : Passed row x i
  pub puts : Puts (Gap row (until s x) y) room₀ used room

-- ---- gaps up to a column
module _ (row : List ℤ) (s : Stretch) (y : ℕ) where
  pub gap_wider : (a b : ℕ) → a ≤ b → (p : Point) → Gap row (until s a) y p → Gap row (until s b) y p
  gap_wider a b l p g = record {
    column = g.column;
    within = record { from = g.within.from; to = omega (arith, g.within.to) };
    here = g.here;
    lacks = g.lacks;
  }

  pub gap_split : (x : ℕ) (p : Point) → Gap row (until s (x + 1)) y p → Gap row (until s x) y p ⊎ (p ≡ cell x y)
  gap_split x p g =
      either (lt_or_le g.column x)
      (λ l. inl record { column = g.column; within = record { from = g.within.from; to = l }; here = g.here; lacks = g.lacks })
      (λ l. let e : g.column ≡ x = omega (arith, g.within.to) in inr (g.here ∙ ap (λ n. cell n y) e))

  pub gap_before : (x : ℕ) (p q : Point) → Gap row (until s x) y p → q ≡ cell x y → Before p q
  gap_before x p q g e =
      subst (Before p) (sym e) (subst (λ r. Before r (cell x y)) (sym g.here) (column refl (placed_order g.column x g.within.to)))

-- ---- all columns of a stretch
-- a row without points
pub no_points : (s : Stretch) (y : ℕ) → s.from ≤ s.to → s.to ≤ side → RowPoints [] s y
no_points s y u v = record { rising = u; few = v; here = λ i l. nowhere i l; within = λ i l. nowhere i l; rises = λ i j l m. nowhere j m }

-- as many as it is wide
columns_from : (from n y : ℕ) → (l : List Point) × Lists (Across (record { from = from; to = from + n }) y) l × (length l ≡ n)
columns_from from zero y = ([], record { every = λ p g. none g.within; only = λ p m. absurd m; order = tt }, refl)
  where
    none : {n : ℕ} → Within (record { from = from; to = from + 0 }) n → ⊥
    none w = omega (arith, w.from, w.to)
columns_from from (suc n) y =
    let r = columns_from from n y in (
      r.0 ++ cell (from + n) y ∷ [],
      subst (λ m. Lists (Gap [] (record { from = from; to = m }) y) (r.0 ++ cell (from + n) y ∷ [])) (next n)
          (lists_append (Gap [] (until s (from + n)) y) (λ p. p ≡ cell (from + n) y) (Gap [] (until s (from + n + 1)) y) (gap_split [] s y (from + n))
          (gap_wider [] s y (from + n) (from + n + 1) (omega arith)) (λ p e. subst (Gap [] (until s (from + n + 1)) y) (sym e) gap)
          (gap_before [] s y (from + n)) r.0 (cell (from + n) y ∷ []) r.1 (lists_one (cell (from + n) y))),
      omega (arith, r.2, length-append r.0 (cell (from + n) y ∷ [])),
    )
  where
    s : Stretch
    s = record { from = from; to = 0 }

    next : (n : ℕ) → from + n + 1 ≡ from + suc n
    next n = omega arith

    gap : Gap [] (record { from = from; to = from + n + 1 }) y (cell (from + n) y)
    gap = record { column = from + n; within = record { from = omega arith; to = omega arith }; here = refl; lacks = λ m. m }

pub columns_listed : (s : Stretch) (y : ℕ) → s.from ≤ s.to → (l : List Point) × Lists (Across s y) l × (length l ≡ s.to - s.from)
columns_listed s y u =
    let e : s.from + (s.to - s.from) ≡ s.to = omega (arith, u) in
    let r = columns_from s.from (s.to - s.from) y in
    (r.0, subst (λ n. Lists (Across (record { from = s.from; to = n }) y) r.0) e r.1, r.2)

-- ---- the columns gone through
module _ (row : List ℤ) (s : Stretch) (y : ℕ) (h : RowPoints row s y) where
  pub passed_none : Passed row s.from 0
  passed_none = record { upto = omega arith; before = λ j l. nowhere j l; after = λ j u v. (h.within j v).from }

  -- a point of the row in column x, by place
  pub column_is : (i x : ℕ) → Held row i x → column_at row i ≡ x
  column_is i x e = placed_injective (column_at row i) x (sym (ap (λ p. p.x) (h.here i e.0)) ∙ e.1)

  pub is_column : (i x : ℕ) → i < length (points row) → column_at row i ≡ x → Held row i x
  is_column i x l e = (l, ap (λ p. p.x) (h.here i l) ∙ ap placed e)

  pub held_in : (i x : ℕ) → Held row i x → In (cell x y) (points row)
  held_in i x e =
      subst (λ p. In p (points row)) (h.here i e.0 ∙ ap (λ n. cell n y) (column_is i x e)) (place_in (points row) i e.0)

  pub in_held : (x : ℕ) → In (cell x y) (points row) → (i : ℕ) × Held row i x
  in_held x m = let r = in_place (points row) (cell x y) m in (r.0, (r.1, ap (λ p. p.x) (sym r.2)))

  module _ (x i : ℕ) (p : Passed row x i) where
    pub passed_held : Held row i x → Passed row (x + 1) (i + 1)
    passed_held e = record {
      upto = omega (arith, e.0);
      before = below_more (λ j. column_at row j < x + 1) i (λ j l. omega (arith, p.before j l)) (omega (arith, column_is i x e));
      after = λ j u v. omega (arith, column_is i x e, h.rises i j (omega arith) v);
    }

    module _ (n : Held row i x → ⊥) where
      beyond : (j : ℕ) → i ≤ j → j < length (points row) → x < column_at row j
      beyond j u v =
          either (lt_or_le x (column_at row i)) (λ k. either (lt_or_le i j) (λ l. omega (arith, k, h.rises i j l v))
          (λ l. let e : i ≡ j = omega arith in omega (arith, k, ap (column_at row) e)))
          (λ k. absurd (n (is_column i x (omega arith) (omega (arith, k, p.after i (omega arith) (omega arith))))))

      pub passed_gap : Passed row (x + 1) i
      passed_gap = record { upto = p.upto; before = λ j l. omega (arith, p.before j l); after = λ j u v. omega (arith, beyond j u v) }

      pub gap_here : In (cell x y) (points row) → ⊥
      gap_here m =
          let r = in_held x m in
          let e = column_is r.0 x r.1 in
          either (lt_or_le r.0 i) (λ l. omega (arith, e, p.before r.0 l)) (λ l. omega (arith, e, beyond r.0 l r.1.0))

  pub gapping_none : (room : List ℤ) → Gapping row s y s.from 0 0 room room
  gapping_none room = record {
    from = omega arith;
    to = h.rising;
    passed = passed_none;
    puts = ([], record { every = λ p g. none g.within; only = λ p m. absurd m; order = tt }, refl, refl);
  }
    where
      none : {n : ℕ} → Within (until s s.from) n → ⊥
      none w = omega (arith, w.from, w.to)

  module _ (x i used : ℕ) (room₀ room : List ℤ) (g : Gapping row s y x i used room₀ room) where
    module _ (u : x < s.to) (n : Held row i x → ⊥) where
      gap : Gap row (until s (x + 1)) y (cell x y)
      gap = record { column = x; within = record { from = g.from; to = omega arith }; here = refl; lacks = gap_here x i g.passed n }

      more : Lists (Gap row (until s (x + 1)) y) (g.puts.0 ++ cell x y ∷ [])
      more =
          lists_append (Gap row (until s x) y) (λ p. p ≡ cell x y) (Gap row (until s (x + 1)) y) (gap_split row s y x)
          (gap_wider row s y x (x + 1) (omega arith)) (λ p e. subst (Gap row (until s (x + 1)) y) (sym e) gap)
          (gap_before row s y x) g.puts.0 (cell x y ∷ []) g.puts.1 (lists_one (cell x y))

      pub gapping_gap : 2 * used + 1 < length room₀ → (a b : ℤ) → a ≡ placed x → b ≡ placed y
          → Gapping row s y (x + 1) i (used + 1) room₀ (set (set room (2 * used) a) (2 * used + 1) b)
      gapping_gap wide a b e f = record {
        from = omega (arith, g.from);
        to = omega arith;
        passed = passed_gap x i g.passed n;
        puts = (
          g.puts.0 ++ cell x y ∷ [],
          more,
          omega (arith, g.puts.2, length-append g.puts.0 (cell x y ∷ [])),
          (λ j. set (set (g.puts.3 j) (2 * used) (e j)) (2 * used + 1) (f j))
              ∙ holding_next g.puts.0 used (sym g.puts.2) (cell x y) room₀ wide,
        );
      }

    pub until_gap : (p : Point) → Gap row (until s x) y p → Gap row s y p
    until_gap = gap_wider row s y x s.to g.to

    pub gapping_used : Takes (Gap row s y) room₀ → 2 * used ≤ length room
    gapping_used t = puts_used (Gap row (until s x) y) (Gap row s y) until_gap room₀ t used room g.puts

    pub gapping_ends : s.to ≤ x → Puts (Gap row s y) room₀ used room
    gapping_ends u = let e : x ≡ s.to = omega (arith, g.to) in
        subst (λ n. Puts (Gap row (until s n) y) room₀ used room) e g.puts
