-- What the loops over the rows of a hull have done before row y: written, looked for. Assumes nothing.
use mathlib.Core.Path.{◌≡◌, refl, sym, ◌∙◌, ap, subst}
use mathlib.Core.List.{List, [], ◌++◌}
use Prim.Native.Nat.{ℕ, ◌+◌, ◌-◌, ◌*◌, ◌/◌, ◌%◌, ◌≤◌, ◌<◌}
use native.Mathlib.Omega.{arith}
use borrow.Rule.Slice.PartMut.{put_mid}
use lib.ListN.{length}
use lib.IntN.{ℤ}
use lib.Signed.{◌≤ℤ◌, ◌<ℤ◌}
use Rattle.lattice.specs.Point.{Point, points, point, In, Lists}
use Rattle.lattice.specs.Hull.{InHull, Of}
use Rattle.lattice.proofs.Lists.{either}
use Rattle.lattice.proofs.Places.{lt_or_le, nowhere, all_place}
use Rattle.packed.specs.Packed.{side, cells, placed, unpacked}
use Rattle.packed.proofs.RowOrder.{placed_injective, placed_order}
use Rattle.rows.specs.Row.{Holds, LeadsTo}
use Rattle.range.proofs.Parts.{part}
use Rattle.packed.specs.Corners.{keys_of}
use Rattle.stretch.specs.Stretch.{cell, StretchOf, Peak, first_row, last_row}
use Rattle.stretch.specs.declared.Stretch.{Stretch}
use Rattle.walk.specs.Walk.{Walked, Lacking, FirstOf, Takes, Puts, Gap, FirstColumn}
use Rattle.walk.proofs.Rows.{at_cell, row_next, holds_leads}
use Rattle.walk.proofs.Lending.{rest, puts_length, puts_used, rest_takes, puts_then}
use Rattle.walk.proofs.Gaps.{Held, Passed, passed_none, passed_held, held_in, gap_here}
use Rattle.walk.proofs.Filling.{full_row}
use Rattle.walk.proofs.Walking.{some, Upto, upto_none, upto_all, upto_more, in_rows, last_row_lem, row_is, gap_lacking, lacking_gap, gaps_exist}

-- row y is one of the hull's, or the one after the last
pub record Between (corners : List ℤ) (last y : ℕ) : Type 0 where
  pub from : first_row corners ≤ y
  pub upto : y ≤ last + 1

module _ (corners : List ℤ) (peak : ℕ) where
  pub between_first : 0 < length (keys_of corners) → Peak (keys_of corners) peak → (y : ℕ) → y ≡ first_row corners → Between corners (last_row corners peak) y
  between_first l g y e = record { from = omega (arith, e); upto = omega (arith, e, g.greatest 0 l) }

  -- one row more
  pub between_next : (y : ℕ) → Between corners (last_row corners peak) y → y ≤ last_row corners peak → Between corners (last_row corners peak) (y + 1)
  between_next y b u = record { from = omega (arith, b.from); upto = omega arith }

-- ---- what is lacking, row by row
module _ {corners list : List ℤ} (w : Walked corners list) {peak : ℕ} (g : Peak (keys_of corners) peak) where
  rows : (p : Point) → Lacking corners list p → (placed (first_row corners) ≤ℤ p.y) × (p.y <ℤ placed ((last_row corners peak) + 1))
  rows p l = in_rows w.outline g p l.within

  none_yet : (y : ℕ) → y ≡ first_row corners → Lists (Upto (Lacking corners list) y) []
  none_yet y e = upto_none (Lacking corners list) y (λ p l. subst (λ n. placed n ≤ℤ p.y) (sym e) (rows p l).0)

  module _ (y : ℕ) (b : Between corners (last_row corners peak) y) where
    -- past the last row
    pub before_past : (last_row corners peak) < y → (p : Point) → Lacking corners list p → p.y <ℤ placed y
    before_past u p l = let e : (last_row corners peak) + 1 ≡ y = omega (arith, b.upto) in
        subst (λ n. p.y <ℤ placed n) e (rows p l).1

    pub all_passed : (last_row corners peak) < y → (l : List Point) → Lists (Upto (Lacking corners list) y) l → Lists (Lacking corners list) l
    all_passed u = upto_all (Lacking corners list) y (before_past u)

-- ---- written
pub record Written (corners list : List ℤ) (last y begin used : ℕ) (room₀ room : List ℤ) : Type 0 where
  pub between : Between corners last y
  pub leads : LeadsTo (points list) (placed y) begin
  pub puts : Puts (Upto (Lacking corners list) y) room₀ used room

module _ {corners list : List ℤ} (w : Walked corners list) {peak : ℕ} (g : Peak (keys_of corners) peak) where
  -- no point of the list is in a row before the first
  leads_none : (y : ℕ) → y ≡ first_row corners → LeadsTo (points list) (placed y) 0
  leads_none y e = record {
    upto = omega arith;
    before = λ i u. nowhere i u;
    stops = λ u. let p = point (points list) 0 in
        subst (λ n. placed n ≤ℤ p.y) (sym e) (in_rows w.outline g p (all_place (InHull (Of (points corners))) (points list) w.inside 0 u)).0;
  }

  pub written_none : (room : List ℤ) (y : ℕ) → y ≡ first_row corners → Written corners list (last_row corners peak) y 0 0 room room
  written_none room y e = record {
    between = between_first corners peak (some w.outline g) g y e;
    leads = leads_none y e;
    puts = ([], none_yet w g y e, refl, refl);
  }

  module _ (room₀ : List ℤ) (t : Takes (Lacking corners list) room₀) (y begin used : ℕ) (room : List ℤ) (d : Written corners list (last_row corners peak) y begin used room₀ room) where
    upto_lacking : (p : Point) → Upto (Lacking corners list) y p → Lacking corners list p
    upto_lacking p u = u.0

    pub written_length : length room ≡ length room₀
    written_length = puts_length (Upto (Lacking corners list) y) (Lacking corners list) upto_lacking room₀ t used room d.puts

    pub written_used : 2 * used ≤ length room
    written_used = puts_used (Upto (Lacking corners list) y) (Lacking corners list) upto_lacking room₀ t used room d.puts

    module _ (u : y ≤ (last_row corners peak)) (s : Stretch) (f : StretchOf (points corners) y s) (end : ℕ) (k : Holds (points list) (placed y) begin end) where
      more : (m : List Point) → Lists (Gap (part list begin end) s y) m → Lists (Upto (Lacking corners list) (y + 1)) (d.puts.0 ++ m)
      more m l =
          upto_more (Lacking corners list) y (Gap (part list begin end) s y) (gap_lacking w y begin end s f k)
          (lacking_gap w y begin end s f k) d.puts.0 m d.puts.1 l

      -- the rest of the room has place for the row's
      pub written_room : Takes (Gap (part list begin end) s y) (rest room (2 * used))
      written_room =
          let m = gaps_exist w y begin end s f k in (
            m.0,
            m.1,
            rest_takes (Upto (Lacking corners list) y) (Lacking corners list) upto_lacking room₀ t used room d.puts
                (Gap (part list begin end) s y) (Upto (Lacking corners list) (y + 1)) more (λ p u. u.0) m.0 m.1,
          )

      pub written_more : (r : ℕ) (back : List ℤ) → Puts (Gap (part list begin end) s y) (rest room (2 * used)) r back
          → Written corners list (last_row corners peak) (y + 1) end (used + r) room₀ (put_mid (2 * used) (length room - 2 * used) room back)
      written_more r back p = record {
        between = between_next corners peak y d.between u;
        leads = holds_leads (points list) y begin end k;
        puts = puts_then (Upto (Lacking corners list) y) (Lacking corners list) upto_lacking room₀ t used room d.puts
            (Gap (part list begin end) s y) (Upto (Lacking corners list) (y + 1)) more r back p;
      }

    pub written_all : (last_row corners peak) < y → Puts (Lacking corners list) room₀ used room
    written_all u = (d.puts.0, all_passed w g y d.between u d.puts.0 d.puts.1, d.puts.2, d.puts.3)

-- ---- looked for
-- nothing is lacking in the rows before y
pub record Searched (corners list : List ℤ) (last y begin : ℕ) : Type 0 where
  pub between : Between corners last y
  pub leads : LeadsTo (points list) (placed y) begin
  pub none : (p : Point) → Upto (Lacking corners list) y p → ⊥

-- nor in the columns of row y before x
pub record Searching (row : List ℤ) (s : Stretch) (y x : ℕ) : Type 0 where
  pub from : s.from ≤ x
  pub to : x ≤ s.to
  pub passed : Passed row x (x - s.from)
  pub full : (n : ℕ) → s.from ≤ n → n < x → In (cell n y) (points row)

module _ {corners list : List ℤ} (w : Walked corners list) {peak : ℕ} (g : Peak (keys_of corners) peak) where
  pub searched_none : (y : ℕ) → y ≡ first_row corners → Searched corners list (last_row corners peak) y 0
  searched_none y e = record {
    between = between_first corners peak (some w.outline g) g y e;
    leads = leads_none w g y e;
    none = (none_yet w g y e).every;
  }

  module _ (y begin : ℕ) (d : Searched corners list (last_row corners peak) y begin) where
    pub searched_all : (last_row corners peak) < y → FirstOf (Lacking corners list) cells
    searched_all u = record {
      upto = omega arith;
      here = λ l. absurd (omega arith);
      earlier = λ k l h. d.none (unpacked k) (h, before_past w g y d.between u (unpacked k) h);
    }

    module _ (u : y ≤ (last_row corners peak)) (s : Stretch) (f : StretchOf (points corners) y s) (end : ℕ) (k : Holds (points list) (placed y) begin end) where
      abbrev row_of : List ℤ
      row_of = part list begin end

      searching_none : Searching row_of s y s.from
      searching_none = let e : s.from - s.from ≡ 0 = omega arith in record {
        from = omega arith;
        to = f.rising;
        passed = subst (Passed row_of s.from) (sym e) (passed_none row_of s y (row_is w y begin end s f k));
        full = λ n l m. absurd (omega arith);
      }

      searching_full : length (points row_of) ≡ s.to - s.from → Searching row_of s y s.to
      searching_full e = let r = row_is w y begin end s f k in record {
        from = f.rising;
        to = omega arith;
        passed = record {
          upto = omega (arith, e);
          before = λ j l. (r.within j (omega (arith, e, l))).to;
          after = λ j l m. absurd (omega (arith, e, l, m));
        };
        full = full_row row_of s y r e;
      }

      pub searching_first : (x : ℕ) → FirstColumn s (length (points row_of)) x → Searching row_of s y x
      searching_first x c =
          either c (λ e. subst (Searching row_of s y) (sym e) searching_none) (λ e. subst (Searching row_of s y) (sym e.1) (searching_full e.0))

      module _ (x : ℕ) (h : Searching row_of s y x) where
        pub searching_more : x < s.to → Held row_of (x - s.from) x → Searching row_of s y (x + 1)
        searching_more l e = let c : x - s.from + 1 ≡ x + 1 - s.from = omega (arith, h.from) in record {
          from = omega (arith, h.from);
          to = omega arith;
          passed = subst (Passed row_of (x + 1)) c (passed_held row_of s y (row_is w y begin end s f k) x (x - s.from) h.passed e);
          full = λ n a b. either (lt_or_le n x) (λ m. h.full n a m)
              (λ m. let c : x ≡ n = omega arith in
              subst (λ z. In (cell z y) (points row_of)) c (held_in row_of s y (row_is w y begin end s f k) (x - s.from) x e));
        }

        -- no point before column x of row y is lacking
        none_before : (p : Point) → Lacking corners list p → p.y ≡ placed y → (n : ℕ) → p ≡ cell n y → n < x → ⊥
        none_before p l e n q m =
            let a = lacking_gap w y begin end s f k p l e in
            a.lacks (subst (λ z. In z (points row_of)) (sym q) (h.full n (from_stretch a n q) m))
          where
            from_stretch : (a : Gap row_of s y p) (n : ℕ) → p ≡ cell n y → s.from ≤ n
            from_stretch a n q =
                let c : a.column ≡ n = placed_injective a.column n (ap (λ z. z.x) (sym a.here ∙ q)) in
                omega (arith, c, a.within.from)

        pub searching_found : x < s.to → (Held row_of (x - s.from) x → ⊥) → (side * y + x < cells) × FirstOf (Lacking corners list) (side * y + x)
        searching_found l n = let small : side * y + x < cells = omega (arith, l, f.few, u, last_row_lem w.outline g) in (
          small,
          record {
            upto = omega (arith, small);
            here = λ _. subst (Lacking corners list) (sym (at_cell x y (omega (arith, l, f.few))))
                (gap_lacking w y begin end s f k (cell x y) (record {
                  column = x;
                  within = record { from = h.from; to = l };
                  here = refl;
                  lacks = gap_here row_of s y (row_is w y begin end s f k) x (x - s.from) h.passed n;
                })).0;
            earlier = λ i a b. either (lt_or_le (i / side) y) (λ m. d.none (unpacked i) (b, placed_order (i / side) y m))
                (λ m. let e : i / side ≡ y = omega (arith, a, l, f.few) in
                none_before (unpacked i) b (ap placed e) (i % side) (ap (λ z. record { x = placed (i % side); y = placed z }) e) (omega (arith, a, e)));
          },
        )

        pub searching_all : s.to ≤ x → Searched corners list (last_row corners peak) (y + 1) end
        searching_all l = record {
          between = between_next corners peak y d.between u;
          leads = holds_leads (points list) y begin end k;
          none = λ p a. either (row_next y p.y a.1) (λ b. d.none p (a.0, b))
              (λ b. let q = lacking_gap w y begin end s f k p a.0 b in
              none_before p a.0 b q.column q.here (omega (arith, q.within.to)));
        }
