-- The first and the last points of rows, among packed points that rise. Assumes nothing.
use mathlib.Core.Path.{◌≡◌, refl, sym, ◌∙◌, ap}
use mathlib.Core.Logic.{inl, inr}
use mathlib.Core.List.{List, [], ◌∷◌}
use Prim.Native.Nat.{ℕ, zero, suc, ◌+◌, ◌-◌, ◌/◌, ◌%◌, ◌≤◌, ◌<◌}
use native.Mathlib.Omega.{arith}
use lib.ListN.{length, get_or}
use lib.IntN.{ℤ, pos, negsuc, neg_ℤ, ◌-ℤ◌, ◌*ℤ◌}
use Rattle.whole.proofs.Whole.{quote, NonNegative, ◌⊠◌, linear≤}
use Rattle.lattice.specs.Point.{InRange}
use Rattle.lattice.proofs.Lists.{either}
use Rattle.lattice.proofs.Places.{lt_or_le}
use Rattle.lattice.proofs.RowKey.{range_width, before_key, key_before, opposite, opposite_back}
use Rattle.lattice.proofs.Scan.{Over}
use Rattle.packed.specs.Packed.{side, placed}
use Rattle.packed.proofs.RowOrder.{unpacked_in_range, before_unpacked, unpacked_before, placed_grows}
use Rattle.scan.specs.Scanning.{at, Rising, EndsRow, StartsRow}
use Rattle.scan.proofs.Ways.{Way}

-- the row of a place
abbrev pub row_at : List ℕ → ℕ → ℕ
row_at keys i = get_or keys i 0 / side

module _ (keys : List ℕ) (h : Rising keys) where
  -- a later place is not in an earlier row, and in one row not in an earlier column
  key_grows : (i j : ℕ) → i ≤ j → j < length keys → get_or keys i 0 ≤ get_or keys j 0
  key_grows i j l n =
      either (lt_or_le i j) (λ u. omega (arith, h.rises i j u n))
      (λ u. let e : i ≡ j = omega arith in omega (arith, ap (λ k. get_or keys k 0) e))

  row_grows : (i j : ℕ) → i ≤ j → j < length keys → NonNegative ((at keys j).y -ℤ (at keys i).y)
  row_grows i j l n = placed_grows (row_at keys i) (row_at keys j) (omega (arith, key_grows i j l n))

  column_grows : (i j : ℕ) → i ≤ j → j < length keys → row_at keys i ≡ row_at keys j → NonNegative ((at keys j).x -ℤ (at keys i).x)
  column_grows i j l n e = placed_grows (get_or keys i 0 % side) (get_or keys j 0 % side) (omega (arith, e, key_grows i j l n))

  in_range : (i : ℕ) → i < length keys → InRange (at keys i)
  in_range i l = unpacked_in_range (get_or keys i 0) (h.below i l)

  -- ---- the key orders the places, both ways
  pub up_over : (i j : ℕ) → i < length keys → j < length keys → j < i → Over (pos 1) (pos range_width) (at keys i) (at keys j)
  up_over i j l n u = before_key (at keys j) (at keys i) (in_range j n) (in_range i l) (before_unpacked (get_or keys j 0) (get_or keys i 0) (h.rises j i u l))

  over_up : (i j : ℕ) → i < length keys → j < length keys → Over (pos 1) (pos range_width) (at keys i) (at keys j) → j < i
  over_up i j l n o =
      let b = unpacked_before (get_or keys j 0) (get_or keys i 0) (key_before (at keys j) (at keys i) (in_range j n) (in_range i l) o) in
      either (lt_or_le j i) (λ u. u) (λ u. absurd (omega (arith, b, key_grows i j u n)))

  same_row : (j : ℕ) → row_at keys (suc j) ≤ row_at keys j → suc j < length keys → row_at keys j ≡ row_at keys (suc j)
  same_row j u l = omega (arith, u, key_grows j (suc j) (omega arith) l)

  -- ---- the last and the first place of a row
  pub row_end : (rest j : ℕ) → j + suc rest ≡ length keys → (e : ℕ) × (j ≤ e) × (e < length keys) × EndsRow keys e × (row_at keys j ≡ row_at keys e)
  row_end zero j q = (j, omega arith, omega arith, (λ l. absurd (omega arith)), refl)
  row_end (suc rest) j q =
      either (lt_or_le (row_at keys j) (row_at keys (suc j)))
      (λ u. (j, omega arith, omega arith, (λ l e. absurd (omega arith)), refl))
      (λ u. let r = row_end rest (suc j) (omega arith) in
      (r.0, omega (arith, r.1), r.2, r.3, same_row j u (omega arith) ∙ r.4))

  pub row_start : (j : ℕ) → j < length keys → (e : ℕ) × (e ≤ j) × StartsRow keys e × (row_at keys j ≡ row_at keys e)
  row_start zero l = (zero, omega arith, (λ i f. absurd (omega arith)), refl)
  row_start (suc j) l =
      either (lt_or_le (row_at keys j) (row_at keys (suc j)))
      (λ u. (suc j, omega arith, (λ i f e. let d : i ≡ j = omega arith in absurd (omega (arith, e, ap (row_at keys) d))), refl))
      (λ u. let r = row_start j (omega arith) in (r.0, omega (arith, r.1), r.2, sym (same_row j u l) ∙ r.3))

  -- ---- the way up by the last points of the rows, the way down by the first
  pub up : 0 < length keys → Way keys (pos 1) (pos range_width) 0 (length keys - 1) (EndsRow keys)
  up some = record {
    After = λ i j. j < i;
    first_in = some;
    last_in = omega arith;
    over = up_over;
    from_first = λ j l. either (lt_or_le 0 j) (λ u. inr u) (λ u. inl (omega arith));
    to_last = λ j l. either (lt_or_le j (length keys - 1)) (λ u. inr u) (λ u. inl (omega arith));
    last_end = λ l. absurd (omega arith);
    ends = λ j l. let r = row_end (length keys - suc j) j (omega arith) in (
      r.0,
      r.2,
      r.3,
      ap placed r.4,
      λ u v m n o. row_grows v u (omega (arith, over_up u v m n o)) m ⊠ column_grows j r.0 r.1 r.2 r.4,
    );
  }

  pub down : 0 < length keys → Way keys (negsuc 0) (neg_ℤ (pos range_width)) (length keys - 1) 0 (StartsRow keys)
  down some = record {
    After = λ i j. i < j;
    first_in = omega arith;
    last_in = some;
    over = λ i j l n u. opposite (pos range_width) (at keys i) (at keys j) (up_over j i n l u);
    from_first = λ j l. either (lt_or_le j (length keys - 1)) (λ u. inr u) (λ u. inl (omega arith));
    to_last = λ j l. either (lt_or_le 0 j) (λ u. inr u) (λ u. inl (omega arith));
    last_end = λ j f. absurd (omega arith);
    ends = λ j l. let r = row_start j l in (
      r.0,
      omega (arith, r.1),
      r.2,
      ap placed r.3,
      λ u v m n o. let w = over_up v u n m (opposite_back (pos range_width) (at keys u) (at keys v) o) in
          both_down (at keys u).y (at keys v).y (at keys r.0).x (at keys j).x (row_grows u v (omega (arith, w)) n) (column_grows r.0 j r.1 l (sym r.3)),
    );
  }
    where
      both_down : (a b c d : ℤ) → NonNegative (b -ℤ a) → NonNegative (d -ℤ c) → NonNegative ((a -ℤ b) *ℤ (c -ℤ d))
      both_down a b c d u v = linear≤ (a ∷ b ∷ c ∷ d ∷ []) (u ⊠ v) (search quote depth 20) tt

-- ---- the ends of a row looked for, place by place
pub record Running (keys : List ℕ) (begin end : ℕ) : Type 0 where
  pub some : begin < end
  pub upto : end ≤ length keys
  pub same : (j : ℕ) → begin ≤ j → suc j < end → row_at keys j ≡ row_at keys (suc j)
  pub row : row_at keys begin ≡ row_at keys (end - 1)
