-- The rows of a hull gone through, from that of its first corner to that of its last: the points that have P in the rows passed, listed
-- and none of them. Assumes nothing.
use mathlib.Core.Path.{◌≡◌, sym, ◌∙◌, ap, subst}
use mathlib.Core.Logic.{inl, inr}
use mathlib.Core.List.{List, [], ◌∷◌, ◌++◌, map}
use Prim.Native.Nat.{ℕ, suc, ◌+◌, ◌-◌, ◌/◌, ◌≤◌, ◌<◌}
use native.Mathlib.Omega.{arith}
use lib.ListN.{length, get_or}
use lib.IntN.{ℤ, pos, ◌+ℤ◌}
use lib.Signed.{◌≤ℤ◌, ◌<ℤ◌}
use Rattle.whole.proofs.Whole.{ring, quote, gap≤, gap<, ◌⊞◌, ◌⋆≡◌, linear≤, linear<, linear⊥, le_of_equal}
use Rattle.lattice.specs.Point.{Point, least, InRange, points, In, row, Lists}
use Rattle.lattice.specs.Hull.{InHull, member, segment, triangle, Of}
use Rattle.lattice.proofs.Lists.{either, all_in}
use Rattle.lattice.proofs.Decide.{both, equal?, kept?}
use Rattle.lattice.proofs.Frame.{Framed, hull_framed, hull_in_range}
use Rattle.lattice.proofs.RowKey.{range_width}
use Rattle.lattice.proofs.RowLists.{lists_exist}
use Rattle.lattice.proofs.SameMembers.{lists_same, lists_append}
use Rattle.packed.specs.Packed.{side, moved, placed, unpacked}
use Rattle.packed.proofs.Border.{moved_small}
use Rattle.packed.proofs.KeyLaws.{in_unpacked}
use Rattle.packed.proofs.RowOrder.{unpacked_in_range, placed_order, placed_grows}
use Rattle.packed.proofs.KeysOf.{keys_below, keys_unpacked, outline_cornered}
use Rattle.packed.proofs.Corners.{none_before}
use Rattle.rows.specs.Row.{Holds}
use Rattle.range.proofs.Parts.{part}
use Rattle.stretch.specs.Stretch.{StretchOf, Peak, HasRow, first_row, last_row}
use Rattle.stretch.specs.declared.Stretch.{Stretch}
use Rattle.packed.specs.Corners.{HullOf, Cornered, keys_of, Outline}
use Rattle.walk.specs.Walk.{Walked, Lacking, RowPoints, Gap}
use Rattle.walk.proofs.Rows.{part_in, in_part, in_cell, row_next, next_row, row_points}

-- ---- the points that have P in rows before y
abbrev pub Upto : (Point → Type 0) → ℕ → Point → Type 0
Upto P y p = P p × (p.y <ℤ placed y)

module _ (P : Point → Type 0) (y : ℕ) where
  pub upto_none : ((p : Point) → P p → placed y ≤ℤ p.y) → Lists (Upto P y) []
  upto_none f = record {
    every = λ p u. linear⊥ (placed y ∷ p.y ∷ []) (gap≤ (f p u.0) ⊞ gap< u.1) (search quote depth 20) tt;
    only = λ p m. absurd m;
    order = tt;
  }

  pub upto_all : ((p : Point) → P p → p.y <ℤ placed y) → (l : List Point) → Lists (Upto P y) l → Lists P l
  upto_all f = lists_same (Upto P y) P (λ p u. u.0) (λ p h. (h, f p h))

  -- and those of row y behind them
  module _ (Q : Point → Type 0) (in_row : (p : Point) → Q p → P p × (p.y ≡ placed y)) (row_in : (p : Point) → P p → p.y ≡ placed y → Q p) where
    pub upto_more : (l m : List Point) → Lists (Upto P y) l → Lists Q m → Lists (Upto P (y + 1)) (l ++ m)
    upto_more =
        lists_append (Upto P y) Q (Upto P (y + 1))
        (λ p u. either (row_next y p.y u.1) (λ h. inl (u.0, h)) (λ e. inr (row_in p u.0 e)))
        (λ p u. (u.0, linear< (p.y ∷ placed y ∷ placed (y + 1) ∷ []) (gap< u.1 ⊞ gap< (placed_order y (y + 1) (omega arith))) (search quote depth 20) tt))
        (λ p q. ((in_row p q).0, next_row y p.y (le_of_equal (in_row p q).1)))
        (λ p q u k. row (linear< (p.y ∷ q.y ∷ placed y ∷ []) (gap< u.1 ⊞ pos 1 ⋆≡ sym (in_row q k).1) (search quote depth 20) tt))

-- ---- the rows of a hull
-- no corners, no points
pub nothing : (c : List Point) → length c ≡ 0 → (p : Point) → InHull (Of c) p → ⊥
nothing [] e p (member m) = m
nothing [] e p (segment a b m n h) = m
nothing [] e p (triangle a b d m n o h) = m
nothing (a ∷ c) e p h = absurd (never (length c) e)
  where
    never : (n : ℕ) → suc n ≡ 0 → ⊥
    never n e = omega arith

pub nothing_listed : (P : Point → Type 0) → ((p : Point) → P p → ⊥) → Lists P []
nothing_listed P f = record { every = λ p h. f p h; only = λ p m. absurd m; order = tt }

-- no row before the first nor after the last has a point of the hull: of packed corners
module _ {keys : List ℕ} (h : Cornered keys) {peak : ℕ} (g : Peak keys peak) where
  abbrev first : ℕ
  first = get_or keys 0 0 / side

  abbrev last : ℕ
  last = get_or keys peak 0 / side

  height : placed first +ℤ pos (last + 1 - first) ≡ placed (last + 1)
  height =
      let e : first + (last + 1 - first) ≡ last + 1 = omega (arith, none_before h peak g.inside) in
      ring (pos first ∷ pos (last + 1 - first) ∷ []) (search quote depth 20) tt ∙ ap placed e

  framed : (q : Point) → In q (map unpacked keys) → Framed least (placed first) range_width (last + 1 - first) q
  framed q m =
      let r = in_unpacked keys q m in
      let k = get_or keys r.0 0 in
      let n = unpacked_in_range k (h.below r.0 r.1) in
      subst (Framed least (placed first) range_width (last + 1 - first)) (sym r.2) record {
        left = n.x_from;
        right = linear< ((unpacked k).x ∷ []) (gap≤ n.x_to) (search quote depth 20) tt;
        low = linear≤ (placed first ∷ placed (k / side) ∷ []) (placed_grows first (k / side) (omega (arith, none_before h r.0 r.1))) (search quote depth 20) tt;
        high = subst (λ z. placed (k / side) <ℤ z) (sym height) (placed_order (k / side) (last + 1) (omega (arith, g.greatest r.0 r.1)));
      }

  in_rows_of_keys : (p : Point) → HullOf keys p → (placed first ≤ℤ p.y) × (p.y <ℤ placed (last + 1))
  in_rows_of_keys p i =
      let f = hull_framed least (placed first) range_width (last + 1 - first) (Of (map unpacked keys)) framed p i in
      (f.low, subst (λ z. p.y <ℤ z) height f.high)

-- of corners as numbers
module _ {corners : List ℤ} (h : Outline corners) where
  pub hull_range : (p : Point) → InHull (Of (points corners)) p → InRange p
  hull_range = hull_in_range (Of (points corners)) (all_in InRange (points corners) h.range)

  module _ {peak : ℕ} (g : Peak (keys_of corners) peak) where
    pub some : 0 < length (keys_of corners)
    some = omega (arith, g.inside)

    pub has_row : (y : ℕ) → first_row corners ≤ y → y ≤ last_row corners peak → HasRow corners peak y
    has_row y u v =
        let k = outline_cornered h in
        record { range = h.range; peaked = record { below = k.below; listed = k.listed; peaks = g; from_row = u; to_row = v } }

    pub has_first_row : HasRow corners peak (first_row corners)
    has_first_row = has_row (first_row corners) (omega arith) (omega (arith, g.greatest 0 some))

    pub last_row_lem : last_row corners peak < side
    last_row_lem = omega (arith, keys_below corners h.range peak g.inside)

    pub in_rows : (p : Point) → InHull (Of (points corners)) p → (placed (first_row corners) ≤ℤ p.y) × (p.y <ℤ placed (last_row corners peak + 1))
    in_rows p i =
        in_rows_of_keys (outline_cornered h) g p (subst (λ c. InHull (Of c) p) (sym (keys_unpacked corners h.range)) i)

-- ---- the gaps of a row are the points of the row that are lacking
module _ {corners list : List ℤ} (w : Walked corners list) (y begin end : ℕ) (s : Stretch)
    (f : StretchOf (points corners) y s) (k : Holds (points list) (placed y) begin end) where
  abbrev pub row_of : List ℤ
  row_of = part list begin end

  in_list : (p : Point) → In p (points list) → InHull (Of (points corners)) p
  in_list = all_in (InHull (Of (points corners))) (points list) w.inside

  pub row_is : RowPoints row_of s y
  row_is = row_points (points corners) list y begin end s k f w.order in_list (λ p m. hull_range w.outline p (in_list p m))

  pub gap_lacking : (p : Point) → Gap row_of s y p → Lacking corners list p × (p.y ≡ placed y)
  gap_lacking p g =
      let e = ap (λ q. q.y) g.here in (
        record {
          within = subst (InHull (Of (points corners))) (sym g.here) (f.inside g.column g.within);
          kept = λ m. g.lacks (in_part list begin end (placed y) k p m e);
        },
        e,
      )

  pub lacking_gap : (p : Point) → Lacking corners list p → p.y ≡ placed y → Gap row_of s y p
  lacking_gap p l e =
      let r = hull_range w.outline p l.within in
      let q = in_cell p y r e in
      record {
        column = moved p.x;
        within = f.all (moved p.x) (moved_small p.x r.x_from r.x_to) (subst (InHull (Of (points corners))) q l.within);
        here = q;
        lacks = λ m. l.kept (part_in list begin end (placed y) k p m).0;
      }

  -- they can be listed
  pub gaps_exist : (l : List Point) × Lists (Gap row_of s y) l
  gaps_exist =
      let r = lists_exist (λ p. Lacking corners list p × (p.y ≡ placed y)) (λ p. both (kept? (points corners) (points list) p) (equal? p.y (placed y)))
      (points corners) (λ p h. h.0.within) in
      (r.0, lists_same (λ p. Lacking corners list p × (p.y ≡ placed y)) (Gap row_of s y) (λ p h. lacking_gap p h.0 h.1) gap_lacking r.0 r.1)
