-- Both sides of a hull from its first row to its last, and what lies between them. Assumes nothing.
use mathlib.Core.Path.{◌≡◌, refl, sym, ap, subst}
use mathlib.Core.List.{List, map}
use Prim.Native.Nat.{ℕ, suc, ◌+◌, ◌-◌, ◌*◌, ◌/◌, ◌%◌, ◌≤◌, ◌<◌}
use native.Mathlib.Numerals.{add-one}
use native.Mathlib.Omega.{arith}
use lib.ListN.{length, get_or}
use lib.IntN.{ℤ}
use Rattle.lattice.specs.Point.{points}
use Rattle.lattice.proofs.Lists.{either}
use Rattle.lattice.proofs.Places.{lt_or_le}
use Rattle.packed.specs.Packed.{side, unpacked}
use Rattle.packed.specs.Corners.{keys_of}
use Rattle.packed.proofs.KeysOf.{keys_unpacked}
use Rattle.stretch.specs.Stretch.{Bounded, Slope, Way, StretchOf, Peaked, HasRow, last_row, Tall, Rises, Falls, RisesFrom, FallsFrom, unit, moved, column_of, Climbs, Only, Rising, Falling, OnRight, OnLeft, Crosses, stepped, GoesOn}
use Rattle.stretch.specs.declared.Stretch.{Stretch}
use Rattle.stretch.specs.declared.Edge.{Edge}
use Rattle.stretch.specs.declared.Crossing.{Crossing}
use Rattle.stretch.proofs.Climbing.{step_small, climbs_on, right_column, left_column}
use Rattle.stretch.proofs.Sides.{after_below, rises_on, flat, crossed}

module _ (corners : List ℕ) (peak y : ℕ) (h : Peaked corners peak y) where
  abbrev first_row_lem : ℕ
  first_row_lem = get_or corners 0 0 / side

  abbrev last_row_lem : ℕ
  last_row_lem = get_or corners peak 0 / side

  rising_slope : (i : ℕ) → Rises corners y i → Slope (get_or corners i 0) (get_or corners (i + 1) 0) y
  rising_slope i r = subst (λ n. Slope (get_or corners i 0) (get_or corners n 0) y) (sym (add-one i)) (record {
    a_below = h.below i (omega (arith, r.inside));
    b_below = h.below (suc i) r.inside;
    low = r.low;
    high = r.high;
    steep = r.steep;
  })

  falling_slope : (i end : ℕ) → Falls corners y i end → Slope end (get_or corners i 0) y
  falling_slope i end f = record {
    a_below = after_below corners i end h.below f.after;
    b_below = h.below i f.inside;
    low = f.low;
    high = f.high;
    steep = f.steep;
  }

  -- the hull has the row after y
  next_row : y < last_row_lem → Peaked corners peak (y + 1)
  next_row l = record { below = h.below; listed = h.listed; peaks = h.peaks; from_row = omega (arith, h.from_row); to_row = omega arith }

  tall_from : y < last_row_lem → Tall corners peak
  tall_from l = omega (arith, h.from_row)

  -- an edge that crosses further rows is one of a hull of several
  tall_by : (e : Edge) (corner : ℕ) → corner / side ≤ last_row_lem → ((Tall corners peak → ⊥) → Only corner e) → y < e.last → Tall corners peak
  tall_by e corner k n l =
      either (lt_or_le first_row_lem last_row_lem) (λ t. t)
      (λ g. absurd (omega (arith, h.from_row, k, g, (n (λ t. omega (arith, t, g))).last)))

  -- what lies between the sides
  between_sides : (c : Crossing) → Crosses corners peak y c → (t : Stretch) → Bounded (column_of c.left) (column_of c.right + 1) t
      → StretchOf (map unpacked corners) y t
  between_sides c k t b =
      either (lt_or_le first_row_lem last_row_lem)
      (λ g. let r = k.right.tall g in let f = k.left.tall g in
      crossed corners peak y h _ r.rises _ _ f.falls _ _ t
      (right_column _ _ y (rising_slope _ r.rises) c.right r.climbs) (left_column _ _ y (falling_slope _ _ f.falls) c.left f.climbs) b)
      (λ g. let n : Tall corners peak → ⊥ = λ t. omega (arith, t, g) in
      flat corners peak y h n t
      (subst (λ m. Bounded m (get_or corners peak 0 % side + 1) t) (k.left.only n).column
      (subst (λ m. Bounded (column_of c.left) (m + 1) t) (k.right.only n).column b)))

  -- ---- the right side
  module _ (e : Edge) (on : OnRight corners peak y e) where
    module _ (l : y < e.last) where
      right_tall : Tall corners peak
      right_tall = tall_by e (get_or corners peak 0) (omega arith) on.only l

      up : Rising corners peak y e
      up = on.tall right_tall

      up_high : y < get_or corners (up.place + 1) 0 / side
      up_high = omega (arith, l, up.climbs.last)

      up_on : y + 1 ≤ get_or corners (suc up.place) 0 / side
      up_on = subst (λ n. y + 1 ≤ get_or corners n 0 / side) (add-one up.place) (omega (arith, up_high))

      pub right_small : e.position + e.slope < unit * unit
      right_small = step_small _ _ y (rising_slope up.place up.rises) 0 (omega arith) up_high e up.climbs

      pub right_on : (r : Edge) → r ≡ stepped e → OnRight corners peak (y + 1) r
      right_on r q = let k = up.rises in subst (OnRight corners peak (y + 1)) (sym q) (record {
        tall = λ t. record {
          place = up.place;
          top = up.top;
          before = up.before;
          rises = record { inside = k.inside; low = omega (arith, k.low); high = up_on; steep = k.steep };
          climbs = climbs_on _ _ y (rising_slope up.place k) 0 (omega arith) up_high e up.climbs;
        };
        only = λ n. absurd (n right_tall);
      })

    -- past its end: the next edge, or one behind it
    pub rises_from : y < last_row_lem → e.last ≤ y → RisesFrom corners peak (y + 1) e.top
    rises_from l k =
        let r = on.tall (tall_from l) in
        subst (RisesFrom corners peak (y + 1)) (sym r.top)
        (rises_on corners peak (y + 1) (next_row l) r.place (record { before = r.before; low = omega (arith, r.rises.low) }) (omega (arith, k, r.climbs.last)))

  pub right_of : (i : ℕ) → i < peak → Rises corners y i → Tall corners peak → (e : Edge) → e.top ≡ i + 1
      → Climbs (get_or corners i 0) (get_or corners (i + 1) 0) y 0 e → OnRight corners peak y e
  right_of i b r t e q c = record { tall = λ _. record { place = i; top = q; before = b; rises = r; climbs = c }; only = λ n. absurd (n t) }

  -- ---- the left side
  module _ (e : Edge) (on : OnLeft corners peak y e) where
    module _ (l : y < e.last) where
      left_tall : Tall corners peak
      left_tall = tall_by e (get_or corners 0 0) (omega (arith, h.from_row, h.to_row)) on.only l

      down : Falling corners peak y e
      down = on.tall left_tall

      down_high : y < get_or corners e.top 0 / side
      down_high = omega (arith, l, down.climbs.last)

      pub left_below : y < last_row_lem
      left_below = omega (arith, down_high, h.peaks.greatest e.top down.falls.inside)

      pub left_small : e.position + e.slope < unit * unit
      left_small = step_small _ _ y (falling_slope e.top down.end down.falls) moved (omega arith) down_high e down.climbs

      pub left_on : (r : Edge) → r ≡ stepped e → OnLeft corners peak (y + 1) r
      left_on r q = let f = down.falls in subst (OnLeft corners peak (y + 1)) (sym q) (record {
        tall = λ t. record {
          end = down.end;
          behind = down.behind;
          falls = record { inside = f.inside; after = f.after; high = omega (arith, down_high); low = omega (arith, f.low); steep = f.steep };
          climbs = climbs_on _ _ y (falling_slope e.top down.end f) moved (omega arith) down_high e down.climbs;
        };
        only = λ n. absurd (n left_tall);
      })

    module _ (l : y < last_row_lem) (k : e.last ≤ y) where
      done : Falling corners peak y e
      done = on.tall (tall_from l)

      low : get_or corners e.top 0 / side ≤ y
      low = omega (arith, k, done.climbs.last)

      pub falls_place : peak < e.top
      falls_place =
          either (lt_or_le peak e.top) (λ g. g)
          (λ g. let q : peak ≡ e.top = omega (arith, done.behind, g) in absurd (omega (arith, l, low, ap (λ n. get_or corners n 0 / side) q)))

      pub falls_from : FallsFrom corners peak (y + 1) (e.top - 1)
      falls_from = let q : e.top ≡ e.top - 1 + 1 = omega (arith, falls_place) in record {
        behind = omega (arith, falls_place);
        inside = omega (arith, falls_place, done.falls.inside);
        low = subst (λ n. get_or corners n 0 / side < y + 1) q (omega (arith, low));
      }

  pub left_of : (i end : ℕ) → peak ≤ i → Falls corners y i end → Tall corners peak → (e : Edge) → e.top ≡ i
      → Climbs end (get_or corners i 0) y moved e → OnLeft corners peak y e
  left_of i end b f t e q c = record {
    tall = λ _. record {
      end = end;
      behind = omega (arith, b, q);
      falls = subst (λ n. Falls corners y n end) (sym q) f;
      climbs = subst (λ n. Climbs end (get_or corners n 0) y moved e) (sym q) c;
    };
    only = λ n. absurd (n t);
  }

-- ---- corners as numbers
module _ {corners : List ℤ} {peak y : ℕ} (h : HasRow corners peak y) where
  pub row_after : y < last_row corners peak → HasRow corners peak (y + 1)
  row_after l = record { range = h.range; peaked = next_row (keys_of corners) peak y h.peaked l }

  -- both edges go on
  module _ (c : Crossing) (k : Crosses (keys_of corners) peak y c) (g : GoesOn c y) where
    pub both_small : (c.left.position + c.left.slope < unit * unit) × (c.right.position + c.right.slope < unit * unit)
    both_small = (left_small (keys_of corners) peak y h.peaked c.left k.left g.0, right_small (keys_of corners) peak y h.peaked c.right k.right g.1)

    pub both_on : (r : Crossing) → r ≡ record { left = stepped c.left; right = stepped c.right } → Crosses (keys_of corners) peak (y + 1) r
    both_on r e = subst (Crosses (keys_of corners) peak (y + 1)) (sym e) (record {
      left = left_on (keys_of corners) peak y h.peaked c.left k.left g.0 (stepped c.left) refl;
      right = right_on (keys_of corners) peak y h.peaked c.right k.right g.1 (stepped c.right) refl;
    })

  -- the ways between corners
  pub rising_way : (i : ℕ) → Rises (keys_of corners) y i → Way corners i (i + 1) y
  rising_way i r = record {
    range = h.range;
    low_inside = omega (arith, r.inside);
    high_inside = omega (arith, r.inside);
    slope = rising_slope (keys_of corners) peak y h.peaked i r;
  }

  pub falling_way : (i : ℕ) → suc i < length (keys_of corners) → Falls (keys_of corners) y i (get_or (keys_of corners) (i + 1) 0) → Way corners (i + 1) i y
  falling_way i l f = record {
    range = h.range;
    low_inside = omega arith;
    high_inside = omega arith;
    slope = falling_slope (keys_of corners) peak y h.peaked i _ f;
  }

  pub closing_way : (i : ℕ) → Falls (keys_of corners) y i (get_or (keys_of corners) 0 0) → Way corners 0 i y
  closing_way i f = record {
    range = h.range;
    low_inside = omega (arith, f.inside);
    high_inside = f.inside;
    slope = falling_slope (keys_of corners) peak y h.peaked i _ f;
  }

  pub columns_between : (c : Crossing) → Crosses (keys_of corners) peak y c → (t : Stretch) → Bounded (column_of c.left) (column_of c.right + 1) t
      → StretchOf (points corners) y t
  columns_between c k t b =
      subst (λ l. StretchOf l y t) (keys_unpacked corners h.range) (between_sides (keys_of corners) peak y h.peaked c k t b)
