-- What holds of both sides of a hull alike: a side is followed upwards edge by edge, and from row to row. Assumes nothing.
use mathlib.Core.Path.{◌≡◌, refl, sym, subst}
use mathlib.Core.List.{List}
use Prim.Native.Nat.{ℕ, ◌+◌, ◌*◌, ◌-◌, ◌/◌, ◌≤◌, ◌<◌, ◌^◌}
use native.Mathlib.Omega.{arith}
use lib.ListN.{length, get_or}
use lib.IntN.{ℤ}
use Rattle.packed.specs.Packed.{side}
use Rattle.packed.specs.Corners.{keys_of}
use Rattle.stretch.specs.Stretch.{Way, Bounded, Peaked, HasRow, last_row, RisesFrom, FallsFrom, unit, above, CanRise, column_of, move_of, Climbs, OnSide, stepped, Following}
use Rattle.stretch.specs.declared.Side.{Side}
use Rattle.stretch.specs.declared.Side.TheVariants.{Left, Right}
use Rattle.stretch.specs.declared.Stretch.{Stretch}
use Rattle.stretch.specs.declared.Edge.{Edge}
use Rattle.stretch.specs.declared.Crossing.{Crossing}
use Rattle.stretch.specs.Ahead.{Ahead, IsNext}
use Rattle.stretch.proofs.Rowing.{row_small}
use Rattle.stretch.proofs.Sides.{rises_on, rises_here, rises_tall, falls_past, falls_on, falls_here, falls_tall}
use Rattle.stretch.proofs.Following.{left_small, left_on, falls_place, falls_from, left_of, right_small, right_on, rises_from, right_of, rising_way, falling_way, columns_between}

-- how many corners are left above one
abbrev pub corners_left : Side → ℕ → ℕ → ℕ
corners_left Left peak i = i
corners_left Right peak i = peak - i

-- the edge of a side from place `low` up to place `high` crosses row y, or ends below it
abbrev pub Nears : Side → List ℕ → ℕ → ℕ → ℕ → ℕ → Type 0
Nears Left corners peak y low high = FallsFrom corners peak y high × (low ≡ high + 1)
Nears Right corners peak y low high = RisesFrom corners peak y low × (high ≡ low + 1)

-- ---- an edge that goes on
module _ (corners : List ℕ) (peak y : ℕ) (h : Peaked corners peak y) where
  pub side_small : (s : Side) (e : Edge) → OnSide s corners peak y e → y < e.last → e.position + e.slope < unit * unit
  side_small Left = left_small corners peak y h
  side_small Right = right_small corners peak y h

  pub side_on : (s : Side) (e : Edge) → OnSide s corners peak y e → y < e.last → (r : Edge) → r ≡ stepped e → OnSide s corners peak (y + 1) r
  side_on Left = left_on corners peak y h
  side_on Right = right_on corners peak y h

  -- ---- one that has ended: the search for the next begins at its upper corner
  pub side_rises : (s : Side) (e : Edge) → OnSide s corners peak y e → y < get_or corners peak 0 / side → e.last ≤ y → length corners < 2 ^ 63 → CanRise s e.top
  side_rises Left e on l k few = omega (arith, falls_place corners peak y h e on l k)
  side_rises Right e on l k few = omega (arith, (rises_from corners peak y h e on l k).before, h.peaks.inside, few)

  pub side_nears : (s : Side) (e : Edge) → OnSide s corners peak y e → y < get_or corners peak 0 / side → e.last ≤ y
      → Nears s corners peak (y + 1) e.top (above s e.top)
  side_nears Left e on l k = (falls_from corners peak y h e on l k, omega (arith, falls_place corners peak y h e on l k))
  side_nears Right e on l k = (rises_from corners peak y h e on l k, refl)

-- ---- the search
module _ (corners : List ℕ) (peak y : ℕ) (h : Peaked corners peak y) where
  pub nears_inside : (s : Side) (low high : ℕ) → Nears s corners peak y low high → high < length corners
  nears_inside Left low high n = omega (arith, n.0.inside)
  nears_inside Right low high n = omega (arith, n.0.before, n.1, h.peaks.inside)

  -- past an edge that ends below row y
  module _ (low high : ℕ) (u : get_or corners high 0 / side < y) where
    rises_past : RisesFrom corners peak y low → high ≡ low + 1 → RisesFrom corners peak y high
    rises_past r e = subst (RisesFrom corners peak y) (sym e) (rises_on corners peak y h low r (subst (λ n. get_or corners n 0 / side < y) e u))

    pub nears_rises : (s : Side) → Nears s corners peak y low high → length corners < 2 ^ 63 → CanRise s high
    nears_rises Left n few = omega (arith, falls_past corners peak y h high n.0 u)
    nears_rises Right n few = omega (arith, (rises_past n.0 n.1).before, h.peaks.inside, few)

    pub nears_on : (s : Side) → Nears s corners peak y low high → Nears s corners peak y high (above s high)
    nears_on Left n = (falls_on corners peak y h high n.0 u, omega (arith, falls_past corners peak y h high n.0 u))
    nears_on Right n = (rises_past n.0 n.1, refl)

    pub nears_less : (s : Side) → Nears s corners peak y low high → corners_left s peak (above s high) < corners_left s peak high
    nears_less Left n = omega (arith, falls_past corners peak y h high n.0 u)
    nears_less Right n = omega (arith, (rises_past n.0 n.1).before)

-- ---- the edge that is found
module _ {corners : List ℤ} {peak y : ℕ} (h : HasRow corners peak y) (low high : ℕ) (v : y ≤ get_or (keys_of corners) high 0 / side) where
  abbrev keys : List ℕ
  keys = keys_of corners

  pub nears_way : (s : Side) → Nears s keys peak y low high → Way corners low high y
  nears_way Left n = subst (λ i. Way corners i high y) (sym n.1) (falling_way h high n.0.inside (falls_here keys peak y h.peaked high n.0 v))
  nears_way Right n = subst (λ i. Way corners low i y) (sym n.1) (rising_way h low (rises_here keys peak y h.peaked low n.0 (subst (λ i. y ≤ get_or keys i 0 / side) n.1 v)))

  pub nears_found : (s : Side) → Nears s keys peak y low high → (e : Edge) → e.top ≡ high
      → Climbs (get_or keys low 0) (get_or keys high 0) y (move_of s) e → OnSide s keys peak y e
  nears_found Left n e q c =
      left_of keys peak y h.peaked high _ n.0.behind (falls_here keys peak y h.peaked high n.0 v) (falls_tall keys peak y h.peaked high n.0) e q
      (subst (λ i. Climbs (get_or keys i 0) (get_or keys high 0) y (move_of Left) e) n.1 c)
  nears_found Right n e q c =
      right_of keys peak y h.peaked low n.0.before (rises_here keys peak y h.peaked low n.0 (subst (λ i. y ≤ get_or keys i 0 / side) n.1 v))
      (rises_tall keys peak y h.peaked low n.0) e (subst (λ i. e.top ≡ i) n.1 q)
      (subst (λ i. Climbs (get_or keys low 0) (get_or keys i 0) y (move_of Right) e) n.1 c)

-- ---- the rows gone through
module _ {corners : List ℤ} {peak last y : ℕ} {k : Crossing} (f : Following corners peak last y k) (u : y ≤ last_row corners peak) where
  pub is_row : HasRow corners peak y
  is_row = let p = f.has_first.peaked in record {
    range = f.has_first.range;
    peaked = record { below = p.below; listed = p.listed; peaks = p.peaks; from_row = f.from; to_row = u };
  }

  pub next_is : (a : Ahead) → record { corners = corners; peak = peak; y = y } ≡ a → (s : Stretch) → Bounded (column_of k.left) (column_of k.right + 1) s
      → IsNext a y s (record { corners = corners; peak = peak; y = y + 1 })
  next_is a e s b = subst (λ a. IsNext a y s (record { corners = corners; peak = peak; y = y + 1 })) e (record {
    is = refl;
    upto = u;
    few = row_small (keys_of corners) peak y is_row.peaked;
    stretch = columns_between is_row k (f.here u) s b;
    after = refl;
  })
