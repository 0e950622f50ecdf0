-- Row order is the order of packed points, packing and unpacking undo one another, and what is unpacked is in range. Assumes nothing.
use mathlib.Core.Path.{◌≡◌, sym, ◌∙◌, ap, subst₂}
use mathlib.Core.List.{[], ◌∷◌}
use Prim.Native.Nat.{ℕ, ◌/◌, ◌%◌, ◌≤◌, ◌<◌}
use native.Mathlib.Omega.{arith}
use lib.Dec.{ltb→lt, le→leb, lt→ltb}
use lib.IntN.{ℤ, pos, nat_abs, ◌-ℤ◌}
use Rattle.whole.proofs.Whole.{quote, ◌≤ᶻ◌, ◌<ᶻ◌, NonNegative, natural, gap≤, gap<, linear≤, linear<, linear≡, ◌∗≡◌}
use Rattle.lattice.specs.Point.{Point, least, InRange, Before, row, column}
use Rattle.lattice.proofs.Lists.{either}
use Rattle.lattice.proofs.HalfPlane.{point_equal}
use Rattle.lattice.proofs.Places.{lt_or_le}
use Rattle.packed.specs.Packed.{side, cells, moved, placed, packed, unpacked}
use Rattle.packed.proofs.Border.{moved_is, moved_small}

-- ---- one coordinate
pub placed_moved : (z : ℤ) → least ≤ᶻ z → placed (moved z) ≡ z
placed_moved z h = linear≡ (z ∷ pos (moved z) ∷ []) (pos 1 ∗≡ sym (moved_is z h)) (search quote depth 20) tt

pub placed_order : (m n : ℕ) → m < n → placed m <ᶻ placed n
placed_order m n h =
    let l : pos m <ᶻ pos n = record { lt = lt→ltb m n h } in
    linear< (pos m ∷ pos n ∷ []) (gap< l) (search quote depth 20) tt

pub placed_grows : (m n : ℕ) → m ≤ n → NonNegative (placed n -ℤ placed m)
placed_grows m n h =
    let l : pos m ≤ᶻ pos n = record { le = le→leb m n h } in
    linear≤ (pos m ∷ pos n ∷ []) (gap≤ l) (search quote depth 20) tt

pub order_placed : (m n : ℕ) → placed m <ᶻ placed n → m < n
order_placed m n h =
    let l : pos m <ᶻ pos n = linear< (pos m ∷ pos n ∷ []) (gap< h) (search quote depth 20) tt in
    ltb→lt m n l.lt

pub placed_injective : (m n : ℕ) → placed m ≡ placed n → m ≡ n
placed_injective m n e =
    let f : pos m ≡ pos n = linear≡ (pos m ∷ pos n ∷ []) (pos 1 ∗≡ e) (search quote depth 20) tt in
    ap nat_abs f

placed_range : (n : ℕ) → n < side → (placed 0 ≤ᶻ placed n) × (placed n ≤ᶻ placed 16383)
placed_range n h =
    let u : pos n ≤ᶻ pos 16383 = record { le = le→leb n 16383 (omega arith) } in (
      linear≤ (pos n ∷ []) (natural n) (search quote depth 20) tt,
      linear≤ (pos n ∷ []) (gap≤ u) (search quote depth 20) tt,
    )

-- ---- points
pub unpacked_in_range : (k : ℕ) → k < cells → InRange (unpacked k)
unpacked_in_range k h =
    let x = placed_range (k % side) (omega arith) in
    let y = placed_range (k / side) (omega arith) in
    record { x_from = x.0; x_to = x.1; y_from = y.0; y_to = y.1 }

pub packed_below : (p : Point) → InRange p → packed p < cells
packed_below p r =
    omega (arith, moved_small p.x r.x_from r.x_to, moved_small p.y r.y_from r.y_to)

pub unpacked_packed : (p : Point) → InRange p → unpacked (packed p) ≡ p
unpacked_packed p r =
    let u = moved_small p.x r.x_from r.x_to in
    let v = moved_small p.y r.y_from r.y_to in
    let e : packed p % side ≡ moved p.x = omega arith in
    let f : packed p / side ≡ moved p.y = omega arith in
    point_equal
    (ap placed e ∙ placed_moved p.x r.x_from)
    (ap placed f ∙ placed_moved p.y r.y_from)

pub unpacked_injective : (k l : ℕ) → unpacked k ≡ unpacked l → k ≡ l
unpacked_injective k l e =
    let x = placed_injective (k % side) (l % side) (ap (λ p. p.x) e) in
    let y = placed_injective (k / side) (l / side) (ap (λ p. p.y) e) in
    omega arith

-- ---- row order
pub before_unpacked : (k l : ℕ) → k < l → Before (unpacked k) (unpacked l)
before_unpacked k l h =
    either (lt_or_le (k / side) (l / side))
    (λ r. row (placed_order (k / side) (l / side) r))
    (λ r. let e : k / side ≡ l / side = omega arith in column (ap placed e) (placed_order (k % side) (l % side) (omega arith)))

pub unpacked_before : (k l : ℕ) → Before (unpacked k) (unpacked l) → k < l
unpacked_before k l (row r) = omega (arith, order_placed (k / side) (l / side) r)
unpacked_before k l (column e c) =
    omega (arith, placed_injective (k / side) (l / side) e, order_placed (k % side) (l % side) c)

-- of points in range, by their packed forms
pub packed_before : (a b : Point) → InRange a → InRange b → packed a < packed b → Before a b
packed_before a b r s h =
    let e = unpacked_packed a r in
    let f = unpacked_packed b s in
    subst₂ Before e f (before_unpacked (packed a) (packed b) h)

pub before_packed : (a b : Point) → InRange a → InRange b → Before a b → packed a < packed b
before_packed a b r s h =
    let e = unpacked_packed a r in
    let f = unpacked_packed b s in
    unpacked_before (packed a) (packed b) (subst₂ Before (sym e) (sym f) h)
