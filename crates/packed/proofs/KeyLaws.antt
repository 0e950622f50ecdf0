-- Packed points by place, what packed points that rise are a list of, and how many points the range has. Assumes nothing.
use mathlib.Core.Path.{◌≡◌, refl, sym, ◌∙◌, subst}
use mathlib.Core.List.{List, [], ◌∷◌, map}
use Prim.Native.Nat.{ℕ, zero, suc, ◌≤◌, ◌<◌}
use native.Mathlib.Omega.{arith}
use lib.ListN.{length, get_or, length-map}
use Rattle.lattice.specs.Point.{Point, InRange, point, In, All, Pairs, Lists, Before}
use Rattle.lattice.proofs.Lists.{in_all}
use Rattle.lattice.proofs.Places.{nowhere, place_in, in_place, all_place, pairs_place, place_pairs}
use Rattle.lattice.specs.Hull.{Of}
use Rattle.lattice.proofs.Frame.{hull_in_range}
use Rattle.packed.specs.Packed.{cells, packed, unpacked}
use Rattle.packed.specs.Keys.{Below}
use Rattle.packed.specs.Corners.{HullOf}
use Rattle.packed.proofs.RowOrder.{before_unpacked, packed_below, before_packed, unpacked_in_range}

pub unpacked_at : (keys : List ℕ) (i : ℕ) → i < length keys → point (map unpacked keys) i ≡ unpacked (get_or keys i 0)
unpacked_at [] i h = nowhere i h
unpacked_at (k ∷ keys) zero h = refl
unpacked_at (k ∷ keys) (suc i) h = unpacked_at keys i (omega arith)

-- a packed point of the list, by place, both ways
pub unpacked_in : (keys : List ℕ) (i : ℕ) → i < length keys → In (unpacked (get_or keys i 0)) (map unpacked keys)
unpacked_in keys i h =
    subst (λ p. In p (map unpacked keys)) (unpacked_at keys i h)
    (place_in (map unpacked keys) i (omega (arith, length-map keys unpacked)))

pub in_unpacked : (keys : List ℕ) (p : Point) → In p (map unpacked keys) → (i : ℕ) × (i < length keys) × (p ≡ unpacked (get_or keys i 0))
in_unpacked keys p m =
    let r = in_place (map unpacked keys) p m in
    let h : r.0 < length keys = omega (arith, r.1, length-map keys unpacked) in
    (r.0, h, r.2 ∙ unpacked_at keys r.0 h)

-- keys that rise are points in row order
pub rising_lists : (P : Point → Type 0) (keys : List ℕ)
    → ((i j : ℕ) → i < j → j < length keys → get_or keys i 0 < get_or keys j 0)
    → ((i : ℕ) → i < length keys → P (unpacked (get_or keys i 0)))
    → ((p : Point) → P p → (i : ℕ) × (i < length keys) × (p ≡ unpacked (get_or keys i 0))) → Lists P (map unpacked keys)
rising_lists P keys rises only every = record {
  every = λ p h. let r = every p h in subst (λ q. In q (map unpacked keys)) (sym r.2) (unpacked_in keys r.0 r.1);
  only = λ p m. let r = in_unpacked keys p m in subst P (sym r.2) (only r.0 r.1);
  order = place_pairs Before (map unpacked keys) (λ i j h k.
      let l : j < length keys = omega (arith, k, length-map keys unpacked) in
      let e = unpacked_at keys i (omega arith) in
      let f = unpacked_at keys j l in
      subst (λ p. Before p (point (map unpacked keys) j)) (sym e)
      (subst (λ q. Before (unpacked (get_or keys i 0)) q) (sym f) (before_unpacked (get_or keys i 0) (get_or keys j 0) (rises i j h l))));
}

-- ---- how many
-- points in range and in row order, by place: as many packed points are less
rank : (l : List Point) → Pairs Before l → All InRange l → (i : ℕ) → i < length l → i ≤ packed (point l i)
rank l h r zero k = omega arith
rank l h r (suc i) k =
    let b = before_packed (point l i) (point l (suc i)) (all_place InRange l r i (omega arith)) (all_place InRange l r (suc i) k)
    (pairs_place Before l h i (suc i) (omega arith) k) in
    omega (arith, b, rank l h r i (omega arith))

-- a list of points in range, each once, has at most 2^28
pub lists_small : (P : Point → Type 0) → ((p : Point) → P p → InRange p) → (l : List Point) → Lists P l → length l ≤ cells
lists_small P f l h = by_length (length l) refl
  where
    range : All InRange l
    range = in_all InRange l (λ p m. f p (h.only p m))

    by_length : (n : ℕ) → length l ≡ n → n ≤ cells
    by_length zero e = omega arith
    by_length (suc n) e =
        let k : n < length l = omega arith in
        omega (arith, rank l h.order range n k, packed_below (point l n) (all_place InRange l range n k))

-- ---- the hull of packed corners is in range
pub packed_hull_range : (corners : List ℕ) → Below corners → (p : Point) → HullOf corners p → InRange p
packed_hull_range corners below = hull_in_range (Of (map unpacked corners)) (λ q m. let r = in_unpacked corners q m in
    subst InRange (sym r.2) (unpacked_in_range (get_or corners r.0 0) (below r.0 r.1)))
