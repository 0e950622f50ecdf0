-- The packed points of a list of numbers, by place, and a corner list of numbers as one of packed points. Assumes nothing.
use mathlib.Core.Path.{◌≡◌, refl, sym, ◌∙◌, ap, subst}
use mathlib.Core.List.{List, [], ◌∷◌, map}
use Prim.Native.Nat.{ℕ, zero, suc, ◌/◌, ◌%◌, ◌<◌}
use native.Mathlib.Omega.{arith}
use lib.ListN.{length, get_or, length-map}
use lib.IntN.{ℤ}
use Rattle.lattice.specs.Point.{Point, InRange, points, point, All}
use Rattle.lattice.specs.Hull.{CornerList}
use Rattle.lattice.proofs.Numbers.{points_length}
use Rattle.lattice.proofs.Places.{nowhere, all_place}
use Rattle.packed.specs.Packed.{side, cells, moved, packed, unpacked}
use Rattle.packed.specs.Corners.{Cornered, keys_of, Outline}
use Rattle.packed.proofs.Border.{moved_small}
use Rattle.packed.proofs.RowOrder.{packed_below, unpacked_packed}

packed_at : (l : List Point) (i : ℕ) → i < length l → get_or (map packed l) i 0 ≡ packed (point l i)
packed_at [] i h = nowhere i h
packed_at (p ∷ l) zero h = refl
packed_at (p ∷ l) (suc i) h = packed_at l i (omega arith)

unpacked_all : (l : List Point) → All InRange l → map unpacked (map packed l) ≡ l
unpacked_all [] h = refl
unpacked_all (p ∷ l) h =
    let e = unpacked_packed p h.0 in
    let f = unpacked_all l h.1 in
    λ i. e i ∷ f i

module _ (list : List ℤ) where
  -- as many as points, half as many as numbers
  pub keys_many : length (keys_of list) ≡ length (points list)
  keys_many = length-map (points list) packed

  pub keys_length : length (keys_of list) ≡ length list / 2
  keys_length = keys_many ∙ points_length list

  pub key_of_lem : (i : ℕ) → i < length (points list) → packed (point (points list) i) ≡ get_or (keys_of list) i 0
  key_of_lem i h = sym (packed_at (points list) i h)

  -- its column and its row
  module _ (i : ℕ) (h : i < length (points list)) (r : InRange (point (points list) i)) where
    small : moved (point (points list) i).x < side
    small = moved_small (point (points list) i).x r.x_from r.x_to

    pub column_of_lem : moved (point (points list) i).x ≡ get_or (keys_of list) i 0 % side
    column_of_lem = omega (arith, small, key_of_lem i h)

    pub row_of : moved (point (points list) i).y ≡ get_or (keys_of list) i 0 / side
    row_of = omega (arith, small, key_of_lem i h)

  module _ (range : All InRange (points list)) where
    -- a point can be read at each place
    pub readable : (i : ℕ) → i < length (keys_of list) → (i < length (points list)) × InRange (point (points list) i)
    readable i h = let l : i < length (points list) = omega (arith, h, keys_many) in (l, all_place InRange (points list) range i l)

    pub key_point : (i : ℕ) → i < length (keys_of list) → unpacked (get_or (keys_of list) i 0) ≡ point (points list) i
    key_point i h =
        let r = readable i h in
        ap unpacked (sym (key_of_lem i r.0)) ∙ unpacked_packed (point (points list) i) r.1

    pub keys_below : (i : ℕ) → i < length (keys_of list) → get_or (keys_of list) i 0 < cells
    keys_below i h =
        let r = readable i h in
        subst (λ n. n < cells) (key_of_lem i r.0) (packed_below (point (points list) i) r.1)

    pub keys_unpacked : map unpacked (keys_of list) ≡ points list
    keys_unpacked = unpacked_all (points list) range

-- a corner list
module _ {corners : List ℤ} (h : Outline corners) where
  pub outline_cornered : Cornered (keys_of corners)
  outline_cornered = record {
    below = keys_below corners h.range;
    listed = subst (λ c. CornerList c c) (sym (keys_unpacked corners h.range)) h.listed;
  }
