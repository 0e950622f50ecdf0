-- The shape of a corner list: the first in row order first, any three in list order turn left; and the test of as many turns as the list
-- has points, twice over, that it is exactly. Assumes nothing.
use mathlib.Core.Path.{◌≡◌}
use mathlib.Core.Logic.{◌↔◌}
use mathlib.Core.List.{List, [], ◌∷◌}
use Prim.Native.Nat.{ℕ, zero, suc, ◌<◌}
use native.Mathlib.Omega.{arith}
use lib.ListN.{length}
use lib.IntN.{ℤ, ◌+ℤ◌, ◌*ℤ◌}
use Rattle.whole.proofs.Whole.{Positive, positive_by_products}
use Rattle.lattice.specs.Point.{Point, point, In, All, Pairs, Triples, Before}
use Rattle.lattice.specs.Hull.{turn, StartsFirst}
use Rattle.lattice.proofs.Turn.{Left, plücker_inner, plücker_outer}
use Rattle.lattice.proofs.Lists.{all_in, in_all, pairs_map, pairs_both, Bends, chain_pairs, bends_tail}
use Rattle.lattice.proofs.Places.{nowhere, all_place, place_all, triples_place, place_chain, place_bends}
use Rattle.lattice.proofs.RowKey.{turn_transitive}

pub record Shape (c : List Point) : Type 0 where
  pub start : StartsFirst c
  pub three : Triples Left c

-- the test: the first is before each other one, and each two neighbours turn left as the first sees them, and each three neighbours
pub record ShapeTest (c : List Point) : Type 0 where
  pub first : (i : ℕ) → suc i < length c → Before (point c 0) (point c (suc i))
  pub seen : (i : ℕ) → suc (suc i) < length c → Left (point c 0) (point c (suc i)) (point c (suc (suc i)))
  pub bends : (i : ℕ) → suc (suc i) < length c → Left (point c i) (point c (suc i)) (point c (suc (suc i)))

-- ---- from any three neighbours to any three, where an order q of the points goes with the turn
module _ (turns : Point → Point → Point → ℤ) (q : Point → Point → ℤ)
    (inner : (a b c d : Point) → q b c *ℤ turns a c d ≡ q c d *ℤ turns a b c +ℤ q a c *ℤ turns b c d)
    (outer : (a b c d : Point) → q b c *ℤ turns a b d ≡ q b d *ℤ turns a b c +ℤ q a b *ℤ turns b c d) where
  abbrev Turning : Point → Point → Point → Type 0
  Turning a b c = Positive (turns a b c)

  abbrev Rising : Point → Point → Type 0
  Rising a b = Positive (q a b)

  -- one point more in front
  in_front : (a b c : Point) (l : List Point) → Pairs Rising (a ∷ b ∷ c ∷ l) → Turning a b c → Triples Turning (b ∷ c ∷ l)
      → Pairs (Turning a) (b ∷ c ∷ l)
  in_front a b c l r h t =
      (near, pairs_map Both (Turning a) (c ∷ l) far (pairs_both (Turning b) Rising (c ∷ l) t.0 r.1.1))
    where
      Both : Point → Point → Type 0
      Both x y = Turning b x y × Rising x y

      near : All (Turning a b) (c ∷ l)
      near = (
        h,
        in_all (Turning a b) l
            (λ d m. positive_by_products (outer a b c d) r.1.0.0 (all_in (Rising b) l r.1.0.1 d m) h r.0.0
            (all_in (Turning b c) l t.0.0 d m)),
      )

      far : (x y : Point) → In x (c ∷ l) → In y (c ∷ l) → Turning b x y × Rising x y → Turning a x y
      far x y i j g =
          positive_by_products (inner a b x y) (all_in (Rising b) (c ∷ l) r.1.0 x i) g.1 (all_in (Turning a b) (c ∷ l) near x i)
          (all_in (Rising a) (c ∷ l) r.0.1 x i) g.0

  pub triples_of_bends : (l : List Point) → Pairs Rising l → Bends Turning l → Triples Turning l
  triples_of_bends [] r h = tt
  triples_of_bends (a ∷ []) r h = (tt, tt)
  triples_of_bends (a ∷ b ∷ []) r h = ((tt, tt), (tt, tt))
  triples_of_bends (a ∷ b ∷ c ∷ l) r h =
      let t = triples_of_bends (b ∷ c ∷ l) r.1 h.1 in
      (in_front a b c l r h.0 t, t)

-- ---- the test is the shape
tested_shape : (c : List Point) → ShapeTest c → Shape c
tested_shape [] t = record { start = tt; three = tt }
tested_shape (o ∷ l) t = record {
  start = after;
  three = (around, triples_of_bends turn (turn o) (plücker_inner o) (plücker_outer o) l around bent);
}
  where
    after : All (Before o) l
    after = place_all (Before o) l (λ i h. t.first i (omega arith))

    after_in : (q : Point) → In q l → Before o q
    after_in = all_in (Before o) l after

    around : Pairs (Left o) l
    around =
        chain_pairs (Left o) l
        (λ a b c i j k. turn_transitive o a b c (after_in a i) (after_in b j) (after_in c k))
        (place_chain (Left o) l (λ i h. t.seen i (omega arith)))

    bent : Bends Left l
    bent = bends_tail Left o l (place_bends Left (o ∷ l) t.bends)

shape_tested : (c : List Point) → Shape c → ShapeTest c
shape_tested [] s = record { first = λ i. nowhere (suc i); seen = λ i. nowhere (suc (suc i)); bends = λ i. nowhere (suc (suc i)) }
shape_tested (o ∷ l) s = record {
  first = λ i h. all_place (Before o) l s.start i (omega arith);
  seen = λ i h. triples_place Left (o ∷ l) s.three zero (suc i) (suc (suc i)) (omega arith) (omega arith) h;
  bends = λ i h. triples_place Left (o ∷ l) s.three i (suc i) (suc (suc i)) (omega arith) (omega arith) h;
}

-- the linear test is right, both ways
pub shape_test : (c : List Point) → ShapeTest c ↔ Shape c
shape_test c = (tested_shape c, shape_tested c)
