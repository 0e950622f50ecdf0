-- The corners of a corner list of packed points, by place: the first is the least, any three turn left, and they rise to the last in row
-- order and then fall. Assumes nothing.
use mathlib.Core.Path.{subst, subst₂}
use mathlib.Core.List.{List, map}
use Prim.Native.Nat.{ℕ, zero, suc, ◌≤◌, ◌<◌}
use native.Mathlib.Omega.{arith}
use lib.ListN.{length, get_or, length-map}
use Rattle.lattice.specs.Point.{point, Before}
use Rattle.lattice.proofs.Places.{triples_place}
use Rattle.lattice.proofs.Turn.{Left}
use Rattle.lattice.proofs.RowKey.{no_valley}
use Rattle.lattice.proofs.CornerLists.{corner_list_test}
use Rattle.packed.specs.Packed.{unpacked}
use Rattle.packed.specs.Corners.{Cornered}
use Rattle.packed.proofs.RowOrder.{before_unpacked, unpacked_before}
use Rattle.packed.proofs.KeyLaws.{unpacked_at}

module _ {corners : List ℕ} (h : Cornered corners) where
  pub first_least : (i : ℕ) → suc i < length corners → get_or corners 0 0 < get_or corners (suc i) 0
  first_least i l =
      unpacked_before (get_or corners 0 0) (get_or corners (suc i) 0)
      (subst₂ Before (unpacked_at corners 0 (omega arith)) (unpacked_at corners (suc i) l)
      (((corner_list_test (map unpacked corners)).1 h.listed).first i (omega (arith, l, length-map corners unpacked))))

  pub none_before : (i : ℕ) → i < length corners → get_or corners 0 0 ≤ get_or corners i 0
  none_before zero l = omega arith
  none_before (suc i) l = omega (arith, first_least i l)

  pub any_three : (i j k : ℕ) → i < j → j < k → k < length corners
      → Left (unpacked (get_or corners i 0)) (unpacked (get_or corners j 0)) (unpacked (get_or corners k 0))
  any_three i j k u v l =
      subst (λ p. Left p (unpacked (get_or corners j 0)) (unpacked (get_or corners k 0))) (unpacked_at corners i (omega arith))
      (subst (λ p. Left (point (map unpacked corners) i) p (unpacked (get_or corners k 0))) (unpacked_at corners j (omega arith))
      (subst (λ p. Left (point (map unpacked corners) i) (point (map unpacked corners) j) p) (unpacked_at corners k l)
      (triples_place Left (map unpacked corners) h.listed.three i j k u v (omega (arith, l, length-map corners unpacked)))))

  -- no corner stands between two that are no less
  pub no_dip : (i j k : ℕ) → i < j → j < k → k < length corners → get_or corners j 0 ≤ get_or corners i 0 → get_or corners j 0 ≤ get_or corners k 0 → ⊥
  no_dip i zero k u v l a b = omega arith
  no_dip zero (suc j) k u v l a b = omega (arith, a, first_least j (omega arith))
  no_dip (suc i) (suc j) k u v l a b =
      no_valley (unpacked (get_or corners 0 0)) (unpacked (get_or corners (suc i) 0)) (unpacked (get_or corners (suc j) 0)) (unpacked (get_or corners k 0))
      (before_unpacked (get_or corners 0 0) (get_or corners (suc j) 0) (first_least j (omega arith)))
      (λ n. omega (arith, a, unpacked_before (get_or corners (suc i) 0) (get_or corners (suc j) 0) n))
      (λ n. omega (arith, b, unpacked_before (get_or corners k 0) (get_or corners (suc j) 0) n))
      (any_three 0 (suc i) (suc j) (omega arith) u (omega arith)) (any_three 0 (suc j) k (omega arith) v l) (any_three (suc i) (suc j) k u v l)
