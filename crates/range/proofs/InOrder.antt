-- Laws of the loop that looks whether points are in range and strictly in row order. Assumes nothing.
use mathlib.Core.Path.{◌≡◌}
use mathlib.Core.Logic.{◌⊎◌, inl, inr}
use mathlib.Core.List.{List}
use Prim.Native.Nat.{ℕ, suc, ◌+◌, ◌≤◌, ◌<◌}
use native.Mathlib.Omega.{arith}
use borrow.Author.Count.{below_more}
use lib.ListN.{length}
use Rattle.lattice.specs.Point.{Point, InRange, point, All, Pairs, Before}
use Rattle.lattice.proofs.Places.{all_place, place_all, pairs_place, place_pairs}
use Rattle.packed.specs.Packed.{packed}
use Rattle.packed.proofs.RowOrder.{packed_before, before_packed}

-- the first i points are in range and in row order, all below `least`, which is one more than the last of them
pub record Rising (l : List Point) (least i : ℕ) : Type 0 where
  pub upto : i ≤ length l
  pub range : (j : ℕ) → j < i → InRange (point l j)
  pub order : (j k : ℕ) → j < k → k < i → Before (point l j) (point l k)
  pub below : (j : ℕ) → j < i → packed (point l j) < least
  pub last : (least ≡ 0) ⊎ ((j : ℕ) × (j < i) × (least ≡ suc (packed (point l j))))

module _ (l : List Point) (least i : ℕ) (h : Rising l least i) (inside : i < length l) where
  pub rising_more : InRange (point l i) → least ≤ packed (point l i) → Rising l (packed (point l i) + 1) (i + 1)
  rising_more r m = record {
    upto = omega arith;
    range = below_more (λ j. InRange (point l j)) i h.range r;
    order = λ j k g u. below_more (λ n. j < n → Before (point l j) (point l n)) i (λ n v w. h.order j n w v)
        (λ v. packed_before (point l j) (point l i) (h.range j v) r (omega (arith, h.below j v))) k u g;
    below = below_more (λ j. packed (point l j) < packed (point l i) + 1) i (λ j v. omega (arith, h.below j v)) (omega arith);
    last = inr (i, omega arith, omega arith);
  }

  pub rising_breaks : InRange (point l i) → packed (point l i) < least → All InRange l × Pairs Before l → ⊥
  rising_breaks r m (ranges, order) = by_last h.last
    where
      by_last : (least ≡ 0) ⊎ ((j : ℕ) × (j < i) × (least ≡ suc (packed (point l j)))) → ⊥
      by_last (inl e) = omega (arith, m, e)
      by_last (inr (j, k, e)) =
          omega (arith, m, e, before_packed (point l j) (point l i) (h.range j k) r (pairs_place Before l order j i k inside))

  pub rising_leaves : (InRange (point l i) → ⊥) → All InRange l × Pairs Before l → ⊥
  rising_leaves n h = n (all_place InRange l h.0 i inside)

pub rising_ends : (l : List Point) (least i : ℕ) → Rising l least i → length l ≤ i → All InRange l × Pairs Before l
rising_ends l least i h m = (
  place_all InRange l (λ j k. h.range j (omega arith)),
  place_pairs Before l (λ j k g u. h.order j k g (omega arith)),
)
