-- The first missing point that does not follow the one before, found by packed points that rise. Assumes nothing.
use mathlib.Core.Path.{◌≡◌, refl, ap, subst}
use mathlib.Core.Logic.{◌⊎◌, inl, inr}
use mathlib.Core.Bool.{Bool, true, false, ◌&&◌}
use mathlib.Core.List.{List}
use Prim.Native.Nat.{ℕ, zero, suc, ◌+◌, ◌-◌, ◌≤◌, ◌<◌}
use native.Mathlib.Omega.{arith}
use borrow.Author.Tests.{ltb-true, ltb-false}
use lib.Dec.{ltb}
use lib.ListN.{length}
use Rattle.lattice.specs.Point.{Point, InRange, point, All, Pairs, Before}
use Rattle.lattice.specs.Refusal.{Strays}
use Rattle.lattice.proofs.Lists.{either}
use Rattle.lattice.proofs.Places.{lt_or_le, nowhere, all_place, pairs_place, place_chain}
use Rattle.lattice.proofs.Decide.{yes_or_no, before?}
use Rattle.lattice.proofs.RowOrder.{row_order_by_neighbours}
use Rattle.packed.specs.Packed.{Tells, packed}
use Rattle.packed.proofs.RowOrder.{packed_before, before_packed}
use Rattle.range.specs.First.{FirstBelow}
use Rattle.range.proofs.InOrder.{Rising}

-- the last of the points that rise is the one before
below_strays : (l : List Point) (least i : ℕ) → Rising l least i → i < length l → InRange (point l i) → packed (point l i) < least
    → (j : ℕ) → j < i → least ≡ suc (packed (point l j)) → Strays l i
below_strays l least zero h inside r m j k e = nowhere j k
below_strays l least (suc i) h inside r m j k e = (inside, (i, refl, not_before))
  where
    last : packed (point l j) ≤ packed (point l i)
    last =
        either (lt_or_le j i)
        (λ u. let b = before_packed (point l j) (point l i) (h.range j k) (h.range i (omega arith)) (h.order j i u (omega arith)) in omega (arith, b))
        (λ u. let d : j ≡ i = omega arith in omega (arith, ap (λ n. packed (point l n)) d))

    not_before : Before (point l i) (point l (suc i)) → ⊥
    not_before b = omega (arith, last, m, e, before_packed (point l i) (point l (suc i)) (h.range i (omega arith)) r b)

module _ (l : List Point) (least i : ℕ) (h : Rising l least i) where
  clear : (j : ℕ) → j < i → Strays l j → ⊥
  clear j k s = s.1.2 (h.order s.1.0 j (omega (arith, s.1.1)) k)

  pub stray_stops : i < length l → InRange (point l i) → packed (point l i) < least → FirstBelow (length l) (Strays l) i
  stray_stops inside r m = record { upto = h.upto; earlier = clear; here = λ k. by_last h.last }
    where
      by_last : (least ≡ 0) ⊎ ((j : ℕ) × (j < i) × (least ≡ suc (packed (point l j)))) → Strays l i
      by_last (inl e) = absurd (omega (arith, m, e))
      by_last (inr (j, k, e)) = below_strays l least i h inside r m j k e

  pub stray_ends : length l ≤ i → FirstBelow (length l) (Strays l) i
  stray_ends m = record { upto = h.upto; earlier = clear; here = λ k. absurd (never k) }
    where
      never : i < length l → ⊥
      never k = omega arith

-- ---- each point follows the one before
module _ (l : List Point) where
  -- told by neighbours
  pub follow_pairs : ((j : ℕ) → suc j < length l → Before (point l j) (point l (suc j))) → Pairs Before l
  follow_pairs f = row_order_by_neighbours l (place_chain Before l f)

  pub none_stray : Pairs Before l → (j : ℕ) → j < length l → Strays l j → ⊥
  none_stray h j k s = s.1.2 (pairs_place Before l h s.1.0 j (omega (arith, s.1.1)) k)

  -- as the machine tests it
  pub told_before : All InRange l → (j : ℕ) → suc j < length l → (m n : ℕ) → m ≡ packed (point l j) → n ≡ packed (point l (suc j))
      → Tells (ltb m n) (Before (point l j) (point l (suc j)))
  told_before r j k m n e f = told (ltb m n) refl
    where
      first : InRange (point l j)
      first = all_place InRange l r j (omega arith)

      second : InRange (point l (suc j))
      second = all_place InRange l r (suc j) k

      told : (b : Bool) → ltb m n ≡ b → Tells b (Before (point l j) (point l (suc j)))
      told true t = packed_before (point l j) (point l (suc j)) first second (omega (arith, e, f, ltb-true m n t))
      told false t = λ h. omega (arith, e, f, ltb-false m n t, before_packed (point l j) (point l (suc j)) first second h)

  -- a turn of the loop that keeps whether all do: one place more
  abbrev pub Follow : ℕ → Type 0
  Follow i = (j : ℕ) → suc j < i → suc j < length l → Before (point l j) (point l (suc j))

  pub follow_more : (i : ℕ) → 0 < i → i < length l → (a b : Bool) → Tells a (Follow i) → Tells b (Before (point l (i - 1)) (point l (suc (i - 1)))) → Tells (a && b) (Follow (i + 1))
  follow_more i h m true true f g = λ j k n.
      either (lt_or_le (suc j) i) (λ u. f j u n) (λ u. let e : i - 1 ≡ j = omega (arith, h, k, u) in subst (λ n. Before (point l n) (point l (suc n))) e g)
  follow_more i h m true false f g = λ n. g (n (i - 1) (omega (arith, h)) (omega (arith, h, m)))
  follow_more i h m false b f g = λ n. f (λ j k u. n j (omega arith) u)

  pub all_in_order : (r : ℕ) → FirstBelow (length l) (Strays l) r → length l ≤ r → Pairs Before l
  all_in_order r f m =
      follow_pairs (λ j k. either (yes_or_no (before? (point l j) (point l (suc j)))) (λ h. h) (λ n. absurd (f.earlier (suc j) (omega (arith, k)) (k, (j, refl, n)))))
