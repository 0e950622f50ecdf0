-- What holds of the points, pairs, triples and neighbours of a list, by place. Assumes nothing.
use mathlib.Core.Path.{◌≡◌, refl, sym, subst}
use mathlib.Core.Logic.{◌⊎◌, inl, inr}
use mathlib.Core.List.{List, [], ◌∷◌}
use Prim.Native.Nat.{ℕ, zero, suc, ◌≤◌, ◌<◌}
use native.Mathlib.Decide.{dec_lt}
use native.Mathlib.Omega.{arith}
use lib.ListN.{length}
use Rattle.lattice.specs.Point.{Point, point, In, All, Pairs, Triples}
use Rattle.lattice.proofs.Lists.{all_in, in_all, Chain, Bends}

-- ---- places
pub lt_or_le : (i j : ℕ) → (i < j) ⊎ (j ≤ i)
lt_or_le i j = elim (dec_lt i j) [ yes h ↦ inl h | no n ↦ inr (omega arith) ]

-- no place is below 0
pub nowhere {ℓ} : {X : Type ℓ} (i : ℕ) → i < zero → X
nowhere i h = absurd (never i h)
  where
    never : (i : ℕ) → i < zero → ⊥
    never i h = omega arith

-- ---- points
pub place_in : (l : List Point) (i : ℕ) → i < length l → In (point l i) l
place_in [] i h = nowhere i h
place_in (a ∷ l) zero h = inl refl
place_in (a ∷ l) (suc i) h = inr (place_in l i (omega arith))

pub in_place : (l : List Point) (q : Point) → In q l → (i : ℕ) × (i < length l) × (q ≡ point l i)
in_place [] q m = absurd m
in_place (a ∷ l) q (inl e) = (zero, omega arith, e)
in_place (a ∷ l) q (inr m) = let r = in_place l q m in (suc r.0, omega (arith, r.1), r.2)

module _ (P : Point → Type 0) (l : List Point) where
  pub all_place : All P l → (i : ℕ) → i < length l → P (point l i)
  all_place h i g = all_in P l h (point l i) (place_in l i g)

  pub place_all : ((i : ℕ) → i < length l → P (point l i)) → All P l
  place_all h = in_all P l (λ q m. let r = in_place l q m in subst P (sym r.2) (h r.0 r.1))

-- ---- pairs and neighbours
module _ (R : Point → Point → Type 0) where
  pub pairs_place : (l : List Point) → Pairs R l → (i j : ℕ) → i < j → j < length l → R (point l i) (point l j)
  pairs_place [] h i j g k = nowhere j k
  pairs_place (a ∷ l) h i zero g k = nowhere i g
  pairs_place (a ∷ l) h zero (suc j) g k = all_place (R a) l h.0 j (omega arith)
  pairs_place (a ∷ l) h (suc i) (suc j) g k = pairs_place l h.1 i j (omega arith) (omega arith)

  pub place_pairs : (l : List Point) → ((i j : ℕ) → i < j → j < length l → R (point l i) (point l j)) → Pairs R l
  place_pairs [] h = tt
  place_pairs (a ∷ l) h = (
    place_all (R a) l (λ i g. h zero (suc i) (omega arith) (omega arith)),
    place_pairs l (λ i j g k. h (suc i) (suc j) (omega arith) (omega arith)),
  )

  pub place_chain : (l : List Point) → ((i : ℕ) → suc i < length l → R (point l i) (point l (suc i))) → Chain R l
  place_chain [] h = tt
  place_chain (a ∷ []) h = tt
  place_chain (a ∷ b ∷ l) h = (h zero (omega arith), place_chain (b ∷ l) (λ i g. h (suc i) (omega arith)))

-- ---- triples and three neighbours
module _ (R : Point → Point → Point → Type 0) where
  pub triples_place : (l : List Point) → Triples R l
      → (i j k : ℕ) → i < j → j < k → k < length l → R (point l i) (point l j) (point l k)
  triples_place [] h i j k g f e = nowhere k e
  triples_place (a ∷ l) h i zero k g f e = nowhere i g
  triples_place (a ∷ l) h i (suc j) zero g f e = nowhere (suc j) f
  triples_place (a ∷ l) h zero (suc j) (suc k) g f e = pairs_place (R a) l h.0 j k (omega arith) (omega arith)
  triples_place (a ∷ l) h (suc i) (suc j) (suc k) g f e = triples_place l h.1 i j k (omega arith) (omega arith) (omega arith)

  pub place_bends : (l : List Point)
      → ((i : ℕ) → suc (suc i) < length l → R (point l i) (point l (suc i)) (point l (suc (suc i)))) → Bends R l
  place_bends [] h = tt
  place_bends (a ∷ []) h = tt
  place_bends (a ∷ b ∷ []) h = tt
  place_bends (a ∷ b ∷ c ∷ l) h = (h zero (omega arith), place_bends (b ∷ c ∷ l) (λ i g. h (suc i) (omega arith)))
