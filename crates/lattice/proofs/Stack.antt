-- Points kept by place, f 0, f 1, and so on: the first n of them as a list, and as a stack, the last first. Assumes nothing of how they
-- are stored.
use mathlib.Core.Path.{◌≡◌, refl, ◌∙◌, ap, subst}
use mathlib.Core.Logic.{inl, inr}
use mathlib.Core.List.{List, [], ◌∷◌}
use Prim.Native.Nat.{ℕ, zero, suc, ◌-◌, ◌≤◌, ◌<◌}
use native.Mathlib.Omega.{arith}
use lib.ListN.{length}
use Rattle.lattice.specs.Point.{Point, point, In, Pairs, Triples}
use Rattle.lattice.proofs.Lists.{either, all_in, Chain}
use Rattle.lattice.proofs.Places.{lt_or_le, nowhere}

abbrev pub stack : (ℕ → Point) → ℕ → List Point
stack f zero = []
stack f (suc n) = f n ∷ stack f n

abbrev pub front : (ℕ → Point) → ℕ → List Point
front f zero = []
front f (suc n) = f zero ∷ front (λ i. f (suc i)) n

-- ---- a store at place n and above leaves the lower places alone
pub stack_agrees : (f g : ℕ → Point) (n : ℕ) → ((i : ℕ) → i < n → g i ≡ f i) → stack g n ≡ stack f n
stack_agrees f g zero h = refl
stack_agrees f g (suc n) h =
    let e = h n (omega arith) in
    let r = stack_agrees f g n (λ i l. h i (omega arith)) in
    λ i. e i ∷ r i

-- ---- the list by place
pub length_front : (f : ℕ → Point) (n : ℕ) → length (front f n) ≡ n
length_front f zero = refl
length_front f (suc n) = ap suc (length_front (λ i. f (suc i)) n)

pub point_front : (f : ℕ → Point) (n i : ℕ) → i < n → point (front f n) i ≡ f i
point_front f zero i h = nowhere i h
point_front f (suc n) zero h = refl
point_front f (suc n) (suc i) h = point_front (λ i. f (suc i)) n i (omega arith)

-- ---- the stack by place
pub stack_in : (f : ℕ → Point) (n i : ℕ) → i < n → In (f i) (stack f n)
stack_in f zero i h = nowhere i h
stack_in f (suc n) i h = either (lt_or_le i n) (λ l. inr (stack_in f n i l)) (λ l. inl (ap f (omega arith)))

module _ (f : ℕ → Point) where
  pub stack_chain_place : (R : Point → Point → Type 0) (n : ℕ) → Chain R (stack f n) → (i : ℕ) → suc i < n → R (f (suc i)) (f i)
  stack_chain_place R zero h i g = nowhere (suc i) g
  stack_chain_place R (suc zero) h i g = nowhere i (omega arith)
  stack_chain_place R (suc (suc n)) h i g =
      either (lt_or_le i n) (λ l. stack_chain_place R (suc n) h.1 i (omega arith))
      (λ l. let e : n ≡ i = omega arith in subst (λ j. R (f (suc j)) (f j)) e h.0)

  pub stack_pairs_place : (R : Point → Point → Type 0) (n : ℕ) → Pairs R (stack f n) → (i j : ℕ) → i < j → j < n → R (f j) (f i)
  stack_pairs_place R zero h i j g k = nowhere j k
  stack_pairs_place R (suc n) h i j g k =
      either (lt_or_le j n) (λ l. stack_pairs_place R n h.1 i j g l)
      (λ l. let e : n ≡ j = omega arith in
      subst (λ j. R (f j) (f i)) e (all_in (R (f n)) (stack f n) h.0 (f i) (stack_in f n i (omega arith))))

  pub stack_triples_place : (R : Point → Point → Point → Type 0) (n : ℕ) → Triples R (stack f n)
      → (i j k : ℕ) → i < j → j < k → k < n → R (f k) (f j) (f i)
  stack_triples_place R zero h i j k g e d = nowhere k d
  stack_triples_place R (suc n) h i j k g e d =
      either (lt_or_le k n) (λ l. stack_triples_place R n h.1 i j k g e l)
      (λ l. let x : n ≡ k = omega arith in
      subst (λ k. R (f k) (f j) (f i)) x (stack_pairs_place (R (f n)) n h.0 i j g (omega arith)))

-- ---- the places of f below n, and from there on those of g
abbrev pub splice : (ℕ → Point) → (ℕ → Point) → ℕ → ℕ → Point
splice f g zero i = g i
splice f g (suc n) zero = f zero
splice f g (suc n) (suc i) = splice (λ j. f (suc j)) g n i

pub splice_low : (f g : ℕ → Point) (n i : ℕ) → i < n → splice f g n i ≡ f i
splice_low f g zero i h = nowhere i h
splice_low f g (suc n) zero h = refl
splice_low f g (suc n) (suc i) h = splice_low (λ j. f (suc j)) g n i (omega arith)

pub splice_high : (f g : ℕ → Point) (n i : ℕ) → n ≤ i → splice f g n i ≡ g (i - n)
splice_high f g zero i h = ap g (omega arith)
splice_high f g (suc n) zero h = nowhere n (omega arith)
splice_high f g (suc n) (suc i) h =
    let e : i - n ≡ suc i - suc n = omega arith in
    splice_high (λ j. f (suc j)) g n i (omega arith) ∙ ap g e
