-- Laws of a loop that looks for the first place with a fault, of the place it comes to, and of a loop that goes on behind a fault. Assumes nothing.
use mathlib.Core.Path.{◌≡◌, refl}
use mathlib.Core.Bool.{Bool, true, false, ◌&&◌}
use Prim.Native.Nat.{ℕ, ◌+◌, ◌≤◌, ◌<◌}
use native.Mathlib.Omega.{arith}
use borrow.Author.Count.{below_more}
use Rattle.lattice.specs.Refusal.{First}
use Rattle.lattice.proofs.Places.{nowhere}
use Rattle.packed.specs.Packed.{Tells}
use Rattle.packed.proofs.Tests.{tells_yes}
use Rattle.range.specs.First.{FirstBelow}

-- no fault at the first i places
pub record Passing (n : ℕ) (P : ℕ → Type 0) (i : ℕ) : Type 0 where
  pub upto : i ≤ n
  pub clear : (j : ℕ) → j < i → P j → ⊥

module _ (n : ℕ) (P : ℕ → Type 0) where
  pub passing_none : Passing n P 0
  passing_none = record { upto = omega arith; clear = λ j h. nowhere j h }

  module _ (i : ℕ) (h : Passing n P i) where
    pub passing_stops : P i → FirstBelow n P i
    passing_stops p = record { upto = h.upto; earlier = h.clear; here = λ l. p }

    pub passing_ends : n ≤ i → FirstBelow n P i
    passing_ends l = record { upto = h.upto; earlier = h.clear; here = λ k. absurd (never k) }
      where
        never : i < n → ⊥
        never k = omega arith

  pub passing_all : (r : ℕ) → r ≡ n → ((j : ℕ) → j < n → P j → ⊥) → FirstBelow n P r
  passing_all r e f = record { upto = omega arith; earlier = λ j l. f j (omega arith); here = λ l. absurd (omega arith) }

  -- ---- the place that the loop comes to
  module _ (r : ℕ) (f : FirstBelow n P r) where
    pub first_here : r < n → First P r
    first_here l = record { here = f.here l; earlier = f.earlier }

    pub never_below : ((j : ℕ) → P j → j < n) → n ≤ r → (j : ℕ) → P j → ⊥
    never_below bound l j p = f.earlier j (omega (arith, bound j p)) p

-- ---- loops that go on behind a fault, and keep whether there was one
module _ (P : ℕ → Type 0) where
  -- the first i places pass
  abbrev pub Passed : ℕ → Type 0
  Passed i = (j : ℕ) → j < i → P j

  pub passed_none : Passed 0
  passed_none j l = nowhere j l

  pub tells_more : (i : ℕ) (a b r : Bool) → Tells a (Passed i) → Tells b (P i) → Tells r ((a ≡ true) × (b ≡ true)) → Tells r (Passed (i + 1))
  tells_more i a b true f g (d, e) = below_more P i (tells_yes d f) (tells_yes e g)
  tells_more i true true false f g n = absurd (n (refl, refl))
  tells_more i true false false f g n = λ h. g (h i (omega arith))
  tells_more i false b false f g n = λ h. f (λ j l. h j (omega arith))

  -- the same of the operator
  pub tells_and : (i : ℕ) (a b : Bool) → Tells a (Passed i) → Tells b (P i) → Tells (a && b) (Passed (i + 1))
  tells_and i true true f g = below_more P i f g
  tells_and i true false f g = λ h. g (h i (omega arith))
  tells_and i false b f g = λ h. f (λ j l. h j (omega arith))
