-- The first with a fault of a part of the places, and of all behind those that passed. Assumes nothing.
use mathlib.Core.Path.{◌≡◌, refl, sym, subst}
use Prim.Native.Nat.{ℕ, ◌-◌, ◌≤◌, ◌<◌}
use native.Mathlib.Omega.{arith}
use borrow.Author.Tests.{ltb-true, ltb-false}
use lib.Dec.{ltb}
use lib.IntN.{ℤ}
use mathlib.Core.Bool.{Bool, true, false}
use mathlib.Core.List.{List}
use Rattle.lattice.proofs.Lists.{either}
use Rattle.lattice.proofs.Places.{lt_or_le}
use Rattle.packed.specs.Packed.{Tells}
use Rattle.std.specs.Bool.{then_some}
use Rattle.range.specs.First.{FirstBelow, Found}
use Rattle.range.proofs.Passing.{Passing}
use Rattle.std.specs.Prelude.{Option, Some, None, MatchOption}
use Rattle.missing.specs.Missing.{FirstFrom, MisplacedAt, EndMisplaced}

-- what a closure's answer tells
pub told_yes : (P : Type 0) (b : Bool) → Tells b P → true ≡ b → P
told_yes P true h e = h
told_yes P false h e = cc

pub told_no : (P : Type 0) (b : Bool) → Tells b P → false ≡ b → P → ⊥
told_no P true h e = cc
told_no P false h e = h

-- the first of a row's points that is misplaced, or none, as `find` gives it, where the first or the last is
pub end_found : (corners missing : List ℤ) (begin end : ℕ) → EndMisplaced corners missing begin end → (r : Option ℕ)
    → MatchOption r ((k : ℕ) → begin ≤ k → k < end → MisplacedAt corners missing k → ⊥)
    (λ i. (begin ≤ i) × (i < end) × MisplacedAt corners missing i × ((k : ℕ) → begin ≤ k → k < i → MisplacedAt corners missing k → ⊥))
    → MatchOption r (EndMisplaced corners missing begin end → ⊥) (FirstFrom begin (MisplacedAt corners missing))
end_found corners missing begin end e None f =
    λ _. either e.which (f begin (omega arith) e.some) (f (end - 1) (omega (arith, e.some)) (omega (arith, e.some)))
end_found corners missing begin end e (Some i) f = record { from = f.0; earlier = f.3; here = f.2 }

-- behind the first i places, the first fault from there on
pub passing_then : (n : ℕ) (P : ℕ → Type 0) (i : ℕ) → Passing n P i → (r : ℕ) → r < n → FirstFrom i P r → FirstBelow n P r
passing_then n P i h r l f = record {
  upto = omega arith;
  earlier = λ j k. either (lt_or_le j i) (λ u. h.clear j u) (λ u. f.earlier j u k);
  here = λ k. f.here;
}

-- a first fault that is no fault below n: there is none
pub first_none : (n : ℕ) (P : ℕ → Type 0) (r : ℕ) → FirstBelow n P r → n ≤ r → FirstBelow n P n
first_none n P r f l = let e : r ≡ n = omega (arith, f.upto) in subst (FirstBelow n P) e f

-- the place of the first fault where it is below n, and else none
pub place_found : (n : ℕ) (P : ℕ → Type 0) (r m : ℕ) → FirstBelow n P r → m ≡ n → (o : Option ℕ) → o ≡ then_some (ltb r m) r → Found (FirstBelow n P) n o
place_found n P r m f e o g = subst (Found (FirstBelow n P) n) (sym g) (by_test (ltb r m) refl)
  where
    by_test : (t : Bool) → ltb r m ≡ t → Found (FirstBelow n P) n (then_some t r)
    by_test true t = (omega (arith, e, ltb-true r m t), f)
    by_test false t = first_none n P r f (omega (arith, e, ltb-false r m t))
