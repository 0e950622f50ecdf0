-- What a comparison of signed numbers that came out true or false says of them. Assumes nothing.
use mathlib.Core.Path.{◌≡◌, refl, sym, ◌∙◌, ap, subst}
use mathlib.Core.Bool.{Bool, true, false, not}
use borrow.Author.Tests.{eqb-true, eqb-false}
use lib.Dec.{T, eqb}
use lib.IntN.{ℤ}
use lib.Signed.{◌≤ℤ◌, ◌<ℤ◌, lt_z, lt_z_no}
use mir.Syntax.{w32}
use mir.Val.{SFits, to_z, of_z}
use mir.ValLaws.{to_z-of_z}
use Rattle.packed.specs.Packed.{Tells}

pub lt_yes : {a b : ℤ} → lt_z a b ≡ true → a <ℤ b
lt_yes e = record { lt = subst T (sym e) tt }

pub lt_no : {a b : ℤ} → lt_z a b ≡ false → b ≤ℤ a
lt_no e = lt_z_no (subst (λ t. T (not t)) (sym e) tt)

-- a signed number read back from the machine's bits
pub read_back : (z : ℤ) → SFits w32 z → to_z w32 (of_z w32 z) ≡ z
read_back z f = to_z-of_z w32 z f

-- a test that tells whether P holds
pub tells_yes : {b : Bool} {P : Type 0} → b ≡ true → Tells b P → P
tells_yes {b} {P} e h = subst (λ t. Tells t P) e h

pub tells_no : {b : Bool} {P : Type 0} → b ≡ false → Tells b P → P → ⊥
tells_no {b} {P} e h = subst (λ t. Tells t P) e h

pub tells_as : (b : Bool) {P Q : Type 0} → (P → Q) → (Q → P) → Tells b P → Tells b Q
tells_as true f g h = f h
tells_as false f g h = λ q. h (g q)

-- the machine's test of two signed numbers for equality
pub tells_equal : (a b : ℤ) → SFits w32 a → SFits w32 b → Tells (eqb (of_z w32 a) (of_z w32 b)) (a ≡ b)
tells_equal a b f g = by_test (eqb (of_z w32 a) (of_z w32 b)) refl
  where
    by_test : (t : Bool) → eqb (of_z w32 a) (of_z w32 b) ≡ t → Tells t (a ≡ b)
    by_test true e = sym (read_back a f) ∙ ap (to_z w32) (eqb-true (of_z w32 a) (of_z w32 b) e) ∙ read_back b g
    by_test false e = λ d. eqb-false (of_z w32 a) (of_z w32 b) e (ap (of_z w32) d)
