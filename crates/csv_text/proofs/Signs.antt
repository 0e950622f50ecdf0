-- The sign of a number as the machine reads it. Assumes nothing.
use mathlib.Core.Path.{◌≡◌, refl, sym, ◌∙◌, ap}
use mathlib.Core.Bool.{Bool, true, false, true≢false}
use mathlib.Core.List.{◌∷◌}
use Prim.Native.Nat.{ℕ, ◌<◌}
use native.Mathlib.Omega.{arith}
use borrow.Author.Tests.{ltb-true}
use lib.IntN.{ℤ, pos, negsuc, nat_abs}
use lib.Signed.{lt_z}
use mir.Syntax.{w32}
use mir.Val.{SFits, to_z, of_z}
use mir.ValLaws.{to_z-of_z}
use Rattle.csv_text.specs.Text.{natural, whole}

-- ---- below 0, and not
never_below {ℓ} : {X : Type ℓ} (n : ℕ) → lt_z (pos n) (pos 0) ≡ true → X
never_below n e = absurd (never n (ltb-true n 0 e))
  where
    never : (n : ℕ) → n < 0 → ⊥
    never n h = omega arith

pub whole_below : (z : ℤ) → lt_z z (pos 0) ≡ true → whole z ≡ 45 ∷ natural (nat_abs z)
whole_below (pos n) e = never_below n e
whole_below (negsuc n) e = refl

pub whole_other : (z : ℤ) → lt_z z (pos 0) ≡ false → whole z ≡ natural (nat_abs z)
whole_other (pos n) e = refl
whole_other (negsuc n) e = absurd (true≢false e)

-- ---- read back from the machine's bits
module _ (z : ℤ) (f : SFits w32 z) where
  pub back : to_z w32 (of_z w32 z) ≡ z
  back = to_z-of_z w32 z f

  pub tested : {t : Bool} → lt_z (to_z w32 (of_z w32 z)) (pos 0) ≡ t → lt_z z (pos 0) ≡ t
  tested e = ap (λ u. lt_z u (pos 0)) (sym back) ∙ e
