-- Laws of numbers in decimal: the last digit behind the others. Assumes nothing.
use mathlib.Core.Path.{◌≡◌, refl, ap}
use mathlib.Core.Bool.{cond}
use mathlib.Core.List.{[], ◌∷◌, ◌++◌}
use Prim.Native.Nat.{ℕ, zero, suc, ◌+◌, ◌/◌, ◌%◌, ◌≤◌, ◌<◌}
use native.Mathlib.Omega.{arith}
use borrow.Author.Tests.{lt-ltb, le-ltb}
use lib.Dec.{ltb}
use Rattle.csv_text.specs.Text.{digits, natural}

-- any number of digits that is enough gives the same
digits_enough : (k m n : ℕ) → n ≤ k → n ≤ m → digits k n ≡ digits m n
digits_enough zero zero n h g = refl
digits_enough zero (suc m) n h g = let e : n ≡ 0 = omega arith in rw e
digits_enough (suc k) zero n h g = let e : n ≡ 0 = omega arith in rw e
digits_enough (suc k) (suc m) n h g =
    ap (λ l. cond (ltb n 10) ((48 + n) ∷ []) (l ++ (48 + n % 10) ∷ [])) (digits_enough k m (n / 10) (omega arith) (omega arith))

pub natural_one : (n : ℕ) → n < 10 → natural n ≡ (48 + n) ∷ []
natural_one zero h = refl
natural_one (suc n) h = rw (lt-ltb (suc n) 10 h)

pub natural_more : (n : ℕ) → 10 ≤ n → natural n ≡ natural (n / 10) ++ (48 + n % 10) ∷ []
natural_more zero h = absurd (never h)
  where
    never : 10 ≤ zero → ⊥
    never h = omega arith
natural_more (suc n) h =
    rw (le-ltb (suc n) 10 h)
    (ap (λ l. l ++ (48 + suc n % 10) ∷ []) (digits_enough n (suc n / 10) (suc n / 10) (omega arith) (omega arith)))
