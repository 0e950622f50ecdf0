-- Sums and products of numbers that are small by magnitude are small, and what is small fits. Assumes nothing.
use mathlib.Core.List.{[], ◌∷◌}
use Prim.Native.Nat.{ℕ, zero, suc, ◌+◌, ◌*◌, ◌^◌, ◌≤◌, ◌<◌}
use native.Mathlib.Omega.{arith}
use lib.Dec.{leb→le}
use lib.IntN.{ℤ, pos, negsuc, ◌+ℤ◌, ◌*ℤ◌, ◌-ℤ◌}
use lib.Signed.{mag}
use mir.Syntax.{Width, w64}
use mir.Val.{SFits, hbits}
use Rattle.whole.proofs.Whole.{quote, natural, gap≤, ◌⊞◌, ◌⊠◌, linear≤, le_of_doubles}
use Rattle.packed.specs.Packed.{Within}

pub within_sum : (j k : ℕ) {a b : ℤ} → Within j a → Within k b → Within (j + k) (a +ℤ b)
within_sum j k {a} {b} h g = record {
  low = linear≤ (a ∷ b ∷ pos j ∷ pos k ∷ []) (gap≤ h.low ⊞ gap≤ g.low) (search quote depth 20) tt;
  high = linear≤ (a ∷ b ∷ pos j ∷ pos k ∷ []) (gap≤ h.high ⊞ gap≤ g.high) (search quote depth 20) tt;
}

pub within_difference : (j k : ℕ) {a b : ℤ} → Within j a → Within k b → Within (j + k) (a -ℤ b)
within_difference j k {a} {b} h g = record {
  low = linear≤ (a ∷ b ∷ pos j ∷ pos k ∷ []) (gap≤ h.low ⊞ gap≤ g.high) (search quote depth 20) tt;
  high = linear≤ (a ∷ b ∷ pos j ∷ pos k ∷ []) (gap≤ h.high ⊞ gap≤ g.low) (search quote depth 20) tt;
}

-- 2 (j k − a b) = (j − a)(k + b) + (j + a)(k − b), and so below
pub within_product : (j k : ℕ) {a b : ℤ} → Within j a → Within k b → Within (j * k) (a *ℤ b)
within_product j k {a} {b} h g = record {
  low = le_of_doubles (linear≤ (a ∷ b ∷ pos j ∷ pos k ∷ [])
      (gap≤ h.high ⊠ gap≤ g.high ⊞ gap≤ h.low ⊠ gap≤ g.low ⊞ natural 1) (search quote depth 20) tt);
  high = le_of_doubles (linear≤ (a ∷ b ∷ pos j ∷ pos k ∷ [])
      (gap≤ h.high ⊠ gap≤ g.low ⊞ gap≤ h.low ⊠ gap≤ g.high ⊞ natural 1) (search quote depth 20) tt);
}

within_magnitude : (k : ℕ) (z : ℤ) → Within k z → mag z ≤ k
within_magnitude k (pos n) h = leb→le n k h.high.le
within_magnitude zero (negsuc n) h = absurd h.low.le
within_magnitude (suc k) (negsuc n) h = omega (arith, leb→le n k h.low.le)

pub within_fits : (w : Width) (k : ℕ) {z : ℤ} → Within k z → k < 2 ^ hbits w → SFits w z
within_fits w k {z} h l = record { sfits = omega (arith, within_magnitude k z h) }

-- ---- coordinates, their differences, and products of these
pub difference_within : {a b : ℤ} → Within 16384 a → Within 16384 b → Within 32768 (a -ℤ b)
difference_within h g = within_difference 16384 16384 h g

pub difference_fits : {a b : ℤ} → Within 16384 a → Within 16384 b → SFits w64 (a -ℤ b)
difference_fits h g = within_fits w64 32768 (difference_within h g) (omega arith)

pub product_fits : {a b : ℤ} → Within 32768 a → Within 32768 b → SFits w64 (a *ℤ b)
product_fits h g = within_fits w64 (32768 * 32768) (within_product 32768 32768 h g) (omega arith)

pub turn_fits : {a b c d : ℤ} → Within 32768 a → Within 32768 b → Within 32768 c → Within 32768 d → SFits w64 (a *ℤ b -ℤ c *ℤ d)
turn_fits h g i j =
    within_fits w64 (32768 * 32768 + 32768 * 32768)
    (within_difference (32768 * 32768) (32768 * 32768) (within_product 32768 32768 h g) (within_product 32768 32768 i j)) (omega arith)
