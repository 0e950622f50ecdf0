-- Every list of points lies in a square about the origin. Assumes nothing.
use mathlib.Core.Path.{ap}
use mathlib.Core.Logic.{inl, inr}
use mathlib.Core.List.{List, [], ◌∷◌}
use Prim.Native.Nat.{ℕ, suc, ◌+◌, ◌≤◌}
use native.Mathlib.Omega.{arith}
use lib.Dec.{le→leb}
use lib.IntN.{ℤ, pos, negsuc, neg_ℤ, nat_abs}
use Rattle.whole.proofs.Whole.{quote, ◌≤ᶻ◌, natural, gap≤, ◌⊞◌, linear≤}
use Rattle.lattice.specs.Point.{Point, In}

-- the square with x and y from −n to n
pub record Reach (n : ℕ) (p : Point) : Type 0 where
  pub x_from : neg_ℤ (pos n) ≤ᶻ p.x
  pub x_to : p.x ≤ᶻ pos n
  pub y_from : neg_ℤ (pos n) ≤ᶻ p.y
  pub y_to : p.y ≤ᶻ pos n

at_most : {m n : ℕ} → m ≤ n → pos m ≤ᶻ pos n
at_most {m} {n} h = record { le = le→leb m n h }

within : (z : ℤ) (n : ℕ) → nat_abs z ≤ n → (neg_ℤ (pos n) ≤ᶻ z) × (z ≤ᶻ pos n)
within (pos m) n h =
    (linear≤ (pos m ∷ pos n ∷ []) (natural m ⊞ natural n) (search quote depth 20) tt, at_most h)
within (negsuc m) n h = (lower (pos (suc m)) (at_most h), upper (pos (suc m)) (natural (suc m)))
  where
    lower : (z : ℤ) → z ≤ᶻ pos n → neg_ℤ (pos n) ≤ᶻ neg_ℤ z
    lower z g = linear≤ (z ∷ pos n ∷ []) (gap≤ g) (search quote depth 20) tt

    upper : (z : ℤ) → pos 0 ≤ᶻ z → neg_ℤ z ≤ᶻ pos n
    upper z g = linear≤ (z ∷ pos n ∷ []) (g ⊞ natural n) (search quote depth 20) tt

abbrev size : Point → ℕ
size p = nat_abs p.x + nat_abs p.y

abbrev pub reach : List Point → ℕ
reach [] = 0
reach (a ∷ s) = size a + reach s

size_reach : (s : List Point) (q : Point) → In q s → size q ≤ reach s
size_reach [] q m = absurd m
size_reach (a ∷ s) q (inl e) = omega (arith, ap size e)
size_reach (a ∷ s) q (inr m) = omega (arith, size_reach s q m)

pub reaches : (s : List Point) (q : Point) → In q s → Reach (reach s) q
reaches s q m =
    let x = within q.x (reach s) (omega (arith, size_reach s q m)) in
    let y = within q.y (reach s) (omega (arith, size_reach s q m)) in
    record { x_from = x.0; x_to = x.1; y_from = y.0; y_to = y.1 }
