-- A coordinate of the range, moved to start at 0, is a natural number below the side. Assumes nothing.
use mathlib.Core.Path.{◌≡◌, refl, subst}
use mathlib.Core.Bool.{false}
use mathlib.Core.List.{[], ◌∷◌}
use Prim.Native.Nat.{suc, ◌<◌}
use native.Mathlib.Omega.{arith}
use borrow.Author.Tests.{le-ltb}
use lib.Dec.{ltb, leb→le}
use lib.IntN.{ℤ, pos, negsuc, ◌+ℤ◌}
use lib.Signed.{◌≤ℤ◌}
use Rattle.whole.proofs.Whole.{quote, ◌≤ᶻ◌, gap≤, linear≤}
use Rattle.lattice.specs.Point.{least, greatest}
use Rattle.packed.specs.Packed.{offset, side, moved}

pub moved_is : (z : ℤ) → least ≤ℤ z → z +ℤ pos offset ≡ pos (moved z)
moved_is (pos n) from = refl
moved_is (negsuc n) from =
    let h : ltb 8192 (suc n) ≡ false = le-ltb 8192 (suc n) (omega (arith, leb→le n 8191 from.le)) in
    rw h

pub moved_small : (z : ℤ) → least ≤ℤ z → z ≤ℤ greatest → moved z < side
moved_small z from to =
    let h : z +ℤ pos offset ≤ᶻ pos 16383 = linear≤ (z ∷ []) (gap≤ to) (search quote depth 20) tt in
    let g : pos (moved z) ≤ᶻ pos 16383 = subst (λ w. w ≤ᶻ pos 16383) (moved_is z from) h in
    omega (arith, leb→le (moved z) 16383 g.le)
