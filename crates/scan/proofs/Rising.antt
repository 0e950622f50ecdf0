-- Points in row order, packed, rise. Assumes nothing.
use mathlib.Core.Path.{subst}
use mathlib.Core.List.{List, map}
use Prim.Native.Nat.{ℕ}
use native.Mathlib.Omega.{arith}
use lib.ListN.{get_or, length-map}
use Rattle.lattice.specs.Point.{Point, point, Before}
use Rattle.lattice.proofs.Places.{pairs_place}
use Rattle.packed.specs.Packed.{unpacked}
use Rattle.packed.specs.Keys.{KeysOf}
use Rattle.packed.proofs.RowOrder.{unpacked_before}
use Rattle.packed.proofs.KeyLaws.{unpacked_at}
use Rattle.scan.specs.Scanning.{Rising}

pub keys_rise : (s : List Point) (keys : List ℕ) → KeysOf s keys → Rising keys
keys_rise s keys h = record {
  below = h.below;
  rises = λ i j l n.
      let b = pairs_place Before (map unpacked keys) h.lists.order i j l (omega (arith, n, length-map keys unpacked)) in
      unpacked_before (get_or keys i 0) (get_or keys j 0)
      (subst (λ p. Before p (unpacked (get_or keys j 0))) (unpacked_at keys i (omega arith))
      (subst (λ q. Before (at_place i) q) (unpacked_at keys j n) b));
}
  where
    at_place : ℕ → Point
    at_place i = point (map unpacked keys) i
