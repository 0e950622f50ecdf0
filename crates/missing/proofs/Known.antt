-- A fact of which only is known that it holds, as a struct keeps it, where there is a test for it: that of a row. Assumes nothing.
use mathlib.Core.Bool.{Bool, true, false}
use mathlib.Core.List.{List}
use mathlib.Core.Logic.{∥∥₁_elim}
use native.Mathlib.Omega.{arith}
use Prim.Native.Nat.{ℕ, ◌+◌, ◌/◌, ◌≤◌}
use lib.Dec.{T}
use lib.ListN.{length}
use lib.IntN.{ℤ}
use Rattle.lattice.specs.Point.{Point, InRange, points, point}
use Rattle.lattice.proofs.Decide.{Decided, all?, hull?, corner_list?}
use Rattle.lattice.proofs.Refusals.{range?, below?, equals?}
use Rattle.packed.specs.Packed.{side, packed}
use Rattle.stretch.specs.Stretch.{cell}
use Rattle.stretch.specs.declared.Stretch.{Stretch}
use Rattle.missing.specs.Missing.{InOneRow}

T_one : (b : Bool) → IsProp (T b)
T_one true = λ x y i. tt
T_one false = λ x y. absurd x

upto? : (i n : ℕ) → Decided (i ≤ n)
upto? i n = record { test = (below? i (n + 1)).test; sound = λ t. omega (arith, (below? i (n + 1)).sound t); complete = λ l. (below? i (n + 1)).complete (omega arith) }

-- what follows from a fact that is only known to hold follows from its being known, where there is a test for it
pub kept : {P R : Type 0} → Decided P → (R → P) → ∥ R ∥₁ → P
kept d f h = d.sound (∥∥₁_elim h (T_one d.test) (λ r. d.complete (f r)))

pub row_known : (corners : List ℤ) (s : Stretch) (l : List Point) (begin end : ℕ) → ∥ InOneRow corners s l begin end ∥₁ → InOneRow corners s l begin end
row_known corners s l begin end h = record {
  outline = record {
    range = kept (all? InRange range? (points corners)) (λ r. r.outline.range) h;
    listed = kept (corner_list? (points corners) (points corners)) (λ r. r.outline.listed) h;
  };
  range = kept (all? InRange range? l) (λ r. r.range) h;
  inside = kept (upto? end (length l)) (λ r. r.inside) h;
  stretch = λ j u v. record {
    rising = kept (upto? s.from s.to) (λ r. (r.stretch j u v).rising) h;
    few = kept (upto? s.to side) (λ r. (r.stretch j u v).few) h;
    inside = λ x w. kept (hull? (points corners) (cell x (packed (point l j) / side))) (λ r. (r.stretch j u v).inside x w) h;
    all = λ x k m. record {
      from = kept (upto? s.from x) (λ r. ((r.stretch j u v).all x k m).from) h;
      to = kept (below? x s.to) (λ r. ((r.stretch j u v).all x k m).to) h;
    };
  };
  same = λ j u v. kept (equals? (packed (point l j) / side) (packed (point l begin) / side)) (λ r. r.same j u v) h;
}
