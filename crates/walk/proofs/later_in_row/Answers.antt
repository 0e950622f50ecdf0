-- The steps lead from point to point of the row. Assumes nothing.
use mathlib.Core.Logic.{inl, inr}
use mathlib.Core.List.{List}
use mathlib.Core.Path.{◌≡◌, sym, ◌∙◌, ap, subst}
use native.Mathlib.Omega.{arith}
use borrow.Author.Rules.{rules}
use Prim.Native.Nat.{ℕ, ◌<◌}
use lib.ListN.{length}
use lib.IntN.{ℤ}
use Rattle.lattice.specs.Point.{points, point}
use Rattle.lattice.proofs.Numbers.{points_length, points_at}
use Rattle.packed.proofs.Reading.{row_at}
use Rattle.walk.proofs.later_in_row.Goals as goal

module _ (l : List ℤ) (y : ℤ) (i r : ℕ) where
  read_there : r < length (points l) → row_at l r ≡ y → (point (points l) r).y ≡ y
  read_there u q = ap (λ p. p.y) (points_at l r u) ∙ q

  stays_there : (point (points l) i).y ≡ y → r ≡ i → (point (points l) r).y ≡ y
  stays_there h e = subst (λ n. (point (points l) n).y ≡ y) (sym e) h

pub returns : goal.returns
returns c = let l = c.args.list.now in
    let r = c.farthest.result in
    let u : r < length (points l) = omega (arith, points_length l, c.farthest.ensures.upto) in
    let e : (point (points l) r).y ≡ c.args.y =
    elim c.farthest.ensures.passed [
      | inl e ↦ stays_there l c.args.y c.args.i r c.requires.1 e
      | inr p ↦ read_there l c.args.y c.args.i r u (search rules)
    ] in
    (c.farthest.ensures.from, (u, e))
