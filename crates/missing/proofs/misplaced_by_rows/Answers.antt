-- Each row's missing points are looked at, as far as there are any. Assumes nothing.
use mathlib.Core.Path.{◌≡◌, ◌∙◌, refl, subst}
use mathlib.Core.List.{List}
use Prim.Native.Nat.{ℕ, ◌+◌}
use native.Mathlib.Omega.{arith}
use borrow.Author.Rules.{rules}
use lib.ListN.{length}
use lib.IntN.{ℤ}
use mir.Syntax.{w32}
use mir.Val.{SFits, to_z, of_z}
use Rattle.lattice.specs.Point.{InRange, points, All, Pairs, Before}
use Rattle.lattice.proofs.Numbers.{points_length}
use Rattle.packed.specs.Packed.{placed}
use Rattle.packed.specs.Corners.{Outline}
use Rattle.packed.proofs.Tests.{read_back}
use Rattle.rows.specs.Row.{RunsTo}
use Rattle.range.proofs.Passing.{passing_all}
use Rattle.stretch.specs.Stretch.{last_row}
use Rattle.stretch.specs.declared.Stretch.{Stretch}
use Rattle.stretch.specs.Ahead.{Ahead, IsNext}
use Rattle.walk.proofs.Along.{Along, row_in, row_columns, along_next, row_past}
use Rattle.walk.proofs.Walking.{has_first_row}
use Rattle.missing.specs.Missing.{MisplacedAt, InOneRow, EndMisplaced}
use Rattle.missing.proofs.Going.{passing_then}
use Rattle.missing.proofs.Misplacing.{Looking, looking_none, one_row, looking_more, looking_all}
use Rattle.missing.proofs.misplaced_by_rows.Goals as goal

pub new-y-items-requires : goal.new-y-items-requires
new-y-items-requires c = has_first_row c.requires.0 c.requires.1

pub loop-y-init : goal.loop-y-init
loop-y-init c = let e = c.into_iter-y-iterator.ensures.into_iter_gives in rw (e, c.new-y-items.ensures) (record {
  along = record { same = refl; peak = c.requires.1 };
  looking = looking_none c.requires.0 c.requires.1 _ refl;
})

-- ---- a row of the hull, and the missing points in it
module _ {corners missing : List ℤ} (h : Outline corners) (range : All InRange (points missing)) (order : Pairs Before (points missing))
    {a : Ahead} (l : Along corners a) {begin : ℕ} (d : Looking corners missing (last_row corners a.peak) a.y begin) {y : ℕ} {s : Stretch} {b : Ahead} (n : IsNext a y s b)
    {z : ℤ} (f : SFits w32 z) (e : z ≡ placed y) {end : ℕ} (r : RunsTo (points missing) (to_z w32 (of_z w32 z)) begin end) where
  here : Looking corners missing (last_row corners a.peak) y begin
  here = subst (λ m. Looking corners missing (last_row corners a.peak) m begin) n.is d

  runs : RunsTo (points missing) (placed y) begin end
  runs = subst (λ w. RunsTo (points missing) w begin end) (read_back z f ∙ e) r

  in_row : InOneRow corners s (points missing) begin end
  in_row = one_row h l.peak y begin here order range end runs s (row_columns l n)

  more : (EndMisplaced corners missing begin end → ⊥) → Looking corners missing (last_row corners a.peak) (y + 1) end
  more = looking_more h l.peak y begin here order range end runs s (row_columns l n) (row_in l n)

pub invariant_of-row : goal.invariant_of-row
invariant_of-row c = record {
  inside = omega (arith, points_length c.args.missing.now, c.end_of_row-end.ensures.upto);
  in_one_row = ∣ in_row c.requires.0 c.requires.2 c.requires.3 c.loop-y.invariant.along c.loop-y.invariant.looking c.in-Some.ensures.steps (search rules)
      c.placed.ensures c.end_of_row-end.ensures ∣₁;
  known_apart = c.all_apart-apart.ensures;
}

pub loop-y-preserved : goal.loop-y-preserved
loop-y-preserved c = rw (along_next c.loop-y.invariant.along c.in-Some.ensures.steps) (record {
  along = record { same = refl; peak = c.loop-y.invariant.along.peak };
  looking = more c.requires.0 c.requires.2 c.requires.3 c.loop-y.invariant.along c.loop-y.invariant.looking c.in-Some.ensures.steps (search rules) c.placed.ensures
      c.end_of_row-end.ensures c.in_default.ensures;
})

pub returns-in-None : goal.returns-in-None
returns-in-None c =
    looking_all c.requires.0 c.loop-y.invariant.along.peak _ _ c.loop-y.invariant.looking (row_past c.loop-y.invariant.along c.in-None.ensures.steps.0)

-- no point is left
pub returns-then-begin-n : goal.returns-then-begin-n
returns-then-begin-n c =
    let e = points_length c.args.missing.now in
    passing_all (length (points c.args.missing.now)) (MisplacedAt c.args.corners.now c.args.missing.now) _ (omega (arith, e, c.if-begin-n.true))
    (λ j u. c.loop-y.invariant.looking.passing.clear j (omega (arith, u)))

pub returns-in-Some-misplaced : goal.returns-in-Some-misplaced
returns-in-Some-misplaced c = let g = c.in-Some-misplaced.ensures in
    passing_then (length (points c.args.missing.now)) (MisplacedAt c.args.corners.now c.args.missing.now) _ c.loop-y.invariant.looking.passing _ g.here.0 g
