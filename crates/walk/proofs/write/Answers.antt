-- Each row's gaps are written behind those of the rows before. Assumes nothing.
use mathlib.Core.Path.{◌≡◌, refl, subst}
use mathlib.Core.List.{List, []}
use Prim.Native.Nat.{ℕ, ◌+◌, ◌-◌, ◌*◌, ◌≤◌, ◌<◌}
use native.Mathlib.Omega.{arith}
use borrow.Author.Rules.{rules}
use borrow.Rule.Slice.PartMut.{put_mid}
use lib.ListN.{length}
use lib.IntN.{ℤ}
use mir.Syntax.{w32}
use mir.Val.{SFits, to_z, of_z}
use Rattle.lattice.specs.Point.{points}
use Rattle.lattice.proofs.Numbers.{points_length}
use Rattle.packed.specs.Packed.{side, placed}
use Rattle.rows.specs.Row.{Holds, RunsTo}
use Rattle.range.proofs.Parts.{part}
use Rattle.stretch.specs.Stretch.{last_row}
use Rattle.stretch.specs.declared.Stretch.{Stretch}
use Rattle.stretch.specs.Ahead.{Ahead, IsNext}
use Rattle.walk.specs.Walk.{Walked, Lacking, RowPoints, Gap, Takes, Puts}
use Rattle.walk.proofs.Lending.{rest}
use Rattle.walk.proofs.Along.{Along, row_in, row_columns, along_next, row_past, row_held}
use Rattle.walk.proofs.Walking.{has_first_row, nothing, nothing_listed, row_is}
use Rattle.walk.proofs.Loops.{Written, written_none, written_used, written_room, written_more, written_all}
use Rattle.walk.proofs.write.Goals as goal

pub returns-then-corners-lt2 : goal.returns-then-corners-lt2
returns-then-corners-lt2 c =
    let none = nothing (points c.args.corners.now) (omega (arith, points_length c.args.corners.now, c.if-corners-lt2.true)) in
    ([], nothing_listed (Lacking c.args.corners.now c.args.list.now) (λ p l. none p l.within), refl, refl)

pub new-y-items-requires : goal.new-y-items-requires
new-y-items-requires c = has_first_row c.requires.0.outline c.peak.ensures

pub loop-y-init : goal.loop-y-init
loop-y-init c = let e = c.into_iter-y-iterator.ensures.into_iter_gives in rw (e, c.new-y-items.ensures) (record {
  along = record { same = refl; peak = c.peak.ensures };
  written = written_none c.requires.0 c.peak.ensures _ _ refl;
  fits = omega arith;
})

-- ---- a row of the hull, and the points of the list in it
module _ {corners list : List ℤ} (w : Walked corners list) {room₀ : List ℤ} (t : Takes (Lacking corners list) room₀) {a : Ahead} (l : Along corners a)
    {begin used : ℕ} {room : List ℤ} (d : Written corners list (last_row corners a.peak) a.y begin used room₀ room)
    {y : ℕ} {s : Stretch} {b : Ahead} (n : IsNext a y s b)
    {z : ℤ} (f : SFits w32 z) (e : z ≡ placed y) {end : ℕ} (r : RunsTo (points list) (to_z w32 (of_z w32 z)) begin end) where
  here : Written corners list (last_row corners a.peak) y begin used room₀ room
  here = subst (λ m. Written corners list (last_row corners a.peak) m begin used room₀ room) n.is d

  held : Holds (points list) (placed y) begin end
  held = row_held list y begin end z f e w.order here.leads r

  abbrev row_of : List ℤ
  row_of = part list begin end

  row_fits : RowPoints row_of s y × (y < side) × Takes (Gap row_of s y) (rest room (2 * used))
  row_fits = (
    row_is w y begin end s (row_columns l n) held,
    n.few,
    written_room w l.peak room₀ t y begin used room here (row_in l n) s (row_columns l n) end held,
  )

  module _ (m : ℕ) (back : List ℤ) (p : Puts (Gap row_of s y) (rest room (2 * used)) m back) where
    more : Written corners list (last_row corners a.peak) (y + 1) end (used + m) room₀ (put_mid (2 * used) (length room - 2 * used) room back)
    more = written_more w l.peak room₀ t y begin used room here (row_in l n) s (row_columns l n) end held m back p

    more_fits : 2 * (used + m) ≤ length (put_mid (2 * used) (length room - 2 * used) room back)
    more_fits = written_used w l.peak room₀ t (y + 1) end (used + m) (put_mid (2 * used) (length room - 2 * used) room back) more

pub write_row-used-requires : goal.write_row-used-requires
write_row-used-requires c =
    row_fits c.requires.0 c.requires.1 c.loop-y.invariant.along c.loop-y.invariant.written c.in-Some.ensures.steps (search rules) c.placed.ensures
    c.end_of_row-end.ensures

pub overflow_add-used : goal.overflow_add-used
overflow_add-used c =
    let k = more_fits c.requires.0 c.requires.1 c.loop-y.invariant.along c.loop-y.invariant.written c.in-Some.ensures.steps (search rules) c.placed.ensures
    c.end_of_row-end.ensures _ _ c.write_row-used.ensures in
    omega (arith, k)

pub loop-y-preserved : goal.loop-y-preserved
loop-y-preserved c = rw (along_next c.loop-y.invariant.along c.in-Some.ensures.steps) (record {
  along = record { same = refl; peak = c.loop-y.invariant.along.peak };
  written = more c.requires.0 c.requires.1 c.loop-y.invariant.along c.loop-y.invariant.written c.in-Some.ensures.steps (search rules) c.placed.ensures
      c.end_of_row-end.ensures _ _ c.write_row-used.ensures;
  fits = more_fits c.requires.0 c.requires.1 c.loop-y.invariant.along c.loop-y.invariant.written c.in-Some.ensures.steps (search rules) c.placed.ensures
      c.end_of_row-end.ensures _ _ c.write_row-used.ensures;
})

pub returns : goal.returns
returns c = written_all c.requires.0 c.loop-y.invariant.along.peak _ c.requires.1 _ _ _ _ c.loop-y.invariant.written (row_past c.loop-y.invariant.along c.in-None.ensures.steps.0)
