-- Each row is searched for the first column that the list lacks. Assumes nothing.
use mathlib.Core.Path.{◌≡◌, refl, sym, ◌∙◌, subst}
use mathlib.Core.List.{List}
use Prim.Native.Nat.{ℕ, ◌+◌, ◌-◌, ◌*◌, ◌≤◌, ◌<◌}
use native.Mathlib.Omega.{arith}
use lib.ListN.{length}
use lib.IntN.{ℤ}
use borrow.Author.Rules.{rules}
use mir.Syntax.{w32}
use mir.Val.{SFits, to_z, of_z}
use Rattle.lattice.specs.Point.{points}
use Rattle.lattice.proofs.Numbers.{points_length}
use Rattle.packed.specs.Packed.{side, cells, placed}
use Rattle.packed.proofs.Tests.{read_back, tells_yes, tells_no}
use Rattle.rows.specs.Row.{Holds, RunsTo}
use Rattle.range.proofs.Parts.{part}
use Rattle.stretch.specs.Stretch.{last_row}
use Rattle.stretch.specs.declared.Stretch.{Stretch}
use Rattle.stretch.specs.Ahead.{Ahead, IsNext}
use Rattle.walk.specs.Walk.{Walked, Lacking, FirstOf, FirstColumn}
use Rattle.walk.proofs.Along.{Along, row_in, row_columns, along_next, row_past, row_held}
use Rattle.walk.proofs.Walking.{has_first_row, nothing}
use Rattle.walk.proofs.Gaps.{Held}
use Rattle.walk.proofs.Loops.{Searched, Searching, searched_none, searched_all, searching_first, searching_more, searching_found, searching_all}
use Rattle.walk.proofs.first.Goals as goal

pub returns-then-corners-lt2 : goal.returns-then-corners-lt2
returns-then-corners-lt2 c = let l = c.args.corners.now in
    record { upto = omega arith; here = λ k. absurd (omega arith); earlier = λ k m h. nothing (points l) (omega (arith, points_length l, c.if-corners-lt2.true)) _ h.within }

pub new-rows-requires : goal.new-rows-requires
new-rows-requires c = has_first_row c.requires.outline c.peak.ensures

pub rows-init : goal.rows-init
rows-init c = rw c.new-rows.ensures (record {
  along = record { same = refl; peak = c.peak.ensures };
  searched = searched_none c.requires c.peak.ensures _ refl;
})

pub returns-in_default : goal.returns-in_default
returns-in_default c =
    searched_all c.requires c.rows.invariant.along.peak _ _ c.rows.invariant.searched (row_past c.rows.invariant.along c.in_default.ensures.steps.0)

-- ---- a row of the hull, and the points of the list in it
module _ {corners list : List ℤ} (w : Walked corners list) {a : Ahead} (l : Along corners a) {begin : ℕ}
    (d : Searched corners list (last_row corners a.peak) a.y begin) {y : ℕ} {s : Stretch} {b : Ahead} (n : IsNext a y s b)
    {z : ℤ} (f : SFits w32 z) (e : z ≡ placed y) {end : ℕ} (r : RunsTo (points list) (to_z w32 (of_z w32 z)) begin end) where
  here : Searched corners list (last_row corners a.peak) y begin
  here = subst (λ m. Searched corners list (last_row corners a.peak) m begin) n.is d

  held : Holds (points list) (placed y) begin end
  held = row_held list y begin end z f e w.order here.leads r

  abbrev row_of : List ℤ
  row_of = part list begin end

  starts : (x : ℕ) → FirstColumn s (length (points row_of)) x → Searching row_of s y x
  starts = searching_first w l.peak y begin here (row_in l n) s (row_columns l n) end held

  module _ (x : ℕ) (h : Searching row_of s y x) where
    more : x < s.to → Held row_of (x - s.from) x → Searching row_of s y (x + 1)
    more = searching_more w l.peak y begin here (row_in l n) s (row_columns l n) end held x h

    found : x < s.to → (Held row_of (x - s.from) x → ⊥) → (side * y + x < cells) × FirstOf (Lacking corners list) (side * y + x)
    found = searching_found w l.peak y begin here (row_in l n) s (row_columns l n) end held x h

    passed : s.to ≤ x → Searched corners list (last_row corners a.peak) (y + 1) end
    passed = searching_all w l.peak y begin here (row_in l n) s (row_columns l n) end held x h

pub loop-x-init : goal.loop-x-init
loop-x-init c =
    starts c.requires c.rows.invariant.along c.rows.invariant.searched c.in-Some.ensures.steps (search rules) c.placed.ensures c.end_of_row-end.ensures _
    c.first_column-x.ensures

pub loop-x-preserved : goal.loop-x-preserved
loop-x-preserved c =
    let h = tells_yes c.if-not-holds.false c.holds.ensures in
    more c.requires c.rows.invariant.along c.rows.invariant.searched c.in-Some.ensures.steps (search rules) c.placed.ensures c.end_of_row-end.ensures _
    c.loop-x.invariant c.loop-x-test.true (h.0, h.1 ∙ read_back c.placed-in-loop-x.result (search rules) ∙ c.placed-in-loop-x.ensures)

pub returns-then-not-holds : goal.returns-then-not-holds
returns-then-not-holds c =
    found c.requires c.rows.invariant.along c.rows.invariant.searched c.in-Some.ensures.steps (search rules) c.placed.ensures c.end_of_row-end.ensures _
    c.loop-x.invariant c.loop-x-test.true
    (λ h. tells_no c.if-not-holds.true c.holds.ensures (h.0, h.1 ∙ sym (read_back c.placed-in-loop-x.result (search rules) ∙ c.placed-in-loop-x.ensures)))

pub rows-preserved : goal.rows-preserved
rows-preserved c = rw (along_next c.rows.invariant.along c.in-Some.ensures.steps) (record {
  along = record { same = refl; peak = c.rows.invariant.along.peak };
  searched = passed c.requires c.rows.invariant.along c.rows.invariant.searched c.in-Some.ensures.steps (search rules) c.placed.ensures c.end_of_row-end.ensures _
      c.loop-x.invariant c.loop-x-test.false;
})
