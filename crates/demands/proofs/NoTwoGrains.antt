-- Demand 3: "No two grains share a report. For two lists with full reports, corners and missing pixels are equal exactly when the lists hold the
-- same pixels. Every full report is accepted on the way back, given room, and yields that grain; every accepted pair is the full report of
-- the grain it yields, given room."
-- Corners and missing points are read from the rooms of accepted calls; what they have to be is said over the definition of hull, so that a
-- plain copy of the input is no report. Assumes nothing.
use mathlib.Core.Path.{◌≡◌, refl, sym, ◌∙◌, ap, subst}
use mathlib.Core.Logic.{inl, inr, ◌↔◌}
use mathlib.Core.List.{List}
use Prim.Native.Nat.{ℕ, ◌*◌, ◌≤◌}
use native.Mathlib.Omega.{arith}
use lib.ListN.{length, take}
use lib.IntN.{ℤ}
use Rattle.lattice.specs.Point.{Point, InRange, most, points, In, All, Pairs, Before, Lists}
use Rattle.lattice.specs.Hull.{Of, CornerList, MissingList, Kept}
use Rattle.lattice.specs.Refusal.{accepted, Odd, list_rows}
use Rattle.lattice.specs.Room.{numbers}
use Rattle.lattice.proofs.Lists.{either, all_in, in_all}
use Rattle.lattice.proofs.Places.{lt_or_le}
use Rattle.lattice.proofs.Frame.{hull_in_range}
use Rattle.lattice.proofs.Numbers.{points_numbers, numbers_tell, numbers_even, even_numbers}
use Rattle.lattice.proofs.SameMembers.{Same}
use Rattle.lattice.proofs.RowLists.{row_order_exists, row_order_length}
use Rattle.lattice.proofs.CornerLists.{corner_list_exists}
use Rattle.lattice.proofs.MissingLists.{missing_list_exists, kept_list_exists}
use Rattle.lattice.proofs.Refusals.{within_range}
use Rattle.lattice.proofs.Tables.{Passes, list_passes}
use Rattle.lattice.proofs.Demand.{report_tells}
use Rattle.rows.specs.Row.{Sound}
use Rattle.report.specs.declared.Reported.{Reported}
use Rattle.report.specs.Report.{report_rows, ReportPromise}
use Rattle.rebuild.specs.declared.Rebuilt.{Rebuilt}
use Rattle.rebuild.specs.Rebuild.{rebuild_table, RebuildPromise}
use Rattle.rebuild.proofs.WayBack as WayBack
use Rattle.demands.specs.Demands.{NoneApplies, Begins, FullReport, points_in, corners_in, missing_in, RoomFor}
use Rattle.demands.proofs.Passing.{all_pass}
use Rattle.demands.proofs.Rooms.{begins}
use Rattle.demands.proofs.Published.{report_published, rebuild_published, report_of_sound}
use Rattle.demands.proofs.Refused.{report_ruled, rebuild_ruled}

-- ---- what stands in the rooms of a full report
record Read {list : List ℤ} (r : FullReport list) : Type 0 where
  o : List Point
  order : Lists (Of (points list)) o
  points_count : r.answer.points ≡ length o
  points_front : points_in r ≡ numbers o
  c : List Point
  corner : CornerList (points list) c
  corners_front : corners_in r ≡ numbers c
  m : List Point
  missed : MissingList (points list) m
  missing_front : missing_in r ≡ numbers m

read : {list : List ℤ} (r : FullReport list) → Read r
read {list} r =
    let o = row_order_exists (points list) in
    let c = corner_list_exists (points list) in
    let m = missing_list_exists (points list) in
    let b = report_published list r.ordered r.corners r.missing r.answer r.ordered' r.corners' r.missing' r.promise r.full
    o.0 c.0 m.0 o.1 c.1 m.1 in
    record {
      o = o.0;
      order = o.1;
      points_count = b.0.counted;
      points_front = b.0.front;
      c = c.0;
      corner = c.1;
      corners_front = b.1.front;
      m = m.0;
      missed = m.1;
      missing_front = b.2.front;
    }

-- "For two lists with full reports, corners and missing pixels are equal exactly when the lists hold the same pixels."
pub no_two_grains_share_a_report : (list other : List ℤ) (a : FullReport list) (b : FullReport other)
    → ((corners_in a ≡ corners_in b) × (missing_in a ≡ missing_in b)) ↔ Same (points list) (points other)
no_two_grains_share_a_report list other a b =
    let u = read a in
    let v = read b in
    let t = report_tells (points list) (points other) u.c v.c u.m v.m u.corner v.corner u.missed v.missed in (
      (λ e. t.0 (
        numbers_tell (sym u.corners_front ∙ e.0 ∙ v.corners_front),
        numbers_tell (sym u.missing_front ∙ e.1 ∙ v.missing_front),
      )),
      (λ s. let e = t.1 s in (
        u.corners_front ∙ ap numbers e.0 ∙ sym v.corners_front,
        u.missing_front ∙ ap numbers e.1 ∙ sym v.missing_front,
      )),
    )

-- ---- "Every full report is accepted on the way back, given room, and yields that grain"
module _ {list : List ℤ} (a : FullReport list) where
  none : NoneApplies (report_rows list a.ordered a.corners a.missing accepted)
  none =
      (report_ruled list a.ordered a.corners a.missing a.answer a.ordered' a.corners' a.missing' a.promise).exactly.0 a.full

  passes : Passes list
  passes = list_passes list accepted 0 (all_pass (list_rows list accepted) (none.0, (none.1.0, (none.1.1.0, (none.1.1.1.0, tt)))))

  reported : (u : Read a) → WayBack.Reported (points list) u.o (corners_in a) (missing_in a)
  reported u = record {
    range = passes.range;
    order = u.order;
    few = omega (arith, row_order_length (points list) u.o passes.once u.order, passes.few);
    corners_even = numbers_even u.c u.corners_front;
    missing_even = numbers_even u.m u.missing_front;
    corner = subst (CornerList (points list)) (sym (points_numbers u.c) ∙ ap points (sym u.corners_front)) u.corner;
    missed = subst (MissingList (points list)) (sym (points_numbers u.m) ∙ ap points (sym u.missing_front)) u.missed;
  }

pub report_comes_back : (list : List ℤ) (a : FullReport list) (room : List ℤ) → RoomFor a.answer.points room
    → (b : Rebuilt) (after : List ℤ) → RebuildPromise (corners_in a) (missing_in a) room b after
    → (b.number ≡ 0) × (b.points ≡ a.answer.points) × (take (2 * b.points) after ≡ points_in a)
    × Same (points (take (2 * b.points) after)) (points list)
report_comes_back list a room wide b after h =
    let u = read a in
    let w = WayBack.way_back (points list) u.o (corners_in a) (missing_in a) room (reported a u)
    (λ small. omega (arith, small, wide, u.points_count)) b after h in
    let n = ap (λ z. z.points) w.0 in
    let s : Begins u.o b.points room after = begins refl n w.1 in
    let p : points (take (2 * b.points) after) ≡ u.o = ap points s.front ∙ points_numbers u.o in (
      ap (λ z. z.number) w.0,
      n ∙ sym u.points_count,
      s.front ∙ sym u.points_front,
      ((λ q i. u.order.only q (subst (In q) p i)), (λ q i. subst (In q) (sym p) (u.order.every q i))),
    )

-- ---- "every accepted pair is the full report of the grain it yields, given room"
-- what an accepted pair yields: a list in row order, in range, with few enough points, whose corners and missing points are those two lists
record Yields (corners missing : List ℤ) (count : ℕ) (grain : List ℤ) : Type 0 where
  sound : Sound grain
  counted : count ≡ length (points grain)
  corner : CornerList (points grain) (points corners)
  missed : MissingList (points grain) (points missing)
  corners_even : Odd corners → ⊥
  missing_even : Odd missing → ⊥

module _ (corners missing room : List ℤ) (b : Rebuilt) (after : List ℤ) (h : RebuildPromise corners missing room b after) (e : b.number ≡ 0) where
  abbrev c : List Point
  c = points corners

  abbrev m : List Point
  m = points missing

  unrefused : NoneApplies (rebuild_table corners missing room)
  unrefused = (rebuild_ruled corners missing room b after h).exactly.0 e

  zeroed : RebuildPromise corners missing room (record { number = 0; place = b.place; points = b.points }) after
  zeroed = subst (λ z. RebuildPromise corners missing room z after) (λ i. record { number = e i; place = b.place; points = b.points }) h

  kept_few : (o : List Point) → Lists (Kept c m) o → length o ≤ most
  kept_few o k = either (lt_or_le most (length o)) (λ l. absurd (unrefused.1.1.1.1.1.1.1.0 0 (refl, (o, k, l)))) (λ l. l)

  kept_range : (o : List Point) → Lists (Kept c m) o → All InRange o
  kept_range o k =
      in_all InRange o
      (λ p i. hull_in_range (Of c) (λ q j. all_in InRange c (within_range c unrefused.1.1.0) q j) p (k.only p i).within)

  yields : Yields corners missing b.points (take (2 * b.points) after)
  yields =
      let k = kept_list_exists c m in
      let s = rebuild_published corners missing room b after h e k.0 k.1 in
      let w = WayBack.report_of_rebuilt corners missing room b.place b.points after zeroed in
      let v : Begins w.0 b.points room after = begins refl w.3 w.4 in
      let p : points (take (2 * b.points) after) ≡ k.0 = ap points s.front ∙ points_numbers k.0 in
      let q : w.0 ≡ points (take (2 * b.points) after) = numbers_tell (sym v.front ∙ s.front) ∙ sym p in
      record {
        sound = record {
          even = numbers_even k.0 s.front;
          few = omega (arith, ap length p, kept_few k.0 k.1);
          range = subst (All InRange) (sym p) (kept_range k.0 k.1);
          order = subst (Pairs Before) (sym p) k.1.order;
        };
        counted = s.counted ∙ ap length (sym p);
        corner = subst (λ l. CornerList l c) q w.1;
        missed = subst (λ l. MissingList l m) q w.2;
        corners_even = λ o. unrefused.0 0 (refl, inl o);
        missing_even = λ o. unrefused.0 0 (refl, inr o);
      }

pub rebuilt_reports_back : (corners missing room : List ℤ) (b : Rebuilt) (after : List ℤ) → RebuildPromise corners missing room b after → b.number ≡ 0
    → (ordered corner_room missing_room : List ℤ)
    → RoomFor b.points ordered → RoomFor (length (points corners)) corner_room → RoomFor (length (points missing)) missing_room
    → (a : Reported) (ordered' corners' missing' : List ℤ)
    → ReportPromise (take (2 * b.points) after) ordered corner_room missing_room a ordered' corners' missing'
    → (a.number ≡ 0) × (a.points ≡ b.points) × (take (2 * a.points) ordered' ≡ take (2 * b.points) after)
    × (take (2 * a.corners) corners' ≡ corners) × (take (2 * a.missing) missing' ≡ missing)
rebuilt_reports_back corners missing room b after h e ordered corner_room missing_room wide corner_wide missing_wide a ordered' corners' missing' g =
    let list = take (2 * b.points) after in
    let y = yields corners missing room b after h e in
    let r = report_of_sound list ordered corner_room missing_room (points corners) (points missing) y.sound y.corner y.missed
    (omega (arith, wide, y.counted)) corner_wide missing_wide a ordered' corners' missing' g in (
      r.0,
      r.1.counted ∙ sym y.counted,
      r.1.front ∙ even_numbers list y.sound.even,
      r.2.front ∙ even_numbers corners y.corners_even,
      r.3.front ∙ even_numbers missing y.missing_even,
    )
