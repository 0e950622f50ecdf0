-- Demand 1: "Every call takes every list and every room and ends, with an answer or a numbered refusal. A refusal carries the number and place
-- fixed in the rules, and every list lent to the call then reads exactly as before."
-- That a call takes everything is that its contract has no `requires`, and that it ends is proved with every Rattle function. A list that
-- is lent to be read (`&[i32]`) can't change. The rest is said here of each promise. Row and Row ends have no refusal. Assumes nothing.
use mathlib.Core.Path.{◌≡◌, refl, subst}
use mathlib.Core.List.{List}
use Prim.Native.Nat.{ℕ, zero, suc}
use lib.IntN.{ℤ}
use Rattle.lattice.specs.Point.{Point, origin, points}
use Rattle.lattice.specs.Refusal.{Table, accepted, Gives}
use Rattle.lattice.proofs.Refusals.{gives_unique}
use Rattle.lattice.proofs.Tables.{Numbered, accepted_place}
use Rattle.order.specs.declared.Ordered.{Ordered}
use Rattle.order.specs.Order.{order_rows, OrderResult, OrderPromise}
use Rattle.hull.specs.declared.Hulled.{Hulled}
use Rattle.hull.specs.Hull.{hull_rows, HullResult, HullPromise}
use Rattle.report.specs.declared.Judged.{Judged}
use Rattle.report.specs.declared.Reported.{Reported}
use Rattle.report.specs.Report.{neither, VerdictResult, VerdictPromise, report_rows, MissingResult, ReportPromise}
use Rattle.figures.specs.declared.Figured.{Figured}
use Rattle.figures.specs.declared.Figured.TheVariants.{Refused, None, Given}
use Rattle.figures.specs.Figures.{number_of, place_of, FiguresOf, FiguresPromise}
use Rattle.rebuild.specs.declared.Rebuilt.{Rebuilt}
use Rattle.rebuild.specs.Rebuild.{RebuildResult, rebuild_table, RebuildPromise}
use Rattle.demands.specs.Demands.{Ruled}
use Rattle.demands.proofs.Passing.{none_applies, all_pass}

ruled : {t : Table} {number place : ℕ} {AsBefore : Type 0} → Numbered t → Gives t number place → ((number ≡ 0 → ⊥) → AsBefore)
    → Ruled t number place AsBefore
ruled {t} {number} {place} numbered g before = record {
  given = g;
  only = λ n i h. gives_unique t n number i place h g;
  exactly = ((λ e. none_applies t numbered place (zeroed e)), (λ h. (gives_unique t number 0 place 0 g (all_pass t h)).0));
  accepted_place = λ e. accepted_place t numbered place (zeroed e);
  declined = before;
}
  where
    zeroed : number ≡ 0 → Gives t 0 place
    zeroed e = subst (λ n. Gives t n place) e g

-- what a number that is not 0 leaves
left : {X : Type 0} (Result : ℕ → Type 0) → ((n : ℕ) → Result (suc n) → X) → (number : ℕ) → Result number → (number ≡ 0 → ⊥) → X
left Result f zero h n = absurd (n refl)
left Result f (suc number) h n = f number h

-- ---- the calls
pub order_ruled : (list room : List ℤ) (a : Ordered) (after : List ℤ) → OrderPromise list room a after
    → Ruled (order_rows list room accepted) a.number a.place ((a.points ≡ 0) × (after ≡ room))
order_ruled list room a after h =
    ruled (tt, (tt, (tt, (tt, (tt, tt))))) h.gives (left (λ n. OrderResult list room n a.points after) (λ n r. r) a.number h.result)

hull_left : (list ordered corners : List ℤ) (number n count : ℕ) (ordered' corners' : List ℤ)
    → HullResult list ordered corners number n count ordered' corners' → (number ≡ 0 → ⊥)
    → (n ≡ 0) × (count ≡ 0) × (ordered' ≡ ordered) × (corners' ≡ corners)
hull_left list ordered corners number n count ordered' corners' =
    left (λ k. HullResult list ordered corners k n count ordered' corners') (λ k r. r) number

verdict_left : (s : List Point) (number verdict : ℕ) (first : Point) → VerdictResult s number verdict first → (number ≡ 0 → ⊥)
    → (verdict ≡ neither) × (first ≡ origin)
verdict_left s number verdict first = left (λ k. VerdictResult s k verdict first) (λ k r. r) number

pub hull_ruled : (list ordered corners : List ℤ) (a : Hulled) (ordered' corners' : List ℤ) → HullPromise list ordered corners a ordered' corners'
    → Ruled (hull_rows list ordered corners accepted) a.number a.place
    ((a.points ≡ 0) × (a.corners ≡ 0) × (ordered' ≡ ordered) × (corners' ≡ corners))
hull_ruled list ordered corners a ordered' corners' h =
    ruled (tt, (tt, (tt, (tt, (tt, (tt, tt)))))) h.gives
    (hull_left list ordered corners a.number a.points a.corners ordered' corners' h.result)

pub verdict_ruled : (list ordered corners : List ℤ) (a : Judged) (ordered' corners' : List ℤ) → VerdictPromise list ordered corners a ordered' corners'
    → Ruled (hull_rows list ordered corners accepted) a.number a.place
    ((a.points ≡ 0) × (a.corners ≡ 0) × (a.verdict ≡ neither) × (record { x = a.x; y = a.y } ≡ origin)
    × (ordered' ≡ ordered) × (corners' ≡ corners))
verdict_ruled list ordered corners a ordered' corners' h =
    ruled (tt, (tt, (tt, (tt, (tt, (tt, tt)))))) h.gives
    (λ n.
    let u = hull_left list ordered corners a.number a.points a.corners ordered' corners' h.hull n in
    let v = verdict_left (points list) a.number a.verdict (record { x = a.x; y = a.y }) h.verdict n in
    (u.0, u.1, v.0, v.1, u.2, u.3))

pub report_ruled : (list ordered corners missing : List ℤ) (a : Reported) (ordered' corners' missing' : List ℤ)
    → ReportPromise list ordered corners missing a ordered' corners' missing'
    → Ruled (report_rows list ordered corners missing accepted) a.number a.place
    ((a.points ≡ 0) × (a.corners ≡ 0) × (a.missing ≡ 0) × (a.verdict ≡ neither) × (record { x = a.x; y = a.y } ≡ origin)
    × (ordered' ≡ ordered) × (corners' ≡ corners) × (missing' ≡ missing))
report_ruled list ordered corners missing a ordered' corners' missing' h =
    ruled (tt, (tt, (tt, (tt, (tt, (tt, (tt, tt))))))) h.gives
    (λ n.
    let u = hull_left list ordered corners a.number a.points a.corners ordered' corners' h.hull n in
    let v = verdict_left (points list) a.number a.verdict (record { x = a.x; y = a.y }) h.verdict n in
    let m = left (λ k. MissingResult (points list) missing k a.missing missing') (λ k r. r) a.number h.listed n in
    (u.0, u.1, m.0, v.0, v.1, u.2, u.3, m.1))

figures_refused : (s : List Point) (a : Figured) → FiguresOf s a → (number_of a ≡ 0 → ⊥) → a ≡ Refused (number_of a) (place_of a)
figures_refused s (Refused number place) h n = refl
figures_refused s None h n = absurd (n refl)
figures_refused s (Given centroid solidity) h n = absurd (n refl)

pub figures_ruled : (list ordered corners : List ℤ) (a : Figured) (ordered' corners' : List ℤ) → FiguresPromise list ordered corners a ordered' corners'
    → Ruled (hull_rows list ordered corners accepted) (number_of a) (place_of a)
    ((a ≡ Refused (number_of a) (place_of a)) × (ordered' ≡ ordered) × (corners' ≡ corners))
figures_ruled list ordered corners a ordered' corners' h =
    ruled (tt, (tt, (tt, (tt, (tt, (tt, tt)))))) h.gives
    (λ n.
    let u = hull_left list ordered corners (number_of a) h.points_count h.corners_count ordered' corners' h.hull n in
    (figures_refused (points list) a h.figures n, u.2, u.3))

pub rebuild_ruled : (corners missing room : List ℤ) (a : Rebuilt) (after : List ℤ) → RebuildPromise corners missing room a after
    → Ruled (rebuild_table corners missing room) a.number a.place ((a.points ≡ 0) × (after ≡ room))
rebuild_ruled corners missing room a after h =
    ruled (tt, (tt, (tt, (tt, (tt, (tt, (tt, (tt, (tt, tt))))))))) h.gives
    (left (λ n. RebuildResult (points corners) (points missing) room n a.points after) (λ n r. r) a.number h.result)
