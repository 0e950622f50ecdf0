-- Demand 2: "The answers are those of the published definition. Corners, yes or no, first missing pixel and missing list agree with it, and so
-- does the way back, in row order."
-- Said of every accepted call (number 0) and of every list that the definition allows: the points in row order, the corner list, the missing
-- list, the points that are kept. There is one of each, and only one (`row_order_exists`, `corner_list_exists`, `missing_list_exists`,
-- `kept_list_exists`; `lists_unique`, `corner_list_unique`, `missing_list_unique` in crates/lattice/proofs). Assumes nothing.
use mathlib.Core.Path.{◌≡◌, refl, ◌∙◌, ap, subst}
use mathlib.Core.Logic.{inl, ◌↔◌}
use mathlib.Core.List.{List, [], ◌∷◌}
use Prim.Native.Nat.{ℕ}
use native.Mathlib.Omega.{arith}
use lib.ListN.{length}
use lib.IntN.{ℤ}
use Rattle.lattice.specs.Point.{Point, points, Lists}
use Rattle.lattice.specs.Hull.{Of, CornerList, MissingList, Convex, Kept}
use Rattle.lattice.specs.Grains.{first_of}
use Rattle.lattice.proofs.SameMembers.{lists_unique}
use Rattle.lattice.proofs.CornerLists.{corner_list_unique}
use Rattle.lattice.proofs.MissingLists.{missing_list_unique, convex_exactly}
use Rattle.order.specs.declared.Ordered.{Ordered}
use Rattle.rows.specs.Row.{Sound}
use Rattle.order.specs.Order.{OrderResult, OrderPromise}
use Rattle.hull.specs.declared.Hulled.{Hulled}
use Rattle.hull.specs.Hull.{HullResult, HullPromise}
use Rattle.report.specs.declared.Judged.{Judged}
use Rattle.report.specs.declared.Reported.{Reported}
use Rattle.report.specs.Report.{no, yes, verdict_of, VerdictResult, VerdictPromise, MissingResult, ReportPromise}
use Rattle.report.proofs.Pinned.{verdict_yes, report_yes}
use Rattle.figures.specs.declared.Figured.{Figured}
use Rattle.figures.specs.Figures.{number_of, FiguresOf, FiguresPromise}
use Rattle.rebuild.specs.declared.Rebuilt.{Rebuilt}
use Rattle.rebuild.specs.Rebuild.{RebuildResult, RebuildPromise}
use Rattle.demands.specs.Demands.{Begins, Says, RoomFor}
use Rattle.demands.proofs.Passing.{sound_passes, report_accepts}
use Rattle.demands.proofs.Refused.{report_ruled}
use Rattle.demands.proofs.Rooms.{begins}

-- ---- what stands behind number 0
hull_begins : (list ordered corners : List ℤ) (number n count : ℕ) (ordered' corners' : List ℤ) → number ≡ 0
    → HullResult list ordered corners number n count ordered' corners'
    → (o c : List Point) → Lists (Of (points list)) o → CornerList (points list) c → Begins o n ordered ordered' × Begins c count corners corners'
hull_begins list ordered corners number n count ordered' corners' e h o c g k =
    let r = subst (λ z. HullResult list ordered corners z n count ordered' corners') e h in (
      begins (lists_unique (Of (points list)) r.in_order o r.order g) r.points r.ordered_room,
      begins (corner_list_unique (points list) r.corner_list c r.corner k) r.corners_count r.corner_room,
    )

no_exactly : (s m : List Point) (verdict : ℕ) → MissingList s m → verdict ≡ verdict_of m → (verdict ≡ no) ↔ (Convex s → ⊥)
no_exactly s [] verdict h e = ((λ n. absurd (omega (arith, e, n))), (λ n. absurd (n ((convex_exactly s [] h).1 refl))))
no_exactly s (p ∷ m) verdict h e = ((λ n convex. convex p (h.only p (inl refl))), (λ n. e))

says : (s : List Point) (number verdict : ℕ) (first : Point) → number ≡ 0 → VerdictResult s number verdict first → (verdict ≡ yes) ↔ Convex s
    → (m : List Point) → MissingList s m → Says s m verdict first
says s number verdict first e h y m g =
    let r = subst (λ z. VerdictResult s z verdict first) e h in
    let u = missing_list_unique s r.missing m r.listed g in
    record {
      yes_exactly = y;
      no_exactly = no_exactly s m verdict g (r.verdict_is ∙ ap verdict_of u);
      first_is = r.first_is ∙ ap first_of u;
    }

-- ---- the calls
pub order_published : (list room : List ℤ) (a : Ordered) (after : List ℤ) → OrderPromise list room a after → a.number ≡ 0
    → (o : List Point) → Lists (Of (points list)) o → Begins o a.points room after
order_published list room a after h e o g =
    let r = subst (λ z. OrderResult list room z a.points after) e h.result in
    begins (lists_unique (Of (points list)) r.0 o r.1 g) r.2 r.3

pub hull_published : (list ordered corners : List ℤ) (a : Hulled) (ordered' corners' : List ℤ) → HullPromise list ordered corners a ordered' corners'
    → a.number ≡ 0 → (o c : List Point) → Lists (Of (points list)) o → CornerList (points list) c
    → Begins o a.points ordered ordered' × Begins c a.corners corners corners'
hull_published list ordered corners a ordered' corners' h e =
    hull_begins list ordered corners a.number a.points a.corners ordered' corners' e h.result

pub verdict_published : (list ordered corners : List ℤ) (a : Judged) (ordered' corners' : List ℤ)
    → VerdictPromise list ordered corners a ordered' corners' → a.number ≡ 0
    → (o c m : List Point) → Lists (Of (points list)) o → CornerList (points list) c → MissingList (points list) m
    → Begins o a.points ordered ordered' × Begins c a.corners corners corners'
    × Says (points list) m a.verdict (record { x = a.x; y = a.y })
verdict_published list ordered corners a ordered' corners' h e o c m g k l =
    let b = hull_begins list ordered corners a.number a.points a.corners ordered' corners' e h.hull o c g k in (
      b.0,
      b.1,
      says (points list) a.number a.verdict (record { x = a.x; y = a.y }) e h.verdict
          (verdict_yes list ordered corners a ordered' corners' h e) m l,
    )

pub report_published : (list ordered corners missing : List ℤ) (a : Reported) (ordered' corners' missing' : List ℤ)
    → ReportPromise list ordered corners missing a ordered' corners' missing' → a.number ≡ 0
    → (o c m : List Point) → Lists (Of (points list)) o → CornerList (points list) c → MissingList (points list) m
    → Begins o a.points ordered ordered' × Begins c a.corners corners corners' × Begins m a.missing missing missing'
    × Says (points list) m a.verdict (record { x = a.x; y = a.y })
report_published list ordered corners missing a ordered' corners' missing' h e o c m g k l =
    let b = hull_begins list ordered corners a.number a.points a.corners ordered' corners' e h.hull o c g k in
    let r = subst (λ z. MissingResult (points list) missing z a.missing missing') e h.listed in (
      b.0,
      b.1,
      begins (missing_list_unique (points list) r.0 m r.1 l) r.2 r.3,
      says (points list) a.number a.verdict (record { x = a.x; y = a.y }) e h.verdict
          (report_yes list ordered corners missing a ordered' corners' missing' h e) m l,
    )

-- Figures shows no counts: its rooms hold as many points as the definition has
pub figures_published : (list ordered corners : List ℤ) (a : Figured) (ordered' corners' : List ℤ)
    → FiguresPromise list ordered corners a ordered' corners' → number_of a ≡ 0
    → (o c : List Point) → Lists (Of (points list)) o → CornerList (points list) c
    → Begins o (length o) ordered ordered' × Begins c (length c) corners corners' × FiguresOf (points list) a
figures_published list ordered corners a ordered' corners' h e o c g k =
    let b = hull_begins list ordered corners (number_of a) h.points_count h.corners_count ordered' corners' e h.hull o c g k in (
      subst (λ n. Begins o n ordered ordered') b.0.counted b.0,
      subst (λ n. Begins c n corners corners') b.1.counted b.1,
      h.figures,
    )

pub rebuild_published : (corners missing room : List ℤ) (a : Rebuilt) (after : List ℤ) → RebuildPromise corners missing room a after → a.number ≡ 0
    → (s : List Point) → Lists (Kept (points corners) (points missing)) s → Begins s a.points room after
rebuild_published corners missing room a after h e s g =
    let r = subst (λ z. RebuildResult (points corners) (points missing) room z a.points after) e h.result in
    begins (lists_unique (Kept (points corners) (points missing)) r.0 s r.1 g) r.2 r.3

-- ---- given room, Report takes every list that is sound, and answers as the definition says
pub report_of_sound : (list ordered corners missing : List ℤ) (c m : List Point)
    → Sound list → CornerList (points list) c → MissingList (points list) m
    → RoomFor (length (points list)) ordered → RoomFor (length c) corners → RoomFor (length m) missing
    → (a : Reported) (ordered' corners' missing' : List ℤ) → ReportPromise list ordered corners missing a ordered' corners' missing'
    → (a.number ≡ 0) × Begins (points list) a.points ordered ordered' × Begins c a.corners corners corners'
    × Begins m a.missing missing missing' × Says (points list) m a.verdict (record { x = a.x; y = a.y })
report_of_sound list ordered corners missing c m sound g k wide corner_wide missing_wide a ordered' corners' missing' h =
    let e = (report_ruled list ordered corners missing a ordered' corners' missing' h).exactly.1
    (report_accepts list ordered corners missing c m (sound_passes list sound) g k wide corner_wide missing_wide) in
    let r = report_published list ordered corners missing a ordered' corners' missing' h e (points list) c m
    (record { every = λ p i. i; only = λ p i. i; order = sound.order }) g k in
    (e, r.0, r.1, r.2, r.3)
