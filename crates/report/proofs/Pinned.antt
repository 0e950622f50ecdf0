-- Any two outcomes that Verdict or Report may have coincide, and an accepted call says yes exactly if the grain is convex. Assumes nothing.
use mathlib.Core.Path.{◌≡◌, refl, sym, ◌∙◌, ap, subst}
use mathlib.Core.Logic.{◌↔◌}
use mathlib.Core.List.{List, [], ◌∷◌}
use Prim.Native.Nat.{ℕ, zero, suc}
use native.Mathlib.Omega.{arith}
use lib.ListN.{length}
use lib.IntN.{ℤ}
use Rattle.lattice.specs.Point.{Point, points}
use Rattle.lattice.specs.Hull.{Convex}
use Rattle.lattice.specs.Grains.{first_of}
use Rattle.lattice.specs.Refusal.{accepted}
use Rattle.lattice.specs.Room.{holding}
use Rattle.lattice.proofs.Refusals.{gives_unique}
use Rattle.lattice.proofs.MissingLists.{missing_list_unique, convex_exactly}
use Rattle.hull.specs.Hull.{hull_rows, HullResult}
use Rattle.hull.proofs.Hulling.{results_equal}
use Rattle.report.specs.declared.Judged.{Judged}
use Rattle.report.specs.declared.Reported.{Reported}
use Rattle.report.specs.Report.{yes, verdict_of, Judges, VerdictResult, VerdictPromise, report_rows, MissingResult, ReportPromise}

-- ---- any two outcomes coincide
verdicts_equal : (s : List Point) (number v w : ℕ) (p q : Point) → VerdictResult s number v p → VerdictResult s number w q → (v ≡ w) × (p ≡ q)
verdicts_equal s zero v w p q h g =
    let e = missing_list_unique s h.missing g.missing h.listed g.listed in
    (h.verdict_is ∙ ap verdict_of e ∙ sym g.verdict_is, h.first_is ∙ ap first_of e ∙ sym g.first_is)
verdicts_equal s (suc number) v w p q h g = (h.0 ∙ sym g.0, h.1 ∙ sym g.1)

missing_equal : (s : List Point) (room : List ℤ) (number c d : ℕ) (room' room'' : List ℤ) → MissingResult s room number c room' → MissingResult s room number d room''
    → (c ≡ d) × (room' ≡ room'')
missing_equal s room zero c d room' room'' h g =
    let e = missing_list_unique s h.0 g.0 h.1 g.1 in
    (h.2 ∙ ap length e ∙ sym g.2, h.3 ∙ ap (λ m. holding m room) e ∙ sym g.3)
missing_equal s room (suc number) c d room' room'' h g = (h.0 ∙ sym g.0, h.1 ∙ sym g.1)

pub verdict_pinned : (list ordered corners : List ℤ) (a b : Judged) (ordered' ordered'' corners' corners'' : List ℤ)
    → VerdictPromise list ordered corners a ordered' corners' → VerdictPromise list ordered corners b ordered'' corners''
    → (a ≡ b) × (ordered' ≡ ordered'') × (corners' ≡ corners'')
verdict_pinned list ordered corners a b ordered' ordered'' corners' corners'' h g =
    let e = gives_unique (hull_rows list ordered corners accepted) a.number b.number a.place b.place h.gives g.gives in
    let r = results_equal list ordered corners b.number a.points b.points a.corners b.corners ordered' ordered'' corners' corners''
    (subst (λ n. HullResult list ordered corners n a.points a.corners ordered' corners') e.0 h.hull) g.hull in
    let v = verdicts_equal (points list) b.number a.verdict b.verdict (record { x = a.x; y = a.y }) (record { x = b.x; y = b.y })
    (subst (λ n. VerdictResult (points list) n a.verdict (record { x = a.x; y = a.y })) e.0 h.verdict) g.verdict in (
      (λ i. record {
        number = e.0 i;
        place = e.1 i;
        points = r.0 i;
        corners = r.1 i;
        verdict = v.0 i;
        x = (v.1 i).x;
        y = (v.1 i).y;
      }),
      r.2,
      r.3,
    )

pub report_pinned : (list ordered corners missing : List ℤ) (a b : Reported) (ordered' ordered'' corners' corners'' missing' missing'' : List ℤ)
    → ReportPromise list ordered corners missing a ordered' corners' missing' → ReportPromise list ordered corners missing b ordered'' corners'' missing''
    → (a ≡ b) × (ordered' ≡ ordered'') × (corners' ≡ corners'') × (missing' ≡ missing'')
report_pinned list ordered corners missing a b ordered' ordered'' corners' corners'' missing' missing'' h g =
    let e = gives_unique (report_rows list ordered corners missing accepted) a.number b.number a.place b.place h.gives g.gives in
    let r = results_equal list ordered corners b.number a.points b.points a.corners b.corners ordered' ordered'' corners' corners''
    (subst (λ n. HullResult list ordered corners n a.points a.corners ordered' corners') e.0 h.hull) g.hull in
    let v = verdicts_equal (points list) b.number a.verdict b.verdict (record { x = a.x; y = a.y }) (record { x = b.x; y = b.y })
    (subst (λ n. VerdictResult (points list) n a.verdict (record { x = a.x; y = a.y })) e.0 h.verdict) g.verdict in
    let m = missing_equal (points list) missing b.number a.missing b.missing missing' missing''
    (subst (λ n. MissingResult (points list) missing n a.missing missing') e.0 h.listed) g.listed in (
      (λ i. record {
        number = e.0 i;
        place = e.1 i;
        points = r.0 i;
        corners = r.1 i;
        missing = m.0 i;
        verdict = v.0 i;
        x = (v.1 i).x;
        y = (v.1 i).y;
      }),
      r.2,
      r.3,
      m.1,
    )

-- ---- yes exactly if nothing is missing
judged_yes : (s : List Point) (verdict : ℕ) (first : Point) → Judges s verdict first → (verdict ≡ yes) ↔ Convex s
judged_yes s verdict first j = (
  (λ e. (convex_exactly s j.missing j.listed).1 (none j.missing (sym j.verdict_is ∙ e))),
  (λ c. j.verdict_is ∙ ap verdict_of ((convex_exactly s j.missing j.listed).0 c)),
)
  where
    none : (m : List Point) → verdict_of m ≡ yes → m ≡ []
    none [] e = refl
    none (p ∷ m) e = absurd (omega (arith, e))

result_yes : (s : List Point) (number verdict : ℕ) (first : Point) → number ≡ 0 → VerdictResult s number verdict first → (verdict ≡ yes) ↔ Convex s
result_yes s zero verdict first e h = judged_yes s verdict first h
result_yes s (suc number) verdict first e h = absurd (omega (arith, e))

pub verdict_yes : (list ordered corners : List ℤ) (a : Judged) (ordered' corners' : List ℤ) → VerdictPromise list ordered corners a ordered' corners'
    → a.number ≡ 0 → (a.verdict ≡ yes) ↔ Convex (points list)
verdict_yes list ordered corners a ordered' corners' h e = result_yes (points list) a.number a.verdict (record { x = a.x; y = a.y }) e h.verdict

pub report_yes : (list ordered corners missing : List ℤ) (a : Reported) (ordered' corners' missing' : List ℤ)
    → ReportPromise list ordered corners missing a ordered' corners' missing' → a.number ≡ 0 → (a.verdict ≡ yes) ↔ Convex (points list)
report_yes list ordered corners missing a ordered' corners' missing' h e =
    result_yes (points list) a.number a.verdict (record { x = a.x; y = a.y }) e h.verdict
