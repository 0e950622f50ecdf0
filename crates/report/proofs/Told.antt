-- Number, place, counts, verdict and first missing point tell the answers of Verdict and Report, so what is promised of them pins the answers
-- themselves. Assumes nothing.
use mathlib.Core.Path.{◌≡◌, refl, ap}
use mathlib.Core.List.{List}
use native.Mathlib.Omega.{arith}
use lib.IntN.{ℤ}
use Rattle.std.specs.Prelude.{Option, Some, None, Result}
use Rattle.lattice.specs.Point.{Point}
use Rattle.refusal.specs.declared.Refusal.{Refusal}
use Rattle.refusal.proofs.Told.{answer_told}
use Rattle.report.specs.declared.Judgement.{Judgement}
use Rattle.report.specs.declared.Findings.{Findings}
use Rattle.report.specs.Answer.{judged_of, reported_of, verdict_by, first_by}
use Rattle.report.specs.Report.{VerdictPromise, ReportPromise}
use Rattle.report.proofs.Pinned.{verdict_pinned, report_pinned}

-- the verdict and the point that is shown tell whether there is a first missing point, and which it is
first_told : (p q : Option Point) → verdict_by p ≡ verdict_by q → first_by p ≡ first_by q → p ≡ q
first_told None None e d = refl
first_told None (Some q) e d = absurd (omega (arith, e))
first_told (Some p) None e d = absurd (omega (arith, e))
first_told (Some p) (Some q) e d = ap Some d

pub judged_told : (a b : Result Judgement Refusal) → judged_of a ≡ judged_of b → a ≡ b
judged_told =
    answer_told judged_of (λ s. s.number) (λ s. s.place) (λ a. refl) (λ r. refl) (λ r. refl)
    (λ j k e.
    let first = first_told j.first_missing k.first_missing (ap (λ s. s.verdict) e) (ap (λ s. record { x = s.x; y = s.y }) e) in
    λ i. record { counts = record { points = (e i).points; corners = (e i).corners }; first_missing = first i })

pub reported_told : (a b : Result Findings Refusal) → reported_of a ≡ reported_of b → a ≡ b
reported_told =
    answer_told reported_of (λ s. s.number) (λ s. s.place) (λ a. refl) (λ r. refl) (λ r. refl)
    (λ f g e.
    let first = first_told f.first_missing g.first_missing (ap (λ s. s.verdict) e) (ap (λ s. record { x = s.x; y = s.y }) e) in
    λ i. record { counts = record { points = (e i).points; corners = (e i).corners }; missing = (e i).missing; first_missing = first i })

pub verdict_answer_pinned : (list ordered corners : List ℤ) (a b : Result Judgement Refusal) (ordered' ordered'' corners' corners'' : List ℤ)
    → VerdictPromise list ordered corners (judged_of a) ordered' corners' → VerdictPromise list ordered corners (judged_of b) ordered'' corners''
    → (a ≡ b) × (ordered' ≡ ordered'') × (corners' ≡ corners'')
verdict_answer_pinned list ordered corners a b ordered' ordered'' corners' corners'' h g =
    let e = verdict_pinned list ordered corners (judged_of a) (judged_of b) ordered' ordered'' corners' corners'' h g in
    (judged_told a b e.0, e.1, e.2)

pub report_answer_pinned : (list ordered corners missing : List ℤ) (a b : Result Findings Refusal)
    (ordered' ordered'' corners' corners'' missing' missing'' : List ℤ)
    → ReportPromise list ordered corners missing (reported_of a) ordered' corners' missing'
    → ReportPromise list ordered corners missing (reported_of b) ordered'' corners'' missing''
    → (a ≡ b) × (ordered' ≡ ordered'') × (corners' ≡ corners'') × (missing' ≡ missing'')
report_answer_pinned list ordered corners missing a b ordered' ordered'' corners' corners'' missing' missing'' h g =
    let e = report_pinned list ordered corners missing (reported_of a) (reported_of b) ordered' ordered'' corners' corners'' missing' missing'' h g in
    (reported_told a b e.0, e.1, e.2, e.3)
