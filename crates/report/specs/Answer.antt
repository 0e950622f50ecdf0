-- The number and the values of each answer of Verdict and Report (document 01: "If an answer is an enum, a definition gives this paper's number
-- and values for each case."). Assumes nothing.
use Rattle.std.specs.Prelude.{List, [], ◌∷◌, ℕ, ℤ, Option, Some, None, Result, Ok, Err}
use Rattle.lattice.specs.Point.{Point, origin}
use Rattle.refusal.specs.declared.Refusal.{Refusal}
use Rattle.refusal.specs.Number.{number_of, place_of}
use Rattle.report.specs.declared.Judgement.{Judgement}
use Rattle.report.specs.declared.Findings.{Findings}
use Rattle.report.specs.declared.Judged.{Judged}
use Rattle.report.specs.declared.Reported.{Reported}
use Rattle.report.specs.Report.{no, yes, neither}

-- "S is convex (yes) exactly if it has no missing point."
abbrev pub verdict_by : Option Point → ℕ
verdict_by None = yes
verdict_by (Some p) = no

-- "An accepted Verdict or Report that says yes also shows (0, 0) there"
abbrev pub first_by : Option Point → Point
first_by None = origin
first_by (Some p) = p

-- "A declined one has its number and place, all counts 0, a third verdict that is neither yes nor no, first missing point (0, 0)."
abbrev pub judged_of : Result Judgement Refusal → Judged
judged_of (Ok j) = record {
  number = 0;
  place = 0;
  points = j.counts.points;
  corners = j.counts.corners;
  verdict = verdict_by j.first_missing;
  x = (first_by j.first_missing).x;
  y = (first_by j.first_missing).y;
}
judged_of (Err r) = record { number = number_of r; place = place_of r; points = 0; corners = 0; verdict = neither; x = origin.x; y = origin.y }

abbrev pub reported_of : Result Findings Refusal → Reported
reported_of (Ok f) = record {
  number = 0;
  place = 0;
  points = f.counts.points;
  corners = f.counts.corners;
  missing = f.missing;
  verdict = verdict_by f.first_missing;
  x = (first_by f.first_missing).x;
  y = (first_by f.first_missing).y;
}
reported_of (Err r) =
    record { number = number_of r; place = place_of r; points = 0; corners = 0; missing = 0; verdict = neither; x = origin.x; y = origin.y }

-- the first point of a list of numbers
abbrev pub first_in : List ℤ → Option Point
first_in [] = None
first_in (a ∷ []) = None
first_in (a ∷ b ∷ rest) = Some (record { x = a; y = b })
