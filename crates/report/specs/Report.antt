-- What Verdict and Report promise (document 01: "Verdict: Hull, and yes or no with the first missing point." "Report: Verdict, and all
-- missing points."). Assumes nothing.
use Rattle.std.specs.Prelude.{◌≡◌, List, [], ◌∷◌, ℕ, zero, suc, length, ℤ}
use Rattle.lattice.specs.Point.{Point, origin, points}
use Rattle.lattice.specs.Hull.{MissingList}
use Rattle.lattice.specs.Grains.{first_of}
use Rattle.lattice.specs.Refusal.{Table, accepted, ◌when◌else◌, Gives, Whole}
use Rattle.lattice.specs.Room.{holding, TooSmall}
use Rattle.hull.specs.Hull.{hull_rows, HullResult}
use Rattle.report.specs.declared.Judged.{Judged}
use Rattle.report.specs.declared.Reported.{Reported}

-- no, yes, and "a third verdict that is neither yes nor no"
abbrev pub no : ℕ
no = 0

abbrev pub yes : ℕ
yes = 1

abbrev pub neither : ℕ
neither = 2

-- "S is convex (yes) exactly if it has no missing point."
abbrev pub verdict_of : List Point → ℕ
verdict_of [] = yes
verdict_of (p ∷ m) = no

-- yes or no, and the first missing point; "An accepted Verdict or Report that says yes also shows (0, 0) there"
pub record Judges (s : List Point) (verdict : ℕ) (first : Point) : Type 0 where
  pub missing : List Point
  pub listed : MissingList s missing
  pub verdict_is : verdict ≡ verdict_of missing
  pub first_is : first ≡ first_of missing

-- "A declined one has its number and place, all counts 0, a third verdict that is neither yes nor no, first missing point (0, 0)."
abbrev pub VerdictResult : List Point → ℕ → ℕ → Point → Type 0
VerdictResult s zero verdict first = Judges s verdict first
VerdictResult s (suc number) verdict first = (verdict ≡ neither) × (first ≡ origin)

-- rooms and refusals are Hull's
pub record VerdictPromise (list ordered corners : List ℤ) (answer : Judged) (ordered' corners' : List ℤ) : Type 0 where
  pub gives : Gives (hull_rows list ordered corners accepted) answer.number answer.place
  pub hull : HullResult list ordered corners answer.number answer.points answer.corners ordered' corners'
  pub verdict : VerdictResult (points list) answer.number answer.verdict (record { x = answer.x; y = answer.y })

-- the room has fewer pairs than the grain has missing points
pub record FewerThanMissing (s : List Point) (room : List ℤ) : Type 0 where
  pub missing : List Point
  pub listed : MissingList s missing
  pub small : TooSmall room (length missing)

-- 1 to 6 as for Hull, then "missing list too small"
abbrev pub report_rows : List ℤ → List ℤ → List ℤ → List ℤ → Table → Table
report_rows list ordered corners missing later =
    hull_rows list ordered corners (7 when Whole (FewerThanMissing (points list) missing) else later)

-- the room begins with the missing points, and the count is theirs; a declined call: count 0, and the room reads as before
abbrev pub MissingResult : List Point → List ℤ → ℕ → ℕ → List ℤ → Type 0
MissingResult s room zero count room' = (m : List Point) × MissingList s m × (count ≡ length m) × (room' ≡ holding m room)
MissingResult s room (suc number) count room' = (count ≡ 0) × (room' ≡ room)

pub record ReportPromise (list ordered corners missing : List ℤ) (answer : Reported) (ordered' corners' missing' : List ℤ) : Type 0 where
  pub gives : Gives (report_rows list ordered corners missing accepted) answer.number answer.place
  pub hull : HullResult list ordered corners answer.number answer.points answer.corners ordered' corners'
  pub verdict : VerdictResult (points list) answer.number answer.verdict (record { x = answer.x; y = answer.y })
  pub listed : MissingResult (points list) missing answer.number answer.missing missing'
