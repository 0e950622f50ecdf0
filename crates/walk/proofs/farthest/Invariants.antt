-- A turn doubles the step. Assumes nothing.
use Rattle.std.proofs.Common.{◌≡◌, ◌⊎◌, true, ◌<◌, ◌≤◌, ◌-◌}
use Rattle.walk.proofs.farthest.Given as goal

abbrev pub invariant-loop-step : goal.invariant-loop-step
invariant-loop-step g l = (0 < l.step) × (l.i ≤ l.last) × (l.last < l.count) × ((l.last ≡ l.i) ⊎ goal.F-post g l.passes l.last true)

abbrev pub decreases-loop-step : goal.decreases-loop-step
decreases-loop-step g l = l.count - l.i - l.step
