-- The loop of `scan::Stack::push`: all above the top is popped, and nothing is written. Assumes nothing.
use Rattle.std.proofs.Common.{◌≡◌, ◌-◌, ◌<◌}
use Rattle.scan.proofs.Popping.{Popping}
use Rattle.scan.proofs.Stack.push.Given as goal

abbrev pub invariant-loop-self : goal.invariant-loop-self
invariant-loop-self l = record {
  same_points : l.self.points.ghost_name ≡ l.initial.self.points.ghost_name;
  same_base : l.self.base ≡ l.initial.self.base;
  some : l.self.base < l.self.top;
  popping : Popping l.initial.self.points.now l.initial.self.base l.initial.self.top l.k l.self.points.now (l.self.top - 1);
}

abbrev pub decreases-loop-self : goal.decreases-loop-self
decreases-loop-self l = l.self.top
