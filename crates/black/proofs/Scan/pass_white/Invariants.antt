-- `black::Scan::pass_white`: the parts that are passed are white; what is left of the file falls. Assumes nothing.
use Rattle.std.proofs.Common.{◌≡◌, ◌+◌, ◌-◌, ◌≤◌, length}
use Rattle.netpbm.specs.Steps.{Passes}
use Rattle.plain.specs.Plain.{plain_at}
use Rattle.black.proofs.Scan.pass_white.Given as goal

abbrev pub invariant-loop-part : goal.invariant-loop-part
invariant-loop-part l = record {
  same : l.self.pixels.bytes.now ≡ l.fn.self.pixels.bytes.now;
  passes : Passes (plain_at l.fn.self.pixels.bytes.now) l.fn.self.pixels.at l.white l.self.pixels.at;
  few : l.white + l.fn.self.pixels.at ≤ l.self.pixels.at;
}

abbrev pub decreases-loop-part : goal.decreases-loop-part
decreases-loop-part l = length l.self.pixels.bytes.now - l.self.pixels.at
