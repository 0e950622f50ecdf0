-- `plain::Pixels::pass_parts`: the parts that are passed are counted; what is left of the file falls. Assumes nothing.
use Rattle.std.proofs.Common.{◌≡◌, ◌-◌, length}
use Rattle.plain.specs.Plain.{plain_at}
use Rattle.plain.specs.Steps.{Leaves}
use Rattle.plain.proofs.Pixels.pass_parts.Given as goal

abbrev pub invariant-loop-part : goal.invariant-loop-part
invariant-loop-part l = record {
  same : l.self.bytes.now ≡ l.fn.self.bytes.now;
  leaves : Leaves (plain_at l.fn.self.bytes.now) l.fn.self.at l.pixels l.black l.left l.self.at;
}

abbrev pub decreases-loop-part : goal.decreases-loop-part
decreases-loop-part l = length l.self.bytes.now - l.self.at
