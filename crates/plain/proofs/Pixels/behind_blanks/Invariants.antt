-- `plain::Pixels::behind_blanks`: white space is ignored up to the place; what is left of the file falls. Assumes nothing.
use Rattle.std.proofs.Common.{◌-◌, length}
use Rattle.plain.proofs.Plain.{Ignoring}
use Rattle.plain.proofs.Pixels.behind_blanks.Given as goal

abbrev pub invariant-loop-at : goal.invariant-loop-at
invariant-loop-at l = Ignoring l.self.bytes.now l.self.at l.at

abbrev pub decreases-loop-at : goal.decreases-loop-at
decreases-loop-at l = length l.self.bytes.now - l.at
