-- `header::Reader::skip`: white space is skipped up to where the reader is; what is left of the file falls. Assumes nothing.
use Rattle.std.proofs.Common.{◌-◌, length}
use Rattle.header.proofs.Parts.{Skipping}
use Rattle.header.proofs.Reader.skip.Given as goal

abbrev pub invariant-loop-self : goal.invariant-loop-self
invariant-loop-self l = Skipping l.fn.self l.self

abbrev pub decreases-loop-self : goal.decreases-loop-self
decreases-loop-self l = length l.initial.self.bytes.now - l.self.at
