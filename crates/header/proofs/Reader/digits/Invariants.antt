-- `header::Reader::digits`: the digits up to where the reader is make the size. Assumes nothing.
use Rattle.std.proofs.Common.{◌≡◌, ◌+◌}
use Rattle.header.proofs.Sizes.{Sizing}
use Rattle.header.proofs.Reader.digits.Given as goal

abbrev pub invariant-loop-b : goal.invariant-loop-b
invariant-loop-b l = record {
  same : l.self.bytes.now ≡ l.fn.self.bytes.now;
  place : l.self.at ≡ l.fn.self.at + l.b-index;
  sizing : Sizing l.fn.self.bytes.now l.fn.self.at l.size l.self.at;
}
