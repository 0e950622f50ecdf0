-- `plain::Tally::of`: the bytes before the next are tallied. Assumes nothing.
use Rattle.std.proofs.Common.{◌≡◌, ◌≤◌, take}
use Rattle.plain.specs.Steps.{black_byte, white_byte, bad_byte, number}
use Rattle.plain.proofs.Tally.of.Given as goal

abbrev pub invariant-loop-b : goal.invariant-loop-b
invariant-loop-b l = record {
  black : l.black ≡ number black_byte (take l.b-index l.part);
  white : l.white ≡ number white_byte (take l.b-index l.part);
  bad : l.bad ≡ number bad_byte (take l.b-index l.part);
  few : (l.black ≤ l.b-index) × (l.white ≤ l.b-index) × (l.bad ≤ l.b-index);
}
