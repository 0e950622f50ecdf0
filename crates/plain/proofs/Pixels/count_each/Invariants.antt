-- `plain::Pixels::count_each`: the pixels that are passed are counted. Assumes nothing.
use Rattle.std.proofs.Common.{◌≡◌}
use Rattle.netpbm.proofs.Counting.{Counting}
use Rattle.plain.specs.Plain.{plain_at}
use Rattle.plain.proofs.Pixels.count_each.Given as goal

abbrev pub invariant-loop : goal.invariant-loop
invariant-loop l = record {
  same : l.self.bytes.now ≡ l.fn.self.bytes.now;
  counting : Counting (plain_at l.fn.self.bytes.now) l.fn.self.at l.pixels l.before l.black l.counter l.self.at;
}
