-- `black::write`: the pixels that are passed are written, and their row is known; the pixels that are left fall. Assumes nothing.
use Rattle.std.proofs.Common.{◌≡◌, ◌-◌}
use Rattle.netpbm.proofs.Writing.{Writing}
use Rattle.plain.specs.Plain.{plain_at}
use Rattle.black.specs.Row.{Begun}
use Rattle.black.proofs.write.Given as goal

abbrev pub invariant-loop-k : goal.invariant-loop-k
invariant-loop-k l = record {
  same : l.scan.pixels.bytes.now ≡ l.bytes;
  writing : Writing (plain_at l.bytes) l.at l.pixels l.width l.fn.list l.list l.n l.k l.scan.pixels.at;
  begun : Begun l.width l.k l.row;
}

abbrev pub decreases-loop-k : goal.decreases-loop-k
decreases-loop-k l = l.pixels - l.k
