-- `rebuild::count_result` meets its contract: the hull's lattice points less the missing points are what results. Assumes nothing.
use Rattle.std.proofs.Common.{ℕ, List, ℤ, ◌≡◌, ◌-◌, ◌/◌, length, sym, ap, arith}
use Rattle.lattice.specs.Point.{points}
use Rattle.lattice.proofs.Numbers.{points_length}
use Rattle.rebuild.proofs.Rebuilding.{missing_fewer, too_many, room_small, room_takes}
use Rattle.rebuild.proofs.count_result.Goals as goal

-- how many points result, as the code has it
same : (count : ℕ) (missing : List ℤ) → count - length (points missing) ≡ count - length missing / 2
same count missing = ap (λ n. count - n) (points_length missing)

pub overflow_sub-count : goal.overflow_sub-count
overflow_sub-count c = omega (arith, points_length c.args.missing.now, missing_fewer c.requires c.count_of.ensures)

pub returns-then-count : goal.returns-then-count
returns-then-count c = too_many c.requires c.count_of.ensures _ (omega (arith, same c.count_of.result c.args.missing.now, c.if-count.true))

pub returns-then-count-room : goal.returns-then-count-room
returns-then-count-room c =
    let e = same c.count_of.result c.args.missing.now in
    room_small c.requires c.count_of.ensures _ (omega (arith, e, c.if-count.false)) (omega (arith, e, c.if-count-room.true))

pub returns : goal.returns
returns c =
    let e = same c.count_of.result c.args.missing.now in
    room_takes c.requires c.count_of.ensures _ (omega (arith, e, c.if-count.false)) (omega (arith, e, c.if-count-room.false)) _ (sym e)
