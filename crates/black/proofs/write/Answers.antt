-- A turn of the loop passes one pixel, and writes it if it is black; behind a white one it passes others. Assumes nothing.
use Rattle.std.proofs.Common.{◌<◌, ◌^◌, drop, ◌∙◌, arith}
use Rattle.std.proofs.Math.Nat.{div-le_self}
use Rattle.netpbm.proofs.Writing.{writing_black, writing_length, writing_ends, room_left}
use Rattle.plain.proofs.Plain.{none_left}
use Rattle.black.proofs.Rows.{begun_later, begun_next, column, fetched, found_so, passed}
use Rattle.black.proofs.write.Goals as goal

pub unwrap-black-requires : goal.unwrap-black-requires
unwrap-black-requires c = found_so _ _ c.loop-k.invariant.same _ _ _ _ _ _ _ _ _ c.loop-k.invariant.writing c.loop-k-test.true c.next.result c.next.ensures.fetches

pub put-requires : goal.put-requires
put-requires c =
    let l = c.loop-k in
    let w = l.invariant.writing in
    let found = fetched _ _ l.invariant.same _ _ _ _ _ c.unwrap-black.ensures c.if-black.true c.next.ensures.fetches in
    let room = room_left _ _ _ _ _ _ _ _ _ w c.loop-k-test.true c.next.new.self.at found c.requires.few in
    let long = writing_length _ _ _ _ _ _ _ _ _ w c.requires.few c.requires.room in
    let small : l.k < 2 ^ 31 = omega (arith, c.requires.small, c.loop-k-test.true) in
    omega (arith, room, long, c.requires.room, small, c.of-row.ensures.y, div-le_self l.k c.args.width)

pub loop-k-preserved-then-black : goal.loop-k-preserved-then-black
loop-k-preserved-then-black c =
    let l = c.loop-k in
    let w = l.invariant.writing in
    let found = fetched _ _ l.invariant.same _ _ _ _ _ c.unwrap-black.ensures c.if-black.true c.next.ensures.fetches in
    let room = room_left _ _ _ _ _ _ _ _ _ w c.loop-k-test.true c.next.new.self.at found c.requires.few in
    record {
      same = c.next.ensures.same ∙ l.invariant.same;
      writing =
          writing_black _ _ _ _ _ _ _ _ _ w c.loop-k-test.true c.next.new.self.at found c.requires.few
          (omega (arith, room, c.requires.room)) _ _ (column _ _ _ c.of-row.ensures) c.of-row.ensures.y _ c.put.ensures;
      begun = begun_next _ _ _ c.of-row.ensures;
    }

pub overflow_add-k-else-black-2 : goal.overflow_add-k-else-black-2
overflow_add-k-else-black-2 c =
    let l = c.loop-k in
    let found = fetched _ _ l.invariant.same _ _ _ _ _ c.unwrap-black.ensures c.if-black.false c.next.ensures.fetches in
    let w = passed _ _ (c.next.ensures.same ∙ l.invariant.same) _ _ _ _ _ _ _ _ c.next.new.self.at _ _ l.invariant.writing c.loop-k-test.true found c.pass_white-k.ensures.passes in
    record { fits = omega (arith, w.upto, c.requires.small) }

pub loop-k-preserved : goal.loop-k-preserved
loop-k-preserved c =
    let l = c.loop-k in
    let found = fetched _ _ l.invariant.same _ _ _ _ _ c.unwrap-black.ensures c.if-black.false c.next.ensures.fetches in
    record {
      same = c.pass_white-k.ensures.same ∙ c.next.ensures.same ∙ l.invariant.same;
      writing = passed _ _ (c.next.ensures.same ∙ l.invariant.same) _ _ _ _ _ _ _ _ c.next.new.self.at _ _ l.invariant.writing c.loop-k-test.true found c.pass_white-k.ensures.passes;
      begun = begun_later _ _ _ l.invariant.begun _ (omega arith);
    }

pub returns : goal.returns
returns c =
    let l = c.loop-k in
    writing_ends _ _ _ _ _ _ _ _ _ l.invariant.writing c.loop-k-test.false (none_left (drop l.scan.pixels.at c.args.bytes.now) l.scan.pixels.at)
