-- A turn of the loop tallies one byte more. Assumes nothing.
use Rattle.std.proofs.Common.{◌<◌, length, get_or, ap, arith}
use mir.Val.{bool_byte}
use Rattle.plain.specs.Steps.{black_byte, white_byte, bad_byte}
use Rattle.plain.proofs.Tallies.{bool_byte_few, number_next}
use Rattle.plain.proofs.Tally.of.Goals as goal

pub loop-b-preserved : goal.loop-b-preserved
loop-b-preserved c =
    let p = c.args.part.now in
    let i = c.loop-b.b-index in
    let b = get_or p i 0 in
    let h = c.loop-b.invariant in
    let inside : i < length p = omega arith in
    record {
      black = omega (arith, h.black, number_next black_byte p i inside, c.from-black.ensures);
      white = omega (arith, h.white, number_next white_byte p i inside, c.from-white.ensures);
      bad = omega (arith, h.bad, number_next bad_byte p i inside, c.from-bad.ensures, ap bool_byte c.is_bad.ensures);
      few = (
        omega (arith, h.few, c.from-black.ensures, bool_byte_few (black_byte b)),
        omega (arith, h.few, c.from-white.ensures, bool_byte_few (white_byte b)),
        omega (arith, h.few, c.from-bad.ensures, bool_byte_few c.is_bad.result),
      );
    }
