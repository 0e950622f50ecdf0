-- A turn of the loop reads one digit more. Assumes nothing.
use Rattle.std.proofs.Common.{◌<◌, get_or, length, length-drop, arith, ap, sym, ◌∙◌}
use Rattle.std.proofs.lemmas.List.{take_rest}
use Rattle.std.proofs.lemmas.Bool.{MatchBool-at_true, MatchBool-at_false}
use Rattle.header.specs.Bytes.{digit, placed_at_read}
use Rattle.header.proofs.Sizes.{sizing_more, sizing_ends, no_digit_read, byte_behind}
use Rattle.header.proofs.Tests.{no_digit}
use Rattle.header.proofs.Reader.digits.Goals as goal

pub loop-b-preserved : goal.loop-b-preserved
loop-b-preserved c =
    let s = c.args.self.now in
    let l = c.loop-b in
    let b = byte_behind s.bytes.now s.at l.b-index ∙ ap (λ i. get_or s.bytes.now i 0) (sym l.invariant.place) in
    let read = MatchBool-at_true _ _ c.if-not-is_ascii_digit.false c.is_ascii_digit.ensures.cases in
    let inside : l.self.at < length s.bytes.now = omega (arith, length-drop s.at s.bytes.now, ap length (take_rest s.bytes.now s.at)) in
    record {
      same = l.invariant.same;
      place = omega (arith, l.invariant.place);
      sizing =
          sizing_more s.bytes.now s.at l.size l.self.at l.invariant.sizing inside
          (omega (arith, b, read)) (omega (arith, b, read)) c.min-size.result (omega (arith, b, c.min-size.ensures));
    }

pub returns-then-not-is_ascii_digit : goal.returns-then-not-is_ascii_digit
returns-then-not-is_ascii_digit c =
    let s = c.args.self.now in
    let l = c.loop-b in
    let b = byte_behind s.bytes.now s.at l.b-index ∙ ap (λ i. get_or s.bytes.now i 0) (sym l.invariant.place) in
    let other = MatchBool-at_false _ _ c.if-not-is_ascii_digit.true c.is_ascii_digit.ensures.cases in
    let inside : l.self.at < length s.bytes.now = omega (arith, length-drop s.at s.bytes.now, ap length (take_rest s.bytes.now s.at)) in
    let sized = sizing_ends _ _ _ _ l.invariant.sizing (no_digit_read s.bytes.now l.self.at inside (ap digit (sym b) ∙ no_digit _ other)) in
    record {
      same = l.invariant.same;
      value = sized.0;
      reads = sized.1 ∙ ap (λ b. placed_at_read b l.self.at) (sym l.invariant.same);
    }
