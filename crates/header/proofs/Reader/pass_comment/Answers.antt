-- What is passed of a comment are the bytes before the first line end. Assumes nothing.
use Rattle.std.proofs.Common.{◌≡◌, ◌∙◌, sym, true, false, length, drop, refl, ap, arith, rules, tests, add-one, unwrap_or}
use Rattle.std.proofs.lemmas.Iterator.{YieldsList-from_slice, IsFirst-from_position, index_from_first}
use Rattle.std.proofs.lemmas.List.{take_rest}
use Rattle.header.specs.Bytes.{line_end}
use Rattle.header.proofs.Reading.{comment_length, comment_reads, comment_stops}
use Rattle.header.proofs.Reader.pass_comment.Goals as goal

pub returns : goal.returns
returns c =
    let s = c.args.self.now in
    let rest = take_rest s.bytes.now s.at in
    let first = IsFirst-from_position _ _ c.position.result (λ b. line_end b ≡ true) (λ b. line_end b ≡ false) c.position.ensures.ran (YieldsList-from_slice (drop s.at s.bytes.now) (c.iter.ensures.rest ∙ rest)) (λ x q k. search (rules, tests)) (λ x q k. search (rules, tests)) in
    let same = index_from_first comment_length (λ b. line_end b ≡ true) (λ b. line_end b ≡ false) refl (λ x xs e. rw e) (λ x xs e. rw (e, add-one)) (drop s.at s.bytes.now) c.position.result first in
    let passed = same ∙ sym (c.unwrap_or.ensures ∙ ap (λ l. unwrap_or c.position.result (length l)) rest) in
    record {
      same = refl;
      reads = comment_reads s.bytes.now s.at c.unwrap_or.result passed;
      settled = comment_stops s.bytes.now s.at c.unwrap_or.result passed;
      forward = omega arith;
    }
