-- The arrays of two numbers are the missing points, which are in row order. Assumes nothing.
use Rattle.std.proofs.Common.{pos, get_or, rules}
use Rattle.std.proofs.lemmas.List.Sorted.{answers_always}
use Rattle.packed.proofs.Tests.{read_back}
use Rattle.missing.proofs.Chunked.{searched_tells}
use Rattle.missing.proofs.is_missing.Goals as goal

pub returns : goal.returns
returns c =
    searched_tells c.args.missing.now c.requires (record { x = c.args.x; y = c.args.y }) c.binary_search_by_key.result c.as_chunks.result.0.now c.as_chunks.ensures.front _ _
    (read_back c.args.x c.ranges.x) (read_back c.args.y c.ranges.y) c.binary_search_by_key.ensures.bound
    (c.binary_search_by_key.ensures.position (λ a. (get_or a 1 (pos 0), get_or a 0 (pos 0))) (answers_always _ _ _ (λ f a r g called. search rules)))
    c.is_ok.result c.is_ok.ensures.value
