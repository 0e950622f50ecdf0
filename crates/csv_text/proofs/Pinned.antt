-- Any two outcomes that `write` and `refused` allow coincide, and a text that fits stands whole at the front of the room. Assumes nothing.
use mathlib.Core.Path.{◌≡◌, sym, ◌∙◌}
use mathlib.Core.List.{List, ◌++◌}
use Prim.Native.Nat.{ℕ, ◌≤◌}
use borrow.Author.Tests.{le-leb}
use lib.ListN.{length, drop}
use Rattle.csv_text.specs.Written.{fitted, WritePromise}
use Rattle.csv_text.proofs.Promised.{written_whole}

pub write_pinned : (text out : List ℕ) (answer other : ℕ) (after later : List ℕ)
    → WritePromise text out answer after → WritePromise text out other later → (answer ≡ other) × (after ≡ later)
write_pinned text out answer other after later h g = (h.answers ∙ sym g.answers, h.stands ∙ sym g.stands)

pub text_stands : (text out : List ℕ) (answer : ℕ) (after : List ℕ) → WritePromise text out answer after → length text ≤ length out
    → (answer ≡ length text) × (after ≡ text ++ drop (length text) out)
text_stands text out answer after h fits =
    let e : fitted text out ≡ length text = rw (le-leb (length text) (length out) fits) in
    (h.answers ∙ e, h.stands ∙ written_whole text out fits)
