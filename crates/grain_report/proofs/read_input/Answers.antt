-- A read fills the part behind the bytes that stand, and consumes what it puts there. Assumes nothing.
use Rattle.std.proofs.Common.{◌≡◌, ℕ, ◌+◌, ◌-◌, ◌≤◌, List, ◌++◌, length, take, drop, sym, ap, ◌∙◌, subst, rules, le_refl, drop_at, length-take-le}
use Rattle.std.proofs.lemmas.Slice.{take-put_mid_below}
use Rattle.std.specs.Io.KnownBytes.{Consumes}
use Rattle.std.proofs.KnownBytes.{Consumes-trans}
use borrow.Rule.Slice.PartMut.{put_mid, post_of}
use lib.Seq.{take-add, take-append-le}
use Rattle.grain_report.proofs.read_input.Goals as goal

take_filled : (a k n : ℕ) (xs ys : List ℕ) → a ≤ length xs → n ≤ length ys → take (a + n) (put_mid a k xs ys) ≡ take a xs ++ take n ys
take_filled a k n xs ys h g =
    let after = post_of a k xs in
    take-add a n (put_mid a k xs ys)
    ∙ ap (λ l. l ++ take n (drop a (put_mid a k xs ys))) (take-put_mid_below a k xs ys a (le_refl a) h)
    ∙ ap (λ l. take a xs ++ take n l) (drop_at (take a xs) (ys ++ after) a (length-take-le a xs h))
    ∙ ap (λ l. take a xs ++ l) (take-append-le n ys after g)

pub loop-count-preserved : goal.loop-count-preserved
loop-count-preserved g c =
    let from = c.loop-count.count in
    let read = c.in_ok-more.ensures in
    let within = c.loop-count.invariant.0 in (
      search rules,
      subst (Consumes _ _) (sym (take_filled from (length c.loop-count.buffer - from) c.in_ok-more.more c.loop-count.buffer c.read.new.buf within read.bound.0))
          (Consumes-trans _ _ _ _ _ c.loop-count.invariant.1 read.bytes.0),
    )
