-- What is found in a turn, and behind the last pixel, is that of the definition. Assumes nothing.
use Rattle.std.proofs.Common.{◌∙◌, ap, sym, subst, Err}
use Rattle.std.proofs.lemmas.Result.{err_from_is_err_and}
use Rattle.netpbm.proofs.Counting.{counting_fault, counting_ends}
use Rattle.plain.specs.Plain.{plain_at}
use Rattle.plain.specs.Steps.{Fetches}
use Rattle.plain.proofs.Plain.{left_over}
use Rattle.plain.proofs.Pixels.count_each.Goals as goal

pub returns-in_err-next : goal.returns-in_err-next
returns-in_err-next c =
    let l = c.loop in
    let p = err_from_is_err_and c.from_residual.result c.from_residual.ensures.1 in
    let fetched = subst (λ b. Fetches (plain_at b) l.self.at (Err c.in_err-next.field-0.0) c.next.new.self.at) l.invariant.same c.in_err-next.ensures.fetches in
    rw (p.1, p.2) (counting_fault _ _ _ _ _ _ _ l.invariant.counting c.loop-test.true _ fetched)

pub returns-then-end-self : goal.returns-then-end-self
returns-then-end-self c =
    let l = c.loop in
    let bytes = l.self.bytes.now in
    let blanks = c.behind_blanks-end.ensures in
    let same = ap (λ b. plain_at b 0 l.self.at) l.invariant.same in
    counting_ends _ _ _ _ _ _ _ l.invariant.counting c.loop-test.false _
    (sym same ∙ blanks.same 0 ∙ left_over bytes _ c.if-end-self.true (blanks.stops c.if-end-self.true))
