-- `put_in` meets its contract: the last digit behind the others. Assumes nothing.
use Rattle.std.proofs.Common.{sym, subst}
use Rattle.csv_text.specs.Written.{Cut, Puts}
use Rattle.csv_text.proofs.Putting.{puts_append, cut_append, puts_failed}
use Rattle.csv_text.proofs.Numbers.{natural_one, natural_more}
use Rattle.csv_text.proofs.text.UsizeDecimal.+put_in.Goals as goal

pub returns-then-self-lt10 : goal.returns-then-self-lt10
returns-then-self-lt10 t c =
    subst (λ digits. Puts c.args.text.now digits c.put.result c.put.new.self) (sym (natural_one c.args.self c.if-self-lt10.true)) c.put.ensures

pub returns-in_err-put_in : goal.returns-in_err-put_in
returns-in_err-put_in t c =
    puts_failed c.from_residual.result c.from_residual.ensures.0
    (subst (λ digits. Cut c.args.text.now digits c.put_in.new.text) (sym (natural_more c.args.self c.if-self-lt10.false))
    (cut_append _ c.in_err-put_in.ensures))

pub returns-in_ok-put_in : goal.returns-in_ok-put_in
returns-in_ok-put_in t c =
    subst (λ digits. Puts c.args.text.now digits c.put-else-self-lt10.result c.put-else-self-lt10.new.self)
    (sym (natural_more c.args.self c.if-self-lt10.false))
    (puts_append c.in_ok-put_in.ensures _ _ _ c.put-else-self-lt10.ensures)
