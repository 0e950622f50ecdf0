-- `put_in` meets its contract: a minus sign before a number below 0. Assumes nothing.
use Rattle.std.proofs.Common.{◌≡◌, sym, ◌∙◌, ap, subst, nat_abs}
use Rattle.csv_text.specs.Written.{Cut, Puts}
use Rattle.csv_text.specs.Text.{natural}
use Rattle.csv_text.proofs.Putting.{puts_append, cut_append, puts_failed}
use Rattle.csv_text.proofs.Signs.{back, tested, whole_below, whole_other}
use Rattle.csv_text.proofs.text.I32Decimal.put_in.Goals as goal
use Rattle.csv_text.proofs.text.I32Decimal.put_in.Goals.{then-self-lt0+in_ok-put, else-self-lt0}

pub returns-in_err-put : goal.returns-in_err-put
returns-in_err-put c =
    puts_failed c.from_residual.result c.from_residual.ensures.0
    (subst (λ text. Cut c.args.text.now text c.put.new.self) (sym (whole_below c.args.self (tested c.args.self c.ranges.self c.if-self-lt0.true)))
    (cut_append _ c.in_err-put.ensures))

pub returns : goal.returns
returns c =
    let z = c.args.self in
    let magnitude : c.unsigned_abs.result ≡ nat_abs z = c.unsigned_abs.ensures.value ∙ ap nat_abs (back z c.ranges.self) in
    let put = subst (λ n. Puts c.if-self-lt0.text (natural n) c.put_in.result c.put_in.new.text) magnitude c.put_in.ensures in
    elim c.if-self-lt0.branch [
      | then-self-lt0+in_ok-put w ↦
          subst (λ text. Puts c.args.text.now text c.put_in.result c.put_in.new.text) (sym (whole_below z (tested z c.ranges.self w.if-self-lt0.true)))
          (puts_append w.in_ok-put.ensures _ _ _ (subst (λ text. Puts text (natural (nat_abs z)) c.put_in.result c.put_in.new.text) w.text-is put))
      | else-self-lt0 w ↦
          subst (λ text. Puts c.args.text.now text c.put_in.result c.put_in.new.text) (sym (whole_other z (tested z c.ranges.self w.if-self-lt0.false)))
          (subst (λ text. Puts text (natural (nat_abs z)) c.put_in.result c.put_in.new.text) w.text-is put)
    ]
