-- `write` meets its contract: the report, from the front of the room. Assumes nothing.
use Rattle.std.proofs.Common.{refl, rules}
use Rattle.csv_text.proofs.Promised.{promised, promised_cut}
use Rattle.csv_text.proofs.write.Goals as goal

pub returns-in-Ok : goal.returns-in-Ok
returns-in-Ok c = promised _ _ c.report.new.text refl _ (search (rules, c.in-Ok.ensures.same)) c.in-Ok.ensures

pub returns-in-Err : goal.returns-in-Err
returns-in-Err c = promised_cut _ _ c.report.new.text refl _ (search (rules, c.in-Err.ensures.same)) c.in-Err.ensures
