-- `put_in` calls itself for the digits but the last, a lesser number.
use Rattle.csv_text.proofs.text.UsizeDecimal.+put_in.Given as goal

abbrev pub decreases-put_in : goal.decreases-put_in
decreases-put_in l = l.self
