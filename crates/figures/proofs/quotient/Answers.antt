-- `figures::quotient` meets its contract: both casts are exact, and the division rounds once. Assumes nothing.
use Rattle.figures.proofs.Rounding.{read_rounds_once}
use Rattle.figures.proofs.quotient.Goals as goal

pub returns : goal.returns
returns c = read_rounds_once c.args.a c.args.b c.ranges.a c.requires.0 c.requires.1
