-- `figures::figures` meets its contract: what Hull promises, and the figures of the list. Assumes nothing.
use Rattle.std.proofs.Common.{refl}
use Rattle.refusal.proofs.Numbers.{number_some}
use Rattle.figures.proofs.Figuring.{figures_declined, summable, outlines, figures_none, figures_given}
use Rattle.figures.proofs.figures.Goals as goal

pub centroid_of-requires : goal.centroid_of-requires
centroid_of-requires c = summable c.in-Ok.ensures refl c.if-counts-eq0.false

pub solidity_of-requires : goal.solidity_of-requires
solidity_of-requires c = (summable c.in-Ok.ensures refl c.if-counts-eq0.false, outlines c.in-Ok.ensures refl)

pub returns-in-Err : goal.returns-in-Err
returns-in-Err c = rw (c.number.ensures, c.place.ensures) (figures_declined c.in-Err.ensures (number_some c.in-Err.refusal))

pub returns-in-Ok : goal.returns-in-Ok
returns-in-Ok c = figures_none c.in-Ok.ensures refl c.if-counts-eq0.true

pub returns-in-Ok-2 : goal.returns-in-Ok-2
returns-in-Ok-2 c = figures_given c.in-Ok.ensures refl c.if-counts-eq0.false c.centroid_of.ensures c.solidity_of.ensures
