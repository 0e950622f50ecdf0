-- Both edges one row further, where both go on. Assumes nothing.
use Rattle.packed.proofs.Tests.{tells_yes}
use Rattle.stretch.proofs.Following.{both_small, both_on}
use Rattle.stretch.proofs.Crossing.advance.Goals as goal

pub step-requires : goal.step-requires
step-requires c = both_small c.requires.0 _ c.requires.1 (tells_yes c.if-goes_on.true c.goes_on.ensures)

pub returns-then-goes_on : goal.returns-then-goes_on
returns-then-goes_on c = λ _. both_on c.requires.0 _ c.requires.1 (tells_yes c.if-goes_on.true c.goes_on.ensures) _ c.step.ensures
