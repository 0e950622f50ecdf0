-- When a corner follows those before it, from the third on. Assumes nothing.
use Rattle.std.specs.Prelude.{ℕ, ◌<◌, pos, ◌<ℤ◌}
use Rattle.lattice.specs.Hull.{turn}
use Rattle.packed.specs.Packed.{unpacked}

-- it comes after the first in row order, and is on the left of the one before it as the first corner sees them, and as the last but one does
pub record Follows (first earlier before corner : ℕ) : Type 0 where
  pub after : first < corner
  pub seen : pos 0 <ℤ turn (unpacked first) (unpacked before) (unpacked corner)
  pub bends : pos 0 <ℤ turn (unpacked earlier) (unpacked before) (unpacked corner)
