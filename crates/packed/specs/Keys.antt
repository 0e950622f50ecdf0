-- Points in row order as the code holds them: packed, rising. Assumes nothing.
use Rattle.std.specs.Prelude.{List, map, ℕ, ◌<◌, length, get_or}
use Rattle.lattice.specs.Point.{Point, Lists}
use Rattle.lattice.specs.Hull.{Of}
use Rattle.packed.specs.Packed.{cells, unpacked}

-- each is a packed point
abbrev pub Below : List ℕ → Type 0
Below keys = (i : ℕ) → i < length keys → get_or keys i 0 < cells

-- the packed points of s, in row order
pub record KeysOf (s : List Point) (keys : List ℕ) : Type 0 where
  pub below : Below keys
  pub lists : Lists (Of s) (map unpacked keys)
