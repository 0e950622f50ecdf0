-- What the edge from one packed corner to another is worth in Pick's formula, in natural numbers: what it gains and what it loses. Assumes nothing.
use Rattle.std.specs.Prelude.{◌≡◌, ℕ, ◌+◌, ◌*◌, ◌/◌, ◌%◌, ◌<◌}
use Rattle.std.specs.Int.{abs_diff}
use Rattle.packed.specs.Packed.{side}
use Rattle.pick.specs.declared.Edges.{Edges}
use Rattle.pick.specs.Pick.{divisor}

-- into how many steps from lattice point to lattice point the edge falls
abbrev pub steps : ℕ → ℕ → ℕ
steps a b = divisor (abs_diff (a % side) (b % side)) (abs_diff (a / side) (b / side))

-- the steps and the product that counts for the area, less the product that counts against it
abbrev pub gain : ℕ → ℕ → ℕ
gain a b = a % side * (b / side) + steps a b

abbrev pub loss : ℕ → ℕ → ℕ
loss a b = b % side * (a / side)

-- sums to which those of an edge can be added; with those of the edge to one corner more
pub record Small (s : Edges) : Type 0 where
  pub few_gained : s.gained < 9223372036854775808
  pub few_lost : s.lost < 9223372036854775808

pub record Adds (s : Edges) (next : ℕ) (r : Edges) : Type 0 where
  pub arrives : r.corner ≡ next
  pub gains : r.gained ≡ s.gained + gain s.corner next
  pub loses : r.lost ≡ s.lost + loss s.corner next
  pub few_gained : r.gained < s.gained + 8589934592
  pub few_lost : r.lost < s.lost + 8589934592
