-- A point of the range as one natural number, so that row order is the order of numbers: how the code holds points. Assumes nothing.
use Rattle.std.specs.Prelude.{Bool, true, false, ℕ, ◌+◌, ◌*◌, ◌/◌, ◌%◌, ℤ, pos, neg_ℤ, nat_abs, ◌+ℤ◌, ◌-ℤ◌, ◌≤ℤ◌}
use Rattle.lattice.specs.Point.{Point}

-- 8,192, by which a coordinate is moved to start at 0; 16,384, how many values a coordinate has; 2^28, how many points the range has
abbrev pub offset : ℕ
offset = 8192

abbrev pub side : ℕ
side = 16384

abbrev pub cells : ℕ
cells = 268435456

-- a coordinate moved to start at 0, and back
abbrev pub moved : ℤ → ℕ
moved z = nat_abs (z +ℤ pos offset)

abbrev pub placed : ℕ → ℤ
placed n = pos n -ℤ pos offset

abbrev pub packed : Point → ℕ
packed p = side * moved p.y + moved p.x

abbrev pub unpacked : ℕ → Point
unpacked k = record { x = placed (k % side); y = placed (k / side) }

-- at most k by magnitude
pub record Within (k : ℕ) (z : ℤ) : Type 0 where
  pub low : neg_ℤ (pos k) ≤ℤ z
  pub high : z ≤ℤ pos k

-- a test says whether P holds
abbrev pub Tells : Bool → Type 0 → Type 0
Tells true P = P
Tells false P = P → ⊥
