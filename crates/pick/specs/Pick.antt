-- Pick's formula, doubled, over a corner list: twice the area by the edges, the border by the steps of the edges (document 02, wish 9; source
-- document 004, section 2.2). Assumes nothing; proofs/Pick.antt proves that it counts the lattice points of the hull.
use Rattle.std.specs.Prelude.{List, [], ◌∷◌, ℕ, zero, suc, ◌%◌, ℤ, pos, nat_abs, ◌+ℤ◌, ◌*ℤ◌, ◌-ℤ◌}
use Rattle.lattice.specs.Point.{Point}

-- "which requires the computation of a greatest common divisor" (004): by Euclid's steps, at most `steps` of them
abbrev pub euclid : ℕ → ℕ → ℕ → ℕ
euclid zero a b = a
euclid (suc steps) a zero = a
euclid (suc steps) a (suc b) = euclid steps (suc b) (a % suc b)

abbrev pub divisor : ℕ → ℕ → ℕ
divisor a b = euclid (suc b) a b

-- into how many steps from lattice point to lattice point an edge falls
unfoldable pub span : Point → Point → ℤ
span a b = pos (divisor (nat_abs (b.x -ℤ a.x)) (nat_abs (b.y -ℤ a.y)))

-- twice the area between an edge and the origin
abbrev pub cross : Point → Point → ℤ
cross a b = a.x *ℤ b.y -ℤ b.x *ℤ a.y

-- the sum over the edges from a through l, and over the closing one back to the first corner
abbrev pub around : (Point → Point → ℤ) → Point → Point → List Point → ℤ
around f first a [] = f a first
around f first a (b ∷ l) = f a b +ℤ around f first b l

-- "the computation of the area of conv(S)" (004): twice the area
abbrev pub area : List Point → ℤ
area [] = pos 0
area (a ∷ l) = around cross a a l

-- "and of the number of lattice points lying on its boundary" (004): each edge has as many as steps, its end left out; two corners are counted along both ways of their one edge
abbrev pub border : List Point → ℤ
border [] = pos 0
border (a ∷ l) = around span a a l

-- "by the area and boundary count of Pick's formula": twice the number of lattice points, "grains of no, one and two corners included"
abbrev pub twice_count : List Point → ℤ
twice_count [] = pos 0
twice_count (a ∷ []) = pos 2
twice_count (a ∷ b ∷ l) = area (a ∷ b ∷ l) +ℤ border (a ∷ b ∷ l) +ℤ pos 2
