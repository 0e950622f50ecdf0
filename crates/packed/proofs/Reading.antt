-- A point of a list of numbers as the machine reads it: two signed numbers, read back from their bits. Assumes nothing.
use mathlib.Core.Path.{◌≡◌, sym, ◌∙◌, ap}
use mathlib.Core.List.{List}
use Prim.Native.Nat.{ℕ, ◌+◌, ◌*◌, ◌<◌}
use lib.ListN.{length, get_or}
use lib.IntN.{ℤ, pos}
use mir.Syntax.{w32}
use mir.Val.{SFits, to_z, of_z}
use Rattle.lattice.specs.Point.{Point, points, point}
use Rattle.lattice.proofs.HalfPlane.{point_equal}
use Rattle.lattice.proofs.Numbers.{points_at}
use Rattle.packed.proofs.Tests.{read_back}

-- the two numbers of the point at place i
abbrev pub column_read : List ℤ → ℕ → ℤ
column_read list i = get_or list (2 * i) (pos 0)

abbrev pub row_at : List ℤ → ℕ → ℤ
row_at list i = get_or list (2 * i + 1) (pos 0)

abbrev pub read_at : List ℤ → ℕ → Point
read_at list i = record { x = to_z w32 (of_z w32 (column_read list i)); y = to_z w32 (of_z w32 (row_at list i)) }

pub read_point : (list : List ℤ) (i : ℕ) → SFits w32 (column_read list i) → SFits w32 (row_at list i)
    → i < length (points list) → read_at list i ≡ point (points list) i
read_point list i f g h =
    point_equal (read_back (column_read list i) f) (read_back (row_at list i) g) ∙ sym (points_at list i h)

pub read_column : (list : List ℤ) (i : ℕ) → SFits w32 (column_read list i) → i < length (points list)
    → to_z w32 (of_z w32 (column_read list i)) ≡ (point (points list) i).x
read_column list i g h = read_back (column_read list i) g ∙ ap (λ p. p.x) (sym (points_at list i h))

pub read_row : (list : List ℤ) (i : ℕ) → SFits w32 (row_at list i) → i < length (points list)
    → to_z w32 (of_z w32 (row_at list i)) ≡ (point (points list) i).y
read_row list i g h = read_back (row_at list i) g ∙ ap (λ p. p.y) (sym (points_at list i h))
