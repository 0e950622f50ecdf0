-- The row of a pixel, by its number. Assumes nothing.
use Rattle.std.specs.Prelude.{◌≡◌, ℕ, ◌*◌, ◌/◌, ◌≤◌}
use Rattle.black.specs.declared.Row.{Row}

-- a row that begins no later than pixel k; the row of pixel k
pub record Begun (width k : ℕ) (row : Row) : Type 0 where
  pub first : row.first ≡ row.y * width
  pub before : row.first ≤ k

pub record RowOf (width k : ℕ) (row : Row) : Type 0 where
  pub y : row.y ≡ k / width
  pub first : row.first ≡ k / width * width
