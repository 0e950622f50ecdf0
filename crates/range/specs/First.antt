-- The first place with a fault, as a loop finds it. Assumes nothing.
use Rattle.std.specs.Prelude.{Option, List, ℕ, ◌≤◌, ◌<◌, length, ℤ, MatchOption}
use Rattle.lattice.specs.Point.{points}
use Rattle.lattice.specs.Refusal.{AtPoint, OutOfRange}

-- the first place below n at which P holds; n if there is none
pub record FirstBelow (n : ℕ) (P : ℕ → Type 0) (r : ℕ) : Type 0 where
  pub upto : r ≤ n
  pub earlier : (j : ℕ) → j < r → P j → ⊥
  pub here : r < n → P r

-- "first such point"
abbrev pub FirstOutside : List ℤ → ℕ → Type 0
FirstOutside list = FirstBelow (length (points list)) (AtPoint OutOfRange (points list))

-- an answer that names a place below n; where there is none, what F says of a place it says of n
abbrev pub Found : (ℕ → Type 0) → ℕ → Option ℕ → Type 0
Found F n answer = MatchOption answer (F n) (λ i. (i < n) × F i)
