-- Rooms: what stands in a lent list of numbers afterwards (document 01, "Lists, room and what stands in them afterwards"). Assumes nothing.
use Rattle.std.specs.Prelude.{List, [], ◌∷◌, ◌++◌, ℕ, ◌*◌, ◌/◌, ◌<◌, length, drop, ℤ}
use Rattle.lattice.specs.Point.{Point}

-- "A list holds x, y, x, y and so on."
abbrev pub numbers : List Point → List ℤ
numbers [] = []
numbers (p ∷ l) = p.x ∷ p.y ∷ numbers l

-- "After an accepted call each room begins with its result and the rest of it reads as before."
abbrev pub holding : List Point → List ℤ → List ℤ
holding l room = numbers l ++ drop (2 * length l) room

-- "Room counts whole pairs"; "too small" means fewer pairs than the exact result
abbrev pub TooSmall : List ℤ → ℕ → Type 0
TooSmall room n = length room / 2 < n
