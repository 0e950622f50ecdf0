-- What is known of a list before its room is written: its refusal, or its points in row order. Assumes nothing.
use Rattle.std.specs.Prelude.{◌≡◌, List, ℕ, zero, suc, ◌≤◌, length, take, ℤ}
use Rattle.lattice.specs.Point.{points}
use Rattle.lattice.specs.Refusal.{accepted, Gives, list_rows}
use Rattle.packed.specs.Keys.{KeysOf}
use Rattle.order.specs.declared.Ordered.{Ordered}

-- the list's refusal, or its points in row order at the front of keys
abbrev pub FindResult : List ℤ → ℕ → ℕ → List ℕ → Type 0
FindResult list zero count keys = (count ≡ length (points list)) × (count ≤ length keys) × KeysOf (points list) (take count keys)
FindResult list (suc number) count keys = count ≡ 0

pub record Finds (list : List ℤ) (answer : Ordered) (keys : List ℕ) : Type 0 where
  pub gives : Gives (list_rows list accepted) answer.number answer.place
  pub result : FindResult list answer.number answer.points keys
