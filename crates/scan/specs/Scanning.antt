-- Points in row order scanned to the corners of their hull: a stack of packed points in an array, once up the rows, once down again.
-- Assumes nothing.
use Rattle.std.specs.Prelude.{◌≡◌, List, map, ℕ, suc, ◌+◌, ◌-◌, ◌*◌, ◌/◌, ◌≤◌, ◌<◌, length, get_or, take, pos, ◌≤ℤ◌, ◌<ℤ◌}
use Rattle.lattice.specs.Point.{Point}
use Rattle.lattice.specs.Hull.{turn, Of, CornerList}
use Rattle.lattice.proofs.RowKey.{range_width}
use Rattle.lattice.proofs.Stack.{stack as stack_of}
use Rattle.lattice.proofs.BothChains.{Upward}
use Rattle.packed.specs.Packed.{side, cells, unpacked}
use Rattle.packed.specs.Keys.{Below}

-- the point at a place of the array
abbrev pub at : List ℕ → ℕ → Point
at stack i = unpacked (get_or stack i 0)

-- ---- one point pushed
-- a stack from base to below top, and a point to be pushed on it
pub record Pushable (stack : List ℕ) (base top k : ℕ) : Type 0 where
  pub some : base < top
  pub room : top < length stack
  pub below : (i : ℕ) → i < top → get_or stack i 0 < cells
  pub new : k < cells

-- all above `last` is popped, since it does not turn left to k any more, and k stands on it
pub record Pushed (stack₀ : List ℕ) (base top k : ℕ) (stack : List ℕ) (r : ℕ) : Type 0 where
  pub last : ℕ
  pub result : r ≡ last + 2
  pub from : base ≤ last
  pub under : last < top
  pub popped : (i : ℕ) → last ≤ i → suc i < top → turn (at stack₀ i) (at stack₀ (suc i)) (unpacked k) ≤ℤ pos 0
  pub stops : (i : ℕ) → base ≤ i → suc i ≡ last → pos 0 <ℤ turn (at stack₀ i) (at stack₀ last) (unpacked k)
  pub kept : (i : ℕ) → i ≤ last → get_or stack i 0 ≡ get_or stack₀ i 0
  pub here : get_or stack (suc last) 0 ≡ k

-- ---- the points that are pushed
-- packed points that rise: points in row order
pub record Rising (keys : List ℕ) : Type 0 where
  pub below : Below keys
  pub rises : (i j : ℕ) → i < j → j < length keys → get_or keys i 0 < get_or keys j 0

-- the last, the first point of its row
abbrev pub EndsRow : List ℕ → ℕ → Type 0
EndsRow keys i = suc i < length keys → get_or keys i 0 / side ≡ get_or keys (suc i) 0 / side → ⊥

abbrev pub StartsRow : List ℕ → ℕ → Type 0
StartsRow keys i = (j : ℕ) → suc j ≡ i → get_or keys j 0 / side ≡ get_or keys i 0 / side → ⊥

-- the points from begin to below end are in one row; the row ends there; the row begins there
pub record RowTo (keys : List ℕ) (begin end : ℕ) : Type 0 where
  pub some : begin < end
  pub upto : end ≤ length keys
  pub same : (j : ℕ) → begin ≤ j → suc j < end → get_or keys j 0 / side ≡ get_or keys (suc j) 0 / side
  pub ends : (j : ℕ) → suc j ≡ end → EndsRow keys j

pub record RowFrom (keys : List ℕ) (begin end : ℕ) : Type 0 where
  pub some : begin < end
  pub same : (j : ℕ) → begin ≤ j → suc j < end → get_or keys j 0 / side ≡ get_or keys (suc j) 0 / side
  pub starts : StartsRow keys begin

-- points to be scanned: two or more, and an array with two places for each
pub record Scannable (keys stack : List ℕ) : Type 0 where
  pub rising : Rising keys
  pub some : 1 < length keys
  pub room : 2 * length keys ≤ length stack

-- the way up stands from place 0 to place top: all points are on its left, it starts at the first and ends at the last of them
pub record Climbed (keys stack : List ℕ) (top : ℕ) : Type 0 where
  pub height : ℕ
  pub tops : top ≡ suc height
  pub few : top < length keys
  pub below : (i : ℕ) → i ≤ top → get_or stack i 0 < cells
  pub starts : at stack 0 ≡ at keys 0
  pub ends : at stack (suc height) ≡ at keys (length keys - 1)
  pub chain : Upward (pos range_width) (Of (map unpacked keys)) (at stack (suc height)) (stack_of (at stack) (suc height))

-- the first r places are the corner list
pub record Cornered (keys stack : List ℕ) (r : ℕ) : Type 0 where
  pub few : r ≤ length stack
  pub below : Below (take r stack)
  pub corners : CornerList (map unpacked keys) (map unpacked (take r stack))
