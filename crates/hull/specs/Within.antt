-- Hull of a grain with at most so many missing points, for Report: refusals 1 to 7. And what is known of a list before a room is written.
-- Assumes nothing.
use Rattle.std.specs.Prelude.{◌≡◌, List, map, ℕ, zero, suc, ◌*◌, ◌/◌, ◌≤◌, ◌<◌, length, take, ℤ}
use Rattle.lattice.specs.Point.{Point, points, Lists}
use Rattle.lattice.specs.Hull.{CornerList, MissingList}
use Rattle.lattice.specs.Refusal.{Table, accepted, ◌when◌else◌, Gives, Whole}
use Rattle.lattice.specs.Room.{TooSmall}
use Rattle.packed.specs.Packed.{unpacked}
use Rattle.packed.specs.Keys.{Below, KeysOf}
use Rattle.packed.specs.Corners.{HullOf}
use Rattle.arrange.specs.Space.{Fits}
use Rattle.hull.specs.declared.Hulled.{Hulled}
use Rattle.hull.specs.Hull.{hull_rows, HullResult}

-- the grain has more missing points
pub record MoreMissing (s : List Point) (limit : ℕ) : Type 0 where
  pub missing : List Point
  pub listed : MissingList s missing
  pub more : limit < length missing

-- 1 to 6 as for Hull, then 7 for a missing list of so many pairs
abbrev pub within_rows : List ℤ → List ℤ → List ℤ → ℕ → Table
within_rows list ordered corners limit = hull_rows list ordered corners (7 when Whole (MoreMissing (points list) limit) else accepted)

pub record WithinPromise (list ordered corners : List ℤ) (limit : ℕ) (answer : Hulled) (ordered' corners' : List ℤ) : Type 0 where
  pub gives : Gives (within_rows list ordered corners limit) answer.number answer.place
  pub result : HullResult list ordered corners answer.number answer.points answer.corners ordered' corners'

-- ---- before a room is written
-- working space for the points of a list, and two places for each on the stack of its corners
abbrev pub HullSpace : List ℤ → List ℕ → List ℕ → Type 0
HullSpace list keys stack = Fits (length keys) list × (2 * length keys ≤ length stack)

-- the hull of packed corners has more lattice points
abbrev pub HasMore : List ℕ → ℕ → Type 0
HasMore corners n = (l : List Point) × Lists (HullOf corners) l × (n < length l)

-- n points in row order stand at the front of keys, count corners at the front of stack, and the rooms have place for them
pub record HullKeys (s : List Point) (ordered corners : List ℤ) (n count : ℕ) (keys stack : List ℕ) : Type 0 where
  pub points : n ≡ length s
  pub keys_long : n ≤ length keys
  pub keys_are : KeysOf s (take n keys)
  pub stack_long : count ≤ length stack
  pub stack_below : Below (take count stack)
  pub corner : CornerList s (map unpacked (take count stack))
  pub ordered_room : TooSmall ordered n → ⊥
  pub corner_room : TooSmall corners count → ⊥

abbrev pub FindResult : List ℤ → List ℤ → List ℤ → ℕ → ℕ → ℕ → List ℕ → List ℕ → Type 0
FindResult list ordered corners zero n count keys stack = HullKeys (points list) ordered corners n count keys stack
FindResult list ordered corners (suc number) n count keys stack = (n ≡ 0) × (count ≡ 0)

pub record FindsHull (list ordered corners : List ℤ) (limit : ℕ) (answer : Hulled) (keys stack : List ℕ) : Type 0 where
  pub gives : Gives (within_rows list ordered corners limit) answer.number answer.place
  pub result : FindResult list ordered corners answer.number answer.points answer.corners keys stack

-- the same for any two rooms of so many pairs
abbrev pub FindsFor : List ℤ → ℕ → ℕ → ℕ → Hulled → List ℕ → List ℕ → Type 0
FindsFor list ordered_pairs corner_pairs limit answer keys stack =
    (ordered corners : List ℤ) → ordered_pairs ≡ length ordered / 2 → corner_pairs ≡ length corners / 2
    → FindsHull list ordered corners limit answer keys stack
