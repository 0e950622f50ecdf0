-- The lettered grains of document 01 in one table, and what is claimed of each row ("Grains to prove by hand").
-- Assumes nothing; proofs/Grains.antt proves `AllHold grains`.
use Rattle.std.specs.Prelude.{◌≡◌, Bool, true, false, List, [], ◌∷◌, ℕ, pos}
use Rattle.lattice.specs.Point.{Point, origin, Lists}
use Rattle.lattice.specs.Hull.{CornerList, MissingList, Convex, Kept}
use Rattle.lattice.specs.Refusal.{Gives, accepted, rebuild_rows}

-- a grain's points, its corners, yes (true) or no, its first missing point ((0, 0) for yes), its missing points;
-- or Rebuild's corners and missing points, the number and place it gives, and the points of an accepted call
pub data Row : Type 0 where
  grain : List Point → List Point → Bool → Point → List Point → Row
  rebuild : List Point → List Point → ℕ → ℕ → List Point → Row

-- yes exactly if convex
abbrev pub Verdict : Bool → List Point → Type 0
Verdict true s = Convex s
Verdict false s = Convex s → ⊥

-- the first missing point is the head of the missing list, and (0, 0) is shown where there is none
abbrev pub first_of : List Point → Point
first_of [] = origin
first_of (p ∷ m) = p

abbrev pub Holds : Row → Type 0
Holds (grain s c verdict first m) = CornerList s c × MissingList s m × Verdict verdict s × (first_of m ≡ first)
Holds (rebuild c m number place s) = Gives (rebuild_rows c m accepted) number place × (number ≡ 0 → Lists (Kept c m) s)

abbrev pub AllHold : List Row → Type 0
AllHold [] = Unit {0}
AllHold (r ∷ rest) = Holds r × AllHold rest

abbrev pub at : ℕ → ℕ → Point
at a b = record { x = pos a; y = pos b }

unfoldable pub grains : List Row
grains =
    -- A
    grain [] [] true origin []
    -- B
    ∷ grain (at 5 5 ∷ []) (at 5 5 ∷ []) true origin []
    -- C
    ∷ grain (at 0 0 ∷ at 1 4 ∷ []) (at 0 0 ∷ at 1 4 ∷ []) true origin []
    -- D
    ∷ grain (at 0 0 ∷ at 2 4 ∷ []) (at 0 0 ∷ at 2 4 ∷ []) false (at 1 2) (at 1 2 ∷ [])
    -- E
    ∷ grain (at 0 0 ∷ at 1 0 ∷ at 2 0 ∷ []) (at 0 0 ∷ at 2 0 ∷ []) true origin []
    -- F
    ∷ grain (at 0 0 ∷ at 1 0 ∷ at 0 1 ∷ []) (at 0 0 ∷ at 1 0 ∷ at 0 1 ∷ []) true origin []
    -- G
    ∷ grain (at 0 0 ∷ at 3 0 ∷ at 0 3 ∷ []) (at 0 0 ∷ at 3 0 ∷ at 0 3 ∷ []) false (at 1 0) (at 1 0 ∷ at 2 0 ∷ at 0 1 ∷ at 1 1 ∷ at 2 1 ∷ at 0 2 ∷ at 1 2 ∷ [])
    -- H
    ∷ grain (at 0 1 ∷ at 1 0 ∷ at 2 1 ∷ at 1 2 ∷ []) (at 1 0 ∷ at 2 1 ∷ at 1 2 ∷ at 0 1 ∷ []) false (at 1 1) (at 1 1 ∷ [])
    -- I
    ∷ grain (at 0 0 ∷ at 2 1 ∷ at 1 2 ∷ []) (at 0 0 ∷ at 2 1 ∷ at 1 2 ∷ []) false (at 1 1) (at 1 1 ∷ [])
    -- J
    ∷ rebuild (at 0 0 ∷ at 2 1 ∷ at 1 2 ∷ []) [] 0 0 (at 0 0 ∷ at 1 1 ∷ at 2 1 ∷ at 1 2 ∷ [])
    -- K
    ∷ rebuild (at 0 0 ∷ at 1 2 ∷ at 2 1 ∷ []) [] 8 0 []
    -- L
    ∷ rebuild (at 0 0 ∷ at 3 0 ∷ at 0 3 ∷ []) (at 3 0 ∷ []) 10 0 []
    ∷ []
