-- The picture of document 01 and some headers, run by the definitions. Assumes nothing.
use mathlib.Core.Path.{◌≡◌, refl}
use mathlib.Core.List.{List, [], ◌∷◌, map}
use Prim.Native.Nat.{ℕ}
use Rattle.lattice.specs.Grains.{at}
use Rattle.bitmap.specs.Picture.{picture, reading_of, answer_of}

-- `P1`, `3 3`, `111`, `101`, `111`, each ended by LF
abbrev pub ring : List ℕ
ring = 80 ∷ 49 ∷ 10 ∷ 51 ∷ 32 ∷ 51 ∷ 10 ∷ 49 ∷ 49 ∷ 49 ∷ 10 ∷ 49 ∷ 48 ∷ 49 ∷ 10 ∷ 49 ∷ 49 ∷ 49 ∷ 10 ∷ []

pub ring_read : reading_of ring ≡ picture 3 3 (at 0 0 ∷ at 1 0 ∷ at 2 0 ∷ at 0 1 ∷ at 2 1 ∷ at 0 2 ∷ at 1 2 ∷ at 2 2 ∷ [])
ring_read = refl

-- number and place
abbrev pub outcome : List ℕ → List ℕ
outcome bytes = let a = answer_of (reading_of bytes) in a.number ∷ a.place ∷ []

abbrev pub files : List (List ℕ)
files =
    -- ""
    []
    -- P1
    ∷ (80 ∷ 49 ∷ [])
    -- P1x
    ∷ (80 ∷ 49 ∷ 120 ∷ [])
    -- P1 LF 2000x
    ∷ (80 ∷ 49 ∷ 10 ∷ 50 ∷ 48 ∷ 48 ∷ 48 ∷ 120 ∷ [])
    -- P1 LF 0001025
    ∷ (80 ∷ 49 ∷ 10 ∷ 48 ∷ 48 ∷ 48 ∷ 49 ∷ 48 ∷ 50 ∷ 53 ∷ [])
    -- P1 3 3
    ∷ (80 ∷ 49 ∷ 32 ∷ 51 ∷ 32 ∷ 51 ∷ [])
    -- P1 1 1#c
    ∷ (80 ∷ 49 ∷ 32 ∷ 49 ∷ 32 ∷ 49 ∷ 35 ∷ 99 ∷ [])
    -- P1 1 1 VT 1
    ∷ (80 ∷ 49 ∷ 32 ∷ 49 ∷ 32 ∷ 49 ∷ 11 ∷ 49 ∷ [])
    -- P1#c LF 1# CR 01# LF 1 CR LF
    ∷ (80 ∷ 49 ∷ 35 ∷ 99 ∷ 10 ∷ 49 ∷ 35 ∷ 13 ∷ 48 ∷ 49 ∷ 35 ∷ 10 ∷ 49 ∷ 13 ∷ 10 ∷ [])
    -- P1 1 1 #
    ∷ (80 ∷ 49 ∷ 32 ∷ 49 ∷ 32 ∷ 49 ∷ 32 ∷ 35 ∷ [])
    -- P1 1 1 LF
    ∷ (80 ∷ 49 ∷ 32 ∷ 49 ∷ 32 ∷ 49 ∷ 10 ∷ [])
    -- P1 1 1 LF TAB 0 1
    ∷ (80 ∷ 49 ∷ 32 ∷ 49 ∷ 32 ∷ 49 ∷ 10 ∷ 9 ∷ 48 ∷ 32 ∷ 49 ∷ [])
    ∷ []

pub files_read : map outcome files
    ≡ (21 ∷ 0 ∷ [])
    ∷ (22 ∷ 2 ∷ [])
    ∷ (22 ∷ 2 ∷ [])
    ∷ (22 ∷ 3 ∷ [])
    ∷ (22 ∷ 3 ∷ [])
    ∷ (22 ∷ 6 ∷ [])
    ∷ (22 ∷ 8 ∷ [])
    ∷ (22 ∷ 6 ∷ [])
    ∷ (0 ∷ 0 ∷ [])
    ∷ (23 ∷ 7 ∷ [])
    ∷ (24 ∷ 7 ∷ [])
    ∷ (25 ∷ 10 ∷ [])
    ∷ []
files_read = refl
