-- The pixels behind the header of a bitmap, however they are fetched, and the points of the black ones (document 01, "Plain bitmap in, CSV out").
-- Assumes nothing.
use Rattle.std.specs.Prelude.{Bool, true, false, List, [], ◌∷◌, ℕ, suc, ◌/◌, ◌%◌, pos}
use Rattle.lattice.specs.Point.{Point}
use Rattle.refusal.specs.declared.Refusal.{Refusal}

-- what stands behind a header: the pixels, black (true) or white (false), or the refusal of the first fault
pub data Raster : Type 0 where
  pixels : List Bool → Raster
  fault : Refusal → Raster

-- a pixel, and the pixels behind it
abbrev pub onto : Bool → Raster → Raster
onto p (pixels l) = pixels (p ∷ l)
onto p (fault refusal) = fault refusal

-- "the pixels by rows from the top": pixel k, from 0; "A black pixel in column x and row y, both from 0, is the point (x, y)."
abbrev pub pixel_point : ℕ → ℕ → Point
pixel_point width k = record { x = pos (k % width); y = pos (k / width) }

-- the black ones among pixels k, k + 1 and so on
abbrev pub black : ℕ → ℕ → List Bool → List Point
black width k [] = []
black width k (true ∷ l) = pixel_point width k ∷ black width (suc k) l
black width k (false ∷ l) = black width (suc k) l

abbrev pub black_in : ℕ → Raster → List Point
black_in width (pixels l) = black width 0 l
black_in width (fault refusal) = []
