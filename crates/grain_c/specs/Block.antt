-- The answer of Figures for other languages, in one struct (document 01: "If an answer is an enum, a definition gives this paper's number and
-- values for each case."). Assumes nothing.
use Rattle.std.specs.Prelude.{◌≡◌, List, ℤ, Float}
use Rattle.std.specs.Float.{binary64}
use Rattle.std.specs.Float.Ieee.{of_bits}
use Rattle.figures.specs.declared.Figured.{Figured}
use Rattle.figures.specs.declared.Figured.TheVariants.{Refused, None, Given}
use Rattle.figures.specs.Figures.{FiguresPromise}
use Rattle.grain_c.specs.declared.Figures.{Figures}

-- +0.0, whose bits are all 0: for a figure that is not given
abbrev pub zero : Float
zero = of_bits binary64 0

-- number and place as document 01 has them; 1 and the doubles if they are given
abbrev pub block_of : Figured → Figures
block_of (Refused number place) = record { number = number; given = 0; place = place; x = zero; y = zero; solidity = zero }
block_of None = record { number = 0; given = 0; place = 0; x = zero; y = zero; solidity = zero }
block_of (Given centroid solidity) = record { number = 0; given = 1; place = 0; x = centroid.x; y = centroid.y; solidity = solidity }

-- the struct of an answer that Figures promises
pub record FiguresBlockPromise (list ordered corners : List ℤ) (block : Figures) (ordered' corners' : List ℤ) : Type 0 where
  pub answer : Figured
  pub promised : FiguresPromise list ordered corners answer ordered' corners'
  pub block_is : block ≡ block_of answer
