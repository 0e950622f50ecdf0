-- What is counted, passed and written of a raster, in the words of the definitions. Assumes nothing.
use Rattle.std.specs.Prelude.{◌≡◌, Bool, true, false, List, [], ◌∷◌, ℕ, zero, suc, ◌+◌, ◌*◌, ◌-◌, ◌^◌, ◌≤◌, length, ℤ, Result, Ok, Err}
use Rattle.lattice.specs.Point.{most}
use Rattle.refusal.specs.declared.Refusal.{Refusal}
use Rattle.netpbm.specs.Raster.{Raster, pixels, fault, black_in}

-- how many are black
abbrev pub blacks : List Bool → ℕ
blacks [] = 0
blacks (true ∷ l) = suc (blacks l)
blacks (false ∷ l) = blacks l

-- c black pixels, and those of a raster, or its fault
abbrev pub counted : ℕ → Raster → Result ℕ Refusal
counted c (pixels l) = Ok (c + blacks l)
counted c (fault refusal) = Err refusal

-- m white pixels, and others behind them
abbrev pub whites : ℕ → List Bool → List Bool
whites zero l = l
whites (suc m) l = false ∷ whites m l

-- where n pixels from a place have no fault, they are m white ones and n - m from the next place on, however a raster is read
pub record WhiteThen (raster : ℕ → ℕ → Raster) (n m next : ℕ) (l : List Bool) : Type 0 where
  pub fits : m ≤ n
  pub rest : List Bool
  pub behind : raster (n - m) next ≡ pixels rest
  pub same : l ≡ whites m rest

abbrev pub Passes : (ℕ → ℕ → Raster) → ℕ → ℕ → ℕ → Type 0
Passes raster at m next = (n : ℕ) (l : List Bool) → raster n at ≡ pixels l → WhiteThen raster n m next l

-- a raster with no fault and few enough black pixels, whose columns and rows fit 32 bits, and a list with room for the most points
pub record Writable (raster : Raster) (width all : ℕ) (list : List ℤ) : Type 0 where
  pub sound : (l : List Bool) × (raster ≡ pixels l)
  pub few : length (black_in width raster) ≤ most
  pub wide : 1 ≤ width
  pub small : all ≤ 2 ^ 31
  pub room : 2 * most ≤ length list
