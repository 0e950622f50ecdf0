-- How the code goes through plain pixels: what each step finds, in the words of the definitions. Assumes nothing.
use Rattle.std.specs.Prelude.{◌≡◌, Bool, false, not, ◌||◌, List, [], ◌∷◌, ℕ, suc, ◌+◌, ◌≤◌, ◌<◌, eqb, length, get_or, take, drop, Result, Ok, Err}
use mir.Val.{bool_byte}
use Rattle.netpbm.specs.Space.{white_space}
use Rattle.netpbm.specs.Raster.{Raster, fault, onto}
use Rattle.netpbm.specs.Steps.{counted}
use Rattle.refusal.specs.declared.Refusal.{Refusal}
use Rattle.plain.specs.declared.Tally.{Tally}
use Rattle.plain.specs.Plain.{plain_at}

-- r is the next byte that is no white space, or past the end
pub record Skips (bytes : List ℕ) (at r : ℕ) : Type 0 where
  pub same : (n : ℕ) → plain_at bytes n at ≡ plain_at bytes n r
  pub stops : r < length bytes → white_space (get_or bytes r 0) ≡ false

-- n + 1 pixels from a place are the one found there and n from the next place on, or its fault, however a raster is read
abbrev pub Fetches : (ℕ → ℕ → Raster) → ℕ → Result Bool Refusal → ℕ → Type 0
Fetches raster at (Ok black) next = (n : ℕ) → raster (suc n) at ≡ onto black (raster n next)
Fetches raster at (Err refusal) next = (n : ℕ) → raster (suc n) at ≡ fault refusal

-- a byte that is a black pixel; a white one; neither a pixel nor white space
abbrev pub black_byte : ℕ → Bool
black_byte b = eqb b 49

abbrev pub white_byte : ℕ → Bool
white_byte b = eqb b 48

abbrev pub bad_byte : ℕ → Bool
bad_byte b = not (white_space b || black_byte b || white_byte b)

-- how many bytes pass a test
abbrev pub number : (ℕ → Bool) → List ℕ → ℕ
number test [] = 0
number test (b ∷ l) = bool_byte (test b) + number test l

pub record Tallied (l : List ℕ) (t : Tally) : Type 0 where
  pub black : t.black ≡ number black_byte l
  pub white : t.white ≡ number white_byte l
  pub bad : t.bad ≡ number bad_byte l

-- how many bytes are tallied at a time
abbrev pub part : ℕ
part = 64

-- l is the part that stands at a place
pub record IsPart (bytes : List ℕ) (at : ℕ) (l : List ℕ) : Type 0 where
  pub inside : at + part ≤ length bytes
  pub same : l ≡ take part (drop at bytes)

-- what is left of all pixels from the next place on, behind the black ones that are counted already, however a raster is read
pub record Leaves (raster : ℕ → ℕ → Raster) (at all black left next : ℕ) : Type 0 where
  pub same : counted black (raster left next) ≡ counted 0 (raster all at)
  pub few : black + left ≤ all
