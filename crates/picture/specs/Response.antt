-- What the report program writes for the bytes of a picture, byte by byte (document 01, "Plain bitmap in, CSV out"). Assumes nothing.
use Rattle.std.specs.Prelude.{◌≡◌, cond, List, ◌++◌, ℕ, ltb, length, drop}
use Rattle.lattice.specs.Point.{Point}
use Rattle.lattice.specs.Hull.{CornerList, MissingList}
use Rattle.refusal.specs.declared.Refusal.{Refusal}
use Rattle.refusal.specs.Number.{number_of, place_of}
use Rattle.bitmap.specs.Picture.{Reading, picture, refused, reading_of}
use Rattle.csv_text.specs.Text.{text_of, refused_text}
use Rattle.csv_text.specs.Written.{most_missing}

-- "It has room for 8,192 missing points.": the report, or 7 "missing list too small", place 0
abbrev pub report_of : List Point → List Point → List Point → List ℕ
report_of s corners missing = cond (ltb most_missing (length missing)) (refused_text 7 0) (text_of corners missing (length s))

-- the text is the report of the points s, by their corner list and their missing list
pub record Reports (s : List Point) (text : List ℕ) : Type 0 where
  pub corners : List Point
  pub corner : CornerList s corners
  pub missing : List Point
  pub missed : MissingList s missing
  pub text_is : text ≡ report_of s corners missing

-- the text is the line of a refusal
abbrev pub Refuses : Refusal → List ℕ → Type 0
Refuses r text = text ≡ refused_text (number_of r) (place_of r)

-- "Checks: 20, 21, then the first fault from the left, then 2, then 7.": a declined reading gives its line, an accepted one the report of
-- its black pixels
abbrev pub Responds : Reading → List ℕ → Type 0
Responds (picture width height s) text = Reports s text
Responds (refused number place) text = text ≡ refused_text number place

-- a room begins with a text that is right, the rest of it reads as before, and the answer is the text's length
pub record Writes (Right : List ℕ → Type 0) (out : List ℕ) (answer : ℕ) (after : List ℕ) : Type 0 where
  pub text : List ℕ
  pub right : Right text
  pub answers : answer ≡ length text
  pub stands : after ≡ text ++ drop (length text) out

-- for every string of bytes the whole output
abbrev pub ResponsePromise : List ℕ → List ℕ → ℕ → List ℕ → Type 0
ResponsePromise bytes out answer after = Writes (Responds (reading_of bytes)) out answer after
