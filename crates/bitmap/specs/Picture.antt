-- What a bitmap says as a whole, and what `read` promises (document 01, "Plain bitmap in, CSV out"). Assumes nothing.
use Rattle.std.specs.Prelude.{◌≡◌, Bool, cond, ◌&&◌, List, ℕ, ◌*◌, eqb, ltb, length, get_or, ℤ, Result, Ok, Err}
use Rattle.lattice.specs.Point.{Point, most}
use Rattle.lattice.specs.Room.{holding}
use Rattle.refusal.specs.declared.Refusal.{Refusal}
use Rattle.refusal.specs.Number.{number_of, place_of}
use Rattle.netpbm.specs.Raster.{Raster, pixels, fault, black}
use Rattle.header.specs.Header.{Checked, header_of}
use Rattle.plain.specs.Plain.{plain_at}
use Rattle.bitmap.specs.declared.Image.{Image}
use Rattle.bitmap.specs.declared.Picture.{Picture}

-- a picture with its black pixels, or number and place of its refusal
pub data Reading : Type 0 where
  picture : (width height : ℕ) → List Point → Reading
  refused : (number place : ℕ) → Reading

-- 20 "bitmap longer than 65,536 bytes"
abbrev pub longest : ℕ
longest = 65536

-- 21 "does not begin with P1"
abbrev pub begins_p1 : List ℕ → Bool
begins_p1 bytes = eqb (get_or bytes 0 0) 80 && eqb (get_or bytes 1 0) 49

-- 2 "more than 4,096 points"
abbrev pub limited : ℕ → ℕ → List Point → Reading
limited width height l = cond (ltb most (length l)) (refused 2 0) (picture width height l)

abbrev pub rastered : ℕ → ℕ → Raster → Reading
rastered width height (pixels l) = limited width height (black width 0 l)
rastered width height (fault refusal) = refused (number_of refusal) (place_of refusal)

-- 22 "bad header"
abbrev pub headed : List ℕ → Checked → Reading
headed bytes (Ok h) = rastered h.width h.height (plain_at bytes (h.width * h.height) h.at)
headed bytes (Err refusal) = refused (number_of refusal) (place_of refusal)

-- "Checks: 20, 21, then the first fault from the left, then 2"
abbrev pub reading_of : List ℕ → Reading
reading_of bytes =
    cond (ltb longest (length bytes)) (refused 20 longest)
    (cond (begins_p1 bytes) (headed bytes (header_of bytes)) (refused 21 0))

-- "An accepted call has number 0 and place 0. A declined one has its number and place, all counts 0": width and height are 0 too
abbrev pub answer_of : Reading → Picture
answer_of (picture width height l) = record { number = 0; place = 0; points = length l; width = width; height = height }
answer_of (refused number place) = record { number = number; place = place; points = 0; width = 0; height = 0 }

-- the list begins with the black pixels, the rest as before; after a declined picture it reads as before
abbrev pub list_after : Reading → List ℤ → List ℤ
list_after (picture width height l) list = holding l list
list_after (refused number place) list = list

-- "If an answer is an enum, a definition gives this paper's number and values for each case. The promises use that definition."
abbrev pub picture_of : Result Image Refusal → Picture
picture_of (Ok image) = record { number = 0; place = 0; points = image.points; width = image.width; height = image.height }
picture_of (Err refusal) = record { number = number_of refusal; place = place_of refusal; points = 0; width = 0; height = 0 }

pub record PicturePromise (bytes : List ℕ) (list : List ℤ) (answer : Picture) (after : List ℤ) : Type 0 where
  pub answers : answer ≡ answer_of (reading_of bytes)
  pub stands : after ≡ list_after (reading_of bytes) list
