-- The number and the place of each refusal (document 01: "If an answer is an enum, a definition gives this paper's number and values for each
-- case."). Assumes nothing.
use Rattle.std.specs.Prelude.{ℕ}
use Rattle.refusal.specs.declared.Refusal.{Refusal}
use Rattle.refusal.specs.declared.Refusal.TheVariants.{OddLength, TooManyPoints, OutOfRange, Repeated, OrderedTooSmall, CornersTooSmall, MissingTooSmall, NoCornerList, Strays, Misplaced, TooManyResult, PointsTooSmall, PictureTooLong, NoP1, BadHeader, BadPixel, PixelsEndEarly, BytesAfterPixels}

-- "Numbers for a declined call"
abbrev pub number_of : Refusal → ℕ
number_of OddLength = 1
number_of TooManyPoints = 2
number_of (OutOfRange place) = 3
number_of (Repeated place) = 4
number_of OrderedTooSmall = 5
number_of CornersTooSmall = 6
number_of MissingTooSmall = 7
number_of NoCornerList = 8
number_of (Strays place) = 9
number_of (Misplaced place) = 10
number_of TooManyResult = 11
number_of PointsTooSmall = 12
number_of PictureTooLong = 20
number_of NoP1 = 21
number_of (BadHeader place) = 22
number_of (BadPixel place) = 23
number_of (PixelsEndEarly place) = 24
number_of (BytesAfterPixels place) = 25

-- "Places count from 0, and points are counted, except in bitmaps where bytes are."
abbrev pub place_of : Refusal → ℕ
place_of OddLength = 0
place_of TooManyPoints = 0
place_of (OutOfRange place) = place
place_of (Repeated place) = place
place_of OrderedTooSmall = 0
place_of CornersTooSmall = 0
place_of MissingTooSmall = 0
place_of NoCornerList = 0
place_of (Strays place) = place
place_of (Misplaced place) = place
place_of TooManyResult = 0
place_of PointsTooSmall = 0
place_of PictureTooLong = 65536
place_of NoP1 = 0
place_of (BadHeader place) = place
place_of (BadPixel place) = place
place_of (PixelsEndEarly place) = place
place_of (BytesAfterPixels place) = place
