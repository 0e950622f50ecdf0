-- No refusal has the number of an accepted call, and number and place tell the refusal. Assumes nothing.
use Rattle.std.specs.Prelude.{if◌then◌else◌}
use Rattle.std.proofs.Common.{◌≡◌, ℕ, nat_eq, refl, sym, arith}
use Rattle.refusal.specs.declared.Refusal.{Refusal}
use Rattle.refusal.specs.declared.Refusal.TheVariants.{OddLength, TooManyPoints, OutOfRange, Repeated, OrderedTooSmall, CornersTooSmall, MissingTooSmall, NoCornerList, Strays, Misplaced, TooManyResult, PointsTooSmall, PictureTooLong, NoP1, BadHeader, BadPixel, PixelsEndEarly, BytesAfterPixels}
use Rattle.refusal.specs.Number.{number_of, place_of}
use mathlib.Core.Path.{◌∙◌}

pub number_some : (r : Refusal) → number_of r ≡ 0 → ⊥
number_some OddLength e = omega (arith, e)
number_some TooManyPoints e = omega (arith, e)
number_some (OutOfRange place) e = omega (arith, e)
number_some (Repeated place) e = omega (arith, e)
number_some OrderedTooSmall e = omega (arith, e)
number_some CornersTooSmall e = omega (arith, e)
number_some MissingTooSmall e = omega (arith, e)
number_some NoCornerList e = omega (arith, e)
number_some (Strays place) e = omega (arith, e)
number_some (Misplaced place) e = omega (arith, e)
number_some TooManyResult e = omega (arith, e)
number_some PointsTooSmall e = omega (arith, e)
number_some PictureTooLong e = omega (arith, e)
number_some NoP1 e = omega (arith, e)
number_some (BadHeader place) e = omega (arith, e)
number_some (BadPixel place) e = omega (arith, e)
number_some (PixelsEndEarly place) e = omega (arith, e)
number_some (BytesAfterPixels place) e = omega (arith, e)

-- the refusal with a number and a place
abbrev refusal_of : ℕ → ℕ → Refusal
refusal_of number place =
    if nat_eq number 2 then TooManyPoints else
    if nat_eq number 3 then OutOfRange place else
    if nat_eq number 4 then Repeated place else
    if nat_eq number 5 then OrderedTooSmall else
    if nat_eq number 6 then CornersTooSmall else
    if nat_eq number 7 then MissingTooSmall else
    if nat_eq number 8 then NoCornerList else
    if nat_eq number 9 then Strays place else
    if nat_eq number 10 then Misplaced place else
    if nat_eq number 11 then TooManyResult else
    if nat_eq number 12 then PointsTooSmall else
    if nat_eq number 20 then PictureTooLong else
    if nat_eq number 21 then NoP1 else
    if nat_eq number 22 then BadHeader place else
    if nat_eq number 23 then BadPixel place else
    if nat_eq number 24 then PixelsEndEarly place else
    if nat_eq number 25 then BytesAfterPixels place else
    OddLength

told : (r : Refusal) → refusal_of (number_of r) (place_of r) ≡ r
told OddLength = refl
told TooManyPoints = refl
told (OutOfRange place) = refl
told (Repeated place) = refl
told OrderedTooSmall = refl
told CornersTooSmall = refl
told MissingTooSmall = refl
told NoCornerList = refl
told (Strays place) = refl
told (Misplaced place) = refl
told TooManyResult = refl
told PointsTooSmall = refl
told PictureTooLong = refl
told NoP1 = refl
told (BadHeader place) = refl
told (BadPixel place) = refl
told (PixelsEndEarly place) = refl
told (BytesAfterPixels place) = refl

pub tells_apart : (r q : Refusal) → number_of r ≡ number_of q → place_of r ≡ place_of q → r ≡ q
tells_apart r q e d = sym (told r) ∙ (λ i. refusal_of (e i) (d i)) ∙ told q
