-- Number, place, count and size tell what `read` answers, so what is promised of them pins the answer itself. Assumes nothing.
use mathlib.Core.Path.{◌≡◌, refl, ap}
use mathlib.Core.List.{List}
use Prim.Native.Nat.{ℕ}
use lib.IntN.{ℤ}
use Rattle.std.specs.Prelude.{Result}
use Rattle.refusal.specs.declared.Refusal.{Refusal}
use Rattle.refusal.proofs.Told.{answer_told}
use Rattle.bitmap.specs.declared.Image.{Image}
use Rattle.bitmap.specs.Picture.{picture_of, PicturePromise}
use Rattle.bitmap.proofs.Pinned.{picture_pinned}

pub picture_told : (a b : Result Image Refusal) → picture_of a ≡ picture_of b → a ≡ b
picture_told =
    answer_told picture_of (λ s. s.number) (λ s. s.place) (λ a. refl) (λ r. refl) (λ r. refl)
    (λ p q e. ap (λ s. record { points = s.points; width = s.width; height = s.height }) e)

pub picture_answer_pinned : (bytes : List ℕ) (list : List ℤ) (a b : Result Image Refusal) (after later : List ℤ)
    → PicturePromise bytes list (picture_of a) after → PicturePromise bytes list (picture_of b) later → (a ≡ b) × (after ≡ later)
picture_answer_pinned bytes list a b after later h g =
    let e = picture_pinned bytes list (picture_of a) (picture_of b) after later h g in (picture_told a b e.0, e.1)
