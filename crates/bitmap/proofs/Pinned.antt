-- Any two outcomes that `read` allows coincide. Assumes nothing.
use mathlib.Core.Path.{◌≡◌, sym, ◌∙◌}
use mathlib.Core.List.{List}
use Prim.Native.Nat.{ℕ}
use lib.IntN.{ℤ}
use Rattle.bitmap.specs.declared.Picture.{Picture}
use Rattle.bitmap.specs.Picture.{PicturePromise}

pub picture_pinned : (bytes : List ℕ) (list : List ℤ) (answer other : Picture) (after later : List ℤ)
    → PicturePromise bytes list answer after → PicturePromise bytes list other later → (answer ≡ other) × (after ≡ later)
picture_pinned bytes list answer other after later h g = (h.answers ∙ sym g.answers, h.stands ∙ sym g.stands)
