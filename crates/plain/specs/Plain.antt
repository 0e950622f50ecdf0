-- The pixels of a plain bitmap (document 01, "Plain bitmap in, CSV out"). Assumes nothing.
use Rattle.std.specs.Prelude.{true, false, cond, List, [], ◌∷◌, ℕ, zero, suc, eqb, drop}
use Rattle.refusal.specs.declared.Refusal.TheVariants.{BadPixel, PixelsEndEarly, BytesAfterPixels}
use Rattle.netpbm.specs.Space.{white_space}
use Rattle.netpbm.specs.Raster.{Raster, pixels, fault, onto}

-- "then the pixels .., 1 black and 0 white, white space ignored between them": n pixels from place i on.
-- 23 "bad byte among the pixels", 24 "pixels end early", 25 "something other than white space after the last pixel"
abbrev pub plain : List ℕ → ℕ → ℕ → Raster
plain [] zero i = pixels []
plain [] (suc n) i = fault (PixelsEndEarly i)
plain (b ∷ rest) zero i = cond (white_space b) (plain rest zero (suc i)) (fault (BytesAfterPixels i))
plain (b ∷ rest) (suc n) i =
    let skipped = plain rest (suc n) (suc i) in
    let others = plain rest n (suc i) in
    cond (white_space b) skipped (cond (eqb b 49) (onto true others) (cond (eqb b 48) (onto false others) (fault (BadPixel i))))

abbrev pub plain_at : List ℕ → ℕ → ℕ → Raster
plain_at bytes n i = plain (drop i bytes) n i
