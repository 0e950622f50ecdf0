-- Laws of plain pixels: one byte more. Assumes nothing.
use mathlib.Core.Path.{◌≡◌, ◌∙◌}
use mathlib.Core.Bool.{Bool, true, false, cond}
use mathlib.Core.List.{List, [], ◌∷◌}
use Prim.Native.Nat.{ℕ, zero, suc, ◌+◌, ◌<◌}
use native.Mathlib.Numerals.{add-one}
use borrow.Author.Tests.{ne_eqb}
use lib.ListN.{length, get_or, drop}
use lib.Seq.{drop-cons}
use Rattle.refusal.specs.declared.Refusal.TheVariants.{BadPixel, BytesAfterPixels}
use Rattle.netpbm.specs.Space.{white_space}
use Rattle.netpbm.specs.Raster.{pixels, fault, onto}
use Rattle.plain.specs.Plain.{plain, plain_at}

-- no pixel is left behind the last
pub none_left : (l : List ℕ) (i : ℕ) (m : List Bool) → plain l 0 i ≡ pixels m → m ≡ []
none_left [] i m e = cc
none_left (b ∷ l) i m e = by_space (white_space b) e (none_left l (suc i) m)
  where
    by_space : (t : Bool) → cond t (plain l 0 (suc i)) (fault (BytesAfterPixels i)) ≡ pixels m → (plain l 0 (suc i) ≡ pixels m → m ≡ []) → m ≡ []
    by_space true f g = g f
    by_space false f g = absurd cc

-- ---- the first byte, then the others
pub blank_ignored : (b : ℕ) (l : List ℕ) (n i : ℕ) → white_space b ≡ true → plain (b ∷ l) n i ≡ plain l n (suc i)
blank_ignored b l zero i e = rw e
blank_ignored b l (suc n) i e = rw e

pub black_first : (b : ℕ) (l : List ℕ) (n i : ℕ) → b ≡ 49 → plain (b ∷ l) (suc n) i ≡ onto true (plain l n (suc i))
black_first b l n i e = rw e

pub white_first : (b : ℕ) (l : List ℕ) (n i : ℕ) → b ≡ 48 → plain (b ∷ l) (suc n) i ≡ onto false (plain l n (suc i))
white_first b l n i e = rw e

-- a byte that is neither white space nor a pixel
pub bad_byte_lem : (bytes : List ℕ) (i : ℕ) → i < length bytes → white_space (get_or bytes i 0) ≡ false → (get_or bytes i 0 ≡ 49 → ⊥)
    → (get_or bytes i 0 ≡ 48 → ⊥) → (n : ℕ) → plain_at bytes (suc n) i ≡ fault (BadPixel i)
bad_byte_lem bytes i l e m k n =
    let first : plain_at bytes (suc n) i ≡ plain (get_or bytes i 0 ∷ drop (i + 1) bytes) (suc n) i = rw (add-one, drop-cons bytes i 0) in
    first ∙ rw (e, ne_eqb (get_or bytes i 0) 49 m, ne_eqb (get_or bytes i 0) 48 k)

-- no pixel is left, but a byte that is no white space
pub left_over : (bytes : List ℕ) (i : ℕ) → i < length bytes → white_space (get_or bytes i 0) ≡ false → plain_at bytes 0 i ≡ fault (BytesAfterPixels i)
left_over bytes i inside e =
    let one_more : plain_at bytes 0 i ≡ plain (get_or bytes i 0 ∷ drop (i + 1) bytes) 0 i = rw (add-one, drop-cons bytes i 0) in
    one_more ∙ rw e

-- ---- white space is ignored from a place to i
pub record Ignoring (bytes : List ℕ) (at i : ℕ) : Type 0 where
  pub same : (n : ℕ) → plain_at bytes n at ≡ plain_at bytes n i
