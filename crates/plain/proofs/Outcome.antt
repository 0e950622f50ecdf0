-- What a plain raster is: as many pixels as are asked for, or a fault with a number. Assumes nothing.
use mathlib.Core.Path.{◌≡◌, ◌∙◌, ap}
use mathlib.Core.Bool.{Bool, true, false, cond}
use mathlib.Core.List.{List, [], ◌∷◌}
use Prim.Native.Nat.{ℕ, zero, suc}
use lib.Dec.{eqb}
use lib.ListN.{length}
use Rattle.refusal.specs.declared.Refusal.TheVariants.{BadPixel}
use Rattle.netpbm.specs.Space.{white_space}
use Rattle.netpbm.specs.Raster.{pixels, fault, onto}
use Rattle.netpbm.proofs.Writing.{onto_pixels}
use Rattle.plain.specs.Plain.{plain}
use Rattle.plain.proofs.Plain.{none_left}

pub plain_length : (l : List ℕ) (n i : ℕ) (m : List Bool) → plain l n i ≡ pixels m → length m ≡ n
plain_length [] zero i m e = ap length (none_left [] i m e)
plain_length [] (suc n) i m e = absurd cc
plain_length (b ∷ l) zero i m e = ap length (none_left (b ∷ l) i m e)
plain_length (b ∷ l) (suc n) i m e =
    by_tests (white_space b) (eqb b 49) (eqb b 48) e (plain_length l (suc n) (suc i) m) (plain_length l n (suc i))
  where
    one_more : (p : Bool) → onto p (plain l n (suc i)) ≡ pixels m → ((q : List Bool) → plain l n (suc i) ≡ pixels q → length q ≡ n)
        → length m ≡ suc n
    one_more p f h = let r = onto_pixels p (plain l n (suc i)) m f in ap length r.2 ∙ ap suc (h r.0 r.1)

    by_tests : (space black white : Bool)
        → cond space (plain l (suc n) (suc i))
        (cond black (onto true (plain l n (suc i))) (cond white (onto false (plain l n (suc i))) (fault (BadPixel i)))) ≡ pixels m
        → (plain l (suc n) (suc i) ≡ pixels m → length m ≡ suc n)
        → ((q : List Bool) → plain l n (suc i) ≡ pixels q → length q ≡ n) → length m ≡ suc n
    by_tests true black white f g h = g f
    by_tests false true white f g h = one_more true f h
    by_tests false false true f g h = one_more false f h
    by_tests false false false f g h = absurd cc
