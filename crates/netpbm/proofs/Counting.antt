-- Laws of the count of black pixels, and of the loop that makes it, however they are fetched. Assumes nothing.
use mathlib.Core.Path.{◌≡◌, refl, sym, ◌∙◌, ap}
use mathlib.Core.Bool.{Bool, true, false}
use mathlib.Core.List.{List, [], ◌∷◌}
use Prim.Native.Nat.{ℕ, suc, ◌+◌, ◌-◌, ◌≤◌, ◌<◌}
use native.Mathlib.Omega.{arith}
use lib.ListN.{length}
use Rattle.std.specs.Prelude.{Ok, Err}
use Rattle.refusal.specs.declared.Refusal.{Refusal}
use Rattle.netpbm.specs.Raster.{Raster, pixels, fault, onto, black}
use Rattle.netpbm.specs.Steps.{blacks, counted}

-- ---- the raster, from its count
pub counted_fault : (r : Raster) (refusal : Refusal) → Err refusal ≡ counted 0 r → r ≡ fault refusal
counted_fault (pixels l) refusal e = absurd cc
counted_fault (fault other) refusal e = cc

black_length : (width k : ℕ) (l : List Bool) → length (black width k l) ≡ blacks l
black_length width k [] = refl
black_length width k (true ∷ l) = ap suc (black_length width (suc k) l)
black_length width k (false ∷ l) = black_length width (suc k) l

pub counted_pixels : (width : ℕ) (r : Raster) (c : ℕ) → Ok c ≡ counted 0 r → (l : List Bool) × (r ≡ pixels l) × (length (black width 0 l) ≡ c)
counted_pixels width (pixels l) c e = (l, refl, let f : c ≡ 0 + blacks l = cc in omega (arith, black_length width 0 l))
counted_pixels width (fault refusal) c e = absurd cc

-- ---- a pixel more
pub counted_black : (c : ℕ) (r : Raster) → counted c (onto true r) ≡ counted (c + 1) r
counted_black c (pixels l) = let e : c + suc (blacks l) ≡ c + 1 + blacks l = omega arith in ap Ok e
counted_black c (fault refusal) = refl

pub counted_white : (c : ℕ) (r : Raster) → counted c (onto false r) ≡ counted c r
counted_white c (pixels l) = refl
counted_white c (fault refusal) = refl

-- ---- k of all pixels are passed, `black` are black with those before them, and place i is reached
pub record Counting (raster : ℕ → ℕ → Raster) (at all before black k i : ℕ) : Type 0 where
  pub same : counted black (raster (all - k) i) ≡ counted before (raster all at)
  pub upto : k ≤ all
  pub few : black ≤ before + k

pub counting_none : (raster : ℕ → ℕ → Raster) (at all before : ℕ) → Counting raster at all before before 0 at
counting_none raster at all before =
    let e : all - 0 ≡ all = omega arith in
    record { same = ap (λ n. counted before (raster n at)) e; upto = omega arith; few = omega arith }

module _ (raster : ℕ → ℕ → Raster) (at all before black k i : ℕ) (h : Counting raster at all before black k i) where
  next_left : k < all → all - k ≡ suc (all - (k + 1))
  next_left l = omega arith

  -- what is fetched next
  fetched : k < all → (r : ℕ → Raster) → ((n : ℕ) → raster (suc n) i ≡ r n) → counted black (r (all - (k + 1))) ≡ counted before (raster all at)
  fetched l r f = ap (counted black) (sym (f (all - (k + 1))) ∙ ap (λ n. raster n i) (sym (next_left l))) ∙ h.same

  module _ (l : k < all) (next : ℕ) where
    pub counting_black : ((n : ℕ) → raster (suc n) i ≡ onto true (raster n next)) → Counting raster at all before (black + 1) (k + 1) next
    counting_black f = record {
      same = sym (counted_black black (raster (all - (k + 1)) next)) ∙ fetched l (λ n. onto true (raster n next)) f;
      upto = omega arith;
      few = omega (arith, h.few);
    }

    pub counting_white : ((n : ℕ) → raster (suc n) i ≡ onto false (raster n next)) → Counting raster at all before black (k + 1) next
    counting_white f = record {
      same = sym (counted_white black (raster (all - (k + 1)) next)) ∙ fetched l (λ n. onto false (raster n next)) f;
      upto = omega arith;
      few = omega (arith, h.few);
    }

  pub counting_fault : k < all → (refusal : Refusal) → ((n : ℕ) → raster (suc n) i ≡ fault refusal)
      → Err refusal ≡ counted before (raster all at)
  counting_fault l refusal f = fetched l (λ n. fault refusal) f

  pub counting_ends : all ≤ k → (r : Raster) → raster 0 i ≡ r → counted black r ≡ counted before (raster all at)
  counting_ends l r e =
      let z : all - k ≡ 0 = omega arith in
      ap (counted black) (sym e ∙ ap (λ n. raster n i) (sym z)) ∙ h.same
