-- The points of black pixels: each of them, no others, strictly in row order, and in range. Assumes nothing.
use mathlib.Core.Path.{◌≡◌, refl, sym, ◌∙◌, ap, subst}
use mathlib.Core.Logic.{inl, inr}
use mathlib.Core.Bool.{Bool, true, false, false≢true}
use mathlib.Core.List.{List, [], ◌∷◌}
use Prim.Native.Nat.{ℕ, zero, suc, ◌+◌, ◌*◌, ◌/◌, ◌%◌, ◌≤◌, ◌<◌}
use native.Mathlib.Nat.{mod-lt, mul_comm, div-add-mod', div-lt_iff_lt-mul}
use native.Mathlib.Omega.{arith}
use lib.Dec.{le→leb, lt→ltb}
use lib.ListN.{length, get_or}
use lib.IntN.{pos}
use lib.Signed.{◌<ℤ◌}
use Rattle.lattice.specs.Point.{Point, InRange, In, All, Pairs, Before, row, column, Lists}
use Rattle.lattice.proofs.Lists.{either}
use Rattle.lattice.proofs.Places.{lt_or_le, nowhere}
use Rattle.netpbm.specs.Raster.{pixel_point, black}

pos_below : (a b : ℕ) → a < b → pos a <ℤ pos b
pos_below a b h = record { lt = lt→ltb a b h }

-- ---- a later pixel stands later in row order
rows_rise : (width k j : ℕ) → 1 ≤ width → k < j → k / width ≤ j / width
rows_rise width k j w h =
    either (lt_or_le (j / width) (k / width))
    (λ l. absurd (omega (arith, (div-lt_iff_lt-mul {k = width} {x = j} {y = k / width} w).0 l, div-add-mod' k width)))
    (λ l. l)

pub pixel_before : (width k j : ℕ) → 1 ≤ width → k < j → Before (pixel_point width k) (pixel_point width j)
pixel_before width k j w h =
    either (lt_or_le (k / width) (j / width))
    (λ l. row (pos_below (k / width) (j / width) l))
    (λ l. let e : k / width ≡ j / width = omega (arith, rows_rise width k j w h) in
    column (ap pos e) (pos_below (k % width) (j % width)
    (omega (arith, div-add-mod' k width, div-add-mod' j width, ap (λ n. n * width) e))))

-- what holds of all pixels holds of the black ones
pub black_all : (P : Point → Type 0) (width k : ℕ) (l : List Bool)
    → ((j : ℕ) → k ≤ j → j < k + length l → P (pixel_point width j)) → All P (black width k l)
black_all P width k [] h = tt
black_all P width k (true ∷ l) h = (h k (omega arith) (omega arith), black_all P width (suc k) l (λ j a b. h j (omega arith) (omega arith)))
black_all P width k (false ∷ l) h = black_all P width (suc k) l (λ j a b. h j (omega arith) (omega arith))

black_order : (width k : ℕ) (l : List Bool) → 1 ≤ width → Pairs Before (black width k l)
black_order width k [] w = tt
black_order width k (true ∷ l) w =
    (black_all (Before (pixel_point width k)) width (suc k) l (λ j a b. pixel_before width k j w (omega arith)), black_order width (suc k) l w)
black_order width k (false ∷ l) w = black_order width (suc k) l w

-- ---- each black pixel, and no other
pub record BlackPixel (width : ℕ) (l : List Bool) (p : Point) : Type 0 where
  pub pixel : ℕ
  pub inside : pixel < length l
  pub colour : get_or l pixel false ≡ true
  pub place : p ≡ pixel_point width pixel

black_every : (width k : ℕ) (l : List Bool) (j : ℕ) → j < length l → get_or l j false ≡ true → In (pixel_point width (k + j)) (black width k l)
black_every width k [] j h e = nowhere j h
black_every width k (true ∷ l) zero h e = let f : k + 0 ≡ k = omega arith in inl (ap (pixel_point width) f)
black_every width k (false ∷ l) zero h e = absurd (false≢true e)
black_every width k (true ∷ l) (suc j) h e =
    let f : suc k + j ≡ k + suc j = omega arith in
    inr (subst (λ n. In (pixel_point width n) (black width (suc k) l)) f (black_every width (suc k) l j (omega arith) e))
black_every width k (false ∷ l) (suc j) h e =
    let f : suc k + j ≡ k + suc j = omega arith in
    subst (λ n. In (pixel_point width n) (black width (suc k) l)) f (black_every width (suc k) l j (omega arith) e)

black_only : (width k : ℕ) (l : List Bool) (p : Point) → In p (black width k l)
    → (j : ℕ) × (j < length l) × (get_or l j false ≡ true) × (p ≡ pixel_point width (k + j))
black_only width k [] p m = absurd m
black_only width k (true ∷ l) p (inl e) = let f : k ≡ k + 0 = omega arith in (zero, omega arith, refl, e ∙ ap (pixel_point width) f)
black_only width k (true ∷ l) p (inr m) =
    let r = black_only width (suc k) l p m in
    let f : suc k + r.0 ≡ k + suc r.0 = omega arith in
    (suc r.0, omega (arith, r.1), r.2, r.3 ∙ ap (pixel_point width) f)
black_only width k (false ∷ l) p m =
    let r = black_only width (suc k) l p m in
    let f : suc k + r.0 ≡ k + suc r.0 = omega arith in
    (suc r.0, omega (arith, r.1), r.2, r.3 ∙ ap (pixel_point width) f)

pub black_lists : (width : ℕ) (l : List Bool) → 1 ≤ width → Lists (BlackPixel width l) (black width 0 l)
black_lists width l w = record {
  every = λ p h.
      let f : 0 + h.pixel ≡ h.pixel = omega arith in
      subst (λ q. In q (black width 0 l)) (ap (pixel_point width) f ∙ sym h.place) (black_every width 0 l h.pixel h.inside h.colour);
  only = λ p m.
      let r = black_only width 0 l p m in
      let f : 0 + r.0 ≡ r.0 = omega arith in
      record { pixel = r.0; inside = r.1; colour = r.2; place = r.3 ∙ ap (pixel_point width) f };
  order = black_order width 0 l w;
}

-- ---- a picture of at most 8,192 columns and rows is in range
pixel_range : (width height k : ℕ) → 1 ≤ width → width ≤ 8192 → height ≤ 8192 → k < width * height → InRange (pixel_point width k)
pixel_range width height k w v h l =
    let a : k % width < width = mod-lt k w in
    let b : k / width < height = (div-lt_iff_lt-mul {k = width} {x = k} {y = height} w).1 (omega (arith, mul_comm width height)) in
    record {
      x_from = record { le = tt };
      x_to = record { le = le→leb (k % width) 8191 (omega arith) };
      y_from = record { le = tt };
      y_to = record { le = le→leb (k / width) 8191 (omega arith) };
    }

pub black_range : (width height : ℕ) (l : List Bool) → 1 ≤ width → width ≤ 8192 → height ≤ 8192 → length l ≡ width * height
    → All InRange (black width 0 l)
black_range width height l w v h e = black_all InRange width 0 l (λ j a b. pixel_range width height j w v h (omega arith))
