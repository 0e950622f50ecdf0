-- The points of a list as pairs, by place. Assumes nothing.
use Rattle.std.proofs.Common.{◌≡◌, ℕ, zero, suc, ◌<◌, List, [], ◌∷◌, map, length, get_or, take, drop, refl, sym, ap, ◌∙◌, arith, ℤ, pos}
use Rattle.std.specs.Simd.{first_chunks}
use lib.ListN.{length-map}
use Rattle.std.proofs.lemmas.List.{get_or-map, take-map, drop-map}
use Rattle.lattice.proofs.HalfPlane.{point_equal}
use Rattle.lattice.specs.Point.{Point, origin, points, point}
use mir.Syntax.{w32}
use mir.Val.{SFits, to_z, of_z}
use Rattle.packed.proofs.Tests.{read_back}
use Rattle.range.specs.Pairs.{pair_of, pairs_of, point_of, points_of}

-- the chunks of two numbers are the points
pub chunks_are : (list : List ℤ) (n : ℕ) → n ≡ length (points list) → first_chunks 2 n list ≡ pairs_of list
chunks_are [] zero e = refl
chunks_are [] (suc n) e = absurd (omega arith)
chunks_are (x ∷ []) zero e = refl
chunks_are (x ∷ []) (suc n) e = absurd (omega arith)
chunks_are (x ∷ y ∷ rest) zero e = absurd (omega arith)
chunks_are (x ∷ y ∷ rest) (suc n) e = ap (λ l. (x ∷ y ∷ []) ∷ l) (chunks_are rest n (omega arith))

pub pairs_length : (list : List ℤ) → length (pairs_of list) ≡ length (points list)
pairs_length list = length-map (points list) pair_of

-- a pair's two numbers, as they are read, are the point's
module _ (list : List ℤ) (pairs : List (List ℤ)) (i : ℕ) (e : pairs ≡ pairs_of list) (h : i < length pairs) where
  pub inside : i < length (points list)
  inside = omega (arith, ap length e, pairs_length list)

  pair_at : get_or pairs i [] ≡ pair_of (point (points list) i)
  pair_at = ap (λ (l : List (List ℤ)). get_or l i []) e ∙ get_or-map pair_of (points list) i origin [] inside

  abbrev number : ℕ → ℤ
  number j = get_or (get_or pairs i []) j (pos 0)

  pub point_read : SFits w32 (number 0) → SFits w32 (number 1)
      → record { x = to_z w32 (of_z w32 (number 0)); y = to_z w32 (of_z w32 (number 1)) } ≡ point (points list) i
  point_read f g =
      point_equal (read_back (number 0) f ∙ ap (λ (l : List ℤ). get_or l 0 (pos 0)) pair_at)
      (read_back (number 1) g ∙ ap (λ (l : List ℤ). get_or l 1 (pos 0)) pair_at)

-- ---- the points of pairs
pub points_back : (l : List Point) → map point_of (map pair_of l) ≡ l
points_back [] = refl
points_back (p ∷ l) = ap (λ m. p ∷ m) (points_back l)

pub points_part : (pairs : List (List ℤ)) (n k : ℕ) → points_of (take n (drop k pairs)) ≡ take n (drop k (points_of pairs))
points_part pairs n k = sym (take-map point_of n (drop k pairs)) ∙ ap (take n) (sym (drop-map point_of k pairs))

module _ (pairs : List (List ℤ)) (i : ℕ) (h : i < length pairs) where
  abbrev number_of : ℕ → ℤ
  number_of j = get_or (get_or pairs i []) j (pos 0)

  pub pair_read : SFits w32 (number_of 0) → SFits w32 (number_of 1)
      → record { x = to_z w32 (of_z w32 (number_of 0)); y = to_z w32 (of_z w32 (number_of 1)) } ≡ point (points_of pairs) i
  pair_read f g = point_equal (read_back (number_of 0) f) (read_back (number_of 1) g) ∙ sym (get_or-map point_of pairs i [] origin h)
