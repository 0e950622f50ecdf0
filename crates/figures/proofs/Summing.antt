-- Sums of coordinates stay small, and the laws of the loop that sums. Assumes nothing.
use mathlib.Core.Path.{◌≡◌, refl, sym, ◌∙◌, ap, subst}
use mathlib.Core.List.{List, [], ◌∷◌}
use Prim.Native.Nat.{ℕ, zero, suc, ◌+◌, ◌*◌, ◌≤◌, ◌<◌}
use native.Mathlib.Numerals.{add-one}
use native.Mathlib.Omega.{arith}
use lib.ListN.{length, get_or, drop, drop_of_length-le}
use lib.Seq.{drop-cons}
use Rattle.std.proofs.lemmas.List.{get_or-map}
use lib.IntN.{ℤ, pos, ◌+ℤ◌, +ℤ_idl, +ℤ_idr, +ℤ_assoc}
use mir.Syntax.{w32}
use mir.Val.{SFits, to_z, of_z}
use Rattle.whole.proofs.Whole.{quote, gap≤, linear≤}
use Rattle.lattice.specs.Point.{Point, origin, InRange, most, points, point, All}
use Rattle.lattice.proofs.Places.{all_place}
use Rattle.range.specs.Pairs.{pair_of, pairs_of}
use Rattle.packed.specs.Packed.{offset, Within}
use Rattle.packed.proofs.Small.{within_sum, within_fits}
use Rattle.packed.proofs.Tests.{read_back}
use Rattle.figures.specs.Figure.{coordinate, sum, Summable}

-- a coordinate of a point, as a number of its pair
pair_number : (k : ℕ) (p : Point) → k < 2 → get_or (pair_of p) k (pos 0) ≡ coordinate k p
pair_number zero p h = refl
pair_number (suc zero) p h = refl
pair_number (suc (suc k)) p h = absurd (never k h)
  where
    never : (k : ℕ) → suc (suc k) < 2 → ⊥
    never k h = omega arith

-- a coordinate in range is at most 8,192 by magnitude
coordinate_within : (k : ℕ) (p : Point) → InRange p → Within offset (coordinate k p)
coordinate_within zero p r =
    record { low = r.x_from; high = linear≤ (p.x ∷ []) (gap≤ r.x_to) (search quote depth 20) tt }
coordinate_within (suc k) p r =
    record { low = r.y_from; high = linear≤ (p.y ∷ []) (gap≤ r.y_to) (search quote depth 20) tt }

sum_within : (k : ℕ) (s : List Point) → All InRange s → Within (offset * length s) (sum (coordinate k) s)
sum_within k [] r = record { low = record { le = tt }; high = record { le = tt } }
sum_within k (p ∷ s) r =
    let n : offset + offset * length s ≡ offset * suc (length s) = omega arith in
    subst (λ m. Within m (sum (coordinate k) (p ∷ s))) n
    (within_sum offset (offset * length s) (coordinate_within k p r.0) (sum_within k s r.1))

pub sum_fits : (k : ℕ) (s : List Point) → All InRange s → length s ≤ most → SFits w32 (sum (coordinate k) s)
sum_fits k s r few = within_fits w32 (offset * length s) (sum_within k s r) (omega arith)

-- as the machine reads it from the pairs of a list: a signed number, back from its bits
pub read_coordinate : (k : ℕ) (list : List ℤ) → Summable list → k < 2 → (pairs : List (List ℤ)) → pairs ≡ pairs_of list → (i : ℕ) → i < length (points list)
    → to_z w32 (of_z w32 (get_or (get_or pairs i []) k (pos 0))) ≡ coordinate k (point (points list) i)
read_coordinate k list s h pairs same i l =
    let e = ap (λ (ps : List (List ℤ)). get_or (get_or ps i []) k (pos 0)) same
    ∙ ap (λ (q : List ℤ). get_or q k (pos 0)) (get_or-map pair_of (points list) i origin [] l)
    ∙ pair_number k (point (points list) i) h in
    let small = coordinate_within k (point (points list) i) (all_place InRange (points list) s.range i l) in
    read_back (get_or (get_or pairs i []) k (pos 0)) (subst (SFits w32) (sym e) (within_fits w32 offset small (omega arith))) ∙ e

-- the coordinates of the first i points are summed
pub record Summed (k : ℕ) (s : List Point) (i : ℕ) (total : ℤ) : Type 0 where
  pub upto : i ≤ length s
  pub rest : sum (coordinate k) s ≡ total +ℤ sum (coordinate k) (drop i s)
  pub small : Within (offset * i) total

module _ (k : ℕ) (list : List ℤ) (h : Summable list) where
  pub summed_none : Summed k (points list) 0 (pos 0)
  summed_none = record {
    upto = omega arith;
    rest = sym (+ℤ_idl (sum (coordinate k) (points list)));
    small = record { low = record { le = tt }; high = record { le = tt } };
  }

  module _ (i : ℕ) (total : ℤ) (d : Summed k (points list) i total) where
    module _ (l : i < length (points list)) (z : ℤ) (e : z ≡ coordinate k (point (points list) i)) where
      next_small : Within (offset * (i + 1)) (total +ℤ z)
      next_small =
          let n : offset * i + offset ≡ offset * (i + 1) = omega arith in
          let r = all_place InRange (points list) h.range i l in
          subst (λ m. Within m (total +ℤ z)) n
          (within_sum (offset * i) offset d.small (subst (Within offset) (sym e) (coordinate_within k (point (points list) i) r)))

      pub summed_fits : SFits w32 (total +ℤ z)
      summed_fits = within_fits w32 (offset * (i + 1)) next_small (omega (arith, h.few))

      next_rest : sum (coordinate k) (points list) ≡ (total +ℤ z) +ℤ sum (coordinate k) (drop (i + 1) (points list))
      next_rest =
          d.rest
          ∙ ap (λ s. total +ℤ sum (coordinate k) s) (drop-cons (points list) i origin l ∙ ap (λ n. point (points list) i ∷ drop n (points list)) (sym (add-one i)))
          ∙ ap (λ w. total +ℤ (w +ℤ sum (coordinate k) (drop (i + 1) (points list)))) (sym e)
          ∙ sym (+ℤ_assoc total z (sum (coordinate k) (drop (i + 1) (points list))))

      pub summed_more : Summed k (points list) (i + 1) (to_z w32 (of_z w32 (total +ℤ z)))
      summed_more =
          subst (Summed k (points list) (i + 1)) (sym (read_back (total +ℤ z) summed_fits))
          record { upto = omega arith; rest = next_rest; small = next_small }

    pub summed_ends : length (points list) ≤ i → total ≡ sum (coordinate k) (points list)
    summed_ends l =
        sym (d.rest ∙ ap (λ s. total +ℤ sum (coordinate k) s) (drop_of_length-le (points list) {i = i} l) ∙ +ℤ_idr total)
