-- The first place with a fault among points of which one has it, found by halving. Assumes nothing.
use mathlib.Core.Path.{◌≡◌, sym, ◌∙◌, ap, subst}
use mathlib.Core.List.{List}
use Prim.Native.Nat.{ℕ, ◌+◌, ◌-◌, ◌≤◌, ◌<◌}
use native.Mathlib.Omega.{arith}
use lib.ListN.{length, take, drop, length-drop}
use lib.Seq.{length-take-le, get_or-take, get_or-drop}
use Rattle.lattice.specs.Point.{Point, origin, point, All}
use Rattle.lattice.proofs.Lists.{either}
use Rattle.lattice.proofs.Places.{lt_or_le, nowhere, all_place, place_all}
use Rattle.lattice.specs.Refusal.{AtPoint}
use Rattle.range.specs.First.{FirstBelow}

-- all points before `low` have P, and not all from there to `high`
pub record Halving (P : Point → Type 0) (l : List Point) (low high : ℕ) : Type 0 where
  pub some : low < high
  pub upto : high ≤ length l
  pub before : (j : ℕ) → j < low → P (point l j)
  pub fault : ((j : ℕ) → low ≤ j → j < high → P (point l j)) → ⊥

module _ (P : Point → Type 0) (l : List Point) where
  abbrev Upto : ℕ → ℕ → Type 0
  Upto low high = (j : ℕ) → low ≤ j → j < high → P (point l j)

  abbrev part : ℕ → ℕ → List Point
  part low high = take (high - low) (drop low l)

  pub halving_all : (All P l → ⊥) → Halving P l 0 (length l)
  halving_all f = record {
    some = either (lt_or_le 0 (length l)) (λ h. h) (λ h. absurd (f (place_all P l (λ j k. absurd (omega arith)))));
    upto = omega arith;
    before = λ j h. nowhere j h;
    fault = λ g. f (place_all P l (λ j k. g j (omega arith) k));
  }

  -- what a part tells
  part_length : (low high : ℕ) → high ≤ length l → length (part low high) ≡ high - low
  part_length low high h = length-take-le (high - low) (drop low l) (omega (arith, length-drop low l))

  part_at : (low high i : ℕ) → i < high - low → point (part low high) i ≡ point l (low + i)
  part_at low high i h = get_or-take (high - low) (drop low l) i origin h ∙ get_or-drop low l i origin

  part_passes : (low high : ℕ) → high ≤ length l → All P (part low high) → Upto low high
  part_passes low high h a j u v =
      let e : low + (j - low) ≡ j = omega arith in
      subst P (part_at low high (j - low) (omega arith) ∙ ap (point l) e)
      (all_place P (part low high) a (j - low) (omega (arith, part_length low high h)))

  passes_part : (low high : ℕ) → high ≤ length l → Upto low high → All P (part low high)
  passes_part low high h g =
      place_all P (part low high)
      (λ i k. let v : i < high - low = omega (arith, part_length low high h) in
      subst P (sym (part_at low high i v)) (g (low + i) (omega arith) (omega arith)))

  module _ (low high : ℕ) (d : Halving P l low high) where
    module _ (middle : ℕ) (u : low < middle) (v : middle < high) where
      within : middle ≤ length l
      within = omega (arith, d.upto)

      pub halving_later : All P (part low middle) → Halving P l middle high
      halving_later a = record {
        some = v;
        upto = d.upto;
        before = λ j h. either (lt_or_le j low) (d.before j) (λ k. part_passes low middle within a j k h);
        fault = λ g. d.fault (λ j k h. either (lt_or_le j middle) (λ m. part_passes low middle within a j k m) (λ m. g j m h));
      }

      pub halving_earlier : (All P (part low middle) → ⊥) → Halving P l low middle
      halving_earlier n = record {
        some = u;
        upto = within;
        before = d.before;
        fault = λ g. n (passes_part low middle within g);
      }

    pub halving_one : high ≤ low + 1 → FirstBelow (length l) (AtPoint (λ p. P p → ⊥) l) low
    halving_one u = record {
      upto = omega (arith, d.some, d.upto);
      earlier = λ j h k. k.1 (d.before j h);
      here = λ h. (h, λ p. d.fault (λ j k m. let e : low ≡ j = omega arith in subst (λ i. P (point l i)) e p));
    }
