-- The last corner in row order, found by halves. Assumes nothing.
use mathlib.Core.Path.{◌≡◌, ap}
use mathlib.Core.List.{List}
use Prim.Native.Nat.{ℕ, ◌+◌, ◌≤◌, ◌<◌}
use native.Mathlib.Omega.{arith}
use lib.ListN.{length, get_or}
use Rattle.lattice.proofs.Lists.{either}
use Rattle.lattice.proofs.Places.{lt_or_le, nowhere}
use Rattle.packed.specs.Corners.{Cornered}
use Rattle.packed.proofs.Corners.{no_dip}

-- no corner before `low` is later than that at `low`, none behind `high` than that at `high`
pub record Peaking (corners : List ℕ) (low high : ℕ) : Type 0 where
  pub rising : low ≤ high
  pub inside : high < length corners
  pub before : (j : ℕ) → j < low → get_or corners j 0 ≤ get_or corners low 0
  pub behind : (j : ℕ) → high < j → j < length corners → get_or corners j 0 ≤ get_or corners high 0

pub peaking_none : (corners : List ℕ) (high : ℕ) → high + 1 ≡ length corners → Peaking corners 0 high
peaking_none corners high e = record { rising = omega arith; inside = omega arith; before = λ j l. nowhere j l; behind = λ j l m. absurd (omega arith) }

module _ {corners : List ℕ} {low high : ℕ} (p : Peaking corners low high) where
  module _ (h : Cornered corners) (middle : ℕ) (from : low ≤ middle) (to : middle < high) where
    -- they rise here, so they have risen
    pub peaking_low : get_or corners middle 0 < get_or corners (middle + 1) 0 → Peaking corners (middle + 1) high
    peaking_low r = record {
      rising = omega arith;
      inside = p.inside;
      before = λ j l. either (lt_or_le (get_or corners (middle + 1) 0) (get_or corners j 0)) (λ a. absurd (not_before j l a)) (λ a. a);
      behind = p.behind;
    }
      where
        not_before : (j : ℕ) → j < middle + 1 → get_or corners (middle + 1) 0 < get_or corners j 0 → ⊥
        not_before j l a =
            either (lt_or_le j middle)
            (λ u. no_dip h j middle (middle + 1) u (omega arith) (omega (arith, p.inside)) (omega (arith, a)) (omega arith))
            (λ u. let e : j ≡ middle = omega arith in omega (arith, a, ap (λ n. get_or corners n 0) e))

    -- they fall here, so they fall on
    pub peaking_high : get_or corners (middle + 1) 0 ≤ get_or corners middle 0 → Peaking corners low middle
    peaking_high f = record {
      rising = from;
      inside = omega (arith, p.inside);
      before = p.before;
      behind = λ j l m. either (lt_or_le (get_or corners middle 0) (get_or corners j 0)) (λ a. absurd (not_behind j l m a)) (λ a. a);
    }
      where
        not_behind : (j : ℕ) → middle < j → j < length corners → get_or corners middle 0 < get_or corners j 0 → ⊥
        not_behind j l m a =
            either (lt_or_le (middle + 1) j)
            (λ u. no_dip h middle (middle + 1) j (omega arith) u m f (omega (arith, a)))
            (λ u. let e : j ≡ middle + 1 = omega arith in omega (arith, a, f, ap (λ n. get_or corners n 0) e))
