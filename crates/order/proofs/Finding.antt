-- What the ways out of `find` for an even list tell: the refusals 2 to 4, or its points in row order. Assumes nothing.
use mathlib.Core.Path.{◌≡◌, refl, sym, subst}
use mathlib.Core.Logic.{inl, inr}
use mathlib.Core.List.{List}
use Rattle.std.proofs.Common.{Some, None}
use Prim.Native.Nat.{ℕ, ◌≤◌, ◌<◌}
use native.Mathlib.Omega.{arith}
use lib.ListN.{length, take}
use lib.IntN.{ℤ}
use Rattle.lattice.specs.Point.{InRange, most, points, All}
use Rattle.lattice.specs.Refusal.{accepted, Gives, AtPoint, Repeats, Odd, OutOfRange, list_rows, ◌when◌else◌}
use Rattle.lattice.proofs.Refusals.{within_range}
use Rattle.lattice.proofs.Tables.{whole_first, whole_never, none_out_of_range}
use Rattle.packed.specs.Keys.{KeysOf}
use Rattle.range.specs.First.{FirstOutside}
use Rattle.range.proofs.Passing.{first_here, never_below}
use Rattle.arrange.specs.Arranging.{Arranges}
use Rattle.order.specs.Found.{Finds}

pub all_in_range : (list : List ℤ) (r : ℕ) → FirstOutside list r → length (points list) ≤ r → All InRange (points list)
all_in_range list r f l = within_range (points list) (never_below _ (AtPoint OutOfRange (points list)) r f (λ j p. p.0) l)

module _ (list : List ℤ) (keys : List ℕ) where
  module _ (even : Odd list → ⊥) where
    pub finds_many : most < length (points list) → Finds list (record { number = 2; place = 0; points = 0 }) keys
    finds_many many = record { gives = inr (whole_never even, inl (refl, whole_first many)); result = refl }

    module _ (few : length (points list) ≤ most) where
      -- what rows 3 and 4 give is what the table gives
      behind : (n i : ℕ) → Gives (3 when AtPoint OutOfRange (points list) else 4 when Repeats (points list) else accepted) n i
          → Gives (list_rows list accepted) n i
      behind n i g = inr (whole_never even, inr (whole_never (λ h. omega (arith, h, few)), g))

      pub finds_outside : (r : ℕ) → FirstOutside list r → r < length (points list) → Finds list (record { number = 3; place = r; points = 0 }) keys
      finds_outside r f h = record {
        gives = behind 3 r (inl (refl, first_here _ (AtPoint OutOfRange (points list)) r f h));
        result = refl;
      }

      module _ (range : All InRange (points list)) where
        inside : (j : ℕ) → AtPoint OutOfRange (points list) j → ⊥
        inside = none_out_of_range (points list) range

        pub finds_repeat : (r : ℕ) → Arranges (points list) (Some r) keys → Finds list (record { number = 4; place = r; points = 0 }) keys
        finds_repeat r first = record { gives = behind 4 r (inr (inside, inl (refl, first))); result = refl }

        pub finds_all : Arranges (points list) None keys → (n : ℕ) → n ≡ length (points list) → n ≤ length keys
            → Finds list (record { number = 0; place = 0; points = n }) keys
        finds_all stands n full wide = record {
          gives = behind 0 0 (inr (inside, inr (stands.apart, (refl, refl))));
          result = (full, wide, subst (λ m. KeysOf (points list) (take m keys)) (sym full) stands.order);
        }
