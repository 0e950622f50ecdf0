-- From what is looked at to refusals 2, 3 and 10, and to lists and points that pass. Assumes nothing.
use mathlib.Core.Path.{refl}
use mathlib.Core.Logic.{◌⊎◌, inl, inr}
use mathlib.Core.List.{List}
use Prim.Native.Nat.{ℕ, ◌≤◌, ◌<◌}
use native.Mathlib.Omega.{arith}
use lib.ListN.{length}
use lib.IntN.{ℤ}
use Rattle.lattice.specs.Point.{Point, most, points}
use Rattle.lattice.specs.Hull.{CornerList}
use Rattle.lattice.specs.Refusal.{Table, accepted, ◌when◌else◌, Gives, AtPoint, Strays, Odd, OutOfRange, Misplaced, rebuild_rows}
use Rattle.lattice.proofs.Tables.{whole_first, whole_never}
use Rattle.range.specs.First.{FirstBelow}
use Rattle.range.proofs.Passing.{first_here, never_below}
use Rattle.rebuild.specs.declared.Rebuilt.{Rebuilt}
use Rattle.rebuild.specs.Rebuild.{input_rows}
use Rattle.rebuild.specs.Looking.{Looks}

-- a number and a place, and no points
abbrev pub answer : ℕ → ℕ → Rebuilt
answer number place = record { number = number; place = place; points = 0 }

looks : {t : Table} {number place : ℕ} → Gives t number place → Looks t (answer number place)
looks g = record { gives = g; uncounted = refl }

-- ---- both lists
module _ (corners missing : List ℤ) where
  abbrev Input : ℕ → ℕ → Type 0
  Input number place = Looks (input_rows corners missing accepted) (answer number place)

  module _ (even : Odd corners ⊎ Odd missing → ⊥) where
    pub many_corners : most < length (points corners) → Input 2 0
    many_corners h = looks (inr (whole_never even, inl (refl, whole_first h)))

    module _ (few : length (points corners) ≤ most) (r : ℕ) (f : FirstBelow (length (points corners)) (AtPoint OutOfRange (points corners)) r) where
      behind : (n i : ℕ) → Gives (3 when AtPoint OutOfRange (points corners) else 3 when AtPoint OutOfRange (points missing) else accepted) n i → Input n i
      behind n i g = looks (inr (whole_never even, inr (whole_never (λ h. omega (arith, h, few)), g)))

      pub corner_outside : r < length (points corners) → Input 3 r
      corner_outside l = behind 3 r (inl (refl, first_here _ (AtPoint OutOfRange (points corners)) r f l))

      module _ (all : length (points corners) ≤ r) (t : ℕ) (g : FirstBelow (length (points missing)) (AtPoint OutOfRange (points missing)) t) where
        in_range : (j : ℕ) → AtPoint OutOfRange (points corners) j → ⊥
        in_range = never_below _ (AtPoint OutOfRange (points corners)) r f (λ j p. p.0) all

        pub point_outside : t < length (points missing) → Input 3 t
        point_outside l = behind 3 t (inr (in_range, inl (refl, first_here _ (AtPoint OutOfRange (points missing)) t g l)))

        pub lists_pass : length (points missing) ≤ t → Input 0 0
        lists_pass l =
            behind 0 0 (inr (in_range, inr (never_below _ (AtPoint OutOfRange (points missing)) t g (λ j p. p.0) l, (refl, refl))))

-- ---- corners and missing points
module _ (c m : List Point) where
  abbrev Shown : ℕ → ℕ → Type 0
  Shown number place = Looks (rebuild_rows c m accepted) (answer number place)

  module _ (listed : CornerList c c) (r : ℕ) (f : FirstBelow (length m) (Strays m) r) where
    module _ (all : length m ≤ r) (t : ℕ) (g : FirstBelow (length m) (AtPoint (Misplaced c) m) t) where
      behind_strays : (n i : ℕ) → Gives (10 when AtPoint (Misplaced c) m else accepted) n i → Shown n i
      behind_strays n i h = looks (inr (whole_never (λ k. k listed), inr (never_below _ (Strays m) r f (λ j p. p.0) all, h)))

      pub some_misplaced : t < length m → Shown 10 t
      some_misplaced l = behind_strays 10 t (inl (refl, first_here _ (AtPoint (Misplaced c) m) t g l))

      pub points_pass : length m ≤ t → Shown 0 0
      points_pass l = behind_strays 0 0 (inr (never_below _ (AtPoint (Misplaced c) m) t g (λ j p. p.0) l, (refl, refl)))
